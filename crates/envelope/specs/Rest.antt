-- What a walk over the gaps has yet to tell.
use Rattle.std.specs.Prelude.{List, drop}
use Rattle.caps.specs.declared.Summit.{Summit}
use Rattle.envelope.specs.declared.gaps.Gaps.{Gaps}
use Rattle.envelope.specs.Walks.{summits_from}

-- the summits still to come
abbrev pub rest : Gaps → List Summit
rest g = summits_from g.seen.line g.seen.touches.now g.from (drop g.at g.seen.touches.now)
