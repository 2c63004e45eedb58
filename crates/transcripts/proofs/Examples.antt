use Rattle.std.proofs.Common.{refl}
use Rattle.std.specs.Fmt.{digits}
use Rattle.terms.specs.Meaning.{distance}
use Rattle.fields.specs.Bits.{field_of}
use Rattle.transcripts.specs.Transcripts.{transcript}
use Rattle.transcripts.specs.Talks.{WorkedTalk}

pub worked_talk : WorkedTalk
unfolding digits distance field_of transcript
worked_talk = record { example = refl; missing = λ input. refl }
