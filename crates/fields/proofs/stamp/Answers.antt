use Rattle.std.proofs.Common.{◌≡◌, ℕ, ◌+◌, ◌-◌, ◌*◌, ◌/◌, ◌%◌, ◌^◌, ◌<◌, arith, rules}
use Rattle.std.proofs.lemmas.Nat.{shl_whole}
use Rattle.fields.specs.Bits.{stamped}
use Rattle.fields.proofs.Puts.{stamped_high, stamped_small}
use Rattle.fields.proofs.stamp.Goals as goal

shifted : (b o v : ℕ) → b < 256 → o < 8 → v < 2 → (b / 2 ^ (8 - o) * 2 + v) * 2 ^ (7 - o) % 2 ^ 32 ≡ stamped b o v
unfolding stamped
shifted b o v lb lo lv = shl_whole (b / 2 ^ (8 - o) * 2 + v) (o + 1) (7 - o) 32 (stamped_high b o v lo lv lb) (omega arith)

pub overflow_cast-result-2 : goal.overflow_cast-result-2
overflow_cast-result-2 c =
    let b : ℕ = c.args.byte in
    let t = stamped_small b c.args.place c.args.one (omega arith) (omega arith) (search rules) in
    simp (c.from.ensures, shifted b c.args.place c.args.one (search rules) (omega arith) (omega arith)) (record { fits = t })

pub returns : goal.returns
returns c =
    let e : c.from.result ≡ c.args.byte = c.from.ensures in
    simp e (shifted c.args.byte c.args.place c.args.one (search rules) (omega arith) (omega arith))
