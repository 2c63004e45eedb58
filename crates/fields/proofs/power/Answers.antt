use Rattle.std.proofs.Common.{◌^◌, ◌≤◌, arith, pow_mono, w32}
use Rattle.std.proofs.lemmas.Nat.{one_shl}
use Rattle.std.proofs.lemmas.Int.{to_z_pos}
use Rattle.fields.proofs.power.Goals as goal

pub returns : goal.returns
returns c =
    let l : c.args.width ≤ 17 = omega arith in
    let p : 2 ^ c.args.width ≤ 131072 = pow_mono l in
    (simp (one_shl c.args.width 32 (omega arith)) (to_z_pos w32 (2 ^ c.args.width) (omega arith)), p)
