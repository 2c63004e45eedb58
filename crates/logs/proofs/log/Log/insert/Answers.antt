use Rattle.std.proofs.Common.{◌∙◌, arith}
use Rattle.logs.proofs.Tables.{count_below, sound_then}
use Rattle.logs.proofs.log.Log.insert.Goals as goal

pub invariant_of-self : goal.invariant_of-self
invariant_of-self c =
    let l = c.args.self.now in
    let u = c.args.touch in
    let n = c.put_in.new.self in
    let put = c.put_in.ensures in
    let below = count_below l c.requires.room in
    let room = l.room in
    record {
      within = omega (arith, put.count, put.limit);
      room = omega (arith, put.limit);
      long = put.long ∙ l.long;
      sound = sound_then l u n put c.requires.room c.requires.free c.requires.height;
    }
