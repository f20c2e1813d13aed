-- Where there is room the words that the record writes are put there.
use Rattle.std.proofs.Common.{◌<◌, arith}
use Rattle.records.specs.Table.{room}
use Rattle.records.proofs.Put.{room_long, pushed, refused}
use Rattle.records.proofs.push.Goals as goal

pub returns-then-n-room : goal.returns-then-n-room
returns-then-n-room g c =
    let w = g.R.Record.WIDTH in
    let t = c.args.table.now in
    let h : c.args.n < room w t = omega arith in
    let long = room_long w t c.args.n c.WIDTH.result _ c.WIDTH.ensures (omega arith) h in
    pushed _ _ _ _ _ _ _ c.WIDTH.ensures (omega arith) (c.write.ensures.written long) h

pub returns : goal.returns
returns g c = refused _ _ _ _ (omega arith)
