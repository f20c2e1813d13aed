use Rattle.std.proofs.Common.{arith}
use Rattle.form.proofs.Laws.{adds_then, adds_same, number_is}
use Rattle.form.proofs.Page.number.Goals as goal

pub returns : goal.returns
returns c = adds_same (number_is _ _ _ c.args.n c.from.ensures c.decimal-k.ensures.digits c.decimal-k.ensures.len (omega arith)) (adds_then c.push.ensures c.text.ensures)
