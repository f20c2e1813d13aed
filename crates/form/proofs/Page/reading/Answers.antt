use Rattle.form.proofs.Laws.{adds_then, adds_same}
use Rattle.form.proofs.Whole.{text_is}
use Rattle.form.proofs.Page.reading.Goals as goal

pub returns : goal.returns
returns c = λ X.
    adds_same (text_is c.args.r c.args.tokens.now c.args.errors.now c.args.nodes.now X)
    (adds_then (adds_then (adds_then c.head.ensures c.lines.ensures) c.lines-2.ensures) c.lines-3.ensures)
