use Rattle.form.proofs.Laws.{adds_nothing, adds_then, adds_same, fields_none, fields_more, line_is}
use Rattle.form.proofs.Page.line.Goals as goal

pub loop-k-init : goal.loop-k-init
loop-k-init c = adds_same (fields_none c.args.table.now c.args.from) (adds_nothing _)

pub loop-k-preserved : goal.loop-k-preserved
loop-k-preserved c =
    adds_same (fields_more c.args.table.now c.args.from c.args.shown.now c.loop-k.k-index _ c.loop-k-test.true c.word.ensures) (adds_then c.loop-k.invariant c.number.ensures)

pub returns : goal.returns
returns c =
    adds_same (line_is c.args.table.now c.args.letter c.args.from c.args.shown.now c.loop-k.k-index c.loop-k-test.false)
    (adds_then (adds_then c.push.ensures c.loop-k.invariant) c.push-2.ensures)
