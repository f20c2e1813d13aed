use Rattle.form.proofs.Laws.{adds_nothing, adds_then, adds_same, lines_none, lines_more}
use Rattle.form.proofs.Page.lines.Goals as goal

pub loop-i-init : goal.loop-i-init
loop-i-init c = adds_same (lines_none c.args.table.now c.args.letter c.args.width c.args.shown.now) (adds_nothing _)

pub loop-i-preserved : goal.loop-i-preserved
loop-i-preserved c =
    adds_same (lines_more c.args.table.now c.args.letter c.args.width c.args.shown.now c.loop-i.i) (adds_then c.loop-i.invariant c.line.ensures)
