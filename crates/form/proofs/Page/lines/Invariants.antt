use Rattle.form.specs.Text.{Adds, lines_of}
use Rattle.form.proofs.Page.lines.Given as goal

abbrev pub invariant-loop-i : goal.invariant-loop-i
invariant-loop-i l = Adds (lines_of l.letter l.table l.width l.shown l.i) l.initial.self l.self
