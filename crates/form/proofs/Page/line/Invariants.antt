use Rattle.std.proofs.Common.{take}
use Rattle.form.specs.Text.{Adds, fields}
use Rattle.form.proofs.Page.line.Given as goal

abbrev pub invariant-loop-k : goal.invariant-loop-k
invariant-loop-k l = Adds (fields l.table l.from (take l.k-index l.shown)) l.initial.self l.self
