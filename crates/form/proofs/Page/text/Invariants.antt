use Rattle.std.proofs.Common.{take}
use Rattle.form.specs.Text.{Adds}
use Rattle.form.proofs.Page.text.Given as goal

abbrev pub invariant-loop-byte : goal.invariant-loop-byte
invariant-loop-byte l = Adds (take l.byte-index l.s) l.initial.self l.self
