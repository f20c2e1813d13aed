use Rattle.std.proofs.Common.{◌≡◌, drop}
use Rattle.text.specs.Text.{is_text, text_from}
use Rattle.text.specs.Due.{columns_of}
use Rattle.text.proofs.is_text.Given as goal

abbrev pub invariant-loop-b : goal.invariant-loop-b
invariant-loop-b l = is_text l.s ≡ text_from (drop l.b-index l.s) (columns_of l.due)
