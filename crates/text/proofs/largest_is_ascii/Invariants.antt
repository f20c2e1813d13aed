use Rattle.std.proofs.Common.{◌≡◌, ◌<◌, [], drop}
use Rattle.text.specs.Text.{is_text, text_from}
use Rattle.text.proofs.largest_is_ascii.Given as goal

abbrev pub invariant-loop-b : goal.invariant-loop-b
invariant-loop-b l = l.top < 0x80 → is_text l.s ≡ text_from (drop l.b-index l.s) []
