use Rattle.std.proofs.Common.{◌≡◌, sym, ◌∙◌}
use Rattle.std.specs.Float.{binary64}
use Rattle.std.specs.Float.Ieee.{to_bits}
use Rattle.literal.proofs.Bits.{no_number}
use Rattle.literal.proofs.float_words.Goals.{then-is_nan, else-is_nan}
use Rattle.literal.proofs.float_words.Goals as goal

pub returns : goal.returns
returns c =
    let e : c.if-is_nan.bits ≡ to_bits binary64 c.args.x =
    elim c.if-is_nan.branch [ then-is_nan w ↦ w.bits-is ∙ sym (no_number c.args.x w.if-is_nan.ensures.value) | else-is_nan w ↦ w.bits-is ] in
    simp e
