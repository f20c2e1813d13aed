-- The cap does not change a number's value. Assumes nothing.
use mathlib.Core.Path.{◌≡◌, sym, ap, ◌∙◌}
use mathlib.Core.Logic.{⊎_elim}
use Prim.Native.Nat.{ℕ, ◌^◌, ◌<◌}
use native.Mathlib.Omega.{arith}
use borrow.Author.Tests.{lt-leb}
use Rattle.literal.specs.Value.{value_of}
use Rattle.literal.specs.declared.Span.{Span}
use Rattle.literal.specs.declared.Literal.TheVariants.{Long}
use Rattle.numbers.specs.Number.{capped}
use Rattle.numbers.proofs.Whole.{side, within, over}

long : (x k : ℕ) (span : Span) → 2 ^ 53 < x → value_of x k span ≡ Long span
long x k span h = simp (lt-leb _ _ h)

pub value_cap : (x k : ℕ) (span : Span) → value_of (capped x) k span ≡ value_of x k span
value_cap x k span =
    ⊎_elim (λ h. ap (λ (y : ℕ). value_of y k span) (within x h))
    (λ h. let e = over x h in long (capped x) k span (omega arith) ∙ sym (long x k span h)) (side x)
