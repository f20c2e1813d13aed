-- The table of the powers of ten: entry k is the float that holds 10^k. Assumes nothing.
use mathlib.Core.Path.{◌≡◌, sym, ap, ◌∙◌}
use mathlib.Core.List.{List, [], ◌∷◌}
use Prim.Native.Nat.{ℕ, zero, suc, ◌+◌, ◌^◌, ◌<◌}
use native.Mathlib.Nat.{add-zero, zero-add, add-suc, suc-add, le_of_suc-le-suc, not-suc-le-zero}
use lib.ListN.{get_or}
use lib.Ieee.{Float, nan}
use Rattle.literal.specs.Value.{whole}

-- the float that holds 10^k
abbrev pub ten_of : ℕ → Float
ten_of k = whole (10 ^ k)

-- the floats that hold 10^i, 10^(i+1), .., n of them
abbrev pub powers : ℕ → ℕ → List Float
powers i zero = []
powers i (suc n) = ten_of i ∷ powers (suc i) n

from : (n i k : ℕ) → k < n → get_or (powers i n) k nan ≡ ten_of (i + k)
from zero i k h = absurd (not-suc-le-zero h)
from (suc n) i zero h = rw add-zero
from (suc n) i (suc k) h = from n (suc i) k (le_of_suc-le-suc h) ∙ ap ten_of (suc-add i k ∙ sym (add-suc i k))

pub at : (n k : ℕ) → k < n → get_or (powers 0 n) k nan ≡ ten_of k
at n k h = from n 0 k h ∙ ap ten_of (zero-add k)
