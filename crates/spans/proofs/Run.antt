-- A run of bytes that pass, one byte further. Assumes nothing.
use mathlib.Core.Path.{◌≡◌, refl}
use mathlib.Core.Bool.{Bool, true, false, cond}
use mathlib.Core.List.{List, [], ◌∷◌}
use Prim.Native.Nat.{ℕ, suc, ◌+◌, ◌≤◌, ◌<◌}
use native.Mathlib.Numerals.{add-one}
use native.Mathlib.Omega.{arith}
use native.Mathlib.Nat.{le_refl}
use lib.ListN.{length, get_or, drop}
use lib.Seq.{drop-cons}
use Rattle.std.specs.List.{prefix_len}
use Rattle.spans.specs.Span.{run, count}

module _ (p : ℕ → Bool) (s : List ℕ) (j : ℕ) where
  step : j < length s → run p (drop j s) ≡ count (p (get_or s j 0)) (run p (drop (j + 1) s))
  step h = rw (add-one, drop-cons s j 0)

  -- a byte that passes
  pub run_more : j < length s → p (get_or s j 0) ≡ true → j + run p (drop j s) ≡ j + 1 + run p (drop (j + 1) s)
  run_more h e = rw (step h, e) (omega arith)

-- ---- a run is as long as std counts it
pub run_prefix : (p : ℕ → Bool) (s : List ℕ) → run p s ≡ prefix_len p s
run_prefix p [] = refl
run_prefix p (x ∷ s) = go (p x) (run_prefix p s)
  where
    go : (b : Bool) → run p s ≡ prefix_len p s → count b (run p s) ≡ cond b (1 + prefix_len p s) 0
    go true h = omega arith
    go false h = refl

-- ---- a run stays within the bytes
pub run_le : (p : ℕ → Bool) (s : List ℕ) → run p s ≤ length s
run_le p [] = le_refl 0
run_le p (x ∷ s) = go (p x) (run_le p s)
  where
    go : (b : Bool) → run p s ≤ length s → count b (run p s) ≤ suc (length s)
    go true h = omega arith
    go false h = omega arith
