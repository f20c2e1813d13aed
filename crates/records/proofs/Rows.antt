-- Words that are whole records: how many, and which record stands where. Assumes nothing.
use mathlib.Core.Path.{◌≡◌, sym, ap, ◌∙◌}
use mathlib.Core.List.{List, ◌++◌}
use mathlib.Core.Logic.{⊎_elim}
use Prim.Native.Nat.{ℕ, ◌+◌, ◌*◌, ◌<◌}
use native.Mathlib.Nat.{mul-zero}
use native.Mathlib.Omega.{arith}
use lib.ListN.{length, get_or, length-append, get_or-append}
use lib.Seq.{get_or-append-add}
use Rattle.records.specs.Rows.{Rows, none, more}
use Rattle.records.proofs.Rooms.{next_start, apart, lt_or_le}

module _ {D : Type 0} (words : D → List ℕ) (P : D → Type 0) (w : ℕ) (wide : (d : D) → length (words d) ≡ w) where
  -- n records of w words have w * n words
  pub rows_length : (ws : List ℕ) (n : ℕ) → Rows words P ws n → length ws ≡ w * n
  rows_length _ _ none = sym (mul-zero w)
  rows_length _ _ (more {ws} {n} r d p) =
      length-append ws (words d) ∙ (let a = rows_length ws n r in let b = wide d in let c = next_start w n in omega arith)

  -- the record with the number i, and its words
  abbrev pub RowAt : List ℕ → ℕ → Type 0
  RowAt ws i = (d : D) × P d × ((k : ℕ) → k < w → get_or ws (w * i + k) 0 ≡ get_or (words d) k 0)

  pub row_at : (ws : List ℕ) (n : ℕ) → Rows words P ws n → (i : ℕ) → i < n → RowAt ws i
  row_at _ _ none i h = absurd (omega arith)
  row_at _ _ (more {ws} {n} r d p) i h =
      ⊎_elim
      (λ l.
      let x = row_at ws n r i l in (
        x.0,
        x.1,
        λ k b. get_or-append ws (words d) 0 (w * i + k) (let a = rows_length ws n r in let c = apart w i n l in omega arith) ∙ x.2 k b,
      ))
      (λ l.
      let e : i ≡ n = omega arith in (
        d,
        p,
        λ k b. ap (λ (m : ℕ). get_or (ws ++ words d) (w * m + k) 0) e ∙ ap (λ (m : ℕ). get_or (ws ++ words d) (m + k) 0) (sym (rows_length ws n r)) ∙ get_or-append-add ws (words d) k 0,
      ))
      (lt_or_le i n)
