-- A word of a record: of the record that was put, and of every other. Assumes nothing.
use mathlib.Core.Path.{◌≡◌, sym, ap, ◌∙◌, subst}
use mathlib.Core.List.{List, ◌++◌}
use mathlib.Core.Logic.{⊎_elim}
use Prim.Native.Nat.{ℕ, ◌+◌, ◌*◌, ◌-◌, ◌≤◌, ◌<◌}
use native.Mathlib.Omega.{arith, ne_cases}
use borrow.Author.Tests.{lt-ltb, le-ltb}
use lib.ListN.{length, get_or, take, drop, get_or-append, length-append}
use lib.Seq.{length-take-le, get_or-take, get_or-drop, get_or-append-add}
use Rattle.records.specs.Table.{room, put, field}
use Rattle.records.proofs.Rooms.{room_fits, room_length, apart, next_start, lt_or_le}
use Rattle.records.proofs.Put.{put_room, put_none, put_drop, put_length}

-- where there is such a record, and where there is none
pub field_room : (w k : ℕ) (t : List ℕ) (n : ℕ) → n < room w t → field w k t n ≡ get_or t (w * n + k) 0
unfolding field
field_room w k t n h = simp (lt-ltb _ _ h)

pub field_none : (w k : ℕ) (t : List ℕ) (n : ℕ) → room w t ≤ n → field w k t n ≡ 0
unfolding field
field_none w k t n h = simp (le-ltb _ _ h)

-- the same in two tables of one length that have the same word there
pub field_same : (w k : ℕ) (t u : List ℕ) (n : ℕ) → length t ≡ length u → get_or t (w * n + k) 0 ≡ get_or u (w * n + k) 0 → field w k t n ≡ field w k u n
unfolding field
field_same w k t u n e g = cc

module _ (w k : ℕ) (t : List ℕ) (n : ℕ) (ws : List ℕ) (long : length ws ≡ w) (k< : k < w) where
  -- of the record that was put
  pub field_put : n < room w t → field w k (put w t n ws) n ≡ get_or ws k 0
  field_put h =
      let f : w * n + w ≤ length t = room_fits w t n h in
      let a : length (take (w * n) t) ≡ w * n = length-take-le (w * n) t (omega arith) in
      let r : n < room w (put w t n ws) = subst (λ (m : ℕ). n < m) (room_length w t (put w t n ws) (sym (put_length w t n ws long))) h in
      field_room w k (put w t n ws) n r
      ∙ ap (λ (l : List ℕ). get_or l (w * n + k) 0) (put_room w t n ws h)
      ∙ get_or-append (take (w * n) t ++ ws) (drop (w * n + w) t) 0 (w * n + k) (omega (arith, length-append (take (w * n) t) ws))
      ∙ ap (λ (m : ℕ). get_or (take (w * n) t ++ ws) (m + k) 0) (sym a)
      ∙ get_or-append-add (take (w * n) t) ws k 0

  -- a word before the record, and one after it
  before : (j : ℕ) → n < room w t → j < w * n → get_or (put w t n ws) j 0 ≡ get_or t j 0
  before j h b =
      let f : w * n + w ≤ length t = room_fits w t n h in
      let a : length (take (w * n) t) ≡ w * n = length-take-le (w * n) t (omega arith) in
      ap (λ (l : List ℕ). get_or l j 0) (put_room w t n ws h)
      ∙ get_or-append (take (w * n) t ++ ws) (drop (w * n + w) t) 0 j (omega (arith, length-append (take (w * n) t) ws))
      ∙ get_or-append (take (w * n) t) ws 0 j (omega arith)
      ∙ get_or-take (w * n) t j 0 b

  after : (j : ℕ) → n < room w t → w * (n + 1) ≤ j → get_or (put w t n ws) j 0 ≡ get_or t j 0
  after j h b =
      let s = w * (n + 1) in
      let e : s + (j - s) ≡ j = omega arith in
      ap (λ (m : ℕ). get_or (put w t n ws) m 0) (sym e)
      ∙ sym (get_or-drop s (put w t n ws) (j - s) 0)
      ∙ ap (λ (l : List ℕ). get_or l (j - s) 0) (put_drop w t n ws long h)
      ∙ get_or-drop s t (j - s) 0
      ∙ ap (λ (m : ℕ). get_or t m 0) e

  -- so a word of any other record
  other : (i : ℕ) → n < room w t → (i ≡ n → ⊥) → get_or (put w t n ws) (w * i + k) 0 ≡ get_or t (w * i + k) 0
  other i h ne =
      ne_cases i n (get_or (put w t n ws) (w * i + k) 0 ≡ get_or t (w * i + k) 0) ne
      (λ b. before (w * i + k) h (omega (arith, apart w i n b)))
      (λ b. after (w * i + k) h (omega (arith, apart w n i b, next_start w n)))

  -- of every other record
  pub field_other : (i : ℕ) → (i ≡ n → ⊥) → field w k (put w t n ws) i ≡ field w k t i
  field_other i ne =
      ⊎_elim (λ h. field_same w k (put w t n ws) t i (put_length w t n ws long) (other i h ne))
      (λ h. ap (λ (l : List ℕ). field w k l i) (put_none w t n ws h))
      (lt_or_le n (room w t))
