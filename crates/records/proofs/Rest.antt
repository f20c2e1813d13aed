-- A node linked to the next one, and the words past the last record set to 0. Assumes nothing.
use mathlib.Core.Path.{◌≡◌, refl, sym, ap, ◌∙◌}
use mathlib.Core.Bool.{Bool, true, false, cond, ◌&&◌}
use mathlib.Core.List.{List, [], ◌∷◌, ◌++◌, append-nil}
use mathlib.Core.Logic.{◌⊎◌, ⊎_elim}
use Prim.Native.Nat.{ℕ, ◌+◌, ◌*◌, ◌-◌, ◌≤◌, ◌<◌, min}
use native.Mathlib.Numerals.{add-one}
use native.Mathlib.Omega.{arith}
use borrow.Author.Tests.{le-leb, lt-leb}
use lib.Dec.{leb}
use lib.ListN.{length, get_or, take, drop, set, drop_of_length-le, length-drop, replicate, length-append, length-take, length-set, length-replicate, get_or-replicate}
use borrow.Rule.Slice.PartMut.{mid_of, put_mid}
use lib.Seq.{length-take-le, take_all, take-suc, take-suc-set, take_at, take-take, get_or-append-add}
use Rattle.std.proofs.lemmas.List.{take_min}
use Rattle.records.specs.Table.{node_width, room, linked, zeroed}
use Rattle.records.proofs.Rooms.{lt_or_le}

-- where r names a node, and where it names none
pub linked_room : (t : List ℕ) (r m : ℕ) → 1 ≤ r → r ≤ room node_width t → linked t r m ≡ set t (node_width * (r - 1) + 8) m
unfolding linked
linked_room t r m p h = simp (le-leb _ _ p, le-leb _ _ h)

pub linked_none : (t : List ℕ) (r m : ℕ) → (r ≡ 0) ⊎ (room node_width t < r) → linked t r m ≡ t
unfolding linked
linked_none t r m o =
    ⊎_elim (λ e. rw e)
    (λ h. let p : 1 ≤ r = omega arith in simp (le-leb 1 r p, lt-leb r (room node_width t) h))
    o

pub linked_length : (t : List ℕ) (r m : ℕ) → length (linked t r m) ≡ length t
unfolding linked
linked_length t r m = go (leb 1 r && leb r (room node_width t))
  where
    go : (b : Bool) → length (cond b (set t (node_width * (r - 1) + 8) m) t) ≡ length t
    go true = length-set t (node_width * (r - 1) + 8) m
    go false = refl

module _ (w : ℕ) (t : List ℕ) (n : ℕ) where
  -- the table is as long as it was, each word from record n on is 0, and those before are as they were
  pub zeroed_length : length (zeroed w t n) ≡ length t
  unfolding zeroed
  zeroed_length = simp (length-append, length-take, length-replicate) (omega arith)

  pub zeroed_word : (i : ℕ) → w * n ≤ i → i < length t → get_or (zeroed w t n) i 0 ≡ 0
  unfolding zeroed
  zeroed_word i p h =
      let a : length (take (w * n) t) ≡ w * n = length-take-le (w * n) t (omega arith) in
      let e : length (take (w * n) t) + (i - w * n) ≡ i = omega arith in
      ap (λ (j : ℕ). get_or (take (w * n) t ++ replicate (length t - w * n) 0) j 0) (sym e)
      ∙ get_or-append-add (take (w * n) t) (replicate (length t - w * n) 0) (i - w * n) 0
      ∙ get_or-replicate (length t - w * n) (i - w * n) 0 0 (omega arith)

  pub zeroed_take : take (w * n) (zeroed w t n) ≡ take (w * n) t
  unfolding zeroed
  zeroed_take =
      ⊎_elim
      (λ h. take_at (take (w * n) t) (replicate (length t - w * n) 0) (w * n) (length-take-le (w * n) t (omega arith)))
      (λ h. let z : length t - w * n ≡ 0 = omega arith in rw (z, append-nil (take (w * n) t)) (take-take (w * n) (w * n) t (omega arith)))
      (lt_or_le (w * n) (length t))

  -- zeros over the words from record n on, or over none where the table ends before it
  pub zero_filled : (at : ℕ) (u : List ℕ) → at ≡ min (w * n) (length t) → u ≡ replicate (length (mid_of at (length t - at) t)) 0 → put_mid at (length t - at) t u ≡ zeroed w t n
  unfolding zeroed
  zero_filled at u e g =
      let front : take at t ≡ take (w * n) t = ap (λ (i : ℕ). take i t) e ∙ take_min (w * n) t in
      let long : length (mid_of at (length t - at) t) ≡ length t - w * n = simp (length-take, length-drop) (omega arith) in
      let none : drop (length t - at) (drop at t) ≡ [] = drop_of_length-le (drop at t) (omega (arith, length-drop at t)) in
      rw (none, g, front, long, append-nil) refl

  -- a turn of a loop that zeroes word by word, where u is right up to word i; and its end
  pub zero_more : (u : List ℕ) (i : ℕ) → w * n ≤ i → i < length t → length u ≡ length t → take i u ≡ take i (zeroed w t n)
      → take (i + 1) (set u i 0) ≡ take (i + 1) (zeroed w t n)
  zero_more u i p h l e =
      let z : length (zeroed w t n) ≡ length t = zeroed_length in
      rw add-one
      (take-suc-set u i 0 (omega arith)
      ∙ ap (λ (x : List ℕ). x ++ (0 ∷ [])) e
      ∙ ap (λ (x : ℕ). take i (zeroed w t n) ++ (x ∷ [])) (sym (zeroed_word i p h))
      ∙ sym (take-suc (zeroed w t n) i 0 (omega arith)))

  pub zero_all : (u : List ℕ) (i : ℕ) → length t ≤ i → length u ≡ length t → take i u ≡ take i (zeroed w t n) → u ≡ zeroed w t n
  zero_all u i h l e =
      let z : length (zeroed w t n) ≡ length t = zeroed_length in
      sym (take_all i u (omega arith)) ∙ e ∙ take_all i (zeroed w t n) (omega arith)
