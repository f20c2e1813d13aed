-- What a push leaves: the record, and everything else as it was; nothing where there is no room. Assumes nothing.
use mathlib.Core.Path.{◌≡◌, sym, ap, ◌∙◌}
use mathlib.Core.Bool.{true, false}
use mathlib.Core.List.{List, ◌∷◌, ◌++◌, append_assoc}
use mathlib.Core.Logic.{⊎_elim}
use Prim.Native.Nat.{ℕ, suc, ◌+◌, ◌*◌, ◌≤◌, ◌<◌}
use native.Mathlib.Omega.{arith}
use borrow.Author.Tests.{lt-ltb, le-ltb}
use lib.ListN.{length, take, drop, set, length-append, length-take, length-drop}
use borrow.Rule.Slice.PartMut.{mid_of, put_mid}
use lib.Seq.{length-take-le, take_at, drop_at, drop-drop}
use Rattle.records.specs.Table.{room, put, Pushed}
use Rattle.records.proofs.Stores.{stores, stored}
use Rattle.records.proofs.Rooms.{room_fits, next_start, lt_or_le}

-- where there is room, and where there is none
pub put_room : (w : ℕ) (t : List ℕ) (n : ℕ) (ws : List ℕ) → n < room w t → put w t n ws ≡ take (w * n) t ++ ws ++ drop (w * n + w) t
unfolding put
put_room w t n ws h = simp (lt-ltb _ _ h)

pub put_none : (w : ℕ) (t : List ℕ) (n : ℕ) (ws : List ℕ) → room w t ≤ n → put w t n ws ≡ t
unfolding put
put_none w t n ws h = simp (le-ltb _ _ h)

-- the record stands after those before it, and what follows it is as it was
module _ (w : ℕ) (t : List ℕ) (n : ℕ) (ws : List ℕ) (long : length ws ≡ w) (h : n < room w t) where
  head : length (take (w * n) t ++ ws) ≡ w * n + w
  head =
      let f : w * n + w ≤ length t = room_fits w t n h in
      let e : length (take (w * n) t) ≡ w * n = length-take-le (w * n) t (omega arith) in
      length-append (take (w * n) t) ws ∙ omega arith

  pub put_take : take (w * (n + 1)) (put w t n ws) ≡ take (w * n) t ++ ws
  put_take = rw (next_start w n, put_room w t n ws h) (take_at (take (w * n) t ++ ws) (drop (w * n + w) t) (w * n + w) head)

  pub put_drop : drop (w * (n + 1)) (put w t n ws) ≡ drop (w * (n + 1)) t
  put_drop = rw (next_start w n, put_room w t n ws h) (drop_at (take (w * n) t ++ ws) (drop (w * n + w) t) (w * n + w) head)

  kept : length (put w t n ws) ≡ length t
  kept =
      let f : w * n + w ≤ length t = room_fits w t n h in
      let e : length (take (w * n) t ++ ws) ≡ w * n + w = head in
      ap length (put_room w t n ws h)
      ∙ length-append (take (w * n) t ++ ws) (drop (w * n + w) t)
      ∙ omega (arith, length-drop (w * n + w) t)

-- with room or none, the table is as long as it was
pub put_length : (w : ℕ) (t : List ℕ) (n : ℕ) (ws : List ℕ) → length ws ≡ w → length (put w t n ws) ≡ length t
put_length w t n ws long =
    ⊎_elim (λ h. kept w t n ws long h) (λ h. ap length (put_none w t n ws h)) (lt_or_le n (room w t))

-- where there is room, as many words stand there as a record has
pub room_long : (w : ℕ) (t : List ℕ) (n v k : ℕ) → v ≡ w → k ≡ w → n < room w t → length (mid_of (v * n) k t) ≡ w
room_long w t n v k e f h =
    let g : w * n + w ≤ length t = room_fits w t n h in
    rw (e, f) (simp (length-take, length-drop) (omega arith))

-- a push that writes its words over those that stand there, where there is room
pub pushed : (w : ℕ) (t : List ℕ) (n : ℕ) (ws us : List ℕ) (v k : ℕ) → v ≡ w → k ≡ w → us ≡ ws → n < room w t
    → Pushed w t n ws true (put_mid (v * n) k t us)
pushed w t n ws us v k e f g h = record {
  answer = sym (lt-ltb _ _ h);
  table = rw (e, f, g, put_room w t n ws h, drop-drop w (w * n) t) (sym (append_assoc (take (w * n) t) ws (drop (w * n + w) t)));
}

-- a push that stores its words one after another, where there is room
pub pushed_in_turn : (t : List ℕ) (n a : ℕ) (vs : List ℕ) → n < room (suc (length vs)) t
    → Pushed (suc (length vs)) t n (a ∷ vs) true (stores (set t (suc (length vs) * n) a) (suc (length vs) * n) 1 vs)
pushed_in_turn t n a vs h = record {
  answer = sym (lt-ltb _ _ h);
  table = stored t (suc (length vs) * n) a vs (room_fits (suc (length vs)) t n h) ∙ sym (put_room (suc (length vs)) t n (a ∷ vs) h);
}

-- a push that stores nothing, where there is none
pub refused : (w : ℕ) (t : List ℕ) (n : ℕ) (ws : List ℕ) → room w t ≤ n → Pushed w t n ws false t
refused w t n ws h = record { answer = sym (le-ltb _ _ h); table = sym (put_none w t n ws h) }
