-- A record lies within its table exactly where its number is below the room. Assumes nothing.
use mathlib.Core.Path.{◌≡◌, refl, ap}
use mathlib.Core.Bool.{Bool, true, false}
use mathlib.Core.List.{List}
use mathlib.Core.Logic.{◌⊎◌, inl, inr}
use Prim.Native.Nat.{ℕ, suc, ◌+◌, ◌*◌, ◌/◌, ◌≤◌, ◌<◌, min}
use native.Mathlib.Nat.{le_trans, le-min, min-le_left, mul-suc, mul_comm, mul-le-mul_left, mul-div-le, le-div_iff_mul-le}
use native.Mathlib.Numerals.{add-one}
use borrow.Author.Tests.{ltb-true, ltb-false}
use lib.Dec.{ltb}
use lib.ListN.{length}
use Rattle.records.specs.Table.{room}

-- a record below the room lies within the table
pub room_fits : (w : ℕ) (t : List ℕ) (n : ℕ) → n < room w t → w * n + w ≤ length t
room_fits w t n h =
    rw (mul-suc w n) at (le_trans (mul-le-mul_left w (le_trans h (min-le_left (length t / w) 4294967295))) (mul-div-le (length t) w))

-- and a record that lies within the table, and that a reference can name, is below the room
pub fits_room : (w : ℕ) (t : List ℕ) (n : ℕ) → 0 < w → n < 4294967295 → w * n + w ≤ length t → n < room w t
fits_room w t n p h f = le-min ((le-div_iff_mul-le p).1 (rw (mul_comm (suc n) w, mul-suc w n) f)) h

-- tables of one length have one room
pub room_length : (w : ℕ) (t u : List ℕ) → length t ≡ length u → room w t ≡ room w u
room_length w t u e = ap (λ (k : ℕ). min (k / w) 4294967295) e

-- a record ends no later than a later one starts, and the next one starts where it ends
pub apart : (w i n : ℕ) → i < n → w * i + w ≤ w * n
apart w i n h = rw (mul-suc w i) at (mul-le-mul_left w h)

pub next_start : (w n : ℕ) → w * (n + 1) ≡ w * n + w
next_start w n = rw (add-one, mul-suc)

-- a number is below a bound, or it is not
pub lt_or_le : (n m : ℕ) → (n < m) ⊎ (m ≤ n)
lt_or_le n m = go (ltb n m) refl
  where
    go : (b : Bool) → ltb n m ≡ b → (n < m) ⊎ (m ≤ n)
    go true e = inl (ltb-true n m e)
    go false e = inr (ltb-false n m e)
