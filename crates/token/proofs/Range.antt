-- The kind of a name is Identifier's or a keyword's: 25, or 28 to 49. Assumes nothing.
use mathlib.Core.Bool.{Bool, true, false, ◌&&◌, cond}
use mathlib.Core.List.{List, [], ◌∷◌}
use Prim.Native.Nat.{ℕ, ◌≤◌}
use lib.Dec.{T, leb, leb→le, lit≤}
use lib.Ieee.Fits.{and_l, and_r}
use Rattle.token.specs.Keyword.{same, Entry, lookup, table, keyword_of}

-- a test of every row's kind
abbrev ranged : List Entry → Bool
ranged [] = true
ranged (k ∷ ks) = (leb 25 k.kind && leb k.kind 49) && ranged ks

range : (w : List ℕ) (ks : List Entry) → T (ranged ks) → (25 ≤ lookup w ks) × (lookup w ks ≤ 49)
range w [] t = (lit≤ tt, lit≤ tt)
range w (k ∷ ks) t = go (same w k.word) (range w ks (and_r (leb 25 k.kind && leb k.kind 49) (ranged ks) t))
  where
    here : T (leb 25 k.kind && leb k.kind 49)
    here = and_l (leb 25 k.kind && leb k.kind 49) (ranged ks) t

    go : (b : Bool) → (25 ≤ lookup w ks) × (lookup w ks ≤ 49) → (25 ≤ cond b k.kind (lookup w ks)) × (cond b k.kind (lookup w ks) ≤ 49)
    go true r = (leb→le 25 k.kind (and_l (leb 25 k.kind) (leb k.kind 49) here), leb→le k.kind 49 (and_r (leb 25 k.kind) (leb k.kind 49) here))
    go false r = r

pub kind_range : (w : List ℕ) → (25 ≤ keyword_of w) × (keyword_of w ≤ 49)
unfolding keyword_of
kind_range w = range w table tt
