-- A number put together from its digits, the point and the digits after it: the ways in which reading it ends. Assumes nothing.
use mathlib.Core.Path.{◌≡◌, refl, sym, ap, ◌∙◌}
use mathlib.Core.Bool.{Bool, true, false, cond, ◌&&◌}
use mathlib.Core.List.{List, [], ◌∷◌, ◌++◌}
use Prim.Native.Nat.{ℕ, suc, ◌+◌, ◌-◌, ◌≤◌, ◌<◌}
use native.Mathlib.Nat.{zero-add, le_refl}
use native.Mathlib.Numerals.{add-one}
use native.Mathlib.Omega.{arith}
use borrow.Author.Tests.{eqb-true, eqb-false, eq-eqb, ne_eqb, lt-ltb}
use lib.Dec.{eqb, ltb}
use lib.ListN.{length, get_or, take, drop, length-drop}
use lib.Seq.{drop-cons, drop-drop, take-add}
use Rattle.spans.specs.Span.{is_digit, run}
use Rattle.spans.proofs.Run.{run_le}
use Rattle.numbers.specs.declared.Numeral.{Numeral}
use Rattle.numbers.specs.Number.{front, point_size, pointed, number_size, whole_of, capped, number_of, number_at}
use Rattle.numbers.proofs.Whole.{cap_whole, whole_append}

-- two numerals of the same parts
alike : {n n' w w' k k' : ℕ} {c c' : Bool} → n ≡ n' → c ≡ c' → w ≡ w' → k ≡ k'
    → ◌≡◌ {A = Numeral} (record { size = n; cut = c; whole = w; places = k }) (record { size = n'; cut = c'; whole = w'; places = k' })
alike e f g h = cc

-- equal at one distance and at another
shift : (a b x y : ℕ) → (a ≡ b → x ≡ y) → (x ≡ y → a ≡ b) → eqb a b ≡ eqb x y
shift a b x y f g = go (eqb x y) refl
  where
    go : (t : Bool) → eqb x y ≡ t → eqb a b ≡ t
    go true e = eq-eqb a b (g (eqb-true x y e))
    go false e = ne_eqb a b (λ h. eqb-false x y e (f h))

module _ (s : List ℕ) (start p d m : ℕ) (h : start < length s) (so : d ≡ cond (is_digit (get_or s start 0)) (get_or s start 0 - 48) 0)
    (to : p ≡ start + 1 + run is_digit (drop (start + 1) s)) (then : m ≡ capped (whole_of (front (drop (start + 1) s)) d)) where
  abbrev t : List ℕ
  t = drop (start + 1) s

  abbrev a : ℕ
  a = run is_digit t

  -- the first byte, and what stands after it
  at : number_at (drop start s) ≡ number_of (get_or s start 0) t
  at = let e : drop start s ≡ get_or s start 0 ∷ t = rw (add-one, drop-cons s start 0) in ap number_at e

  -- what stands past the digits
  past : drop a t ≡ drop p s
  past = drop-drop a (start + 1) s ∙ ap (λ (i : ℕ). drop i s) (sym to)

  -- the first digit is the number so far
  begun : (w : List ℕ) → whole_of (get_or s start 0 ∷ w) 0 ≡ whole_of w d
  begun w = ap (λ (x : ℕ). whole_of w (cond (is_digit (get_or s start 0)) x 0)) (zero-add (get_or s start 0 - 48)) ∙ ap (whole_of w) (sym so)

  -- a point follows, and q digits after it
  module _ (l : p < length s) (point : get_or s p 0 ≡ 46) (end w : ℕ) (on : end ≡ p + 1 + run is_digit (drop (p + 1) s))
      (last : w ≡ capped (whole_of (front (drop (p + 1) s)) m)) where
    abbrev u : List ℕ
    u = drop (p + 1) s

    abbrev q : ℕ
    q = run is_digit u

    behind : drop a t ≡ 46 ∷ u
    behind = past ∙ rw (add-one, drop-cons s p 0, point)

    size_is : pointed t ≡ suc q
    size_is = ap point_size behind

    bytes : take (number_size t) t ≡ front t ++ (46 ∷ front u)
    bytes = ap (λ (i : ℕ). take (a + i) t) size_is ∙ take-add a (suc q) t ∙ ap (λ (r : List ℕ). front t ++ take (suc q) r) behind

    joined : w ≡ capped (whole_of (get_or s start 0 ∷ take (number_size t) t) 0)
    joined =
        last
        ∙ ap (λ (x : ℕ). capped (whole_of (front u) x)) then
        ∙ cap_whole (front u) (whole_of (front t) d)
        ∙ ap capped (sym (begun (take (number_size t) t) ∙ ap (λ (r : List ℕ). whole_of r d) bytes ∙ whole_append (front t) (46 ∷ front u) d))

    ends : eqb end (length s) ≡ (ltb 0 (pointed t) && eqb (number_size t) (length t))
    ends =
        let n : length t ≡ length s - (start + 1) = length-drop (start + 1) s in
        let e : eqb end (length s) ≡ eqb (a + suc q) (length t) = shift end (length s) (a + suc q) (length t) (λ x. omega arith) (λ x. omega arith) in
        e
        ∙ ap (λ (b : Bool). b && eqb (a + suc q) (length t)) (sym (lt-ltb 0 (suc q) (omega arith)))
        ∙ ap (λ (i : ℕ). ltb 0 i && eqb (a + i) (length t)) (sym size_is)

    pub dotted : record { size = end - start; cut = eqb end (length s); whole = w; places = end - (p + 1) } ≡ number_at (drop start s)
    dotted =
        let n : number_size t ≡ a + suc q = ap (λ (i : ℕ). a + i) size_is in
        let k : pointed t ≡ suc q = size_is in
        alike (omega arith) ends joined (omega arith) ∙ sym at

-- ---- a number lies within the source
point_le : (s : List ℕ) → point_size s ≤ length s
point_le [] = le_refl 0
point_le (x ∷ r) = go (eqb x 46)
  where
    go : (b : Bool) → cond b (suc (run is_digit r)) 0 ≤ suc (length r)
    go true = omega (arith, run_le is_digit r)
    go false = omega arith

pub number_le : (s : List ℕ) → number_size s ≤ length s
number_le s =
    omega (arith, run_le is_digit s, point_le (drop (run is_digit s) s), length-drop (run is_digit s) s)
