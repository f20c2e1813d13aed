-- Where two scripts are alike the first bytes of an item are the same byte, or two bytes of names. No test that lexing makes of the byte after an item tells these apart. Assumes nothing.
use mathlib.Core.Path.{◌≡◌, refl, sym, ap, ◌∙◌, subst}
use mathlib.Core.Logic.{◌⊎◌, inl, inr, ⊎_elim}
use mathlib.Core.Bool.{Bool, true, false, not, ◌&&◌, ◌||◌, cond}
use mathlib.Core.List.{List, [], ◌∷◌}
use Prim.Native.Nat.{ℕ, ◌≤◌, ◌<◌}
use native.Mathlib.Omega.{arith}
use borrow.Author.Tests.{le-leb, lt-leb, ne_eqb}
use lib.Dec.{T, leb, eqb, leb→le, eqb→eq}
use lib.Ieee.Fits.{and_l}
use Rattle.std.specs.Prelude.{Option, Some, None, Ok, Err}
use Rattle.spans.specs.declared.Class.TheVariants as classes
use Rattle.spans.specs.Span.{is_alpha, is_digit, is_inner, in_class}
use Rattle.rules.specs.Rules.{is_two, is_named}
use Rattle.strings.specs.Strings.{Ended, read_of, begun}
use Rattle.items.specs.declared.Sign.TheVariants.{Newline, Blank, Hash, Quote, Single, Pair, Illegal}
use Rattle.items.specs.declared.Item.{Item}
use Rattle.items.specs.declared.Item.TheVariants.{Mark, Wrong}
use Rattle.items.specs.Items.{Class, letter, digit, sign, sign_of, pick_class, class_of, pick_item, text_item, lone, pair_at, item_as, item_of, size_of, less}
use Rattle.blackout.specs.Blackout.{Place, comment, name, string, other, place_of, may_begin, alike_from}

-- ---- tests
pub is_true : (b : Bool) → T b → b ≡ true
is_true true t = refl
is_true false t = elim t [ ]

pub or_else : (a b : Bool) → T (a || b) → T a ⊎ T b
or_else true b t = inl tt
or_else false b t = inr t

-- a byte of a name is at least 65: no digit, no point, no =, no newline
name_from : (x : ℕ) → T (is_alpha x) → 65 ≤ x
name_from x t =
    ⊎_elim (λ h. omega (arith, leb→le 97 x (and_l (leb 97 x) (leb x 122) h)))
    (λ h. ⊎_elim (λ g. leb→le 65 x (and_l (leb 65 x) (leb x 90) g)) (λ g. omega (arith, eqb→eq x 95 g)) (or_else (leb 65 x && leb x 90) (eqb x 95) h))
    (or_else (leb 97 x && leb x 122) ((leb 65 x && leb x 90) || eqb x 95) t)

-- a test that does not tell two bytes of names apart
pub Steady : (ℕ → Bool) → Type 0
Steady p = (x y : ℕ) → T (is_alpha x) → T (is_alpha y) → p x ≡ p y

low_digit : (x : ℕ) → T (is_alpha x) → is_digit x ≡ false
low_digit x h = let g = name_from x h in simp (le-leb 48 x (omega arith), lt-leb x 57 (omega arith))

pub steady_digit : Steady is_digit
unfolding Steady
steady_digit x y h k = low_digit x h ∙ sym (low_digit y k)

-- a letter goes on with a name by every rule
named : (rule x : ℕ) → T (is_alpha x) → is_named rule x ≡ true
named rule x h = at (is_two rule)
  where
    at : (b : Bool) → in_class (cond b classes.Word classes.Name) x ≡ true
    at true = ap (λ (c : Bool). c || is_digit x) (is_true (is_alpha x) h)
    at false = is_true (is_alpha x) h

pub steady_name : (rule : ℕ) → Steady (is_named rule)
unfolding Steady
steady_name rule x y h k = named rule x h ∙ sym (named rule y k)

pub steady_is : (n : ℕ) → n < 65 → Steady (λ (x : ℕ). eqb x n)
unfolding Steady
steady_is n l x y h k =
    let f = name_from x h in
    let g = name_from y k in
    ne_eqb x n (λ e. omega arith) ∙ sym (ne_eqb y n (λ e. omega arith))

pub steady_inner : Steady is_inner
unfolding Steady
steady_inner x y h k = ap not (steady_is 10 (omega arith) x y h k)

-- ---- the first bytes of two items that are alike: the same byte, or two bytes of names
pub Near : ℕ → ℕ → Type 0
Near x y = (x ≡ y) ⊎ (T (is_alpha x) × T (is_alpha y))

pub near_same : (p : ℕ → Bool) → Steady p → (x y : ℕ) → Near x y → p x ≡ p y
unfolding Near Steady
near_same p h x y n = ⊎_elim (λ e. ap p e) (λ g. h x y g.0 g.1) n

abbrev pub is_letter : Class → Bool
is_letter letter = true
is_letter digit = false
is_letter (sign s) = false

pub letter_name : (x : ℕ) → class_of x ≡ letter → T (is_alpha x)
letter_name x e = go (is_alpha x) (is_digit x) e
  where
    go : (a b : Bool) → pick_class a letter (pick_class b digit (sign (sign_of x))) ≡ letter → T a
    go true b e = tt
    go false true e = subst (λ (c : Class). T (not (is_letter c))) e tt
    go false false e = subst (λ (c : Class). T (not (is_letter c))) e tt

-- what holds of the three items that a pair can be
pub pair_cases : (P : Item → Type 0) (k : Option ℕ) (l : ℕ) (s : List ℕ) → P (Wrong 1 1 0) → ((j : ℕ) → P (Mark j 1 0)) → P (Mark l 2 0) → P (pair_at k l s)
pair_cases P k l s w m n = at s
  where
    alone : (j : Option ℕ) → P (lone j)
    alone None = w
    alone (Some j) = m j

    two : (t : Bool) → P (pick_item t (Mark l 2 0) (lone k))
    two true = n
    two false = alone k

    at : (u : List ℕ) → P (pair_at k l u)
    at [] = alone k
    at (x ∷ u) = two (eqb x 61)

-- the first byte of an item stays, or becomes a letter
first : (p : Place) (n b c : ℕ) (r : List ℕ) → T (may_begin p n b c r) → (b ≡ c) ⊎ T (is_alpha c)
first comment n b c r h = inl (eqb→eq b c h)
first name n b c r h = inr (and_l (is_alpha c) _ h)
first (string e) n b c r h = inl (eqb→eq b c h)
first other n b c r h = inl (eqb→eq b c h)

-- ---- by the rule
module _ (rule : ℕ) where
  -- an item that is no name keeps its first byte
  pub begins : (z : Class) (b c : ℕ) (s r : List ℕ) → T (may_begin (place_of (item_as rule z b s)) (size_of (item_as rule z b s)) b c r) → (b ≡ c) ⊎ ((z ≡ letter) × T (is_alpha c))
  begins letter b c s r h = ⊎_elim (λ e. inl e) (λ a. inr (refl, a)) (first (place_of (item_as rule letter b s)) (size_of (item_as rule letter b s)) b c r h)
  begins digit b c s r h = inl (eqb→eq b c h)
  begins (sign Newline) b c s r h = inl (eqb→eq b c h)
  begins (sign Blank) b c s r h = inl (eqb→eq b c h)
  begins (sign Hash) b c s r h = inl (eqb→eq b c h)
  begins (sign Quote) b c s r h = inl (eqb→eq b c (go (read_of s begun) h))
    where
      go : (x : Ended) → T (may_begin (place_of (text_item x)) (size_of (text_item x)) b c r) → T (eqb b c)
      go (Ok x) h = h
      go (Err x) h = h
  begins (sign (Single k)) b c s r h = inl (eqb→eq b c h)
  begins (sign (Pair k l)) b c s r h = inl (eqb→eq b c (pair_cases (λ x. T (may_begin (place_of x) (size_of x) b c r) → T (eqb b c)) k l s (λ t. t) (λ j t. t) (λ t. t) h))
  begins (sign Illegal) b c s r h = inl (eqb→eq b c h)

  pub near : (p : Place) (b c : ℕ) (s r : List ℕ) → T (alike_from rule p (b ∷ s) (c ∷ r) 0) → Near b c
  unfolding Near
  near p b c s r h =
      ⊎_elim (λ e. inl e) (λ g. inr (letter_name b g.0, g.1))
      (begins (class_of b) b c s r (and_l (may_begin (place_of (item_of rule b s)) (size_of (item_of rule b s)) b c r) (alike_from rule (place_of (item_of rule b s)) s r (less (size_of (item_of rule b s)))) h))
