-- Scripts that are alike have the same items: marks, names, and then all. Assumes nothing.
use mathlib.Core.Path.{◌≡◌, refl, sym, ap, ◌∙◌, subst}
use mathlib.Core.Logic.{◌⊎◌, ⊎_elim}
use mathlib.Core.Bool.{Bool, true, false, not}
use mathlib.Core.List.{List, [], ◌∷◌}
use Prim.Native.Nat.{ℕ, zero, suc}
use native.Mathlib.Omega.{arith}
use borrow.Author.Tests.{eqb-true}
use lib.Dec.{T, eqb, eqb→eq}
use lib.ListN.{take}
use lib.Ieee.Fits.{and_l, and_r}
use Rattle.std.specs.Prelude.{Option, Some, None}
use Rattle.token.specs.Keyword.{keyword_of}
use Rattle.spans.specs.Span.{is_alpha, is_digit, is_inner, run}
use Rattle.rules.specs.Rules.{is_named}
use Rattle.items.specs.declared.Sign.TheVariants.{Newline, Blank, Hash, Quote, Single, Pair, Illegal}
use Rattle.items.specs.declared.Item.{Item}
use Rattle.items.specs.declared.Item.TheVariants.{Comment, Name, Mark}
use Rattle.items.specs.Items.{Class, letter, digit, sign, sign_of, pick_class, class_of, pick_item, text_item, lone, pair_at, item_as, item_of, size_of, less, items}
use Rattle.blackout.specs.Blackout.{Place, comment, name, other, pick_place, place_of, next, may, may_begin, alike_from, alike}
use Rattle.blackout.proofs.Near.{is_true, is_letter, steady_is, steady_name, steady_inner, near_same, begins, near}
use Rattle.blackout.proofs.Runs.{run_open, run_kept, take_kept, number_same}
use Rattle.blackout.proofs.Strings.{text_same}

not_letter : (z : Class) (b c : ℕ) → T (not (is_letter z)) → (b ≡ c) ⊎ ((z ≡ letter) × T (is_alpha c)) → b ≡ c
not_letter z b c h x = ⊎_elim (λ e. e) (λ g. absurd (subst (λ (y : Class). T (not (is_letter y))) g.0 h)) x

-- ---- by the rule
module _ (rule : ℕ) where
  -- ---- marks
  pair_same : (k : Option ℕ) (l : ℕ) (s r : List ℕ) → T (alike_from rule (place_of (pair_at k l s)) s r (less (size_of (pair_at k l s)))) → pair_at k l s ≡ pair_at k l r
  pair_same k l [] [] h = refl
  pair_same k l [] (c ∷ r) h = absurd h
  pair_same k l (b ∷ s) [] h = absurd h
  pair_same k l (b ∷ s) (c ∷ r) h = ap (λ (t : Bool). pick_item t (Mark l 2 0) (lone k)) (go (eqb b 61) refl h)
    where
      alone : (j : Option ℕ) → T (alike_from rule (place_of (lone j)) (b ∷ s) (c ∷ r) (less (size_of (lone j)))) → T (alike_from rule other (b ∷ s) (c ∷ r) 0)
      alone None h = h
      alone (Some j) h = h

      go : (t : Bool) → eqb b 61 ≡ t → T (alike_from rule (place_of (pick_item t (Mark l 2 0) (lone k))) (b ∷ s) (c ∷ r) (less (size_of (pick_item t (Mark l 2 0) (lone k))))) → eqb b 61 ≡ eqb c 61
      go true e h = ap (λ (x : ℕ). eqb x 61) (eqb→eq b c (and_l (eqb b c) _ h))
      go false e h = near_same (λ (x : ℕ). eqb x 61) (steady_is 61 (omega arith)) b c (near rule other b c s r (alone k h))

  -- ---- an item
  kept_item : (z : Class) (b c : ℕ) (r : List ℕ) → class_of b ≡ z → b ≡ c → item_as rule z b r ≡ item_of rule c r
  kept_item z b c r e q = ap (λ (y : Class). item_as rule y b r) (sym e) ∙ ap (λ (x : ℕ). item_of rule x r) q

  -- a keyword is kept; any other name becomes one of the same length that is no keyword
  name_same : (b c : ℕ) (s r : List ℕ) → class_of b ≡ letter → (t : Bool) → eqb (keyword_of (b ∷ take (run (is_named rule) s) s)) 25 ≡ t
      → T (may_begin (pick_place t name other) (suc (run (is_named rule) s)) b c r) → T (alike_from rule (pick_place t name other) s r (run (is_named rule) s))
      → item_as rule letter b s ≡ item_of rule c r
  name_same b c s r e true k h g =
      let n : run (is_named rule) s ≡ run (is_named rule) r = run_open rule name (is_named rule) (steady_name rule) (λ x. refl) (λ x y t. t) s r g in
      let i : keyword_of (b ∷ take (run (is_named rule) s) s) ≡ 25 = eqb-true _ _ k in
      let j : keyword_of (c ∷ take (run (is_named rule) s) r) ≡ 25 = eqb→eq _ _ (and_r (is_alpha c) _ h) in
      let z : letter ≡ class_of c = sym (ap (λ (t : Bool). pick_class t letter (pick_class (is_digit c) digit (sign (sign_of c)))) (is_true (is_alpha c) (and_l (is_alpha c) _ h))) in
      ap (λ (x : ℕ). Name x (suc (run (is_named rule) s))) (i ∙ sym j)
      ∙ ap (λ (x : ℕ). Name (keyword_of (c ∷ take x r)) (suc x)) n
      ∙ ap (λ (y : Class). item_as rule y c r) z
  name_same b c s r e false k h g =
      let n : run (is_named rule) s ≡ run (is_named rule) r = run_kept rule (is_named rule) (steady_name rule) s r (run (is_named rule) s) (omega arith) g in
      ap (λ (l : List ℕ). Name (keyword_of (b ∷ l)) (suc (run (is_named rule) s))) (take_kept rule s r (run (is_named rule) s) g)
      ∙ ap (λ (x : ℕ). Name (keyword_of (b ∷ take x r)) (suc x)) n
      ∙ kept_item letter b c r e (eqb→eq b c h)

  item_as_lem : (z : Class) (b c : ℕ) (s r : List ℕ) → class_of b ≡ z → T (may_begin (place_of (item_as rule z b s)) (size_of (item_as rule z b s)) b c r) → T (alike_from rule (place_of (item_as rule z b s)) s r (less (size_of (item_as rule z b s)))) → item_as rule z b s ≡ item_of rule c r
  item_as_lem letter b c s r e h g = name_same b c s r e (eqb (keyword_of (b ∷ take (run (is_named rule) s) s)) 25) refl h g
  item_as_lem digit b c s r e h g = number_same rule b s r g ∙ kept_item digit b c r e (eqb→eq b c h)
  item_as_lem (sign Newline) b c s r e h g = kept_item (sign Newline) b c r e (eqb→eq b c h)
  item_as_lem (sign Blank) b c s r e h g = kept_item (sign Blank) b c r e (eqb→eq b c h)
  item_as_lem (sign Hash) b c s r e h g =
      ap (λ (n : ℕ). Comment (suc n)) (run_open rule comment is_inner steady_inner (λ x. refl) (λ x y t. t) s r g) ∙ kept_item (sign Hash) b c r e (eqb→eq b c h)
  item_as_lem (sign Quote) b c s r e h g =
      ap text_item (text_same rule s r g) ∙ kept_item (sign Quote) b c r e (not_letter (sign Quote) b c tt (begins rule (sign Quote) b c s r h))
  item_as_lem (sign (Single k)) b c s r e h g = kept_item (sign (Single k)) b c r e (eqb→eq b c h)
  item_as_lem (sign (Pair k l)) b c s r e h g =
      pair_same k l s r g ∙ kept_item (sign (Pair k l)) b c r e (not_letter (sign (Pair k l)) b c tt (begins rule (sign (Pair k l)) b c s r h))
  item_as_lem (sign Illegal) b c s r e h g = kept_item (sign Illegal) b c r e (eqb→eq b c h)

  pub item_same : (b c : ℕ) (s r : List ℕ) → T (may_begin (place_of (item_of rule b s)) (size_of (item_of rule b s)) b c r) → T (alike_from rule (place_of (item_of rule b s)) s r (less (size_of (item_of rule b s)))) → item_of rule b s ≡ item_of rule c r
  item_same b c s r h g = item_as_lem (class_of b) b c s r refl h g

  pub items_same : (p : Place) (s r : List ℕ) (k : ℕ) → T (alike_from rule p s r k) → items rule s k ≡ items rule r k
  items_same p [] [] k h = refl
  items_same p [] (c ∷ r) k h = absurd h
  items_same p (b ∷ s) [] k h = absurd h
  items_same p (b ∷ s) (c ∷ r) zero h =
      let f : T (may_begin (place_of (item_of rule b s)) (size_of (item_of rule b s)) b c r) = and_l (may_begin (place_of (item_of rule b s)) (size_of (item_of rule b s)) b c r) (alike_from rule (place_of (item_of rule b s)) s r (less (size_of (item_of rule b s)))) h in
      let g : T (alike_from rule (place_of (item_of rule b s)) s r (less (size_of (item_of rule b s)))) = and_r (may_begin (place_of (item_of rule b s)) (size_of (item_of rule b s)) b c r) _ h in
      ap (λ (l : List Item). item_of rule b s ∷ l) (items_same (place_of (item_of rule b s)) s r (less (size_of (item_of rule b s))) g)
      ∙ ap (λ (x : Item). x ∷ items rule r (less (size_of x))) (item_same b c s r f g)
  items_same p (b ∷ s) (c ∷ r) (suc k) h = items_same (next p b) s r k (and_r (may rule p b c) _ h)

  -- the same items: all that the bytes give
  pub items_alike : (s r : List ℕ) → T (alike rule s r) → items rule s 0 ≡ items rule r 0
  unfolding alike
  items_alike s r h = items_same other s r 0 h
