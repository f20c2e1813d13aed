-- Where two scripts are alike the runs of names, digits and comments are equally long, and a number is the same. Assumes nothing.
use mathlib.Core.Path.{◌≡◌, refl, sym, ap, ◌∙◌, subst}
use mathlib.Core.Bool.{Bool, true, false, cond}
use mathlib.Core.List.{List, [], ◌∷◌}
use Prim.Native.Nat.{ℕ, zero, suc, ◌+◌, ◌≤◌}
use native.Mathlib.Nat.{le_of_suc-le-suc, not-suc-le-zero}
use native.Mathlib.Omega.{arith}
use lib.Dec.{T, eqb, eqb→eq}
use lib.ListN.{length, take, drop}
use lib.Ieee.Fits.{and_l, and_r}
use Rattle.spans.specs.Span.{is_digit, count, run}
use Rattle.numbers.specs.Number.{point_size, number_size}
use Rattle.items.specs.Items.{digit, item_as, item_of, size_of, less}
use Rattle.blackout.specs.Blackout.{Place, other, place_of, next, may, may_begin, alike_from}
use Rattle.blackout.proofs.Near.{is_true, Steady, steady_digit, steady_is, near_same, near}

-- ---- by the rule
module _ (rule : ℕ) where
  -- ---- lengths and runs
  pub alike_length : (p : Place) (s r : List ℕ) (k : ℕ) → T (alike_from rule p s r k) → length s ≡ length r
  alike_length p [] [] k h = refl
  alike_length p [] (c ∷ r) k h = absurd h
  alike_length p (b ∷ s) [] k h = absurd h
  alike_length p (b ∷ s) (c ∷ r) zero h = ap suc (alike_length (place_of (item_of rule b s)) s r (less (size_of (item_of rule b s))) (and_r (may_begin (place_of (item_of rule b s)) (size_of (item_of rule b s)) b c r) _ h))
  alike_length p (b ∷ s) (c ∷ r) (suc k) h = ap suc (alike_length (next p b) s r k (and_r (may rule p b c) _ h))

  -- a comment's or a name's bytes
  pub run_open : (q : Place) (p : ℕ → Bool) → Steady p → ((b : ℕ) → next q b ≡ q) → ((b c : ℕ) → T (may rule q b c) → T (p c))
      → (s r : List ℕ) → T (alike_from rule q s r (run p s)) → run p s ≡ run p r
  run_open q p st nx ok [] [] h = refl
  run_open q p st nx ok [] (c ∷ r) h = absurd h
  run_open q p st nx ok (b ∷ s) [] h = absurd h
  run_open q p st nx ok (b ∷ s) (c ∷ r) h = go (p b) refl (λ g. run_open q p st nx ok s r g) h
    where
      go : (t : Bool) → p b ≡ t → (T (alike_from rule q s r (run p s)) → run p s ≡ run p r) → T (alike_from rule q (b ∷ s) (c ∷ r) (count t (run p s))) → count t (run p s) ≡ count (p c) (run p r)
      go true e ih h =
          let k : p c ≡ true = is_true (p c) (ok b c (and_l (may rule q b c) _ h)) in
          rw k (ap suc (ih (subst (λ (z : Place). T (alike_from rule z s r (run p s))) (nx b) (and_r (may rule q b c) _ h))))
      go false e ih h =
          let k : p c ≡ false = sym (near_same p st b c (near rule q b c s r h)) ∙ e in
          rw k

  -- kept bytes
  pub run_kept : (p : ℕ → Bool) → Steady p → (s r : List ℕ) (k : ℕ) → run p s ≤ k → T (alike_from rule other s r k) → run p s ≡ run p r
  run_kept p st [] [] k l h = refl
  run_kept p st [] (c ∷ r) k l h = absurd h
  run_kept p st (b ∷ s) [] k l h = absurd h
  run_kept p st (b ∷ s) (c ∷ r) zero l h = go (p b) (near_same p st b c (near rule other b c s r h)) l
    where
      go : (t : Bool) → t ≡ p c → count t (run p s) ≤ 0 → count t (run p s) ≡ count (p c) (run p r)
      go true e l = absurd (not-suc-le-zero l)
      go false e l = rw (← e)
  run_kept p st (b ∷ s) (c ∷ r) (suc k) l h = go (p b) (ap p (eqb→eq b c (and_l (eqb b c) _ h))) l (λ g. run_kept p st s r k g (and_r (eqb b c) _ h))
    where
      go : (t : Bool) → t ≡ p c → count t (run p s) ≤ suc k → (run p s ≤ k → run p s ≡ run p r) → count t (run p s) ≡ count (p c) (run p r)
      go true e l ih = rw (← e) (ap suc (ih (le_of_suc-le-suc l)))
      go false e l ih = rw (← e)

  pub take_kept : (s r : List ℕ) (k : ℕ) → T (alike_from rule other s r k) → take k s ≡ take k r
  take_kept [] [] k h = refl
  take_kept [] (c ∷ r) k h = absurd h
  take_kept (b ∷ s) [] k h = absurd h
  take_kept (b ∷ s) (c ∷ r) zero h = refl
  take_kept (b ∷ s) (c ∷ r) (suc k) h =
      ap (λ (l : List ℕ). b ∷ l) (take_kept s r k (and_r (eqb b c) _ h)) ∙ ap (λ (x : ℕ). x ∷ take k r) (eqb→eq b c (and_l (eqb b c) _ h))

  -- past n of them
  drop_kept : (n : ℕ) (s r : List ℕ) (k j : ℕ) → n + j ≡ k → T (alike_from rule other s r k) → T (alike_from rule other (drop n s) (drop n r) j)
  drop_kept zero s r k j e h = subst (λ (x : ℕ). T (alike_from rule other s r x)) (omega arith) h
  drop_kept (suc n) [] [] k j e h = tt
  drop_kept (suc n) [] (c ∷ r) k j e h = absurd h
  drop_kept (suc n) (b ∷ s) [] k j e h = absurd h
  drop_kept (suc n) (b ∷ s) (c ∷ r) zero j e h = absurd (omega arith)
  drop_kept (suc n) (b ∷ s) (c ∷ r) (suc k) j e h = drop_kept n s r k j (omega arith) (and_r (eqb b c) _ h)

  -- ---- numbers
  point_same : (s r : List ℕ) → T (alike_from rule other s r (point_size s)) → point_size s ≡ point_size r
  point_same [] [] h = refl
  point_same [] (c ∷ r) h = absurd h
  point_same (b ∷ s) [] h = absurd h
  point_same (b ∷ s) (c ∷ r) h = go (eqb b 46) refl h
    where
      go : (t : Bool) → eqb b 46 ≡ t → T (alike_from rule other (b ∷ s) (c ∷ r) (cond t (suc (run is_digit s)) 0)) → cond t (suc (run is_digit s)) 0 ≡ cond (eqb c 46) (suc (run is_digit r)) 0
      go true e h =
          let k : eqb c 46 ≡ true = ap (λ (x : ℕ). eqb x 46) (sym (eqb→eq b c (and_l (eqb b c) _ h))) ∙ e in
          rw k (ap suc (run_kept is_digit steady_digit s r (run is_digit s) (omega arith) (and_r (eqb b c) _ h)))
      go false e h =
          let k : eqb c 46 ≡ false = sym (near_same (λ (x : ℕ). eqb x 46) (steady_is 46 (omega arith)) b c (near rule other b c s r h)) ∙ e in
          rw k

  pub number_same : (b : ℕ) (s r : List ℕ) → T (alike_from rule other s r (number_size s)) → item_as rule digit b s ≡ item_as rule digit b r
  number_same b s r h =
      let n : run is_digit s ≡ run is_digit r = run_kept is_digit steady_digit s r (number_size s) (omega arith) h in
      let p : point_size (drop (run is_digit s) s) ≡ point_size (drop (run is_digit s) r) = point_same (drop (run is_digit s) s) (drop (run is_digit s) r) (drop_kept (run is_digit s) s r (number_size s) (point_size (drop (run is_digit s) s)) refl h) in
      let l : length s ≡ length r = alike_length other s r (number_size s) h in
      let w : take (number_size s) s ≡ take (number_size s) r = take_kept s r (number_size s) h in
      cc
