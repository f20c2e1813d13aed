-- How far newlines reach: never past a token that is none, however many are looked at, and only the kinds decide. Assumes nothing.
use mathlib.Core.Path.{◌≡◌, refl, sym, ap, ◌∙◌}
use mathlib.Core.Bool.{Bool, true, false}
use mathlib.Core.List.{List}
use mathlib.Core.Logic.{⊎_elim}
use Prim.Native.Nat.{ℕ, zero, suc, ◌+◌, ◌≤◌, ◌<◌}
use native.Mathlib.Omega.{arith}
use borrow.Author.Tests.{eq-eqb, ne_eqb, eqb-true, eqb-false}
use lib.Dec.{eqb}
use Rattle.token.specs.Kind.{newline_kind}
use Rattle.records.proofs.Rooms.{lt_or_le}
use Rattle.parser.specs.Tokens.{kind_at, lines_from}

-- a Newline leads to the next token, any other token nowhere
pub lines_on : (t : List ℕ) (n i : ℕ) → kind_at t i ≡ 1 → lines_from (suc n) t i ≡ suc (lines_from n t (i + 1))
unfolding lines_from
lines_on t n i e = rw (eq-eqb _ _ e, lines_from)

pub lines_off : (t : List ℕ) (n i : ℕ) → (kind_at t i ≡ 1 → ⊥) → lines_from n t i ≡ 0
unfolding lines_from
lines_off t zero i e = refl
lines_off t (suc n) i e = rw (ne_eqb _ _ e, lines_from)

pub lines_none : (t : List ℕ) (i : ℕ) → lines_from 0 t i ≡ 0
unfolding lines_from
lines_none t i = refl

-- where the token k tokens on is no Newline, it does not matter how many more are looked at
pub lines_stop : (t : List ℕ) (k m i : ℕ) → (kind_at t (i + k) ≡ 1 → ⊥) → k ≤ m → lines_from m t i ≡ lines_from k t i
lines_stop t zero m i z h =
    let e : i + 0 ≡ i = omega arith in
    lines_off t m i (λ o. z (ap (kind_at t) e ∙ o)) ∙ sym (lines_none t i)
lines_stop t (suc k) zero i z h = absurd (omega arith)
lines_stop t (suc k) (suc m) i z h = let s : i + 1 + k ≡ i + suc k = omega arith in go (lines_stop t k m (i + 1) (λ o. z (ap (kind_at t) (sym s) ∙ o)) (omega arith)) (eqb (kind_at t i) newline_kind) refl
  where
    go : lines_from m t (i + 1) ≡ lines_from k t (i + 1) → (b : Bool) → eqb (kind_at t i) newline_kind ≡ b → lines_from (suc m) t i ≡ lines_from (suc k) t i
    go y true e = lines_on t m i (eqb-true _ _ e) ∙ ap suc y ∙ sym (lines_on t k i (eqb-true _ _ e))
    go y false e = lines_off t (suc m) i (eqb-false _ _ e) ∙ sym (lines_off t (suc k) i (eqb-false _ _ e))

-- no more are Newlines than are looked at
pub lines_most : (t : List ℕ) (n i : ℕ) → lines_from n t i ≤ n
lines_most t zero i = let z : lines_from 0 t i ≡ 0 = lines_none t i in omega arith
lines_most t (suc n) i = go (lines_most t n (i + 1)) (eqb (kind_at t i) newline_kind) refl
  where
    go : lines_from n t (i + 1) ≤ n → (b : Bool) → eqb (kind_at t i) newline_kind ≡ b → lines_from (suc n) t i ≤ suc n
    go y true e = let s : lines_from (suc n) t i ≡ suc (lines_from n t (i + 1)) = lines_on t n i (eqb-true _ _ e) in omega arith
    go y false e = let z : lines_from (suc n) t i ≡ 0 = lines_off t (suc n) i (eqb-false _ _ e) in omega arith

-- so they end before such a token, however many are looked at
pub lines_within : (t : List ℕ) (k m i : ℕ) → (kind_at t (i + k) ≡ 1 → ⊥) → lines_from m t i ≤ k
lines_within t k m i z =
    ⊎_elim (λ h. omega (arith, lines_most t m i)) (λ h. let e : lines_from m t i ≡ lines_from k t i = lines_stop t k m i z h in omega (arith, lines_most t k i)) (lt_or_le m k)

-- two tables that have the same kinds of the n tokens that are looked at
pub lines_kinds : (t t' : List ℕ) (n i : ℕ) → ((j : ℕ) → i ≤ j → j < i + n → kind_at t j ≡ kind_at t' j) → lines_from n t i ≡ lines_from n t' i
lines_kinds t t' zero i same = lines_none t i ∙ sym (lines_none t' i)
lines_kinds t t' (suc n) i same = go (same i (omega arith) (omega arith)) (lines_kinds t t' n (i + 1) (λ j p q. same j (omega arith) (omega arith))) (eqb (kind_at t i) newline_kind) refl
  where
    go : kind_at t i ≡ kind_at t' i → lines_from n t (i + 1) ≡ lines_from n t' (i + 1) → (b : Bool) → eqb (kind_at t i) newline_kind ≡ b → lines_from (suc n) t i ≡ lines_from (suc n) t' i
    go at y true e = lines_on t n i (eqb-true _ _ e) ∙ ap suc y ∙ sym (lines_on t' n i (sym at ∙ eqb-true _ _ e))
    go at y false e = lines_off t (suc n) i (eqb-false _ _ e) ∙ sym (lines_off t' (suc n) i (λ o. eqb-false _ _ e (at ∙ o)))

-- so of any number of tokens, where one k tokens on that is no Newline ends both
pub lines_same : (t t' : List ℕ) (k m i : ℕ) → (kind_at t (i + k) ≡ 1 → ⊥) → ((j : ℕ) → j ≤ i + k → kind_at t j ≡ kind_at t' j) → lines_from m t i ≡ lines_from m t' i
lines_same t t' k m i z same =
    ⊎_elim (λ h. lines_kinds t t' m i (λ j p q. same j (omega arith)))
    (λ h. lines_stop t k m i z h
    ∙ lines_kinds t t' k i (λ j p q. same j (omega arith))
    ∙ sym (lines_stop t' k m i (λ o. z (same (i + k) (omega arith) ∙ o)) h))
    (lt_or_le m k)
