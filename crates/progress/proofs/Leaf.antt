-- Laws of looking at tokens: what is found is further on, and a token that is no EOF is one of the table's.
use mathlib.Core.Path.{◌≡◌, refl, sym, ◌∙◌}
use mathlib.Core.List.{List}
use mathlib.Core.Bool.{Bool, true, false}
use Prim.Native.Nat.{ℕ, suc, ◌+◌, ◌≤◌, ◌<◌}
use native.Mathlib.Omega.{arith}
use lib.Dec.{eqb}
use borrow.Author.Tests.{eqb-true}
use Rattle.std.specs.Prelude.{Option}
use Rattle.std.specs.Prelude.{Some, None}
use Rattle.parser.proofs.Look.{kind_inside, after_in}
use Rattle.parser.specs.Tokens.{View, count, kind_at, after, skip_lines, seen_if, check_at, matches_at}

pub after_on : (t : List ℕ) (i : ℕ) → i ≤ after t i
unfolding after
after_on t i = go (eqb (kind_at t i) 0)
  where
    go : (b : Bool) → i ≤ (elim b [ true ↦ i | false ↦ i + 1 ])
    go true = omega arith
    go false = omega arith

-- past the newlines is not back
pub skip_on : (T : View) (i : ℕ) → i ≤ skip_lines T i
unfolding skip_lines
skip_on T i = go (eqb (kind_at T.tokens i) 1)
  where
    go : (b : Bool) → i ≤ (elim b [ true ↦ i + T.hop i | false ↦ i ])
    go true = omega arith
    go false = omega arith

pub Some-inj : (i j : ℕ) → Some i ≡ Some j → i ≡ j
Some-inj i j e = cc

pub None-not : {A : Type 0} (i : ℕ) → None ≡ Some i → A
None-not i e = let z : ◌≡◌ {A = ℕ} 0 1 = cc in absurd (omega arith)

seen_at : (b : Bool) (j i : ℕ) → seen_if b j ≡ Some i → (b ≡ true) × (j ≡ i)
unfolding seen_if
seen_at true j i e = (refl, Some-inj j i e)
seen_at false j i e = None-not i e

-- the token found is at or after where the search began, and has the kind
pub check_at_lem : (T : View) (at k i : ℕ) → check_at T at k ≡ Some i → (at ≤ i) × (kind_at T.tokens i ≡ k)
unfolding check_at
check_at_lem T at k i = go (eqb k 1) refl
  where
    go : (b : Bool) → eqb k 1 ≡ b → (elim b [ true ↦ seen_if (eqb (kind_at T.tokens at) 1) at | false ↦ seen_if (eqb (kind_at T.tokens (skip_lines T at)) k) (skip_lines T at) ]) ≡ Some i → (at ≤ i) × (kind_at T.tokens i ≡ k)
    go true t e =
        let s = seen_at (eqb (kind_at T.tokens at) 1) at i e in
        let k1 = eqb-true k 1 t in
        let h = eqb-true (kind_at T.tokens at) 1 s.0 in
        (omega arith, rw (← s.1) (h ∙ sym k1))
    go false t e =
        let s = seen_at (eqb (kind_at T.tokens (skip_lines T at)) k) (skip_lines T at) i e in
        let h = eqb-true (kind_at T.tokens (skip_lines T at)) k s.0 in
        let o = skip_on T at in
        (rw (← s.1) o, rw (← s.1) h)

-- a search never goes back
pub matches_on : (T : View) (at k i : ℕ) → matches_at T at k ≡ Some i → at ≤ i
unfolding matches_at
matches_on T at k i = go (check_at T at k) refl
  where
    go : (s : Option ℕ) → check_at T at k ≡ s → (elim s [ Some i ↦ Some (after T.tokens i) | None ↦ None ]) ≡ Some i → at ≤ i
    go (Some j) t e =
        let c = check_at_lem T at k j t in
        let a = after_on T.tokens j in
        let b = Some-inj (after T.tokens j) i e in
        omega arith
    go None t e = None-not i e

-- a token that is passed, and is no EOF, is one of the tokens, and the reading is after it
pub matches_at_lem : (T : View) (at k i : ℕ) → matches_at T at (suc k) ≡ Some i → (at < i) × (at < count T.tokens)
unfolding matches_at
matches_at_lem T at k i = go (check_at T at (suc k)) refl
  where
    go : (s : Option ℕ) → check_at T at (suc k) ≡ s → (elim s [ Some i ↦ Some (after T.tokens i) | None ↦ None ]) ≡ Some i → (at < i) × (at < count T.tokens)
    go (Some j) t e =
        let c = check_at_lem T at (suc k) j t in
        let inside = kind_inside T.tokens j k c.1 in
        let a = after_in T.tokens j (λ z. let y = c.1 in omega arith) in
        let b = Some-inj (after T.tokens j) i e in
        (omega arith, omega arith)
    go None t e = None-not i e
