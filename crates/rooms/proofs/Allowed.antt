-- What tokens allow: it never falls from token to token, and a token that is passed adds its part. Assumes nothing.
use mathlib.Core.Path.{◌≡◌, refl, subst}
use mathlib.Core.Bool.{Bool, true, false, cond}
use mathlib.Core.List.{List}
use mathlib.Core.Logic.{⊎_elim}
use Prim.Native.Nat.{ℕ, zero, suc, ◌+◌, ◌*◌, ◌≤◌}
use native.Mathlib.Numerals.{add-one}
use native.Mathlib.Omega.{arith}
use lib.Dec.{eqb}
use Rattle.token.specs.Kind.{class_kind}
use Rattle.records.proofs.Rooms.{lt_or_le}
use Rattle.std.specs.Prelude.{Option}
use Rattle.std.specs.Prelude.{Some, None}
use Rattle.parser.specs.Tokens.{View, kind_at, after, check_at, matches_at}
use Rattle.parser.proofs.Look.{after_in}
use Rattle.progress.proofs.Leaf.{Some-inj, None-not, check_at_lem, matches_on}
use Rattle.rooms.specs.Allowed.{Counted, nodes, errors, allows, allowed}

-- ---- one token
-- by a test: what both are at least, and at the most
at_least : (t : Bool) (a b m : ℕ) → m ≤ a → m ≤ b → m ≤ cond t a b
at_least true a b m g h = g
at_least false a b m g h = h

at_most : (t : Bool) (a b m : ℕ) → a ≤ m → b ≤ m → cond t a b ≤ m
at_most true a b m g h = g
at_most false a b m g h = h

-- two at least, but for EOF
pub allows_some : (x : Counted) (k : ℕ) → 2 ≤ allows x (suc k)
allows_some x k = at_least (eqb (suc k) class_kind) _ _ 2 (omega arith) (omega arith)

-- two nodes at the most
allows_nodes : (k : ℕ) → allows nodes k ≤ 2
allows_nodes zero = omega arith
allows_nodes (suc k) = at_most (eqb (suc k) class_kind) _ _ 2 (omega arith) (omega arith)

-- four errors at the most
pub allows_errors : (k : ℕ) → allows errors k ≤ 4
allows_errors zero = omega arith
allows_errors (suc k) = at_most (eqb (suc k) class_kind) _ _ 4 (omega arith) (omega arith)

-- ---- the first tokens
-- two nodes for each
pub allowed_nodes : (T : List ℕ) (i : ℕ) → allowed nodes T i ≤ 2 * i
unfolding allowed
allowed_nodes T zero = omega arith
allowed_nodes T (suc i) = let h = allowed_nodes T i in let k = allows_nodes (kind_at T i) in omega arith

module _ (x : Counted) (T : List ℕ) where
  pub allowed_next : (i : ℕ) → allowed x T (i + 1) ≡ allowed x T i + allows x (kind_at T i)
  unfolding allowed
  allowed_next i = rw add-one

  same : (i j : ℕ) → i ≡ j → allowed x T i ≤ allowed x T j
  same i j e = rw e (omega arith)

  pub allowed_on : (i j : ℕ) → i ≤ j → allowed x T i ≤ allowed x T j
  unfolding allowed
  allowed_on i zero h = same i 0 (omega arith)
  allowed_on i (suc j) h = ⊎_elim (λ l. let z = allowed_on i j (omega arith) in omega arith) (λ l. same i (suc j) (omega arith)) (lt_or_le i (suc j))

-- a token that is passed adds its part
module _ (x : Counted) (T : View) where
  pub allowed_match : (at kind i : ℕ) → matches_at T at kind ≡ Some i → allowed x T.tokens at + allows x kind ≤ allowed x T.tokens i
  unfolding matches_at
  allowed_match at zero i e = let h = allowed_on x T.tokens at i (matches_on T at 0 i e) in omega arith
  allowed_match at (suc k) i e = go (check_at T at (suc k)) refl e
    where
      go : (s : Option ℕ) → check_at T at (suc k) ≡ s → (elim s [ Some j ↦ Some (after T.tokens j) | None ↦ None ]) ≡ Some i → allowed x T.tokens at + allows x (suc k) ≤ allowed x T.tokens i
      go (Some j) t e =
          let c = check_at_lem T at (suc k) j t in
          let a = after_in T.tokens j (λ z. let y = c.1 in omega arith) in
          let b = Some-inj (after T.tokens j) i e in
          let h = allowed_on x T.tokens at j c.0 in
          let n : allowed x T.tokens (j + 1) ≡ allowed x T.tokens j + allows x (suc k) = subst (λ (m : ℕ). allowed x T.tokens (j + 1) ≡ allowed x T.tokens j + allows x m) c.1 (allowed_next x T.tokens j) in
          let o = allowed_on x T.tokens (j + 1) i (omega arith) in
          omega arith
      go None t e = None-not i e
