-- Laws of looking at tokens, in the form that the code's facts have. Assumes nothing.
use mathlib.Core.Path.{◌≡◌, refl, sym, ap, ◌∙◌}
use mathlib.Core.Bool.{Bool, true, false}
use mathlib.Core.List.{List}
use Prim.Native.Nat.{ℕ, zero, suc, ◌+◌, ◌-◌, ◌≤◌, ◌<◌}
use native.Mathlib.Omega.{arith}
use borrow.Author.Tests.{eq-eqb, ne_eqb, ltb-true, ltb-false}
use lib.Dec.{ltb}
use Rattle.records.specs.Table.{field, token_width, index_width}
use Rattle.records.proofs.Field.{field_none}
use Rattle.parser.specs.declared.Coming.{Coming}
use Rattle.std.specs.Prelude.{Some, None}
use Rattle.parser.specs.Tokens.{View, count, kind_at, after, indexed, skip_lines, peek_at, seen_if, check_at}

pub after_in : (T : List ℕ) (i : ℕ) → (kind_at T i ≡ 0 → ⊥) → i + 1 ≡ after T i
unfolding after
after_in T i h = rw (ne_eqb _ _ h, after)

pub after_out : (T : List ℕ) (i : ℕ) → kind_at T i ≡ 0 → i ≡ after T i
unfolding after
after_out T i h = rw (eq-eqb _ _ h, after)

-- a token whose kind is not 0 is one of the tokens
pub kind_inside : (T : List ℕ) (i k : ℕ) → kind_at T i ≡ suc k → i < count T
unfolding kind_at
kind_inside T i k e = go (ltb i (count T)) refl
  where
    go : (b : Bool) → ltb i (count T) ≡ b → i < count T
    go true t = ltb-true _ _ t
    go false t = let z : kind_at T i ≡ 0 = field_none token_width 0 T i (ltb-false _ _ t) in absurd (omega arith)

-- one whose kind is not EOF's, too
pub kind_some : (T : List ℕ) (i : ℕ) → (kind_at T i ≡ 0 → ⊥) → i < count T
kind_some T i h = go (kind_at T i) refl
  where
    go : (k : ℕ) → kind_at T i ≡ k → i < count T
    go zero e = absurd (h e)
    go (suc k) e = kind_inside T i k e

-- a token that is no Newline is not passed
pub skip_end : (T : View) (i : ℕ) → (kind_at T.tokens i ≡ 1 → ⊥) → i ≡ skip_lines T i
unfolding skip_lines
skip_end T i e = sym (rw (ne_eqb _ _ e, skip_lines))

-- from a Newline the view's hop leads on
pub skip_hop : (T : View) (i : ℕ) → kind_at T.tokens i ≡ 1 → i + T.hop i ≡ skip_lines T i
unfolding skip_lines
skip_hop T i e = sym (rw (eq-eqb _ _ e, skip_lines))

-- with an index: to the token that the word names; and nowhere where that is one before
module _ (t x : List ℕ) (i w : ℕ) (k : kind_at t i ≡ 1) (is : w ≡ field index_width 0 x i) where
  pub skip_word : i < w → w - 1 ≡ skip_lines (indexed t x) i
  skip_word h = let e : w - 1 ≡ i + (w - 1 - i) = omega arith in e ∙ ap (λ (w : ℕ). i + (w - 1 - i)) is ∙ skip_hop (indexed t x) i k

  pub skip_stays : w ≤ i → i ≡ skip_lines (indexed t x) i
  skip_stays h = let e : i ≡ i + (w - 1 - i) = omega arith in e ∙ ap (λ (w : ℕ). i + (w - 1 - i)) is ∙ skip_hop (indexed t x) i k

-- what comes at a token that is no Newline, by what the code sees there
pub peek_here : (T : View) (at kind past : ℕ) → kind ≡ kind_at T.tokens at → (kind ≡ 1 → ⊥) → past ≡ after T.tokens at → ◌≡◌ {A = Coming} (record { kind = kind; past = past }) (peek_at T at)
peek_here T at kind past k h n =
    let s = skip_end T at (λ e. h (k ∙ e)) in
    ap (λ (i : ℕ). record { kind = i; past = past }) (k ∙ ap (kind_at T.tokens) s) ∙ ap (λ (i : ℕ). record { kind = kind_at T.tokens (skip_lines T at); past = i }) (n ∙ ap (after T.tokens) s)

pub check_line : (T : View) (at k : ℕ) → k ≡ 1 → kind_at T.tokens at ≡ 1 → Some at ≡ check_at T at k
unfolding check_at seen_if
check_line T at k e h = rw (eq-eqb _ _ e, eq-eqb _ _ h, check_at)

pub check_no_line : (T : View) (at k : ℕ) → k ≡ 1 → (kind_at T.tokens at ≡ 1 → ⊥) → None ≡ check_at T at k
unfolding check_at seen_if
check_no_line T at k e h = rw (eq-eqb _ _ e, ne_eqb _ _ h, check_at)

pub check_found : (T : View) (at k i : ℕ) → i ≡ skip_lines T at → (k ≡ 1 → ⊥) → kind_at T.tokens (skip_lines T at) ≡ k → Some i ≡ check_at T at k
unfolding check_at seen_if
check_found T at k i s e h = rw (ne_eqb _ _ e, eq-eqb _ _ h, check_at) (ap Some s)

pub check_none : (T : View) (at k : ℕ) → (k ≡ 1 → ⊥) → (kind_at T.tokens (skip_lines T at) ≡ k → ⊥) → None ≡ check_at T at k
unfolding check_at seen_if
check_none T at k e h = rw (ne_eqb _ _ e, ne_eqb _ _ h, check_at)
