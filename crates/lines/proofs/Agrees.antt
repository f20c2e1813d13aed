-- With its index a token table is read as without one: from every token up to the EOF that ends it newlines are passed alike, and never past that EOF. Assumes nothing.
use mathlib.Core.Path.{◌≡◌, refl, sym, ap, ◌∙◌}
use mathlib.Core.Bool.{Bool, true, false}
use mathlib.Core.List.{List}
use Prim.Native.Nat.{ℕ, ◌+◌, ◌-◌, ◌≤◌, ◌<◌}
use native.Mathlib.Omega.{arith}
use borrow.Author.Tests.{eqb-true, eqb-false}
use lib.Dec.{eqb}
use Rattle.token.specs.Kind.{eof_kind, newline_kind}
use Rattle.records.specs.Table.{room, field, index_width}
use Rattle.parser.specs.Tokens.{View, count, kind_at, lines_from, walked, indexed, skip_lines}
use Rattle.parser.proofs.Look.{skip_hop, skip_end}
use Rattle.lines.specs.Lines.{line_word, line_index}
use Rattle.lines.proofs.Walk.{lines_stop, lines_within, lines_same}
use Rattle.lines.proofs.Words.{index_words}

-- two views that have the same kind of a token, and hop alike from it, pass newlines alike from there
pub skip_same : (T T' : View) (i : ℕ) → kind_at T.tokens i ≡ kind_at T'.tokens i → (kind_at T.tokens i ≡ 1 → T.hop i ≡ T'.hop i) → skip_lines T i ≡ skip_lines T' i
skip_same T T' i k h = go (eqb (kind_at T.tokens i) newline_kind) refl
  where
    go : (b : Bool) → eqb (kind_at T.tokens i) newline_kind ≡ b → skip_lines T i ≡ skip_lines T' i
    go true e = sym (skip_hop T i (eqb-true _ _ e)) ∙ ap (λ (d : ℕ). i + d) (h (eqb-true _ _ e)) ∙ skip_hop T' i (sym k ∙ eqb-true _ _ e)
    go false e = sym (skip_end T i (eqb-false _ _ e)) ∙ skip_end T' i (λ o. eqb-false _ _ e (k ∙ o))

-- EOF is no Newline
pub eof_apart : (t : List ℕ) (e : ℕ) → kind_at t e ≡ eof_kind → kind_at t e ≡ newline_kind → ⊥
eof_apart t e end o = absurd (omega (arith, end, o))

-- where token e is no Newline, newlines before it never lead past it
module _ (t : List ℕ) (e : ℕ) (end : kind_at t e ≡ newline_kind → ⊥) where
  -- it is so many tokens on
  ahead : (i : ℕ) → i ≤ e → kind_at t (i + (e - i)) ≡ 1 → ⊥
  ahead i h o = let a : i + (e - i) ≡ e = omega arith in end (ap (kind_at t) (sym a) ∙ o)

  pub walked_within : (i : ℕ) → i ≤ e → skip_lines (walked t) i ≤ e
  walked_within i h = go (eqb (kind_at t i) newline_kind) refl
    where
      go : (b : Bool) → eqb (kind_at t i) newline_kind ≡ b → skip_lines (walked t) i ≤ e
      go true o =
          let s : i + lines_from (count t - i) t i ≡ skip_lines (walked t) i = skip_hop (walked t) i (eqb-true _ _ o) in
          let w : lines_from (count t - i) t i ≤ e - i = lines_within t (e - i) (count t - i) i (ahead i h) in
          omega arith
      go false o = let s : i ≡ skip_lines (walked t) i = skip_end (walked t) i (eqb-false _ _ o) in omega arith

  -- a table with the same kinds up to there, and as many tokens at the most
  module _ (t' : List ℕ) (counts : count t ≡ count t') (kinds : (i : ℕ) → i ≤ e → kind_at t i ≡ kind_at t' i) where
    pub walked_same : (i : ℕ) → i ≤ e → (walked t).hop i ≡ (walked t').hop i
    walked_same i h =
        lines_same t t' (e - i) (count t - i) i (ahead i h) (λ j p. kinds j (omega arith)) ∙ ap (λ (m : ℕ). lines_from (m - i) t' i) counts

-- the index of n tokens, the last of which is EOF
module _ (t x : List ℕ) (n : ℕ) (some : 0 < n) (kept : n ≤ count t) (end : kind_at t (n - 1) ≡ eof_kind) (fits : n ≤ room index_width x) where
  pub hops_same : (i : ℕ) → i ≤ n - 1 → (indexed t (line_index t n x)).hop i ≡ (walked t).hop i
  unfolding line_word
  hops_same i h =
      let w : field index_width 0 (line_index t n x) i ≡ i + lines_from (n - 1 - i) t i + 1 = index_words t n x i (omega arith) fits in
      let s : lines_from (count t - i) t i ≡ lines_from (n - 1 - i) t i = lines_stop t (n - 1 - i) (count t - i) i (ahead t (n - 1) (eof_apart t (n - 1) end) i h) (omega arith) in
      ap (λ (w : ℕ). w - 1 - i) w ∙ omega arith

  pub index_agrees : (i : ℕ) → i ≤ n - 1 → skip_lines (indexed t (line_index t n x)) i ≡ skip_lines (walked t) i
  index_agrees i h = skip_same (indexed t (line_index t n x)) (walked t) i refl (λ o. hops_same i h)

  pub indexed_within : (i : ℕ) → i ≤ n - 1 → skip_lines (indexed t (line_index t n x)) i ≤ n - 1
  indexed_within i h = rw (index_agrees i h) (walked_within t (n - 1) (eof_apart t (n - 1) end) i h)
