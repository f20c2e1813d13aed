-- The cases of the test, in the form that the code's facts have. Assumes nothing.
use mathlib.Core.Path.{◌≡◌, sym, ap, ◌∙◌}
use mathlib.Core.Bool.{Bool, true, false, not, ◌&&◌}
use mathlib.Core.List.{List}
use Prim.Native.Nat.{ℕ, suc}
use lib.Dec.{leb, ltb}
use borrow.Author.Tests.{eq-eqb, ne_eqb}
use Rattle.records.specs.Table.{room, token_width, error_width, node_width, index_width}
use Rattle.parser.specs.Tokens.{kind_at}
use Rattle.host.specs.declared.Parser.{Parser}
use Rattle.host.specs.Fits.{no_eof, only_eof, within, fits_in}

-- an EOF at token k
pub eof_there : (T : List ℕ) (i k : ℕ) → i ≡ suc k → kind_at T k ≡ 0 → no_eof T i ≡ false
unfolding no_eof
eof_there T i k e z = ap (no_eof T) e ∙ ap (λ (b : Bool). not b && no_eof T k) (eq-eqb (kind_at T k) 0 z)

-- none there
pub eof_not : (T : List ℕ) (i k : ℕ) → i ≡ suc k → (kind_at T k ≡ 0 → ⊥) → no_eof T i ≡ no_eof T k
unfolding no_eof
eof_not T i k e z = ap (no_eof T) e ∙ ap (λ (b : Bool). not b && no_eof T k) (ne_eqb (kind_at T k) 0 z)

-- of no tokens none is EOF
pub eof_none : (T : List ℕ) (i : ℕ) → i ≡ 0 → no_eof T i ≡ true
unfolding no_eof
eof_none T i e = ap (no_eof T) e

-- of no tokens the last is not EOF
pub only_none : (T : List ℕ) (n : ℕ) → n ≡ 0 → only_eof T n ≡ false
unfolding only_eof
only_none T n e = ap (only_eof T) e

-- the last is EOF
pub only_last : (T : List ℕ) (n k : ℕ) → n ≡ suc k → kind_at T k ≡ 0 → only_eof T n ≡ no_eof T k
unfolding only_eof
only_last T n k e z = ap (only_eof T) e ∙ ap (λ (b : Bool). b && no_eof T k) (eq-eqb (kind_at T k) 0 z)

-- the last is not EOF
pub only_other : (T : List ℕ) (n k : ℕ) → n ≡ suc k → (kind_at T k ≡ 0 → ⊥) → only_eof T n ≡ false
unfolding only_eof
only_other T n k e z = ap (only_eof T) e ∙ ap (λ (b : Bool). b && no_eof T k) (ne_eqb (kind_at T k) 0 z)

-- the code tests the seven in one expression
abbrev tested : Parser → ℕ → ℕ → ℕ → ℕ → Bool
tested p t e n x = (((((leb p.tokens t && leb p.errors e) && leb p.nodes n) && leb p.last n) && leb p.tokens x) && ltb p.current p.tokens) && leb p.loops p.tokens

module _ (T E N X : List ℕ) (p : Parser) (t e n x : ℕ) (is-t : t ≡ room token_width T) (is-e : e ≡ room error_width E) (is-n : n ≡ room node_width N) (is_x : x ≡ room index_width X) where
  tested_within : tested p t e n x ≡ within T E N X p
  tested_within = λ i. tested p (is-t i) (is-e i) (is-n i) (is_x i)

  -- it holds, and the tokens decide
  pub fits_decides : tested p t e n x ≡ true → only_eof T p.tokens ≡ fits_in T E N X p
  unfolding fits_in
  fits_decides h = ap (λ (b : Bool). b && only_eof T p.tokens) (sym h ∙ tested_within)

  -- it fails
  pub fits_fails : tested p t e n x ≡ false → false ≡ fits_in T E N X p
  unfolding fits_in
  fits_fails h = ap (λ (b : Bool). b && only_eof T p.tokens) (sym h ∙ tested_within)
