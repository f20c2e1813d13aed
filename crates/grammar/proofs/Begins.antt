-- `primary` by the kind of the next token. Assumes nothing.
use mathlib.Core.Path.{◌≡◌, refl, sym, ap, ◌∙◌}
use mathlib.Core.List.{List, [], ◌∷◌}
use Prim.Native.Nat.{ℕ}
use native.Mathlib.Omega.{arith}
use Rattle.token.specs.Kind.{newline_kind, left_paren_kind, left_brace_kind, left_curly_brace_kind, identifier_kind, string_kind, number_kind, false_kind, fn_kind, nil_kind, super_kind, this_kind, true_kind}
use Rattle.parser.specs.Tokens.{View}
use Rattle.parser.specs.declared.State.{State}
use Rattle.parser.specs.Tables.{Reply, moved, looked}
use Rattle.parser.specs.Nodes.{literal_row, this_row}
use Rattle.parser.specs.Programs.{Which, Reader, Prog, stop, ◌>>=◌, ◌>>◌, look, node, fail, run}
use Rattle.parser.specs.Grammar.{expression, list, dictionary, fn_expr, super_expr, primary}
use Rattle.pieces.specs.Pieces.{place_in, literals, variable, empty, grouping}
use Rattle.pieces.proofs.NextKind.{Next, Row, picked, by_kind, by_none, of_place, of_none}

-- the tests of `primary`, but for the last
abbrev rows : View → List Row
rows T =
    record { kind = number_kind; found = λ j. node (literal_row j) } ∷
    record { kind = string_kind; found = λ j. node (literal_row j) } ∷
    record { kind = false_kind; found = λ j. node (literal_row j) } ∷
    record { kind = true_kind; found = λ j. node (literal_row j) } ∷
    record { kind = nil_kind; found = λ j. node (literal_row j) } ∷
    record { kind = identifier_kind; found = λ j. variable j } ∷
    record { kind = left_paren_kind; found = λ j. expression >>= λ e. grouping e.node } ∷
    record { kind = left_brace_kind; found = λ j. list T } ∷
    record { kind = left_curly_brace_kind; found = λ j. dictionary T } ∷
    record { kind = fn_kind; found = λ j. fn_expr T } ∷
    record { kind = this_kind; found = λ j. node (this_row j) } ∷
    record { kind = super_kind; found = λ j. super_expr T j } ∷
    []

-- a Newline is an Empty, anything else message 28
abbrev rest : Prog
rest = look newline_kind (λ i. empty) (fail 28 >> stop 1)

module _ (T : View) (low : Which → Reader) (p : State) (E N : List ℕ) (kind j : ℕ) (n : Next T p.current kind j) where
  abbrev began : ℕ → Reply
  began k = picked T low rest p E N kind j n 0 (rows T) k

  by : run T low (primary T) p E N ≡ began kind
  unfolding primary
  by = by_kind T low rest p E N kind j n (rows T) (refl, (refl, (refl, (refl, (refl, (refl, (refl, (refl, (refl, (refl, (refl, (refl, tt))))))))))))

  -- whichever kind of literal it is, its place is the number of looks
  pub primary_literal : (i : ℕ) → i ≡ place_in 1 literals kind → (i ≡ 0 → ⊥) → run T low (primary T) p E N ≡ run T low (node (literal_row j)) (moved (looked p i) j) E N
  unfolding place_in
  primary_literal i e h = by ∙ of_place (λ k. began k ≡ run T low (node (literal_row j)) (moved (looked p (place_in 1 literals k)) j) E N) literals (refl, (refl, (refl, (refl, (refl, tt))))) 1 kind (λ z. h (e ∙ z)) ∙ ap (λ (i : ℕ). run T low (node (literal_row j)) (moved (looked p i) j) E N) (sym e)

  pub primary_identifier : kind ≡ identifier_kind → run T low (primary T) p E N ≡ run T low (variable j) (moved (looked p 6) j) E N
  primary_identifier h = by ∙ ap began h

  pub primary_leftparen : kind ≡ left_paren_kind → run T low (primary T) p E N ≡ run T low (expression >>= λ e. grouping e.node) (moved (looked p 7) j) E N
  primary_leftparen h = by ∙ ap began h

  pub primary_leftbrace : kind ≡ left_brace_kind → run T low (primary T) p E N ≡ run T low (list T) (moved (looked p 8) j) E N
  primary_leftbrace h = by ∙ ap began h

  pub primary_leftcurlybrace : kind ≡ left_curly_brace_kind → run T low (primary T) p E N ≡ run T low (dictionary T) (moved (looked p 9) j) E N
  primary_leftcurlybrace h = by ∙ ap began h

  pub primary_fn : kind ≡ fn_kind → run T low (primary T) p E N ≡ run T low (fn_expr T) (moved (looked p 10) j) E N
  primary_fn h = by ∙ ap began h

  pub primary_this : kind ≡ this_kind → run T low (primary T) p E N ≡ run T low (node (this_row j)) (moved (looked p 11) j) E N
  primary_this h = by ∙ ap began h

  pub primary_super : kind ≡ super_kind → run T low (primary T) p E N ≡ run T low (super_expr T j) (moved (looked p 12) j) E N
  primary_super h = by ∙ ap began h

  -- no token that begins an expression
  pub primary_else : (i : ℕ) → i ≡ place_in 1 literals kind → i ≡ 0 → (kind ≡ identifier_kind → ⊥) → (kind ≡ left_paren_kind → ⊥) → (kind ≡ left_brace_kind → ⊥) → (kind ≡ left_curly_brace_kind → ⊥) → (kind ≡ fn_kind → ⊥) → (kind ≡ this_kind → ⊥) → (kind ≡ super_kind → ⊥) → run T low (primary T) p E N ≡ run T low (look newline_kind (λ i. empty) (fail 28 >> stop 1)) (looked p 12) E N
  unfolding primary
  primary_else i l h a b c d e f g =
      let z = of_none literals 1 kind (omega arith) (sym l ∙ h) in
      by_none T low rest p E N kind j n (rows T) (refl, (refl, (refl, (refl, (refl, (refl, (refl, (refl, (refl, (refl, (refl, (refl, tt)))))))))))) (z.0, (z.1.0, (z.1.1.0, (z.1.1.1.0, (z.1.1.1.1.0, (a, (b, (c, (d, (e, (f, (g, tt))))))))))))
