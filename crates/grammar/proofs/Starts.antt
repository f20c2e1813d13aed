-- `statement` and `declaration` by the kind of the next token. Assumes nothing.
use mathlib.Core.Path.{◌≡◌, refl, ap, ◌∙◌}
use mathlib.Core.List.{List, [], ◌∷◌}
use Prim.Native.Nat.{ℕ}
use Rattle.token.specs.Kind.{left_curly_brace_kind, class_kind, fn_kind, for_kind, if_kind, return_kind, break_kind, continue_kind, let_kind, while_kind, try_kind}
use Rattle.parser.specs.Tokens.{View}
use Rattle.parser.specs.declared.State.{State}
use Rattle.parser.specs.Tables.{Reply, moved, looked}
use Rattle.parser.specs.Nodes.{block_row}
use Rattle.parser.specs.Programs.{Which, Reader, ◌>>=◌, node, run}
use Rattle.parser.specs.Grammar.{block, expression_stmt, fn_stmt, class, let_stmt, for_loop, try_catch, if_stmt, ret, brk, cont, while_stmt, statement, declaration}
use Rattle.pieces.proofs.NextKind.{Next, Row, picked, by_kind, by_none}

-- the tests of `statement`, and those of `declaration`
abbrev rows : View → List Row
rows T =
    record { kind = for_kind; found = λ j. for_loop T j } ∷
    record { kind = try_kind; found = λ j. try_catch T } ∷
    record { kind = if_kind; found = λ j. if_stmt T j } ∷
    record { kind = return_kind; found = λ j. ret T j } ∷
    record { kind = break_kind; found = λ j. brk T j } ∷
    record { kind = continue_kind; found = λ j. cont T j } ∷
    record { kind = while_kind; found = λ j. while_stmt T j } ∷
    record { kind = left_curly_brace_kind; found = λ j. block T >>= λ b. node (block_row b.node) } ∷
    []

abbrev firsts : View → List Row
firsts T =
    record { kind = class_kind; found = λ j. class T } ∷
    record { kind = fn_kind; found = λ j. fn_stmt T } ∷
    record { kind = let_kind; found = λ j. let_stmt T } ∷
    []

module _ (T : View) (low : Which → Reader) (p : State) (E N : List ℕ) (kind j : ℕ) (n : Next T p.current kind j) where
  abbrev began : ℕ → Reply
  began k = picked T low (expression_stmt T) p E N kind j n 0 (rows T) k

  by : run T low (statement T) p E N ≡ began kind
  unfolding statement
  by = by_kind T low (expression_stmt T) p E N kind j n (rows T) (refl, (refl, (refl, (refl, (refl, (refl, (refl, (refl, tt))))))))

  pub statement_for : kind ≡ for_kind → run T low (statement T) p E N ≡ run T low (for_loop T j) (moved (looked p 1) j) E N
  statement_for h = by ∙ ap began h

  pub statement_try : kind ≡ try_kind → run T low (statement T) p E N ≡ run T low (try_catch T) (moved (looked p 2) j) E N
  statement_try h = by ∙ ap began h

  pub statement_if : kind ≡ if_kind → run T low (statement T) p E N ≡ run T low (if_stmt T j) (moved (looked p 3) j) E N
  statement_if h = by ∙ ap began h

  pub statement_return : kind ≡ return_kind → run T low (statement T) p E N ≡ run T low (ret T j) (moved (looked p 4) j) E N
  statement_return h = by ∙ ap began h

  pub statement_break : kind ≡ break_kind → run T low (statement T) p E N ≡ run T low (brk T j) (moved (looked p 5) j) E N
  statement_break h = by ∙ ap began h

  pub statement_continue : kind ≡ continue_kind → run T low (statement T) p E N ≡ run T low (cont T j) (moved (looked p 6) j) E N
  statement_continue h = by ∙ ap began h

  pub statement_while : kind ≡ while_kind → run T low (statement T) p E N ≡ run T low (while_stmt T j) (moved (looked p 7) j) E N
  statement_while h = by ∙ ap began h

  pub statement_block : kind ≡ left_curly_brace_kind → run T low (statement T) p E N ≡ run T low (block T >>= λ b. node (block_row b.node)) (moved (looked p 8) j) E N
  statement_block h = by ∙ ap began h

  pub statement_else : (kind ≡ for_kind → ⊥) → (kind ≡ try_kind → ⊥) → (kind ≡ if_kind → ⊥) → (kind ≡ return_kind → ⊥) → (kind ≡ break_kind → ⊥) → (kind ≡ continue_kind → ⊥) → (kind ≡ while_kind → ⊥) → (kind ≡ left_curly_brace_kind → ⊥) → run T low (statement T) p E N ≡ run T low (expression_stmt T) (looked p 8) E N
  unfolding statement
  statement_else a b c d e f g h = by_none T low (expression_stmt T) p E N kind j n (rows T) (refl, (refl, (refl, (refl, (refl, (refl, (refl, (refl, tt)))))))) (a, (b, (c, (d, (e, (f, (g, (h, tt))))))))

  -- ---- `declaration`
  abbrev begun : ℕ → Reply
  begun k = picked T low (statement T) p E N kind j n 0 (firsts T) k

  begins : run T low (declaration T) p E N ≡ begun kind
  unfolding declaration
  begins = by_kind T low (statement T) p E N kind j n (firsts T) (refl, (refl, (refl, tt)))

  pub declaration_class : kind ≡ class_kind → run T low (declaration T) p E N ≡ run T low (class T) (moved (looked p 1) j) E N
  declaration_class h = begins ∙ ap begun h

  pub declaration_fn : kind ≡ fn_kind → run T low (declaration T) p E N ≡ run T low (fn_stmt T) (moved (looked p 2) j) E N
  declaration_fn h = begins ∙ ap begun h

  pub declaration_let : kind ≡ let_kind → run T low (declaration T) p E N ≡ run T low (let_stmt T) (moved (looked p 3) j) E N
  declaration_let h = begins ∙ ap begun h

  pub declaration_else : (kind ≡ class_kind → ⊥) → (kind ≡ fn_kind → ⊥) → (kind ≡ let_kind → ⊥) → run T low (declaration T) p E N ≡ run T low (statement T) (looked p 3) E N
  unfolding declaration
  declaration_else a b c = by_none T low (statement T) p E N kind j n (firsts T) (refl, (refl, (refl, tt))) (a, (b, (c, tt)))
