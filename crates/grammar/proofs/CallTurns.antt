-- A turn of `call` by the kind of the next token. Assumes nothing.
use mathlib.Core.Path.{◌≡◌, refl, sym, ap, ◌∙◌}
use mathlib.Core.List.{List, [], ◌∷◌}
use Prim.Native.Nat.{ℕ, suc}
use native.Mathlib.Omega.{arith}
use Rattle.token.specs.Kind.{left_paren_kind, left_brace_kind, dot_kind, identifier_kind}
use Rattle.parser.specs.Tokens.{View}
use Rattle.parser.specs.declared.State.{State}
use Rattle.parser.specs.declared.Found.{Found}
use Rattle.parser.specs.Tables.{Node}
use Rattle.parser.specs.Tables.{Reply, reply, moved, looked, plain, and_then, require_at, push_node}
use Rattle.parser.specs.Nodes.{get_row}
use Rattle.parser.specs.Programs.{Which, Reader, give, ◌>>=◌, node, require, run}
use Rattle.parser.specs.Grammar.{property, finish_call, access, call_from}
use Rattle.pieces.specs.Pieces.{get, place_in, suffixes}
use Rattle.pieces.proofs.NextKind.{Next, Row, picked, by_kind, by_none, of_none}
use Rattle.pieces.proofs.Then.{then_then, then_same}

module _ (T : View) (low : Which → Reader) (f : ℕ) (e : Found) (p : State) (E N : List ℕ) (kind j : ℕ) (n : Next T p.current kind j) where
  -- the tests of a turn
  abbrev rows : List Row
  rows =
      record { kind = left_paren_kind; found = λ j. finish_call T e >>= λ n. call_from T f n } ∷
      record { kind = dot_kind; found = λ j. require identifier_kind 25 >>= λ name. node (get_row e.node name.node) >>= λ n. call_from T f (property name.node e.node n.node) } ∷
      record { kind = left_brace_kind; found = λ j. access T e j >>= λ n. call_from T f n } ∷
      []

  abbrev began : ℕ → Reply
  began k = picked T low (give e) p E N kind j n 0 rows k

  by : run T low (call_from T (suc f) e) p E N ≡ began kind
  unfolding call_from
  by = by_kind T low (give e) p E N kind j n rows (refl, (refl, (refl, tt)))

  -- then the turns go on
  abbrev on_from : Reply → Reply
  on_from r = and_then r λ n q E N. run T low (call_from T f n) q E N

  pub call_paren : kind ≡ left_paren_kind → run T low (call_from T (suc f) e) p E N ≡ on_from (run T low (finish_call T (plain e.node)) (moved (looked p 1) j) E N)
  unfolding run finish_call
  call_paren h = by ∙ ap began h

  pub call_dot : kind ≡ dot_kind → run T low (call_from T (suc f) e) p E N ≡ on_from (run T low (get e.node) (moved (looked p 2) j) E N)
  unfolding run
  call_dot h = by ∙ ap began h ∙ sym (then_then (require_at T identifier_kind 25 (moved (looked p 2) j) E N) _ _ ∙ then_same (require_at T identifier_kind 25 (moved (looked p 2) j) E N) _ _ λ name q E N. then_then (push_node (get_row e.node name.node) q E N) _ _)

  pub call_brace : kind ≡ left_brace_kind → run T low (call_from T (suc f) e) p E N ≡ on_from (run T low (access T e j) (moved (looked p 3) j) E N)
  unfolding run
  call_brace h = by ∙ ap began h

  pub call_end_lem : (kind ≡ left_paren_kind → ⊥) → (kind ≡ dot_kind → ⊥) → (kind ≡ left_brace_kind → ⊥) → run T low (call_from T (suc f) e) p E N ≡ reply (looked p 3) (Node e) E N
  unfolding run call_from
  call_end_lem a b c = by_none T low (give e) p E N kind j n rows (refl, (refl, (refl, tt))) (a, (b, (c, tt)))

  pub call_else : (i : ℕ) → i ≡ place_in 1 suffixes kind → i ≡ 0 → run T low (call_from T (suc f) e) p E N ≡ reply (looked p 3) (Node e) E N
  call_else i e h = let z = of_none suffixes 1 kind (omega arith) (sym e ∙ h) in call_end_lem z.0 z.1.0 z.1.1.0
