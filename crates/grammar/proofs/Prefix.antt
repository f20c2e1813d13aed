-- `unary` by the kind of the next token. Assumes nothing.
use mathlib.Core.Path.{◌≡◌, refl, sym, ap, ◌∙◌}
use mathlib.Core.List.{List, [], ◌∷◌}
use Prim.Native.Nat.{ℕ}
use native.Mathlib.Omega.{arith}
use Rattle.token.specs.Kind.{not_kind, minus_kind}
use Rattle.parser.specs.Tokens.{View}
use Rattle.parser.specs.declared.State.{State}
use Rattle.parser.specs.Tables.{Reply, moved, looked}
use Rattle.parser.specs.Nodes.{unary_row}
use Rattle.parser.specs.Programs.{Which, Reader, Operand, Prog, ◌>>=◌, node, down, run}
use Rattle.parser.specs.Grammar.{call, unary}
use Rattle.pieces.specs.Pieces.{place_in, prefixes}
use Rattle.pieces.proofs.NextKind.{Next, Row, picked, by_kind, by_none, of_place, of_none}

module _ (T : View) (low : Which → Reader) (p : State) (E N : List ℕ) (kind j : ℕ) (n : Next T p.current kind j) where
  -- an operand one level down, and the node
  abbrev prefixed : ℕ → Prog
  prefixed j = down Operand >>= λ right. node (unary_row j right.node)

  -- the tests of `unary`
  abbrev rows : List Row
  rows = record { kind = not_kind; found = prefixed } ∷ record { kind = minus_kind; found = prefixed } ∷ []

  abbrev began : ℕ → Reply
  began k = picked T low (call T) p E N kind j n 0 rows k

  by : run T low (unary T) p E N ≡ began kind
  unfolding unary
  by = by_kind T low (call T) p E N kind j n rows (refl, (refl, tt))

  -- either of them, and its place is the number of looks
  pub unary_prefix : (i : ℕ) → i ≡ place_in 1 prefixes kind → (i ≡ 0 → ⊥) → run T low (unary T) p E N ≡ run T low (prefixed j) (moved (looked p i) j) E N
  unfolding place_in
  unary_prefix i e h = by ∙ of_place (λ k. began k ≡ run T low (prefixed j) (moved (looked p (place_in 1 prefixes k)) j) E N) prefixes (refl, (refl, tt)) 1 kind (λ z. h (e ∙ z)) ∙ ap (λ (i : ℕ). run T low (prefixed j) (moved (looked p i) j) E N) (sym e)

  pub unary_else : (i : ℕ) → i ≡ place_in 1 prefixes kind → i ≡ 0 → run T low (unary T) p E N ≡ run T low (call T) (looked p 2) E N
  unfolding unary
  unary_else i e h =
      let z = of_none prefixes 1 kind (omega arith) (sym e ∙ h) in
      by_none T low (call T) p E N kind j n rows (refl, (refl, tt)) (z.0, (z.1.0, tt))
