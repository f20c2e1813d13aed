-- Where the statements of an `else` end the brace is there, so the `consume` after them finds it: they are a block, and one look more. Assumes nothing.
use mathlib.Core.Path.{◌≡◌, refl, sym, ap, ◌∙◌}
use mathlib.Core.List.{List}
use Prim.Native.Nat.{ℕ, zero, suc}
use native.Mathlib.Omega.{arith}
use Rattle.records.specs.Table.{linked}
use Rattle.token.specs.Kind.{right_curly_brace_kind}
use Rattle.parser.specs.declared.State.{State}
use Rattle.parser.specs.declared.Found.{Found}
use Rattle.std.specs.Prelude.{Option}
use Rattle.std.specs.Prelude.{Some, None}
use Rattle.parser.specs.Tokens.{View, kind_at, after, skip_lines, check_at, matches_at}
use Rattle.parser.specs.Tables.{Reply, looked, and_then, consume_at}
use Rattle.parser.specs.Programs.{Which, Reader, Declaration, Prog, give, ◌>>=◌, ◌>>◌, consume, run}
use Rattle.parser.specs.Grammar.{block_from, else_from, first_of}
use Rattle.parser.proofs.Look.{skip_end, check_found}
use Rattle.progress.proofs.Leaf.{check_at_lem}
use Rattle.pieces.proofs.NextKind.{matches_passed}
use Rattle.pieces.proofs.Then.{then_then, then_same}

-- the brace that `check` stays on is found by the next `matches` at once
again_there : (T : View) (at i : ℕ) → check_at T at right_curly_brace_kind ≡ Some i → matches_at T i right_curly_brace_kind ≡ Some (after T.tokens i)
again_there T at i e =
    let k : kind_at T.tokens i ≡ right_curly_brace_kind = (check_at_lem T at right_curly_brace_kind i e).1 in
    let s : i ≡ skip_lines T i = skip_end T i λ l. omega arith in
    matches_passed T i right_curly_brace_kind (Some i) (check_found T i right_curly_brace_kind i s (λ z. omega arith) (ap (kind_at T.tokens) (sym s) ∙ k))

-- the statements of an else, and the brace after them
abbrev with_brace : View → ℕ → ℕ → ℕ → Prog
with_brace T f first last = else_from T f first last >>= λ n. consume right_curly_brace_kind 7 >> give n

-- what follows, one look later
abbrev looked_on : (Found → Reader) → Found → Reader
looked_on k f q E N = k f (looked q 1) E N

module _ (T : View) (low : Which → Reader) (k : Found → Reader) where
  pub else_block : (f first last : ℕ) (p : State) (E N : List ℕ) → and_then (run T low (with_brace T f first last) p E N) k ≡ and_then (run T low (block_from T f first last) p E N) (looked_on k)
  unfolding run else_from block_from consume_at
  else_block zero first last p E N = refl
  else_block (suc f) first last p E N = go (check_at T p.current right_curly_brace_kind) refl λ n q E N. else_block f (first_of first n) n q E N
    where
      go : (s : Option ℕ) → check_at T p.current right_curly_brace_kind ≡ s → ((n : ℕ) (q : State) (E N : List ℕ) → and_then (run T low (with_brace T f (first_of first n) n) q E N) k ≡ and_then (run T low (block_from T f (first_of first n) n) q E N) (looked_on k)) → and_then (run T low (with_brace T (suc f) first last) p E N) k ≡ and_then (run T low (block_from T (suc f) first last) p E N) (looked_on k)
      go (Some i) e h = rw (e, matches_passed T p.current right_curly_brace_kind (Some i) (sym e)) (rw (again_there T p.current i e))
      go None e h =
          rw (e, matches_passed T p.current right_curly_brace_kind None (sym e)) (
          ap (λ (r : Reply). and_then r k) (then_then (low Declaration (looked p 1) E N) _ _)
          ∙ then_then (low Declaration (looked p 1) E N) _ _
          ∙ then_same (low Declaration (looked p 1) E N) _ _ (λ n q E N. h n.node q E (linked N last n.node))
          ∙ sym (then_then (low Declaration (looked p 1) E N) _ _)
          )
