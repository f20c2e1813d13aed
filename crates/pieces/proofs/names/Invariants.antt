use Rattle.std.proofs.Common.{◌≡◌, ℕ, suc, ◌-◌, ◌≤◌, List, length}
use Rattle.parser.specs.declared.State.{State}
use Rattle.parser.specs.Tokens.{View, view, count}
use Rattle.parser.specs.Programs.{Which, Reader, run}
use Rattle.parser.specs.Grammar.{names_from}
use Rattle.pieces.proofs.names.Given as goal

-- the names that are left are the rest of the whole, with fuel for a turn for each token that is left
pub record NamesInv (T : View) (N₀ : List ℕ) (s₀ : State) (N : List ℕ) (s : State) (first last : ℕ) : Type 0 where
  pub fuel : ℕ
  pub enough : count T.tokens - s.current ≤ fuel
  pub same : (low : Which → Reader) (E : List ℕ) → run T low (names_from T (suc fuel) first last) s E N ≡ run T low (names_from T (suc (count T.tokens)) 0 0) s₀ E N₀
  pub nodes : length N ≡ length N₀

abbrev pub invariant-loop-i : goal.invariant-loop-i
invariant-loop-i l = NamesInv (view l.t) l.initial.nodes l.initial.s l.nodes l.s l.list.first l.list.last

abbrev pub decreases-loop-i : goal.decreases-loop-i
decreases-loop-i l = count l.t.table.now - l.s.current
