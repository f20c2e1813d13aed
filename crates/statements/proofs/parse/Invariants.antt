use Rattle.std.proofs.Common.{◌≡◌, ℕ, suc, ◌-◌, ◌≤◌, List, length}
use Rattle.parser.specs.declared.State.{State}
use Rattle.parser.specs.Tokens.{View, view, count}
use Rattle.parser.specs.Whole.{statements}
use Rattle.statements.proofs.parse.Given as goal

-- the statements that are left are the rest of the whole, with fuel for a turn for each token that is left
pub record ParseInv (T : View) (E₀ N₀ : List ℕ) (s₀ : State) (E N : List ℕ) (s : State) (first last : ℕ) : Type 0 where
  pub fuel : ℕ
  pub enough : count T.tokens - s.current ≤ fuel
  pub same : statements (suc fuel) T first last s E N ≡ statements (suc (count T.tokens)) T 0 0 s₀ E₀ N₀
  pub errors : length E ≡ length E₀
  pub nodes : length N ≡ length N₀

abbrev pub invariant-loop-t : goal.invariant-loop-t
invariant-loop-t l = ParseInv (view l.t) l.initial.errors l.initial.nodes l.initial.s l.errors l.nodes l.s l.list.first l.list.last

abbrev pub decreases-loop-t : goal.decreases-loop-t
decreases-loop-t l = count l.t.table.now - l.s.current
