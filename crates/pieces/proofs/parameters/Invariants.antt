use Rattle.std.proofs.Common.{◌≡◌, ℕ, suc, ◌-◌, ◌≤◌, List, length}
use Rattle.parser.specs.declared.State.{State}
use Rattle.parser.specs.Tokens.{View, view, count}
use Rattle.parser.specs.Programs.{Which, Reader, run}
use Rattle.parser.specs.Grammar.{parameters_from}
use Rattle.pieces.proofs.parameters.Given as goal

-- the parameters that are left are the rest of the whole, with fuel for a turn for each token that is left
pub record ParametersInv (T : View) (message : ℕ) (E₀ N₀ : List ℕ) (s₀ : State) (E N : List ℕ) (s : State) (first last n : ℕ) : Type 0 where
  pub fuel : ℕ
  pub enough : count T.tokens - s.current ≤ fuel
  pub same : (low : Which → Reader) → run T low (parameters_from T message (suc fuel) n first last) s E N ≡ run T low (parameters_from T message (suc (count T.tokens)) 0 0 0) s₀ E₀ N₀
  pub errors : length E ≡ length E₀
  pub nodes : length N ≡ length N₀

abbrev pub invariant-loop-n : goal.invariant-loop-n
invariant-loop-n l = ParametersInv (view l.t) l.message l.initial.errors l.initial.nodes l.initial.s l.errors l.nodes l.s l.list.first l.list.last l.n

abbrev pub decreases-loop-n : goal.decreases-loop-n
decreases-loop-n l = count l.t.table.now - l.s.current
