use Rattle.std.proofs.Common.{◌≡◌, ℕ, suc, ◌+◌, ◌-◌, ◌*◌, ◌≤◌, List, drop, length}
use Rattle.parser.specs.declared.State.{State}
use Rattle.parser.specs.declared.Found.{Found}
use Rattle.parser.specs.Tokens.{View, view, count}
use Rattle.parser.specs.Tables.{Reply}
use Rattle.parser.specs.Programs.{run}
use Rattle.parser.specs.Grammar.{lower, levels, arguments_from, block_from, call_from, elifs_from, methods_from, dict_elements_from}
use Rattle.pieces.specs.Pieces.{end_class}
use Rattle.operators.specs.Operators.{onward}
use Rattle.grammar.proofs.+grammar.Given as goal

-- ---- the measure of the cycle: how many levels may still open, and within a level how far below `declaration` and `assignment` a reader is
abbrev pub decreases-declaration : goal.decreases-declaration
decreases-declaration l = l.levels * 32

abbrev pub decreases-assignment : goal.decreases-assignment
decreases-assignment l = l.levels * 32

abbrev pub decreases-block : goal.decreases-block
decreases-block l = l.levels * 32 + 1

abbrev pub decreases-let_stmt : goal.decreases-let_stmt
decreases-let_stmt l = l.levels * 32 + 1

abbrev pub decreases-for_c : goal.decreases-for_c
decreases-for_c l = l.levels * 32 + 1

abbrev pub decreases-for_in : goal.decreases-for_in
decreases-for_in l = l.levels * 32 + 1

abbrev pub decreases-try_catch : goal.decreases-try_catch
decreases-try_catch l = l.levels * 32 + 1

abbrev pub decreases-ret : goal.decreases-ret
decreases-ret l = l.levels * 32 + 1

abbrev pub decreases-while_stmt : goal.decreases-while_stmt
decreases-while_stmt l = l.levels * 32 + 1

abbrev pub decreases-arguments : goal.decreases-arguments
decreases-arguments l = l.levels * 32 + 1

abbrev pub decreases-pairs : goal.decreases-pairs
decreases-pairs l = l.levels * 32 + 1

abbrev pub decreases-func : goal.decreases-func
decreases-func l = l.levels * 32 + 2

abbrev pub decreases-elifs : goal.decreases-elifs
decreases-elifs l = l.levels * 32 + 2

abbrev pub decreases-upto : goal.decreases-upto
decreases-upto l = l.levels * 32 + 2

abbrev pub decreases-slice : goal.decreases-slice
decreases-slice l = l.levels * 32 + 2

abbrev pub decreases-for_loop : goal.decreases-for_loop
decreases-for_loop l = l.levels * 32 + 2

abbrev pub decreases-fn_stmt : goal.decreases-fn_stmt
decreases-fn_stmt l = l.levels * 32 + 3

abbrev pub decreases-fn_expr : goal.decreases-fn_expr
decreases-fn_expr l = l.levels * 32 + 3

abbrev pub decreases-if_stmt : goal.decreases-if_stmt
decreases-if_stmt l = l.levels * 32 + 3

abbrev pub decreases-access : goal.decreases-access
decreases-access l = l.levels * 32 + 3

abbrev pub decreases-methods : goal.decreases-methods
decreases-methods l = l.levels * 32 + 4

abbrev pub decreases-stmt : goal.decreases-stmt
decreases-stmt l = l.levels * 32 + 4

abbrev pub decreases-primary : goal.decreases-primary
decreases-primary l = l.levels * 32 + 4

abbrev pub decreases-class : goal.decreases-class
decreases-class l = l.levels * 32 + 5

abbrev pub decreases-call : goal.decreases-call
decreases-call l = l.levels * 32 + 5

abbrev pub decreases-unary : goal.decreases-unary
decreases-unary l = l.levels * 32 + 6

abbrev pub decreases-binary : goal.decreases-binary
decreases-binary l = l.levels * 32 + 7 + (7 - l.looser)

-- ---- the loops: what is left to read is the rest of the whole, with fuel for a turn for each token that is left
-- the arguments; there are no more of them than tokens passed
pub record ArgumentsInv (T : View) (l mark : ℕ) (E₀ N₀ : List ℕ) (s₀ : State) (E N : List ℕ) (s : State) (first last n : ℕ) : Type 0 where
  pub fuel : ℕ
  pub enough : count T.tokens - s.current ≤ fuel
  pub passed : n ≤ s.current
  pub same : run T (lower T l) (arguments_from T mark (suc fuel) n first last) s E N ≡ run T (lower T l) (arguments_from T mark (suc (count T.tokens)) 0 0 0) s₀ E₀ N₀
  pub errors : length E ≡ length E₀
  pub nodes : length N ≡ length N₀

abbrev pub invariant-arguments-loop-n : goal.invariant-arguments-loop-n
invariant-arguments-loop-n l = ArgumentsInv (view l.t) l.levels l.mark l.initial.errors l.initial.nodes l.initial.s l.errors l.nodes l.s l.list.first l.list.last l.n

abbrev pub decreases-arguments-loop-n : goal.decreases-arguments-loop-n
decreases-arguments-loop-n l = count l.t.table.now - l.s.current

-- the turns of a binary operator's loop, with r the tightest level that is open
abbrev pub operations_from : View → ℕ → ℕ → ℕ → ℕ → Found → State → List ℕ → List ℕ → Reply
operations_from T l looser f r g p E N = run T (lower T l) (onward T f (drop looser levels) (r - looser) g) p E N

-- those turns
pub record BinaryInv (T : View) (l looser : ℕ) (E₀ N₀ : List ℕ) (g₀ : Found) (s₀ : State) (E N : List ℕ) (g : Found) (s : State) (r : ℕ) : Type 0 where
  pub fuel : ℕ
  pub enough : count T.tokens - s.current ≤ fuel
  pub within : r ≤ 7
  pub same : operations_from T l looser (suc fuel) r g s E N ≡ operations_from T l looser (suc (count T.tokens)) 7 g₀ s₀ E₀ N₀
  pub errors : length E ≡ length E₀
  pub nodes : length N ≡ length N₀

abbrev pub invariant-binary-loop-rank : goal.invariant-binary-loop-rank
invariant-binary-loop-rank l = BinaryInv (view l.t) l.levels l.looser l.initial.errors l.initial.nodes l.initial.left l.initial.s l.errors l.nodes l.left l.s l.r

abbrev pub decreases-binary-loop-rank : goal.decreases-binary-loop-rank
decreases-binary-loop-rank l = count l.t.table.now - l.s.current

-- the statements of a block
pub record BlockInv (T : View) (l : ℕ) (E₀ N₀ : List ℕ) (s₀ : State) (E N : List ℕ) (s : State) (first last : ℕ) : Type 0 where
  pub fuel : ℕ
  pub enough : count T.tokens - s.current ≤ fuel
  pub same : run T (lower T l) (block_from T (suc fuel) first last) s E N ≡ run T (lower T l) (block_from T (suc (count T.tokens)) 0 0) s₀ E₀ N₀
  pub errors : length E ≡ length E₀
  pub nodes : length N ≡ length N₀

abbrev pub invariant-block-loop-i : goal.invariant-block-loop-i
invariant-block-loop-i l = BlockInv (view l.t) l.levels l.initial.errors l.initial.nodes l.initial.s l.errors l.nodes l.s l.list.first l.list.last

abbrev pub decreases-block-loop-i : goal.decreases-block-loop-i
decreases-block-loop-i l = count l.t.table.now - l.s.current

-- what may stand behind an operand: calls, properties and places
abbrev pub suffixes_from : View → ℕ → ℕ → Found → State → List ℕ → List ℕ → Reply
suffixes_from T l f e q E N = run T (lower T l) (call_from T f e) q E N

-- those
pub record CallInv (T : View) (l : ℕ) (E₀ N₀ : List ℕ) (e₀ : Found) (q₀ : State) (E N : List ℕ) (e : Found) (q : State) : Type 0 where
  pub fuel : ℕ
  pub enough : count T.tokens - q.current ≤ fuel
  pub same : suffixes_from T l (suc fuel) e q E N ≡ suffixes_from T l (suc (count T.tokens)) e₀ q₀ E₀ N₀
  pub errors : length E ≡ length E₀
  pub nodes : length N ≡ length N₀

abbrev pub invariant-call-loop-mark : goal.invariant-call-loop-mark
invariant-call-loop-mark l = CallInv (view l.t) l.levels l.initial.errors l.initial.nodes l.initial.e l.initial.q l.errors l.nodes l.e l.q

abbrev pub decreases-call-loop-mark : goal.decreases-call-loop-mark
decreases-call-loop-mark l = count l.t.table.now - l.q.current

-- the branches of an `elif`
pub record ElifsInv (T : View) (l : ℕ) (E₀ N₀ : List ℕ) (s₀ : State) (E N : List ℕ) (s : State) (first last : ℕ) : Type 0 where
  pub fuel : ℕ
  pub enough : count T.tokens - s.current ≤ fuel
  pub same : run T (lower T l) (elifs_from T (suc fuel) first last) s E N ≡ run T (lower T l) (elifs_from T (suc (count T.tokens)) 0 0) s₀ E₀ N₀
  pub errors : length E ≡ length E₀
  pub nodes : length N ≡ length N₀

abbrev pub invariant-elifs-loop-i : goal.invariant-elifs-loop-i
invariant-elifs-loop-i l = ElifsInv (view l.t) l.levels l.initial.errors l.initial.nodes l.initial.s l.errors l.nodes l.s l.list.first l.list.last

abbrev pub decreases-elifs-loop-i : goal.decreases-elifs-loop-i
decreases-elifs-loop-i l = count l.t.table.now - l.s.current

-- the methods of a class
pub record MethodsInv (T : View) (l name sup : ℕ) (E₀ N₀ : List ℕ) (s₀ : State) (E N : List ℕ) (s : State) (first last first_static last_static : ℕ) : Type 0 where
  pub fuel : ℕ
  pub enough : count T.tokens - s.current ≤ fuel
  pub same : run T (lower T l) (methods_from T (suc fuel) (end_class name sup) first last first_static last_static) s E N ≡ run T (lower T l) (methods_from T (suc (count T.tokens)) (end_class name sup) 0 0 0 0) s₀ E₀ N₀
  pub errors : length E ≡ length E₀
  pub nodes : length N ≡ length N₀

abbrev pub invariant-methods-loop-i : goal.invariant-methods-loop-i
invariant-methods-loop-i l = MethodsInv (view l.t) l.levels l.name l.sup l.initial.errors l.initial.nodes l.initial.s l.errors l.nodes l.s l.list.first l.list.last l.statics.first l.statics.last

abbrev pub decreases-methods-loop-i : goal.decreases-methods-loop-i
decreases-methods-loop-i l = count l.t.table.now - l.s.current

-- the pairs of a dictionary
pub record PairsInv (T : View) (l : ℕ) (E₀ N₀ : List ℕ) (s₀ : State) (E N : List ℕ) (s : State) (first last : ℕ) : Type 0 where
  pub fuel : ℕ
  pub enough : count T.tokens - s.current ≤ fuel
  pub same : run T (lower T l) (dict_elements_from T (suc fuel) first last) s E N ≡ run T (lower T l) (dict_elements_from T (suc (count T.tokens)) 0 0) s₀ E₀ N₀
  pub errors : length E ≡ length E₀
  pub nodes : length N ≡ length N₀

abbrev pub invariant-pairs-loop-i : goal.invariant-pairs-loop-i
invariant-pairs-loop-i l = PairsInv (view l.t) l.levels l.initial.errors l.initial.nodes l.initial.s l.errors l.nodes l.s l.list.first l.list.last

abbrev pub decreases-pairs-loop-i : goal.decreases-pairs-loop-i
decreases-pairs-loop-i l = count l.t.table.now - l.s.current
