-- What blocks and functions cost. Each law asks of the debt a at entry, of b where a node is given and of D where it stops just what its reader needs. Assumes nothing.
use mathlib.Core.Bool.{Bool, true, false}
use Prim.Native.Nat.{ℕ, zero, suc, ◌+◌, ◌-◌, ◌≤◌}
use native.Mathlib.Omega.{arith}
use lib.Dec.{ltb}
use Rattle.parser.specs.Tokens.{View}
use Rattle.parser.specs.Programs.{Prog}
use Rattle.parser.specs.Grammar.{first_of, when, fuel, block_from, block, expression_stmt, parameters_from, parameters, function_body, fn_stmt, fn_expr}
use Rattle.looks.proofs.Owed.{Cost}

pub when_cost : (t : Bool) (D a b : ℕ) (P Q : Prog) → Cost D a P b → Cost D a Q b → Cost D a (when t P Q) b
when_cost true D a b P Q g h = g
when_cost false D a b P Q g h = h

module _ (T : View) where
  block_from_cost : (f first last D a b : ℕ) → a ≤ b + 44 → a + 27 ≤ D → Cost D a (block_from T f first last) b
  unfolding block_from
  block_from_cost zero first last D a b h g = omega arith
  block_from_cost (suc f) first last D a b h g = (λ i. omega arith, (a, (omega arith, omega arith), λ n. (a, omega arith, block_from_cost f (first_of first n.node) n.node D a b h g)))

  pub block_cost : (D a b : ℕ) → a ≤ b + 44 → a + 27 ≤ D → Cost D a (block T) b
  unfolding block
  block_cost D a b h g = block_from_cost (fuel T) 0 0 D a b h g

  pub expression_stmt_cost : (D a b : ℕ) → a ≤ b + 12 → a + 15 ≤ D → Cost D a (expression_stmt T) b
  unfolding expression_stmt
  expression_stmt_cost D a b h g = (a - 12, (omega arith, omega arith), λ e. (a - 12, omega arith, λ t. (omega arith, omega arith)))

  parameters_from_cost : (message f n first last D a b : ℕ) → 1 ≤ b → a ≤ b + 43 → a + 1 ≤ D → Cost D a (parameters_from T message f n first last) b
  unfolding parameters_from
  parameters_from_cost message zero n first last D a b l h g = omega arith
  parameters_from_cost message (suc f) n first last D a b l h g = when_cost (ltb 255 n) D a b _ _ (a, (omega arith, omega arith), omega arith) (a - 44, (omega arith, omega arith), λ i. (a - 44, (omega arith, omega arith), λ m. (a - 44, omega arith, (λ j. parameters_from_cost message f (n + 1) (first_of first m.node) m.node D (a - 44 + 1 - 45) b l (omega arith) (omega arith), omega arith))))

  parameters_cost : (message D a b : ℕ) → a + 1 ≤ b → a + 2 ≤ D → Cost D a (parameters T message) b
  unfolding parameters
  parameters_cost message D a b h g = (omega arith, parameters_from_cost message (fuel T) 0 0 0 D (a + 1) b (omega arith) (omega arith) (omega arith))

  function_body_cost : (D a b : ℕ) → a ≤ b + 11 → a + 16 ≤ D → 27 ≤ D → Cost D a (function_body T) b
  unfolding function_body
  function_body_cost D a b h g l = (λ i. block_cost D (a + 1 - 45) b (omega arith) (omega arith), expression_stmt_cost D (a + 1) b (omega arith) (omega arith))

  pub fn_stmt_cost : (D a b : ℕ) → a ≤ b + 52 → a + 1 ≤ D → 27 ≤ D → Cost D a (fn_stmt T) b
  unfolding fn_stmt
  fn_stmt_cost D a b h g l = (a - 44, (omega arith, omega arith), λ name. (a - 44 + 1, (omega arith, omega arith), (a - 44 + 2, parameters_cost 11 D (a - 44 + 1) (a - 44 + 2) (omega arith) (omega arith), λ params. (a - 44 + 3, (omega arith, omega arith), (a - 52, function_body_cost D (a - 44 + 3) (a - 52) (omega arith) (omega arith) l, λ stmts. (omega arith, omega arith))))))

  pub fn_expr_cost : (D a b : ℕ) → a ≤ b + 8 → a + 19 ≤ D → 27 ≤ D → Cost D a (fn_expr T) b
  unfolding fn_expr
  fn_expr_cost D a b h g l = (a + 1, (omega arith, omega arith), (a + 2, parameters_cost 14 D (a + 1) (a + 2) (omega arith) (omega arith), λ params. (a + 3, (omega arith, omega arith), (a - 8, function_body_cost D (a + 3) (a - 8) (omega arith) (omega arith) l, λ stmts. (omega arith, omega arith)))))
