-- What statements cost; and every reading that opens a level. Assumes nothing.
use Prim.Native.Nat.{ℕ, zero, suc, ◌+◌, ◌-◌, ◌≤◌}
use native.Mathlib.Omega.{arith}
use Rattle.parser.specs.Tokens.{View}
use Rattle.parser.specs.Programs.{Which, Declaration, Assignment, Operand, Prog}
use Rattle.parser.specs.Grammar.{first_of, fuel, methods_from, class, let_stmt, names_from, enhanced_for, classic_for, for_loop, try_catch, elifs_from, else_from, if_stmt, ret, brk, cont, while_stmt, statement, declaration, body}
use Rattle.looks.proofs.Owed.{Cost, gain, loss}
use Rattle.looks.proofs.Functions.{block_cost, expression_stmt_cost, fn_stmt_cost}
use Rattle.looks.proofs.Expressions.{unary_cost, assignment_cost}

module _ (T : View) where
  methods_from_cost : (f : ℕ) (k : ℕ → ℕ → Prog) (m n s t D a b : ℕ) → a + 3 ≤ D → 27 ≤ D → ((x y : ℕ) → Cost D (a + 1) (k x y) b) → Cost D a (methods_from T f k m n s t) b
  unfolding methods_from
  methods_from_cost zero k m n s t D a b h l g = omega arith
  methods_from_cost (suc f) k m n s t D a b h l g = (
    g m s,
    (
      g m s,
      (
        λ i. (a, fn_stmt_cost T D _ a (omega arith) (omega arith) l, λ q. (a, omega arith, methods_from_cost f k m n (first_of s q.node) q.node D a b h l g)),
        (a, fn_stmt_cost T D _ a (omega arith) (omega arith) l, λ q. (a, omega arith, methods_from_cost f k (first_of m q.node) q.node s t D a b h l g)),
      ),
    ),
  )

  class_cost : (D a b : ℕ) → a + 5 ≤ b → a + 6 ≤ D → 27 ≤ D → Cost D a (class T) b
  unfolding class
  class_cost D a b h g l = (a + 1, (omega arith, omega arith), λ name. (a + 2, (λ i. (a + 1, (omega arith, omega arith), λ s. (omega arith, omega arith)), omega arith), λ sup. (a + 3, (omega arith, omega arith), methods_from_cost (fuel T) _ 0 0 0 0 D (a + 3) b (omega arith) l λ x y. (a + 5, (omega arith, omega arith), (h, omega arith)))))

  let_cost : (D a b : ℕ) → 1 ≤ b → a ≤ b + 43 → a + 1 ≤ D → 15 ≤ D → Cost D a (let_stmt T) b
  unfolding let_stmt
  let_cost D a b k h g l = (a - 44, (omega arith, omega arith), λ name. (a - 44 + 1, (λ i. (omega arith, omega arith), omega arith), λ init. (omega arith, omega arith)))

  names_from_cost : (f first last D a b : ℕ) → 1 ≤ a → a + 1 ≤ b → a ≤ D → Cost D a (names_from T f first last) b
  unfolding names_from
  names_from_cost zero first last D a b k h g = g
  names_from_cost (suc f) first last D a b k h g = (λ i. (a + 1 - 45, (omega arith, omega arith), λ n. (a + 1 - 45, omega arith, (a, (λ j. omega arith, omega arith), names_from_cost f (first_of first n.node) n.node D a b k h g))), h)

  enhanced_cost : (keyword D a b : ℕ) → 1 ≤ a → a ≤ b + 11 → a + 17 ≤ D → 26 ≤ D → Cost D a (enhanced_for T keyword) b
  unfolding enhanced_for
  enhanced_cost keyword D a b k h g l = (a + 1, names_from_cost (fuel T) 0 0 D a (a + 1) k (omega arith) (omega arith), λ ids. (a + 2, (omega arith, omega arith), (a + 2 - 12, (omega arith, omega arith), λ v. (a + 2 - 13, (omega arith, omega arith), λ s. (a + 2 - 13, omega arith, (omega arith, omega arith))))))

  classic_cost : (keyword D a b : ℕ) → a ≤ b + 22 → a + 17 ≤ D → 26 ≤ D → Cost D a (classic_for T keyword) b
  unfolding classic_for
  classic_cost keyword D a b h g l = (
    a + 2,
    (λ i. omega arith, (λ i. (a + 1, let_cost D _ (a + 1) (omega arith) (omega arith) (omega arith) (omega arith), λ n. (a + 2, (omega arith, omega arith), omega arith)), (a + 2, (omega arith, omega arith), omega arith))),
    λ init. (a + 2 - 12, (omega arith, omega arith), λ v. (a + 2 - 12 + 1, (omega arith, omega arith), (a - 21, (omega arith, omega arith), λ inc. (a - 22, (omega arith, omega arith), λ s. (a - 22, omega arith, (omega arith, omega arith)))))),
  )

  for_cost : (keyword D a b : ℕ) → a ≤ b + 10 → a + 18 ≤ D → 26 ≤ D → Cost D a (for_loop T keyword) b
  unfolding for_loop
  for_cost keyword D a b h g l = (a, omega arith, (enhanced_cost keyword D (a + 1) b (omega arith) (omega arith) (omega arith) l, classic_cost keyword D (a + 1) b (omega arith) (omega arith) l))

  try_cost : (D a b : ℕ) → 1 ≤ a → a ≤ b + 45 → a + 26 ≤ D → Cost D a (try_catch T) b
  unfolding try_catch
  try_cost D a b k h g = (a - 1, (omega arith, omega arith), λ s. (a, (omega arith, omega arith), (a - 44, (omega arith, omega arith), λ n. (a - 45, (omega arith, omega arith), λ t. (omega arith, omega arith)))))

  elifs_from_cost : (f first last D a b : ℕ) → a + 1 ≤ b → a ≤ D → 28 ≤ D → Cost D a (elifs_from T f first last) b
  unfolding elifs_from
  elifs_from_cost zero first last D a b h g l = g
  elifs_from_cost (suc f) first last D a b h g l = (λ i. (a - 56, (omega arith, omega arith), λ v. (a - 56 + 1, (omega arith, omega arith), (a, block_cost T D (a - 56 + 1) a (omega arith) (omega arith), λ s. (a, (omega arith, g), λ n. (a, omega arith, elifs_from_cost f (first_of first n.node) n.node D a b h g l))))), h)

  else_from_cost : (f first last D a b : ℕ) → a + 1 ≤ b → a + 27 ≤ D → Cost D a (else_from T f first last) b
  unfolding else_from
  else_from_cost zero first last D a b h g = omega arith
  else_from_cost (suc f) first last D a b h g = (h, (a, (omega arith, omega arith), λ n. (a, omega arith, else_from_cost f (first_of first n.node) n.node D a b h g)))

  if_cost : (keyword D a b : ℕ) → 3 ≤ b → a ≤ b + 52 → a + 16 ≤ D → 28 ≤ D → Cost D a (if_stmt T keyword) b
  unfolding if_stmt
  if_cost keyword D a b k h g l = (
    a - 12,
    (omega arith, omega arith),
    λ v. (
      a - 12 + 1,
      (omega arith, omega arith),
      (
        e,
        block_cost T D (a - 12 + 1) e (omega arith) (omega arith),
        λ s. (
          e + 1,
          elifs_from_cost (fuel T) 0 0 D e (e + 1) (omega arith) (omega arith) l,
          λ n. (
            e + 3,
            (λ i. (e + 1 + 1 - 45 + 1, (omega arith, omega arith), (e + 1 + 1 - 45 + 2, else_from_cost (fuel T) 0 0 D (e + 1 + 1 - 45 + 1) (e + 1 + 1 - 45 + 2) (omega arith) (omega arith), λ n. (e + 3, (omega arith, omega arith), omega arith))), omega arith),
            λ others. (omega arith, omega arith),
          ),
        ),
      ),
    ),
  )
    where
      e : ℕ
      e = a - 55

  ret_cost : (keyword D a b : ℕ) → a + 1 ≤ b → a + 16 ≤ D → Cost D a (ret T keyword) b
  unfolding ret
  ret_cost keyword D a b h g = (a + 1, (omega arith, (omega arith, omega arith)), λ v. (h, omega arith))

  brk_cost : (keyword D a b : ℕ) → a ≤ b → a ≤ D → Cost D a (brk T keyword) b
  unfolding brk
  brk_cost keyword D a b h g = (a, (omega arith, (omega arith, g)), (h, g))

  cont_cost : (keyword D a b : ℕ) → a ≤ b → a ≤ D → Cost D a (cont T keyword) b
  unfolding cont
  cont_cost keyword D a b h g = (a, (omega arith, (omega arith, g)), (h, g))

  while_cost : (keyword D a b : ℕ) → a ≤ b + 13 → a + 15 ≤ D → 26 ≤ D → Cost D a (while_stmt T keyword) b
  unfolding while_stmt
  while_cost keyword D a b h g l = (a, omega arith, (a - 12, (omega arith, omega arith), λ v. (a - 13, (omega arith, omega arith), λ s. (a - 13, omega arith, (omega arith, omega arith)))))

  -- at the debt at which `declaration` comes to it
  statement_cost : Cost 126 103 (statement T) 99
  unfolding statement
  statement_cost = (
    λ i. for_cost i 126 59 99 (omega arith) (omega arith) (omega arith),
    (
      λ i. try_cost 126 60 99 (omega arith) (omega arith) (omega arith),
      (
        λ i. if_cost i 126 61 99 (omega arith) (omega arith) (omega arith) (omega arith),
        (
          λ i. ret_cost i 126 62 99 (omega arith) (omega arith),
          (
            λ i. brk_cost i 126 63 99 (omega arith) (omega arith),
            (
              λ i. cont_cost i 126 64 99 (omega arith) (omega arith),
              (
                λ i. while_cost i 126 65 99 (omega arith) (omega arith) (omega arith),
                (
                  λ i. (22, block_cost T 126 66 22 (omega arith) (omega arith), λ s. (omega arith, omega arith)),
                  expression_stmt_cost T 126 111 99 (omega arith) (omega arith),
                ),
              ),
            ),
          ),
        ),
      ),
    ),
  )

  declaration_cost : Cost 126 100 (declaration T) 99
  unfolding declaration
  declaration_cost = (λ i. class_cost 126 56 99 (omega arith) (omega arith) (omega arith), (λ i. fn_stmt_cost T 126 57 99 (omega arith) (omega arith) (omega arith), (λ i. let_cost 126 58 99 (omega arith) (omega arith) (omega arith) (omega arith), statement_cost)))

  -- with 100 so that a credit is no debt below 0
  pub body_cost : (w : Which) → Cost (100 + loss w) 100 (body T w) (100 - gain w)
  unfolding body
  body_cost Declaration = declaration_cost
  body_cost Assignment = assignment_cost T
  body_cost Operand = unary_cost T 115 100 73 (omega arith) (omega arith) (omega arith) (omega arith) (omega arith)
