-- What every reader makes of nodes, and of errors. Each law asks just what its reader needs of the debt a at entry, of b where a node is given and of D where it stops. Assumes nothing.
use mathlib.Core.Path.{◌≡◌, refl}
use mathlib.Core.List.{List, [], ◌∷◌}
use mathlib.Core.Bool.{Bool, true, false, ◌&&◌}
use Prim.Native.Nat.{ℕ, zero, suc, ◌+◌, ◌-◌, ◌*◌, ◌≤◌}
use native.Mathlib.Omega.{arith}
use lib.Dec.{leb, ltb, eqb}
use Rattle.token.specs.Kind.{right_paren_kind, right_brace_kind}
use Rattle.parser.specs.Tokens.{View}
use Rattle.parser.specs.declared.Form.{Form}
use Rattle.parser.specs.declared.Form.TheVariants.{Other, Empty, Name, Property}
use Rattle.parser.specs.declared.Found.{Found}
use Rattle.parser.specs.Programs.{Which, Declaration, Assignment, Operand, Prog}
use Rattle.parser.specs.Grammar.{first_of, property, when, assigned, Level, levels, fuel, block_from, block, expression_stmt, parameters_from, parameters, function_body, fn_stmt, fn_expr, methods_from, class, let_stmt, names_from, enhanced_for, classic_for, for_loop, try_catch, elifs_from, else_from, if_stmt, ret, brk, cont, while_stmt, statement, declaration, arguments_from, arguments, list, dict_elements_from, dictionary, closed, third_part, slice, access, super_expr, primary, finish_call, call_from, call, unary, look_many, binary_from, binary, assignment, body}
use Rattle.rooms.specs.Allowed.{Counted, nodes, errors, per_node, per_error}
use Rattle.rooms.proofs.Allowed.{allows_some}
use Rattle.rooms.proofs.Owed.{Cost, gain}

-- ---- levels of operators
-- no operator is EOF
abbrev Tokens : List ℕ → Type 0
Tokens [] = Unit {0}
Tokens (zero ∷ ks) = ⊥
Tokens (suc k ∷ ks) = Tokens ks

abbrev AllTokens : List Level → Type 0
AllTokens [] = Unit {0}
AllTokens (l ∷ ls) = Tokens l.operators × AllTokens ls

-- how many levels there are
abbrev deep : List Level → ℕ
deep [] = 0
deep (l ∷ ls) = deep ls + 1

-- ---- the readers. No debt is below 0, so where a token that is passed is to pay for a node after it, the debt before is held at 1 at the least: `a - 1 + 1` is a, but 1 for 0
-- a node is counted, or an error
pub one_counts : (x : Counted) → per_node x + per_error x ≡ 1
one_counts nodes = refl
one_counts errors = refl

module _ (x : Counted) (one : per_node x + per_error x ≡ 1) where
  -- what a node adds, and an error
  abbrev n : ℕ
  n = per_node x

  abbrev e : ℕ
  e = per_error x

  when_cost : (t : Bool) (D a b : ℕ) (P Q : Prog) → Cost x D a P b → Cost x D a Q b → Cost x D a (when t P Q) b
  when_cost true D a b P Q g h = g
  when_cost false D a b P Q g h = h

  assigned_cost : (f : Form) (access v equal D a b : ℕ) → a + n ≤ b → b + e ≤ D → Cost x D a (assigned f access v equal) b
  assigned_cost (Name t) access v equal D a b h g = (h, omega arith)
  assigned_cost (Property t o) access v equal D a b h g = (h, omega arith)
  assigned_cost Other access v equal D a b h g = (a + e, (omega arith, omega arith), (omega arith, tt))
  assigned_cost Empty access v equal D a b h g = (a + e, (omega arith, omega arith), (omega arith, tt))

  module _ (T : View) where
    -- ---- blocks and functions
    block_from_cost : (f first last D a b : ℕ) → a ≤ b + 2 → a + e ≤ D → Cost x D a (block_from T f first last) b
    unfolding block_from
    block_from_cost zero first last D a b h g = (omega arith, tt)
    block_from_cost (suc f) first last D a b h g = (λ i. omega arith, (a, (omega arith, omega arith), λ m. (a, omega arith, block_from_cost f (first_of first m.node) m.node D a b h g)))

    block_cost : (D a b : ℕ) → a ≤ b + 2 → a + e ≤ D → Cost x D a (block T) b
    unfolding block
    block_cost D a b h g = block_from_cost (fuel T) 0 0 D a b h g

    expression_stmt_cost : (D a b : ℕ) → 1 ≤ b → a ≤ b + 2 * e → a + e ≤ D → b + e ≤ D → Cost x D a (expression_stmt T) b
    unfolding expression_stmt
    expression_stmt_cost D a b k h l g = (b - n, (omega arith, omega arith), λ v. (b - n, omega arith, λ t. (omega arith, omega arith)))

    parameters_from_cost : (message f m first last D a b : ℕ) → 1 ≤ b → a ≤ b → b + e ≤ D → Cost x D a (parameters_from T message f m first last) b
    unfolding parameters_from
    parameters_from_cost message zero m first last D a b k h g = (omega arith, tt)
    parameters_from_cost message (suc f) m first last D a b k h g =
        when_cost (ltb 255 m) D a b _ _ (a + e, (omega arith, omega arith), (omega arith, tt))
        (b - n, (omega arith, omega arith), λ i. (b, (omega arith, omega arith), λ d. (b, omega arith, (λ c. parameters_from_cost message f (m + 1) (first_of first d.node) d.node D (b - 2) b k (omega arith) g, omega arith))))

    parameters_cost : (message D a b : ℕ) → 1 ≤ b → a ≤ b → b + e ≤ D → Cost x D a (parameters T message) b
    unfolding parameters
    parameters_cost message D a b k h g = (h, parameters_from_cost message (fuel T) 0 0 0 D a b k h g)

    function_body_cost : (D a b : ℕ) → 1 ≤ b → a ≤ b + 2 * e → a + e ≤ D → b + e ≤ D → Cost x D a (function_body T) b
    unfolding function_body
    function_body_cost D a b k h l g = (λ i. block_cost D _ b (omega arith) (omega arith), expression_stmt_cost D a b k h l g)

    fn_stmt_cost : (D a b : ℕ) → 5 ≤ b → a ≤ b + 1 + e → a + e ≤ D → b + e ≤ D → Cost x D a (fn_stmt T) b
    unfolding fn_stmt
    fn_stmt_cost D a b k h l g =
        let c = a - 3 + 1 in
        (c, (omega arith, omega arith), λ name. (c + e, (omega arith, omega arith), (c + e, parameters_cost 11 D (c + e) (c + e) (omega arith) (omega arith) (omega arith), λ params. (c + 2 * e, (omega arith, omega arith), (c, function_body_cost D (c + 2 * e) c (omega arith) (omega arith) (omega arith) (omega arith), λ stmts. (omega arith, omega arith))))))

    fn_expr_cost : (D a b : ℕ) → 5 ≤ b → a + n ≤ b → a + 3 * e ≤ D → b + e ≤ D → Cost x D a (fn_expr T) b
    unfolding fn_expr
    fn_expr_cost D a b k h l g =
        let c = a - 1 + 1 in
        (c + e, (omega arith, omega arith), (c + e, parameters_cost 14 D (c + e) (c + e) (omega arith) (omega arith) (omega arith), λ params. (c + 2 * e, (omega arith, omega arith), (c, function_body_cost D (c + 2 * e) c (omega arith) (omega arith) (omega arith) (omega arith), λ stmts. (omega arith, omega arith)))))

    -- ---- expressions
    arguments_from_cost : (mark f m first last D a b : ℕ) → a ≤ b → b + e ≤ D → Cost x D a (arguments_from T mark f m first last) b
    unfolding arguments_from
    arguments_from_cost mark zero m first last D a b h g = (omega arith, tt)
    arguments_from_cost mark (suc f) m first last D a b h g =
        when_cost (eqb mark right_paren_kind && leb 255 m) D a b _ _ (a + e, (omega arith, omega arith), (omega arith, tt))
        (b, (omega arith, omega arith), λ v. (b, omega arith, (λ i. (omega arith, arguments_from_cost mark f (m + 1) (first_of first v.node) v.node D (b - 2) b (omega arith) g), omega arith)))

    arguments_cost : (mark D a b : ℕ) → a ≤ b → b + e ≤ D → Cost x D a (arguments T mark) b
    unfolding arguments
    arguments_cost mark D a b h g = (h, arguments_from_cost mark (fuel T) 0 0 0 D a b h g)

    list_cost : (D a b : ℕ) → 1 ≤ b → a ≤ b + 1 + e → a + e ≤ D → b + e ≤ D → Cost x D a (list T) b
    unfolding list
    list_cost D a b k h l g = (a, arguments_cost right_brace_kind D a a (omega arith) l, λ v. (b - n, (omega arith, omega arith), λ s. (omega arith, omega arith)))

    dict_from_cost : (f first last D a b : ℕ) → 1 ≤ b → a ≤ b → b + e ≤ D → Cost x D a (dict_elements_from T f first last) b
    unfolding dict_elements_from
    dict_from_cost zero first last D a b k h g = (omega arith, tt)
    dict_from_cost (suc f) first last D a b k h g = (h, (b - e, (omega arith, omega arith), λ key. (b, (omega arith, omega arith), (b, (omega arith, omega arith), λ v. (b, omega arith, (b, omega arith, (λ i. dict_from_cost f (first_of first key.node) v.node D (b - 2) b k (omega arith) g, omega arith)))))))

    dictionary_cost : (D a b : ℕ) → 1 ≤ b → a ≤ b + 1 → a + 2 * e ≤ D → b + e ≤ D → Cost x D a (dictionary T) b
    unfolding dictionary
    dictionary_cost D a b k h l g = (a - n + 1, dict_from_cost (fuel T) 0 0 D a (a - n + 1) (omega arith) (omega arith) (omega arith), λ v. (b - n, (omega arith, omega arith), λ s. (omega arith, omega arith)))

    closed_cost : (object : Found) (brace c1 t1 c2 t2 c3 D a b : ℕ) → a + 1 ≤ b → b + e ≤ D → Cost x D a (closed T object brace c1 t1 c2 t2 c3) b
    unfolding closed
    closed_cost object brace c1 t1 c2 t2 c3 D a b h g = (a + e, (omega arith, omega arith), (b, (omega arith, omega arith), λ m. omega arith))

    third_cost : (object : Found) (brace c1 t1 c2 t2 D a b : ℕ) → 1 ≤ b → a ≤ b → b + e ≤ D → Cost x D a (third_part T object brace c1 t1 c2 t2) b
    third_cost object brace c1 t1 c2 t2 D a b k h g = (b - 1, (omega arith, omega arith), λ m. closed_cost _ _ _ _ _ _ _ D (b - 1) b (omega arith) g)

    slice_cost : (object : Found) (brace first c D a b : ℕ) → a + 1 ≤ b → b + e ≤ D → Cost x D a (slice T object brace first c) b
    slice_cost object brace first c D a b h g = (
      λ j. third_cost _ _ _ _ _ _ D _ b (omega arith) (omega arith) g,
      (
        closed_cost _ _ _ _ _ _ _ D a b h g,
        (
          closed_cost _ _ _ _ _ _ _ D a b h g,
          (
            a,
            (omega arith, omega arith),
            λ m. (
              λ j. (closed_cost _ _ _ _ _ _ _ D _ b (omega arith) g, (closed_cost _ _ _ _ _ _ _ D _ b (omega arith) g, third_cost _ _ _ _ _ _ D _ b (omega arith) (omega arith) g)),
              closed_cost _ _ _ _ _ _ _ D a b h g,
            ),
          ),
        ),
      ),
    )

    access_cost : (object : Found) (brace D a b : ℕ) → 1 ≤ b → a ≤ b → b + e ≤ D → Cost x D a (access T object brace) b
    unfolding access
    access_cost object brace D a b k h g = (
      λ i. (
        λ j. third_cost _ _ _ _ _ _ D _ b k (omega arith) g,
        (b - 1, (omega arith, omega arith), λ m. (λ j. third_cost _ _ _ _ _ _ D _ b k (omega arith) g, closed_cost _ _ _ _ _ _ _ D (b - 1) b (omega arith) g)),
      ),
      (b - 1, (omega arith, omega arith), λ m. (λ i. slice_cost _ _ _ _ D _ b (omega arith) g, closed_cost _ _ _ _ _ _ _ D (b - 1) b (omega arith) g)),
    )

    super_cost : (keyword D a b : ℕ) → a + n ≤ b → a + 2 * e ≤ D → b + e ≤ D → Cost x D a (super_expr T keyword) b
    unfolding super_expr
    super_cost keyword D a b h l g = ((omega arith, omega arith), (a + e, (omega arith, omega arith), (a, (omega arith, omega arith), λ m. (omega arith, omega arith))))

    primary_cost : (D a b : ℕ) → 5 ≤ b → a ≤ b + 1 + e → a + e ≤ D → b + e ≤ D → Cost x D a (primary T) b
    unfolding primary
    primary_cost D a b k h l g = (
      λ i. (omega arith, omega arith),
      (
        λ i. (omega arith, omega arith),
        (
          λ i. (omega arith, omega arith),
          (
            λ i. (omega arith, omega arith),
            (
              λ i. (omega arith, omega arith),
              (
                λ i. (b, (omega arith, omega arith), λ m. omega arith),
                (
                  λ i. (b - 1, (omega arith, omega arith), λ v. (b - n, (omega arith, omega arith), (omega arith, omega arith))),
                  (
                    λ i. list_cost D _ b (omega arith) (omega arith) (omega arith) g,
                    (
                      λ i. dictionary_cost D _ b (omega arith) (omega arith) (omega arith) g,
                      (
                        λ i. fn_expr_cost D _ b k (omega arith) (omega arith) g,
                        (
                          λ i. (omega arith, omega arith),
                          (
                            λ i. super_cost i D _ b (omega arith) (omega arith) g,
                            (
                              λ i. (b, (omega arith, omega arith), λ m. omega arith),
                              (a + e, (omega arith, omega arith), (l, tt)),
                            ),
                          ),
                        ),
                      ),
                    ),
                  ),
                ),
              ),
            ),
          ),
        ),
      ),
    )

    finish_call_cost : (callee : Found) (D a b : ℕ) → 1 ≤ b → a ≤ b + 1 + e → a + e ≤ D → b + e ≤ D → Cost x D a (finish_call T callee) b
    unfolding finish_call
    finish_call_cost callee D a b k h l g = (a, arguments_cost right_paren_kind D a a (omega arith) l, λ v. (b - n, (omega arith, omega arith), λ s. (omega arith, omega arith)))

    -- each turn ends with no more debt than it began
    call_from_cost : (f : ℕ) (callee : Found) (D a : ℕ) → 5 ≤ a → a + e ≤ D → Cost x D a (call_from T f callee) a
    unfolding call_from
    call_from_cost zero callee D a k g = (omega arith, tt)
    call_from_cost (suc f) callee D a k g = (
      λ i. (a, finish_call_cost callee D _ a (omega arith) (omega arith) (omega arith) g, λ m. call_from_cost f m D a k g),
      (
        λ i. (a - n, (omega arith, omega arith), λ name. (a, (omega arith, omega arith), λ m. call_from_cost f (property name.node callee.node m.node) D a k g)),
        (
          λ i. (a, access_cost callee i D _ a (omega arith) (omega arith) g, λ m. call_from_cost f m D a k g),
          omega arith,
        ),
      ),
    )

    call_cost : (D a b : ℕ) → 5 ≤ b → a ≤ b + 1 + e → a + e ≤ D → b + e ≤ D → Cost x D a (call T) b
    unfolding call
    call_cost D a b k h l g = (b, primary_cost D a b k h l g, λ v. call_from_cost (fuel T) v D b k g)

    unary_cost : (D a b : ℕ) → 5 ≤ b → a ≤ b + 1 + e → a + e ≤ D → b + e ≤ D → Cost x D a (unary T) b
    unfolding unary
    unary_cost D a b k h l g = (λ i. (b - n, (omega arith, omega arith), λ m. (omega arith, omega arith)), (λ i. (b - n, (omega arith, omega arith), λ m. (omega arith, omega arith)), call_cost D a b k h l g))

    -- ---- binary operators
    many_cost : (ks : List ℕ) (found : ℕ → Prog) (missing : Prog) (D a b : ℕ) → Tokens ks → ((i c : ℕ) → c ≤ a - 2 → Cost x D c (found i) b) → Cost x D a missing b → Cost x D a (look_many T ks found missing) b
    unfolding look_many
    many_cost [] found missing D a b t g h = h
    many_cost (zero ∷ ks) found missing D a b t g h = absurd t
    many_cost (suc k ∷ ks) found missing D a b t g h = (λ i. g i _ (let s = allows_some x k in omega arith), many_cost ks found missing D a b t g h)

    binary_from_cost : (level : Level) (P : Prog) (D a : ℕ) → Tokens level.operators → 1 ≤ a → a + e ≤ D → ((c : ℕ) → c ≤ a - 2 → Cost x D c P (a - n)) → (f : ℕ) (left : Found) → Cost x D a (binary_from T level P f left) a
    unfolding binary_from
    binary_from_cost level P D a t k g o zero left = (omega arith, tt)
    binary_from_cost level P D a t k g o (suc f) left = many_cost level.operators _ _ D a a t (λ i c l. (a - n, o c l, λ r. (a, (omega arith, omega arith), λ m. binary_from_cost level P D a t k g o f m))) (omega arith)

    -- the right operand of a level leaves one less
    binary_cost : (ls : List Level) (D a b : ℕ) → AllTokens ls → 5 + deep ls ≤ b → a ≤ b + 1 + e → a + e ≤ D → b + e ≤ D → Cost x D a (binary T ls) b
    unfolding binary
    binary_cost [] D a b t k h l g = unary_cost D a b (omega arith) h l g
    binary_cost (y ∷ ls) D a b t k h l g = (b, binary_cost ls D a b t.1 (omega arith) h l g, λ left. binary_from_cost y (binary T ls) D b t.0 (omega arith) g (λ c m. binary_cost ls D c (b - n) t.1 (omega arith) (omega arith) (omega arith) (omega arith)) (fuel T) left)

    assignment_cost : (D a b : ℕ) → 12 ≤ b → a ≤ b + 1 + e → a + e ≤ D → b + e ≤ D → Cost x D a (assignment T) b
    unfolding assignment
    assignment_cost D a b k h l g = (b, binary_cost levels D a b (tt, (tt, (tt, (tt, (tt, (tt, (tt, tt))))))) (omega arith) h l g, λ left. (λ i. (b - n, (omega arith, omega arith), λ v. assigned_cost left.form left.access v.node i D (b - n) b (omega arith) g), omega arith))

    -- ---- statements
    methods_from_cost : (f : ℕ) (k : ℕ → ℕ → Prog) (m l s t D a b : ℕ) → 5 ≤ a → a + e ≤ D → ((y z : ℕ) → Cost x D a (k y z) b) → Cost x D a (methods_from T f k m l s t) b
    unfolding methods_from
    methods_from_cost zero k m l s t D a b h o g = (omega arith, tt)
    methods_from_cost (suc f) k m l s t D a b h o g = (
      g m s,
      (
        g m s,
        (
          λ i. (a, fn_stmt_cost D _ a h (omega arith) (omega arith) o, λ q. (a, omega arith, methods_from_cost f k m l (first_of s q.node) q.node D a b h o g)),
          (a, fn_stmt_cost D a a h (omega arith) o o, λ q. (a, omega arith, methods_from_cost f k (first_of m q.node) q.node s t D a b h o g)),
        ),
      ),
    )

    class_cost : (D a b : ℕ) → 5 ≤ a → a + 1 + 2 * e ≤ b → b + e ≤ D → Cost x D a (class T) b
    unfolding class
    class_cost D a b k h g = (a + e, (omega arith, omega arith), λ name. (a + e, (λ i. (a + e - 1, (omega arith, omega arith), λ s. (omega arith, omega arith)), omega arith), λ sup. (a + 2 * e, (omega arith, omega arith), methods_from_cost (fuel T) _ 0 0 0 0 D (a + 2 * e) b (omega arith) (omega arith) λ y z. (a + 3 * e, (omega arith, omega arith), (omega arith, omega arith)))))

    let_cost : (D a b : ℕ) → 1 ≤ b → a ≤ b + 1 + e → a + e ≤ D → b + e ≤ D → Cost x D a (let_stmt T) b
    unfolding let_stmt
    let_cost D a b k h l g = (b - n, (omega arith, omega arith), λ name. (b - n, (λ i. (omega arith, omega arith), omega arith), λ init. (omega arith, omega arith)))

    names_from_cost : (f first last D a b : ℕ) → 1 ≤ b → a ≤ b → b + e ≤ D → Cost x D a (names_from T f first last) b
    unfolding names_from
    names_from_cost zero first last D a b k h g = (omega arith, tt)
    names_from_cost (suc f) first last D a b k h g = (λ i. (b, (omega arith, omega arith), λ m. (b, omega arith, (b, (λ j. omega arith, omega arith), names_from_cost f (first_of first m.node) m.node D b b k (omega arith) g))), h)

    -- what the rule says of the loops makes nothing
    enhanced_cost : (keyword D a b : ℕ) → 5 ≤ b → a ≤ b + e → a + 2 * e ≤ D → b + e ≤ D → Cost x D a (enhanced_for T keyword) b
    unfolding enhanced_for
    enhanced_cost keyword D a b k h l g =
        let c = a - 1 + 1 in
        (c, names_from_cost (fuel T) 0 0 D a c (omega arith) (omega arith) (omega arith), λ ids. (c + e, (omega arith, omega arith), (b - n, (omega arith, omega arith), λ v. (b - n, (omega arith, omega arith), λ s. (b - n, omega arith, (omega arith, omega arith))))))

    classic_cost : (keyword D a b : ℕ) → 5 ≤ b → a ≤ b + e → a + 2 * e ≤ D → b + e ≤ D → Cost x D a (classic_for T keyword) b
    unfolding classic_for
    classic_cost keyword D a b k h l g =
        let c = a - 1 + 1 in (
          c + e,
          (λ i. omega arith, (λ i. (c, let_cost D _ c (omega arith) (omega arith) (omega arith) (omega arith), λ m. (c + e, (omega arith, omega arith), omega arith)), (c + e, (omega arith, omega arith), omega arith))),
          λ init. (c, (omega arith, omega arith), λ v. (c + e, (omega arith, omega arith), (b - n, (omega arith, omega arith), λ inc. (b - n, (omega arith, omega arith), λ s. (b - n, omega arith, (omega arith, omega arith)))))),
        )

    for_cost : (keyword D a b : ℕ) → 5 ≤ b → a ≤ b + e → a + 2 * e ≤ D → b + e ≤ D → Cost x D a (for_loop T keyword) b
    unfolding for_loop
    for_cost keyword D a b k h l g = (a, omega arith, (enhanced_cost keyword D a b k h l g, classic_cost keyword D a b k h l g))

    try_cost : (D a b : ℕ) → 1 ≤ b → a ≤ b + 1 → a + 2 * e ≤ D → b + e ≤ D → Cost x D a (try_catch T) b
    unfolding try_catch
    try_cost D a b k h l g = (a, (omega arith, omega arith), λ s. (a + e, (omega arith, omega arith), (b - n, (omega arith, omega arith), λ m. (b - n, (omega arith, omega arith), λ t. (omega arith, omega arith)))))

    elifs_from_cost : (f first last D a b : ℕ) → 1 ≤ b → a ≤ b → b + e ≤ D → Cost x D a (elifs_from T f first last) b
    unfolding elifs_from
    elifs_from_cost zero first last D a b k h g = (omega arith, tt)
    elifs_from_cost (suc f) first last D a b k h g = (λ i. (b - 1, (omega arith, omega arith), λ v. (b - n, (omega arith, omega arith), (b - n, block_cost D (b - n) (b - n) (omega arith) (omega arith), λ s. (b, (omega arith, omega arith), λ m. (b, omega arith, elifs_from_cost f (first_of first m.node) m.node D b b k (omega arith) g))))), h)

    else_from_cost : (f first last D a b : ℕ) → a ≤ b → b + e ≤ D → Cost x D a (else_from T f first last) b
    unfolding else_from
    else_from_cost zero first last D a b h g = (omega arith, tt)
    else_from_cost (suc f) first last D a b h g = (h, (a, (omega arith, omega arith), λ m. (a, omega arith, else_from_cost f (first_of first m.node) m.node D a b h g)))

    if_cost : (keyword D a b : ℕ) → 5 ≤ b → a ≤ b + e → a + e ≤ D → b + e ≤ D → Cost x D a (if_stmt T keyword) b
    unfolding if_stmt
    if_cost keyword D a b k h l g =
        let c = b - n in
        let d = c - 1 in (
          b - 1,
          (omega arith, omega arith),
          λ v. (
            c,
            (omega arith, omega arith),
            (
              c,
              block_cost D c c (omega arith) (omega arith),
              λ s. (
                c,
                elifs_from_cost (fuel T) 0 0 D c c (omega arith) (omega arith) (omega arith),
                λ m. (
                  c,
                  (λ i. (d, (omega arith, omega arith), (d, else_from_cost (fuel T) 0 0 D d d (omega arith) (omega arith), λ m. (c, (omega arith, omega arith), omega arith))), omega arith),
                  λ others. (omega arith, omega arith),
                ),
              ),
            ),
          ),
        )

    ret_cost : (keyword D a b : ℕ) → a + n ≤ b → b + e ≤ D → Cost x D a (ret T keyword) b
    unfolding ret
    ret_cost keyword D a b h g = (a, (omega arith, (omega arith, omega arith)), λ v. (h, omega arith))

    brk_cost : (keyword D a b : ℕ) → a + 1 ≤ b → b + e ≤ D → Cost x D a (brk T keyword) b
    unfolding brk
    brk_cost keyword D a b h g = (a + e, (omega arith, (omega arith, omega arith)), (omega arith, omega arith))

    cont_cost : (keyword D a b : ℕ) → a + 1 ≤ b → b + e ≤ D → Cost x D a (cont T keyword) b
    unfolding cont
    cont_cost keyword D a b h g = (a + e, (omega arith, (omega arith, omega arith)), (omega arith, omega arith))

    while_cost : (keyword D a b : ℕ) → 1 ≤ b → a ≤ b + 2 * e → a + e ≤ D → b + e ≤ D → Cost x D a (while_stmt T keyword) b
    unfolding while_stmt
    while_cost keyword D a b k h l g = (a, omega arith, (b - n, (omega arith, omega arith), λ v. (b - n, (omega arith, omega arith), λ s. (b - n, omega arith, (omega arith, omega arith)))))

    statement_cost : (D a b : ℕ) → 5 ≤ b → a ≤ b + e → a + e ≤ D → b + e ≤ D → Cost x D a (statement T) b
    unfolding statement
    statement_cost D a b k h l g = (
      λ i. for_cost i D _ b k (omega arith) (omega arith) g,
      (
        λ i. try_cost D _ b (omega arith) (omega arith) (omega arith) g,
        (
          λ i. if_cost i D _ b k (omega arith) (omega arith) g,
          (
            λ i. ret_cost i D _ b (omega arith) g,
            (
              λ i. brk_cost i D _ b (omega arith) g,
              (
                λ i. cont_cost i D _ b (omega arith) g,
                (
                  λ i. while_cost i D _ b (omega arith) (omega arith) (omega arith) g,
                  (
                    λ i. (b - n, block_cost D _ (b - n) (omega arith) (omega arith), λ s. (omega arith, omega arith)),
                    expression_stmt_cost D a b (omega arith) (omega arith) l g,
                  ),
                ),
              ),
            ),
          ),
        ),
      ),
    )

    declaration_cost : (D a b : ℕ) → 9 ≤ a → a ≤ b + e → a + e ≤ D → b + e ≤ D → Cost x D a (declaration T) b
    unfolding declaration
    declaration_cost D a b k h l g = (λ i. class_cost D _ b (omega arith) (omega arith) g, (λ i. fn_stmt_cost D _ b (omega arith) (omega arith) (omega arith) g, (λ i. let_cost D _ b (omega arith) (omega arith) (omega arith) g, statement_cost D a b (omega arith) h l g)))

    -- with 100 so that a credit is no debt below 0
    pub body_cost : (w : Which) → Cost x (100 + e) 100 (body T w) (100 - gain x w)
    unfolding body
    body_cost Declaration = declaration_cost (100 + e) 100 (100 - e) (omega arith) (omega arith) (omega arith) (omega arith)
    body_cost Assignment = assignment_cost (100 + e) 100 (100 - (1 + e)) (omega arith) (omega arith) (omega arith) (omega arith)
    body_cost Operand = unary_cost (100 + e) 100 (100 - (1 + e)) (omega arith) (omega arith) (omega arith) (omega arith)
