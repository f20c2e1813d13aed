-- What expressions cost. Assumes nothing.
use mathlib.Core.List.{List, [], ◌∷◌}
use mathlib.Core.Bool.{◌&&◌}
use Prim.Native.Nat.{ℕ, zero, suc, ◌+◌, ◌-◌, ◌≤◌}
use native.Mathlib.Omega.{arith}
use lib.Dec.{leb, eqb}
use lib.ListN.{length}
use Rattle.token.specs.Kind.{right_paren_kind, right_brace_kind}
use Rattle.parser.specs.Tokens.{View}
use Rattle.parser.specs.declared.Form.{Form}
use Rattle.parser.specs.declared.Form.TheVariants.{Other, Empty, Name, Property}
use Rattle.parser.specs.declared.Found.{Found}
use Rattle.parser.specs.Programs.{Prog}
use Rattle.parser.specs.Grammar.{first_of, property, assigned, Level, levels, fuel, arguments_from, arguments, list, dict_elements_from, dictionary, closed, third_part, slice, access, super_expr, primary, finish_call, call_from, call, unary, look_many, binary_from, binary, assignment}
use Rattle.looks.proofs.Owed.{Cost}
use Rattle.looks.proofs.Functions.{when_cost, fn_expr_cost}

assigned_cost : (f : Form) (x v e D a b : ℕ) → a ≤ b → a ≤ D → Cost D a (assigned f x v e) b
assigned_cost (Name t) x v e D a b h g = (h, g)
assigned_cost (Property t o) x v e D a b h g = (h, g)
assigned_cost Other x v e D a b h g = (a, (omega arith, g), g)
assigned_cost Empty x v e D a b h g = (a, (omega arith, g), g)

module _ (T : View) where
  arguments_from_cost : (mark f n first last D a b : ℕ) → 1 ≤ a → 1 ≤ b → a ≤ b + 11 → a + 15 ≤ D → Cost D a (arguments_from T mark f n first last) b
  unfolding arguments_from
  arguments_from_cost mark zero n first last D a b k l h g = omega arith
  arguments_from_cost mark (suc f) n first last D a b k l h g = when_cost (eqb mark right_paren_kind && leb 255 n) D a b _ _ (a, (omega arith, omega arith), omega arith) (a - 12, (omega arith, omega arith), λ e. (a - 12, omega arith, (λ i. (omega arith, arguments_from_cost mark f (n + 1) (first_of first e.node) e.node D (a - 12 + 1 - 45 + 1) b (omega arith) l (omega arith) (omega arith)), omega arith)))

  arguments_cost : (mark D a b : ℕ) → a + 1 ≤ b → a + 16 ≤ D → Cost D a (arguments T mark) b
  unfolding arguments
  arguments_cost mark D a b h g = (omega arith, arguments_from_cost mark (fuel T) 0 0 0 D (a + 1) b (omega arith) (omega arith) (omega arith) (omega arith))

  list_cost : (D a b : ℕ) → a ≤ b + 43 → a + 16 ≤ D → Cost D a (list T) b
  unfolding list
  list_cost D a b h g = (a + 1, arguments_cost right_brace_kind D a (a + 1) (omega arith) g, λ e. (a - 43, (omega arith, omega arith), λ s. (omega arith, omega arith)))

  dict_from_cost : (f first last D a b : ℕ) → a + 1 ≤ b → a + 16 ≤ D → Cost D a (dict_elements_from T f first last) b
  unfolding dict_elements_from
  dict_from_cost zero first last D a b h g = omega arith
  dict_from_cost (suc f) first last D a b h g = (omega arith, (a - 11, (omega arith, omega arith), λ key. (a - 11 + 1, (omega arith, omega arith), (a - 22, (omega arith, omega arith), λ v. (a - 22, omega arith, (a - 22, omega arith, (λ i. dict_from_cost f (first_of first key.node) v.node D (a - 22 + 1 - 45) b (omega arith) (omega arith), omega arith)))))))

  dictionary_cost : (D a b : ℕ) → a ≤ b + 43 → a + 16 ≤ D → Cost D a (dictionary T) b
  unfolding dictionary
  dictionary_cost D a b h g = (a + 1, dict_from_cost (fuel T) 0 0 D a (a + 1) (omega arith) g, λ e. (a - 43, (omega arith, omega arith), λ s. (omega arith, omega arith)))

  closed_cost : (object : Found) (brace c1 t1 c2 t2 c3 D a b : ℕ) → a + 1 ≤ b → a + 1 ≤ D → Cost D a (closed T object brace c1 t1 c2 t2 c3) b
  unfolding closed
  closed_cost object brace c1 t1 c2 t2 c3 D a b h g = (a + 1, (omega arith, g), (a + 1, (omega arith, g), λ n. h))

  -- after the second colon
  third_cost : (object : Found) (brace c1 t1 c2 t2 D a b : ℕ) → 1 ≤ b → a ≤ b + 11 → a + 15 ≤ D → 16 ≤ D → Cost D a (third_part T object brace c1 t1 c2 t2) b
  third_cost object brace c1 t1 c2 t2 D a b k h g l = (a - 12, (omega arith, omega arith), λ n. closed_cost _ _ _ _ _ _ _ D (a - 12) b (omega arith) (omega arith))

  access_cost : (object : Found) (brace D a b : ℕ) → 3 ≤ b → a ≤ b + 9 → a + 16 ≤ D → 20 ≤ D → Cost D a (access T object brace) b
  unfolding access
  access_cost object brace D a b k h g l = (
    λ i. (
      λ j. third_cost _ _ _ _ _ _ D (a + 1 - 45 + 1 - 45) b (omega arith) (omega arith) (omega arith) (omega arith),
      (
        a + 1 - 45 + 1 - 12,
        (omega arith, omega arith),
        λ n. (
          λ j. third_cost _ _ _ _ _ _ D (a + 1 - 45 + 1 - 12 + 1 - 45) b (omega arith) (omega arith) (omega arith) (omega arith),
          closed_cost _ _ _ _ _ _ _ D (a + 1 - 45 + 1 - 12 + 1) b (omega arith) (omega arith),
        ),
      ),
    ),
    (
      a + 1 - 12,
      (omega arith, omega arith),
      λ m. (
        λ i. slice_cost m.node i (a + 1 - 12 + 1 - 45) (omega arith) (omega arith),
        closed_cost _ _ _ _ _ _ _ D (a + 1 - 12 + 1) b (omega arith) (omega arith),
      ),
    ),
  )
    where
      slice_cost : (first c s : ℕ) → s + 3 ≤ b → s + 17 ≤ D → Cost D s (slice T object brace first c) b
      slice_cost first c s x y = (
        λ j. third_cost _ _ _ _ _ _ D (s + 1 - 45) b (omega arith) (omega arith) (omega arith) (omega arith),
        (
          closed_cost _ _ _ _ _ _ _ D (s + 1 + 1) b (omega arith) (omega arith),
          (
            closed_cost _ _ _ _ _ _ _ D (s + 1 + 1) b (omega arith) (omega arith),
            (
              s + 2 - 12,
              (omega arith, omega arith),
              λ n. (
                λ j. (
                  closed_cost _ _ _ _ _ _ _ D (s + 2 - 12 + 1 - 45 + 1) b (omega arith) (omega arith),
                  (
                    closed_cost _ _ _ _ _ _ _ D (s + 2 - 12 + 1 - 45 + 1) b (omega arith) (omega arith),
                    third_cost _ _ _ _ _ _ D (s + 2 - 12 + 1 - 45 + 1) b (omega arith) (omega arith) (omega arith) (omega arith),
                  ),
                ),
                closed_cost _ _ _ _ _ _ _ D (s + 2 - 12 + 1) b (omega arith) (omega arith),
              ),
            ),
          ),
        ),
      )

  super_cost : (keyword D a b : ℕ) → a + 1 ≤ b → a + 3 ≤ D → Cost D a (super_expr T keyword) b
  unfolding super_expr
  super_cost keyword D a b h g = ((omega arith, omega arith), (a + 2, (omega arith, omega arith), (a - 42, (omega arith, omega arith), λ m. (omega arith, omega arith))))

  primary_cost : (D a b : ℕ) → 1 ≤ b → a ≤ b + 32 → a + 13 ≤ D → 27 ≤ D → Cost D a (primary T) b
  unfolding primary
  primary_cost D a b k h g l = (
    λ i. (omega arith, omega arith),
    (
      λ i. (omega arith, omega arith),
      (
        λ i. (omega arith, omega arith),
        (
          λ i. (omega arith, omega arith),
          (
            λ i. (omega arith, omega arith),
            (
              λ i. (a + 6 - 45, (omega arith, omega arith), λ n. omega arith),
              (
                λ i. (a + 7 - 45 - 12, (omega arith, omega arith), λ e. (a + 7 - 45 - 12 + 1, (omega arith, omega arith), (omega arith, omega arith))),
                (
                  λ i. list_cost D _ b (omega arith) (omega arith),
                  (
                    λ i. dictionary_cost D _ b (omega arith) (omega arith),
                    (
                      λ i. fn_expr_cost T D _ b (omega arith) (omega arith) (omega arith),
                      (
                        λ i. (omega arith, omega arith),
                        (
                          λ i. super_cost i D _ b (omega arith) (omega arith),
                          (
                            λ i. (a + 13 - 45, (omega arith, omega arith), λ n. omega arith),
                            (a + 13, (omega arith, omega arith), omega arith),
                          ),
                        ),
                      ),
                    ),
                  ),
                ),
              ),
            ),
          ),
        ),
      ),
    ),
  )

  finish_call_cost : (callee : Found) (D a b : ℕ) → a ≤ b + 43 → a + 16 ≤ D → Cost D a (finish_call T callee) b
  unfolding finish_call
  finish_call_cost callee D a b h g = (a + 1, arguments_cost right_paren_kind D a (a + 1) (omega arith) g, λ e. (a - 43, (omega arith, omega arith), λ s. (omega arith, omega arith)))

  -- each turn ends with no more debt than it began, if that is 3: an access without its closing mark makes up to 3 looks after its last token
  call_from_cost : (f : ℕ) (e : Found) (D a b : ℕ) → 3 ≤ a → a + 3 ≤ b → a ≤ D → 20 ≤ D → Cost D a (call_from T f e) b
  unfolding call_from
  call_from_cost zero e D a b k h g l = g
  call_from_cost (suc f) e D a b k h g l = (
    λ i. (a, finish_call_cost e D _ a (omega arith) (omega arith), λ n. call_from_cost f n D a b k h g l),
    (
      λ i. (a, (omega arith, omega arith), λ name. (a, (omega arith, omega arith), λ n. call_from_cost f (property name.node e.node n.node) D a b k h g l)),
      (
        λ i. (a, access_cost e i D _ a k (omega arith) (omega arith) l, λ n. call_from_cost f n D a b k h g l),
        omega arith,
      ),
    ),
  )

  call_cost : (D a b : ℕ) → 6 ≤ b → a ≤ b + 29 → b ≤ D → a + 13 ≤ D → 27 ≤ D → Cost D a (call T) b
  unfolding call
  call_cost D a b k h e g l = (b - 3, primary_cost D a (b - 3) (omega arith) (omega arith) g l, λ x. call_from_cost (fuel T) x D (b - 3) b (omega arith) (omega arith) (omega arith) (omega arith))

  pub unary_cost : (D a b : ℕ) → 6 ≤ b → a ≤ b + 27 → b ≤ D → a + 15 ≤ D → 27 ≤ D → Cost D a (unary T) b
  unfolding unary
  unary_cost D a b k h e g l = (λ i. (b, (omega arith, omega arith), λ n. (omega arith, e)), (λ i. (b, (omega arith, omega arith), λ n. (omega arith, e)), call_cost D _ b k (omega arith) e (omega arith) l))

-- ---- binary operators
-- no operator is EOF
abbrev pub Tokens : List ℕ → Type 0
Tokens [] = Unit {0}
Tokens (zero ∷ ks) = ⊥
Tokens (suc k ∷ ks) = Tokens ks

abbrev pub AllTokens : List Level → Type 0
AllTokens [] = Unit {0}
AllTokens (l ∷ ls) = Tokens l.operators × AllTokens ls

-- how many operators there are
abbrev pub tests : List Level → ℕ
tests [] = 0
tests (l ∷ ls) = length l.operators + tests ls

module _ (T : View) where
  many_cost : (ks : List ℕ) (found : ℕ → Prog) (missing : Prog) (D a b : ℕ) → Tokens ks → ((i c : ℕ) → c ≤ a + length ks - 45 → Cost D c (found i) b) → ((c : ℕ) → c ≤ a + length ks → Cost D c missing b) → Cost D a (look_many T ks found missing) b
  unfolding look_many
  many_cost [] found missing D a b t g h = h a (omega arith)
  many_cost (zero ∷ ks) found missing D a b t g h = absurd t
  many_cost (suc k ∷ ks) found missing D a b t g h = (λ i. g i (a + 1 - 45) (omega arith), many_cost ks found missing D (a + 1) b t (λ i c l. g i c (omega arith)) λ c l. h c (omega arith))

  binary_from_cost : (level : Level) (P : Prog) (D a b : ℕ) → Tokens level.operators → a + length level.operators ≤ b → a ≤ D → ((c : ℕ) → c ≤ a + length level.operators - 45 → Cost D c P a) → (f : ℕ) (left : Found) → Cost D a (binary_from T level P f left) b
  unfolding binary_from
  binary_from_cost level P D a b t h g o zero left = g
  binary_from_cost level P D a b t h g o (suc f) left = many_cost level.operators _ _ D a b t (λ i c l. (a, o c l, λ r. (a, (omega arith, g), λ n. binary_from_cost level P D a b t h g o f n))) λ c l. omega arith

  pub binary_cost : (ls : List Level) (D a b : ℕ) → AllTokens ls → tests ls ≤ 14 → 6 + tests ls ≤ b → a + tests ls ≤ b + 27 → b ≤ D → a + 15 ≤ D → 27 ≤ D → Cost D a (binary T ls) b
  unfolding binary
  binary_cost [] D a b t m k h e g l = unary_cost T D a b (omega arith) (omega arith) e g l
  binary_cost (x ∷ ls) D a b t m k h e g l = (
    b - length x.operators,
    binary_cost ls D a (b - length x.operators) t.1 (omega arith) (omega arith) (omega arith) (omega arith) g l,
    λ left. binary_from_cost x (binary T ls) D (b - length x.operators) b t.0 (omega arith) (omega arith) (λ c y. binary_cost ls D c (b - length x.operators) t.1 (omega arith) (omega arith) (omega arith) (omega arith) (omega arith) l) (fuel T) left,
  )

  pub assignment_cost : Cost 115 100 (assignment T) 88
  unfolding assignment
  assignment_cost = (87, binary_cost levels 115 100 87 (tt, (tt, (tt, (tt, (tt, (tt, (tt, tt))))))) (omega arith) (omega arith) (omega arith) (omega arith) (omega arith) (omega arith), λ left. (λ i. (31, (omega arith, omega arith), λ v. assigned_cost left.form left.access v.node i 115 31 88 (omega arith) (omega arith)), omega arith))
