-- Each reader shows what it has to: one term a reader.
use mathlib.Core.Path.{◌≡◌, refl, sym, ◌∙◌}
use mathlib.Core.List.{List, [], ◌∷◌}
use mathlib.Core.Bool.{Bool, true, false, ◌&&◌}
use mathlib.Core.Logic.{inl, inr}
use Prim.Native.Nat.{ℕ, zero, suc, ◌+◌, ◌-◌, ◌≤◌, ◌<◌}
use native.Mathlib.Omega.{arith}
use lib.Dec.{ltb, leb, eqb}
use borrow.Author.Tests.{eqb-true}
use Rattle.token.specs.Kind.{semicolon_kind, right_paren_kind, right_brace_kind, right_curly_brace_kind}
use Rattle.parser.specs.declared.Form.{Form}
use Rattle.parser.specs.declared.Form.TheVariants.{Other, Empty, Name, Property}
use Rattle.parser.specs.declared.Found.{Found}
use Rattle.parser.specs.Tokens.{View, count, kind_at}
use Rattle.parser.specs.Tables.{plain}
use Rattle.parser.specs.Nodes.{literal_row, logical_row, binary_row, name_row, class_row, if_row, classic_for_row, elif_row, break_row, continue_row}
use Rattle.parser.specs.Programs.{Which, Declaration, Assignment, Operand, Prog, ◌>>=◌, ◌>>◌, consume, leave_loop, node, down}
use Rattle.parser.specs.Grammar.{first_of, last_of, when, form_through, through, property, row_if, Level, levels, fuel, block_from, block, expression_stmt, parameters_from, parameters, function_body, fn_stmt, fn_expr, methods_from, class, let_stmt, names_from, enhanced_for, classic_for, for_loop, try_catch, elifs_from, else_from, if_stmt, ret, brk, cont, while_stmt, statement, declaration, arguments_from, arguments, list, dict_elements_from, dictionary, closed, access, super_expr, primary, finish_call, call_from, call, unary, look_many, binary_from, binary, assigned, assignment, body}
use Rattle.trees.specs.Trees.{is_of, Expression, Statement, Variable, Index, Binding, Function, Branch, Parameter, One, Maybe, Many, binding, tight_of, Child, Fits, Formed, Forest}
use Rattle.trees.proofs.TreeRows.{Later, later_none, later_then, Made, Linked, forest_join, forest_none, forest_made}
use Rattle.trees.proofs.TreeTyping.{FormFits, Held, sort_of, tight_from, Wp, call as inner, link_kept, behind_less}
use Rattle.trees.proofs.TreeLists.{form, fits_later, fits_less, carry, tight_later, held_node, finish, held_list, held_as, Listing, Listed, list_done, list_below, list_later, list_link, child_linked, list_next, member_link, member_next, list_tail, list_other}

last_le : (f : Form) (t c : ℕ) → t ≤ c → last_of f t ≤ c
last_le Other t c h = h
last_le Empty t c h = omega arith
last_le (Name n) t c h = h
last_le (Property n o) t c h = h

function_statement : (k : ℕ) → is_of Function k ≡ true → is_of Statement k ≡ true
function_statement k h = rw (eqb-true k 18 h)

binding_statement : (k : ℕ) → is_of Binding k ≡ true → is_of Statement k ≡ true
binding_statement k h = rw (eqb-true k 19 h)

first_twice : (a b c : ℕ) → 0 < b → first_of (first_of a b) c ≡ first_of a b
unfolding first_of
first_twice zero zero c h = absurd (omega arith)
first_twice zero (suc b) c h = refl
first_twice (suc a) b c h = refl

-- over any view U and any table T of tokens
module _ (U : View) (T : List ℕ) where
  -- ---- statements
  when_ok : (b : ℕ) (t : Bool) (A B : Prog) (R : Found → ℕ → List ℕ → Type 0) (u : ℕ) (N : List ℕ) → Wp T b A R u N → Wp T b B R u N → Wp T b (when t A B) R u N
  when_ok b true A B R u N x y = x
  when_ok b false A B R u N x y = y

  expression_stmt_ok : (u : ℕ) (N : List ℕ) → Wp T u (expression_stmt U) (Held T Statement 0 u) u N
  unfolding expression_stmt
  expression_stmt_ok u N = λ e v M l x h t c. finish Statement 0 u l.up refl (omega arith) refl (form refl (last_le e.form t (count T) c) refl refl h.child refl refl refl tt)

  block_from_ok : (f first last b u : ℕ) (N : List ℕ) → b ≤ u → Listing T Statement b first last u N → Wp T b (block_from U f first last) (Listed Statement b) u N
  unfolding block_from
  block_from_ok zero first last b u N g s = tt
  block_from_ok (suc f) first last b u N g s = (
    λ i t. list_done T Statement b first last u N s,
    λ n v M l x h.
        let a = l.up in (
          member_link n.node s l x h.child.above h.child.below,
          λ O k.
              block_from_ok f (first_of first n.node) n.node b v O (omega arith) (member_next n.node g s l x h.root h.child k),
        ),
  )

  block_ok : (u : ℕ) (N : List ℕ) → Wp T u (block U) (Listed Statement u) u N
  unfolding block
  block_ok u N = block_from_ok (fuel U) 0 0 u u N (omega arith) (inl (refl, refl))

  -- a name's node
  name_formed : (t b u : ℕ) (N : List ℕ) → t ≤ count T → Formed T N b u (name_row t)
  name_formed t b u N c = form refl c refl refl refl refl refl refl tt

  name_forest : (t u : ℕ) (N M : List ℕ) → t ≤ count T → Made u N (name_row t) M → Forest T u (u + 1) M
  name_forest t u N M c m = forest_made T u u N M (name_row t) (omega arith) (forest_none T u N) (name_formed t u u N c) m

  parameters_from_ok : (message f n first last b u : ℕ) (N : List ℕ) → b ≤ u → Listing T Parameter b first last u N → Wp T b (parameters_from U message f n first last) (Listed Parameter b) u N
  unfolding parameters_from
  parameters_from_ok message zero n first last b u N g s = tt
  parameters_from_ok message (suc f) n first last b u N g s = when_ok b (ltb 255 n) _ _ _ u N tt λ i c. (
    name_formed i b u N c,
    refl,
    λ M m.
        let h = held_node {T = T} Parameter 0 u (omega arith) m refl (omega arith) in
        let x = name_forest i u N M c m in (
          member_link (u + 1) s m.later x (omega arith) (omega arith),
          λ O k.
              let s' = member_next (u + 1) g s m.later x refl h.child k in
              (λ j t. parameters_from_ok message f (n + 1) (first_of first (u + 1)) (u + 1) b (u + 1) O (omega arith) s', list_done T Parameter b (first_of first (u + 1)) (u + 1) (u + 1) O s'),
        ),
  )

  parameters_ok : (message u : ℕ) (N : List ℕ) → Wp T u (parameters U message) (Listed Parameter u) u N
  unfolding parameters
  parameters_ok message u N = (inl refl, parameters_from_ok message (fuel U) 0 0 0 u u N (omega arith) (inl (refl, refl)))

  function_body_ok : (u : ℕ) (N : List ℕ) → Wp T u (function_body U) (Listed Statement u) u N
  unfolding function_body
  function_body_ok u N = (λ i t. block_ok u N, inner T u (expression_stmt U) (Held T Statement 0 u) (Listed Statement u) u N (omega arith) (expression_stmt_ok u N) λ f v M l x h. inr (held_list h))

  fn_stmt_ok : (u : ℕ) (N : List ℕ) → Wp T u (fn_stmt U) (Held T Function 0 u) u N
  unfolding fn_stmt
  fn_stmt_ok u N = λ name c _ _. inner T u (parameters U 11) (Listed Parameter u) _ u N (omega arith) (parameters_ok 11 u N) λ params v M l x ps _ _.
      let a = l.up in
      inner T u (function_body U) (Listed Statement v) _ v M a (function_body_ok v M) λ stmts w O k y ss.
      let e = k.up in
      finish Function 0 u (omega arith) refl (omega arith) refl (form refl c refl refl (fits_later k u (Many Parameter) params.node ps) (fits_less v u w O a (Many Statement) stmts.node ss) refl refl tt)

  fn_expr_ok : (u : ℕ) (N : List ℕ) → Wp T u (fn_expr U) (Held T Expression 8 u) u N
  unfolding fn_expr
  fn_expr_ok u N = λ _ _. inner T u (parameters U 14) (Listed Parameter u) _ u N (omega arith) (parameters_ok 14 u N) λ params v M l x ps _ _.
      let a = l.up in
      inner T u (function_body U) (Listed Statement v) _ v M a (function_body_ok v M) λ stmts w O k y ss.
      let e = k.up in
      finish Expression 8 u (omega arith) refl (omega arith) refl (form refl refl refl refl (fits_later k u (Many Parameter) params.node ps) (fits_less v u w O a (Many Statement) stmts.node ss) refl refl tt)

  let_stmt_ok : (u : ℕ) (N : List ℕ) → Wp T u (let_stmt U) (Held T Binding 0 u) u N
  unfolding let_stmt
  let_stmt_ok u N = λ name c. (
    λ i t e v M l x h. finish Binding 0 u l.up refl (omega arith) refl (form refl c refl refl (inr h.child) refl refl refl tt),
    finish Binding 0 u (omega arith) refl (omega arith) refl (form refl c refl refl (inl refl) refl refl refl tt),
  )

  names_from_ok : (f first last b u : ℕ) (N : List ℕ) → b ≤ u → Listing T Parameter b first last u N → Wp T b (names_from U f first last) (Listed Parameter b) u N
  unfolding names_from
  names_from_ok zero first last b u N g s = tt
  names_from_ok (suc f) first last b u N g s = (
    λ i t. (
      name_formed i b u N t.within,
      refl,
      λ M m.
          let h = held_node {T = T} Parameter 0 u (omega arith) m refl (omega arith) in
          let x = name_forest i u N M t.within m in (
            member_link (u + 1) s m.later x (omega arith) (omega arith),
            λ O k.
                let r = names_from_ok f (first_of first (u + 1)) (u + 1) b (u + 1) O (omega arith) (member_next (u + 1) g s m.later x refl h.child k) in
                (λ j t. r, r),
          ),
    ),
    list_done T Parameter b first last u N s,
  )

  enhanced_for_ok : (keyword u : ℕ) (N : List ℕ) → keyword ≤ count T → Wp T u (enhanced_for U keyword) (Held T Statement 0 u) u N
  unfolding enhanced_for
  enhanced_for_ok keyword u N c = inner T u (names_from U (fuel U) 0 0) (Listed Parameter u) _ u N (omega arith) (names_from_ok (fuel U) 0 0 u u N (omega arith) (inl (refl, refl))) λ ids v M l x is _ _ e w O k y h s z P j q g.
      let a1 = l.up in
      let a2 = k.up in
      let a3 = j.up in
      finish Statement 0 u (omega arith) refl (omega arith) refl (form refl c refl refl (fits_later (later_then k j) u (Many Parameter) ids.node is) (carry j v u a1 (One Expression) e.node h.child) (fits_less w u z P (omega arith) (One Statement) s.node g.child) refl tt)

  try_catch_ok : (u : ℕ) (N : List ℕ) → Wp T u (try_catch U) (Held T Statement 0 u) u N
  unfolding try_catch
  try_catch_ok u N = λ e v M l x h _ _ name c s w O k y g.
      let a1 = l.up in
      let a2 = k.up in
      finish Statement 0 u (omega arith) refl (omega arith) refl (form refl c refl refl (fits_later k u (One Statement) e.node h.child) (fits_less v u w O a1 (One Statement) s.node g.child) refl refl tt)

  while_stmt_ok : (keyword u : ℕ) (N : List ℕ) → keyword ≤ count T → Wp T u (while_stmt U keyword) (Held T Statement 0 u) u N
  unfolding while_stmt
  while_stmt_ok keyword u N c = λ e v M l x h s w O k y g.
      let a1 = l.up in
      let a2 = k.up in
      finish Statement 0 u (omega arith) refl (omega arith) refl (form refl c refl refl (fits_later k u (One Expression) e.node h.child) (fits_less v u w O a1 (One Statement) s.node g.child) refl refl tt)

  ret_ok : (keyword u : ℕ) (N : List ℕ) → keyword ≤ count T → Wp T u (ret U keyword) (Held T Statement 0 u) u N
  unfolding ret
  ret_ok keyword u N c = (
    finish Statement 0 u (omega arith) refl (omega arith) refl (form refl c refl refl (inl refl) refl refl refl tt),
    λ e v M l x h. finish Statement 0 u l.up refl (omega arith) refl (form refl c refl refl (inr h.child) refl refl refl tt),
  )

  brk_ok : (keyword u : ℕ) (N : List ℕ) → keyword ≤ count T → Wp T u (brk U keyword) (Held T Statement 0 u) u N
  unfolding brk
  brk_ok keyword u N c = let r = finish {T = T} {N = N} {d = break_row keyword} {u = u} Statement 0 u (omega arith) refl (omega arith) refl (form refl c refl refl refl refl refl refl tt) in (r, r)

  cont_ok : (keyword u : ℕ) (N : List ℕ) → keyword ≤ count T → Wp T u (cont U keyword) (Held T Statement 0 u) u N
  unfolding cont
  cont_ok keyword u N c = let r = finish {T = T} {N = N} {d = continue_row keyword} {u = u} Statement 0 u (omega arith) refl (omega arith) refl (form refl c refl refl refl refl refl refl tt) in (r, r)

  -- what follows the initializer
  classic_rest_ok : (keyword init b u : ℕ) (N : List ℕ) → keyword ≤ count T → b ≤ u → Fits N b u (Maybe Binding) init → Wp T b (do
    cond ← down Assignment
    consume semicolon_kind 15
    inc ← down Assignment
    stmt ← down Declaration
    leave_loop
    node (classic_for_row keyword init cond.node inc.node stmt.node)) (Held T Statement 0 b) u N
  classic_rest_ok keyword init b u N c g i = λ e w O k y h _ _ e' w' O' k' y' h' s z P j q r.
      let a2 = k.up in
      let a3 = k'.up in
      let a4 = j.up in
      finish Statement 0 b (omega arith) refl (omega arith) refl (form refl c refl refl
      (fits_later (later_then k (later_then k' j)) b (Maybe Binding) init i)
      (carry (later_then k' j) u b (omega arith) (One Expression) e.node h.child)
      (carry j w b (omega arith) (One Expression) e'.node h'.child)
      (fits_less w' b z P (omega arith) (One Statement) s.node r.child) tt)

  classic_for_ok : (keyword u : ℕ) (N : List ℕ) → keyword ≤ count T → Wp T u (classic_for U keyword) (Held T Statement 0 u) u N
  unfolding classic_for
  classic_for_ok keyword u N c = (
    λ i t. classic_rest_ok keyword 0 u u N c (omega arith) (inl refl),
    (
      λ i t. inner T u (let_stmt U) (Held T Binding 0 u) _ u N (omega arith) (let_stmt_ok u N) λ n v M l x h _ _. classic_rest_ok keyword n.node u v M c l.up (inr h.child),
      classic_rest_ok keyword 0 u u N c (omega arith) (inl refl),
    ),
  )

  for_loop_ok : (keyword u : ℕ) (N : List ℕ) → keyword ≤ count T → Wp T u (for_loop U keyword) (Held T Statement 0 u) u N
  unfolding for_loop
  for_loop_ok keyword u N c = (enhanced_for_ok keyword u N c, classic_for_ok keyword u N c)

  elifs_from_ok : (f first last b u : ℕ) (N : List ℕ) → b ≤ u → Listing T Branch b first last u N → Wp T b (elifs_from U f first last) (Listed Branch b) u N
  unfolding elifs_from
  elifs_from_ok zero first last b u N g s = tt
  elifs_from_ok (suc f) first last b u N g s = (
    λ i t e v M l x h _ _. inner T b (block U) (Listed Statement v) _ v M (let a = l.up in omega arith) (block_ok v M) λ stmts w O k y ss.
        let a1 = l.up in
        let a2 = k.up in
        let F : (d : ℕ) → d ≤ u → Formed T O d w (elif_row e.node stmts.node) = λ d p. form refl refl refl refl (carry k u d p (One Expression) e.node h.child) (fits_less v d w O (omega arith) (Many Statement) stmts.node ss) refl refl tt in (
          F b g,
          refl,
          λ P m.
              let n = held_node {T = T} Branch 0 u (omega arith) m refl (omega arith) in
              let q = later_then l (later_then k m.later) in
              let z = forest_made T u w O P (elif_row e.node stmts.node) (omega arith) (forest_join T u v w M O a1 x k y) (F u (omega arith)) m in (
                member_link (w + 1) s q z (omega arith) (omega arith),
                λ Q j.
                    elifs_from_ok f (first_of first (w + 1)) (w + 1) b (w + 1) Q (omega arith) (member_next (w + 1) g s q z refl n.child j),
              ),
        ),
    list_done T Branch b first last u N s,
  )

  else_from_ok : (f first last b u : ℕ) (N : List ℕ) → b ≤ u → Listing T Statement b first last u N → Wp T b (else_from U f first last) (Listed Statement b) u N
  unfolding else_from
  else_from_ok zero first last b u N g s = tt
  else_from_ok (suc f) first last b u N g s = (
    list_done T Statement b first last u N s,
    λ n v M l x h.
        let a = l.up in (
          member_link n.node s l x h.child.above h.child.below,
          λ O k.
              else_from_ok f (first_of first n.node) n.node b v O (omega arith) (member_next n.node g s l x h.root h.child k),
        ),
  )

  if_stmt_ok : (keyword u : ℕ) (N : List ℕ) → keyword ≤ count T → Wp T u (if_stmt U keyword) (Held T Statement 0 u) u N
  unfolding if_stmt
  if_stmt_ok keyword u N c = λ e v M l x h _ _. inner T u (block U) (Listed Statement v) _ v M l.up (block_ok v M) λ stmts w O k y ss.
      let a1 = l.up in
      let a2 = k.up in
      inner T u (elifs_from U (fuel U) 0 0) (Listed Branch w) _ w O (omega arith) (elifs_from_ok (fuel U) 0 0 w w O (omega arith) (inl (refl, refl))) λ elifs z P j p es.
      let a3 = j.up in
      let done : (others v' : ℕ) (M' : List ℕ) → Later z P v' M' → Fits M' z v' (Many Statement) others → Wp T u (node (if_row keyword e.node stmts.node elifs.node others)) (Held T Statement 0 u) v' M' = λ others z' P' j' os.
      let a4 = j'.up in
      finish Statement 0 u (omega arith) refl (omega arith) refl (form refl c refl refl
      (fits_later (later_then k (later_then j j')) u (One Expression) e.node h.child)
      (carry (later_then j j') v u (omega arith) (Many Statement) stmts.node ss)
      (carry j' w u (omega arith) (Many Branch) elifs.node es)
      (fits_less z u z' P' (omega arith) (Many Statement) others os) tt)
      in (
        λ i t _ _. inner T u (else_from U (fuel U) 0 0) (Listed Statement z) _ z P (omega arith) (else_from_ok (fuel U) 0 0 z z P (omega arith) (inl (refl, refl))) λ n v M l x h _ _. done n.node v M l h,
        done 0 z P (later_none z P) (inl refl),
      )

  statement_ok : (u : ℕ) (N : List ℕ) → Wp T u (statement U) (Held T Statement 0 u) u N
  unfolding statement
  statement_ok u N = (
    λ i t. for_loop_ok i u N t.within,
    (
      λ i t. try_catch_ok u N,
      (
        λ i t. if_stmt_ok i u N t.within,
        (
          λ i t. ret_ok i u N t.within,
          (
            λ i t. brk_ok i u N t.within,
            (
              λ i t. cont_ok i u N t.within,
              (
                λ i t. while_stmt_ok i u N t.within,
                (
                  λ i t. inner T u (block U) (Listed Statement u) _ u N (omega arith) (block_ok u N) λ b v M l x bs. finish Statement 0 u l.up refl (omega arith) refl (form refl refl refl refl bs refl refl refl tt),
                  expression_stmt_ok u N,
                ),
              ),
            ),
          ),
        ),
      ),
    ),
  )

  -- ---- classes
  -- methods and static methods: one more in the first of two lists
  module _ (d first last other others u v n : ℕ) (N M O : List ℕ) (g : d ≤ u) (s : Listing T Function d first last u N) (s' : Listing T Function d other others u N) (apart : last ≡ others → last ≡ 0) (l : Later u N v M) (x : Forest T u v M) (e : n ≡ v) (c : Child M u v Function n) (k : Linked M last n O) where
    two_next : Listing T Function d (first_of first n) n v O
    two_next = member_next n g s l x e c k

    two_other : Listing T Function d other others v O
    two_other = list_other T Function d other others v last n M O (list_later T Function d other others u v N M s' l x) apart (list_tail T Function d first last u v n N M s l x c.above c.below) k

    two_kept : {N₀ : List ℕ} → Later d N₀ u N → Later d N₀ v O
    two_kept p = let a = l.up in record { up = omega arith; same = λ i j y z q. link_kept T d v last n M O (member_link n s l x c.above c.below) k i j y z q ∙ l.same i j y (omega arith) q ∙ p.same i j y z q }

  methods_from_ok : (f b d : ℕ) (N₀ : List ℕ) (k : ℕ → ℕ → Prog) (R : Found → ℕ → List ℕ → Type 0) → b ≤ d → ((m s v : ℕ) (M : List ℕ) → Later d N₀ v M → Fits M d v (Many Function) m → Fits M d v (Many Function) s → Wp T b (k m s) R v M)
      → (first last other others u : ℕ) (N : List ℕ) → Later d N₀ u N → Listing T Function d first last u N → Listing T Function d other others u N → (last ≡ others → last ≡ 0) → Wp T b (methods_from U f k first last other others) R u N
  unfolding methods_from
  methods_from_ok zero b d N₀ k R g K first last other others u N p s s' a = tt
  methods_from_ok (suc f) b d N₀ k R g K first last other others u N p s s' a =
      let h = p.up in
      let done = K first other u N p (list_done T Function d first last u N s) (list_done T Function d other others u N s') in
      let below = list_below T Function d first last u N s in
      let below' = list_below T Function d other others u N s' in (
        done,
        (
          done,
          (
            λ i t. inner T b (fn_stmt U) (Held T Function 0 u) _ u N (omega arith) (fn_stmt_ok u N) λ n v M l x r.
                let o = r.child.above in (
                  behind_less T b d v others n.node M g (member_link n.node s' l x r.child.above r.child.below),
                  λ O j.
                      let swapped : others ≡ last → others ≡ 0 = λ e. let z = a (sym e) in omega arith in
                      methods_from_ok f b d N₀ k R g K first last (first_of other n.node) n.node v O
                      (two_kept d other others first last u v n.node N M O h s' s swapped l x r.root r.child j p)
                      (two_other d other others first last u v n.node N M O h s' s swapped l x r.root r.child j)
                      (two_next d other others first last u v n.node N M O h s' s swapped l x r.root r.child j)
                      (λ e. absurd (omega arith)),
                ),
            inner T b (fn_stmt U) (Held T Function 0 u) _ u N (omega arith) (fn_stmt_ok u N) λ n v M l x r.
                let o = r.child.above in (
                  behind_less T b d v last n.node M g (member_link n.node s l x r.child.above r.child.below),
                  λ O j.
                      methods_from_ok f b d N₀ k R g K (first_of first n.node) n.node other others v O
                      (two_kept d first last other others u v n.node N M O h s s' a l x r.root r.child j p)
                      (two_next d first last other others u v n.node N M O h s s' a l x r.root r.child j)
                      (two_other d first last other others u v n.node N M O h s s' a l x r.root r.child j)
                      (λ e. absurd (omega arith)),
                ),
          ),
        ),
      )

  -- what follows the superclass
  class_rest_ok : (name superclass b u : ℕ) (N : List ℕ) → name ≤ count T → b ≤ u → Fits N b u (Maybe Variable) superclass → Wp T b (methods_from U (fuel U) (λ methods statics. do
    consume right_curly_brace_kind 7
    node (class_row name methods statics superclass)) 0 0 0 0) (Held T Statement 0 b) u N
  class_rest_ok name superclass b u N c g i = methods_from_ok (fuel U) b u N _ _ g
      (λ m s v M l ms ss _ _. let a = l.up in finish Statement 0 b (omega arith) refl (omega arith) refl (form refl c refl refl (fits_less u b v M g (Many Function) m ms) (fits_less u b v M g (Many Function) s ss) (fits_later l b (Maybe Variable) superclass i) refl tt))
      0 0 0 0 u N (later_none u N) (inl (refl, refl)) (inl (refl, refl)) (λ e. refl)

  class_ok : (u : ℕ) (N : List ℕ) → Wp T u (class U) (Held T Statement 0 u) u N
  unfolding class
  class_ok u N = λ name c. (
    λ i t s q. (form refl q refl refl refl refl refl refl tt, refl, λ M m _ _. let h = held_node {T = T} Variable 0 u (omega arith) m refl (omega arith) in class_rest_ok name (u + 1) u (u + 1) M c (omega arith) (inr h.child)),
    λ _ _. class_rest_ok name 0 u u N c (omega arith) (inl refl),
  )

  declaration_ok : (u : ℕ) (N : List ℕ) → Wp T u (declaration U) (Held T Statement 0 u) u N
  unfolding declaration
  declaration_ok u N = (
    λ i t. class_ok u N,
    (
      λ i t. inner T u (fn_stmt U) (Held T Function 0 u) _ u N (omega arith) (fn_stmt_ok u N) λ f v M l x h. held_as Function Statement 0 0 (omega arith) function_statement h,
      (
        λ i t. inner T u (let_stmt U) (Held T Binding 0 u) _ u N (omega arith) (let_stmt_ok u N) λ f v M l x h. held_as Binding Statement 0 0 (omega arith) binding_statement h,
        statement_ok u N,
      ),
    ),
  )

  -- ---- expressions
  arguments_from_ok : (mark f n first last b u : ℕ) (N : List ℕ) → 1 ≤ mark → b ≤ u → Listing T Expression b first last u N → Wp T b (arguments_from U mark f n first last) (Listed Expression b) u N
  unfolding arguments_from
  arguments_from_ok zero f n first last b u N c g s = absurd (omega (arith, c))
  arguments_from_ok (suc mark) zero n first last b u N c g s = tt
  arguments_from_ok (suc mark) (suc f) n first last b u N c g s = when_ok b (eqb (suc mark) right_paren_kind && leb 255 n) _ _ _ u N tt λ e v M l x h.
      let a = l.up in (
        member_link e.node s l x h.child.above h.child.below,
        λ O k.
            let s' = member_next e.node g s l x h.root h.child k in
            let done = list_done T Expression b (first_of first e.node) e.node v O s' in
            (λ j t. (done, arguments_from_ok (suc mark) f (n + 1) (first_of first e.node) e.node b v O c (omega arith) s'), done),
      )

  arguments_ok : (mark u : ℕ) (N : List ℕ) → 1 ≤ mark → Wp T u (arguments U mark) (Listed Expression u) u N
  unfolding arguments
  arguments_ok zero u N c = absurd (omega (arith, c))
  arguments_ok (suc mark) u N c = (inl refl, arguments_from_ok (suc mark) (fuel U) 0 0 0 u u N c (omega arith) (inl (refl, refl)))

  list_ok : (u : ℕ) (N : List ℕ) → Wp T u (list U) (Held T Expression 8 u) u N
  unfolding list
  list_ok u N = inner T u (arguments U right_brace_kind) (Listed Expression u) _ u N (omega arith) (arguments_ok right_brace_kind u N (omega arith)) λ es v M l x h brace c. finish Expression 8 u l.up refl (omega arith) refl (form refl c refl refl h refl refl refl tt)

  dict_elements_from_ok : (f first last b u : ℕ) (N : List ℕ) → b ≤ u → Listing T Expression b first last u N → Wp T b (dict_elements_from U f first last) (Listed Expression b) u N
  unfolding dict_elements_from
  dict_elements_from_ok zero first last b u N g s = tt
  dict_elements_from_ok (suc f) first last b u N g s = (
    list_done T Expression b first last u N s,
    λ key v M l x h _ _ value w O k y r.
        let a1 = l.up in
        let a2 = k.up in
        let p = list_below T Expression b first last u N s in
        let q1 = h.child.above in
        let q2 = r.child.above in
        let q3 = r.child.below in
        let e1 = h.root in
        let e2 = r.root in
        let s1 = list_later T Expression b first last u w N O s (later_then l k) (forest_join T u v w M O a1 x k y) in
        let c1 = carry k u b g (One Expression) key.node h.child in
        let c2 = fits_less v b w O (omega arith) (One Expression) value.node r.child in
        let y1 : Forest T key.node w O = rw e1 y in (
          list_link T Expression b first last w key.node O s1 (omega arith) (omega arith),
          λ P j1.
              let s2 = list_next T Expression b first last w key.node O P s1 (omega arith) c1 y1 j1 in
              let c3 = child_linked O P b w last key.node Expression value.node j1 (λ e. omega arith) c2 in (
                list_link T Expression b (first_of first key.node) key.node w value.node P s2 (omega arith) (omega arith),
                λ Q j2.
                    let s3 = list_next T Expression b (first_of first key.node) key.node w value.node P Q s2 (omega arith) c3 (rw e2 (forest_none T w P)) j2 in
                    let s4 : Listing T Expression b (first_of first key.node) value.node w Q = rw (first_twice first key.node value.node (omega arith)) at s3 in
                    (λ i t. dict_elements_from_ok f (first_of first key.node) value.node b w Q (omega arith) s4, list_done T Expression b (first_of first key.node) value.node w Q s4),
              ),
        ),
  )

  dictionary_ok : (u : ℕ) (N : List ℕ) → Wp T u (dictionary U) (Held T Expression 8 u) u N
  unfolding dictionary
  dictionary_ok u N = inner T u (dict_elements_from U (fuel U) 0 0) (Listed Expression u) _ u N (omega arith) (dict_elements_from_ok (fuel U) 0 0 u u N (omega arith) (inl (refl, refl))) λ es v M l x h brace c. finish Expression 8 u l.up refl (omega arith) refl (form refl c refl refl h refl refl refl tt)

  super_expr_ok : (keyword u : ℕ) (N : List ℕ) → keyword ≤ count T → Wp T u (super_expr U keyword) (Held T Expression 8 u) u N
  unfolding super_expr
  super_expr_ok keyword u N c = (
    finish Expression 8 u (omega arith) refl (omega arith) refl (form refl c (omega arith) refl refl refl refl refl tt),
    λ _ _ method q. finish Expression 8 u (omega arith) refl (omega arith) refl (form refl c q refl refl refl refl refl tt),
  )

  literal_ok : (t u : ℕ) (N : List ℕ) → t ≤ count T → Wp T u (node (literal_row t)) (Held T Expression 8 u) u N
  literal_ok t u N c = finish Expression 8 u (omega arith) refl (omega arith) refl (form refl c refl refl refl refl refl refl tt)

  primary_ok : (u : ℕ) (N : List ℕ) → Wp T u (primary U) (Held T Expression 8 u) u N
  unfolding primary
  primary_ok u N = (
    λ i t. literal_ok i u N t.within,
    (
      λ i t. literal_ok i u N t.within,
      (
        λ i t. literal_ok i u N t.within,
        (
          λ i t. literal_ok i u N t.within,
          (
            λ i t. literal_ok i u N t.within,
            (
              λ i t. (form refl t.within refl refl refl refl refl refl tt, refl, λ M m. let h = held_node {T = T} Expression 8 u (omega arith) m refl (omega arith) in record { root = refl; child = h.child; tight = h.tight; form = t.within; access = inl refl }),
              (
                λ i t e v M l x h _ _. finish Expression 8 u l.up refl (omega arith) refl (form refl refl refl refl h.child refl refl refl tt),
                (
                  λ i t. list_ok u N,
                  (
                    λ i t. dictionary_ok u N,
                    (
                      λ i t. fn_expr_ok u N,
                      (
                        λ i t. finish Expression 8 u (omega arith) refl (omega arith) refl (form refl t.within refl refl refl refl refl refl tt),
                        (
                          λ i t. super_expr_ok i u N t.within,
                          (
                            λ i t. (form refl refl refl refl refl refl refl refl tt, refl, λ M m. let h = held_node {T = T} Expression 8 u (omega arith) m refl (omega arith) in record { root = refl; child = h.child; tight = h.tight; form = tt; access = inl refl }),
                            tt,
                          ),
                        ),
                      ),
                    ),
                  ),
                ),
              ),
            ),
          ),
        ),
      ),
    ),
  )

  -- what may stand left of `=`, kept
  form_later : (b u v : ℕ) (N M : List ℕ) (f : Form) → Later u N v M → FormFits T b u N f → FormFits T b v M f
  form_later b u v N M Other l x = tt
  form_later b u v N M Empty l x = tt
  form_later b u v N M (Name t) l x = x
  form_later b u v N M (Property t o) l x = (x.0, fits_later l b (One Expression) o x.1)

  form_through_lem : (b u : ℕ) (N : List ℕ) (f : Form) → FormFits T b u N f → FormFits T b u N (form_through f)
  form_through_lem b u N Other x = tt
  form_through_lem b u N Empty x = tt
  form_through_lem b u N (Name t) x = x
  form_through_lem b u N (Property t o) x = x

  -- an object that is held
  record Object (b : ℕ) (f : Found) (u : ℕ) (N : List ℕ) : Type 0 where
    start : b ≤ u
    child : Child N b u Expression f.node
    form : FormFits T b u N f.form

  object_later : (b : ℕ) (f : Found) (u v : ℕ) (N M : List ℕ) → Later u N v M → Object b f u N → Object b f v M
  object_later b f u v N M l o = let a = l.up in let s = o.start in record { start = omega arith; child = fits_later l b (One Expression) f.node o.child; form = form_later b u v N M f.form l o.form }

  -- with what an expression reader holds the reading goes on
  module _ (b : ℕ) (R : Found → ℕ → List ℕ → Type 0) (K : (f : Found) (v : ℕ) (M : List ℕ) → Held T Expression 8 b f v M → R f v M) where
    closed_ok : (object : Found) (brace first c second d third u : ℕ) (N : List ℕ) → brace ≤ count T → c ≤ count T → d ≤ count T → Object b object u N → Fits N b u (Maybe Expression) first → Fits N b u (Maybe Expression) second → Fits N b u (Maybe Expression) third → Wp T b (closed U object brace first c second d third) R u N
    unfolding closed
    closed_ok object brace first c second d third u N q1 q2 q3 o x y z = λ _ _. (
      form refl q1 q2 q3 o.child x y z tt,
      refl,
      λ M m.
          let h = held_node {T = T} Expression 8 b o.start m refl (omega arith) in
          let i = held_node {T = T} Index 8 b o.start m refl (omega arith) in
          let r : Held T Expression 8 b (through object (u + 1)) (u + 1) M = record { root = refl; child = h.child; tight = h.tight; form = form_through_lem b (u + 1) M object.form (form_later b u (u + 1) N M object.form m.later o.form); access = inr i.child } in
          K (through object (u + 1)) (u + 1) M r,
    )

    access_ok : (object : Found) (brace u : ℕ) (N : List ℕ) → brace ≤ count T → Object b object u N → Wp T b (access U object brace) R u N
    unfolding access
    access_ok object brace u N q o =
        let g = o.start in
        let zero : 0 ≤ count T = omega arith in (
          λ c s. (
            λ d t third v M l x h. closed_ok object brace 0 c 0 d third.node v M q s.within t.within (object_later b object u v N M l o) (inl refl) (inl refl) (inr (fits_less u b v M g (One Expression) third.node h.child)),
            λ second v M l x h.
                let a = l.up in
                let o' = object_later b object u v N M l o in
                let c2 = fits_less u b v M g (One Expression) second.node h.child in (
                  λ d t third w O k y r. closed_ok object brace 0 c second.node d third.node w O q s.within t.within (object_later b object v w M O k o') (inl refl) (inr (fits_later k b (One Expression) second.node c2)) (inr (fits_less v b w O o'.start (One Expression) third.node r.child)),
                  closed_ok object brace 0 c second.node 0 0 v M q s.within zero o' (inl refl) (inr c2) (inl refl),
                ),
          ),
          λ first v M l x h.
              let o' = object_later b object u v N M l o in
              let c1 = fits_less u b v M g (One Expression) first.node h.child in (
                λ c s.
                    let short = closed_ok object brace first.node c 0 0 0 v M q s.within zero o' (inr c1) (inl refl) (inl refl) in (
                      λ d t third w O k y r. closed_ok object brace first.node c 0 d third.node w O q s.within t.within (object_later b object v w M O k o') (inr (fits_later k b (One Expression) first.node c1)) (inl refl) (inr (fits_less v b w O o'.start (One Expression) third.node r.child)),
                      (
                        short,
                        (
                          short,
                          λ second w O k y r.
                              let o'' = object_later b object v w M O k o' in
                              let c1' = fits_later k b (One Expression) first.node c1 in
                              let c2 = fits_less v b w O o'.start (One Expression) second.node r.child in (
                                λ d t.
                                    let two = closed_ok object brace first.node c second.node d 0 w O q s.within t.within o'' (inr c1') (inr c2) (inl refl) in
                                    (two, (two, λ third z P j y' r'. closed_ok object brace first.node c second.node d third.node z P q s.within t.within (object_later b object w z O P j o'') (inr (fits_later j b (One Expression) first.node c1')) (inr (fits_later j b (One Expression) second.node c2)) (inr (fits_less w b z P o''.start (One Expression) third.node r'.child)))),
                                closed_ok object brace first.node c second.node 0 0 w O q s.within zero o'' (inr c1') (inr c2) (inl refl),
                              ),
                        ),
                      ),
                    ),
                closed_ok object brace first.node 0 0 0 0 v M q zero zero o' (inr c1) (inl refl) (inl refl),
              ),
        )

    finish_call_ok : (callee : Found) (u : ℕ) (N : List ℕ) → Object b callee u N → Wp T b (finish_call U callee) R u N
    unfolding finish_call
    finish_call_ok callee u N o = inner T b (arguments U right_paren_kind) (Listed Expression u) _ u N o.start (arguments_ok right_paren_kind u N (omega arith)) λ args v M l x es paren c.
        let g = o.start in
        let a = l.up in
        (form refl c refl refl (fits_later l b (One Expression) callee.node o.child) (fits_less u b v M g (Many Expression) args.node es) refl refl tt, refl, λ O m. K (plain (v + 1)) (v + 1) O (held_node Expression 8 b (omega arith) m refl (omega arith)))

  held_object : (b u : ℕ) (N : List ℕ) (f : Found) (l : ℕ) → Held T Expression l b f u N → Object b f u N
  held_object b u N f l h = let a = h.child.above in let c = h.child.below in record { start = omega arith; child = h.child; form = h.form }

  call_from_ok : (f b u : ℕ) (N : List ℕ) (e : Found) → Held T Expression 8 b e u N → Wp T b (call_from U f e) (Held T Expression 8 b) u N
  unfolding call_from
  call_from_ok zero b u N e h = tt
  call_from_ok (suc f) b u N e h = (
    λ i t. finish_call_ok b _ (λ n v M g. call_from_ok f b v M n g) e u N (held_object b u N e 8 h),
    (
      λ i t name c. (
        form refl c refl refl h.child refl refl refl tt,
        refl,
        λ M m.
            let o = held_object b u N e 8 h in
            let r = held_node {T = T} Expression 8 b o.start m refl (omega arith) in
            call_from_ok f b (u + 1) M (property name e.node (u + 1)) (record { root = refl; child = r.child; tight = r.tight; form = (c, fits_later m.later b (One Expression) e.node h.child); access = inl refl }),
      ),
      (λ i t. access_ok b _ (λ n v M g. call_from_ok f b v M n g) e i u N t.within (held_object b u N e 8 h), h),
    ),
  )

  call_ok : (u : ℕ) (N : List ℕ) → Wp T u (call U) (Held T Expression 8 u) u N
  unfolding call
  call_ok u N = inner T u (primary U) (Held T Expression 8 u) _ u N (omega arith) (primary_ok u N) λ e v M l x h. call_from_ok (fuel U) u v M e h

  unary_ok : (u : ℕ) (N : List ℕ) → Wp T u (unary U) (Held T Expression 8 u) u N
  unfolding unary
  unary_ok u N = (
    λ i t e v M l x h. finish Expression 8 u l.up refl (omega arith) refl (form refl t.within refl refl h.child refl refl refl tt),
    (λ i t e v M l x h. finish Expression 8 u l.up refl (omega arith) refl (form refl t.within refl refl h.child refl refl refl tt), call_ok u N),
  )

  -- ---- binary operators
  -- the operators of one level
  abbrev Operators : ℕ → List ℕ → Type 0
  Operators l [] = Unit {0}
  Operators l (k ∷ ks) = (1 ≤ k) × (binding k ≡ l) × Operators l ks

  look_many_ok : (l b : ℕ) (ks : List ℕ) (found : ℕ → Prog) (missing : Prog) (R : Found → ℕ → List ℕ → Type 0) (u : ℕ) (N : List ℕ) → Operators l ks → ((i : ℕ) → i ≤ count T → binding (kind_at T (i - 1)) ≡ l → Wp T b (found i) R u N) → Wp T b missing R u N → Wp T b (look_many U ks found missing) R u N
  unfolding look_many
  look_many_ok l b [] found missing R u N o h g = g
  look_many_ok l b (zero ∷ ks) found missing R u N o h g = absurd (omega (arith, o.0))
  look_many_ok l b (suc k ∷ ks) found missing R u N o h g = (λ i t. h i t.within (rw t.seen o.1), look_many_ok l b ks found missing R u N o.2 h g)

  operation_ok : (t : Bool) (left i right l b u : ℕ) (N : List ℕ) (R : Found → ℕ → List ℕ → Type 0) → b ≤ u → i ≤ count T → binding (kind_at T (i - 1)) ≡ l → Child N b u Expression left → Child N b u Expression right → l ≤ tight_of T N left → l < tight_of T N right → ((M : List ℕ) → Held T Expression l b (plain (u + 1)) (u + 1) M → R (plain (u + 1)) (u + 1) M) → Wp T b (node (row_if t (logical_row left i right) (binary_row left i right))) R u N
  operation_ok true left i right l b u N R g c e x y p q K = (form refl c refl refl x y refl refl (rw e (p, q)), refl, λ M m. K M (held_node Expression l b g m refl (rw e (omega arith))))
  operation_ok false left i right l b u N R g c e x y p q K = (form refl c refl refl x y refl refl (rw e (p, q)), refl, λ M m. K M (held_node Expression l b g m refl (rw e (omega arith))))

  binary_from_ok : (level : Level) (l : ℕ) → Operators l level.operators → (operand : Prog) → ((u : ℕ) (N : List ℕ) → Wp T u operand (Held T Expression (l + 1) u) u N) → (f b u : ℕ) (N : List ℕ) (left : Found) → Held T Expression l b left u N → Wp T b (binary_from U level operand f left) (Held T Expression l b) u N
  unfolding binary_from
  binary_from_ok level l o operand w zero b u N left h = tt
  binary_from_ok level l o operand w (suc f) b u N left h =
      let a = h.child.above in
      let c = h.child.below in
      look_many_ok l b level.operators _ _ _ u N o
      (λ i q e. inner T b operand (Held T Expression (l + 1) u) _ u N (omega arith) (w u N) λ right v M k x r.
      let z = k.up in
      let t1 = h.tight in
      let t2 = r.tight in
      operation_ok level.logical left.node i right.node l b v M (λ n v M. Wp T b (binary_from U level operand f n) (Held T Expression l b) v M) (omega arith) q e
      (fits_later k b (One Expression) left.node h.child)
      (fits_less u b v M (omega arith) (One Expression) right.node r.child)
      (rw (tight_later T k b left.node a c) t1)
      (omega arith)
      λ O g. binary_from_ok level l o operand w f b (v + 1) O (plain (v + 1)) g)
      h

  abbrev Leveled : ℕ → List Level → Type 0
  Leveled l [] = l ≤ 8
  Leveled l (level ∷ tighter) = Operators l level.operators × Leveled (l + 1) tighter

  binary_ok : (ls : List Level) (l : ℕ) → Leveled l ls → (u : ℕ) (N : List ℕ) → Wp T u (binary U ls) (Held T Expression l u) u N
  unfolding binary
  binary_ok [] l h u N = inner T u (unary U) (Held T Expression 8 u) _ u N (omega arith) (unary_ok u N) λ f v M k x r. held_as Expression Expression 8 l h (λ k e. e) r
  binary_ok (level ∷ tighter) l h u N = inner T u (binary U tighter) (Held T Expression (l + 1) u) _ u N (omega arith) (binary_ok tighter (l + 1) h.1 u N) λ left v M k x r. binary_from_ok level l h.0 (binary U tighter) (binary_ok tighter (l + 1) h.1) (fuel U) u v M left (held_as Expression Expression (l + 1) l (omega arith) (λ k e. e) r)

  levels_leveled : Leveled 1 levels
  unfolding binding
  levels_leveled = omega arith

  assigned_ok : (f : Form) (access value equal b u : ℕ) (N : List ℕ) → b ≤ u → FormFits T b u N f → Fits N b u (Maybe Index) access → Child N b u Expression value → Wp T b (assigned f access value equal) (Held T Expression 0 b) u N
  assigned_ok (Name t) access value equal b u N g x y z = finish Expression 0 b g refl (omega arith) refl (form refl x refl refl z y refl refl tt)
  assigned_ok (Property t o) access value equal b u N g x y z = finish Expression 0 b g refl (omega arith) refl (form refl x.0 refl refl x.1 z y refl tt)
  assigned_ok Other access value equal b u N g x y z = tt
  assigned_ok Empty access value equal b u N g x y z = tt

  assignment_ok : (u : ℕ) (N : List ℕ) → Wp T u (assignment U) (Held T Expression 0 u) u N
  unfolding assignment
  assignment_ok u N = inner T u (binary U levels) (Held T Expression 1 u) _ u N (omega arith) (binary_ok levels 1 levels_leveled u N) λ left v M l x h. (
    λ i t value w O k y r.
        let a1 = l.up in
        let a2 = k.up in
        assigned_ok left.form left.access value.node i u w O (omega arith) (form_later u v w M O left.form k h.form) (fits_later k u (Maybe Index) left.access h.access) (fits_less v u w O a1 (One Expression) value.node r.child),
    held_as Expression Expression 1 0 (omega arith) (λ k e. e) h,
  )

  pub body_ok : (w : Which) (u : ℕ) (N : List ℕ) → Wp T u (body U w) (Held T (sort_of w) (tight_from w) u) u N
  unfolding body
  body_ok Declaration u N = declaration_ok u N
  body_ok Assignment u N = assignment_ok u N
  body_ok Operand u N = unary_ok u N
