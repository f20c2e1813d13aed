-- What stands after EOF does not matter: over two token tables that agree up to an EOF, every reading that starts at or before it does the same, and stays there. So a parsing depends on no token after EOF; and it ends with one of five outcomes.
use mathlib.Core.Path.{◌≡◌, refl, subst, subst⁻¹}
use mathlib.Core.List.{List, [], ◌∷◌}
use mathlib.Core.Bool.{Bool, true, false, ◌&&◌, ◌||◌}
use mathlib.Core.Logic.{⊎_elim}
use Prim.Native.Nat.{ℕ, zero, suc, ◌+◌, ◌-◌, ◌≤◌, ◌<◌}
use native.Mathlib.Omega.{arith}
use lib.Dec as dec
use lib.Dec.{leb, ltb, eqb}
use borrow.Author.Tests.{eqb-true, eqb-false}
use Rattle.token.specs.Kind.{newline_kind, right_paren_kind, right_brace_kind}
use Rattle.records.specs.Table.{room, linked, token_width, index_width}
use Rattle.records.specs.declared.Node as rows
use Rattle.records.proofs.Rooms.{lt_or_le}
use Rattle.records.proofs.Field.{field_none}
use Rattle.parser.specs.declared.State.{State}
use Rattle.parser.specs.declared.Form.{Form}
use Rattle.parser.specs.declared.Form.TheVariants.{Other, Empty, Name, Property}
use Rattle.parser.specs.declared.Found.{Found}
use Rattle.parser.specs.Tables.{Got}
use Rattle.parser.specs.Tables.{Node, Stop}
use Rattle.std.specs.Prelude.{Option}
use Rattle.std.specs.Prelude.{Some, None}
use Rattle.parser.specs.Tokens.{View, count, kind_at, start_at, line_at, after, walked, indexed, skip_lines, seen_if, check_at, matches_at}
use Rattle.parser.specs.Tables.{Reply, reply, looped, fresh_state, push_node, push_error, if_seen, and_then, consume_at, require_at}
use Rattle.parser.specs.Programs.{Reader, Which, Declaration, Assignment, Operand, Prog, give, stop, ◌>>=◌, ◌>>◌, look, check, at_end, previous, node, link, fail, fail_at, consume, require, enter_loop, leave_loop, give_back, inside_loop, in_function, down, either, restored, run}
use Rattle.parser.specs.Grammar.{first_of, property, when, assigned, Level, levels, fuel, block_from, block, expression_stmt, parameters_from, parameters, function_body, fn_stmt, fn_expr, methods_from, class, let_stmt, names_from, enhanced_for, classic_for, for_loop, try_catch, elifs_from, else_from, if_stmt, ret, brk, cont, while_stmt, statement, declaration, arguments_from, arguments, list, dict_elements_from, dictionary, closed, access, super_expr, primary, finish_call, call_from, call, unary, look_many, binary_from, binary, assignment, body, lower}
use Rattle.parser.specs.Whole.{Parsed, top_level, or_ends, if_end, statements, parsed}
use Rattle.parser.proofs.Push.{push_nodes, push_errors}
use Rattle.lines.specs.Lines.{line_index}
use Rattle.lines.proofs.Agrees.{skip_same, eof_apart, walked_within, walked_same, hops_same, indexed_within}
use Rattle.parsing.specs.Ahead.{Agree, is_outcome}
use Rattle.parsing.specs.Places.{is_parsers}
use Rattle.parsing.specs.Asked.{is_asked}
use Rattle.parsing.proofs.Same.{body_same}
use Rattle.progress.proofs.Fuel.{parsed_never_spent}

-- what a reading may stop with: an outcome of parsing, or 99 where fuel is used up
abbrev pub Stops : ℕ → Type 0
Stops o = dec.T (is_outcome o || eqb o 99)

-- a test holds, and what follows it
abbrev pub Given : Bool → Type 0 → Type 0
Given true A = A
Given false A = ⊥

pub given_out : (b : Bool) {A : Type 0} → Given b A → A
given_out true a = a
given_out false a = absurd a

pub given_so : (b : Bool) (A : Type 0) → Given b A → b ≡ true
given_so true A a = refl
given_so false A a = absurd a

given_in : (b : Bool) {A : Type 0} → b ≡ true → A → Given b A
given_in b {A} e a = subst⁻¹ (λ (c : Bool). Given c A) e a

-- ---- the tokens that a program names are at or before token e, the kinds that it asks for are 1 to 49, its messages are the parser's, and what it stops with is one of those stops and not 0
abbrev pub Kept : ℕ → Prog → Type 0
Kept e (give f) = Unit {0}
Kept e (stop o) = Given (leb 1 o) (Stops o)
Kept e (m >>= k) = Kept e m × ((f : Found) → Kept e (k f))
Kept e (m >> k) = Kept e m × Kept e k
Kept e (look kind found missing) = Given (is_asked kind) (((i : ℕ) → i ≤ e → Kept e (found i)) × Kept e missing)
Kept e (check kind found missing) = Given (is_asked kind) (Kept e found × Kept e missing)
Kept e (at_end found missing) = Kept e found × Kept e missing
Kept e previous = Unit {0}
Kept e (node d) = Unit {0}
Kept e (link prev next) = Unit {0}
Kept e (fail message) = dec.T (is_parsers message)
Kept e (fail_at message token) = dec.T (is_parsers message) × (token ≤ e)
Kept e (consume kind message) = Given (is_asked kind) (dec.T (is_parsers message))
Kept e (require kind message) = Given (is_asked kind) (dec.T (is_parsers message))
Kept e enter_loop = Unit {0}
Kept e leave_loop = Unit {0}
Kept e give_back = Unit {0}
Kept e (inside_loop found missing) = Kept e found × Kept e missing
Kept e (in_function name m) = Kept e m
Kept e (down w) = Unit {0}

when_kept : (t : Bool) (e : ℕ) (P Q : Prog) → Kept e P → Kept e Q → Kept e (when t P Q)
when_kept true e P Q g h = g
when_kept false e P Q g h = h

assigned_kept : (f : Form) (a v t e : ℕ) → t ≤ e → Kept e (assigned f a v t)
assigned_kept (Name n) a v t e h = tt
assigned_kept (Property n o) a v t e h = tt
assigned_kept Other a v t e h = ((tt, h), tt)
assigned_kept Empty a v t e h = ((tt, h), tt)

module _ (T : View) (e : ℕ) where
  block_from_kept : (f first last : ℕ) → Kept e (block_from T f first last)
  unfolding block_from
  block_from_kept zero first last = tt
  block_from_kept (suc f) first last = (λ i h. tt, (tt, λ n. (tt, block_from_kept f (first_of first n.node) n.node)))

  block_kept : Kept e (block T)
  unfolding block
  block_kept = block_from_kept (fuel T) 0 0

  expression_stmt_kept : Kept e (expression_stmt T)
  unfolding expression_stmt
  expression_stmt_kept = (tt, λ x. (tt, λ t. tt))

  parameters_from_kept : (message : ℕ) → dec.T (is_parsers message) → (f n first last : ℕ) → Kept e (parameters_from T message f n first last)
  unfolding parameters_from
  parameters_from_kept message g zero n first last = tt
  parameters_from_kept message g (suc f) n first last = when_kept (ltb 255 n) e _ _ (tt, tt) (g, λ i. (tt, λ d. (tt, (λ c h. parameters_from_kept message g f (n + 1) (first_of first d.node) d.node, tt))))

  parameters_kept : (message : ℕ) → dec.T (is_parsers message) → Kept e (parameters T message)
  unfolding parameters
  parameters_kept message g = (tt, parameters_from_kept message g (fuel T) 0 0 0)

  function_body_kept : Kept e (function_body T)
  unfolding function_body
  function_body_kept = (λ i h. block_kept, expression_stmt_kept)

  fn_stmt_kept : Kept e (fn_stmt T)
  unfolding fn_stmt
  fn_stmt_kept = (tt, λ name. (tt, (parameters_kept 11 tt, λ params. (tt, (function_body_kept, λ stmts. tt)))))

  fn_expr_kept : Kept e (fn_expr T)
  unfolding fn_expr
  fn_expr_kept = (tt, (parameters_kept 14 tt, λ params. (tt, (function_body_kept, λ stmts. tt))))

  methods_from_kept : (f : ℕ) (k : ℕ → ℕ → Prog) (m n s t : ℕ) → ((x y : ℕ) → Kept e (k x y)) → Kept e (methods_from T f k m n s t)
  unfolding methods_from
  methods_from_kept zero k m n s t g = tt
  methods_from_kept (suc f) k m n s t g = (g m s, (g m s, (λ i h. (fn_stmt_kept, λ q. (tt, methods_from_kept f k m n (first_of s q.node) q.node g)), (fn_stmt_kept, λ q. (tt, methods_from_kept f k (first_of m q.node) q.node s t g)))))

  class_kept : Kept e (class T)
  unfolding class
  class_kept = (tt, λ name. ((λ i h. (tt, λ s. tt), tt), λ sup. (tt, methods_from_kept (fuel T) _ 0 0 0 0 λ m s. (tt, tt))))

  let_kept : Kept e (let_stmt T)
  unfolding let_stmt
  let_kept = (tt, λ name. ((λ i h. tt, tt), λ init. tt))

  names_from_kept : (f first last : ℕ) → Kept e (names_from T f first last)
  unfolding names_from
  names_from_kept zero first last = tt
  names_from_kept (suc f) first last = (λ i h. (tt, λ n. (tt, ((λ j g. tt, tt), names_from_kept f (first_of first n.node) n.node))), tt)

  enhanced_kept : (keyword : ℕ) → Kept e (enhanced_for T keyword)
  unfolding enhanced_for
  enhanced_kept keyword = (names_from_kept (fuel T) 0 0, λ ids. (tt, (tt, λ v. (tt, λ s. (tt, tt)))))

  classic_kept : (keyword : ℕ) → Kept e (classic_for T keyword)
  unfolding classic_for
  classic_kept keyword = ((λ i h. tt, (λ i h. (let_kept, λ n. (tt, tt)), (tt, tt))), λ init. (tt, λ v. (tt, (tt, λ inc. (tt, λ s. (tt, tt))))))

  for_kept : (keyword : ℕ) → Kept e (for_loop T keyword)
  unfolding for_loop
  for_kept keyword = (tt, (enhanced_kept keyword, classic_kept keyword))

  try_kept : Kept e (try_catch T)
  unfolding try_catch
  try_kept = (tt, λ s. (tt, (tt, λ n. (tt, λ t. tt))))

  elifs_from_kept : (f first last : ℕ) → Kept e (elifs_from T f first last)
  unfolding elifs_from
  elifs_from_kept zero first last = tt
  elifs_from_kept (suc f) first last = (λ i h. (tt, λ v. (tt, (block_kept, λ s. (tt, λ n. (tt, elifs_from_kept f (first_of first n.node) n.node))))), tt)

  else_from_kept : (f first last : ℕ) → Kept e (else_from T f first last)
  unfolding else_from
  else_from_kept zero first last = tt
  else_from_kept (suc f) first last = (tt, (tt, λ n. (tt, else_from_kept f (first_of first n.node) n.node)))

  if_kept : (keyword : ℕ) → Kept e (if_stmt T keyword)
  unfolding if_stmt
  if_kept keyword = (tt, λ v. (tt, (block_kept, λ s. (elifs_from_kept (fuel T) 0 0, λ n. ((λ i h. (tt, (else_from_kept (fuel T) 0 0, λ n. (tt, tt))), tt), λ others. tt)))))

  ret_kept : (keyword : ℕ) → Kept e (ret T keyword)
  unfolding ret
  ret_kept keyword = ((tt, tt), λ v. tt)

  brk_kept : (keyword : ℕ) → keyword ≤ e → Kept e (brk T keyword)
  unfolding brk
  brk_kept keyword h = ((tt, (tt, h)), tt)

  cont_kept : (keyword : ℕ) → keyword ≤ e → Kept e (cont T keyword)
  unfolding cont
  cont_kept keyword h = ((tt, (tt, h)), tt)

  while_kept : (keyword : ℕ) → Kept e (while_stmt T keyword)
  unfolding while_stmt
  while_kept keyword = (tt, (tt, λ v. (tt, λ s. (tt, tt))))

  statement_kept : Kept e (statement T)
  unfolding statement
  statement_kept =
      (λ i h. for_kept i, (λ i h. try_kept, (λ i h. if_kept i, (λ i h. ret_kept i, (λ i h. brk_kept i h, (λ i h. cont_kept i h, (λ i h. while_kept i, (λ i h. (block_kept, λ s. tt), expression_stmt_kept))))))))

  declaration_kept : Kept e (declaration T)
  unfolding declaration
  declaration_kept = (λ i h. class_kept, (λ i h. fn_stmt_kept, (λ i h. let_kept, statement_kept)))

  arguments_from_kept : (mark : ℕ) → is_asked mark ≡ true → (f n first last : ℕ) → Kept e (arguments_from T mark f n first last)
  unfolding arguments_from
  arguments_from_kept mark g zero n first last = tt
  arguments_from_kept mark g (suc f) n first last = when_kept (eqb mark right_paren_kind && leb 255 n) e _ _ (tt, tt) (tt, λ x. (tt, (λ i h. given_in (is_asked mark) g (tt, arguments_from_kept mark g f (n + 1) (first_of first x.node) x.node), tt)))

  arguments_kept : (mark : ℕ) → is_asked mark ≡ true → Kept e (arguments T mark)
  unfolding arguments
  arguments_kept mark g = given_in (is_asked mark) g (tt, arguments_from_kept mark g (fuel T) 0 0 0)

  list_kept : Kept e (list T)
  unfolding list
  list_kept = (arguments_kept right_brace_kind refl, λ x. (tt, λ s. tt))

  dict_from_kept : (f first last : ℕ) → Kept e (dict_elements_from T f first last)
  unfolding dict_elements_from
  dict_from_kept zero first last = tt
  dict_from_kept (suc f) first last = (tt, (tt, λ key. (tt, (tt, λ v. (tt, (tt, (λ i h. dict_from_kept f (first_of first key.node) v.node, tt)))))))

  dictionary_kept : Kept e (dictionary T)
  unfolding dictionary
  dictionary_kept = (dict_from_kept (fuel T) 0 0, λ x. (tt, λ s. tt))

  closed_kept : (object : Found) (brace c1 t1 c2 t2 c3 : ℕ) → Kept e (closed T object brace c1 t1 c2 t2 c3)
  unfolding closed
  closed_kept object brace c1 t1 c2 t2 c3 = (tt, (tt, λ n. tt))

  access_kept : (object : Found) (brace : ℕ) → Kept e (access T object brace)
  unfolding access
  access_kept object brace = (
    λ i h. (λ j g. (tt, λ n. closed_kept _ _ _ _ _ _ _), (tt, λ n. (λ j g. (tt, λ m. closed_kept _ _ _ _ _ _ _), closed_kept _ _ _ _ _ _ _))),
    (tt, λ m. (λ i h. (λ j g. (tt, λ n. closed_kept _ _ _ _ _ _ _), (closed_kept _ _ _ _ _ _ _, (closed_kept _ _ _ _ _ _ _, (tt, λ n. (λ j g. (closed_kept _ _ _ _ _ _ _, (closed_kept _ _ _ _ _ _ _, (tt, λ q. closed_kept _ _ _ _ _ _ _))), closed_kept _ _ _ _ _ _ _))))), closed_kept _ _ _ _ _ _ _)),
  )

  super_kept : (keyword : ℕ) → Kept e (super_expr T keyword)
  unfolding super_expr
  super_kept keyword = (tt, (tt, (tt, λ m. tt)))

  primary_kept : Kept e (primary T)
  unfolding primary
  primary_kept =
      (λ i h. tt, (λ i h. tt, (λ i h. tt, (λ i h. tt, (λ i h. tt, (λ i h. (tt, λ n. tt), (λ i h. (tt, λ x. (tt, tt)), (λ i h. list_kept, (λ i h. dictionary_kept, (λ i h. fn_expr_kept, (λ i h. tt, (λ i h. super_kept i, (λ i h. (tt, λ n. tt), (tt, tt))))))))))))))

  finish_call_kept : (callee : Found) → Kept e (finish_call T callee)
  unfolding finish_call
  finish_call_kept callee = (arguments_kept right_paren_kind refl, λ x. (tt, λ s. tt))

  call_from_kept : (f : ℕ) (x : Found) → Kept e (call_from T f x)
  unfolding call_from
  call_from_kept zero x = tt
  call_from_kept (suc f) x = (λ i h. (finish_call_kept x, λ n. call_from_kept f n), (λ i h. (tt, λ name. (tt, λ n. call_from_kept f (property name.node x.node n.node))), (λ i h. (access_kept x i, λ n. call_from_kept f n), tt)))

  call_kept : Kept e (call T)
  unfolding call
  call_kept = (primary_kept, λ x. call_from_kept (fuel T) x)

  unary_kept : Kept e (unary T)
  unfolding unary
  unary_kept = (λ i h. (tt, λ n. tt), (λ i h. (tt, λ n. tt), call_kept))

  -- operators, and those of the levels
  abbrev Operators : List ℕ → Type 0
  Operators [] = Unit {0}
  Operators (k ∷ ks) = (is_asked k ≡ true) × Operators ks

  abbrev Levels : List Level → Type 0
  Levels [] = Unit {0}
  Levels (l ∷ ls) = Operators l.operators × Levels ls

  many_kept : (ks : List ℕ) (found : ℕ → Prog) (missing : Prog) → Operators ks → ((i : ℕ) → i ≤ e → Kept e (found i)) → Kept e missing → Kept e (look_many T ks found missing)
  unfolding look_many
  many_kept [] found missing o g h = h
  many_kept (k ∷ ks) found missing o g h = given_in (is_asked k) o.0 (g, many_kept ks found missing o.1 g h)

  binary_from_kept : (level : Level) (P : Prog) → Operators level.operators → Kept e P → (f : ℕ) (left : Found) → Kept e (binary_from T level P f left)
  unfolding binary_from
  binary_from_kept level P o g zero left = tt
  binary_from_kept level P o g (suc f) left = many_kept level.operators _ _ o (λ i h. (g, λ r. (tt, λ n. binary_from_kept level P o g f n))) tt

  binary_kept : (ls : List Level) → Levels ls → Kept e (binary T ls)
  unfolding binary
  binary_kept [] o = unary_kept
  binary_kept (l ∷ ls) o = (binary_kept ls o.1, λ left. binary_from_kept l (binary T ls) o.0 (binary_kept ls o.1) (fuel T) left)

  levels_asked : Levels levels
  levels_asked = ((refl, tt), ((refl, tt), ((refl, (refl, tt)), ((refl, (refl, (refl, (refl, tt)))), ((refl, (refl, tt)), ((refl, (refl, (refl, tt))), ((refl, tt), tt)))))))

  assignment_kept : Kept e (assignment T)
  unfolding assignment
  assignment_kept = (binary_kept levels levels_asked, λ left. (λ i h. (tt, λ v. assigned_kept left.form left.access v.node i e h), tt))

  pub body_kept : (w : Which) → Kept e (body T w)
  unfolding body
  body_kept Declaration = declaration_kept
  body_kept Assignment = assignment_kept
  body_kept Operand = unary_kept

-- ---- tables that agree
-- two tables whose newlines are walked
pub agree_walked : (t t' : List ℕ) (e : ℕ) → count t ≡ count t' → kind_at t e ≡ 0 → ((i : ℕ) → i ≤ e → kind_at t i ≡ kind_at t' i) → ((i : ℕ) → i ≤ e → start_at t i ≡ start_at t' i) → ((i : ℕ) → i ≤ e → line_at t i ≡ line_at t' i) → Agree e (walked t) (walked t')
agree_walked t t' e c end k s l = record { counts = c; end = end; kinds = k; starts = s; lines = l; hops = λ i h n. walked_same t e (eof_apart t e end) t' c k i h; within = walked_within t e (eof_apart t e end) }

-- such a table agrees with itself up to any EOF
pub agree_self : (t : List ℕ) (e : ℕ) → kind_at t e ≡ 0 → Agree e (walked t) (walked t)
agree_self t e end = agree_walked t t e refl end (λ i h. refl) (λ i h. refl) λ i h. refl

-- and with what its index makes of it, up to the last of the n tokens that are indexed
pub agree_indexed : (t x : List ℕ) (n : ℕ) → 0 < n → n ≤ count t → kind_at t (n - 1) ≡ 0 → n ≤ room index_width x → Agree (n - 1) (indexed t (line_index t n x)) (walked t)
agree_indexed t x n some kept end fits = record { counts = refl; end = end; kinds = λ i h. refl; starts = λ i h. refl; lines = λ i h. refl; hops = λ i h o. hops_same t x n some kept end fits i h; within = indexed_within t x n some kept end fits }

-- ---- looking at tokens
-- the same place, at or before e
abbrev Place : ℕ → ℕ → ℕ → Type 0
Place e i j = (i ≤ e) × (i ≡ j)

-- the same token at or before e, or none
pub data Spotted (e : ℕ) : Option ℕ → Option ℕ → Type 0 where
  spot : (i : ℕ) → i ≤ e → Spotted e (Some i) (Some i)
  none : Spotted e None None

-- where a reading stops, it is with one of parsing's stops
abbrev pub Ending : Got → Type 0
Ending (Node f) = Unit {0}
Ending (Stop o) = Stops o

-- the same answer and tables, the reading is at or before e, and a stop is one of parsing's
pub data Ahead (e : ℕ) : Reply → Reply → Type 0 where
  ahead : (q : State) (g : Got) (E N : List ℕ) → q.current ≤ e → Ending g → Ahead e (reply q g E N) (reply q g E N)

module _ (T T' : View) (e : ℕ) (a : Agree e T T') where
  -- a token that is no EOF stands before it
  before : (i : ℕ) → i ≤ e → (kind_at T.tokens i ≡ 0 → ⊥) → i + 1 ≤ e
  before i h n = ⊎_elim (λ l. omega arith) (λ l. let s : e ≡ i = omega arith in absurd (n (rw (← s) a.end))) (lt_or_le i e)

  after_ahead : (i : ℕ) → i ≤ e → Place e (after T.tokens i) (after T'.tokens i)
  unfolding after
  after_ahead i h = rw (← a.kinds i h, after) (go (eqb (kind_at T.tokens i) 0) refl)
    where
      go : (b : Bool) → eqb (kind_at T.tokens i) 0 ≡ b → Place e (elim b [ true ↦ i | false ↦ i + 1 ]) (elim b [ true ↦ i | false ↦ i + 1 ])
      go true t = (h, refl)
      go false t = (before i h (eqb-false (kind_at T.tokens i) 0 t), refl)

  skip_ahead : (i : ℕ) → i ≤ e → Place e (skip_lines T i) (skip_lines T' i)
  skip_ahead i h = (a.within i h, skip_same T T' i (a.kinds i h) (a.hops i h))

  seen_ahead : (b : Bool) (i : ℕ) → i ≤ e → Spotted e (seen_if b i) (seen_if b i)
  unfolding seen_if
  seen_ahead true i h = spot i h
  seen_ahead false i h = none

  pub check_ahead : (i kind : ℕ) → i ≤ e → Spotted e (check_at T i kind) (check_at T' i kind)
  unfolding check_at
  check_ahead i kind h = go (eqb kind 1)
    where
      go : (b : Bool) → Spotted e (elim b [ true ↦ seen_if (eqb (kind_at T.tokens i) 1) i | false ↦ seen_if (eqb (kind_at T.tokens (skip_lines T i)) kind) (skip_lines T i) ])
          (elim b [ true ↦ seen_if (eqb (kind_at T'.tokens i) 1) i | false ↦ seen_if (eqb (kind_at T'.tokens (skip_lines T' i)) kind) (skip_lines T' i) ])
      go true = rw (← a.kinds i h) (seen_ahead (eqb (kind_at T.tokens i) 1) i h)
      go false =
          let s = skip_ahead i h in
          rw (← s.1, ← a.kinds (skip_lines T i) s.0) (seen_ahead (eqb (kind_at T.tokens (skip_lines T i)) kind) (skip_lines T i) s.0)

  pub matches_ahead : (i kind : ℕ) → i ≤ e → Spotted e (matches_at T i kind) (matches_at T' i kind)
  unfolding matches_at
  matches_ahead i kind h = go (check_ahead i kind h)
    where
      go : {s s' : Option ℕ} → Spotted e s s' → Spotted e (elim s [ Some j ↦ Some (after T.tokens j) | None ↦ None ]) (elim s' [ Some j ↦ Some (after T'.tokens j) | None ↦ None ])
      go (spot j l) = let f = after_ahead j l in rw (← f.1) (spot (after T.tokens j) f.0)
      go none = none

-- ---- steps of a reading
abbrev pub cursor_of : Reply → ℕ
cursor_of (reply q g E N) = q.current

ahead_is : (e : ℕ) {r r' : Reply} → Ahead e r r' → r ≡ r'
ahead_is e (ahead q g E N l x) = refl

pub ahead_at : (e : ℕ) {r r' : Reply} → Ahead e r r' → cursor_of r ≤ e
ahead_at e (ahead q g E N l x) = l

ahead_then : (e : ℕ) {r r' : Reply} (k k' : Found → Reader) → Ahead e r r' → ((f : Found) (q : State) (E N : List ℕ) → q.current ≤ e → Ahead e (k f q E N) (k' f q E N)) → Ahead e (and_then r k) (and_then r' k')
ahead_then e k k' (ahead q (Node f) E N l x) h = h f q E N l
ahead_then e k k' (ahead q (Stop o) E N l x) h = ahead q (Stop o) E N l x

ahead_seen : (e : ℕ) {s s' : Option ℕ} (f f' : ℕ → Reply) (g g' : Unit {0} → Reply) → Spotted e s s' → ((i : ℕ) → i ≤ e → Ahead e (f i) (f' i)) → Ahead e (g tt) (g' tt) → Ahead e (if_seen s f g) (if_seen s' f' g')
ahead_seen e f f' g g' (spot i l) h m = h i l
ahead_seen e f f' g g' none h m = m

ahead_either : (e : ℕ) (b : Bool) (f f' g g' : Unit {0} → Reply) → Ahead e (f tt) (f' tt) → Ahead e (g tt) (g' tt) → Ahead e (either b f g) (either b f' g')
ahead_either e true f f' g g' h m = h
ahead_either e false f f' g g' h m = m

ahead_restored : (e : ℕ) (p : State) {r r' : Reply} → Ahead e r r' → Ahead e (restored p r) (restored p r')
ahead_restored e p (ahead q (Node f) E N l x) = ahead (looped q p.loops) (Node f) E N l tt
ahead_restored e p (ahead q (Stop o) E N l x) = ahead q (Stop o) E N l x

ahead_push : (e : ℕ) (d : rows.Node) (p : State) (E N : List ℕ) → p.current ≤ e → Ahead e (push_node d p E N) (push_node d p E N)
ahead_push e d p E N l = push_nodes (Ahead e) d d p p E N E N refl refl (λ _. ahead _ _ _ _ l tt) (ahead _ _ _ _ l tt)

module _ (T T' : View) (e : ℕ) (a : Agree e T T') where
  ahead_error : (m i : ℕ) (p : State) (E N : List ℕ) → i ≤ e → p.current ≤ e → Ahead e (push_error T.tokens m i p E N) (push_error T'.tokens m i p E N)
  ahead_error m i p E N h l = push_errors (Ahead e) T.tokens T'.tokens m i p p E N E N refl refl (λ _. rw (a.lines i h, a.starts i h) (ahead _ _ _ _ l tt)) (ahead _ _ _ _ l tt)

  ahead_consume : (kind m : ℕ) (p : State) (E N : List ℕ) → p.current ≤ e → Ahead e (consume_at T kind m p E N) (consume_at T' kind m p E N)
  unfolding consume_at
  ahead_consume kind m p E N l = ahead_seen e _ _ _ _ (matches_ahead T T' e a p.current kind l) (λ i h. ahead _ _ E N h tt) (ahead_error m p.current _ E N l l)

  ahead_require : (kind m : ℕ) (p : State) (E N : List ℕ) → p.current ≤ e → Ahead e (require_at T kind m p E N) (require_at T' kind m p E N)
  unfolding require_at
  ahead_require kind m p E N l =
      ahead_seen e _ _ _ _ (matches_ahead T T' e a p.current kind l) (λ i h. ahead _ _ E N h tt)
      (ahead_then e _ _ (ahead_error m p.current _ E N l l) λ f q E N h. ahead q (Stop 1) E N h tt)

  -- ---- the induction: one program over both tables, with readers one level down that do the same
  module _ (low low' : Which → Reader) (g : (w : Which) (p : State) (E N : List ℕ) → p.current ≤ e → Ahead e (low w p E N) (low' w p E N)) where
    pub run_ahead : (P : Prog) → Kept e P → (p : State) (E N : List ℕ) → p.current ≤ e → Ahead e (run T low P p E N) (run T' low' P p E N)
    unfolding run
    run_ahead (give f) k p E N l = ahead p _ E N l tt
    run_ahead (stop o) k p E N l = ahead p _ E N l (given_out (leb 1 o) k)
    run_ahead (m >>= n) k p E N l = ahead_then e _ _ (run_ahead m k.0 p E N l) λ f q E N h. run_ahead (n f) (k.1 f) q E N h
    run_ahead (m >> n) k p E N l = ahead_then e _ _ (run_ahead m k.0 p E N l) λ f q E N h. run_ahead n k.1 q E N h
    run_ahead (look kind found missing) k p E N l = ahead_seen e _ _ _ _ (matches_ahead T T' e a p.current kind l) (λ i h. run_ahead (found i) ((given_out (is_asked kind) k).0 i h) _ E N h) (run_ahead missing (given_out (is_asked kind) k).1 _ E N l)
    run_ahead (check kind found missing) k p E N l = ahead_seen e _ _ _ _ (check_ahead T T' e a p.current kind l) (λ i h. run_ahead found (given_out (is_asked kind) k).0 _ E N h) (run_ahead missing (given_out (is_asked kind) k).1 _ E N l)
    run_ahead (at_end found missing) k p E N l = rw (← a.kinds p.current l) (ahead_either e (eqb (kind_at T.tokens p.current) 0) _ _ _ _ (run_ahead found k.0 p E N l) (run_ahead missing k.1 p E N l))
    run_ahead previous k p E N l = ahead p _ E N l tt
    run_ahead (node d) k p E N l = ahead_push e d p E N l
    run_ahead (link prev next) k p E N l = ahead p _ E _ l tt
    run_ahead (fail message) k p E N l = ahead_error message p.current p E N l l
    run_ahead (fail_at message token) k p E N l = let b = k.1 in ahead_error message (token - 1) p E N (omega arith) l
    run_ahead (consume kind message) k p E N l = ahead_consume kind message p E N l
    run_ahead (require kind message) k p E N l = ahead_require kind message p E N l
    run_ahead enter_loop k p E N l = ahead _ _ E N l tt
    run_ahead leave_loop k p E N l = ahead _ _ E N l tt
    run_ahead give_back k p E N l = ahead _ _ E N l tt
    run_ahead (inside_loop found missing) k p E N l = ahead_either e (eqb p.loops 0) _ _ _ _ (run_ahead missing k.1 p E N l) (run_ahead found k.0 p E N l)
    run_ahead (in_function name m) k p E N l = ahead_restored e p (run_ahead m k (looped p 0) E N l)
    run_ahead (down w) k p E N l = g w p E N l

  pub lower_ahead : (l : ℕ) (w : Which) (p : State) (E N : List ℕ) → p.current ≤ e → Ahead e (lower T l w p E N) (lower T' l w p E N)
  unfolding lower
  lower_ahead zero w p E N h = ahead p (Stop 8) E N h tt
  lower_ahead (suc l) w p E N h = rw (← body_same T T' a.counts w) (run_ahead (lower T l) (lower T' l) (lower_ahead l) (body T w) (body_kept T e w) p E N h)

  -- a reading at any level that starts at or before the EOF: the same answer and tables, and the cursor stays at or before it
  pub lower_tokens : (l : ℕ) (w : Which) (p : State) (E N : List ℕ) → p.current ≤ e → lower T l w p E N ≡ lower T' l w p E N
  lower_tokens l w p E N h = ahead_is e (lower_ahead l w p E N h)

  pub never_behind : (l : ℕ) (w : Which) (p q : State) (g : Got) (E N E' N' : List ℕ) → p.current ≤ e → lower T l w p E N ≡ reply q g E' N' → q.current ≤ e
  never_behind l w p q g E N E' N' h s = subst (λ (r : Reply). cursor_of r ≤ e) s (ahead_at e (lower_ahead l w p E N h))

  pub top_ahead : (p : State) (E N : List ℕ) → p.current ≤ e → Ahead e (top_level T p E N) (top_level T' p E N)
  unfolding top_level
  top_ahead p E N l = ahead_then e _ _ (lower_ahead 128 Declaration p E N l) λ f q E N h. ahead_then e _ _ (ahead_consume newline_kind 4 q E N h) λ g r E N i. ahead r (Node f) E N i tt

  -- ---- the whole
  same_or : (first kept : ℕ) {r r' : Reply} (k k' : ℕ → State → List ℕ → List ℕ → Parsed) → Ahead e r r' → ((n : ℕ) (q : State) (E N : List ℕ) → q.current ≤ e → k n q E N ≡ k' n q E N) → or_ends first kept r k ≡ or_ends first kept r' k'
  same_or first kept k k' (ahead q (Node f) E N l x) h = h f.node q E N l
  same_or first kept k k' (ahead q (Stop o) E N l x) h = refl

  same_if : (b : Bool) (f f' g g' : Unit {0} → Parsed) → f tt ≡ f' tt → g tt ≡ g' tt → if_end b f g ≡ if_end b f' g'
  same_if true f f' g g' h m = h
  same_if false f f' g g' h m = m

  pub statements_tokens : (n first last : ℕ) (p : State) (E N : List ℕ) → p.current ≤ e → statements n T first last p E N ≡ statements n T' first last p E N
  unfolding statements
  statements_tokens zero first last p E N l = refl
  statements_tokens (suc n) first last p E N l =
      rw (← a.kinds p.current l)
      (same_if (eqb (kind_at T.tokens p.current) 0) _ _ _ _ refl
      (same_or first p.nodes _ _ (top_ahead p E N l) λ m q E N h. statements_tokens n (first_of first m) m q E (linked N last m) h))

  -- a parsing depends on the tokens up to an EOF, and on how many tokens the table has room for
  pub parsed_tokens : (rule errors : ℕ) (E N : List ℕ) → parsed rule T errors E N ≡ parsed rule T' errors E N
  unfolding parsed
  parsed_tokens rule errors E N = rw (← a.counts) (statements_tokens (suc (count T.tokens)) 0 0 (fresh_state rule errors) E N (omega arith))

-- ---- the outcomes
module _ (t : List ℕ) where
  -- past the end every token is an EOF
  past_end : kind_at t (count t) ≡ 0
  unfolding kind_at
  past_end = field_none token_width 0 t (count t) (omega arith)

  stops_or : (e first kept : ℕ) {r r' : Reply} (k : ℕ → State → List ℕ → List ℕ → Parsed) → Ahead e r r' → ((n : ℕ) (q : State) (E N : List ℕ) → q.current ≤ e → Stops (k n q E N).outcome) → Stops (or_ends first kept r k).outcome
  stops_or e first kept k (ahead q (Node f) E N l x) h = h f.node q E N l
  stops_or e first kept k (ahead q (Stop o) E N l x) h = x

  stops_if : (b : Bool) (f g : Unit {0} → Parsed) → Stops (f tt).outcome → Stops (g tt).outcome → Stops (if_end b f g).outcome
  stops_if true f g h m = h
  stops_if false f g h m = m

  statements_stop : (n first last : ℕ) (p : State) (E N : List ℕ) → p.current ≤ count t → Stops (statements n (walked t) first last p E N).outcome
  unfolding statements
  statements_stop zero first last p E N l = tt
  statements_stop (suc n) first last p E N l = stops_if (eqb (kind_at t p.current) 0) _ _ tt (stops_or (count t) first p.nodes _ (top_ahead (walked t) (walked t) (count t) (agree_self t (count t) past_end) p E N l) λ m q E N h. statements_stop n (first_of first m) m q E (linked N last m) h)

  -- a parsing ends with outcome 0, 1, 6, 7 or 8
  pub parsed_outcome : (rule errors : ℕ) (E N : List ℕ) → is_outcome (parsed rule (walked t) errors E N).outcome ≡ true
  unfolding parsed
  parsed_outcome rule errors E N = go (is_outcome o) refl (eqb o 99) refl (statements_stop (suc (count t)) 0 0 (fresh_state rule errors) E N (omega arith))
    where
      o : ℕ
      o = (parsed rule (walked t) errors E N).outcome

      go : (b : Bool) → is_outcome o ≡ b → (c : Bool) → eqb o 99 ≡ c → dec.T (b || c) → is_outcome o ≡ true
      go true s c u x = s
      go false s true u x = absurd (parsed_never_spent rule (walked t) errors E N (eqb-true o 99 u))
      go false s false u x = absurd x
