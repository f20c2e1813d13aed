-- Loops are entered after their keyword, so that the loop count never exceeds the cursor: over any tables, a statement that is read from a state in which it
-- does not leaves a state in which it does not.
-- Assumes nothing.
use mathlib.Core.Path.{◌≡◌, refl}
use mathlib.Core.List.{List, [], ◌∷◌}
use mathlib.Core.Bool.{Bool, true, false, ◌&&◌}
use Prim.Native.Nat.{ℕ, zero, suc, ◌+◌, ◌-◌, ◌≤◌}
use native.Mathlib.Omega.{arith}
use lib.Dec.{leb, ltb, eqb}
use Rattle.token.specs.Kind.{newline_kind, right_paren_kind, right_brace_kind}
use Rattle.rules.proofs.Laws.{behind_most}
use Rattle.records.specs.declared.Node as rows
use Rattle.parser.specs.declared.State.{State}
use Rattle.parser.specs.declared.Form.{Form}
use Rattle.parser.specs.declared.Form.TheVariants.{Other, Empty, Name, Property}
use Rattle.parser.specs.declared.Found.{Found}
use Rattle.parser.specs.Tables.{Node, Stop}
use Rattle.std.specs.Prelude.{Option}
use Rattle.std.specs.Prelude.{Some, None}
use Rattle.parser.specs.Tokens.{View, kind_at, matches_at}
use Rattle.parser.specs.Tables.{Reply, reply, moved, looked, looped, push_node, push_error, if_seen, and_then, consume_at, require_at}
use Rattle.parser.specs.Programs.{Reader, Which, Declaration, Assignment, Operand, Prog, give, stop, ◌>>=◌, ◌>>◌, look, check, at_end, previous, node, link, fail, fail_at, consume, require, enter_loop, leave_loop, give_back, inside_loop, in_function, down, either, restored, raised, run}
use Rattle.parser.specs.Grammar.{first_of, property, when, assigned, Level, levels, fuel, block_from, block, expression_stmt, parameters_from, parameters, function_body, fn_stmt, fn_expr, methods_from, class, let_stmt, names_from, enhanced_for, classic_for, for_loop, try_catch, elifs_from, else_from, if_stmt, ret, brk, cont, while_stmt, statement, declaration, arguments_from, arguments, list, dict_elements_from, dictionary, closed, access, super_expr, primary, finish_call, call_from, call, unary, look_many, binary_from, binary, assignment, body, lower}
use Rattle.parser.specs.Whole.{top_level}
use Rattle.parser.proofs.Push.{push_node_lem, push_error_lem}
use Rattle.progress.proofs.Leaf.{check_at_lem, matches_on, matches_at_lem}
use Rattle.progress.proofs.Moves.{Past, MovesOn, stays, lower_moves}

-- how many tokens a look for that kind passes at the least
abbrev passes : ℕ → ℕ
passes zero = 0
passes (suc kind) = 1

-- a program enters a loop only just after a token that it passed, where z tokens were passed just before it
abbrev Calm : ℕ → Prog → Type 0
Calm z (give f) = Unit {0}
Calm z (stop o) = Unit {0}
Calm z (m >>= k) = Calm z m × ((f : Found) → Calm 0 (k f))
Calm z (m >> k) = Calm z m × Calm 0 k
Calm z (look kind found missing) = ((i : ℕ) → Unit {0} → Calm (passes kind) (found i)) × Calm z missing
Calm z (check kind found missing) = Calm z found × Calm z missing
Calm z (at_end found missing) = Calm z found × Calm z missing
Calm z previous = Unit {0}
Calm z (node d) = Unit {0}
Calm z (link prev next) = Unit {0}
Calm z (fail message) = Unit {0}
Calm z (fail_at message token) = Unit {0}
Calm z (consume kind message) = Unit {0}
Calm z (require kind message) = Unit {0}
Calm z enter_loop = 1 ≤ z
Calm z leave_loop = Unit {0}
Calm z give_back = Unit {0}
Calm z (inside_loop found missing) = Calm z found × Calm z missing
Calm z (in_function name m) = Calm 0 m
Calm z (down w) = Unit {0}

when_calm : (z : ℕ) (t : Bool) (P Q : Prog) → Calm z P → Calm z Q → Calm z (when t P Q)
when_calm z true P Q g h = g
when_calm z false P Q g h = h

assigned_calm : (z : ℕ) (f : Form) (a v t : ℕ) → Unit {0} → Calm z (assigned f a v t)
assigned_calm z (Name n) a v t h = tt
assigned_calm z (Property n o) a v t h = tt
assigned_calm z Other a v t h = (h, tt)
assigned_calm z Empty a v t h = (h, tt)

module _ (T : View) where
  block_from_calm : (z : ℕ) → (f first last : ℕ) → Calm z (block_from T f first last)
  unfolding block_from
  block_from_calm z zero first last = tt
  block_from_calm z (suc f) first last = (λ i h. tt, (tt, λ n. (tt, block_from_calm 0 f (first_of first n.node) n.node)))

  block_calm : (z : ℕ) → Calm z (block T)
  unfolding block
  block_calm z = block_from_calm z (fuel T) 0 0

  expression_stmt_calm : (z : ℕ) → Calm z (expression_stmt T)
  unfolding expression_stmt
  expression_stmt_calm z = (tt, λ x. (tt, λ t. tt))

  parameters_from_calm : (z : ℕ) → (message f n first last : ℕ) → Calm z (parameters_from T message f n first last)
  unfolding parameters_from
  parameters_from_calm z message zero n first last = tt
  parameters_from_calm z message (suc f) n first last = when_calm z (ltb 255 n) _ _ (tt, tt) (tt, λ i. (tt, λ d. (tt, (λ c h. parameters_from_calm 1 message f (n + 1) (first_of first d.node) d.node, tt))))

  parameters_calm : (z : ℕ) → (message : ℕ) → Calm z (parameters T message)
  unfolding parameters
  parameters_calm z message = (tt, parameters_from_calm z message (fuel T) 0 0 0)

  function_body_calm : (z : ℕ) → Calm z (function_body T)
  unfolding function_body
  function_body_calm z = (λ i h. block_calm 1, expression_stmt_calm z)

  fn_stmt_calm : (z : ℕ) → Calm z (fn_stmt T)
  unfolding fn_stmt
  fn_stmt_calm z = (tt, λ name. (tt, (parameters_calm 0 11, λ params. (tt, (function_body_calm 0, λ stmts. tt)))))

  fn_expr_calm : (z : ℕ) → Calm z (fn_expr T)
  unfolding fn_expr
  fn_expr_calm z = (tt, (parameters_calm 0 14, λ params. (tt, (function_body_calm 0, λ stmts. tt))))

  methods_from_calm : (z : ℕ) → (f : ℕ) (k : ℕ → ℕ → Prog) (m n s t : ℕ) → ((y x v : ℕ) → Calm y (k x v)) → Calm z (methods_from T f k m n s t)
  unfolding methods_from
  methods_from_calm z zero k m n s t g = tt
  methods_from_calm z (suc f) k m n s t g = (g z m s, (g z m s, (λ i h. (fn_stmt_calm 1, λ q. (tt, methods_from_calm 0 f k m n (first_of s q.node) q.node g)), (fn_stmt_calm z, λ q. (tt, methods_from_calm 0 f k (first_of m q.node) q.node s t g)))))

  class_calm : (z : ℕ) → Calm z (class T)
  unfolding class
  class_calm z = (tt, λ name. ((λ i h. (tt, λ s. tt), tt), λ sup. (tt, methods_from_calm 0 (fuel T) _ 0 0 0 0 λ y m s. (tt, tt))))

  let_calm : (z : ℕ) → Calm z (let_stmt T)
  unfolding let_stmt
  let_calm z = (tt, λ name. ((λ i h. tt, tt), λ init. tt))

  names_from_calm : (z : ℕ) → (f first last : ℕ) → Calm z (names_from T f first last)
  unfolding names_from
  names_from_calm z zero first last = tt
  names_from_calm z (suc f) first last = (λ i h. (tt, λ n. (tt, ((λ j g. tt, tt), names_from_calm 0 f (first_of first n.node) n.node))), tt)

  enhanced_calm : (z : ℕ) → (keyword : ℕ) → Calm z (enhanced_for T keyword)
  unfolding enhanced_for
  enhanced_calm z keyword = (names_from_calm z (fuel T) 0 0, λ ids. (tt, (tt, λ v. (tt, λ s. (tt, tt)))))

  classic_calm : (z : ℕ) → (keyword : ℕ) → Calm z (classic_for T keyword)
  unfolding classic_for
  classic_calm z keyword = ((λ i h. tt, (λ i h. (let_calm 1, λ n. (tt, tt)), (tt, tt))), λ init. (tt, λ v. (tt, (tt, λ inc. (tt, λ s. (tt, tt))))))

  for_calm : (keyword : ℕ) → Calm 1 (for_loop T keyword)
  unfolding for_loop
  for_calm keyword = (omega arith, (enhanced_calm 0 keyword, classic_calm 0 keyword))

  try_calm : (z : ℕ) → Calm z (try_catch T)
  unfolding try_catch
  try_calm z = (tt, λ s. (tt, (tt, λ n. (tt, λ t. tt))))

  elifs_from_calm : (z : ℕ) → (f first last : ℕ) → Calm z (elifs_from T f first last)
  unfolding elifs_from
  elifs_from_calm z zero first last = tt
  elifs_from_calm z (suc f) first last = (λ i h. (tt, λ v. (tt, (block_calm 0, λ s. (tt, λ n. (tt, elifs_from_calm 0 f (first_of first n.node) n.node))))), tt)

  else_from_calm : (z : ℕ) → (f first last : ℕ) → Calm z (else_from T f first last)
  unfolding else_from
  else_from_calm z zero first last = tt
  else_from_calm z (suc f) first last = (tt, (tt, λ n. (tt, else_from_calm 0 f (first_of first n.node) n.node)))

  if_calm : (z : ℕ) → (keyword : ℕ) → Calm z (if_stmt T keyword)
  unfolding if_stmt
  if_calm z keyword = (tt, λ v. (tt, (block_calm 0, λ s. (elifs_from_calm 0 (fuel T) 0 0, λ n. ((λ i h. (tt, (else_from_calm 0 (fuel T) 0 0, λ n. (tt, tt))), tt), λ others. tt)))))

  ret_calm : (z : ℕ) → (keyword : ℕ) → Calm z (ret T keyword)
  unfolding ret
  ret_calm z keyword = ((tt, tt), λ v. tt)

  brk_calm : (z : ℕ) → (keyword : ℕ) → Unit {0} → Calm z (brk T keyword)
  unfolding brk
  brk_calm z keyword h = ((tt, h), tt)

  cont_calm : (z : ℕ) → (keyword : ℕ) → Unit {0} → Calm z (cont T keyword)
  unfolding cont
  cont_calm z keyword h = ((tt, h), tt)

  while_calm : (keyword : ℕ) → Calm 1 (while_stmt T keyword)
  unfolding while_stmt
  while_calm keyword = (omega arith, (tt, λ v. (tt, λ s. (tt, tt))))

  statement_calm : (z : ℕ) → Calm z (statement T)
  unfolding statement
  statement_calm z =
      (λ i h. for_calm i, (λ i h. try_calm 1, (λ i h. if_calm 1 i, (λ i h. ret_calm 1 i, (λ i h. brk_calm 1 i h, (λ i h. cont_calm 1 i h, (λ i h. while_calm i, (λ i h. (block_calm 1, λ s. tt), expression_stmt_calm z))))))))

  declaration_calm : (z : ℕ) → Calm z (declaration T)
  unfolding declaration
  declaration_calm z = (λ i h. class_calm 1, (λ i h. fn_stmt_calm 1, (λ i h. let_calm 1, statement_calm z)))

  arguments_from_calm : (z : ℕ) → (mark f n first last : ℕ) → Calm z (arguments_from T mark f n first last)
  unfolding arguments_from
  arguments_from_calm z mark zero n first last = tt
  arguments_from_calm z mark (suc f) n first last = when_calm z (eqb mark right_paren_kind && leb 255 n) _ _ (tt, tt) (tt, λ x. (tt, (λ i h. (tt, arguments_from_calm 1 mark f (n + 1) (first_of first x.node) x.node), tt)))

  arguments_calm : (z : ℕ) → (mark : ℕ) → Calm z (arguments T mark)
  unfolding arguments
  arguments_calm z mark = (tt, arguments_from_calm z mark (fuel T) 0 0 0)

  list_calm : (z : ℕ) → Calm z (list T)
  unfolding list
  list_calm z = (arguments_calm z right_brace_kind, λ x. (tt, λ s. tt))

  dict_from_calm : (z : ℕ) → (f first last : ℕ) → Calm z (dict_elements_from T f first last)
  unfolding dict_elements_from
  dict_from_calm z zero first last = tt
  dict_from_calm z (suc f) first last = (tt, (tt, λ key. (tt, (tt, λ v. (tt, (tt, (λ i h. dict_from_calm 1 f (first_of first key.node) v.node, tt)))))))

  dictionary_calm : (z : ℕ) → Calm z (dictionary T)
  unfolding dictionary
  dictionary_calm z = (dict_from_calm z (fuel T) 0 0, λ x. (tt, λ s. tt))

  closed_calm : (z : ℕ) → (object : Found) (brace c1 t1 c2 t2 c3 : ℕ) → Calm z (closed T object brace c1 t1 c2 t2 c3)
  unfolding closed
  closed_calm z object brace c1 t1 c2 t2 c3 = (tt, (tt, λ n. tt))

  access_calm : (z : ℕ) → (object : Found) (brace : ℕ) → Calm z (access T object brace)
  unfolding access
  access_calm z object brace = (
    λ i h. (λ j g. (tt, λ n. closed_calm 0 _ _ _ _ _ _ _), (tt, λ n. (λ j g. (tt, λ m. closed_calm 0 _ _ _ _ _ _ _), closed_calm 0 _ _ _ _ _ _ _))),
    (tt, λ m. (λ i h. (λ j g. (tt, λ n. closed_calm 0 _ _ _ _ _ _ _), (closed_calm 1 _ _ _ _ _ _ _, (closed_calm 1 _ _ _ _ _ _ _, (tt, λ n. (λ j g. (closed_calm 1 _ _ _ _ _ _ _, (closed_calm 1 _ _ _ _ _ _ _, (tt, λ q. closed_calm 0 _ _ _ _ _ _ _))), closed_calm 0 _ _ _ _ _ _ _))))), closed_calm 0 _ _ _ _ _ _ _)),
  )

  super_calm : (z : ℕ) → (keyword : ℕ) → Calm z (super_expr T keyword)
  unfolding super_expr
  super_calm z keyword = (tt, (tt, (tt, λ m. tt)))

  primary_calm : (z : ℕ) → Calm z (primary T)
  unfolding primary
  primary_calm z =
      (λ i h. tt, (λ i h. tt, (λ i h. tt, (λ i h. tt, (λ i h. tt, (λ i h. (tt, λ n. tt), (λ i h. (tt, λ x. (tt, tt)), (λ i h. list_calm 1, (λ i h. dictionary_calm 1, (λ i h. fn_expr_calm 1, (λ i h. tt, (λ i h. super_calm 1 i, (λ i h. (tt, λ n. tt), (tt, tt))))))))))))))

  finish_call_calm : (z : ℕ) → (callee : Found) → Calm z (finish_call T callee)
  unfolding finish_call
  finish_call_calm z callee = (arguments_calm z right_paren_kind, λ x. (tt, λ s. tt))

  call_from_calm : (z : ℕ) → (f : ℕ) (x : Found) → Calm z (call_from T f x)
  unfolding call_from
  call_from_calm z zero x = tt
  call_from_calm z (suc f) x = (λ i h. (finish_call_calm 1 x, λ n. call_from_calm 0 f n), (λ i h. (tt, λ name. (tt, λ n. call_from_calm 0 f (property name.node x.node n.node))), (λ i h. (access_calm 1 x i, λ n. call_from_calm 0 f n), tt)))

  call_calm : (z : ℕ) → Calm z (call T)
  unfolding call
  call_calm z = (primary_calm z, λ x. call_from_calm 0 (fuel T) x)

  unary_calm : (z : ℕ) → Calm z (unary T)
  unfolding unary
  unary_calm z = (λ i h. (tt, λ n. tt), (λ i h. (tt, λ n. tt), call_calm z))

  many_calm : (z : ℕ) → (ks : List ℕ) (found : ℕ → Prog) (missing : Prog) → ((y i : ℕ) → Calm y (found i)) → Calm z missing → Calm z (look_many T ks found missing)
  unfolding look_many
  many_calm z [] found missing g h = h
  many_calm z (k ∷ ks) found missing g h = (λ i u. g (passes k) i, many_calm z ks found missing g h)

  binary_from_calm : (z : ℕ) → (level : Level) (P : Prog) → ((y : ℕ) → Calm y P) → (f : ℕ) (left : Found) → Calm z (binary_from T level P f left)
  unfolding binary_from
  binary_from_calm z level P g zero left = tt
  binary_from_calm z level P g (suc f) left = many_calm z level.operators _ _ (λ y i. (g y, λ r. (tt, λ n. binary_from_calm 0 level P g f n))) tt

  binary_calm : (z : ℕ) → (ls : List Level) → Calm z (binary T ls)
  unfolding binary
  binary_calm z [] = unary_calm z
  binary_calm z (l ∷ ls) = (binary_calm z ls, λ left. binary_from_calm 0 l (binary T ls) (λ y. binary_calm y ls) (fuel T) left)

  assignment_calm : (z : ℕ) → Calm z (assignment T)
  unfolding assignment
  assignment_calm z = (binary_calm z levels, λ left. (λ i h. (tt, λ v. assigned_calm 0 left.form left.access v.node i h), tt))

  body_calm : (z : ℕ) → (w : Which) → Calm z (body T w)
  unfolding body
  body_calm z Declaration = declaration_calm z
  body_calm z Assignment = assignment_calm z
  body_calm z Operand = unary_calm z

-- ---- what is read
-- where a node is given the loop count is not over the cursor
abbrev LowOf : Reply → Type 0
LowOf (reply q (Node f) E N) = q.loops ≤ q.current
LowOf (reply q (Stop o) E N) = Unit {0}

-- as a record, so that antt reads the answer off the type
pub record Low (r : Reply) : Type 0 where
  pub low : LowOf r

-- a reader that keeps it so
abbrev pub StaysLow : Reader → Type 0
StaysLow r = (p : State) (E N : List ℕ) → p.loops ≤ p.current → Low (r p E N)

low_then : (r : Reply) (k : Found → Reader) → Low r → ((f : Found) → StaysLow (k f)) → Low (and_then r k)
low_then (reply q (Node f) E N) k h g = g f q E N h.low
low_then (reply q (Stop o) E N) k h g = record { low = tt }

low_seen : (s : Option ℕ) (f : ℕ → Reply) (g : Unit {0} → Reply) → ((i : ℕ) → s ≡ Some i → Low (f i)) → Low (g tt) → Low (if_seen s f g)
low_seen (Some i) f g h e = h i refl
low_seen None f g h e = e

low_either : (b : Bool) (f g : Unit {0} → Reply) → Low (f tt) → Low (g tt) → Low (either b f g)
low_either true f g h e = h
low_either false f g h e = e

-- the count of the function around comes back, and the cursor has not gone back
low_restored : (p : State) (r : Reply) → p.loops ≤ p.current → Past p.current p.current (Unit {0}) r → Low (restored p r)
low_restored p (reply q (Node f) E N) l h = let u = h.past.0 in record { low = omega arith }
low_restored p (reply q (Stop o) E N) l h = record { low = tt }

low_push : (d : rows.Node) → StaysLow (push_node d)
low_push d p E N l = push_node_lem Low d p E N (λ _. record { low = l }) (record { low = tt })

low_error : (t : List ℕ) (m i : ℕ) → StaysLow (push_error t m i)
low_error t m i p E N l = push_error_lem Low t m i p E N (λ _. record { low = l }) (record { low = tt })

low_consume : (T : View) (kind m : ℕ) → StaysLow (consume_at T kind m)
unfolding consume_at
low_consume T kind m p E N l = low_seen _ _ _ (λ i e. let u = matches_on T p.current kind i e in record { low = omega arith }) (low_error T.tokens m p.current (looked p 1) E N l)

low_require : (T : View) (kind m : ℕ) → StaysLow (require_at T kind m)
unfolding require_at
low_require T kind m p E N l = low_seen _ _ _ (λ i e. let u = matches_on T p.current kind i e in record { low = omega arith }) (low_then _ _ (low_error T.tokens m p.current (looked p 1) E N l) λ f q E N h. record { low = tt })

-- a count is raised by one at the most
raised_most : (n : ℕ) → raised n ≤ n + 1
unfolding raised
raised_most n = go (ltb n 4294967295)
  where
    go : (b : Bool) → elim b [ true ↦ n + 1 | false ↦ n ] ≤ n + 1
    go true = omega arith
    go false = omega arith

-- a look passes as many tokens as its kind says
passed : (T : View) (at kind i : ℕ) → matches_at T at kind ≡ Some i → at + passes kind ≤ i
passed T at zero i e = let u = matches_on T at 0 i e in omega arith
passed T at (suc kind) i e = let u = (matches_at_lem T at kind i e).0 in omega arith

module _ (T : View) (low : Which → Reader) (h : (w : Which) → MovesOn T (low w)) (g : (w : Which) → StaysLow (low w)) where
  -- with z tokens passed just before
  run_low : (P : Prog) (z : ℕ) → Calm z P → (p : State) (E N : List ℕ) → p.loops + z ≤ p.current → Low (run T low P p E N)
  unfolding run
  run_low (give f) z c p E N l = record { low = omega arith }
  run_low (stop o) z c p E N l = record { low = tt }
  run_low (m >>= k) z c p E N l = low_then _ _ (run_low m z c.0 p E N l) λ f q E N u. run_low (k f) 0 (c.1 f) q E N (omega arith)
  run_low (m >> k) z c p E N l = low_then _ _ (run_low m z c.0 p E N l) λ f q E N u. run_low k 0 c.1 q E N (omega arith)
  run_low (look kind found missing) z c p E N l = low_seen _ _ _ (λ i e. let u = passed T p.current kind i e in run_low (found i) (passes kind) (c.0 i tt) (moved (looked p 1) i) E N (omega arith)) (run_low missing z c.1 (looked p 1) E N l)
  run_low (check kind found missing) z c p E N l = low_seen _ _ _ (λ i e. let u = (check_at_lem T p.current kind i e).0 in run_low found z c.0 (moved (looked p 1) i) E N (omega arith)) (run_low missing z c.1 (looked p 1) E N l)
  run_low (at_end found missing) z c p E N l = low_either (eqb (kind_at T.tokens p.current) 0) _ _ (run_low found z c.0 p E N l) (run_low missing z c.1 p E N l)
  run_low previous z c p E N l = record { low = omega arith }
  run_low (node d) z c p E N l = low_push d p E N (omega arith)
  run_low (link prev next) z c p E N l = record { low = omega arith }
  run_low (fail message) z c p E N l = low_error T.tokens message p.current p E N (omega arith)
  run_low (fail_at message token) z c p E N l = low_error T.tokens message (token - 1) p E N (omega arith)
  run_low (consume kind message) z c p E N l = low_consume T kind message p E N (omega arith)
  run_low (require kind message) z c p E N l = low_require T kind message p E N (omega arith)
  run_low enter_loop z c p E N l = let u = raised_most p.loops in record { low = omega arith }
  run_low leave_loop z c p E N l = record { low = omega arith }
  run_low give_back z c p E N l = let u = behind_most p.rule p.loops in record { low = omega arith }
  run_low (inside_loop found missing) z c p E N l = low_either (eqb p.loops 0) _ _ (run_low missing z c.1 p E N l) (run_low found z c.0 p E N l)
  run_low (in_function name m) z c p E N l = low_restored p _ (omega arith) (stays T low h m p.current p.current (Unit {0}) (looped p 0) E N (omega arith) (omega arith) tt)
  run_low (down w) z c p E N l = g w p E N (omega arith)

lower_low : (T : View) (l : ℕ) (w : Which) → StaysLow (lower T l w)
unfolding lower
lower_low T zero w p E N h = record { low = tt }
lower_low T (suc l) w p E N h = run_low T (lower T l) (lower_moves T l) (lower_low T l) (body T w) 0 (body_calm T 0 w) p E N (omega arith)

-- a top-level statement
pub top_low : (T : View) → StaysLow (top_level T)
unfolding top_level
top_low T p E N l = low_then _ _ (lower_low T 128 Declaration p E N l) λ f q E N h. low_then _ _ (low_consume T newline_kind 4 q E N h) λ g r E N i. record { low = i }
