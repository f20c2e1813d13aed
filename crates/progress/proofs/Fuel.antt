-- No reading runs out of fuel: none stops with 99, and no parsing ends with it. Each turn of a loop passes a token.
use mathlib.Core.Path.{◌≡◌, refl, sym, subst, ◌∙◌}
use mathlib.Core.List.{List, [], ◌∷◌}
use mathlib.Core.Bool.{Bool, true, false, ◌&&◌}
use Prim.Native.Nat.{ℕ, zero, suc, ◌+◌, ◌-◌, ◌≤◌, ◌<◌}
use native.Mathlib.Omega.{arith}
use lib.Dec.{leb, ltb, eqb}
use Rattle.token.specs.Kind.{newline_kind, right_paren_kind, right_brace_kind}
use Rattle.records.specs.Table.{linked}
use Rattle.records.specs.declared.Node as rows
use Rattle.parser.specs.declared.State.{State}
use Rattle.parser.specs.declared.Form.{Form}
use Rattle.parser.specs.declared.Form.TheVariants.{Other, Empty, Name, Property}
use Rattle.parser.specs.declared.Found.{Found}
use Rattle.parser.specs.Tables.{Node, Stop}
use Rattle.std.specs.Prelude.{Option}
use Rattle.std.specs.Prelude.{Some, None}
use Rattle.parser.specs.Tokens.{View, count, kind_at, check_at, matches_at}
use Rattle.parser.specs.Tables.{Reply, reply, moved, looked, looped, fresh_state, push_node, push_error, if_seen, and_then, consume_at, require_at}
use Rattle.parser.specs.Programs.{Reader, Which, Declaration, Assignment, Operand, Prog, give, stop, ◌>>=◌, ◌>>◌, look, check, at_end, previous, node, link, fail, fail_at, consume, require, enter_loop, leave_loop, give_back, inside_loop, in_function, down, either, restored, run}
use Rattle.parser.specs.Grammar.{first_of, property, when, assigned, Level, levels, fuel, block_from, block, expression_stmt, parameters_from, parameters, function_body, fn_stmt, fn_expr, methods_from, class, let_stmt, names_from, enhanced_for, classic_for, for_loop, try_catch, elifs_from, else_from, if_stmt, ret, brk, cont, while_stmt, statement, declaration, arguments_from, arguments, list, dict_elements_from, dictionary, closed, access, super_expr, primary, finish_call, call_from, call, unary, look_many, binary_from, binary, assignment, body, lower}
use Rattle.parser.specs.Whole.{Parsed, top_level, or_ends, if_end, statements, parsed}
use Rattle.parser.proofs.Push.{push_node_lem, push_error_lem}
use Rattle.progress.proofs.Leaf.{check_at_lem, matches_on, matches_at_lem}
use Rattle.progress.proofs.Moves.{Past, MovesOn, past_then, past_consume, moves, stays, moves_on, binary_moves, lower_moves, never}

-- with at most b tokens left, no stop with 99 is reached
abbrev pub Fed : ℕ → Prog → Type 0
Fed b (give f) = Unit {0}
Fed b (stop o) = o < 99
Fed b (m >>= k) = Fed b m × ((c : ℕ) (f : Found) → c ≤ b → (moves m ≡ true → c < b) → Fed c (k f))
Fed b (m >> k) = Fed b m × ((c : ℕ) → c ≤ b → Fed c k)
Fed b (look zero found missing) = ((i c : ℕ) → c ≤ b → Fed c (found i)) × Fed b missing
Fed b (look (suc kind) found missing) = ((i c : ℕ) → c < b → Fed c (found i)) × Fed b missing
Fed b (check kind found missing) = ((c : ℕ) → c ≤ b → Fed c found) × Fed b missing
Fed b (at_end found missing) = Fed b found × Fed b missing
Fed b previous = Unit {0}
Fed b (node d) = Unit {0}
Fed b (link prev next) = Unit {0}
Fed b (fail message) = Unit {0}
Fed b (fail_at message token) = Unit {0}
Fed b (consume kind message) = Unit {0}
Fed b (require kind message) = Unit {0}
Fed b enter_loop = Unit {0}
Fed b leave_loop = Unit {0}
Fed b give_back = Unit {0}
Fed b (inside_loop found missing) = Fed b found × Fed b missing
Fed b (in_function name m) = Fed b m
Fed b (down w) = Unit {0}

when_fed : (t : Bool) (b : ℕ) (P Q : Prog) → Fed b P → Fed b Q → Fed b (when t P Q)
when_fed true b P Q g h = g
when_fed false b P Q g h = h

assigned_fed : (f : Form) (a v e b : ℕ) → Fed b (assigned f a v e)
assigned_fed (Name t) a v e b = tt
assigned_fed (Property t o) a v e b = tt
assigned_fed Other a v e b = (tt, λ c x. omega arith)
assigned_fed Empty a v e b = (tt, λ c x. omega arith)

module _ (T : View) where
  block_from_fed : (f first last b : ℕ) → b < f → Fed b (block_from T f first last)
  unfolding block_from moves
  block_from_fed zero first last b h = absurd (omega arith)
  block_from_fed (suc f) first last b h = (λ i c c<. tt, (tt, λ c n c≤ c<. let z = c< refl in (tt, λ d d≤. block_from_fed f (first_of first n.node) n.node d (omega arith))))

  block_fed : (b : ℕ) → b ≤ count T.tokens → Fed b (block T)
  unfolding block
  block_fed b h = block_from_fed (fuel T) 0 0 b (omega arith)

  expression_stmt_fed : (b : ℕ) → Fed b (expression_stmt T)
  unfolding expression_stmt
  expression_stmt_fed b = (tt, λ c e c≤ c<. (tt, λ d t d≤ d<. tt))

  parameters_from_fed : (message f n first last b : ℕ) → b < f → Fed b (parameters_from T message f n first last)
  unfolding parameters_from moves
  parameters_from_fed message zero n first last b h = absurd (omega arith)
  parameters_from_fed message (suc f) n first last b h = when_fed (ltb 255 n) b _ _ (tt, λ c c≤. omega arith) (tt, λ c i c≤ c<. let z = c< refl in (tt, λ d m d≤ d<. (tt, λ e e≤. (λ i g g<. parameters_from_fed message f (n + 1) (first_of first m.node) m.node g (omega arith), tt))))

  parameters_fed : (message b : ℕ) → b ≤ count T.tokens → Fed b (parameters T message)
  unfolding parameters
  parameters_fed message b h = (λ c c≤. tt, parameters_from_fed message (fuel T) 0 0 0 b (omega arith))

  function_body_fed : (b : ℕ) → b ≤ count T.tokens → Fed b (function_body T)
  unfolding function_body
  function_body_fed b h = (λ i c c<. block_fed c (omega arith), expression_stmt_fed b)

  fn_stmt_fed : (b : ℕ) → b ≤ count T.tokens → Fed b (fn_stmt T)
  unfolding fn_stmt
  fn_stmt_fed b h = (tt, λ c name c≤ c<. (tt, λ d d≤. (parameters_fed 11 d (omega arith), λ e params e≤ e<. (tt, λ g g≤. (function_body_fed g (omega arith), λ k stmts k≤ k<. tt)))))

  fn_expr_fed : (b : ℕ) → b ≤ count T.tokens → Fed b (fn_expr T)
  unfolding fn_expr
  fn_expr_fed b h = (tt, λ d d≤. (parameters_fed 14 d (omega arith), λ e params e≤ e<. (tt, λ g g≤. (function_body_fed g (omega arith), λ k stmts k≤ k<. tt))))

  methods_from_fed : (f : ℕ) (k : ℕ → ℕ → Prog) (m n s t b : ℕ) → b ≤ count T.tokens → b < f → ((x y c : ℕ) → Fed c (k x y)) → Fed b (methods_from T f k m n s t)
  unfolding methods_from moves fn_stmt
  methods_from_fed zero k m n s t b h l g = absurd (omega arith)
  methods_from_fed (suc f) k m n s t b h l g = (
    λ c c≤. g m s c,
    (
      g m s b,
      (
        λ i c c<. (fn_stmt_fed c (omega arith), λ d q d≤ d<. let z = d< refl in (tt, λ e e≤. methods_from_fed f k m n (first_of s q.node) q.node e (omega arith) (omega arith) g)),
        (fn_stmt_fed b h, λ d q d≤ d<. let z = d< refl in (tt, λ e e≤. methods_from_fed f k (first_of m q.node) q.node s t e (omega arith) (omega arith) g)),
      ),
    ),
  )

  class_fed : (b : ℕ) → b ≤ count T.tokens → Fed b (class T)
  unfolding class
  class_fed b h = (tt, λ c name c≤ c<. ((λ i d d<. (tt, λ e s e≤ e<. tt), tt), λ d sup d≤ d<. (tt, λ e e≤. methods_from_fed (fuel T) _ 0 0 0 0 e (omega arith) (omega arith) λ m s c. (tt, λ u u≤. tt))))

  let_fed : (b : ℕ) → Fed b (let_stmt T)
  unfolding let_stmt
  let_fed b = (tt, λ c name c≤ c<. ((λ i d d<. tt, tt), λ d init d≤ d<. tt))

  names_from_fed : (f first last b : ℕ) → b < f → Fed b (names_from T f first last)
  unfolding names_from
  names_from_fed zero first last b h = absurd (omega arith)
  names_from_fed (suc f) first last b h = (λ i c c<. (tt, λ d n d≤ d<. (tt, λ e e≤. ((λ j g g<. tt, tt), λ g g≤. names_from_fed f (first_of first n.node) n.node g (omega arith)))), tt)

  enhanced_fed : (keyword b : ℕ) → b ≤ count T.tokens → Fed b (enhanced_for T keyword)
  unfolding enhanced_for
  enhanced_fed keyword b h = (names_from_fed (fuel T) 0 0 b (omega arith), λ c ids c≤ c<. (tt, λ d d≤. (tt, λ e v e≤ e<. (tt, λ g s g≤ g<. (tt, λ k k≤. tt)))))

  classic_fed : (keyword b : ℕ) → Fed b (classic_for T keyword)
  unfolding classic_for
  classic_fed keyword b = ((λ i c c<. tt, (λ i c c<. (let_fed c, λ d n d≤ d<. (tt, λ e e≤. tt)), (tt, λ c c≤. tt))), λ c init c≤ c<. (tt, λ d v d≤ d<. (tt, λ e e≤. (tt, λ g inc g≤ g<. (tt, λ k s k≤ k<. (tt, λ u u≤. tt))))))

  for_fed : (keyword b : ℕ) → b ≤ count T.tokens → Fed b (for_loop T keyword)
  unfolding for_loop
  for_fed keyword b h = (tt, λ c c≤. (λ d d≤. enhanced_fed keyword d (omega arith), classic_fed keyword c))

  try_fed : (b : ℕ) → Fed b (try_catch T)
  unfolding try_catch
  try_fed b = (tt, λ c s c≤ c<. (tt, λ d d≤. (tt, λ e n e≤ e<. (tt, λ g t g≤ g<. tt))))

  elifs_from_fed : (f first last b : ℕ) → b ≤ count T.tokens → b < f → Fed b (elifs_from T f first last)
  unfolding elifs_from
  elifs_from_fed zero first last b h l = absurd (omega arith)
  elifs_from_fed (suc f) first last b h l = (λ i c c<. (tt, λ d v d≤ d<. (tt, λ e e≤. (block_fed e (omega arith), λ g s g≤ g<. (tt, λ k n k≤ k<. (tt, λ u u≤. elifs_from_fed f (first_of first n.node) n.node u (omega arith) (omega arith)))))), tt)

  else_from_fed : (f first last b : ℕ) → b < f → Fed b (else_from T f first last)
  unfolding else_from moves
  else_from_fed zero first last b h = absurd (omega arith)
  else_from_fed (suc f) first last b h = (λ c c≤. tt, (tt, λ c n c≤ c<. let z = c< refl in (tt, λ d d≤. else_from_fed f (first_of first n.node) n.node d (omega arith))))

  if_fed : (keyword b : ℕ) → b ≤ count T.tokens → Fed b (if_stmt T keyword)
  unfolding if_stmt
  if_fed keyword b h = (tt, λ c v c≤ c<. (tt, λ d d≤. (block_fed d (omega arith), λ e s e≤ e<. (elifs_from_fed (fuel T) 0 0 e (omega arith) (omega arith), λ g n g≤ g<. ((λ i k k<. (tt, λ u u≤. (else_from_fed (fuel T) 0 0 u (omega arith), λ v n v≤ v<. (tt, λ w w≤. tt))), tt), λ k others k≤ k<. tt)))))

  ret_fed : (keyword b : ℕ) → Fed b (ret T keyword)
  unfolding ret
  ret_fed keyword b = ((λ c c≤. tt, tt), λ c v c≤ c<. tt)

  brk_fed : (keyword b : ℕ) → Fed b (brk T keyword)
  unfolding brk
  brk_fed keyword b = ((tt, tt), λ c c≤. tt)

  cont_fed : (keyword b : ℕ) → Fed b (cont T keyword)
  unfolding cont
  cont_fed keyword b = ((tt, tt), λ c c≤. tt)

  while_fed : (keyword b : ℕ) → Fed b (while_stmt T keyword)
  unfolding while_stmt
  while_fed keyword b = (tt, λ c c≤. (tt, λ d v d≤ d<. (tt, λ e s e≤ e<. (tt, λ g g≤. tt))))

  statement_fed : (b : ℕ) → b ≤ count T.tokens → Fed b (statement T)
  unfolding statement
  statement_fed b h = (
    λ i c c<. for_fed i c (omega arith),
    (
      λ i c c<. try_fed c,
      (
        λ i c c<. if_fed i c (omega arith),
        (
          λ i c c<. ret_fed i c,
          (
            λ i c c<. brk_fed i c,
            (
              λ i c c<. cont_fed i c,
              (
                λ i c c<. while_fed i c,
                (
                  λ i c c<. (block_fed c (omega arith), λ d s d≤ d<. tt),
                  expression_stmt_fed b,
                ),
              ),
            ),
          ),
        ),
      ),
    ),
  )

  declaration_fed : (b : ℕ) → b ≤ count T.tokens → Fed b (declaration T)
  unfolding declaration
  declaration_fed b h = (λ i c c<. class_fed c (omega arith), (λ i c c<. fn_stmt_fed c (omega arith), (λ i c c<. let_fed c, statement_fed b h)))

  arguments_from_fed : (mark f n first last b : ℕ) → b < f → Fed b (arguments_from T mark f n first last)
  unfolding arguments_from moves
  arguments_from_fed mark zero n first last b h = absurd (omega arith)
  arguments_from_fed mark (suc f) n first last b h = when_fed (eqb mark right_paren_kind && leb 255 n) b _ _ (tt, λ c c≤. omega arith) (tt, λ c e c≤ c<. let z = c< refl in (tt, λ d d≤. (λ i g g<. (λ k k≤. tt, arguments_from_fed mark f (n + 1) (first_of first e.node) e.node g (omega arith)), tt)))

  arguments_fed : (mark b : ℕ) → b ≤ count T.tokens → Fed b (arguments T mark)
  unfolding arguments
  arguments_fed mark b h = (λ c c≤. tt, arguments_from_fed mark (fuel T) 0 0 0 b (omega arith))

  list_fed : (b : ℕ) → b ≤ count T.tokens → Fed b (list T)
  unfolding list
  list_fed b h = (arguments_fed right_brace_kind b h, λ c e c≤ c<. (tt, λ d s d≤ d<. tt))

  dict_from_fed : (f first last b : ℕ) → b < f → Fed b (dict_elements_from T f first last)
  unfolding dict_elements_from moves
  dict_from_fed zero first last b h = absurd (omega arith)
  dict_from_fed (suc f) first last b h = (λ c c≤. tt, (tt, λ c key c≤ c<. let z = c< refl in (tt, λ d d≤. (tt, λ e v e≤ e<. (tt, λ g g≤. (tt, λ k k≤. (λ i u u<. dict_from_fed f (first_of first key.node) v.node u (omega arith), tt)))))))

  dictionary_fed : (b : ℕ) → b ≤ count T.tokens → Fed b (dictionary T)
  unfolding dictionary
  dictionary_fed b h = (dict_from_fed (fuel T) 0 0 b (omega arith), λ c e c≤ c<. (tt, λ d s d≤ d<. tt))

  closed_fed : (object : Found) (brace c1 t1 c2 t2 c3 b : ℕ) → Fed b (closed T object brace c1 t1 c2 t2 c3)
  unfolding closed
  closed_fed object brace c1 t1 c2 t2 c3 b = (tt, λ c c≤. (tt, λ d n d≤ d<. tt))

  access_fed : (object : Found) (brace b : ℕ) → Fed b (access T object brace)
  unfolding access
  access_fed object brace b = (
    λ i c c<. (
      λ j d d<. (tt, λ e n e≤ e<. closed_fed _ _ _ _ _ _ _ e),
      (
        tt,
        λ d n d≤ d<. (
          λ j e e<. (tt, λ g m g≤ g<. closed_fed _ _ _ _ _ _ _ g),
          closed_fed _ _ _ _ _ _ _ d,
        ),
      ),
    ),
    (
      tt,
      λ c m c≤ c<. (
        λ i d d<. (
          λ j e e<. (tt, λ g n g≤ g<. closed_fed _ _ _ _ _ _ _ g),
          (
            λ e e≤. closed_fed _ _ _ _ _ _ _ e,
            (
              closed_fed _ _ _ _ _ _ _ d,
              (
                tt,
                λ e n e≤ e<. (
                  λ j g g<. (
                    λ k k≤. closed_fed _ _ _ _ _ _ _ k,
                    (
                      closed_fed _ _ _ _ _ _ _ g,
                      (tt, λ k q k≤ k<. closed_fed _ _ _ _ _ _ _ k),
                    ),
                  ),
                  closed_fed _ _ _ _ _ _ _ e,
                ),
              ),
            ),
          ),
        ),
        closed_fed _ _ _ _ _ _ _ c,
      ),
    ),
  )

  super_fed : (keyword b : ℕ) → Fed b (super_expr T keyword)
  unfolding super_expr
  super_fed keyword b = (λ c c≤. tt, (tt, λ c c≤. (tt, λ d m d≤ d<. tt)))

  primary_fed : (b : ℕ) → b ≤ count T.tokens → Fed b (primary T)
  unfolding primary
  primary_fed b h = (
    λ i c c<. tt,
    (
      λ i c c<. tt,
      (
        λ i c c<. tt,
        (
          λ i c c<. tt,
          (
            λ i c c<. tt,
            (
              λ i c c<. (tt, λ d n d≤ d<. tt),
              (
                λ i c c<. (tt, λ d e d≤ d<. (tt, λ g g≤. tt)),
                (
                  λ i c c<. list_fed c (omega arith),
                  (
                    λ i c c<. dictionary_fed c (omega arith),
                    (
                      λ i c c<. fn_expr_fed c (omega arith),
                      (
                        λ i c c<. tt,
                        (
                          λ i c c<. super_fed i c,
                          (
                            λ i c c<. (tt, λ d n d≤ d<. tt),
                            (tt, λ c c≤. omega arith),
                          ),
                        ),
                      ),
                    ),
                  ),
                ),
              ),
            ),
          ),
        ),
      ),
    ),
  )

  finish_call_fed : (callee : Found) (b : ℕ) → b ≤ count T.tokens → Fed b (finish_call T callee)
  unfolding finish_call
  finish_call_fed callee b h = (arguments_fed right_paren_kind b h, λ c e c≤ c<. (tt, λ d s d≤ d<. tt))

  call_from_fed : (f : ℕ) (e : Found) (b : ℕ) → b ≤ count T.tokens → b < f → Fed b (call_from T f e)
  unfolding call_from
  call_from_fed zero e b h l = absurd (omega arith)
  call_from_fed (suc f) e b h l = (
    λ i c c<. (finish_call_fed e c (omega arith), λ d n d≤ d<. call_from_fed f n d (omega arith) (omega arith)),
    (
      λ i c c<. (tt, λ d name d≤ d<. (tt, λ g n g≤ g<. call_from_fed f (property name.node e.node n.node) g (omega arith) (omega arith))),
      (
        λ i c c<. (access_fed e i c, λ d n d≤ d<. call_from_fed f n d (omega arith) (omega arith)),
        tt,
      ),
    ),
  )

  call_fed : (b : ℕ) → b ≤ count T.tokens → Fed b (call T)
  unfolding call
  call_fed b h = (primary_fed b h, λ c e c≤ c<. call_from_fed (fuel T) e c (omega arith) (omega arith))

  unary_fed : (b : ℕ) → b ≤ count T.tokens → Fed b (unary T)
  unfolding unary
  unary_fed b h = (λ i c c<. (tt, λ d n d≤ d<. tt), (λ i c c<. (tt, λ d n d≤ d<. tt), call_fed b h))

  many_fed : (ks : List ℕ) (found : ℕ → Prog) (missing : Prog) (b : ℕ) → ((i c : ℕ) → c ≤ b → Fed c (found i)) → Fed b missing → Fed b (look_many T ks found missing)
  unfolding look_many
  many_fed [] found missing b g h = h
  many_fed (zero ∷ ks) found missing b g h = (g, many_fed ks found missing b g h)
  many_fed (suc k ∷ ks) found missing b g h = (λ i c c<. g i c (omega arith), many_fed ks found missing b g h)

  -- the operand after an operator passes a token
  binary_from_fed : (level : Level) (P : Prog) → moves P ≡ true → ((b : ℕ) → b ≤ count T.tokens → Fed b P) → (f : ℕ) (left : Found) (b : ℕ) → b ≤ count T.tokens → b < f → Fed b (binary_from T level P f left)
  unfolding binary_from
  binary_from_fed level P e g zero left b h l = absurd (omega arith)
  binary_from_fed level P e g (suc f) left b h l = many_fed level.operators _ _ b (λ i c c<. (g c (omega arith), λ d r d≤ d<. let z = d< e in (tt, λ k n k≤ k<. binary_from_fed level P e g f n k (omega arith) (omega arith)))) tt

  binary_fed : (ls : List Level) (b : ℕ) → b ≤ count T.tokens → Fed b (binary T ls)
  unfolding binary
  binary_fed [] b h = unary_fed b h
  binary_fed (l ∷ ls) b h = (binary_fed ls b h, λ c left c≤ c<. binary_from_fed l (binary T ls) (binary_moves T ls) (binary_fed ls) (fuel T) left c (omega arith) (omega arith))

  assignment_fed : (b : ℕ) → b ≤ count T.tokens → Fed b (assignment T)
  unfolding assignment
  assignment_fed b h = (binary_fed levels b h, λ c left c≤ c<. (λ i d d<. (tt, λ e v e≤ e<. assigned_fed left.form left.access v.node i e), tt))

  body_fed : (w : Which) (b : ℕ) → b ≤ count T.tokens → Fed b (body T w)
  unfolding body
  body_fed Declaration b h = declaration_fed b h
  body_fed Assignment b h = assignment_fed b h
  body_fed Operand b h = unary_fed b h

-- where an answer is a stop, its outcome is below 99
abbrev pub LeftOf : Reply → Type 0
LeftOf (reply q (Node f) E N) = Unit {0}
LeftOf (reply q (Stop o) E N) = o < 99

pub record Left (r : Reply) : Type 0 where
  pub left : LeftOf r

left_then : (z a : ℕ) (c : Type 0) (r : Reply) (k : Found → Reader) → Left r → Past z a c r → ((f : Found) (q : State) (E N : List ℕ) → a ≤ q.current → c → Left (k f q E N)) → Left (and_then r k)
left_then z a c (reply q (Node f) E N) k h s g = g f q E N s.past.0 s.past.1
left_then z a c (reply q (Stop o) E N) k h s g = record { left = h.left }

left_after : (r : Reply) (k : Found → Reader) → Left r → ((f : Found) (q : State) (E N : List ℕ) → Left (k f q E N)) → Left (and_then r k)
left_after (reply q (Node f) E N) k h g = g f q E N
left_after (reply q (Stop o) E N) k h g = record { left = h.left }

left_seen : (s : Option ℕ) (f : ℕ → Reply) (g : Unit {0} → Reply) → ((i : ℕ) → s ≡ Some i → Left (f i)) → Left (g tt) → Left (if_seen s f g)
left_seen (Some i) f g h e = h i refl
left_seen None f g h e = e

left_either : (b : Bool) (f g : Unit {0} → Reply) → Left (f tt) → Left (g tt) → Left (either b f g)
left_either true f g h e = h
left_either false f g h e = e

left_restored : (p : State) (r : Reply) → Left r → Left (restored p r)
left_restored p (reply q (Node f) E N) h = record { left = tt }
left_restored p (reply q (Stop o) E N) h = record { left = h.left }

left_push : (d : rows.Node) (p : State) (E N : List ℕ) → Left (push_node d p E N)
left_push d p E N = push_node_lem Left d p E N (λ _. record { left = tt }) (record { left = omega arith })

left_error : (t : List ℕ) (m i : ℕ) (p : State) (E N : List ℕ) → Left (push_error t m i p E N)
left_error t m i p E N = push_error_lem Left t m i p E N (λ _. record { left = tt }) (record { left = omega arith })

left_consume : (T : View) (kind m : ℕ) (p : State) (E N : List ℕ) → Left (consume_at T kind m p E N)
unfolding consume_at
left_consume T kind m p E N = left_seen (matches_at T p.current kind) _ _ (λ i e. record { left = tt }) (left_error T.tokens m p.current (looked p 1) E N)

left_require : (T : View) (kind m : ℕ) (p : State) (E N : List ℕ) → Left (require_at T kind m p E N)
unfolding require_at
left_require T kind m p E N = left_seen (matches_at T p.current kind) _ _ (λ i e. record { left = tt }) (left_after (push_error T.tokens m p.current (looked p 1) E N) _ (left_error T.tokens m p.current (looked p 1) E N) λ f q E N. record { left = omega arith })

module _ (T : View) (low : Which → Reader) (h : (w : Which) → MovesOn T (low w)) (g : (w : Which) (p : State) (E N : List ℕ) → Left (low w p E N)) where
  pub run_fed : (P : Prog) (b : ℕ) (p : State) (E N : List ℕ) → Fed b P → count T.tokens - p.current ≤ b → Left (run T low P p E N)
  unfolding run
  run_fed (give f) b p E N d l = record { left = tt }
  run_fed (stop o) b p E N d l = record { left = d }
  run_fed (m >>= k) b p E N d l = go (moves m) refl (run_fed m b p E N d.0 l) λ c f q E N x y. run_fed (k f) c q E N (d.1 c f x y)
    where
      go : (t : Bool) → moves m ≡ t → Left (run T low m p E N) → ((c : ℕ) (f : Found) (q : State) (E N : List ℕ) → c ≤ b → (moves m ≡ true → c < b) → count T.tokens - q.current ≤ c → Left (run T low (k f) q E N)) → Left (run T low (m >>= k) p E N)
      go true e r s = left_then _ _ _ _ _ r (moves_on T low h m e p E N) λ f q E N a c. s (count T.tokens - q.current) f q E N (omega arith) (λ u. omega arith) (omega arith)
      go false e r s = left_then p.current p.current (Unit {0}) _ _ r (stays T low h m _ _ _ p E N (omega arith) (omega arith) tt) λ f q E N a c. s (count T.tokens - q.current) f q E N (omega arith) (λ u. never (sym e ∙ u)) (omega arith)
  run_fed (m >> k) b p E N d l = left_then p.current p.current (Unit {0}) _ _ (run_fed m b p E N d.0 l) (stays T low h m _ _ _ p E N (omega arith) (omega arith) tt) λ f q E N a c. run_fed k (count T.tokens - q.current) q E N (d.1 (count T.tokens - q.current) (omega arith)) (omega arith)
  run_fed (look zero found missing) b p E N d l = left_seen (matches_at T p.current 0) _ _ (λ i e. let a = matches_on T p.current 0 i e in run_fed (found i) (count T.tokens - i) (moved (looked p 1) i) E N (d.0 i (count T.tokens - i) (omega arith)) (omega arith)) (run_fed missing b (looked p 1) E N d.1 l)
  run_fed (look (suc kind) found missing) b p E N d l = left_seen (matches_at T p.current (suc kind)) _ _ (λ i e. let a = matches_at_lem T p.current kind i e in run_fed (found i) (count T.tokens - i) (moved (looked p 1) i) E N (d.0 i (count T.tokens - i) (omega arith)) (omega arith)) (run_fed missing b (looked p 1) E N d.1 l)
  run_fed (check kind found missing) b p E N d l = left_seen (check_at T p.current kind) _ _ (λ i e. let a = (check_at_lem T p.current kind i e).0 in run_fed found (count T.tokens - i) (moved (looked p 1) i) E N (d.0 (count T.tokens - i) (omega arith)) (omega arith)) (run_fed missing b (looked p 1) E N d.1 l)
  run_fed (at_end found missing) b p E N d l = left_either (eqb (kind_at T.tokens p.current) 0) _ _ (run_fed found b p E N d.0 l) (run_fed missing b p E N d.1 l)
  run_fed previous b p E N d l = record { left = tt }
  run_fed (node r) b p E N d l = left_push r p E N
  run_fed (link prev next) b p E N d l = record { left = tt }
  run_fed (fail message) b p E N d l = left_error T.tokens message p.current p E N
  run_fed (fail_at message token) b p E N d l = left_error T.tokens message (token - 1) p E N
  run_fed (consume kind message) b p E N d l = left_consume T kind message p E N
  run_fed (require kind message) b p E N d l = left_require T kind message p E N
  run_fed enter_loop b p E N d l = record { left = tt }
  run_fed leave_loop b p E N d l = record { left = tt }
  run_fed give_back b p E N d l = record { left = tt }
  run_fed (inside_loop found missing) b p E N d l = left_either (eqb p.loops 0) _ _ (run_fed missing b p E N d.1 l) (run_fed found b p E N d.0 l)
  run_fed (in_function name m) b p E N d l = left_restored p _ (run_fed m b (looped p 0) E N d l)
  run_fed (down w) b p E N d l = g w p E N

pub lower_fed : (T : View) (l : ℕ) (w : Which) (p : State) (E N : List ℕ) → Left (lower T l w p E N)
unfolding lower
lower_fed T zero w p E N = record { left = omega arith }
lower_fed T (suc l) w p E N = run_fed T (lower T l) (lower_moves T l) (lower_fed T l) (body T w) (count T.tokens - p.current) p E N (body_fed T w (count T.tokens - p.current) (omega arith)) (omega arith)

-- no reading, at any level and over any tables, stops with 99
pub never_spent : (T : View) (l : ℕ) (w : Which) (p q : State) (E N E' N' : List ℕ) → lower T l w p E N ≡ reply q (Stop 99) E' N' → ⊥
never_spent T l w p q E N E' N' e = let h = (subst (λ (r : Reply). Left r) e (lower_fed T l w p E N)).left in omega arith

-- ---- the top-level statements
pub top_moves : (T : View) → MovesOn T (top_level T)
unfolding top_level
top_moves T p E N = past_then _ _ _ _ _ _ _ (lower_moves T 128 Declaration p E N) λ f q E N a c. past_then _ _ _ _ _ _ _ (past_consume p.current _ _ T newline_kind 4 q E N (omega arith) a c) λ g r E N b d. record { past = (b, d) }

top_fed : (T : View) (p : State) (E N : List ℕ) → Left (top_level T p E N)
unfolding top_level
top_fed T p E N = left_after _ _ (lower_fed T 128 Declaration p E N) λ f q E N. left_after _ _ (left_consume T newline_kind 4 q E N) λ g r E N. record { left = tt }

pub record Ended (d : Parsed) : Type 0 where
  pub below : d.outcome < 99

ended_or : (z a : ℕ) (c : Type 0) (first kept : ℕ) (r : Reply) (k : ℕ → State → List ℕ → List ℕ → Parsed) → Left r → Past z a c r → ((n : ℕ) (q : State) (E N : List ℕ) → a ≤ q.current → c → Ended (k n q E N)) → Ended (or_ends first kept r k)
ended_or z a c first kept (reply q (Node f) E N) k h s g = g f.node q E N s.past.0 s.past.1
ended_or z a c first kept (reply q (Stop o) E N) k h s g = record { below = h.left }

ended_if : (b : Bool) (f g : Unit {0} → Parsed) → Ended (f tt) → Ended (g tt) → Ended (if_end b f g)
ended_if true f g h e = h
ended_if false f g h e = e

-- the loop over the top-level statements has a turn left for every token that is left
pub statements_fed : (n : ℕ) (T : View) (first last : ℕ) (p : State) (E N : List ℕ) → count T.tokens - p.current < n → Ended (statements n T first last p E N)
unfolding statements
statements_fed zero T first last p E N l = absurd (omega arith)
statements_fed (suc n) T first last p E N l = ended_if (eqb (kind_at T.tokens p.current) 0) _ _ (record { below = omega arith }) (ended_or _ _ _ first p.nodes _ _ (top_fed T p E N) (top_moves T p E N) λ m q E N a c. statements_fed n T (first_of first m) m q E (linked N last m) (omega arith))

-- no parsing ends with outcome 99
pub parsed_never_spent : (rule : ℕ) (T : View) (e : ℕ) (E N : List ℕ) → (parsed rule T e E N).outcome ≡ 99 → ⊥
unfolding parsed
parsed_never_spent rule T e E N s = let h = (statements_fed (suc (count T.tokens)) T 0 0 (fresh_state rule e) E N (omega arith)).below in omega arith
