-- The readers know the token table by its count only: two tables of one count have the same readers. Assumes nothing.
use mathlib.Core.Path.{◌≡◌, refl}
use mathlib.Core.List.{List, [], ◌∷◌}
use Prim.Native.Nat.{ℕ, zero, suc}
use Rattle.parser.specs.declared.Found.{Found}
use Rattle.parser.specs.Tokens.{View, count}
use Rattle.parser.specs.Programs.{Which, Declaration, Assignment, Operand, Prog}
use Rattle.parser.specs.Grammar.{Level, levels, block_from, block, expression_stmt, parameters_from, parameters, function_body, fn_stmt, fn_expr, methods_from, class, let_stmt, names_from, enhanced_for, classic_for, for_loop, try_catch, elifs_from, else_from, if_stmt, ret, brk, cont, while_stmt, statement, declaration, arguments_from, arguments, list, dict_elements_from, dictionary, closed, access, super_expr, primary, finish_call, call_from, call, unary, look_many, binary_from, binary, assignment, body}

module _ (T T' : View) (c : count T.tokens ≡ count T'.tokens) where
  block_from_same : (f first last : ℕ) → block_from T f first last ≡ block_from T' f first last
  unfolding block_from
  block_from_same zero first last = refl
  block_from_same (suc f) first last = simp (block_from_same f)

  block_same : block T ≡ block T'
  unfolding block
  block_same = simp (c, block_from_same)

  expression_stmt_same : expression_stmt T ≡ expression_stmt T'
  unfolding expression_stmt
  expression_stmt_same = refl

  parameters_from_same : (message f n first last : ℕ) → parameters_from T message f n first last ≡ parameters_from T' message f n first last
  unfolding parameters_from
  parameters_from_same message zero n first last = refl
  parameters_from_same message (suc f) n first last = simp (parameters_from_same message f)

  parameters_same : (message : ℕ) → parameters T message ≡ parameters T' message
  unfolding parameters
  parameters_same message = simp (c, parameters_from_same)

  function_body_same : function_body T ≡ function_body T'
  unfolding function_body
  function_body_same = simp (block_same, expression_stmt_same)

  fn_stmt_same : fn_stmt T ≡ fn_stmt T'
  unfolding fn_stmt
  fn_stmt_same = simp (parameters_same, function_body_same)

  fn_expr_same : fn_expr T ≡ fn_expr T'
  unfolding fn_expr
  fn_expr_same = simp (parameters_same, function_body_same)

  methods_from_same : (f : ℕ) (k : ℕ → ℕ → Prog) (m n s t : ℕ) → methods_from T f k m n s t ≡ methods_from T' f k m n s t
  unfolding methods_from
  methods_from_same zero k m n s t = refl
  methods_from_same (suc f) k m n s t = simp (methods_from_same f, fn_stmt_same)

  class_same : class T ≡ class T'
  unfolding class
  class_same = simp (c, methods_from_same)

  let_same : let_stmt T ≡ let_stmt T'
  unfolding let_stmt
  let_same = refl

  names_from_same : (f first last : ℕ) → names_from T f first last ≡ names_from T' f first last
  unfolding names_from
  names_from_same zero first last = refl
  names_from_same (suc f) first last = simp (names_from_same f)

  enhanced_same : (keyword : ℕ) → enhanced_for T keyword ≡ enhanced_for T' keyword
  unfolding enhanced_for
  enhanced_same keyword = simp (c, names_from_same)

  classic_same : (keyword : ℕ) → classic_for T keyword ≡ classic_for T' keyword
  unfolding classic_for
  classic_same keyword = simp let_same

  for_same : (keyword : ℕ) → for_loop T keyword ≡ for_loop T' keyword
  unfolding for_loop
  for_same keyword = simp (enhanced_same, classic_same)

  try_same : try_catch T ≡ try_catch T'
  unfolding try_catch
  try_same = refl

  elifs_from_same : (f first last : ℕ) → elifs_from T f first last ≡ elifs_from T' f first last
  unfolding elifs_from
  elifs_from_same zero first last = refl
  elifs_from_same (suc f) first last = simp (elifs_from_same f, block_same)

  else_from_same : (f first last : ℕ) → else_from T f first last ≡ else_from T' f first last
  unfolding else_from
  else_from_same zero first last = refl
  else_from_same (suc f) first last = simp (else_from_same f)

  if_same : (keyword : ℕ) → if_stmt T keyword ≡ if_stmt T' keyword
  unfolding if_stmt
  if_same keyword = simp (c, block_same, elifs_from_same, else_from_same)

  ret_same : (keyword : ℕ) → ret T keyword ≡ ret T' keyword
  unfolding ret
  ret_same keyword = refl

  brk_same : (keyword : ℕ) → brk T keyword ≡ brk T' keyword
  unfolding brk
  brk_same keyword = refl

  cont_same : (keyword : ℕ) → cont T keyword ≡ cont T' keyword
  unfolding cont
  cont_same keyword = refl

  while_same : (keyword : ℕ) → while_stmt T keyword ≡ while_stmt T' keyword
  unfolding while_stmt
  while_same keyword = refl

  statement_same : statement T ≡ statement T'
  unfolding statement
  statement_same = simp (for_same, try_same, if_same, ret_same, brk_same, cont_same, while_same, block_same, expression_stmt_same)

  declaration_same : declaration T ≡ declaration T'
  unfolding declaration
  declaration_same = simp (class_same, fn_stmt_same, let_same, statement_same)

  arguments_from_same : (mark f n first last : ℕ) → arguments_from T mark f n first last ≡ arguments_from T' mark f n first last
  unfolding arguments_from
  arguments_from_same mark zero n first last = refl
  arguments_from_same mark (suc f) n first last = simp (arguments_from_same mark f)

  arguments_same : (mark : ℕ) → arguments T mark ≡ arguments T' mark
  unfolding arguments
  arguments_same mark = simp (c, arguments_from_same)

  list_same : list T ≡ list T'
  unfolding list
  list_same = simp arguments_same

  dict_from_same : (f first last : ℕ) → dict_elements_from T f first last ≡ dict_elements_from T' f first last
  unfolding dict_elements_from
  dict_from_same zero first last = refl
  dict_from_same (suc f) first last = simp (dict_from_same f)

  dictionary_same : dictionary T ≡ dictionary T'
  unfolding dictionary
  dictionary_same = simp (c, dict_from_same)

  closed_same : (object : Found) (brace c1 t1 c2 t2 c3 : ℕ) → closed T object brace c1 t1 c2 t2 c3 ≡ closed T' object brace c1 t1 c2 t2 c3
  unfolding closed
  closed_same object brace c1 t1 c2 t2 c3 = refl

  access_same : (object : Found) (brace : ℕ) → access T object brace ≡ access T' object brace
  unfolding access
  access_same object brace = simp closed_same

  super_same : (keyword : ℕ) → super_expr T keyword ≡ super_expr T' keyword
  unfolding super_expr
  super_same keyword = refl

  primary_same : primary T ≡ primary T'
  unfolding primary
  primary_same = simp (list_same, dictionary_same, fn_expr_same, super_same)

  finish_call_same : (callee : Found) → finish_call T callee ≡ finish_call T' callee
  unfolding finish_call
  finish_call_same callee = simp arguments_same

  call_from_same : (f : ℕ) (e : Found) → call_from T f e ≡ call_from T' f e
  unfolding call_from
  call_from_same zero e = refl
  call_from_same (suc f) e = simp (call_from_same f, finish_call_same, access_same)

  call_same : call T ≡ call T'
  unfolding call
  call_same = simp (c, primary_same, call_from_same)

  unary_same : unary T ≡ unary T'
  unfolding unary
  unary_same = simp call_same

  many_same : (ks : List ℕ) (found : ℕ → Prog) (missing : Prog) → look_many T ks found missing ≡ look_many T' ks found missing
  unfolding look_many
  many_same [] found missing = refl
  many_same (k ∷ ks) found missing = simp (many_same ks)

  binary_from_same : (level : Level) (P : Prog) (f : ℕ) (left : Found) → binary_from T level P f left ≡ binary_from T' level P f left
  unfolding binary_from
  binary_from_same level P zero left = refl
  binary_from_same level P (suc f) left = simp (binary_from_same level P f, many_same)

  binary_same : (ls : List Level) → binary T ls ≡ binary T' ls
  unfolding binary
  binary_same [] = unary_same
  binary_same (l ∷ ls) = simp (c, binary_same ls, binary_from_same)

  assignment_same : assignment T ≡ assignment T'
  unfolding assignment
  assignment_same = simp (binary_same levels)

  -- every reading that opens a level
  pub body_same : (w : Which) → body T w ≡ body T' w
  unfolding body
  body_same Declaration = declaration_same
  body_same Assignment = assignment_same
  body_same Operand = unary_same
