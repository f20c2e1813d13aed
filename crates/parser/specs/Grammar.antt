-- The readers of parser.rs (docs/RULES.md, 'Parsing'), `declaration` to `super_expr`, in the order of the file. Each is a program; a loop is a recursion on fuel, which is never used up.
use Rattle.std.specs.Prelude.{ℕ, zero, suc, ◌+◌, Bool, true, false, ◌&&◌, List, [], ◌∷◌, leb, ltb, eqb}
use Rattle.token.specs.Kind.{newline_kind, left_paren_kind, right_paren_kind, left_brace_kind, right_brace_kind, right_curly_brace_kind, left_curly_brace_kind, comma_kind, dot_kind, minus_kind, plus_kind, slash_kind, mod_kind, star_kind, power_kind, colon_kind, semicolon_kind, bang_equal_kind, equal_kind, equal_equal_kind, greater_kind, greater_equal_kind, less_kind, less_equal_kind, identifier_kind, string_kind, number_kind, and_kind, class_kind, else_kind, false_kind, fn_kind, for_kind, if_kind, elif_kind, nil_kind, or_kind, return_kind, break_kind, continue_kind, super_kind, this_kind, true_kind, let_kind, while_kind, not_kind, in_kind, try_kind, catch_kind}
use Rattle.records.specs.Messages.{expected_variable_name, expected_left_curly, expected_right_curly, expected_function_name, expect_paren_after_name, max_parameters, expected_parameter, expect_paren_after_expression, expected_paren_after_name, expect_parameter, expected_semicolon, empty_or_let, expected_in, expected_catch, only_inside_loop, expected_end_of_list, expected_end_of_dict, expected_colon_after_key, undefined_statement, expected_end_of_slice, expected_property_name, expect_paren_after_arguments, max_arguments, undefined_expression, super_only_for_property}
use Rattle.records.specs.Outcomes.{fatal_stop, out_of_fuel, too_deep}
use Rattle.records.specs.declared.Node as rows
use Rattle.parser.specs.declared.Form.{Form}
use Rattle.parser.specs.declared.Form.TheVariants.{Other, Empty, Name, Property}
use Rattle.parser.specs.declared.Found.{Found}
use Rattle.parser.specs.Tables.{Stop}
use Rattle.parser.specs.Tokens.{View, count}
use Rattle.parser.specs.Tables.{reply, plain}
use Rattle.parser.specs.Nodes.{fn_expr_row, var_row, list_row, dictionary_row, assign_row, access_row, binary_row, call_row, get_row, set_row, super_row, grouping_row, literal_row, logical_row, this_row, unary_row, empty_row, fn_row, let_row, block_row, class_row, classic_for_row, enhanced_for_row, while_row, if_row, continue_row, return_row, break_row, try_catch_row, expr_row, elif_row, name_row}
use Rattle.parser.specs.Programs.{Reader, Which, Declaration, Assignment, Operand, Prog, give, stop, ◌>>=◌, ◌>>◌, look, check, at_end, previous, node, link, fail, fail_at, consume, require, enter_loop, leave_loop, give_back, inside_loop, in_function, down, run}

-- ---- what readers build
-- a list's first member: the one that it has, or else the one that is added
unfoldable pub first_of : ℕ → ℕ → ℕ
first_of zero n = n
first_of (suc f) n = suc f

-- it finds nothing
abbrev pub nothing : Prog
nothing = give (plain 0)

-- the fuel of a loop is used up: that never happens
abbrev pub spent : Prog
spent = stop out_of_fuel

-- `self.expression()`
abbrev pub expression : Prog
expression = down Assignment

-- a node of a name, which may stand left of `=`
abbrev pub named : ℕ → ℕ → Found
named token n = record { node = n; form = Name token; access = 0 }

-- a node of a property, which may stand left of `=`
abbrev pub property : ℕ → ℕ → ℕ → Found
property token object n = record { node = n; form = Property token object; access = 0 }

-- what stands left of `=` through an access: the object's name or property, and this access is the outermost
abbrev pub form_through : Form → Form
form_through Other = Other
form_through Empty = Other
form_through (Name t) = Name t
form_through (Property t o) = Property t o

-- the access n of that object, with what stands left of `=` through it
abbrev pub through : Found → ℕ → Found
through object n = record { node = n; form = form_through object.form; access = n }

-- `last` of an expression statement: the token before the cursor, and none if the expression is Empty
abbrev pub last_of : Form → ℕ → ℕ
last_of Other t = t
last_of Empty t = 0
last_of (Name n) t = t
last_of (Property n o) t = t

-- the first where the test holds, else the second
abbrev pub row_if : Bool → rows.Node → rows.Node → rows.Node
row_if true a b = a
row_if false a b = b

-- the first program where the test holds, else the second
abbrev pub when : Bool → Prog → Prog → Prog
when true a b = a
when false a b = b

-- what `=` makes, by what stands left of it: a Var gives an Assign, a Get a Set, anything else is message 23 at the `=`
abbrev pub assigned : Form → ℕ → ℕ → ℕ → Prog
assigned (Name t) access value equal = node (assign_row t value access)
assigned (Property t o) access value equal = node (set_row o t value access)
assigned Other access value equal = do fail_at undefined_statement equal; stop fatal_stop
assigned Empty access value equal = do fail_at undefined_statement equal; stop fatal_stop

-- a level of binary operators: whether it makes a Logical, and its operators in the order in which they are tried
pub record Level : Type 0 where
  pub logical : Bool
  pub operators : List ℕ

-- the levels, loosest first
abbrev pub levels : List Level
levels =
    record { logical = true; operators = or_kind ∷ [] } ∷
    record { logical = true; operators = and_kind ∷ [] } ∷
    record { logical = false; operators = equal_equal_kind ∷ bang_equal_kind ∷ [] } ∷
    record { logical = false; operators = greater_kind ∷ greater_equal_kind ∷ less_kind ∷ less_equal_kind ∷ [] } ∷
    record { logical = false; operators = plus_kind ∷ minus_kind ∷ [] } ∷
    record { logical = false; operators = slash_kind ∷ mod_kind ∷ star_kind ∷ [] } ∷
    record { logical = false; operators = power_kind ∷ [] } ∷
    []

-- the row of an operation: a Logical or a Binary
abbrev pub operation : Level → ℕ → ℕ → ℕ → rows.Node
operation level left operator right = row_if level.logical (logical_row left operator right) (binary_row left operator right)

module _ (T : View) where
  -- the fuel of every loop: one more than the tokens, so that it is never used up
  abbrev pub fuel : ℕ
  fuel = suc (count T.tokens)

  -- ---- statements
  -- `block`: declarations up to the closing brace; the first of them
  unfoldable pub block_from : ℕ → ℕ → ℕ → Prog
  block_from zero first last = spent
  block_from (suc f) first last =
      look right_curly_brace_kind (λ i. give (plain first)) (do
        n ← down Declaration
        link last n.node
        block_from f (first_of first n.node) n.node)

  -- `block`
  unfoldable pub block : Prog
  block = block_from fuel 0 0

  -- `expression_stmt`
  unfoldable pub expression_stmt : Prog
  expression_stmt = do
    e ← expression
    t ← previous
    node (expr_row (last_of e.form t.node) e.node)

  -- parameters up to what is no comma; the 257th is message 10
  unfoldable pub parameters_from : ℕ → ℕ → ℕ → ℕ → ℕ → Prog
  parameters_from message zero n first last = spent
  parameters_from message (suc f) n first last =
      when (ltb 255 n) (do fail max_parameters; stop fatal_stop) (do
        i ← require identifier_kind message
        d ← node (name_row i.node)
        link last d.node
        look comma_kind (λ c. parameters_from message f (n + 1) (first_of first d.node) d.node) (give (plain (first_of first d.node))))

  -- parameters up to the closing mark, as `fn_stmt` and `fn_expr` read them; none where the mark comes at once
  unfoldable pub parameters : ℕ → Prog
  parameters message = check right_paren_kind nothing (parameters_from message fuel 0 0 0)

  -- the body of a function: a block, or one expression
  unfoldable pub function_body : Prog
  function_body = look left_curly_brace_kind (λ i. block) expression_stmt

  -- `fn_stmt`
  unfoldable pub fn_stmt : Prog
  fn_stmt = do
    name ← require identifier_kind expected_function_name
    in_function name.node (do
      consume left_paren_kind expect_paren_after_name
      params ← parameters expected_parameter
      consume right_paren_kind expect_paren_after_expression
      stmts ← function_body
      node (fn_row name.node params.node stmts.node))

  -- `fn_expr`
  unfoldable pub fn_expr : Prog
  fn_expr = do
    consume left_paren_kind expected_paren_after_name
    in_function 0 (do
      params ← parameters expect_parameter
      consume right_paren_kind expect_paren_after_expression
      stmts ← function_body
      node (fn_expr_row params.node stmts.node))

  -- `class`: methods and static methods, up to the brace or the end
  unfoldable pub methods_from : ℕ → (ℕ → ℕ → Prog) → ℕ → ℕ → ℕ → ℕ → Prog
  methods_from zero k first last first_static last_static = spent
  methods_from (suc f) k first last first_static last_static =
      check right_curly_brace_kind (k first first_static) (
      at_end (k first first_static) (
      look class_kind (λ i. do
        n ← fn_stmt
        link last_static n.node
        methods_from f k first last (first_of first_static n.node) n.node) (do
          n ← fn_stmt
          link last n.node
          methods_from f k (first_of first n.node) n.node first_static last_static)))

  -- `class`: its name, a superclass after `<`, its methods
  unfoldable pub class : Prog
  class = do
    name ← consume identifier_kind expected_variable_name
    superclass ← look less_kind (λ i. do s ← consume identifier_kind expected_variable_name; node (var_row s.node)) nothing
    consume left_curly_brace_kind expected_left_curly
    methods_from fuel (λ methods statics. do
      consume right_curly_brace_kind expected_right_curly
      node (class_row name.node methods statics superclass.node)) 0 0 0 0

  -- `let_stmt`
  unfoldable pub let_stmt : Prog
  let_stmt = do
    name ← require identifier_kind expected_variable_name
    init ← look equal_kind (λ i. expression) nothing
    node (let_row name.node init.node)

  -- `enhanced_for`: the names may lack commas
  unfoldable pub names_from : ℕ → ℕ → ℕ → Prog
  names_from zero first last = spent
  names_from (suc f) first last =
      look identifier_kind (λ i. do
        n ← node (name_row i)
        link last n.node
        look comma_kind (λ c. nothing) nothing
        names_from f (first_of first n.node) n.node)
      (give (plain first))

  -- `enhanced_for`: names, `in`, a collection, a statement
  unfoldable pub enhanced_for : ℕ → Prog
  enhanced_for keyword = do
    ids ← names_from fuel 0 0
    consume in_kind expected_in
    collection ← expression
    stmt ← down Declaration
    give_back
    node (enhanced_for_row keyword ids.node collection.node stmt.node)

  -- `for_loop`
  unfoldable pub classic_for : ℕ → Prog
  classic_for keyword = do
    init ← look semicolon_kind (λ i. nothing) (
        look let_kind (λ i. do n ← let_stmt; consume semicolon_kind expected_semicolon; give n) (do
          fail empty_or_let
          nothing))
    cond ← expression
    consume semicolon_kind expected_semicolon
    inc ← expression
    stmt ← down Declaration
    leave_loop
    node (classic_for_row keyword init.node cond.node inc.node stmt.node)

  -- `for_loop`: an identifier makes it an enhanced for
  unfoldable pub for_loop : ℕ → Prog
  for_loop keyword = do
    enter_loop
    check identifier_kind (enhanced_for keyword) (classic_for keyword)

  -- `try_catch`
  unfoldable pub try_catch : Prog
  try_catch = do
    try_body ← down Declaration
    consume catch_kind expected_catch
    name ← require identifier_kind expected_variable_name
    catch_body ← down Declaration
    node (try_catch_row try_body.node name.node catch_body.node)

  -- `if_stmt`
  unfoldable pub elifs_from : ℕ → ℕ → ℕ → Prog
  elifs_from zero first last = spent
  elifs_from (suc f) first last =
      look elif_kind (λ i. do
        cond ← expression
        consume left_curly_brace_kind expected_left_curly
        stmts ← block
        n ← node (elif_row cond.node stmts.node)
        link last n.node
        elifs_from f (first_of first n.node) n.node)
      (give (plain first))

  -- declarations up to the closing brace, which stays
  unfoldable pub else_from : ℕ → ℕ → ℕ → Prog
  else_from zero first last = spent
  else_from (suc f) first last =
      check right_curly_brace_kind (give (plain first)) (do
        n ← down Declaration
        link last n.node
        else_from f (first_of first n.node) n.node)

  -- `if_stmt`: a condition and a block, elif branches, else
  unfoldable pub if_stmt : ℕ → Prog
  if_stmt keyword = do
    cond ← expression
    consume left_curly_brace_kind expected_left_curly
    stmts ← block
    elifs ← elifs_from fuel 0 0
    others ← look else_kind (λ i. do
      consume left_curly_brace_kind expected_left_curly
      n ← else_from fuel 0 0
      consume right_curly_brace_kind expected_right_curly
      give n) nothing
    node (if_row keyword cond.node stmts.node elifs.node others.node)

  -- `ret`
  unfoldable pub ret : ℕ → Prog
  ret keyword = do
    value ← check newline_kind nothing expression
    node (return_row keyword value.node)

  -- `brk` and `cont`
  unfoldable pub brk : ℕ → Prog
  brk keyword = do
    inside_loop nothing (fail_at only_inside_loop keyword)
    node (break_row keyword)

  -- `cont`
  unfoldable pub cont : ℕ → Prog
  cont keyword = do
    inside_loop nothing (fail_at only_inside_loop keyword)
    node (continue_row keyword)

  -- `while_stmt`
  unfoldable pub while_stmt : ℕ → Prog
  while_stmt keyword = do
    enter_loop
    cond ← expression
    stmt ← down Declaration
    leave_loop
    node (while_row keyword cond.node stmt.node)

  -- `statement`
  unfoldable pub statement : Prog
  statement =
      look for_kind (λ i. for_loop i) (
      look try_kind (λ i. try_catch) (
      look if_kind (λ i. if_stmt i) (
      look return_kind (λ i. ret i) (
      look break_kind (λ i. brk i) (
      look continue_kind (λ i. cont i) (
      look while_kind (λ i. while_stmt i) (
      look left_curly_brace_kind (λ i. do b ← block; node (block_row b.node))
      expression_stmt)))))))

  -- `declaration`, without its newline test
  unfoldable pub declaration : Prog
  declaration =
      look class_kind (λ i. class) (
      look fn_kind (λ i. fn_stmt) (
      look let_kind (λ i. let_stmt)
      statement))

  -- ---- expressions
  -- `arguments`: up to the mark, or to what is no comma; the 256th argument of a call is message 27
  unfoldable pub arguments_from : ℕ → ℕ → ℕ → ℕ → ℕ → Prog
  arguments_from mark zero n first last = spent
  arguments_from mark (suc f) n first last =
      when (eqb mark right_paren_kind && leb 255 n) (do fail max_arguments; stop fatal_stop) (do
        e ← expression
        link last e.node
        look comma_kind
            (λ c. check mark (give (plain (first_of first e.node))) (arguments_from mark f (n + 1) (first_of first e.node) e.node))
            (give (plain (first_of first e.node))))

  -- `arguments`: none where the mark comes at once
  unfoldable pub arguments : ℕ → Prog
  arguments mark = check mark nothing (arguments_from mark fuel 0 0 0)

  -- `list`
  unfoldable pub list : Prog
  list = do
    elements ← arguments right_brace_kind
    brace ← require right_brace_kind expected_end_of_list
    node (list_row elements.node brace.node)

  -- `dict_elements`: keys and values in turn
  unfoldable pub dict_elements_from : ℕ → ℕ → ℕ → Prog
  dict_elements_from zero first last = spent
  dict_elements_from (suc f) first last =
      check right_curly_brace_kind (give (plain first)) (do
        key ← expression
        consume colon_kind expected_colon_after_key
        value ← expression
        link last key.node
        link key.node value.node
        look comma_kind (λ c. dict_elements_from f (first_of first key.node) value.node) (give (plain (first_of first key.node))))

  -- `dictionary`
  unfoldable pub dictionary : Prog
  dictionary = do
    elements ← dict_elements_from fuel 0 0
    brace ← require right_curly_brace_kind expected_end_of_dict
    node (dictionary_row elements.node brace.node)

  -- the end of `access`: its closing mark and its node
  unfoldable pub closed : Found → ℕ → ℕ → ℕ → ℕ → ℕ → ℕ → Prog
  closed object brace first first_colon second second_colon third = do
    consume right_brace_kind expected_end_of_slice
    n ← node (access_row object.node brace first first_colon second second_colon third)
    give (through object n.node)

  -- `slice`, after the second colon: the third part
  abbrev pub third_part : Found → ℕ → ℕ → ℕ → ℕ → ℕ → Prog
  third_part object brace first first_colon second second_colon = do
    third ← expression
    closed object brace first first_colon second second_colon third.node

  -- `slice`, after a first colon that comes first
  abbrev pub open_slice : Found → ℕ → ℕ → Prog
  open_slice object brace c =
      look colon_kind (λ d. third_part object brace 0 c 0 d) (do
        second ← expression
        look colon_kind (λ d. third_part object brace 0 c second.node d) (closed object brace 0 c second.node 0 0))

  -- `slice`, after the second colon, where the third part may be absent
  abbrev pub last_part : Found → ℕ → ℕ → ℕ → ℕ → ℕ → Prog
  last_part object brace first c second d =
      check right_brace_kind (closed object brace first c second d 0) (
      at_end (closed object brace first c second d 0)
      (third_part object brace first c second d))

  -- `slice`, after a first part and the first colon
  abbrev pub slice : Found → ℕ → ℕ → ℕ → Prog
  slice object brace first c =
      look colon_kind (λ d. third_part object brace first c 0 d) (
      check right_brace_kind (closed object brace first c 0 0 0) (
      at_end (closed object brace first c 0 0 0) (do
        second ← expression
        look colon_kind (λ d. last_part object brace first c second.node d) (closed object brace first c second.node 0 0))))

  -- `access`
  unfoldable pub access : Found → ℕ → Prog
  access object brace =
      look colon_kind (λ c. open_slice object brace c) (do
        first ← expression
        look colon_kind (λ c. slice object brace first.node c) (closed object brace first.node 0 0 0 0))

  -- `super_expr`
  unfoldable pub super_expr : ℕ → Prog
  super_expr keyword =
      check left_paren_kind (node (super_row keyword 0)) (do
        consume dot_kind super_only_for_property
        method ← require identifier_kind expected_variable_name
        node (super_row keyword method.node))

  -- `primary`
  unfoldable pub primary : Prog
  primary =
      look number_kind (λ i. node (literal_row i)) (
      look string_kind (λ i. node (literal_row i)) (
      look false_kind (λ i. node (literal_row i)) (
      look true_kind (λ i. node (literal_row i)) (
      look nil_kind (λ i. node (literal_row i)) (
      look identifier_kind (λ i. do n ← node (var_row i); give (named i n.node)) (
      look left_paren_kind (λ i. do e ← expression; consume right_paren_kind expect_paren_after_expression; node (grouping_row e.node)) (
      look left_brace_kind (λ i. list) (
      look left_curly_brace_kind (λ i. dictionary) (
      look fn_kind (λ i. fn_expr) (
      look this_kind (λ i. node (this_row i)) (
      look super_kind (λ i. super_expr i) (
      look newline_kind (λ i. do n ← node empty_row; give (record { node = n.node; form = Empty; access = 0 })) (do
        fail undefined_expression
        stop fatal_stop)))))))))))))

  -- `finish_call`
  unfoldable pub finish_call : Found → Prog
  finish_call callee = do
    args ← arguments right_paren_kind
    paren ← require right_paren_kind expect_paren_after_arguments
    node (call_row callee.node paren.node args.node)

  -- `call`
  unfoldable pub call_from : ℕ → Found → Prog
  call_from zero e = spent
  call_from (suc f) e =
      look left_paren_kind (λ i. do n ← finish_call e; call_from f n) (
      look dot_kind (λ i. do
        name ← require identifier_kind expected_property_name
        n ← node (get_row e.node name.node)
        call_from f (property name.node e.node n.node)) (
      look left_brace_kind (λ i. do n ← access e i; call_from f n)
      (give e)))

  -- `call`: calls, dots and indexes after a primary
  unfoldable pub call : Prog
  call = do
    e ← primary
    call_from fuel e

  -- `unary`
  unfoldable pub unary : Prog
  unary =
      look not_kind (λ i. do right ← down Operand; node (unary_row i right.node)) (
      look minus_kind (λ i. do right ← down Operand; node (unary_row i right.node))
      call)

  -- ---- binary operators: one reader for `or`, `and`, `equality`, `comparison`, `addition`, `multiplication` and `power`
  -- `matches_many`
  unfoldable pub look_many : List ℕ → (ℕ → Prog) → Prog → Prog
  look_many [] found missing = missing
  look_many (k ∷ ks) found missing = look k found (look_many ks found missing)

  -- while an operator of the level follows, what stands left of it is one operand
  unfoldable pub binary_from : Level → Prog → ℕ → Found → Prog
  binary_from level operand zero left = spent
  binary_from level operand (suc f) left =
      look_many level.operators (λ i. do
        right ← operand
        n ← node (operation level left.node i right.node)
        binary_from level operand f n)
      (give left)

  -- the level's reader over the readers of the tighter levels: `or` is the whole list, `power` its last
  unfoldable pub binary : List Level → Prog
  binary [] = unary
  binary (level ∷ tighter) = do
    left ← binary tighter
    binary_from level (binary tighter) fuel left

  -- `assignment`: the value is read before the left side is judged
  unfoldable pub assignment : Prog
  assignment = do
    left ← binary levels
    look equal_kind (λ i. do
      value ← down Assignment
      assigned left.form left.access value.node i)
        (give left)

  -- ---- levels
  unfoldable pub body : Which → Prog
  body Declaration = declaration
  body Assignment = assignment
  body Operand = unary

  -- with l levels left: a reading one level down; where none is left it stops with outcome 8
  unfoldable pub lower : ℕ → Which → Reader
  lower zero w p E N = reply p (Stop too_deep) E N
  lower (suc l) w p E N = run T (lower l) (body w) p E N
