-- The rows of the node table, all 32 kinds: tokens t and children c in the order in which the Rust struct declares them. `next` is 0 until a list goes on.
use Rattle.std.specs.Prelude.{ℕ}
use Rattle.records.specs.declared.Node.{Node}
use Rattle.records.specs.Kinds.{fn_expr_kind, var_expr_kind, list_expr_kind, dictionary_expr_kind, assign_expr_kind, access_expr_kind, binary_expr_kind, call_expr_kind, get_expr_kind, set_expr_kind, super_expr_kind, grouping_expr_kind, literal_expr_kind, logical_expr_kind, this_expr_kind, unary_expr_kind, empty_expr_kind, fn_stmt_kind, let_stmt_kind, block_stmt_kind, class_stmt_kind, classic_for_stmt_kind, enhanced_for_stmt_kind, while_stmt_kind, if_stmt_kind, continue_stmt_kind, return_stmt_kind, break_stmt_kind, try_catch_stmt_kind, expr_stmt_kind, elif_branch_kind, parameter_name_kind}

-- a row by its columns; it is in no list yet
abbrev pub row : ℕ → ℕ → ℕ → ℕ → ℕ → ℕ → ℕ → ℕ → Node
row kind t1 t2 t3 c1 c2 c3 c4 = record { kind = kind; token1 = t1; token2 = t2; token3 = t3; child1 = c1; child2 = c2; child3 = c3; child4 = c4; next = 0 }

-- ---- expr.rs
-- `fn_expr_kind`: parameters and statements
abbrev pub fn_expr_row : ℕ → ℕ → Node
fn_expr_row params stmts = row fn_expr_kind 0 0 0 params stmts 0 0

-- `var_expr_kind`: its name
abbrev pub var_row : ℕ → Node
var_row name = row var_expr_kind name 0 0 0 0 0 0

-- the brace is the closing one
abbrev pub list_row : ℕ → ℕ → Node
list_row elements brace = row list_expr_kind brace 0 0 elements 0 0 0

-- keys and values in turn; the brace is the closing one
abbrev pub dictionary_row : ℕ → ℕ → Node
dictionary_row elements brace = row dictionary_expr_kind brace 0 0 elements 0 0 0

-- `assign_expr_kind`: a name, the value, and the access through which or 0
abbrev pub assign_row : ℕ → ℕ → ℕ → Node
assign_row name value access = row assign_expr_kind name 0 0 value access 0 0

-- the brace is the opening one; absent colons and expressions are 0
abbrev pub access_row : ℕ → ℕ → ℕ → ℕ → ℕ → ℕ → ℕ → Node
access_row object brace first first_colon second second_colon third = row access_expr_kind brace first_colon second_colon object first second third

-- `binary_expr_kind`: left operand, operator, right operand
abbrev pub binary_row : ℕ → ℕ → ℕ → Node
binary_row left operator right = row binary_expr_kind operator 0 0 left right 0 0

-- the paren is the closing one
abbrev pub call_row : ℕ → ℕ → ℕ → Node
call_row callee paren arguments = row call_expr_kind paren 0 0 callee arguments 0 0

-- `get_expr_kind`: an object and a name
abbrev pub get_row : ℕ → ℕ → Node
get_row object name = row get_expr_kind name 0 0 object 0 0 0

-- the object is the node that the Get had
abbrev pub set_row : ℕ → ℕ → ℕ → ℕ → Node
set_row object name value access = row set_expr_kind name 0 0 object value access 0

-- method 0 is the made-up `init`
abbrev pub super_row : ℕ → ℕ → Node
super_row keyword method = row super_expr_kind keyword method 0 0 0 0 0

-- `grouping_expr_kind`: the expression within
abbrev pub grouping_row : ℕ → Node
grouping_row expression = row grouping_expr_kind 0 0 0 expression 0 0 0

-- the Number, String, True, False or Nil token
abbrev pub literal_row : ℕ → Node
literal_row token = row literal_expr_kind token 0 0 0 0 0 0

-- `logical_expr_kind`: left operand, operator, right operand
abbrev pub logical_row : ℕ → ℕ → ℕ → Node
logical_row left operator right = row logical_expr_kind operator 0 0 left right 0 0

-- `this_expr_kind`: its keyword
abbrev pub this_row : ℕ → Node
this_row keyword = row this_expr_kind keyword 0 0 0 0 0 0

-- `unary_expr_kind`: operator and operand
abbrev pub unary_row : ℕ → ℕ → Node
unary_row operator right = row unary_expr_kind operator 0 0 right 0 0 0

-- `Empty`
abbrev pub empty_row : Node
empty_row = row empty_expr_kind 0 0 0 0 0 0 0

-- ---- stmt.rs
-- `fn_stmt_kind`: name, parameters, statements
abbrev pub fn_row : ℕ → ℕ → ℕ → Node
fn_row name params stmts = row fn_stmt_kind name 0 0 params stmts 0 0

-- `let_stmt_kind`: name, and its value or 0
abbrev pub let_row : ℕ → ℕ → Node
let_row name initializer = row let_stmt_kind name 0 0 initializer 0 0 0

-- `block_stmt_kind`: its statements
abbrev pub block_row : ℕ → Node
block_row stmts = row block_stmt_kind 0 0 0 stmts 0 0 0

-- `class_stmt_kind`: name, methods, static methods, and the superclass or 0
abbrev pub class_row : ℕ → ℕ → ℕ → ℕ → Node
class_row name methods static_methods superclass = row class_stmt_kind name 0 0 methods static_methods superclass 0

-- `classic_for_stmt_kind`: keyword, initializer or 0, condition, increment, body
abbrev pub classic_for_row : ℕ → ℕ → ℕ → ℕ → ℕ → Node
classic_for_row keyword initializer condition increment stmt = row classic_for_stmt_kind keyword 0 0 initializer condition increment stmt

-- `enhanced_for_stmt_kind`: keyword, names, collection, body
abbrev pub enhanced_for_row : ℕ → ℕ → ℕ → ℕ → Node
enhanced_for_row keyword identifiers collection stmt = row enhanced_for_stmt_kind keyword 0 0 identifiers collection stmt 0

-- `while_stmt_kind`: keyword, condition, body
abbrev pub while_row : ℕ → ℕ → ℕ → Node
while_row keyword condition stmt = row while_stmt_kind keyword 0 0 condition stmt 0 0

-- `if_stmt_kind`: keyword, condition, statements, elif branches, else statements
abbrev pub if_row : ℕ → ℕ → ℕ → ℕ → ℕ → Node
if_row keyword condition then_branch elifs else_branch = row if_stmt_kind keyword 0 0 condition then_branch elifs else_branch

-- `continue_stmt_kind`: its keyword
abbrev pub continue_row : ℕ → Node
continue_row keyword = row continue_stmt_kind keyword 0 0 0 0 0 0

-- `return_stmt_kind`: keyword, and its value or 0
abbrev pub return_row : ℕ → ℕ → Node
return_row keyword value = row return_stmt_kind keyword 0 0 value 0 0 0

-- `break_stmt_kind`: its keyword
abbrev pub break_row : ℕ → Node
break_row keyword = row break_stmt_kind keyword 0 0 0 0 0 0

-- `try_catch_stmt_kind`: the body tried, the name, the body of catch
abbrev pub try_catch_row : ℕ → ℕ → ℕ → Node
try_catch_row try_body name catch_body = row try_catch_stmt_kind name 0 0 try_body catch_body 0 0

-- last is 0 exactly if the expression is Empty
abbrev pub expr_row : ℕ → ℕ → Node
expr_row last expression = row expr_stmt_kind last 0 0 expression 0 0 0

-- ---- an elif branch; a parameter or loop name
-- an elif branch: condition and statements
abbrev pub elif_row : ℕ → ℕ → Node
elif_row condition then_branch = row elif_branch_kind 0 0 0 condition then_branch 0 0

-- a parameter or loop name
abbrev pub name_row : ℕ → Node
name_row name = row parameter_name_kind name 0 0 0 0 0 0
