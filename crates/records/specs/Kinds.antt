-- The kinds of nodes (docs/RULES.md, 'Nodes'), for definitions to cite: the `Expr` enum in its order, the `Stmt` enum in its order, and two that the Rust has no enum for.
use Rattle.std.specs.Prelude.{ℕ}

-- `Expr::Fn`
abbrev pub fn_expr_kind : ℕ
fn_expr_kind = 1

-- `Expr::Var`
abbrev pub var_expr_kind : ℕ
var_expr_kind = 2

-- `Expr::List`
abbrev pub list_expr_kind : ℕ
list_expr_kind = 3

-- `Expr::Dictionary`
abbrev pub dictionary_expr_kind : ℕ
dictionary_expr_kind = 4

-- `Expr::Assign`
abbrev pub assign_expr_kind : ℕ
assign_expr_kind = 5

-- `Expr::Access`
abbrev pub access_expr_kind : ℕ
access_expr_kind = 6

-- `Expr::Binary`
abbrev pub binary_expr_kind : ℕ
binary_expr_kind = 7

-- `Expr::Call`
abbrev pub call_expr_kind : ℕ
call_expr_kind = 8

-- `Expr::Get`
abbrev pub get_expr_kind : ℕ
get_expr_kind = 9

-- `Expr::Set`
abbrev pub set_expr_kind : ℕ
set_expr_kind = 10

-- `Expr::Super`
abbrev pub super_expr_kind : ℕ
super_expr_kind = 11

-- `Expr::Grouping`
abbrev pub grouping_expr_kind : ℕ
grouping_expr_kind = 12

-- `Expr::Literal`
abbrev pub literal_expr_kind : ℕ
literal_expr_kind = 13

-- `Expr::Logical`
abbrev pub logical_expr_kind : ℕ
logical_expr_kind = 14

-- `Expr::This`
abbrev pub this_expr_kind : ℕ
this_expr_kind = 15

-- `Expr::Unary`
abbrev pub unary_expr_kind : ℕ
unary_expr_kind = 16

-- `Expr::Empty`
abbrev pub empty_expr_kind : ℕ
empty_expr_kind = 17

-- `Stmt::Fn`
abbrev pub fn_stmt_kind : ℕ
fn_stmt_kind = 18

-- `Stmt::Let`
abbrev pub let_stmt_kind : ℕ
let_stmt_kind = 19

-- `Stmt::Block`
abbrev pub block_stmt_kind : ℕ
block_stmt_kind = 20

-- `Stmt::Class`
abbrev pub class_stmt_kind : ℕ
class_stmt_kind = 21

-- `Stmt::ClassicFor`
abbrev pub classic_for_stmt_kind : ℕ
classic_for_stmt_kind = 22

-- `Stmt::EnhancedFor`
abbrev pub enhanced_for_stmt_kind : ℕ
enhanced_for_stmt_kind = 23

-- `Stmt::While`
abbrev pub while_stmt_kind : ℕ
while_stmt_kind = 24

-- `Stmt::If`
abbrev pub if_stmt_kind : ℕ
if_stmt_kind = 25

-- `Stmt::Continue`
abbrev pub continue_stmt_kind : ℕ
continue_stmt_kind = 26

-- `Stmt::Return`
abbrev pub return_stmt_kind : ℕ
return_stmt_kind = 27

-- `Stmt::Break`
abbrev pub break_stmt_kind : ℕ
break_stmt_kind = 28

-- `Stmt::TryCatch`
abbrev pub try_catch_stmt_kind : ℕ
try_catch_stmt_kind = 29

-- `Stmt::Expr`
abbrev pub expr_stmt_kind : ℕ
expr_stmt_kind = 30

-- an elif branch
abbrev pub elif_branch_kind : ℕ
elif_branch_kind = 31

-- a parameter or loop name
abbrev pub parameter_name_kind : ℕ
parameter_name_kind = 32
