-- The token kinds by the names of token.rs, for definitions to cite: the `Token` enum in its order.
use Rattle.std.specs.Prelude.{ℕ}

-- the end
abbrev pub eof_kind : ℕ
eof_kind = 0

-- a newline
abbrev pub newline_kind : ℕ
newline_kind = 1

-- `(`
abbrev pub left_paren_kind : ℕ
left_paren_kind = 2

-- `)`
abbrev pub right_paren_kind : ℕ
right_paren_kind = 3

-- `[`
abbrev pub left_brace_kind : ℕ
left_brace_kind = 4

-- `]`
abbrev pub right_brace_kind : ℕ
right_brace_kind = 5

-- `}`
abbrev pub right_curly_brace_kind : ℕ
right_curly_brace_kind = 6

-- `{`
abbrev pub left_curly_brace_kind : ℕ
left_curly_brace_kind = 7

-- `,`
abbrev pub comma_kind : ℕ
comma_kind = 8

-- `.`
abbrev pub dot_kind : ℕ
dot_kind = 9

-- `-`
abbrev pub minus_kind : ℕ
minus_kind = 10

-- `+`
abbrev pub plus_kind : ℕ
plus_kind = 11

-- `/`
abbrev pub slash_kind : ℕ
slash_kind = 12

-- `%`
abbrev pub mod_kind : ℕ
mod_kind = 13

-- `*`
abbrev pub star_kind : ℕ
star_kind = 14

-- `^`
abbrev pub power_kind : ℕ
power_kind = 15

-- `:`
abbrev pub colon_kind : ℕ
colon_kind = 16

-- `;`
abbrev pub semicolon_kind : ℕ
semicolon_kind = 17

-- `!=`
abbrev pub bang_equal_kind : ℕ
bang_equal_kind = 18

-- `=`
abbrev pub equal_kind : ℕ
equal_kind = 19

-- `==`
abbrev pub equal_equal_kind : ℕ
equal_equal_kind = 20

-- `>`
abbrev pub greater_kind : ℕ
greater_kind = 21

-- `>=`
abbrev pub greater_equal_kind : ℕ
greater_equal_kind = 22

-- `<`
abbrev pub less_kind : ℕ
less_kind = 23

-- `<=`
abbrev pub less_equal_kind : ℕ
less_equal_kind = 24

-- a name that is no keyword
abbrev pub identifier_kind : ℕ
identifier_kind = 25

-- a string
abbrev pub string_kind : ℕ
string_kind = 26

-- a number
abbrev pub number_kind : ℕ
number_kind = 27

-- `and`
abbrev pub and_kind : ℕ
and_kind = 28

-- `class`
abbrev pub class_kind : ℕ
class_kind = 29

-- `else`
abbrev pub else_kind : ℕ
else_kind = 30

-- `false`
abbrev pub false_kind : ℕ
false_kind = 31

-- `fn`
abbrev pub fn_kind : ℕ
fn_kind = 32

-- `for`
abbrev pub for_kind : ℕ
for_kind = 33

-- `if`
abbrev pub if_kind : ℕ
if_kind = 34

-- `elif`
abbrev pub elif_kind : ℕ
elif_kind = 35

-- `nil`
abbrev pub nil_kind : ℕ
nil_kind = 36

-- `or`
abbrev pub or_kind : ℕ
or_kind = 37

-- `return`
abbrev pub return_kind : ℕ
return_kind = 38

-- `break`
abbrev pub break_kind : ℕ
break_kind = 39

-- `continue`
abbrev pub continue_kind : ℕ
continue_kind = 40

-- `super`
abbrev pub super_kind : ℕ
super_kind = 41

-- `this`
abbrev pub this_kind : ℕ
this_kind = 42

-- `true`
abbrev pub true_kind : ℕ
true_kind = 43

-- `let`
abbrev pub let_kind : ℕ
let_kind = 44

-- `while`
abbrev pub while_kind : ℕ
while_kind = 45

-- `not`
abbrev pub not_kind : ℕ
not_kind = 46

-- `in`
abbrev pub in_kind : ℕ
in_kind = 47

-- `try`
abbrev pub try_kind : ℕ
try_kind = 48

-- `catch`
abbrev pub catch_kind : ℕ
catch_kind = 49
