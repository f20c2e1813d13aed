-- The messages by name (docs/RULES.md, 'Messages'), each beside the original's text: first the lexer's in the order of lexer.rs, then the parser's where each first stands in parser.rs; the tenth counts where `fn_stmt` has it.
use Rattle.std.specs.Prelude.{ℕ}

-- '!' cannot be used here
abbrev pub lone_bang : ℕ
lone_bang = 1

-- Illegal character
abbrev pub illegal_character : ℕ
illegal_character = 2

-- Closing " was expected
abbrev pub unclosed_string : ℕ
unclosed_string = 3

-- Expected new line
abbrev pub expected_new_line : ℕ
expected_new_line = 4

-- Expected variable name
abbrev pub expected_variable_name : ℕ
expected_variable_name = 5

-- Expected '{' at this position
abbrev pub expected_left_curly : ℕ
expected_left_curly = 6

-- Expected '}' at this position
abbrev pub expected_right_curly : ℕ
expected_right_curly = 7

-- Expected function name
abbrev pub expected_function_name : ℕ
expected_function_name = 8

-- Expect '(' after function name
abbrev pub expect_paren_after_name : ℕ
expect_paren_after_name = 9

-- Max number of parameters is 255
abbrev pub max_parameters : ℕ
max_parameters = 10

-- Expected function parameter
abbrev pub expected_parameter : ℕ
expected_parameter = 11

-- Expect ')' after expression
abbrev pub expect_paren_after_expression : ℕ
expect_paren_after_expression = 12

-- Expected '(' after function name
abbrev pub expected_paren_after_name : ℕ
expected_paren_after_name = 13

-- Expect function parameter
abbrev pub expect_parameter : ℕ
expect_parameter = 14

-- Expected semicolon
abbrev pub expected_semicolon : ℕ
expected_semicolon = 15

-- Empty expression or let was expected at this position
abbrev pub empty_or_let : ℕ
empty_or_let = 16

-- Expected 'in'
abbrev pub expected_in : ℕ
expected_in = 17

-- A catch block was expected at this position
abbrev pub expected_catch : ℕ
expected_catch = 18

-- Statement only allowed for use inside loop
abbrev pub only_inside_loop : ℕ
only_inside_loop = 19

-- Expected ']' at end of list
abbrev pub expected_end_of_list : ℕ
expected_end_of_list = 20

-- Expected '}' at the end of dict
abbrev pub expected_end_of_dict : ℕ
expected_end_of_dict = 21

-- Expected ':' after key
abbrev pub expected_colon_after_key : ℕ
expected_colon_after_key = 22

-- Undefined statement
abbrev pub undefined_statement : ℕ
undefined_statement = 23

-- Expected ']' at the end of slice
abbrev pub expected_end_of_slice : ℕ
expected_end_of_slice = 24

-- Expected property name after '.'
abbrev pub expected_property_name : ℕ
expected_property_name = 25

-- Expect ')' after arguments
abbrev pub expect_paren_after_arguments : ℕ
expect_paren_after_arguments = 26

-- Max number of arguments is 255
abbrev pub max_arguments : ℕ
max_arguments = 27

-- Undefined expression
abbrev pub undefined_expression : ℕ
undefined_expression = 28

-- Keyword 'super' is only valid for property accessing
abbrev pub super_only_for_property : ℕ
super_only_for_property = 29
