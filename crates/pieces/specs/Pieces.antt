-- Programs of the code's own functions, where the Rust has no function of that name: parts of the readers.
use Rattle.std.specs.Prelude.{ℕ, zero, suc, ◌+◌, Bool, true, false, ◌||◌, List, [], ◌∷◌, Option, Some, None, eqb}
use Rattle.token.specs.Kind.{left_paren_kind, right_paren_kind, left_brace_kind, right_brace_kind, right_curly_brace_kind, dot_kind, minus_kind, semicolon_kind, less_kind, identifier_kind, number_kind, string_kind, false_kind, true_kind, nil_kind, not_kind}
use Rattle.records.specs.Messages.{expected_variable_name, expected_right_curly, expect_paren_after_expression, expected_semicolon, only_inside_loop, expected_end_of_list, expected_end_of_dict, expected_property_name, expect_paren_after_arguments}
use Rattle.parser.specs.Tokens.{View}
use Rattle.parser.specs.declared.Found.{Found}
use Rattle.parser.specs.declared.Form.TheVariants.{Empty}
use Rattle.parser.specs.Nodes.{row, var_row, list_row, dictionary_row, call_row, grouping_row, get_row, empty_row, class_row, classic_for_row}
use Rattle.parser.specs.Programs.{Reader, Declaration, Prog, give, ◌>>=◌, ◌>>◌, look, node, fail_at, consume, require, leave_loop, inside_loop, down, run}
use Rattle.parser.specs.Grammar.{nothing, expression, named, property, parameters, function_body, lower}

-- a program with so many levels left
abbrev pub run_at : View → ℕ → Prog → Reader
run_at T l P = run T (lower T l) P

-- the superclass, if `<` follows
abbrev pub superclass : Prog
superclass = look less_kind (λ i. do s ← consume identifier_kind expected_variable_name; node (var_row s.node)) nothing

-- the rest of a class, after its methods
abbrev pub end_class : ℕ → ℕ → ℕ → ℕ → Prog
end_class name sup methods statics = do
  consume right_curly_brace_kind expected_right_curly
  node (class_row name methods statics sup)

-- `brk` and `cont`: they differ in the node's kind
abbrev pub jump : ℕ → ℕ → Prog
jump kind keyword = do
  inside_loop nothing (fail_at only_inside_loop keyword)
  node (row kind keyword 0 0 0 0 0 0)

-- a name, which may stand left of `=`
abbrev pub variable : ℕ → Prog
variable token = do
  n ← node (var_row token)
  give (named token n.node)

-- an Empty
abbrev pub empty : Prog
empty = do
  n ← node empty_row
  give (record { node = n.node; form = Empty; access = 0 })

-- the rest of a grouping, after its expression
abbrev pub grouping : ℕ → Prog
grouping e = do
  consume right_paren_kind expect_paren_after_expression
  node (grouping_row e)

-- what a collection comes to after its elements: its closing mark is asked for, then its node is made
abbrev pub collection_end : ℕ → ℕ → ℕ → Found → Prog
collection_end mark message kind elements = do
  brace ← require mark message
  node (row kind brace.node 0 0 elements.node 0 0 0)

-- the rest of a list, after its elements
abbrev pub list_end : Found → Prog
list_end elements = do
  brace ← require right_brace_kind expected_end_of_list
  node (list_row elements.node brace.node)

-- the rest of a dictionary, after its elements
abbrev pub dictionary_end : Found → Prog
dictionary_end elements = do
  brace ← require right_curly_brace_kind expected_end_of_dict
  node (dictionary_row elements.node brace.node)

-- the rest of a call, after its arguments
abbrev pub call_end : ℕ → Found → Prog
call_end callee args = do
  paren ← require right_paren_kind expect_paren_after_arguments
  node (call_row callee paren.node args.node)

-- a property, after its dot
abbrev pub get : ℕ → Prog
get object = do
  name ← require identifier_kind expected_property_name
  n ← node (get_row object name.node)
  give (property name.node object n.node)

-- whether a kind is among those
unfoldable pub among : List ℕ → ℕ → Bool
among [] kind = false
among (k ∷ ks) kind = eqb kind k || among ks kind

-- the place of a kind among those, the first of them n; 0 if it is none of them
unfoldable pub place_in : ℕ → List ℕ → ℕ → ℕ
place_in n [] kind = 0
place_in n (k ∷ ks) kind = elim (eqb kind k) [ true ↦ n | false ↦ place_in (n + 1) ks kind ]

-- a place, and none for 0
unfoldable pub unless_none : ℕ → Option ℕ
unless_none zero = None
unless_none (suc n) = Some (suc n)

-- the kinds of a literal's token, in the order in which `primary` tests for them
abbrev pub literals : List ℕ
literals = number_kind ∷ string_kind ∷ false_kind ∷ true_kind ∷ nil_kind ∷ []

-- the prefix operators, in the order in which `unary` tests for them
abbrev pub prefixes : List ℕ
prefixes = not_kind ∷ minus_kind ∷ []

-- what goes on with an expression, in the order in which `call` tests for it
abbrev pub suffixes : List ℕ
suffixes = left_paren_kind ∷ dot_kind ∷ left_brace_kind ∷ []

module _ (T : View) where
  -- a function from its parameters on
  abbrev pub func : ℕ → ℕ → ℕ → Prog
  func kind name message = do
    params ← parameters T message
    consume right_paren_kind expect_paren_after_expression
    stmts ← function_body T
    node (row kind name 0 0 params.node stmts.node 0 0)

  -- the rest of a classic for, after its initializer
  abbrev pub classic : ℕ → ℕ → Prog
  classic keyword init = do
    cond ← expression
    consume semicolon_kind expected_semicolon
    inc ← expression
    stmt ← down Declaration
    leave_loop
    node (classic_for_row keyword init cond.node inc.node stmt.node)
