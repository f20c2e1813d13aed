-- The looks of small scripts, as the original makes them; tried on the definition by computation. A script is given by the kinds of its tokens, with the Newline that lexing adds at the end. Assumes nothing.
use Prim.Native.Nat.{ℕ, suc, ◌+◌, ◌*◌}
use mathlib.Core.Path.{◌≡◌, refl}
use mathlib.Core.List.{List, [], ◌∷◌}
use lib.ListN.{length, replicate}
use Rattle.token.specs.Kind.{eof_kind, newline_kind, left_paren_kind, right_paren_kind, left_brace_kind, right_brace_kind, right_curly_brace_kind, left_curly_brace_kind, dot_kind, minus_kind, plus_kind, star_kind, power_kind, colon_kind, equal_kind, identifier_kind, number_kind, class_kind, else_kind, for_kind, if_kind, return_kind, break_kind, in_kind}
use Rattle.records.specs.Table.{error_width, node_width, put, field, linked, zeroed}
use Rattle.parser.specs.Tokens.{kind_at, start_at, line_at, after, lines_from, walked, skip_lines, seen_if, check_at, matches_at}
use Rattle.parser.specs.Tables.{counted_by, push_node, push_error, consume_at, require_at}
use Rattle.parser.specs.Programs.{run, raised}
use Rattle.parser.specs.Grammar.{first_of, block_from, block, expression_stmt, parameters_from, parameters, function_body, fn_stmt, fn_expr, methods_from, class, let_stmt, names_from, enhanced_for, classic_for, for_loop, try_catch, elifs_from, else_from, if_stmt, ret, brk, cont, while_stmt, statement, declaration, arguments_from, arguments, list, dict_elements_from, dictionary, closed, access, super_expr, primary, finish_call, call_from, call, unary, look_many, binary_from, binary, assignment, body, lower}
use Rattle.parser.specs.Whole.{top_level, statements, parsed}

-- the tokens of these kinds, and EOF
abbrev tokens : List ℕ → List ℕ
tokens [] = eof_kind ∷ 0 ∷ 0 ∷ 1 ∷ 0 ∷ 0 ∷ 0 ∷ 1 ∷ []
tokens (k ∷ ks) = k ∷ 0 ∷ 0 ∷ 1 ∷ 0 ∷ 0 ∷ 0 ∷ 1 ∷ tokens ks

-- kinds, and the looks
data Trial : Type 0 where
  trial : List ℕ → ℕ → Trial

abbrev trials : List Trial
trials =
    trial [] 0 ∷  -- nothing
    trial (newline_kind ∷ []) 45 ∷
    trial (newline_kind ∷ newline_kind ∷ []) 45 ∷
    trial (identifier_kind ∷ newline_kind ∷ []) 38 ∷  -- a
    trial (identifier_kind ∷ equal_kind ∷ number_kind ∷ newline_kind ∷ []) 59 ∷  -- a = 1
    trial (identifier_kind ∷ newline_kind ∷ newline_kind ∷ newline_kind ∷ newline_kind ∷ identifier_kind ∷ newline_kind ∷ []) 76 ∷  -- a, three empty lines, b
    trial (identifier_kind ∷ number_kind ∷ newline_kind ∷ []) 71 ∷  -- a 1
    trial (right_paren_kind ∷ newline_kind ∷ []) 26 ∷  -- a stop
    trial (left_curly_brace_kind ∷ return_kind ∷ right_curly_brace_kind ∷ newline_kind ∷ []) 35 ∷  -- a stop
    trial (number_kind ∷ equal_kind ∷ number_kind ∷ newline_kind ∷ []) 53 ∷  -- a stop
    trial (left_curly_brace_kind ∷ newline_kind ∷ []) 83 ∷  -- a stop
    trial (number_kind ∷ power_kind ∷ number_kind ∷ power_kind ∷ number_kind ∷ newline_kind ∷ []) 47 ∷  -- 2^3^2
    trial (minus_kind ∷ number_kind ∷ power_kind ∷ number_kind ∷ newline_kind ∷ []) 42 ∷  -- -2^2
    trial (identifier_kind ∷ plus_kind ∷ identifier_kind ∷ star_kind ∷ identifier_kind ∷ newline_kind ∷ []) 69 ∷  -- a+b*c
    trial (identifier_kind ∷ dot_kind ∷ identifier_kind ∷ newline_kind ∷ []) 41 ∷  -- a.b
    trial (identifier_kind ∷ left_brace_kind ∷ number_kind ∷ colon_kind ∷ number_kind ∷ colon_kind ∷ number_kind ∷ right_brace_kind ∷ newline_kind ∷ []) 111 ∷  -- a[1:2:3]
    trial (if_kind ∷ identifier_kind ∷ left_curly_brace_kind ∷ right_curly_brace_kind ∷ newline_kind ∷ []) 37 ∷  -- if a {}
    trial (if_kind ∷ identifier_kind ∷ left_curly_brace_kind ∷ right_curly_brace_kind ∷ else_kind ∷ left_curly_brace_kind ∷ right_curly_brace_kind ∷ newline_kind ∷ []) 40 ∷  -- if a {} else {}
    trial (for_kind ∷ identifier_kind ∷ in_kind ∷ identifier_kind ∷ left_curly_brace_kind ∷ right_curly_brace_kind ∷ newline_kind ∷ []) 48 ∷  -- for x in y {}
    trial (class_kind ∷ identifier_kind ∷ left_curly_brace_kind ∷ identifier_kind ∷ left_paren_kind ∷ right_paren_kind ∷ left_curly_brace_kind ∷ right_curly_brace_kind ∷ right_curly_brace_kind ∷ newline_kind ∷ []) 15 ∷  -- class A { f() {} }
    trial (break_kind ∷ newline_kind ∷ []) 9 ∷  -- outside of a loop
    trial (identifier_kind ∷ equal_kind ∷ left_curly_brace_kind ∷ number_kind ∷ colon_kind ∷ number_kind ∷ right_curly_brace_kind ∷ newline_kind ∷ []) 113 ∷  -- x={1:2}
    trial (left_curly_brace_kind ∷ replicate 60 newline_kind) (44 * 62 + 10) ∷  -- 62 tokens: 44 looks for each are too few
    []

-- the looks by rule one, with room for an error and three nodes for each token
abbrev made : List Trial → List ℕ
made [] = []
made (trial ks n ∷ ts) = (parsed 1 (walked (tokens ks)) 0 (replicate (error_width * suc (length ks)) 7) (replicate (3 * node_width * suc (length ks)) 7)).looks ∷ made ts

abbrev expected : List Trial → List ℕ
expected [] = []
expected (trial ks n ∷ ts) = n ∷ expected ts

agree : made trials ≡ expected trials
unfolding put field linked zeroed kind_at start_at line_at after lines_from skip_lines seen_if check_at matches_at counted_by push_node push_error consume_at require_at run raised first_of block_from block expression_stmt parameters_from parameters function_body fn_stmt fn_expr methods_from class let_stmt names_from enhanced_for classic_for for_loop try_catch elifs_from else_from if_stmt ret brk cont while_stmt statement declaration arguments_from arguments list dict_elements_from dictionary closed access super_expr primary finish_call call_from call unary look_many binary_from binary assignment body lower top_level statements parsed
agree = refl
