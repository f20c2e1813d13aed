-- Made by `cargo run --release -p vectors -- all`
-- Both ways of a reading: where lexing records an error, the old one with what the original answers, the new one with what its lexer does.
use Prim.Native.Nat.{ℕ}
use mathlib.Core.Path.{◌≡◌, refl}
use mathlib.Core.List.{List, [], ◌∷◌}
use lib.Ieee.{div, of_int, to_bits}
use Rattle.token.specs.Keyword.{keyword_of}
use Rattle.text.specs.Text.{is_text}
use Rattle.records.specs.Table.{put, field, linked, zeroed}
use Rattle.items.specs.Items.{sign_of}
use Rattle.lexer.specs.Lex.{lexed, lexed_of}
use Rattle.parser.specs.Tokens.{kind_at, start_at, line_at, after, lines_from, skip_lines, seen_if, check_at, matches_at}
use Rattle.parser.specs.Tables.{counted_by, push_node, push_error, consume_at, require_at}
use Rattle.parser.specs.Programs.{run, raised}
use Rattle.parser.specs.Grammar.{first_of, block_from, block, expression_stmt, parameters_from, parameters, function_body, fn_stmt, fn_expr, methods_from, class, let_stmt, names_from, enhanced_for, classic_for, for_loop, try_catch, elifs_from, else_from, if_stmt, ret, brk, cont, while_stmt, statement, declaration, arguments_from, arguments, list, dict_elements_from, dictionary, closed, access, super_expr, primary, finish_call, call_from, call, unary, look_many, binary_from, binary, assignment, body, lower}
use Rattle.parser.specs.Whole.{top_level, statements, parsed}
use Rattle.lines.specs.Lines.{line_word, line_words, line_index}
use Rattle.entry.specs.Reading.{reading}
use Rattle.scripts.proofs.Cases.{Case, case, map, answer, expected}

abbrev cases_1 : List Case
cases_1 =
    case 1 0 "a \"b\n" 3 1 2 3
    (11 ∷ 3 ∷ 1 ∷ 0 ∷ 0 ∷ 0 ∷
    3 ∷ 2 ∷ 2 ∷
    7 ∷ 7 ∷ 7 ∷ []) ∷
    case 1 1 "a \"b\n" 3 1 2 3
    (0 ∷ 3 ∷ 1 ∷ 2 ∷ 2 ∷ 38 ∷
    3 ∷ 2 ∷ 2 ∷
    2 ∷ 1 ∷ 0 ∷ 0 ∷ 0 ∷ 0 ∷ 0 ∷ 0 ∷ 0 ∷
    30 ∷ 1 ∷ 0 ∷ 0 ∷ 1 ∷ 0 ∷ 0 ∷ 0 ∷ 0 ∷
    1 ∷ 3 ∷ 3 ∷ []) ∷
    case 1 0 "\"\\q\"" 1 2 0 1
    (11 ∷ 1 ∷ 2 ∷ 0 ∷ 0 ∷ 0 ∷
    3 ∷ 1 ∷ 0 ∷
    3 ∷ 1 ∷ 3 ∷
    7 ∷ []) ∷
    case 1 1 "\"\\q\"" 1 2 0 1
    (0 ∷ 1 ∷ 2 ∷ 0 ∷ 0 ∷ 0 ∷
    3 ∷ 1 ∷ 0 ∷
    3 ∷ 1 ∷ 3 ∷
    1 ∷ []) ∷
    case 1 0 "a $ b )\n" 5 4 10 5
    (11 ∷ 5 ∷ 1 ∷ 0 ∷ 0 ∷ 0 ∷
    2 ∷ 1 ∷ 2 ∷
    7 ∷ 7 ∷ 7 ∷ 7 ∷ 7 ∷ []) ∷
    case 1 1 "a $ b )\n" 5 4 10 5
    (1 ∷ 5 ∷ 4 ∷ 4 ∷ 2 ∷ 102 ∷
    2 ∷ 1 ∷ 2 ∷
    4 ∷ 1 ∷ 4 ∷
    4 ∷ 1 ∷ 6 ∷
    28 ∷ 1 ∷ 6 ∷
    2 ∷ 1 ∷ 0 ∷ 0 ∷ 0 ∷ 0 ∷ 0 ∷ 0 ∷ 0 ∷
    30 ∷ 1 ∷ 0 ∷ 0 ∷ 1 ∷ 0 ∷ 0 ∷ 0 ∷ 4 ∷
    2 ∷ 2 ∷ 0 ∷ 0 ∷ 0 ∷ 0 ∷ 0 ∷ 0 ∷ 0 ∷
    30 ∷ 2 ∷ 0 ∷ 0 ∷ 3 ∷ 0 ∷ 0 ∷ 0 ∷ 0 ∷
    1 ∷ 2 ∷ 3 ∷ 5 ∷ 5 ∷ []) ∷
    case 1 0 "a = 1\n" 5 0 4 5
    (0 ∷ 5 ∷ 0 ∷ 4 ∷ 4 ∷ 59 ∷
    2 ∷ 1 ∷ 0 ∷ 0 ∷ 0 ∷ 0 ∷ 0 ∷ 0 ∷ 0 ∷
    13 ∷ 3 ∷ 0 ∷ 0 ∷ 0 ∷ 0 ∷ 0 ∷ 0 ∷ 0 ∷
    5 ∷ 1 ∷ 0 ∷ 0 ∷ 2 ∷ 0 ∷ 0 ∷ 0 ∷ 0 ∷
    30 ∷ 3 ∷ 0 ∷ 0 ∷ 3 ∷ 0 ∷ 0 ∷ 0 ∷ 0 ∷
    1 ∷ 2 ∷ 3 ∷ 5 ∷ 5 ∷ []) ∷
    case 1 1 "a = 1\n" 5 0 4 5
    (0 ∷ 5 ∷ 0 ∷ 4 ∷ 4 ∷ 59 ∷
    2 ∷ 1 ∷ 0 ∷ 0 ∷ 0 ∷ 0 ∷ 0 ∷ 0 ∷ 0 ∷
    13 ∷ 3 ∷ 0 ∷ 0 ∷ 0 ∷ 0 ∷ 0 ∷ 0 ∷ 0 ∷
    5 ∷ 1 ∷ 0 ∷ 0 ∷ 2 ∷ 0 ∷ 0 ∷ 0 ∷ 0 ∷
    30 ∷ 3 ∷ 0 ∷ 0 ∷ 3 ∷ 0 ∷ 0 ∷ 0 ∷ 0 ∷
    1 ∷ 2 ∷ 3 ∷ 5 ∷ 5 ∷ []) ∷
    case 1 0 "!" 1 1 0 1
    (11 ∷ 1 ∷ 1 ∷ 0 ∷ 0 ∷ 0 ∷
    1 ∷ 1 ∷ 0 ∷
    7 ∷ []) ∷
    case 1 1 "!" 1 1 0 1
    (0 ∷ 1 ∷ 1 ∷ 0 ∷ 0 ∷ 0 ∷
    1 ∷ 1 ∷ 0 ∷
    1 ∷ []) ∷
    case 1 0 "" 1 0 0 1
    (0 ∷ 1 ∷ 0 ∷ 0 ∷ 0 ∷ 0 ∷
    1 ∷ []) ∷
    case 1 1 "" 1 0 0 1
    (0 ∷ 1 ∷ 0 ∷ 0 ∷ 0 ∷ 0 ∷
    1 ∷ []) ∷
    case 1 0 "@ 1.5" 0 1 0 0
    (2 ∷ 0 ∷ 1 ∷ 0 ∷ 0 ∷ 0 ∷
    2 ∷ 1 ∷ 0 ∷ []) ∷
    case 1 1 "@ 1.5" 0 1 0 0
    (2 ∷ 0 ∷ 1 ∷ 0 ∷ 0 ∷ 0 ∷
    2 ∷ 1 ∷ 0 ∷ []) ∷
    case 1 0 "a b\n!" 4 2 4 4
    (11 ∷ 4 ∷ 1 ∷ 0 ∷ 0 ∷ 0 ∷
    1 ∷ 2 ∷ 4 ∷
    7 ∷ 7 ∷ 7 ∷ 7 ∷ []) ∷
    case 1 1 "a b\n!" 4 2 4 4
    (0 ∷ 4 ∷ 2 ∷ 4 ∷ 2 ∷ 76 ∷
    1 ∷ 2 ∷ 4 ∷
    4 ∷ 1 ∷ 2 ∷
    2 ∷ 1 ∷ 0 ∷ 0 ∷ 0 ∷ 0 ∷ 0 ∷ 0 ∷ 0 ∷
    30 ∷ 1 ∷ 0 ∷ 0 ∷ 1 ∷ 0 ∷ 0 ∷ 0 ∷ 4 ∷
    2 ∷ 2 ∷ 0 ∷ 0 ∷ 0 ∷ 0 ∷ 0 ∷ 0 ∷ 0 ∷
    30 ∷ 2 ∷ 0 ∷ 0 ∷ 3 ∷ 0 ∷ 0 ∷ 0 ∷ 0 ∷
    1 ∷ 2 ∷ 4 ∷ 4 ∷ []) ∷
    case 1 0 "let stop = \"Salicional\nlet pitch = 8\n" 5 2 2 5
    (11 ∷ 5 ∷ 1 ∷ 0 ∷ 0 ∷ 0 ∷
    3 ∷ 3 ∷ 11 ∷
    7 ∷ 7 ∷ 7 ∷ 7 ∷ 7 ∷ []) ∷
    case 1 1 "let stop = \"Salicional\nlet pitch = 8\n" 5 2 2 5
    (0 ∷ 5 ∷ 2 ∷ 2 ∷ 2 ∷ 39 ∷
    3 ∷ 3 ∷ 11 ∷
    4 ∷ 3 ∷ 37 ∷
    17 ∷ 0 ∷ 0 ∷ 0 ∷ 0 ∷ 0 ∷ 0 ∷ 0 ∷ 0 ∷
    19 ∷ 2 ∷ 0 ∷ 0 ∷ 1 ∷ 0 ∷ 0 ∷ 0 ∷ 0 ∷
    1 ∷ 2 ∷ 3 ∷ 5 ∷ 5 ∷ []) ∷
    case 1 0 "$ a b" 1 9 9 1
    (5 ∷ 1 ∷ 1 ∷ 0 ∷ 0 ∷ 0 ∷
    2 ∷ 1 ∷ 0 ∷
    7 ∷ []) ∷
    case 1 1 "$ a b" 1 9 9 1
    (5 ∷ 1 ∷ 1 ∷ 0 ∷ 0 ∷ 0 ∷
    2 ∷ 1 ∷ 0 ∷
    7 ∷ []) ∷
    case 1 0 "a $ $" 9 1 9 9
    (6 ∷ 1 ∷ 1 ∷ 0 ∷ 0 ∷ 0 ∷
    2 ∷ 1 ∷ 2 ∷
    7 ∷ 7 ∷ 7 ∷ 7 ∷ 7 ∷ 7 ∷ 7 ∷ 7 ∷ 7 ∷ []) ∷
    case 1 1 "a $ $" 9 1 9 9
    (6 ∷ 1 ∷ 1 ∷ 0 ∷ 0 ∷ 0 ∷
    2 ∷ 1 ∷ 2 ∷
    7 ∷ 7 ∷ 7 ∷ 7 ∷ 7 ∷ 7 ∷ 7 ∷ 7 ∷ 7 ∷ []) ∷
    case 1 0 "a $ b" 4 1 9 4
    (11 ∷ 4 ∷ 1 ∷ 0 ∷ 0 ∷ 0 ∷
    2 ∷ 1 ∷ 2 ∷
    7 ∷ 7 ∷ 7 ∷ 7 ∷ []) ∷
    case 1 1 "a $ b" 4 1 9 4
    (6 ∷ 4 ∷ 1 ∷ 0 ∷ 0 ∷ 38 ∷
    2 ∷ 1 ∷ 2 ∷
    1 ∷ 2 ∷ 4 ∷ 4 ∷ []) ∷
    case 1 0 "a $ b" 4 2 0 4
    (11 ∷ 4 ∷ 1 ∷ 0 ∷ 0 ∷ 0 ∷
    2 ∷ 1 ∷ 2 ∷
    7 ∷ 7 ∷ 7 ∷ 7 ∷ []) ∷
    case 1 1 "a $ b" 4 2 0 4
    (7 ∷ 4 ∷ 1 ∷ 0 ∷ 0 ∷ 19 ∷
    2 ∷ 1 ∷ 2 ∷
    1 ∷ 2 ∷ 4 ∷ 4 ∷ []) ∷
    case 1 0 "a\n$ b" 5 1 2 5
    (11 ∷ 5 ∷ 1 ∷ 0 ∷ 0 ∷ 0 ∷
    2 ∷ 2 ∷ 2 ∷
    7 ∷ 7 ∷ 7 ∷ 7 ∷ 7 ∷ []) ∷
    case 1 1 "a\n$ b" 5 1 2 5
    (7 ∷ 5 ∷ 1 ∷ 2 ∷ 2 ∷ 57 ∷
    2 ∷ 2 ∷ 2 ∷
    2 ∷ 1 ∷ 0 ∷ 0 ∷ 0 ∷ 0 ∷ 0 ∷ 0 ∷ 0 ∷
    30 ∷ 1 ∷ 0 ∷ 0 ∷ 1 ∷ 0 ∷ 0 ∷ 0 ∷ 0 ∷
    1 ∷ 3 ∷ 3 ∷ 5 ∷ 5 ∷ []) ∷
    []

agree_1 : map answer cases_1 ≡ map expected cases_1
unfolding reading lexed_of lexed is_text keyword_of sign_of div of_int to_bits put field linked zeroed kind_at start_at line_at after lines_from skip_lines seen_if check_at matches_at counted_by push_node push_error consume_at require_at run raised first_of block_from block expression_stmt parameters_from parameters function_body fn_stmt fn_expr methods_from class let_stmt names_from enhanced_for classic_for for_loop try_catch elifs_from else_from if_stmt ret brk cont while_stmt statement declaration arguments_from arguments list dict_elements_from dictionary closed access super_expr primary finish_call call_from call unary look_many binary_from binary assignment body lower top_level statements parsed line_word line_words line_index
agree_1 = refl
