-- Made by `cargo run --release -p vectors -- all`
-- The scripts that docs/RULES.md, 'Parsing', marks *, with what the original answers.
use Prim.Native.Nat.{ℕ}
use mathlib.Core.Path.{◌≡◌, refl}
use mathlib.Core.List.{List, [], ◌∷◌}
use lib.Ieee.{div, of_int, to_bits}
use Rattle.token.specs.Keyword.{keyword_of}
use Rattle.text.specs.Text.{is_text}
use Rattle.records.specs.Table.{put, field, linked, zeroed}
use Rattle.items.specs.Items.{sign_of}
use Rattle.lexer.specs.Lex.{lexed, lexed_of}
use Rattle.parser.specs.Tokens.{kind_at, start_at, line_at, after, lines_from, skip_lines, seen_if, check_at, matches_at}
use Rattle.parser.specs.Tables.{counted_by, push_node, push_error, consume_at, require_at}
use Rattle.parser.specs.Programs.{run, raised}
use Rattle.parser.specs.Grammar.{first_of, block_from, block, expression_stmt, parameters_from, parameters, function_body, fn_stmt, fn_expr, methods_from, class, let_stmt, names_from, enhanced_for, classic_for, for_loop, try_catch, elifs_from, else_from, if_stmt, ret, brk, cont, while_stmt, statement, declaration, arguments_from, arguments, list, dict_elements_from, dictionary, closed, access, super_expr, primary, finish_call, call_from, call, unary, look_many, binary_from, binary, assignment, body, lower}
use Rattle.parser.specs.Whole.{top_level, statements, parsed}
use Rattle.lines.specs.Lines.{line_word, line_words, line_index}
use Rattle.entry.specs.Reading.{reading}
use Rattle.scripts.proofs.Cases.{Case, case, map, answer, expected}

abbrev cases_1 : List Case
cases_1 =
    case 1 1 "" 1 0 0 1
    (0 ∷ 1 ∷ 0 ∷ 0 ∷ 0 ∷ 0 ∷
    1 ∷ []) ∷
    case 1 1 "\n" 2 1 2 2
    (0 ∷ 2 ∷ 1 ∷ 2 ∷ 2 ∷ 45 ∷
    4 ∷ 2 ∷ 1 ∷
    17 ∷ 0 ∷ 0 ∷ 0 ∷ 0 ∷ 0 ∷ 0 ∷ 0 ∷ 0 ∷
    30 ∷ 0 ∷ 0 ∷ 0 ∷ 1 ∷ 0 ∷ 0 ∷ 0 ∷ 0 ∷
    2 ∷ 2 ∷ []) ∷
    case 1 1 "\n\n" 3 0 2 3
    (0 ∷ 3 ∷ 0 ∷ 2 ∷ 2 ∷ 45 ∷
    17 ∷ 0 ∷ 0 ∷ 0 ∷ 0 ∷ 0 ∷ 0 ∷ 0 ∷ 0 ∷
    30 ∷ 0 ∷ 0 ∷ 0 ∷ 1 ∷ 0 ∷ 0 ∷ 0 ∷ 0 ∷
    3 ∷ 3 ∷ 3 ∷ []) ∷
    case 1 1 "a\n\n" 4 1 4 4
    (0 ∷ 4 ∷ 1 ∷ 4 ∷ 2 ∷ 83 ∷
    4 ∷ 3 ∷ 3 ∷
    2 ∷ 1 ∷ 0 ∷ 0 ∷ 0 ∷ 0 ∷ 0 ∷ 0 ∷ 0 ∷
    30 ∷ 1 ∷ 0 ∷ 0 ∷ 1 ∷ 0 ∷ 0 ∷ 0 ∷ 4 ∷
    17 ∷ 0 ∷ 0 ∷ 0 ∷ 0 ∷ 0 ∷ 0 ∷ 0 ∷ 0 ∷
    30 ∷ 0 ∷ 0 ∷ 0 ∷ 3 ∷ 0 ∷ 0 ∷ 0 ∷ 0 ∷
    1 ∷ 4 ∷ 4 ∷ 4 ∷ []) ∷
    case 1 1 "a1" 4 1 4 4
    (0 ∷ 4 ∷ 1 ∷ 4 ∷ 2 ∷ 71 ∷
    4 ∷ 1 ∷ 1 ∷
    2 ∷ 1 ∷ 0 ∷ 0 ∷ 0 ∷ 0 ∷ 0 ∷ 0 ∷ 0 ∷
    30 ∷ 1 ∷ 0 ∷ 0 ∷ 1 ∷ 0 ∷ 0 ∷ 0 ∷ 4 ∷
    13 ∷ 2 ∷ 0 ∷ 0 ∷ 0 ∷ 0 ∷ 0 ∷ 0 ∷ 0 ∷
    30 ∷ 2 ∷ 0 ∷ 0 ∷ 3 ∷ 0 ∷ 0 ∷ 0 ∷ 0 ∷
    1 ∷ 2 ∷ 4 ∷ 4 ∷ []) ∷
    case 1 1 "2^3^2" 7 0 6 7
    (0 ∷ 7 ∷ 0 ∷ 6 ∷ 6 ∷ 47 ∷
    13 ∷ 1 ∷ 0 ∷ 0 ∷ 0 ∷ 0 ∷ 0 ∷ 0 ∷ 0 ∷
    13 ∷ 3 ∷ 0 ∷ 0 ∷ 0 ∷ 0 ∷ 0 ∷ 0 ∷ 0 ∷
    7 ∷ 2 ∷ 0 ∷ 0 ∷ 1 ∷ 2 ∷ 0 ∷ 0 ∷ 0 ∷
    13 ∷ 5 ∷ 0 ∷ 0 ∷ 0 ∷ 0 ∷ 0 ∷ 0 ∷ 0 ∷
    7 ∷ 4 ∷ 0 ∷ 0 ∷ 3 ∷ 4 ∷ 0 ∷ 0 ∷ 0 ∷
    30 ∷ 5 ∷ 0 ∷ 0 ∷ 5 ∷ 0 ∷ 0 ∷ 0 ∷ 0 ∷
    1 ∷ 2 ∷ 3 ∷ 4 ∷ 5 ∷ 7 ∷ 7 ∷ []) ∷
    case 1 1 "-2^2" 6 0 5 6
    (0 ∷ 6 ∷ 0 ∷ 5 ∷ 5 ∷ 42 ∷
    13 ∷ 2 ∷ 0 ∷ 0 ∷ 0 ∷ 0 ∷ 0 ∷ 0 ∷ 0 ∷
    16 ∷ 1 ∷ 0 ∷ 0 ∷ 1 ∷ 0 ∷ 0 ∷ 0 ∷ 0 ∷
    13 ∷ 4 ∷ 0 ∷ 0 ∷ 0 ∷ 0 ∷ 0 ∷ 0 ∷ 0 ∷
    7 ∷ 3 ∷ 0 ∷ 0 ∷ 2 ∷ 3 ∷ 0 ∷ 0 ∷ 0 ∷
    30 ∷ 4 ∷ 0 ∷ 0 ∷ 4 ∷ 0 ∷ 0 ∷ 0 ∷ 0 ∷
    1 ∷ 2 ∷ 3 ∷ 4 ∷ 6 ∷ 6 ∷ []) ∷
    case 1 1 "a\n(b)" 7 0 4 7
    (0 ∷ 7 ∷ 0 ∷ 4 ∷ 4 ∷ 68 ∷
    2 ∷ 1 ∷ 0 ∷ 0 ∷ 0 ∷ 0 ∷ 0 ∷ 0 ∷ 0 ∷
    2 ∷ 4 ∷ 0 ∷ 0 ∷ 0 ∷ 0 ∷ 0 ∷ 0 ∷ 0 ∷
    8 ∷ 5 ∷ 0 ∷ 0 ∷ 1 ∷ 2 ∷ 0 ∷ 0 ∷ 0 ∷
    30 ∷ 5 ∷ 0 ∷ 0 ∷ 3 ∷ 0 ∷ 0 ∷ 0 ∷ 0 ∷
    1 ∷ 3 ∷ 3 ∷ 4 ∷ 5 ∷ 7 ∷ 7 ∷ []) ∷
    case 1 1 "1.5" 0 0 0 0
    (2 ∷ 0 ∷ 0 ∷ 0 ∷ 0 ∷ 0 ∷ []) ∷
    case 1 1 "1.5\n" 3 0 2 3
    (0 ∷ 3 ∷ 0 ∷ 2 ∷ 2 ∷ 33 ∷
    13 ∷ 1 ∷ 0 ∷ 0 ∷ 0 ∷ 0 ∷ 0 ∷ 0 ∷ 0 ∷
    30 ∷ 1 ∷ 0 ∷ 0 ∷ 1 ∷ 0 ∷ 0 ∷ 0 ∷ 0 ∷
    1 ∷ 3 ∷ 3 ∷ []) ∷
    case 1 1 "{return}" 5 1 10 5
    (1 ∷ 5 ∷ 1 ∷ 0 ∷ 0 ∷ 35 ∷
    28 ∷ 1 ∷ 7 ∷
    1 ∷ 2 ∷ 3 ∷ 5 ∷ 5 ∷ []) ∷
    case 1 1 "1=2" 5 1 10 5
    (1 ∷ 5 ∷ 1 ∷ 0 ∷ 0 ∷ 53 ∷
    23 ∷ 1 ∷ 1 ∷
    1 ∷ 2 ∷ 3 ∷ 5 ∷ 5 ∷ []) ∷
    case 1 1 "break" 3 1 1 3
    (0 ∷ 3 ∷ 1 ∷ 1 ∷ 1 ∷ 9 ∷
    19 ∷ 1 ∷ 0 ∷
    28 ∷ 1 ∷ 0 ∷ 0 ∷ 0 ∷ 0 ∷ 0 ∷ 0 ∷ 0 ∷
    1 ∷ 3 ∷ 3 ∷ []) ∷
    case 1 1 "\"\\q\"" 1 2 0 1
    (0 ∷ 1 ∷ 2 ∷ 0 ∷ 0 ∷ 0 ∷
    3 ∷ 1 ∷ 0 ∷
    3 ∷ 1 ∷ 3 ∷
    1 ∷ []) ∷
    []

agree_1 : map answer cases_1 ≡ map expected cases_1
unfolding reading lexed_of lexed is_text keyword_of sign_of div of_int to_bits put field linked zeroed kind_at start_at line_at after lines_from skip_lines seen_if check_at matches_at counted_by push_node push_error consume_at require_at run raised first_of block_from block expression_stmt parameters_from parameters function_body fn_stmt fn_expr methods_from class let_stmt names_from enhanced_for classic_for for_loop try_catch elifs_from else_from if_stmt ret brk cont while_stmt statement declaration arguments_from arguments list dict_elements_from dictionary closed access super_expr primary finish_call call_from call unary look_many binary_from binary assignment body lower top_level statements parsed line_word line_words line_index
agree_1 = refl
