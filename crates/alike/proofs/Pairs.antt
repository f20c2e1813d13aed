-- Made by `cargo run --release -p vectors -- all`
-- The pairs of `blackout`: whether they are read alike, as the original says.
use Prim.Native.Nat.{ℕ}
use mathlib.Core.Path.{◌≡◌, refl}
use mathlib.Core.List.{List, [], ◌∷◌}
use lib.Ieee.{div, of_int, to_bits}
use Rattle.token.specs.Keyword.{keyword_of}
use Rattle.text.specs.Text.{is_text}
use Rattle.records.specs.Table.{put, field, linked, zeroed}
use Rattle.items.specs.Items.{sign_of}
use Rattle.lexer.specs.Lex.{lexed, lexed_of}
use Rattle.parser.specs.Tokens.{kind_at, start_at, line_at, after, lines_from, skip_lines, seen_if, check_at, matches_at}
use Rattle.parser.specs.Tables.{counted_by, push_node, push_error, consume_at, require_at}
use Rattle.parser.specs.Programs.{run, raised}
use Rattle.parser.specs.Grammar.{first_of, block_from, block, expression_stmt, parameters_from, parameters, function_body, fn_stmt, fn_expr, methods_from, class, let_stmt, names_from, enhanced_for, classic_for, for_loop, try_catch, elifs_from, else_from, if_stmt, ret, brk, cont, while_stmt, statement, declaration, arguments_from, arguments, list, dict_elements_from, dictionary, closed, access, super_expr, primary, finish_call, call_from, call, unary, look_many, binary_from, binary, assignment, body, lower}
use Rattle.parser.specs.Whole.{top_level, statements, parsed}
use Rattle.lines.specs.Lines.{line_word, line_words, line_index}
use Rattle.entry.specs.Reading.{reading}
use Rattle.blackout.proofs.Pairs.{pairs}
use Rattle.alike.proofs.Trials.{answers, expected}

agree : answers pairs ≡ expected pairs
unfolding reading lexed_of lexed is_text keyword_of sign_of div of_int to_bits put field linked zeroed kind_at start_at line_at after lines_from skip_lines seen_if check_at matches_at counted_by push_node push_error consume_at require_at run raised first_of block_from block expression_stmt parameters_from parameters function_body fn_stmt fn_expr methods_from class let_stmt names_from enhanced_for classic_for for_loop try_catch elifs_from else_from if_stmt ret brk cont while_stmt statement declaration arguments_from arguments list dict_elements_from dictionary closed access super_expr primary finish_call call_from call unary look_many binary_from binary assignment body lower top_level statements parsed line_word line_words line_index
agree = refl
