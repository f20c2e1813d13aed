-- Outlines of worked scripts, the example of docs/RULES.md, 'Outline', first, by computation: a token's fifth number is the line where it begins. Assumes nothing.
use Prim.Native.Nat.{ℕ}
use Prim.Native.String.{String}
use mathlib.Core.Path.{◌≡◌, refl}
use mathlib.Core.List.{List, [], ◌∷◌}
use lib.Ieee.{div, of_int, to_bits}
use Rattle.token.specs.Keyword.{keyword_of}
use Rattle.text.specs.Text.{is_text}
use Rattle.records.specs.Table.{put, field, linked, zeroed}
use Rattle.items.specs.Items.{sign_of}
use Rattle.lexer.specs.Lex.{lexed, lexed_of}
use Rattle.lines.specs.Lines.{line_word, line_words, line_index}
use Rattle.parser.specs.Tokens.{kind_at, line_at, after, lines_from, skip_lines, seen_if, check_at, matches_at}
use Rattle.parser.specs.Tables.{counted_by, push_node, push_error, consume_at, require_at}
use Rattle.parser.specs.Programs.{run, raised}
use Rattle.parser.specs.Grammar.{first_of, block_from, block, expression_stmt, parameters_from, parameters, function_body, fn_stmt, fn_expr, methods_from, class, let_stmt, names_from, enhanced_for, classic_for, for_loop, try_catch, elifs_from, else_from, if_stmt, ret, brk, cont, while_stmt, statement, declaration, arguments_from, arguments, list, dict_elements_from, dictionary, closed, access, super_expr, primary, finish_call, call_from, call, unary, look_many, binary_from, binary, assignment, body, lower}
use Rattle.parser.specs.Whole.{top_level, statements, parsed}
use Rattle.entry.specs.Reading.{reading}
use Rattle.form.specs.Text.{decimal, fields, lines_of, text_of, outline_of}
use Rattle.text.proofs.Codes.{codes}

-- a script, and what `outline` has to print of it
data Outlined : Type 0 where
  outlined : String → String → Outlined

-- `a = 1` and a newline, that example; a string of three lines; newlines of the source and the added one; the empty script
abbrev scripts : List Outlined
scripts =
    outlined "a = 1\n" "o 0 5 0 4 4\nt 25 0 1 1 1\nt 19 2 1 1 1\nt 27 4 1 1 1\nt 1 5 1 2 1\nt 0 6 0 2 2\nn 2 1 0 0 0 0 0 0 0\nn 13 3 0 0 0 0 0 0 0\nn 5 1 0 0 2 0 0 0 0\nn 30 3 0 0 3 0 0 0 0\n" ∷
    outlined "\"x\ny\nz\"\n" "o 0 3 0 2 2\nt 26 0 7 3 1\nt 1 7 1 4 3\nt 0 8 0 4 4\nn 13 1 0 0 0 0 0 0 0\nn 30 1 0 0 1 0 0 0 0\n" ∷
    outlined "a\n\nb" "o 0 6 0 4 2\nt 25 0 1 1 1\nt 1 1 1 2 1\nt 1 2 1 3 2\nt 25 3 1 3 3\nt 1 4 0 3 3\nt 0 4 0 3 3\nn 2 1 0 0 0 0 0 0 0\nn 30 1 0 0 1 0 0 0 4\nn 2 4 0 0 0 0 0 0 0\nn 30 4 0 0 3 0 0 0 0\n" ∷
    outlined "" "o 0 1 0 0 0\nt 0 0 0 1 1\n" ∷
    []

abbrev prints : List Outlined → List (List ℕ)
prints [] = []
prints (outlined s t ∷ xs) = outline_of (codes s) ∷ prints xs

abbrev expected : List Outlined → List (List ℕ)
expected [] = []
expected (outlined s t ∷ xs) = codes t ∷ expected xs

worked : prints scripts ≡ expected scripts
unfolding reading lexed_of lexed is_text keyword_of sign_of div of_int to_bits put field linked zeroed kind_at line_at after lines_from skip_lines line_word line_words line_index counted_by seen_if check_at matches_at push_node push_error consume_at require_at run raised first_of block_from block expression_stmt parameters_from parameters function_body fn_stmt fn_expr methods_from class let_stmt names_from enhanced_for classic_for for_loop try_catch elifs_from else_from if_stmt ret brk cont while_stmt statement declaration arguments_from arguments list dict_elements_from dictionary closed access super_expr primary finish_call call_from call unary look_many binary_from binary assignment body lower top_level statements parsed outline_of text_of lines_of fields decimal
worked = refl
