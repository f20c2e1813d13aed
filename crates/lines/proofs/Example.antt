-- The index of the script `a`, an empty line, `b`, written out. Assumes nothing.
use mathlib.Core.Path.{◌≡◌, refl}
use mathlib.Core.List.{List, [], ◌∷◌, ◌++◌}
use Prim.Native.Nat.{ℕ}
use Rattle.token.specs.Kind.{eof_kind, newline_kind, identifier_kind}
use Rattle.records.specs.Table.{field}
use Rattle.parser.specs.Tokens.{kind_at, lines_from}
use Rattle.lines.specs.Lines.{line_word, line_words, line_index}

-- tokens of these kinds
abbrev table : List ℕ → List ℕ
table [] = []
table (k ∷ ks) = (k ∷ 0 ∷ 0 ∷ 0 ∷ 0 ∷ 0 ∷ 0 ∷ 0 ∷ []) ++ table ks

-- the word after the six is as it was
pub blank_line : line_index (table (identifier_kind ∷ newline_kind ∷ newline_kind ∷ identifier_kind ∷ newline_kind ∷ eof_kind ∷ [])) 6 (7 ∷ 7 ∷ 7 ∷ 7 ∷ 7 ∷ 7 ∷ 7 ∷ []) ≡ 1 ∷ 4 ∷ 4 ∷ 4 ∷ 6 ∷ 6 ∷ 7 ∷ []
unfolding line_word line_words line_index lines_from kind_at field
blank_line = refl
