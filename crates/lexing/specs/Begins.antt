-- Where a token begins: what the theorems say of the eighth word of every token that a lexing keeps.
use Rattle.std.specs.Prelude.{ℕ, ◌+◌, ◌*◌, ◌≤◌, ◌<◌, ◌≡◌, cond, List, [], ◌∷◌, eqb, get_or, take, drop}
use Rattle.token.specs.Kind as kinds
use Rattle.records.specs.declared.TokenData.{TokenData}
use Rattle.records.specs.Table.{token_width}
use Rattle.records.specs.Words.{token_words}
use Rattle.records.specs.Rows.{Rows}
use Rattle.lexer.specs.Lex.{Result}

-- how many of the bytes are newlines
abbrev pub newlines : List ℕ → ℕ
newlines [] = 0
newlines (b ∷ s) = cond (eqb b 10) 1 0 + newlines s

-- the bytes of a token
abbrev pub bytes_of : List ℕ → TokenData → List ℕ
bytes_of s d = take d.length (drop d.start s)

-- a token of the source s: the line where it begins and the newlines among its bytes make its line; so a Newline of the source begins one line before its own, and the added Newline and EOF, which have no byte, on their own
pub record Begins (s : List ℕ) (d : TokenData) : Type 0 where
  pub counted : d.begins + newlines (bytes_of s d) ≡ d.line
  pub newline : d.kind ≡ kinds.newline_kind → 1 ≤ d.length → d.begins + 1 ≡ d.line
  pub empty : d.length ≡ 0 → d.begins ≡ d.line

-- the line where token i begins, in words that are tokens one after the other
abbrev pub begins_at : List ℕ → ℕ → ℕ
begins_at ws i = get_or ws (token_width * i + 7) 0

-- what every lexing keeps of a source s: each token as above, and none begins on an earlier line than one before it
pub record Begun (s : List ℕ) (r : Result) : Type 0 where
  pub tokens : Rows token_words (Begins s) r.tokens r.token_count
  pub never_falls : (i j : ℕ) → i ≤ j → j < r.token_count → begins_at r.tokens i ≤ begins_at r.tokens j
