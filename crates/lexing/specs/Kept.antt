-- What the theorems say of every lexing: its tokens, its errors, and how it ends.
use Rattle.std.specs.Prelude.{ℕ, ◌+◌, ◌≤◌, ◌<◌, ◌≡◌, List, [], ◌++◌, length}
use Rattle.token.specs.Kind as kinds
use Rattle.records.specs.declared.TokenData.{TokenData}
use Rattle.records.specs.declared.InterpreterError.{InterpreterError}
use Rattle.records.specs.Words.{token_words, error_words}
use Rattle.records.specs.Rows.{Rows}
use Rattle.records.specs.Messages.{lone_bang, unclosed_string}
use Rattle.records.specs.Outcomes.{ended}
use Rattle.lexer.specs.Lex.{Result}
use Rattle.lexing.specs.Begins.{Begins}

-- a token of a source of n bytes that is not EOF: its kind, its bytes within the source, its line, and that it begins on this line or an earlier one
pub record Good (n : ℕ) (d : TokenData) : Type 0 where
  pub kind_from : kinds.newline_kind ≤ d.kind
  pub kind_to : d.kind ≤ kinds.catch_kind
  pub inside : d.start + d.length ≤ n
  pub begins_from : 1 ≤ d.begins
  pub begins_to : d.begins ≤ d.line
  pub line_to : d.line ≤ n + 1

-- an error of lexing: one of the three messages, its pos within the source, its line
pub record Placed (n : ℕ) (d : InterpreterError) : Type 0 where
  pub message_from : lone_bang ≤ d.message
  pub message_to : d.message ≤ unclosed_string
  pub inside : d.pos < n
  pub line_from : 1 ≤ d.line
  pub line_to : d.line ≤ n + 1

-- EOF: an empty token at the source's end, which begins on its line
pub record Eof (n : ℕ) (d : TokenData) : Type 0 where
  pub kind_is : d.kind ≡ kinds.eof_kind
  pub start_is : d.start ≡ n
  pub length_is : d.length ≡ 0
  pub begins_is : d.begins ≡ d.line
  pub line_from : 1 ≤ d.line
  pub line_to : d.line ≤ n + 1

-- n tokens in order, the last of which ends at `end` and has the line `line`: each starts at or after the end of the one before it, and begins on its line or a later one
pub data InOrder : List ℕ → ℕ → ℕ → ℕ → Type 0 where
  first : InOrder [] 0 0 1
  behind : {ws : List ℕ} {n end line : ℕ} → InOrder ws n end line → (d : TokenData) → end ≤ d.start → line ≤ d.begins → d.begins ≤ d.line
      → InOrder (ws ++ token_words d) (n + 1) (d.start + d.length) d.line

-- the tokens of a lexing of n bytes: where it reached the end the last is the only EOF; else there is none
pub data Ending (n : ℕ) (r : Result) : Type 0 where
  whole : (ws : List ℕ) (m : ℕ) (d : TokenData) → r.outcome ≡ ended → Rows token_words (Good n) ws m → m ≤ n + 1 → Eof n d
      → r.tokens ≡ ws ++ token_words d → r.token_count ≡ m + 1 → Ending n r
  short : (r.outcome ≡ ended → ⊥) → Rows token_words (Good n) r.tokens r.token_count → r.token_count ≤ n + 1 → Ending n r

-- what every lexing of a source s keeps, with room for so many tokens and errors
pub record Keeps (s : List ℕ) (token_room error_room : ℕ) (r : Result) : Type 0 where
  pub ending : Ending (length s) r
  pub begins : Rows token_words (Begins s) r.tokens r.token_count
  pub order : (end : ℕ) × (line : ℕ) × InOrder r.tokens r.token_count end line
  pub errors : Rows error_words (Placed (length s)) r.errors r.error_count
  pub token_room_held : r.token_count ≤ token_room
  pub error_room_held : r.error_count ≤ error_room
