-- The second phase once more over the lent tables themselves, step by step as the code goes: what the lexer's private functions promise.
-- Items and Lex are enough to know what the lexer means. It is proved that this file says the same as Lex.
use Rattle.std.specs.Prelude.{ℕ, ◌+◌, ◌≤◌, ◌≡◌, Bool, true, false, not, ◌&&◌, Result, Ok, Err, List, [], ◌∷◌, ltb, eqb}
use Rattle.token.specs.Kind as kinds
use Rattle.literal.specs.declared.Words.{Words}
use Rattle.literal.specs.declared.Literal.TheVariants as literals
use Rattle.literal.specs.Value.{value_of, words_of}
use Rattle.numbers.specs.declared.Numeral.{Numeral}
use Rattle.records.specs.declared.TokenData.{TokenData}
use Rattle.records.specs.declared.InterpreterError.{InterpreterError}
use Rattle.records.specs.Table.{room, put, token_width, error_width}
use Rattle.records.specs.Words.{token_words, error_words}
use Rattle.records.specs.declared.Outcome.{Outcome}
use Rattle.records.specs.declared.Outcome.TheVariants as outcomes
use Rattle.records.specs.Outcomes.{outcome_number}
use Rattle.lexer.specs.declared.Lexer.{Lexer}
use Rattle.lexer.specs.declared.Scanned.{Scanned}
use Rattle.lexer.specs.declared.Stop.{Stop}
use Rattle.items.specs.declared.Item.{Item}
use Rattle.items.specs.declared.Item.TheVariants.{Space, Comment, Name, Text, Number, Mark, Wrong}
use Rattle.items.specs.Items.{size_of, lines_of, decoded_of}
use Rattle.lexer.specs.Lex.{no_value, token_at}

-- n bytes and m newlines more lie within a source of at most 65,535 bytes: their words fit
abbrev pub Within : Lexer → ℕ → ℕ → Type 0
Within l n m = (l.current + n ≤ 65535) × (l.line + m ≤ 65536)

-- an item that lies within such a source
abbrev pub Inside : Lexer → Item → Type 0
Inside l x = Within l (size_of x) (lines_of x) × (decoded_of x ≤ 65535)

-- the lexing goes on, or stops with an outcome and what is kept
abbrev pub Next : Type 0
Next = Result Lexer Stop

-- a stop before a step: what came before is kept
abbrev pub stop_at : Outcome → Lexer → Stop
stop_at o l = record { outcome = o; tokens = l.tokens; errors = l.errors }

-- a step that stops there
abbrev pub stopped : Outcome → Lexer → Next
stopped o l = Err (stop_at o l)

-- n bytes further
abbrev pub advanced : Lexer → ℕ → Lexer
advanced l n = record { current = l.current + n; line = l.line; tokens = l.tokens; errors = l.errors; last = l.last }

-- n bytes and m newlines further, with one token more
abbrev pub token_more : Lexer → ℕ → ℕ → ℕ → Lexer
token_more l kind n m = record { current = l.current + n; line = l.line + m; tokens = l.tokens + 1; errors = l.errors; last = kind }

-- the same, with one error more
abbrev pub error_more : Lexer → ℕ → ℕ → Lexer
error_more l n m = record { current = l.current + n; line = l.line + m; tokens = l.tokens; errors = l.errors + 1; last = l.last }

-- the record of a token of n bytes that passes m newlines
abbrev pub token_of : Lexer → ℕ → ℕ → ℕ → Words → TokenData
token_of l kind n m w = token_at l.current l.line kind n m w

-- the record of a message about bytes that pass m newlines
abbrev pub error_of : Lexer → ℕ → ℕ → InterpreterError
error_of l message m = record { message = message; line = l.line + m; pos = l.current }

-- the first where the test holds, else the second
abbrev pub pick_next : Bool → Next → Next → Next
pick_next true a b = a
pick_next false a b = b

-- what a step does: how it goes on, and the tables afterwards
pub record Did : Type 0 where
  pub next : Next
  pub tokens : List ℕ
  pub errors : List ℕ

-- the first where the test holds, else the second
abbrev pub pick_did : Bool → Did → Did → Did
pick_did true a b = a
pick_did false a b = b

-- nothing is written
abbrev pub on_in : Lexer → List ℕ → List ℕ → Did
on_in l t e = record { next = Ok l; tokens = t; errors = e }

-- a token: how it goes on, and the token table
abbrev pub emit_next : Lexer → ℕ → ℕ → ℕ → List ℕ → Next
emit_next l kind n m t = pick_next (ltb l.tokens (room token_width t)) (Ok (token_more l kind n m)) (stopped outcomes.NoTokenRoom l)

-- the token table with the token, as far as it has room
abbrev pub emit_table : Lexer → ℕ → ℕ → ℕ → Words → List ℕ → List ℕ
emit_table l kind n m w t = put token_width t l.tokens (token_words (token_of l kind n m w))

-- a token: how it goes on, and both tables
abbrev pub emit_in : Lexer → ℕ → ℕ → ℕ → Words → List ℕ → List ℕ → Did
emit_in l kind n m w t e = record { next = emit_next l kind n m t; tokens = emit_table l kind n m w t; errors = e }

-- a message: how it goes on, and the error table
abbrev pub error_next : Lexer → ℕ → ℕ → List ℕ → Next
error_next l n m e = pick_next (ltb l.errors (room error_width e)) (Ok (error_more l n m)) (stopped outcomes.NoErrorRoom l)

-- the error table with the error, as far as it has room
abbrev pub error_table : Lexer → ℕ → ℕ → List ℕ → List ℕ
error_table l message m e = put error_width e l.errors (error_words (error_of l message m))

-- the words of a string of n bytes that decodes to d
abbrev pub string_words : Lexer → ℕ → ℕ → Words
string_words l n d = words_of (literals.Text (record { start = l.current; length = n }) d)

-- the words of a number
abbrev pub number_words : Lexer → ℕ → ℕ → ℕ → Words
number_words l size whole places = words_of (value_of whole places (record { start = l.current; length = size }))

-- a number with a point that runs to the last byte stops, any other is a token
abbrev pub number_in : Numeral → Lexer → List ℕ → List ℕ → Did
number_in x l t e =
    pick_did x.cut (record { next = stopped outcomes.NumberAtEnd l; tokens = t; errors = e })
    (emit_in l kinds.number_kind x.size 0 (number_words l x.size x.whole x.places) t e)

-- one item
abbrev pub step_in : Item → Lexer → List ℕ → List ℕ → Did
step_in Space l t e = on_in (advanced l 1) t e
step_in (Comment n) l t e = on_in (advanced l n) t e
step_in (Name k n) l t e = emit_in l k n 0 no_value t e
step_in (Text n m d) l t e = emit_in l kinds.string_kind n m (string_words l n d) t e
step_in (Number x) l t e = number_in x l t e
step_in (Mark k n m) l t e = emit_in l k n m no_value t e
step_in (Wrong message n m) l t e = record { next = error_next l n m e; tokens = t; errors = error_table l message m e }

-- rule 7's Newline
abbrev pub close_in : Lexer → List ℕ → List ℕ → Did
close_in l t e = pick_did (ltb 0 l.tokens && not (eqb l.last kinds.newline_kind)) (emit_in l kinds.newline_kind 0 0 no_value t e) (on_in l t e)

-- on with the next state and the tables; a stop ends there
abbrev pub then_in : Next → List ℕ → List ℕ → (Lexer → List ℕ → List ℕ → Did) → Did
then_in (Ok m) t e k = k m t e
then_in (Err s) t e k = record { next = Err s; tokens = t; errors = e }

-- the same after a step
abbrev pub and_then_in : Did → (Lexer → List ℕ → List ℕ → Did) → Did
and_then_in d k = then_in d.next d.tokens d.errors k

-- rule 7's EOF
abbrev pub eof_in : Lexer → List ℕ → List ℕ → Did
eof_in l t e = emit_in l kinds.eof_kind 0 0 no_value t e

-- rule 7
abbrev pub finish_in : Lexer → List ℕ → List ℕ → Did
finish_in l t e = and_then_in (close_in l t e) eof_in

-- the items that are left
abbrev pub scan_in : List Item → Lexer → List ℕ → List ℕ → Did
scan_in [] l t e = finish_in l t e
scan_in (x ∷ xs) l t e = and_then_in (step_in x l t e) (scan_in xs)

-- the state at the start
abbrev pub start : Lexer
start = record { current = 0; line = 1; tokens = 0; errors = 0; last = kinds.eof_kind }

-- a function's answer and tables are those of a step
pub record Does (d : Did) (r : Next) (t e : List ℕ) : Type 0 where
  pub next_is : r ≡ d.next
  pub tokens_are : t ≡ d.tokens
  pub errors_are : e ≡ d.errors

-- what is answered at the end, or at a stop
abbrev pub answer_of : Next → Scanned
answer_of (Ok l) = record { outcome = outcome_number outcomes.Ended; tokens = l.tokens; errors = l.errors }
answer_of (Err s) = record { outcome = outcome_number s.outcome; tokens = s.tokens; errors = s.errors }
