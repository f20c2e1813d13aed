-- Rules 1 to 7 of docs/RULES.md, 'Lexing', second phase: items to token and error records, within the tables' rooms. No byte is looked at here.
use Rattle.std.specs.Prelude.{ℕ, ◌+◌, ◌≡◌, Bool, true, false, not, ◌&&◌, List, [], ◌∷◌, ◌++◌, ltb, eqb, length, drop}
use Rattle.token.specs.Kind as kinds
use Rattle.text.specs.Text.{is_text}
use Rattle.literal.specs.declared.Span.{Span}
use Rattle.literal.specs.declared.Words.{Words}
use Rattle.literal.specs.declared.Literal.TheVariants as literals
use Rattle.literal.specs.Value.{value_of, words_of}
use Rattle.records.specs.declared.TokenData.{TokenData}
use Rattle.records.specs.Words.{token_words, error_words}
use Rattle.records.specs.Outcomes.{ended, number_at_end, not_text, too_long, no_token_room, no_error_room, wrong_rule}
use Rattle.rules.specs.Rules.{known}
use Rattle.lexer.specs.declared.Scanned.{Scanned}
use Rattle.items.specs.declared.Item.{Item}
use Rattle.items.specs.declared.Item.TheVariants.{Space, Comment, Name, Text, Number, Mark, Wrong}
use Rattle.items.specs.Items.{items}

-- where the lexing stands: the next byte, the line, how many tokens, the last one's kind and all their words, how many errors and all their words
pub record State : Type 0 where
  pub at : ℕ
  pub line : ℕ
  pub token_count : ℕ
  pub last : ℕ
  pub tokens : List ℕ
  pub error_count : ℕ
  pub errors : List ℕ

-- what the lexing comes to
pub record Result : Type 0 where
  pub outcome : ℕ
  pub token_count : ℕ
  pub error_count : ℕ
  pub tokens : List ℕ
  pub errors : List ℕ

-- it goes on, or stops with an outcome
pub data Onward : Type 0 where
  go : State → Onward
  stop : ℕ → Onward

-- the first where the test holds, else the second
abbrev pub pick_onward : Bool → Onward → Onward → Onward
pick_onward true a b = a
pick_onward false a b = b

-- what is kept when the lexing ends with the outcome o
abbrev pub kept : ℕ → State → Result
kept o t = record { outcome = o; token_count = t.token_count; error_count = t.error_count; tokens = t.tokens; errors = t.errors }

-- on with the next state; a stop keeps what came before
abbrev pub and_then : Onward → State → (State → Result) → Result
and_then (go u) t k = k u
and_then (stop o) t k = kept o t

-- n bytes are passed that emit nothing
abbrev pub passed : ℕ → State → State
passed n t = record { at = t.at + n; line = t.line; token_count = t.token_count; last = t.last; tokens = t.tokens; error_count = t.error_count; errors = t.errors }

-- the words of a token without a value
abbrev pub no_value : Words
no_value = record { sort = 0; low = 0; high = 0 }

-- the record of a token of n bytes that passes m newlines, met at a place with the line counter at l: they raise the line; it begins where the counter stood
abbrev pub token_at : ℕ → ℕ → ℕ → ℕ → ℕ → Words → TokenData
token_at at l kind n m w = record { kind = kind; start = at; length = n; line = l + m; sort = w.sort; low = w.low; high = w.high; begins = l }

-- n bytes and m newlines further, with such a token more
abbrev pub with_token : ℕ → ℕ → ℕ → Words → State → State
with_token kind n m w t = record {
  at = t.at + n;
  line = t.line + m;
  token_count = t.token_count + 1;
  last = kind;
  tokens = t.tokens ++ token_words (token_at t.at t.line kind n m w);
  error_count = t.error_count;
  errors = t.errors;
}

-- the same, with an error more
abbrev pub with_error : ℕ → ℕ → ℕ → State → State
with_error e n m t = record {
  at = t.at + n;
  line = t.line + m;
  token_count = t.token_count;
  last = t.last;
  tokens = t.tokens;
  error_count = t.error_count + 1;
  errors = t.errors ++ error_words (record { message = e; line = t.line + m; pos = t.at });
}

-- where a token's bytes stand
abbrev pub span_of : ℕ → State → Span
span_of n t = record { start = t.at; length = n }

module _ (token_room error_room : ℕ) where
  -- a token of n bytes that passes m newlines: they raise the line, then it is emitted; a stop where it finds no room
  abbrev pub token : ℕ → ℕ → ℕ → Words → State → Onward
  token kind n m w t = pick_onward (ltb t.token_count token_room) (go (with_token kind n m w t)) (stop no_token_room)

  -- a message about n bytes that pass m newlines; a stop where it finds no room
  abbrev pub error : ℕ → ℕ → ℕ → State → Onward
  error e n m t = pick_onward (ltb t.error_count error_room) (go (with_error e n m t)) (stop no_error_room)

  -- one item: blanks and comments emit nothing; a number with a point that runs to the last byte is a stop
  abbrev pub step : Item → State → Onward
  step Space t = go (passed 1 t)
  step (Comment n) t = go (passed n t)
  step (Name k n) t = token k n 0 no_value t
  step (Text n m l) t = token kinds.string_kind n m (words_of (literals.Text (span_of n t) l)) t
  step (Number x) t = pick_onward x.cut (stop number_at_end) (token kinds.number_kind x.size 0 (words_of (value_of x.whole x.places (span_of x.size t))) t)
  step (Mark k n m) t = token k n m no_value t
  step (Wrong e n m) t = error e n m t

  -- rule 7: if any token exists and the last isn't Newline, an empty Newline is added
  abbrev pub closing : State → Onward
  closing t = pick_onward (ltb 0 t.token_count && not (eqb t.last kinds.newline_kind)) (token kinds.newline_kind 0 0 no_value t) (go t)

  -- rule 7: EOF always
  abbrev pub finish : State → Result
  finish t = and_then (closing t) t (λ u. and_then (token kinds.eof_kind 0 0 no_value u) u (kept ended))

  -- the items that are left
  abbrev pub emit : List Item → State → Result
  emit [] t = finish t
  emit (x ∷ xs) t = and_then (step x t) t (emit xs)

-- line starts at 1; no token is the last one yet
abbrev pub fresh : State
fresh = record { at = 0; line = 1; token_count = 0; last = kinds.eof_kind; tokens = []; error_count = 0; errors = [] }

-- the lexing by a rule of a source that is text and not too long, with room for so many tokens and errors
unfoldable pub lexed : ℕ → List ℕ → ℕ → ℕ → Result
lexed rule s token_room error_room = emit token_room error_room (items rule s 0) fresh

-- a refusal keeps nothing
abbrev pub refusal : ℕ → Result
refusal o = record { outcome = o; token_count = 0; error_count = 0; tokens = []; errors = [] }

-- the first where the test holds, else the second
abbrev pub pick_result : Bool → Result → Result → Result
pick_result true a b = a
pick_result false a b = b

-- the lexing of any bytes by a rule that is known: the length is tested first, then the text
abbrev pub lexed_by : ℕ → List ℕ → ℕ → ℕ → Result
lexed_by rule s token_room error_room =
    pick_result (ltb 65535 (length s)) (refusal too_long) (pick_result (not (is_text s)) (refusal not_text) (lexed rule s token_room error_room))

-- the lexing of any bytes by any number: the rule is tested before all else
unfoldable pub lexed_of : ℕ → List ℕ → ℕ → ℕ → Result
lexed_of rule s token_room error_room = pick_result (not (known rule)) (refusal wrong_rule) (lexed_by rule s token_room error_room)

-- what a lexing answers, and the tables it leaves: the kept records, and after them every word unchanged
pub record Lexing (d : Result) (r : Scanned) (tokens tokens' errors errors' : List ℕ) : Type 0 where
  pub outcome_is : r.outcome ≡ d.outcome
  pub tokens_are : r.tokens ≡ d.token_count
  pub errors_are : r.errors ≡ d.error_count
  pub token_table : tokens' ≡ d.tokens ++ drop (length d.tokens) tokens
  pub error_table_lem : errors' ≡ d.errors ++ drop (length d.errors) errors
