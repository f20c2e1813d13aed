-- How a lexing can end, by its rule.
use Rattle.std.specs.Prelude.{ℕ, ◌≡◌, true, false}
use Rattle.rules.specs.Rules.{known, is_two}
use Rattle.records.specs.Outcomes as outcomes

-- a source that is text and not too long: its end is reached; or, but by rule two, a number with a point runs to its last byte; or a table has too little room
pub data Lexed (rule : ℕ) : ℕ → Type 0 where
  ended : Lexed rule outcomes.ended
  cut : is_two rule ≡ false → Lexed rule outcomes.number_at_end
  token_room_held : Lexed rule outcomes.no_token_room
  error_room_held : Lexed rule outcomes.no_error_room

-- any bytes: the number names no rule; or it does, and they are too long, or no text, or are lexed
pub data Ends (rule : ℕ) : ℕ → Type 0 where
  wrong_rule_case : known rule ≡ false → Ends rule outcomes.wrong_rule
  too_long_case : known rule ≡ true → Ends rule outcomes.too_long
  not_text_case : known rule ≡ true → Ends rule outcomes.not_text
  lexes : (o : ℕ) → known rule ≡ true → Lexed rule o → Ends rule o
