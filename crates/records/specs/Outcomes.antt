-- The outcomes of docs/RULES.md, 'Outcomes', by name.
use Rattle.std.specs.Prelude.{ℕ}
use Rattle.records.specs.declared.Outcome.{Outcome}
use Rattle.records.specs.declared.Outcome.TheVariants.{Ended, FatalStop, NumberAtEnd, NotText, TooLong, NoTokenRoom, NoErrorRoom, NoNodeRoom, TooDeep, NotAString, NoBufferRoom, NotParsed, WrongRule, DoesNotFit, GoesOn}

-- parsing reached EOF, errors or none
abbrev pub ended : ℕ
ended = 0

-- fatal stop: the original records a message, then panics
abbrev pub fatal_stop : ℕ
fatal_stop = 1

-- a number with a point runs to the last byte; the original panics in `number`
abbrev pub number_at_end : ℕ
number_at_end = 2

-- the text test fails
abbrev pub not_text : ℕ
not_text = 3

-- the source is over 65,535 bytes
abbrev pub too_long : ℕ
too_long = 4

-- a token, closing Newline or EOF finds no room
abbrev pub no_token_room : ℕ
no_token_room = 5

-- an error finds no room, a fatal one too
abbrev pub no_error_room : ℕ
no_error_room = 6

-- a node finds no room
abbrev pub no_node_room : ℕ
no_node_room = 7

-- a level over 128 would open
abbrev pub too_deep : ℕ
too_deep = 8

-- decoding: no string that closes begins at this byte
abbrev pub not_a_string : ℕ
not_a_string = 9

-- decoding: the buffer is too short; a reading: the newline index is
abbrev pub no_buffer_room : ℕ
no_buffer_room = 10

-- the new way: lexing reached its end and recorded an error, so nothing is parsed
abbrev pub not_parsed : ℕ
not_parsed = 11

-- the rule is neither one nor two, and nothing changed
abbrev pub wrong_rule : ℕ
wrong_rule = 13

-- the pair: what the parser holds doesn't fit what is lent, and nothing changed
abbrev pub does_not_fit : ℕ
does_not_fit = 18

-- the pair: a token before EOF is left to be read
abbrev pub goes_on : ℕ
goes_on = 19

-- a definition's fuel is used up, which never happens
abbrev pub out_of_fuel : ℕ
out_of_fuel = 99

-- the number of an outcome
abbrev pub outcome_number : Outcome → ℕ
outcome_number Ended = ended
outcome_number FatalStop = fatal_stop
outcome_number NumberAtEnd = number_at_end
outcome_number NotText = not_text
outcome_number TooLong = too_long
outcome_number NoTokenRoom = no_token_room
outcome_number NoErrorRoom = no_error_room
outcome_number NoNodeRoom = no_node_room
outcome_number TooDeep = too_deep
outcome_number NotAString = not_a_string
outcome_number NoBufferRoom = no_buffer_room
outcome_number NotParsed = not_parsed
outcome_number WrongRule = wrong_rule
outcome_number DoesNotFit = does_not_fit
outcome_number GoesOn = goes_on
