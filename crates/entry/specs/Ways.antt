-- The two ways of a reading (docs/RULES.md, 'Ways'). The old way parses whatever was lexed to its end. The new way is the old one but for this: where lexing recorded an error, nothing is parsed.
use Rattle.std.specs.Prelude.{ℕ, Bool, cond, ◌&&◌, eqb, ltb}
use Rattle.records.specs.Outcomes.{ended, not_parsed}
use Rattle.lexer.specs.Lex.{Result}
use Rattle.entry.specs.declared.Way.{Way}
use Rattle.entry.specs.declared.Way.TheVariants.{Stop, GoOn}

-- the new way; any other number is the old one
abbrev pub stop : ℕ
stop = 0

-- the old way, by the number that our own callers give
abbrev pub go_on : ℕ
go_on = 1

-- the way that a number means
abbrev pub way_of : ℕ → Way
way_of n = cond (eqb n stop) Stop GoOn

-- lexing came to that outcome, with so many errors: it reached its end and recorded one
abbrev pub ended_wrong : ℕ → ℕ → Bool
ended_wrong outcome errors = eqb outcome ended && ltb 0 errors

-- what becomes of that outcome: the new way makes 11 of it where lexing reached its end and recorded an error
abbrev pub outcome_on : ℕ → ℕ → ℕ → ℕ
outcome_on way outcome errors = cond (eqb way stop && ended_wrong outcome errors) not_parsed outcome

-- a lexing with that outcome: all that it keeps stays
abbrev pub with_outcome : ℕ → Result → Result
with_outcome outcome d = record { outcome = outcome; token_count = d.token_count; error_count = d.error_count; tokens = d.tokens; errors = d.errors }

-- what a lexing comes to on a way
abbrev pub on_way : ℕ → Result → Result
on_way way d = with_outcome (outcome_on way d.outcome d.error_count) d
