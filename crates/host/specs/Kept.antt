-- What becomes of the parser that a host keeps. Only `changed` names a word of the host's that is just carried along.
use Rattle.std.specs.Prelude.{ℕ}
use Rattle.records.specs.Outcomes as outcomes
use Rattle.parser.specs.declared.State.{State}
use Rattle.parser.specs.Tables.{fresh_state}
use Rattle.parser.specs.Grammar.{first_of}
use Rattle.host.specs.declared.Parser.{Parser}

-- the state in which it reads
abbrev pub state_of : Parser → State
state_of p = record { rule = p.rule; current = p.current; errors = p.errors; nodes = p.nodes; loops = p.loops; looks = p.looks }

-- the parser with so many tokens, that state, that first and last statement and that mark
abbrev pub changed : Parser → ℕ → State → ℕ → ℕ → ℕ → ℕ → Parser
changed p tokens q first last ended outcome = record { rule = p.rule; way = p.way; current = q.current; loops = q.loops; tokens = tokens; errors = q.errors; nodes = q.nodes; first = first; last = last; ended = ended; outcome = outcome; looks = q.looks }

-- the parser before the first statement, with what was lexed
abbrev pub fresh : Parser → ℕ → ℕ → Parser
fresh p tokens errors = changed p tokens (fresh_state p.rule errors) 0 0 0 outcomes.goes_on

-- the parser with another mark: whether the final answer is given, and the outcome
abbrev pub marked_as : ℕ → ℕ → Parser → Parser
marked_as ended outcome p = changed p p.tokens (state_of p) p.first p.last ended outcome

-- the parser after a statement n, in the state q
abbrev pub behind : Parser → State → ℕ → Parser
behind p q n = changed p p.tokens q (first_of p.first n) n p.ended p.outcome

-- its state where a statement stopped the reading in the state q: none of its nodes is kept, but its errors are, and its looks count
abbrev pub stopped_in : Parser → State → State
stopped_in p q = record { rule = p.rule; current = p.current; errors = q.errors; nodes = p.nodes; loops = p.loops; looks = q.looks }

-- the parser with that state
abbrev pub stopped_at : Parser → State → Parser
stopped_at p q = changed p p.tokens (stopped_in p q) p.first p.last p.ended p.outcome
