-- What a reading gives, and the leaves that write: nodes, links and errors.
use Rattle.std.specs.Prelude.{ℕ, ◌+◌, ◌-◌, min, true, false, List, ltb, Option, Some, None, Result, Ok, Err}
use Rattle.records.specs.Outcomes.{fatal_stop, no_error_room, no_node_room}
use Rattle.records.specs.Table.{room, put, error_width, node_width}
use Rattle.records.specs.Words.{error_words, node_words}
use Rattle.records.specs.declared.Node as rows
use Rattle.records.specs.declared.InterpreterError.{InterpreterError}
use Rattle.parser.specs.declared.State.{State}
use Rattle.parser.specs.declared.Form.TheVariants.{Other}
use Rattle.parser.specs.declared.Found.{Found}
use Rattle.parser.specs.declared.Halted.{Halted}
use Rattle.parser.specs.Tokens.{View, start_at, line_at, matches_at}

-- a reader gives what it found, or stops the reading with an outcome
pub data Got : Type 0 where
  Node : Found → Got
  Stop : ℕ → Got

-- a reader's answer: the state, what it found or why it stopped, and the tables of errors and nodes then
pub data Reply : Type 0 where
  reply : State → Got → List ℕ → List ℕ → Reply

-- the code's answer, and the tables that it leaves, as a reader's answer
abbrev pub answered : Result (State × Found) Halted → List ℕ → List ℕ → Reply
answered (Ok f) E N = reply f.0 (Node f.1) E N
answered (Err s) E N = reply s.p (Stop s.outcome) E N

-- the reading goes on at token i
abbrev pub moved : State → ℕ → State
moved p i = record { rule = p.rule; current = i; errors = p.errors; nodes = p.nodes; loops = p.loops; looks = p.looks }

-- the reading goes on with so many open loops
abbrev pub looped : State → ℕ → State
looped p n = record { rule = p.rule; current = p.current; errors = p.errors; nodes = p.nodes; loops = n; looks = p.looks }

-- the reading goes on with so many nodes
abbrev pub with_nodes : State → ℕ → State
with_nodes p n = record { rule = p.rule; current = p.current; errors = p.errors; nodes = n; loops = p.loops; looks = p.looks }

-- the reading goes on with so many errors
abbrev pub with_errors : State → ℕ → State
with_errors p n = record { rule = p.rule; current = p.current; errors = n; nodes = p.nodes; loops = p.loops; looks = p.looks }

-- the state that a parsing starts in, by a rule and with so many errors recorded before
abbrev pub fresh_state : ℕ → ℕ → State
fresh_state rule errors = record { rule = rule; current = 0; errors = errors; nodes = 0; loops = 0; looks = 0 }

-- so many looks more, as far as a word counts
unfoldable pub counted_by : ℕ → ℕ → ℕ
counted_by n looks = looks + min n (4294967295 - looks)

-- the reading goes on with so many looks more
abbrev pub looked : State → ℕ → State
looked p n = record { rule = p.rule; current = p.current; errors = p.errors; nodes = p.nodes; loops = p.loops; looks = counted_by n p.looks }

-- one node more
abbrev pub with_node : State → State
with_node p = with_nodes p (p.nodes + 1)

-- one error more
abbrev pub with_error : State → State
with_error p = with_errors p (p.errors + 1)

-- the error with that message about token i: its line, and its start as the place
abbrev pub error_at : List ℕ → ℕ → ℕ → InterpreterError
error_at T message i = record { message = message; line = line_at T i; pos = start_at T i }

-- a node, or a token's reference, that is nothing left of `=`
abbrev pub plain : ℕ → Found
plain n = record { node = n; form = Other; access = 0 }

-- a node that finds room: its reference
abbrev pub node_made : rows.Node → State → List ℕ → List ℕ → Reply
node_made d p E N = reply (with_node p) (Node (plain (p.nodes + 1))) E (put node_width N p.nodes (node_words d))

-- an error that finds room: reference 0
abbrev pub error_made : InterpreterError → State → List ℕ → List ℕ → Reply
error_made e p E N = reply (with_error p) (Node (plain 0)) (put error_width E p.errors (error_words e)) N

-- one more node; outcome 7 where it finds no room
unfoldable pub push_node : rows.Node → State → List ℕ → List ℕ → Reply
push_node d p E N = elim (ltb p.nodes (room node_width N)) [ true ↦ node_made d p E N | false ↦ reply p (Stop no_node_room) E N ]

-- one more error, about token i; outcome 6 where it finds no room
unfoldable pub push_error : List ℕ → ℕ → ℕ → State → List ℕ → List ℕ → Reply
push_error T message i p E N = elim (ltb p.errors (room error_width E)) [ true ↦ error_made (error_at T message i) p E N | false ↦ reply p (Stop no_error_room) E N ]

-- the first with the token's index where one was found, else the second
abbrev pub if_seen : Option ℕ → (ℕ → Reply) → (Unit {0} → Reply) → Reply
if_seen (Some i) found missing = found i
if_seen None found missing = missing tt

-- the reading goes on with what was found; a stop ends it
abbrev pub and_then : Reply → (Found → State → List ℕ → List ℕ → Reply) → Reply
and_then (reply p (Node f) E N) k = k f p E N
and_then (reply p (Stop o) E N) k = reply p (Stop o) E N

-- `consume`: one look; the token asked for is passed, and its reference given; else its absence is an error, and 0 is given
unfoldable pub consume_at : View → ℕ → ℕ → State → List ℕ → List ℕ → Reply
consume_at T kind message p E N =
    if_seen (matches_at T p.current kind) (λ i. reply (moved (looked p 1) i) (Node (plain i)) E N) λ _.
    push_error T.tokens message p.current (looked p 1) E N

-- a `consume` whose result is unwrapped: its failure stops the reading
unfoldable pub require_at : View → ℕ → ℕ → State → List ℕ → List ℕ → Reply
require_at T kind message p E N =
    if_seen (matches_at T p.current kind) (λ i. reply (moved (looked p 1) i) (Node (plain i)) E N) λ _.
    and_then (push_error T.tokens message p.current (looked p 1) E N) λ f q E N. reply q (Stop fatal_stop) E N
