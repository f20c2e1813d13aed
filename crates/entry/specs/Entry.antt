-- The step from lexing to parsing: what stands once a source is lexed, and whether it is parsed then. The whole reading begins with it, and so does the reading of a statement at a time.
use Rattle.std.specs.Prelude.{ℕ, ◌≡◌, Bool, cond, ◌&&◌, ◌||◌, List, ◌++◌, eqb, ltb, length, drop}
use Rattle.records.specs.Outcomes.{ended, not_text, too_long, no_buffer_room, wrong_rule}
use Rattle.records.specs.Table.{room, zeroed, token_width, error_width, node_width, index_width}
use Rattle.lexer.specs.declared.Scanned.{Scanned}
use Rattle.lexer.specs.Lex.{Result, lexed_of}
use Rattle.lines.specs.Lines.{line_index}
use Rattle.entry.specs.Ways.{with_outcome, on_way}

-- what stands then: outcome 0 where what was lexed is parsed, any other ends the reading; how many tokens and errors are kept; the three tables, and the index
pub record Entered : Type 0 where
  pub outcome : ℕ
  pub token_count : ℕ
  pub error_count : ℕ
  pub tokens : List ℕ
  pub errors : List ℕ
  pub nodes : List ℕ
  pub index : List ℕ

-- a table whose front is rewritten
abbrev pub over : List ℕ → List ℕ → List ℕ
over ws t = ws ++ drop (length ws) t

-- outcomes 3, 4 and 13: the source is no text, or too long, or the number names no rule, and nothing is read
abbrev pub unread : ℕ → Bool
unread o = eqb o not_text || (eqb o too_long || eqb o wrong_rule)

-- the node table is as it was where parsing comes, and after 3, 4 and 13; after any other outcome every word of it is 0
abbrev pub nodes_after : ℕ → List ℕ → List ℕ
nodes_after o n = cond (eqb o ended || unread o) n (zeroed node_width n 0)

-- what becomes of that outcome where so many tokens are kept, and the index has room for r: 10 where they would be parsed and it has too little
abbrev pub outcome_in : ℕ → ℕ → ℕ → ℕ
outcome_in r outcome tokens = cond (eqb outcome ended && ltb r tokens) no_buffer_room outcome

-- what a lexing comes to with such an index
abbrev pub with_room : ℕ → Result → Result
with_room r d = with_outcome (outcome_in r d.outcome d.token_count) d

-- the index is written where parsing comes, and else is as it was
abbrev pub index_after : ℕ → List ℕ → ℕ → List ℕ → List ℕ
index_after o t n x = cond (eqb o ended) (line_index t n x) x

-- what stands after a lexing, by what it came to
abbrev pub entered_after : Result → List ℕ → List ℕ → List ℕ → List ℕ → Entered
entered_after d t e n x = record {
  outcome = d.outcome;
  token_count = d.token_count;
  error_count = d.error_count;
  tokens = over d.tokens t;
  errors = over d.errors e;
  nodes = nodes_after d.outcome n;
  index = index_after d.outcome (over d.tokens t) d.token_count x;
}

-- what stands once any bytes are lexed, by any rule and on any way, into tables t, e and n with the index x: 11 is told before 10
abbrev pub entered : ℕ → ℕ → List ℕ → List ℕ → List ℕ → List ℕ → List ℕ → Entered
entered rule way s t e n x = entered_after (with_room (room index_width x) (on_way way (lexed_of rule s (room token_width t) (room error_width e)))) t e n x

-- what the index asks of that outcome, and the index u that it leaves of x
pub record Indexes (t : List ℕ) (outcome n : ℕ) (x : List ℕ) (r : ℕ) (u : List ℕ) : Type 0 where
  pub outcome_is : r ≡ outcome_in (room index_width x) outcome n
  pub index_is : u ≡ index_after r t n x

-- what the step answers, and the tables and the index that it leaves: every word of them
pub record Enters (d : Entered) (r : Scanned) (tokens' errors' nodes' index' : List ℕ) : Type 0 where
  pub outcome_is : r.outcome ≡ d.outcome
  pub tokens_are : r.tokens ≡ d.token_count
  pub errors_are : r.errors ≡ d.error_count
  pub token_table : tokens' ≡ d.tokens
  pub error_table_lem : errors' ≡ d.errors
  pub node_table : nodes' ≡ d.nodes
  pub index_table : index' ≡ d.index
