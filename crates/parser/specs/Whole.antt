-- `parse`: the top-level statements, what is kept, and the answer.
use Rattle.std.specs.Prelude.{ℕ, zero, suc, Bool, true, false, ◌≡◌, List, eqb}
use Rattle.token.specs.Kind.{eof_kind, newline_kind}
use Rattle.records.specs.Messages.{expected_new_line}
use Rattle.records.specs.Outcomes.{ended, out_of_fuel}
use Rattle.records.specs.Table.{linked, zeroed, node_width}
use Rattle.parser.specs.declared.State.{State}
use Rattle.parser.specs.Tables.{Node, Stop}
use Rattle.parser.specs.declared.Parsed as answers
use Rattle.parser.specs.Tokens.{View, count, kind_at}
use Rattle.parser.specs.Tables.{Reply, reply, fresh_state, and_then, consume_at}
use Rattle.parser.specs.Programs.{Reader, Declaration}
use Rattle.parser.specs.Grammar.{first_of, lower}

-- what a parsing comes to: outcome, counts, first statement, looks, and the tables of errors and nodes
pub record Parsed : Type 0 where
  pub outcome : ℕ
  pub error_count : ℕ
  pub node_count : ℕ
  pub first : ℕ
  pub looks : ℕ
  pub errors : List ℕ
  pub nodes : List ℕ

-- the parsing ends in a state, with so many nodes kept: every word of the node table past them is 0
abbrev pub ends : ℕ → ℕ → ℕ → State → List ℕ → List ℕ → Parsed
ends outcome first kept p E N = record { outcome = outcome; error_count = p.errors; node_count = kept; first = first; looks = p.looks; errors = E; nodes = zeroed node_width N kept }

-- how many levels may be open
abbrev pub deepest : ℕ
deepest = 128

-- a top-level statement, finished after its newline test; `declaration(true)`
unfoldable pub top_level : View → Reader
top_level T p E N = and_then (lower T deepest Declaration p E N) λ f q E N. and_then (consume_at T newline_kind expected_new_line q E N) λ g r E N. reply r (Node f) E N

-- a statement that stops the reading leaves none of its nodes; its errors are kept, and its looks count
abbrev pub or_ends : ℕ → ℕ → Reply → (ℕ → State → List ℕ → List ℕ → Parsed) → Parsed
or_ends first kept (reply q (Node f) E N) k = k f.node q E N
or_ends first kept (reply q (Stop o) E N) k = ends o first kept q E N

-- the first where EOF is reached, else the second
abbrev pub if_end : Bool → (Unit {0} → Parsed) → (Unit {0} → Parsed) → Parsed
if_end true a b = a tt
if_end false a b = b tt

-- `while !self.is_at_end()`
unfoldable pub statements : ℕ → View → ℕ → ℕ → State → List ℕ → List ℕ → Parsed
statements zero T first last p E N = ends out_of_fuel first p.nodes p E N
statements (suc f) T first last p E N =
    if_end (eqb (kind_at T.tokens p.current) eof_kind) (λ _. ends ended first p.nodes p E N) λ _.
    or_ends first p.nodes (top_level T p E N) λ n q E N. statements f T (first_of first n) n q E (linked N last n)

-- the parsing of a token table by a rule, with so many errors recorded before
unfoldable pub parsed : ℕ → View → ℕ → List ℕ → List ℕ → Parsed
parsed rule T errors E N = statements (suc (count T.tokens)) T 0 0 (fresh_state rule errors) E N

-- what a parsing answers, and the tables it leaves
pub record Parsing (d : Parsed) (r : answers.Parsed) (errors' nodes' : List ℕ) : Type 0 where
  pub outcome_is : r.outcome ≡ d.outcome
  pub errors_are : r.errors ≡ d.error_count
  pub nodes_are : r.nodes ≡ d.node_count
  pub first_is : r.first ≡ d.first
  pub looks_are : r.looks ≡ d.looks
  pub error_table_lem : errors' ≡ d.errors
  pub node_table : nodes' ≡ d.nodes
