-- The whole reading, from bytes to the three tables and the index: 13 first, then outcomes 0 to 8 in the order of docs/RULES.md, 'Outcomes', and 11 and 10 between lexing's and parsing's.
use Rattle.std.specs.Prelude.{ℕ, ◌≡◌, Bool, true, false, List, eqb}
use Rattle.records.specs.Outcomes.{ended}
use Rattle.parser.specs.Tokens.{walked}
use Rattle.parser.specs.Whole.{Parsed, parsed}
use Rattle.entry.specs.declared.Answer.{Answer}
use Rattle.entry.specs.Entry.{Entered, entered}

-- what a reading comes to: the answer in its order, the three tables and the index
pub record Reading : Type 0 where
  pub outcome : ℕ
  pub token_count : ℕ
  pub error_count : ℕ
  pub node_count : ℕ
  pub first : ℕ
  pub looks : ℕ
  pub tokens : List ℕ
  pub errors : List ℕ
  pub nodes : List ℕ
  pub index : List ℕ

-- the reading ended before parsing: no node is kept, and no look was made
abbrev pub refused : Entered → Reading
refused d = record { outcome = d.outcome; token_count = d.token_count; error_count = d.error_count; node_count = 0; first = 0; looks = 0; tokens = d.tokens; errors = d.errors; nodes = d.nodes; index = d.index }

-- parsing came after it
abbrev pub joined : ℕ → List ℕ → Parsed → List ℕ → Reading
joined tokens T r x = record { outcome = r.outcome; token_count = tokens; error_count = r.error_count; node_count = r.node_count; first = r.first; looks = r.looks; tokens = T; errors = r.errors; nodes = r.nodes; index = x }

-- the first where the test holds, else the second
abbrev pub pick_reading : Bool → (Unit {0} → Reading) → (Unit {0} → Reading) → Reading
pick_reading true a b = a tt
pick_reading false a b = b tt

-- what stands is parsed by the rule, where the test holds, or is the answer. Newlines are walked: the index says only where that leads
abbrev pub read_by : Bool → ℕ → Entered → Reading
read_by b rule d = pick_reading b (λ _. joined d.token_count d.tokens (parsed rule (walked d.tokens) d.error_count d.errors d.nodes) d.index) λ _. refused d

-- it is parsed where its outcome is 0
abbrev pub read_after : ℕ → Entered → Reading
read_after rule d = read_by (eqb d.outcome ended) rule d

-- the reading of any bytes, by any rule and on any way, into tables t, e and n with the index x
unfoldable pub reading : ℕ → ℕ → List ℕ → List ℕ → List ℕ → List ℕ → List ℕ → Reading
reading rule way s t e n x = read_after rule (entered rule way s t e n x)

-- what a reading answers, and the tables and the index that it leaves: every word of them
pub record Answers (d : Reading) (r : Answer) (tokens' errors' nodes' index' : List ℕ) : Type 0 where
  pub outcome_is : r.outcome ≡ d.outcome
  pub tokens_are : r.tokens ≡ d.token_count
  pub errors_are : r.errors ≡ d.error_count
  pub nodes_are : r.nodes ≡ d.node_count
  pub first_is : r.first ≡ d.first
  pub looks_are : r.looks ≡ d.looks
  pub token_table : tokens' ≡ d.tokens
  pub error_table_lem : errors' ≡ d.errors
  pub node_table : nodes' ≡ d.nodes
  pub index_table : index' ≡ d.index
