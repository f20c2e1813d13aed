-- One statement at a time (docs/RULES.md, 'One statement at a time'), over a parser that the host keeps and lends: what `begin` and `read` give for any parser, any source, any tables and any index.
use Rattle.std.specs.Prelude.{ℕ, zero, suc, Bool, true, false, List, eqb}
use Rattle.token.specs.Kind.{eof_kind}
use Rattle.records.specs.Table.{linked, zeroed, node_width}
use Rattle.records.specs.Outcomes as outcomes
use Rattle.rules.specs.Rules.{known}
use Rattle.parser.specs.Tables.{Node, Stop}
use Rattle.parser.specs.Tokens.{kind_at, indexed}
use Rattle.parser.specs.Tables.{Reply, reply}
use Rattle.parser.specs.Whole.{top_level}
use Rattle.entry.specs.declared.Answer.{Answer}
use Rattle.entry.specs.Entry.{Entered, entered}
use Rattle.host.specs.declared.Parser.{Parser}
use Rattle.host.specs.Kept.{fresh, state_of, marked_as, behind, stopped_at}
use Rattle.host.specs.Fits.{fits_in}
use Rattle.steps.specs.declared.Stepped.{Stepped}

-- what a call gives: the parser it leaves and its answer, and the three tables and the index it leaves
pub record Called : Type 0 where
  pub stepped : Stepped
  pub tokens : List ℕ
  pub errors : List ℕ
  pub nodes : List ℕ
  pub index : List ℕ

-- a call that gives this and leaves the tables T, E and N and the index X
abbrev pub left : Stepped → List ℕ → List ℕ → List ℕ → List ℕ → Called
left r T E N X = record { stepped = r; tokens = T; errors = E; nodes = N; index = X }

-- the answer that a parser holds: outcome, counts, first statement, looks
abbrev pub held : Parser → Answer
held p = record { outcome = p.outcome; tokens = p.tokens; errors = p.errors; nodes = p.nodes; first = p.first; looks = p.looks }

-- a call leaves the parser p and answers what p holds
abbrev pub leaving : Parser → Stepped
leaving p = record { parser = p; answer = held p }

-- the final answer: every word of the node table past the kept nodes is 0
abbrev pub final : ℕ → Parser → List ℕ → List ℕ → List ℕ → List ℕ → Called
final outcome p T E N X = left (leaving (marked_as 1 outcome p)) T E (zeroed node_width N p.nodes) X

-- the first where the test holds, else the second
abbrev pub pick_call : Bool → (Unit {0} → Called) → (Unit {0} → Called) → Called
pick_call true a b = a tt
pick_call false a b = b tt

-- 19 where a token before EOF is left to be read, else the final answer 0
unfoldable pub rest_of : List ℕ → Parser → List ℕ → List ℕ → List ℕ → Called
rest_of T p E N X = pick_call (eqb (kind_at T p.current) eof_kind) (λ _. final outcomes.ended p T E N X) λ _. left (leaving (marked_as 0 outcomes.goes_on p)) T E N X

-- a refusal, with counts, first statement and looks 0, and nothing changed
abbrev pub refused_as : ℕ → Parser → Stepped
refused_as outcome p = record { parser = p; answer = record { outcome = outcome; tokens = 0; errors = 0; nodes = 0; first = 0; looks = 0 } }

-- ---- begin
-- what stands when lexing is over is read, a statement at a time, where the test holds; or its outcome is the final answer
abbrev pub begun_by : Bool → Parser → Entered → Called
begun_by b p d =
    pick_call b (λ _. rest_of d.tokens (fresh p d.token_count d.error_count) d.errors d.nodes d.index) λ _.
    left (leaving (marked_as 1 d.outcome (fresh p d.token_count d.error_count))) d.tokens d.errors d.nodes d.index

-- it is read where its outcome is 0
abbrev pub begun_after : Parser → Entered → Called
begun_after p d = begun_by (eqb d.outcome outcomes.ended) p d

-- `begin`, of any source into tables t, e and n with the index x, by the parser's rule and on its way: nothing else of the parser matters; 13 where the rule is none
unfoldable pub begun : List ℕ → List ℕ → List ℕ → List ℕ → List ℕ → Parser → Called
begun s t e n x p = pick_call (known p.rule) (λ _. begun_after p (entered p.rule p.way s t e n x)) λ _. left (refused_as outcomes.wrong_rule p) t e n x

-- ---- read
-- what a read gives by what came of a statement: it is linked after the last one; or it stopped the reading
abbrev pub after_one : List ℕ → List ℕ → Parser → Reply → Called
after_one T X p (reply q (Node f) E N) = rest_of T (behind p q f.node) E (linked N p.last f.node) X
after_one T X p (reply q (Stop o) E N) = final o (stopped_at p q) T E N X

-- one top-level statement is read, its newlines passed by the index that is lent; at EOF there is none, and the reading is at its end
unfoldable pub one_of : List ℕ → Parser → List ℕ → List ℕ → List ℕ → Called
one_of T p E N X = pick_call (eqb (kind_at T p.current) eof_kind) (λ _. final outcomes.ended p T E N X) λ _. after_one T X p (top_level (indexed T X) (state_of p) E N)

-- where the parser fits the tables: 13 where its rule is none, else one statement
abbrev pub ruled_of : List ℕ → List ℕ → List ℕ → List ℕ → Parser → Called
ruled_of T E N X p = pick_call (known p.rule) (λ _. one_of T p E N X) λ _. left (refused_as outcomes.wrong_rule p) T E N X

-- `read`, of any parser, any tables and any index: the final answer once more, where it was given; else 18, 13 or one statement
unfoldable pub next_of : List ℕ → List ℕ → List ℕ → List ℕ → Parser → Called
next_of T E N X p =
    pick_call (eqb p.ended 0)
    (λ _. pick_call (fits_in T E N X p) (λ _. ruled_of T E N X p) λ _. left (refused_as outcomes.does_not_fit p) T E N X) λ _.
    left (leaving p) T E N X

-- ---- calls one after the other
-- a read that is lent the parser and the tables as the last call left them
abbrev pub next : Called → Called
next c = next_of c.tokens c.errors c.nodes c.index c.stepped.parser

-- so many such reads, one after the other
unfoldable pub nexts : ℕ → Called → Called
nexts zero c = c
nexts (suc k) c = next (nexts k c)
