-- The call stack of parser.rs with its names, as the Rust keeps it: a second meaning of the same programs. `leave_function` compares the name on top of the stack
-- with the one that `enter_function` was given. It is proved that the comparison never fails, so the meaning in Programs, which keeps only loop counts, says the same. `parse` itself enters a function
-- with the empty name and leaves it where it reaches EOF.
use Rattle.std.specs.Prelude.{ℕ, zero, suc, ◌-◌, Bool, true, false, List, [], ◌∷◌, eqb, length}
use Rattle.token.specs.Kind.{eof_kind, newline_kind}
use Rattle.rules.specs.Rules.{loops_behind}
use Rattle.records.specs.Messages.{expected_new_line}
use Rattle.records.specs.Outcomes.{ended, out_of_fuel, too_deep}
use Rattle.records.specs.Table.{linked}
use Rattle.parser.specs.declared.State.{State}
use Rattle.parser.specs.declared.Found.{Found}
use Rattle.std.specs.Prelude.{Option}
use Rattle.std.specs.Prelude.{Some, None}
use Rattle.parser.specs.Tables.{Node, Stop}
use Rattle.parser.specs.Tokens.{View, count, kind_at, check_at, matches_at}
use Rattle.parser.specs.Tables.{Reply, reply, fresh_state, moved, looked, plain, push_node, push_error, consume_at, require_at}
use Rattle.parser.specs.Programs.{Which, Declaration, Prog, give, stop, ◌>>=◌, ◌>>◌, look, check, at_end, previous, node, link, fail, fail_at, consume, require, enter_loop, leave_loop, give_back, inside_loop, in_function, down, raised}
use Rattle.parser.specs.Grammar.{first_of, body}
use Rattle.parser.specs.Whole.{Parsed, ends, deepest}

-- a function's name: the empty one that `parse` gives, the token of a named function, or `lambda` and the number of functions that are open around it
pub data Name : Type 0 where
  script : Name
  called : ℕ → Name
  lambda : ℕ → Name

-- `CallStack`: a function's name and its loop count; the innermost comes first
pub record Call : Type 0 where
  pub function : Name
  pub loops : ℕ

-- the name that `enter_function` and `leave_function` are given
abbrev pub pick_name : Bool → ℕ → ℕ → Name
pick_name true token around = lambda around
pick_name false token around = called token

-- the name of a function whose name is that token, or of a lambda, with so many functions open around it
abbrev pub name_of : ℕ → ℕ → Name
name_of token around = pick_name (eqb token 0) token around

-- two names by the same number are the same; names of different sorts are not
abbrev pub same_name : Name → Name → Bool
same_name script script = true
same_name script (called b) = false
same_name script (lambda b) = false
same_name (called a) script = false
same_name (called a) (called b) = eqb a b
same_name (called a) (lambda b) = false
same_name (lambda a) script = false
same_name (lambda a) (called b) = false
same_name (lambda a) (lambda b) = eqb a b

-- the innermost function's loop count
abbrev pub loops_of : List Call → ℕ
loops_of [] = 0
loops_of (c ∷ cs) = c.loops

-- the stack with that count
abbrev pub with_loops : List Call → ℕ → List Call
with_loops [] n = []
with_loops (c ∷ cs) n = record { function = c.function; loops = n } ∷ cs

-- an answer, with the call stack; or `leave_function` met another name
pub data Named : Type 0 where
  named : Reply → List Call → Named
  unequal : Named

-- a reader that takes and gives the call stack too
abbrev pub NamedReader : Type 0
NamedReader = State → List Call → List ℕ → List ℕ → Named

-- on with what was found; a stop stops it
abbrev pub then_named : Named → (Found → NamedReader) → Named
then_named (named (reply p (Node f) E N) cs) k = k f p cs E N
then_named (named (reply p (Stop o) E N) cs) k = named (reply p (Stop o) E N) cs
then_named unequal k = unequal

-- the first with the token's index where one was found, else the second
abbrev pub if_named : Option ℕ → (ℕ → Named) → (Unit {0} → Named) → Named
if_named (Some i) found missing = found i
if_named None found missing = missing tt

-- the first where the test holds, else the second
abbrev pub either_named : Bool → (Unit {0} → Named) → (Unit {0} → Named) → Named
either_named true a b = a tt
either_named false a b = b tt

-- `leave_function`: the function on top of the stack has the name, and is taken off
abbrev pub leave : Name → Named → Named
leave n (named (reply p (Node f) E N) (c ∷ cs)) = either_named (same_name c.function n) (λ _. named (reply p (Node f) E N) cs) λ _. unequal
leave n (named (reply p (Node f) E N) []) = unequal
leave n (named (reply p (Stop o) E N) cs) = named (reply p (Stop o) E N) cs
leave n unequal = unequal

-- what a program does with the call stack; looks count as without it, and the state's own count of loops is not looked at
unfoldable pub run_named : View → (Which → NamedReader) → Prog → NamedReader
run_named T low (give f) p cs E N = named (reply p (Node f) E N) cs
run_named T low (stop o) p cs E N = named (reply p (Stop o) E N) cs
run_named T low (m >>= k) p cs E N = then_named (run_named T low m p cs E N) λ f q cs E N. run_named T low (k f) q cs E N
run_named T low (m >> k) p cs E N = then_named (run_named T low m p cs E N) λ f q cs E N. run_named T low k q cs E N
run_named T low (look kind found missing) p cs E N = if_named (matches_at T p.current kind) (λ i. run_named T low (found i) (moved (looked p 1) i) cs E N) λ _. run_named T low missing (looked p 1) cs E N
run_named T low (check kind found missing) p cs E N = if_named (check_at T p.current kind) (λ i. run_named T low found (moved (looked p 1) i) cs E N) λ _. run_named T low missing (looked p 1) cs E N
run_named T low (at_end found missing) p cs E N = either_named (eqb (kind_at T.tokens p.current) eof_kind) (λ _. run_named T low found p cs E N) λ _. run_named T low missing p cs E N
run_named T low previous p cs E N = named (reply p (Node (plain p.current)) E N) cs
run_named T low (node d) p cs E N = named (push_node d p E N) cs
run_named T low (link prev next) p cs E N = named (reply p (Node (plain 0)) E (linked N prev next)) cs
run_named T low (fail message) p cs E N = named (push_error T.tokens message p.current p E N) cs
run_named T low (fail_at message token) p cs E N = named (push_error T.tokens message (token - 1) p E N) cs
run_named T low (consume kind message) p cs E N = named (consume_at T kind message p E N) cs
run_named T low (require kind message) p cs E N = named (require_at T kind message p E N) cs
run_named T low enter_loop p cs E N = named (reply p (Node (plain 0)) E N) (with_loops cs (raised (loops_of cs)))
run_named T low leave_loop p cs E N = named (reply p (Node (plain 0)) E N) (with_loops cs (loops_of cs - 1))
run_named T low give_back p cs E N = named (reply p (Node (plain 0)) E N) (with_loops cs (loops_behind p.rule (loops_of cs)))
run_named T low (inside_loop found missing) p cs E N = either_named (eqb (loops_of cs) 0) (λ _. run_named T low missing p cs E N) λ _. run_named T low found p cs E N
run_named T low (in_function token m) p cs E N =
    leave (name_of token (length cs)) (run_named T low m p (record { function = name_of token (length cs); loops = 0 } ∷ cs) E N)
run_named T low (down w) p cs E N = low w p cs E N

-- with l levels left: a reading one level down
unfoldable pub lower_named : View → ℕ → Which → NamedReader
lower_named T zero w p cs E N = named (reply p (Stop too_deep) E N) cs
lower_named T (suc l) w p cs E N = run_named T (lower_named T l) (body T w) p cs E N

-- ---- `parse`
-- what it comes to; or a `leave_function` met another name
pub data NamedParse : Type 0 where
  came : Parsed → NamedParse
  unequal_names : NamedParse

-- a top-level statement, with the newline test after it
unfoldable pub top_named : View → NamedReader
top_named T p cs E N = then_named (lower_named T deepest Declaration p cs E N) λ f q cs E N. then_named (named (consume_at T newline_kind expected_new_line q E N) cs) λ g r cs E N. named (reply r (Node f) E N) cs

-- on with a statement; a stop ends the parsing, and leaves no function
abbrev pub or_stops : ℕ → ℕ → Named → (ℕ → State → List Call → List ℕ → List ℕ → NamedParse) → NamedParse
or_stops first kept (named (reply q (Node f) E N) cs) k = k f.node q cs E N
or_stops first kept (named (reply q (Stop o) E N) cs) k = came (ends o first kept q E N)
or_stops first kept unequal k = unequal_names

-- by a test
abbrev pub either_parse : Bool → (Unit {0} → NamedParse) → (Unit {0} → NamedParse) → NamedParse
either_parse true a b = a tt
either_parse false a b = b tt

-- `leave_function("")` after the last statement
abbrev pub leave_script : List Call → Parsed → NamedParse
leave_script [] r = unequal_names
leave_script (c ∷ cs) r = either_parse (same_name c.function script) (λ _. came r) λ _. unequal_names

-- `while !self.is_at_end()`, and what follows it
unfoldable pub statements_named : ℕ → View → ℕ → ℕ → State → List Call → List ℕ → List ℕ → NamedParse
statements_named zero T first last p cs E N = came (ends out_of_fuel first p.nodes p E N)
statements_named (suc f) T first last p cs E N =
    either_parse (eqb (kind_at T.tokens p.current) eof_kind) (λ _. leave_script cs (ends ended first p.nodes p E N)) λ _.
    or_stops first p.nodes (top_named T p cs E N) λ n q cs E N. statements_named f T (first_of first n) n q cs E (linked N last n)

-- `enter_function("")`, and all of `parse` after it
unfoldable pub parsed_named : ℕ → View → ℕ → List ℕ → List ℕ → NamedParse
parsed_named rule T errors E N = statements_named (suc (count T.tokens)) T 0 0 (fresh_state rule errors) (record { function = script; loops = 0 } ∷ []) E N
