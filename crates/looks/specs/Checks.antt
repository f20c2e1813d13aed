-- How often a parsing calls `check`, as a number without a limit, where the state keeps it in a word; and how many looks are allowed (docs/RULES.md, 'Index and looks'). This only counts. It asks `run` what is found and where the reading goes on.
use Rattle.std.specs.Prelude.{ℕ, zero, suc, ◌+◌, ◌*◌, cond, List, eqb}
use Rattle.token.specs.Kind.{eof_kind}
use Rattle.records.specs.Table.{linked}
use Rattle.parser.specs.declared.State.{State}
use Rattle.parser.specs.declared.Found.{Found}
use Rattle.std.specs.Prelude.{Option}
use Rattle.std.specs.Prelude.{Some, None}
use Rattle.parser.specs.Tables.{Node, Stop}
use Rattle.parser.specs.Tokens.{View, count, kind_at, check_at, matches_at}
use Rattle.parser.specs.Tables.{Reply, reply, moved, looked, looped, fresh_state}
use Rattle.parser.specs.Programs.{Reader, Which, Declaration, Prog, give, stop, ◌>>=◌, ◌>>◌, look, check, at_end, previous, node, link, fail, fail_at, consume, require, enter_loop, leave_loop, give_back, inside_loop, in_function, down, run}
use Rattle.parser.specs.Grammar.{body, lower}
use Rattle.parser.specs.Whole.{deepest, top_level}

-- how many calls a reader makes from that state, with those tables of errors and nodes
abbrev pub Checks : Type 0
Checks = State → List ℕ → List ℕ → ℕ

-- the calls made from an answer on; none from a stop
abbrev pub onward : Reply → (Found → Checks) → ℕ
onward (reply q (Node f) E N) k = k f q E N
onward (reply q (Stop o) E N) k = 0

-- the calls made after a look, by whether it found its token
abbrev pub checks_if : Option ℕ → (ℕ → ℕ) → ℕ → ℕ
checks_if (Some i) found missing = found i
checks_if None found missing = missing

-- the calls of a program, given the readers one level down and their calls: `look`, `check`, `consume` and `require` make one each, found or not
unfoldable pub checks : View → (Which → Reader) → (Which → Checks) → Prog → Checks
checks T low c (give f) p E N = 0
checks T low c (stop o) p E N = 0
checks T low c (m >>= k) p E N = checks T low c m p E N + onward (run T low m p E N) λ f q E N. checks T low c (k f) q E N
checks T low c (m >> k) p E N = checks T low c m p E N + onward (run T low m p E N) λ f q E N. checks T low c k q E N
checks T low c (look kind found missing) p E N = 1 + checks_if (matches_at T p.current kind) (λ i. checks T low c (found i) (moved (looked p 1) i) E N) (checks T low c missing (looked p 1) E N)
checks T low c (check kind found missing) p E N = 1 + checks_if (check_at T p.current kind) (λ i. checks T low c found (moved (looked p 1) i) E N) (checks T low c missing (looked p 1) E N)
checks T low c (at_end found missing) p E N = cond (eqb (kind_at T.tokens p.current) eof_kind) (checks T low c found p E N) (checks T low c missing p E N)
checks T low c previous p E N = 0
checks T low c (node d) p E N = 0
checks T low c (link prev next) p E N = 0
checks T low c (fail message) p E N = 0
checks T low c (fail_at message token) p E N = 0
checks T low c (consume kind message) p E N = 1
checks T low c (require kind message) p E N = 1
checks T low c enter_loop p E N = 0
checks T low c leave_loop p E N = 0
checks T low c give_back p E N = 0
checks T low c (inside_loop found missing) p E N = cond (eqb p.loops 0) (checks T low c missing p E N) (checks T low c found p E N)
checks T low c (in_function name m) p E N = checks T low c m (looped p 0) E N
checks T low c (down w) p E N = c w p E N

-- the calls of a reading one level down, with l levels left
unfoldable pub lower_checks : View → ℕ → Which → Checks
lower_checks T zero w p E N = 0
lower_checks T (suc l) w p E N = checks T (lower T l) (lower_checks T l) (body T w) p E N

-- the calls of a top-level statement: its own, and one of the newline test
unfoldable pub top_checks : View → Checks
top_checks T p E N = lower_checks T deepest Declaration p E N + onward (lower T deepest Declaration p E N) λ f q E N. 1

-- the calls of the statements up to EOF or to a stop; those of the statement that stops count too
unfoldable pub statements_checks : ℕ → View → ℕ → Checks
statements_checks zero T last p E N = 0
statements_checks (suc f) T last p E N =
    cond (eqb (kind_at T.tokens p.current) eof_kind) 0 (top_checks T p E N + onward (top_level T p E N) λ n q E N. statements_checks f T n.node q E (linked N last n.node))

-- the calls of the parsing of a token table by a rule, with so many errors recorded before
unfoldable pub parsed_checks : ℕ → View → ℕ → List ℕ → List ℕ → ℕ
parsed_checks rule T errors E N = statements_checks (suc (count T.tokens)) T 0 (fresh_state rule errors) E N

-- how many looks are allowed, where so many tokens are kept
abbrev pub allowed : ℕ → ℕ
allowed tokens = 45 * tokens
