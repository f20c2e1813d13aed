-- Readers as programs, and what a program does. T is the token table, and how its newlines are passed.
use Rattle.std.specs.Prelude.{ℕ, ◌+◌, ◌-◌, Bool, true, false, List, ltb, eqb}
use Rattle.token.specs.Kind.{eof_kind}
use Rattle.rules.specs.Rules.{loops_behind}
use Rattle.records.specs.Table.{linked}
use Rattle.records.specs.declared.Node as rows
use Rattle.parser.specs.declared.State.{State}
use Rattle.parser.specs.declared.Found.{Found}
use Rattle.parser.specs.Tables.{Node, Stop}
use Rattle.parser.specs.Tokens.{View, kind_at, check_at, matches_at}
use Rattle.parser.specs.Tables.{Reply, reply, moved, looked, looped, plain, push_node, push_error, if_seen, and_then, consume_at, require_at}

-- a reader takes where the reading is and the two tables, and gives an answer and the tables then
abbrev pub Reader : Type 0
Reader = State → List ℕ → List ℕ → Reply

-- the readings that open a level: a statement reading, an expression reading, the operand of a prefix operator
pub data Which : Type 0 where
  Declaration Assignment Operand : Which

infixl 1 ◌>>=◌
infixl 1 ◌>>◌
-- a reader, as a program: it gives what it found, or stops
pub data Prog : Type 0 where
  give : Found → Prog
  stop : ℕ → Prog
  -- one after the other, with what the first found or without
  ◌>>=◌ : Prog → (Found → Prog) → Prog
  ◌>>◌ : Prog → Prog → Prog
  -- `if self.matches(kind)`: the token is passed, and its reference given; else the second
  look : ℕ → (ℕ → Prog) → Prog → Prog
  -- `if self.check(kind)`: the cursor stays on the token found
  check : ℕ → Prog → Prog → Prog
  -- `if self.is_at_end()`
  at_end : Prog → Prog → Prog
  -- `self.previous()`
  previous : Prog
  -- a new node
  node : rows.Node → Prog
  -- the second node comes after the first in a list
  link : ℕ → ℕ → Prog
  -- an error with the line of the token at the cursor, or of the token with that reference
  fail : ℕ → Prog
  fail_at : ℕ → ℕ → Prog
  -- `self.consume(kind, message)`, and the same unwrapped
  consume : ℕ → ℕ → Prog
  require : ℕ → ℕ → Prog
  -- `self.enter_loop()`, `self.leave_loop()`, the same after an enhanced for where the rule says so, `if self.inside_loop()`
  enter_loop : Prog
  leave_loop : Prog
  give_back : Prog
  inside_loop : Prog → Prog → Prog
  -- `self.enter_function(name)`, the program, `self.leave_function(name)`; the name's token, and 0 for a lambda
  in_function : ℕ → Prog → Prog
  -- a reading one level down
  down : Which → Prog

-- one loop more, as far as a word counts
unfoldable pub raised : ℕ → ℕ
raised n = elim (ltb n 4294967295) [ true ↦ n + 1 | false ↦ n ]

-- the first where the test holds, else the second
abbrev pub either : Bool → (Unit {0} → Reply) → (Unit {0} → Reply) → Reply
either true a b = a tt
either false a b = b tt

-- a function's loops are its own: the count of the function around it comes back
abbrev pub restored : State → Reply → Reply
restored p (reply q (Node f) E N) = reply (looped q p.loops) (Node f) E N
restored p (reply q (Stop o) E N) = reply q (Stop o) E N

-- what a program does, given the readers one level down. Each call of `check` is a look: `look`, `check`, `consume` and `require` make one, found or not
unfoldable pub run : View → (Which → Reader) → Prog → Reader
run T low (give f) p E N = reply p (Node f) E N
run T low (stop o) p E N = reply p (Stop o) E N
run T low (m >>= k) p E N = and_then (run T low m p E N) λ f q E N. run T low (k f) q E N
run T low (m >> k) p E N = and_then (run T low m p E N) λ f q E N. run T low k q E N
run T low (look kind found missing) p E N = if_seen (matches_at T p.current kind) (λ i. run T low (found i) (moved (looked p 1) i) E N) λ _. run T low missing (looked p 1) E N
run T low (check kind found missing) p E N = if_seen (check_at T p.current kind) (λ i. run T low found (moved (looked p 1) i) E N) λ _. run T low missing (looked p 1) E N
run T low (at_end found missing) p E N = either (eqb (kind_at T.tokens p.current) eof_kind) (λ _. run T low found p E N) λ _. run T low missing p E N
run T low previous p E N = reply p (Node (plain p.current)) E N
run T low (node d) p E N = push_node d p E N
run T low (link prev next) p E N = reply p (Node (plain 0)) E (linked N prev next)
run T low (fail message) p E N = push_error T.tokens message p.current p E N
run T low (fail_at message token) p E N = push_error T.tokens message (token - 1) p E N
run T low (consume kind message) p E N = consume_at T kind message p E N
run T low (require kind message) p E N = require_at T kind message p E N
run T low enter_loop p E N = reply (looped p (raised p.loops)) (Node (plain 0)) E N
run T low leave_loop p E N = reply (looped p (p.loops - 1)) (Node (plain 0)) E N
run T low give_back p E N = reply (looped p (loops_behind p.rule p.loops)) (Node (plain 0)) E N
run T low (inside_loop found missing) p E N = either (eqb p.loops 0) (λ _. run T low missing p E N) λ _. run T low found p E N
run T low (in_function name m) p E N = restored p (run T low m (looped p 0) E N)
run T low (down w) p E N = low w p E N
