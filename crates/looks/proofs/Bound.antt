-- The bound: a parsing makes at most 45 looks for each token. Assumes nothing.
use mathlib.Core.List.{List}
use mathlib.Core.Bool.{Bool, true, false}
use Prim.Native.Nat.{ℕ, zero, suc, ◌+◌, ◌-◌, ◌*◌, ◌≤◌}
use native.Mathlib.Omega.{arith}
use lib.Dec.{eqb}
use Rattle.token.specs.Kind.{newline_kind}
use Rattle.records.specs.Table.{linked, token_width}
use Rattle.records.proofs.Field.{field_none}
use Rattle.parser.specs.declared.State.{State}
use Rattle.parser.specs.Tables.{Node, Stop}
use Rattle.parser.specs.Tokens.{View, count, kind_at, walked}
use Rattle.parser.specs.Tables.{Reply, reply, fresh_state}
use Rattle.parser.specs.Programs.{Which, Declaration, Assignment, Operand}
use Rattle.parser.specs.Grammar.{first_of, body, lower}
use Rattle.parser.specs.Whole.{Parsed, top_level, or_ends, if_end, statements, parsed}
use Rattle.parsing.specs.Ahead.{Agree}
use Rattle.parsing.proofs.Ahead.{agree_self, cursor_of, ahead_at, top_ahead}
use Rattle.looks.specs.Checks.{allowed}
use Rattle.looks.proofs.Owed.{gain, loss, Owed, owed_less, owed_then, owed_consume, Keeps, run_owed}
use Rattle.looks.proofs.Statements.{body_cost}

gain_small : (w : Which) → gain w ≤ 100
gain_small Declaration = omega arith
gain_small Assignment = omega arith
gain_small Operand = omega arith

-- every reading, at every level, over any tables
lower_keeps : (T : View) (l : ℕ) (w : Which) → Keeps w (lower T l w)
unfolding lower
lower_keeps T zero w u b D v p E N h g s = record { owed = omega arith }
lower_keeps T (suc l) w u b D v p E N h g s =
    let k = gain_small w in
    owed_less u b D (u + 100) (v + (100 - gain w)) (v + (100 + loss w)) _
    (run_owed T (lower T l) (lower_keeps T l) (body T w) (100 + loss w) 100 (100 - gain w) (u + 100) v p E N (body_cost T w) (omega arith)) (omega arith) (omega arith)

-- the newline test after a top-level statement is paid for by the statement
top_owed : (T : View) (p : State) (E N : List ℕ) → p.looks ≤ 45 * p.current → Owed 1 1 27 (top_level T p E N)
unfolding top_level
top_owed T p E N h =
    owed_then 1 1 27 0 _ _ (lower_keeps T 128 Declaration 1 0 27 1 p E N (omega arith) (omega arith) (omega arith)) λ f q E N k.
    owed_then 1 1 27 1 _ _ (owed_consume 1 1 27 T newline_kind 4 q E N (omega arith) (omega arith)) λ g r E N j. record { owed = j }

or_looks : (e first kept : ℕ) (r : Reply) (k : ℕ → State → List ℕ → List ℕ → Parsed) → cursor_of r ≤ e → Owed 1 1 27 r → ((m : ℕ) (q : State) (E N : List ℕ) → q.current ≤ e → q.looks ≤ 45 * q.current → (k m q E N).looks ≤ 45 * e + 26) → (or_ends first kept r k).looks ≤ 45 * e + 26
or_looks e first kept (reply q (Node f) E N) k l o h = let z = o.owed in h f.node q E N l (omega arith)
or_looks e first kept (reply q (Stop c) E N) k l o h = let z = o.owed in omega arith

if_looks : (b : ℕ) (t : Bool) (f g : Unit {0} → Parsed) → (f tt).looks ≤ b → (g tt).looks ≤ b → (if_end t f g).looks ≤ b
if_looks b true f g h k = h
if_looks b false f g h k = k

module _ (T : View) (e : ℕ) (same : Agree e T T) where
  statements_looks : (f first last : ℕ) (p : State) (E N : List ℕ) → p.current ≤ e → p.looks ≤ 45 * p.current → (statements f T first last p E N).looks ≤ 45 * e + 26
  unfolding statements
  statements_looks zero first last p E N l h = omega arith
  statements_looks (suc f) first last p E N l h =
      if_looks _ (eqb (kind_at T.tokens p.current) 0) _ _ (omega arith)
      (or_looks e first p.nodes _ _ (ahead_at e (top_ahead T T e same p E N l)) (top_owed T p E N h) λ m q E N k j. statements_looks f (first_of first m) m q E (linked N last m) k j)

  -- token e is an EOF that newlines don't lead past: at most 45 looks for each token before it, and 26
  pub looks_small : (rule errors : ℕ) (E N : List ℕ) → (parsed rule T errors E N).looks ≤ 45 * e + 26
  unfolding parsed
  looks_small rule errors E N = statements_looks (suc (count T.tokens)) 0 0 (fresh_state rule errors) E N (omega arith) (omega arith)

  -- so at most 45 for each of the tokens, of which that EOF is the last
  pub looks_linear : (rule errors : ℕ) (E N : List ℕ) → (parsed rule T errors E N).looks ≤ allowed (e + 1)
  looks_linear rule errors E N = let h = looks_small rule errors E N in omega arith

  -- in the form asked for
  pub looks_asked : (rule errors : ℕ) (E N : List ℕ) → (parsed rule T errors E N).looks ≤ 64 * (e + 1) + 64
  looks_asked rule errors E N = let h = looks_linear rule errors E N in omega arith

-- of any token table at all whose newlines are walked: past its end every token is an EOF
pub looks_any : (t : List ℕ) (rule errors : ℕ) (E N : List ℕ) → (parsed rule (walked t) errors E N).looks ≤ 45 * count t + 26
unfolding kind_at
looks_any t rule errors E N = looks_small (walked t) (count t) (agree_self t (count t) (field_none token_width 0 t (count t) (omega arith))) rule errors E N
