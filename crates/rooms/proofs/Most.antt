-- The bounds of a parsing: at most two nodes for each token before EOF, kept or not; and at most two errors for each, two more for each `class`, and one that ends it. Assumes nothing.
use mathlib.Core.Path.{◌≡◌, refl, ◌∙◌}
use mathlib.Core.List.{List}
use mathlib.Core.Bool.{Bool, true, false}
use Prim.Native.Nat.{ℕ, zero, suc, ◌+◌, ◌-◌, ◌*◌, ◌≤◌}
use native.Mathlib.Omega.{arith}
use lib.Dec.{eqb}
use Rattle.token.specs.Kind.{newline_kind}
use Rattle.records.specs.Table.{room, linked, error_width, node_width}
use Rattle.parser.specs.declared.State.{State}
use Rattle.parser.specs.Tables.{Node, Stop}
use Rattle.parser.specs.Tokens.{View, count, kind_at}
use Rattle.parser.specs.Tables.{Reply, reply, fresh_state}
use Rattle.parser.specs.Programs.{Which, Declaration, Assignment, Operand}
use Rattle.parser.specs.Grammar.{first_of, body, lower}
use Rattle.parser.specs.Whole.{Parsed, top_level, or_ends, if_end, statements, parsed}
use Rattle.parsing.specs.Ahead.{Agree}
use Rattle.parsing.proofs.Ahead.{cursor_of, ahead_at, top_ahead}
use Rattle.rooms.specs.Allowed.{Counted, nodes, errors, pick, per_error, allowed}
use Rattle.rooms.proofs.Allowed.{allowed_on, allowed_nodes}
use Rattle.rooms.proofs.Owed.{gain, counted, room_of, linked_room, lacking, Owed, not_lacking, owed_less, owed_then, owed_consume, Keeps, run_owed}
use Rattle.rooms.proofs.Readers.{one_counts, body_cost}

-- ---- every reading, at every level, over any tables
gain_small : (x : Counted) (w : Which) → per_error x ≤ 1 → gain x w ≤ 2
gain_small x Declaration h = omega arith
gain_small x Assignment h = omega arith
gain_small x Operand h = omega arith

lower_keeps : (x : Counted) (T : View) (l : ℕ) (w : Which) → Keeps x T w (lower T l w)
unfolding lower
lower_keeps x T zero w R u b D v p E N r h g s = record { owed = (omega arith, λ z. absurd (not_lacking x 8 tt z)) }
lower_keeps x T (suc l) w R u b D v p E N r h g s =
    let e = per_error x in
    let o = one_counts x in
    let k = gain_small x w (omega arith) in
    owed_less x T R u b D (u + 100) (v + (100 - gain x w)) (v + (100 + e)) _
    (run_owed x T (lower T l) (lower_keeps x T l) R (body T w) (100 + e) 100 (100 - gain x w) (u + 100) v p E N r (body_cost x o T w) (omega arith)) (omega arith) (omega arith)

-- a statement read at top level; the error of its newline test is paid for by the statement. z were made before the parsing
top_owed : (x : Counted) (T : View) (R z : ℕ) (p : State) (E N : List ℕ) → room_of x E N ≡ R → counted x p ≤ allowed x T.tokens p.current + z → Owed x T R 0 z (z + per_error x) (top_level T p E N)
unfolding top_level
top_owed x T R z p E N r h =
    let e = per_error x in
    owed_less x T R 0 z (z + e) e (z + e) (z + 2 * e) _
    (owed_then x T R e (z + e) (z + 2 * e) z _ _ (lower_keeps x T 128 Declaration R e z (z + 2 * e) (z + e) p E N r (omega arith) (omega arith) (omega arith)) λ f q E N k r.
    owed_then x T R e (z + e) (z + 2 * e) (z + e) _ _ (owed_consume x T R e (z + e) (z + 2 * e) newline_kind 4 q E N r (omega arith) (omega arith)) λ g s E N j r. record { owed = (j, r) }) (omega arith) (omega arith)

-- ---- the whole
-- what is kept of a parsing
abbrev kept_of : Counted → Parsed → ℕ
kept_of x d = pick x d.node_count d.error_count

-- of a parsing with room for R: want of room means room for fewer than m, and at most m are kept
record Few (x : Counted) (R m : ℕ) (d : Parsed) : Type 0 where
  full : d.outcome ≡ lacking x → R + 1 ≤ m
  most : kept_of x d ≤ m

if_few : (x : Counted) (R m : ℕ) (t : Bool) (f g : Unit {0} → Parsed) → Few x R m (f tt) → Few x R m (g tt) → Few x R m (if_end t f g)
if_few x R m true f g h k = h
if_few x R m false f g h k = k

-- of the nodes those are kept that were made before a statement which stops, of the errors all
mixed : (x : Counted) (a b c d m : ℕ) → pick x a b ≤ m → pick x c d ≤ m → pick x a d ≤ m
mixed nodes a b c d m h g = h
mixed errors a b c d m h g = g

-- token `end` is an EOF that newlines don't lead past, there is room for R, and z were made before
module _ (x : Counted) (T : View) (end : ℕ) (alike : Agree end T T) (R z : ℕ) where
  -- the bound
  abbrev m : ℕ
  m = allowed x T.tokens end + z + per_error x

  within : (i k : ℕ) → i ≤ end → k ≤ allowed x T.tokens i + z → k ≤ m
  within i k h g = let a = allowed_on x T.tokens i end h in omega arith

  or_few : (first : ℕ) (p : State) (r : Reply) (k : ℕ → State → List ℕ → List ℕ → Parsed) → counted x p ≤ m → cursor_of r ≤ end → Owed x T R 0 z (z + per_error x) r
      → ((i : ℕ) (q : State) (E N : List ℕ) → q.current ≤ end → counted x q ≤ allowed x T.tokens q.current + z → room_of x E N ≡ R → Few x R m (k i q E N)) → Few x R m (or_ends first p.nodes r k)
  or_few first p (reply q (Node f) E N) k c l o h = let y = o.owed.0 in h f.node q E N l (omega arith) o.owed.1
  or_few first p (reply q (Stop c) E N) k b l o h =
      let a = allowed_on x T.tokens q.current end l in
      let y = o.owed.0 in
      record { full = λ w. (let v = o.owed.1 w in omega arith); most = mixed x p.nodes p.errors q.nodes q.errors m b (omega arith) }

  statements_few : (f first last : ℕ) (p : State) (E N : List ℕ) → room_of x E N ≡ R → p.current ≤ end → counted x p ≤ allowed x T.tokens p.current + z → Few x R m (statements f T first last p E N)
  unfolding statements
  statements_few zero first last p E N r l h = record { full = λ y. absurd (not_lacking x 99 tt y); most = within p.current (counted x p) l h }
  statements_few (suc f) first last p E N r l h =
      let k = within p.current (counted x p) l h in
      if_few x R m (eqb (kind_at T.tokens p.current) 0) _ _ (record { full = λ y. absurd (not_lacking x 0 tt y); most = k })
      (or_few first p (top_level T p E N) _ k (ahead_at end (top_ahead T T end alike p E N l)) (top_owed x T R z p E N r h) λ i q E N l h r.
      statements_few f (first_of first i) i q E (linked N last i) (linked_room x E N last i ∙ r) l h)

-- ---- the theorems: token `end` is such an EOF, and so many errors were recorded before
module _ (rule : ℕ) (T : View) (end : ℕ) (alike : Agree end T T) (before : ℕ) (E N : List ℕ) where
  -- of both counts: no node was made before
  parsed_few : (x : Counted) → Few x (room_of x E N) (allowed x T.tokens end + pick x 0 before + per_error x) (parsed rule T before E N)
  unfolding parsed
  parsed_few x = statements_few x T end alike (room_of x E N) (pick x 0 before) (suc (count T.tokens)) 0 0 (fresh_state rule before) E N refl (omega arith) (omega arith)

  -- two nodes for each token before it are kept at the most
  pub nodes_most : (parsed rule T before E N).node_count ≤ 2 * end
  nodes_most = let h = (parsed_few nodes).most in let a = allowed_nodes T.tokens end in omega arith

  -- with room for two for each no node lacks room, kept or not
  pub nodes_enough : 2 * end ≤ room node_width N → (parsed rule T before E N).outcome ≡ 7 → ⊥
  nodes_enough h o = let k = (parsed_few nodes).full o in let a = allowed_nodes T.tokens end in omega arith

  -- besides the errors before, what the tokens before it allow, and one
  pub errors_most : (parsed rule T before E N).error_count ≤ before + allowed errors T.tokens end + 1
  errors_most = let h = (parsed_few errors).most in omega arith

  -- with room for these no error lacks room
  pub errors_enough : before + allowed errors T.tokens end + 1 ≤ room error_width E → (parsed rule T before E N).outcome ≡ 6 → ⊥
  errors_enough h o = let k = (parsed_few errors).full o in omega arith
