-- No read answers 18 or 13 on the way: a parser that fits its tables, with a loop count that is not over its cursor, goes on to one that does, or to the final answer; and that comes after as many
-- reads as there are tokens.
-- Assumes nothing.
use mathlib.Core.Path.{◌≡◌, refl, sym, subst}
use mathlib.Core.Bool.{Bool, true, false, ◌&&◌}
use mathlib.Core.List.{List}
use Prim.Native.Nat.{ℕ, zero, suc, ◌≤◌, ◌<◌}
use native.Mathlib.Omega.{arith}
use lib.Dec.{eqb}
use borrow.Author.Tests.{eqb-true, lt-ltb, le-leb}
use Rattle.token.specs.Kind.{newline_kind}
use Rattle.rules.specs.Rules.{known}
use Rattle.records.specs.Table.{room, linked, token_width, error_width, node_width, index_width}
use Rattle.records.proofs.Rooms.{room_length}
use Rattle.records.proofs.Rest.{linked_length}
use Rattle.parser.specs.declared.State as state
use Rattle.parser.specs.declared.Found.{Found}
use Rattle.parser.specs.Tables.{Node, Stop}
use Rattle.parser.specs.Tokens.{View, count, kind_at, skip_lines, indexed}
use Rattle.parser.specs.Tables.{Reply, reply, and_then, consume_at}
use Rattle.parser.specs.Programs.{Declaration}
use Rattle.parser.specs.Grammar.{lower}
use Rattle.trees.specs.Trees.{Statement}
use Rattle.parser.specs.Whole.{top_level}
use Rattle.progress.proofs.Moves.{Past, never}
use Rattle.progress.proofs.Fuel.{top_moves}
use Rattle.parsing.proofs.Frame.{Grown, top_frames, grown_consume}
use Rattle.parsing.specs.Ahead.{Agree}
use Rattle.parsing.proofs.Ahead.{cursor_of, ahead_at, top_ahead}
use Rattle.trees.proofs.TreeTyping.{Done, Held}
use Rattle.trees.proofs.Trees.{lower_reads}
use Rattle.host.specs.declared.Parser.{Parser}
use Rattle.host.specs.Fits.{no_eof, only_eof, fits_in}
use Rattle.host.specs.Kept.{marked_as, state_of, behind}
use Rattle.steps.specs.Steps.{Called, left, leaving, final, pick_call, rest_of, after_one, one_of, next, nexts}
use Rattle.steps.proofs.Cases.{next_again, next_goes_on}
use Rattle.turns.proofs.Loops.{Low, top_low}

-- what a call leaves where a token before EOF is left to be read
pub record Fit (T E N X : List ℕ) (p : Parser) : Type 0 where
  pub rule : known p.rule ≡ true
  pub tokens : p.tokens ≤ room token_width T
  pub errors : p.errors ≤ room error_width E
  pub nodes : p.nodes ≤ room node_width N
  pub last : p.last ≤ p.nodes
  pub loops : p.loops ≤ p.current
  pub cursor : p.current < p.tokens
  pub eof : only_eof T p.tokens ≡ true
  pub index : p.tokens ≤ room index_width X
  pub within : (i : ℕ) → i < p.tokens → skip_lines (indexed T X) i < p.tokens

-- it passes the test
fit_fits : (T E N X : List ℕ) (p : Parser) → Fit T E N X p → fits_in T E N X p ≡ true
unfolding fits_in
fit_fits T E N X p f =
    let a = f.nodes in
    let b = f.last in
    let c = f.loops in
    let d = f.cursor in
    rw (le-leb p.tokens (room token_width T) f.tokens, le-leb p.errors (room error_width E) f.errors, le-leb p.nodes (room node_width N) a, le-leb p.last (room node_width N) (omega arith), le-leb p.tokens (room index_width X) f.index, lt-ltb p.current p.tokens d, le-leb p.loops p.tokens (omega arith), f.eof) refl

-- the last token is EOF
only_end : (T : List ℕ) (n : ℕ) → only_eof T n ≡ true → (k : ℕ) × (n ≡ suc k) × (kind_at T k ≡ 0)
unfolding only_eof
only_end T zero e = never e
only_end T (suc k) e = (k, refl, eqb-true (kind_at T k) 0 (go (eqb (kind_at T k) 0) e))
  where
    go : (b : Bool) → b && no_eof T k ≡ true → b ≡ true
    go true h = refl
    go false h = never h

-- ---- a statement
-- its node is kept
abbrev InOf : Reply → Type 0
InOf (reply q (Node f) E N) = f.node ≤ q.nodes
InOf (reply q (Stop o) E N) = Unit {0}

-- as a record, so that antt reads the answer off the type
record In (r : Reply) : Type 0 where
  kept : InOf r

in_then : (n : Found) (q : state.State) (E N : List ℕ) (r : Reply) → Grown q.errors E q.nodes N r → n.node ≤ q.nodes → In (and_then r λ g r E N. reply r (Node n) E N)
in_then n q E N (reply r (Node g) E' N') h l = let u = h.nodes.more in record { kept = omega arith }
in_then n q E N (reply r (Stop o) E' N') h l = record { kept = tt }

top_in : (T : View) (p : state.State) (E N : List ℕ) → p.nodes ≤ room node_width N → p.current ≤ count T.tokens → In (top_level T p E N)
unfolding top_level
top_in T p E N a b = first (lower T 128 Declaration p E N) (lower_reads T 128 Declaration p E N a b)
  where
    first : (r : Reply) → Done T.tokens p.nodes (Held T.tokens Statement 0 p.nodes) N r → In (and_then r λ f q E N. and_then (consume_at T newline_kind 4 q E N) λ g r E N. reply r (Node f) E N)
    first (reply q (Node f) E N) d = let e : f.node ≡ q.nodes = d.done.2.root in in_then f q E N _ (grown_consume T newline_kind 4 q E N) (omega arith)
    first (reply q (Stop o) E N) d = record { kept = tt }

module _ (T E N X : List ℕ) (p : Parser) (fit : Fit T E N X p) (q : state.State) (f : Found) (E' N' : List ℕ) (t : reply q (Node f) E' N' ≡ top_level (indexed T X) (state_of p) E N) where
  -- the parser after a statement fits the tables that the statement left
  behind_fit : Fit T E' (linked N' p.last f.node) X (behind p q f.node)
  behind_fit =
      let end = only_end T p.tokens fit.eof in
      let size : p.tokens ≡ suc end.0 = end.1 in
      let below : p.current < p.tokens = fit.cursor in
      let room_of_lem : p.tokens ≤ count T = fit.tokens in
      let g = subst (Grown p.errors E p.nodes N) (sym t) (top_frames (indexed T X) (state_of p) E N) in
      let l = subst Low (sym t) (top_low (indexed T X) (state_of p) E N fit.loops) in
      let i = subst In (sym t) (top_in (indexed T X) (state_of p) E N fit.nodes (omega arith)) in
      let self : Agree end.0 (indexed T X) (indexed T X) = record { counts = refl; end = end.2; kinds = λ i h. refl; starts = λ i h. refl; lines = λ i h. refl; hops = λ i h o. refl; within = λ i h. let y = fit.within i (omega (arith, size, h)) in omega (arith, size, y) } in
      let at : q.current ≤ end.0 = subst (λ (r : Reply). cursor_of r ≤ end.0) (sym t) (ahead_at end.0 (top_ahead (indexed T X) (indexed T X) end.0 self (state_of p) E N (omega arith))) in
      record {
        rule = fit.rule;
        tokens = fit.tokens;
        errors = g.errors.within fit.errors;
        nodes = subst (λ (m : ℕ). q.nodes ≤ m) (sym (room_length node_width (linked N' p.last f.node) N' (linked_length N' p.last f.node))) (g.nodes.within fit.nodes);
        last = i.kept;
        loops = l.low;
        cursor = omega arith;
        eof = fit.eof;
        index = fit.index;
        within = fit.within;
      }

-- ---- calls
-- the final answer was given; or the call answered 19, and left a parser that fits, with b tokens at the most and the cursor at token j or after it
pub data Steady (b j : ℕ) : Called → Type 0 where
  over : (c : Called) → (c.stepped.parser.ended ≡ 0 → ⊥) → Steady b j c
  going : (p : Parser) (T E N X : List ℕ) → p.ended ≡ 0 → p.outcome ≡ 19 → Fit T E N X p → p.tokens ≤ b → j ≤ p.current → Steady b j (left (leaving p) T E N X)

one_not : ◌≡◌ {A = ℕ} 1 0 → ⊥
one_not h = omega (arith, h)

marked_fit : (T E N X : List ℕ) (p : Parser) → Fit T E N X p → Fit T E N X (marked_as 0 19 p)
marked_fit T E N X p f = record { rule = f.rule; tokens = f.tokens; errors = f.errors; nodes = f.nodes; last = f.last; loops = f.loops; cursor = f.cursor; eof = f.eof; index = f.index; within = f.within }

-- after a statement, or before the first
pub rest_steady : (b j : ℕ) (T : List ℕ) (p : Parser) (E N X : List ℕ) → Fit T E N X p → p.tokens ≤ b → j ≤ p.current → Steady b j (rest_of T p E N X)
unfolding rest_of
rest_steady b j T p E N X f m l = go (eqb (kind_at T p.current) 0)
  where
    go : (x : Bool) → Steady b j (pick_call x (λ _. final 0 p T E N X) λ _. left (leaving (marked_as 0 19 p)) T E N X)
    go true = over _ one_not
    go false = going (marked_as 0 19 p) T E N X refl refl (marked_fit T E N X p f) m l

-- what came of a statement
came_steady : (b j : ℕ) (T : List ℕ) (p : Parser) (E N X : List ℕ) → Fit T E N X p → p.tokens ≤ b → j ≤ p.current → (r : Reply) → r ≡ top_level (indexed T X) (state_of p) E N → Steady b (suc j) (after_one T X p r)
came_steady b j T p E N X f m l (reply q (Node n) E' N') t =
    let u = (subst (Past p.current (suc p.current) (p.current < count T)) (sym t) (top_moves (indexed T X) (state_of p) E N)).past.0 in
    rest_steady b (suc j) T (behind p q n.node) E' (linked N' p.last n.node) X (behind_fit T E N X p f q n E' N' t) m (omega arith)
came_steady b j T p E N X f m l (reply q (Stop o) E' N') t = over _ one_not

one_steady : (b j : ℕ) (T : List ℕ) (p : Parser) (E N X : List ℕ) → Fit T E N X p → p.tokens ≤ b → j ≤ p.current → Steady b (suc j) (one_of T p E N X)
unfolding one_of
one_steady b j T p E N X f m l = go (eqb (kind_at T p.current) 0)
  where
    go : (x : Bool) → Steady b (suc j) (pick_call x (λ _. final 0 p T E N X) λ _. after_one T X p (top_level (indexed T X) (state_of p) E N))
    go true = over _ one_not
    go false = came_steady b j T p E N X f m l (top_level (indexed T X) (state_of p) E N) refl

-- a read keeps it so, and is further on
pub next_steady : (b j : ℕ) (c : Called) → Steady b j c → Steady b (suc j) (next c)
next_steady b j c (over _ z) = subst (Steady b (suc j)) (next_again c.tokens c.errors c.nodes c.index c.stepped.parser z) (over _ z)
next_steady b j _ (going p T E N X z o f m l) = subst (Steady b (suc j)) (next_goes_on T E N X p z (fit_fits T E N X p f) f.rule) (one_steady b j T p E N X f m l)

-- so are any number of reads
pub reads_steady : (b k : ℕ) (c : Called) → Steady b 0 c → Steady b k (nexts k c)
unfolding nexts
reads_steady b zero c s = s
reads_steady b (suc k) c s = next_steady b k (nexts k c) (reads_steady b k c s)

-- as many reads as tokens reach the end
pub steady_ends : (b k : ℕ) (c : Called) → b ≤ k → Steady b k c → c.stepped.parser.ended ≡ 0 → ⊥
steady_ends b k _ h (over c z) = z
steady_ends b k _ h (going p T E N X z o f m l) = let u = f.cursor in absurd (omega arith)
