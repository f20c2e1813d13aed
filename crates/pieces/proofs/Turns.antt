-- Progress of a loop's turn, in the form that the code's facts have. Assumes nothing.
use mathlib.Core.Path.{◌≡◌, refl, sym, ap, subst, ◌∙◌}
use mathlib.Core.List.{List, []}
use mathlib.Core.Bool.{true, false}
use Prim.Native.Nat.{ℕ, zero, suc, ◌<◌, ◌≤◌}
use native.Mathlib.Omega.{arith}
use lib.Dec.{ltb, eqb}
use Rattle.parser.specs.declared.State.{State}
use Rattle.parser.specs.declared.Found.{Found}
use Rattle.parser.specs.declared.Halted.{Halted}
use Rattle.std.specs.Prelude.{Result, Ok, Err}
use Rattle.parser.specs.Tables.{Got}
use Rattle.parser.specs.Tables.{Node, Stop}
use Rattle.std.specs.Prelude.{Option}
use Rattle.std.specs.Prelude.{Some}
use Rattle.parser.specs.Tokens.{View, walked, count, matches_at}
use Rattle.records.specs.declared.Node as rows
use Rattle.parser.specs.Tables.{Reply, reply, answered, and_then, push_node, consume_at, require_at}
use Rattle.parser.specs.Programs.{Which, Prog, node, consume, require, run}
use Rattle.parser.specs.Grammar.{lower}
use Rattle.pieces.proofs.NextKind.{Next, match_here}
use Rattle.progress.proofs.Leaf.{matches_at_lem}
use Rattle.progress.proofs.Moves.{Past, moves, moves_on, lower_moves, never_back, reading_moves, never}

-- `matches` found a token that is not EOF: the reading goes on after where the cursor was, and the cursor was at a token
pub found_past : (T : View) (at kind i : ℕ) (s : Option ℕ) → s ≡ matches_at T at kind → s ≡ Some i → ltb 0 kind ≡ true → (at < i) × (at < count T.tokens)
found_past T at zero i s e f h = never h
found_past T at (suc k) i s e f h = matches_at_lem T at k i (sym e ∙ f)

-- a program that gave a node began at a token and is past it, where it passes the test
pub gave_past : (T : View) (l : ℕ) (P : Prog) (p q : State) (g : Got) (f : Found) (E N E' N' : List ℕ) → moves P ≡ true → reply q g E' N' ≡ run T (lower T l) P p E N → g ≡ Node f → (p.current < count T.tokens) × (p.current < q.current)
gave_past T l P p q g f E N E' N' m e h =
    let a = subst (λ (r : Reply). Past p.current (suc p.current) (p.current < count T.tokens) r) (sym e ∙ ap (λ (g : Got). reply q g E' N') h) (moves_on T (lower T l) (lower_moves T l) P m p E N) in
    (a.past.1, a.past.0)

-- no program goes back
pub not_back : (T : View) (l : ℕ) (P : Prog) (p q : State) (g : Got) (E N E' N' : List ℕ) → reply q g E' N' ≡ run T (lower T l) P p E N → p.current ≤ q.current
not_back T l P p q g E N E' N' e = never_back T l P p q g E N E' N' (sym e)

-- nor do the leaves that a turn calls
pub make_on : (d : rows.Node) (p q : State) (g : Got) (E N E' N' : List ℕ) → reply q g E' N' ≡ push_node d p E N → p.current ≤ q.current
unfolding run
make_on d p q g E N E' N' e = not_back (walked []) 0 (node d) p q g E N E' N' e

pub consume_on : (T : View) (kind m : ℕ) (p q : State) (g : Got) (E N E' N' : List ℕ) → reply q g E' N' ≡ consume_at T kind m p E N → p.current ≤ q.current
unfolding run
consume_on T kind m p q g E N E' N' e = not_back T 0 (consume kind m) p q g E N E' N' e

-- a required token was there, and is passed
pub require_past : (T : View) (kind m : ℕ) (p q : State) (g : Got) (f : Found) (E N E' N' : List ℕ) → reply q g E' N' ≡ require_at T kind m p E N → g ≡ Node f → ltb 0 kind ≡ true → (p.current < count T.tokens) × (p.current < q.current)
unfolding run moves
require_past T zero m p q g f E N E' N' e h k = never k
require_past T (suc kind) m p q g f E N E' N' e h k = gave_past T 0 (require (suc kind) m) p q g f E N E' N' refl e h

-- a reading one level down that gave a node began at a token and is past it
pub reading_past : (T : View) (l : ℕ) (w : Which) (p q : State) (g : Got) (f : Found) (E N E' N' : List ℕ) → reply q g E' N' ≡ lower T l w p E N → g ≡ Node f → (p.current < count T.tokens) × (p.current < q.current)
reading_past T l w p q g f E N E' N' e h = reading_moves T l w p q f E N E' N' (sym e ∙ ap (λ (g : Got). reply q g E' N') h)

-- a token of a kind that was looked for is passed
pub next_past : (T : View) (at kind j k : ℕ) → Next T at kind j → kind ≡ k → eqb k 1 ≡ false → ltb 0 k ≡ true → (at < j) × (at < count T.tokens)
next_past T at kind j k n e l h = found_past T at k j (matches_at T at k) refl (match_here T at kind j k n l e) h

-- nor does what follows on what a reading gave
pub both_on : (T : View) (l : ℕ) (Q : Prog) (P : Found → Prog) (p q : State) (g : Got) (o : Result (State × Found) Halted) (E N E' N' E'' N'' : List ℕ) → answered o E' N' ≡ run T (lower T l) Q p E N → reply q g E'' N'' ≡ and_then (answered o E' N') (λ e s E N. run T (lower T l) (P e) s E N) → p.current ≤ q.current
both_on T l Q P p q g (Ok x) E N E' N' E'' N'' e h = let a = not_back T l Q p x.0 (Node x.1) E N E' N' e in let b = not_back T l (P x.1) x.0 q g E' N' E'' N'' h in omega arith
both_on T l Q P p q g (Err s) E N E' N' E'' N'' e h = let a = not_back T l Q p s.p (Stop s.outcome) E N E' N' e in omega (arith, ap at h)
  where
    at : Reply → ℕ
    at (reply p g E N) = p.current
