-- No reader changes the rule that the state carries; and by rule one an enhanced for is read as the original reads it. Assumes nothing.
use mathlib.Core.Path.{◌≡◌, refl, ap, subst}
use mathlib.Core.Bool.{Bool, true, false}
use mathlib.Core.List.{List}
use Prim.Native.Nat.{ℕ, zero, suc, ◌-◌}
use lib.Dec.{eqb}
use Rattle.token.specs.Kind.{newline_kind, in_kind}
use Rattle.rules.specs.Rules.{one, loops_behind}
use Rattle.records.specs.Messages.{expected_in}
use Rattle.records.specs.declared.Node as rows
use Rattle.parser.specs.declared.State.{State}
use Rattle.parser.specs.declared.Found.{Found}
use Rattle.parser.specs.Tables.{Node, Stop}
use Rattle.std.specs.Prelude.{Option}
use Rattle.std.specs.Prelude.{Some, None}
use Rattle.parser.specs.Tokens.{View, kind_at, check_at, matches_at}
use Rattle.parser.specs.Tables.{Reply, reply, looped, plain, push_node, push_error, if_seen, and_then, consume_at, require_at}
use Rattle.parser.specs.Programs.{Reader, Which, Declaration, Prog, give, stop, ◌>>=◌, ◌>>◌, look, check, at_end, previous, node, link, fail, fail_at, consume, require, enter_loop, leave_loop, give_back, inside_loop, in_function, down, either, restored, run}
use Rattle.parser.specs.Nodes.{enhanced_for_row}
use Rattle.parser.specs.Grammar.{expression, fuel, names_from, enhanced_for, body, lower}
use Rattle.parser.specs.Whole.{top_level}
use Rattle.parser.proofs.Push.{push_node_lem, push_error_lem}
use Rattle.parsing.proofs.Frame.{state_of}

-- as a record, so that antt reads the answer off the type
pub record Ruled (rule : ℕ) (r : Reply) : Type 0 where
  pub rule_is : (state_of r).rule ≡ rule

abbrev Keeps : Reader → Type 0
Keeps r = (p : State) (E N : List ℕ) → Ruled p.rule (r p E N)

module _ (rule : ℕ) where
  then_ruled : (r : Reply) (k : Found → Reader) → Ruled rule r → ((f : Found) → Keeps (k f)) → Ruled rule (and_then r k)
  then_ruled (reply q (Node f) E N) k h g = subst (λ (n : ℕ). Ruled n (k f q E N)) h.rule_is (g f q E N)
  then_ruled (reply q (Stop o) E N) k h g = record { rule_is = h.rule_is }

  seen_ruled : (s : Option ℕ) (f : ℕ → Reply) (g : Unit {0} → Reply) → ((i : ℕ) → Ruled rule (f i)) → Ruled rule (g tt) → Ruled rule (if_seen s f g)
  seen_ruled (Some i) f g h e = h i
  seen_ruled None f g h e = e

  either_ruled : (s : Bool) (f g : Unit {0} → Reply) → Ruled rule (f tt) → Ruled rule (g tt) → Ruled rule (either s f g)
  either_ruled true f g h e = h
  either_ruled false f g h e = e

  restored_ruled : (p : State) (r : Reply) → Ruled rule r → Ruled rule (restored p r)
  restored_ruled p (reply q (Node f) E N) h = record { rule_is = h.rule_is }
  restored_ruled p (reply q (Stop o) E N) h = record { rule_is = h.rule_is }

node_ruled : (d : rows.Node) → Keeps (push_node d)
node_ruled d p E N = push_node_lem (Ruled p.rule) d p E N (λ h. record { rule_is = refl }) (record { rule_is = refl })

error_ruled : (t : List ℕ) (m i : ℕ) → Keeps (push_error t m i)
error_ruled t m i p E N = push_error_lem (Ruled p.rule) t m i p E N (λ h. record { rule_is = refl }) (record { rule_is = refl })

consume_ruled : (T : View) (kind m : ℕ) → Keeps (consume_at T kind m)
unfolding consume_at
consume_ruled T kind m p E N = seen_ruled p.rule (matches_at T p.current kind) _ _ (λ i. record { rule_is = refl }) (error_ruled T.tokens m p.current _ E N)

require_ruled : (T : View) (kind m : ℕ) → Keeps (require_at T kind m)
unfolding require_at
require_ruled T kind m p E N =
    seen_ruled p.rule (matches_at T p.current kind) _ _ (λ i. record { rule_is = refl })
    (then_ruled p.rule _ _ (error_ruled T.tokens m p.current _ E N) λ f q E N. record { rule_is = refl })

-- ---- every program
module _ (T : View) (low : Which → Reader) (h : (w : Which) → Keeps (low w)) where
  run_ruled : (P : Prog) → Keeps (run T low P)
  unfolding run
  run_ruled (give f) p E N = record { rule_is = refl }
  run_ruled (stop o) p E N = record { rule_is = refl }
  run_ruled (m >>= k) p E N = then_ruled p.rule (run T low m p E N) _ (run_ruled m p E N) λ f. run_ruled (k f)
  run_ruled (m >> k) p E N = then_ruled p.rule (run T low m p E N) _ (run_ruled m p E N) λ f. run_ruled k
  run_ruled (look kind found missing) p E N = seen_ruled p.rule (matches_at T p.current kind) _ _ (λ i. run_ruled (found i) _ E N) (run_ruled missing _ E N)
  run_ruled (check kind found missing) p E N = seen_ruled p.rule (check_at T p.current kind) _ _ (λ i. run_ruled found _ E N) (run_ruled missing _ E N)
  run_ruled (at_end found missing) p E N = either_ruled p.rule (eqb (kind_at T.tokens p.current) 0) _ _ (run_ruled found p E N) (run_ruled missing p E N)
  run_ruled previous p E N = record { rule_is = refl }
  run_ruled (node d) p E N = node_ruled d p E N
  run_ruled (link prev next) p E N = record { rule_is = refl }
  run_ruled (fail message) p E N = error_ruled T.tokens message p.current p E N
  run_ruled (fail_at message token) p E N = error_ruled T.tokens message (token - 1) p E N
  run_ruled (consume kind message) p E N = consume_ruled T kind message p E N
  run_ruled (require kind message) p E N = require_ruled T kind message p E N
  run_ruled enter_loop p E N = record { rule_is = refl }
  run_ruled leave_loop p E N = record { rule_is = refl }
  run_ruled give_back p E N = record { rule_is = refl }
  run_ruled (inside_loop found missing) p E N = either_ruled p.rule (eqb p.loops 0) _ _ (run_ruled missing p E N) (run_ruled found p E N)
  run_ruled (in_function name m) p E N = restored_ruled p.rule p _ (run_ruled m (looped p 0) E N)
  run_ruled (down w) p E N = h w p E N

lower_ruled : (T : View) (l : ℕ) (w : Which) → Keeps (lower T l w)
unfolding lower
lower_ruled T zero w p E N = record { rule_is = refl }
lower_ruled T (suc l) w p E N = run_ruled T (lower T l) (lower_ruled T l) (body T w) p E N

-- a top-level statement is read by the rule that the next one is read by
pub top_ruled : (T : View) (p : State) (E N : List ℕ) → Ruled p.rule (top_level T p E N)
unfolding top_level
top_ruled T p E N =
    then_ruled p.rule (lower T 128 Declaration p E N) _ (lower_ruled T 128 Declaration p E N) λ f q E N.
    then_ruled q.rule (consume_at T newline_kind 4 q E N) _ (consume_ruled T newline_kind 4 q E N) λ g r E N. record { rule_is = refl }

-- ---- rule one
-- an answer that keeps rule one, and two ways to go on that agree by it
then_one : (r : Reply) (j k : Found → Reader) → Ruled one r → ((f : Found) (q : State) (E N : List ℕ) → q.rule ≡ one → j f q E N ≡ k f q E N) → and_then r j ≡ and_then r k
then_one (reply q (Node f) E N) j k h g = g f q E N h.rule_is
then_one (reply q (Stop o) E N) j k h g = refl

module _ (T : View) (l : ℕ) where
  abbrev low : Which → Reader
  low = lower T l

  by_one : (P : Prog) (p : State) (E N : List ℕ) → p.rule ≡ one → Ruled one (run T low P p E N)
  by_one P p E N h = subst (λ (rule : ℕ). Ruled rule (run T low P p E N)) h (run_ruled T low (lower_ruled T l) P p E N)

  -- nothing is given back
  one_keeps : (p : State) (E N : List ℕ) → p.rule ≡ one → run T low give_back p E N ≡ reply p (Node (plain 0)) E N
  unfolding run
  one_keeps p E N h = ap (λ (rule : ℕ). reply (looped p (loops_behind rule p.loops)) (Node (plain 0)) E N) h

  -- `for_loop` once it has seen a name, as the original has it
  abbrev pub original_enhanced : ℕ → Prog
  original_enhanced keyword = do
    ids ← names_from T (fuel T) 0 0
    consume in_kind expected_in
    collection ← expression
    stmt ← down Declaration
    node (enhanced_for_row keyword ids.node collection.node stmt.node)

  -- BY RULE ONE AN ENHANCED FOR IS READ AS THE ORIGINAL READS IT
  pub one_enhanced : (keyword : ℕ) (p : State) (E N : List ℕ) → p.rule ≡ one → run T low (enhanced_for T keyword) p E N ≡ run T low (original_enhanced keyword) p E N
  unfolding run enhanced_for
  one_enhanced keyword p E N h =
      then_one _ _ _ (by_one (names_from T (fuel T) 0 0) p E N h) λ ids p E N h.
      then_one _ _ _ (by_one (consume in_kind expected_in) p E N h) λ f p E N h.
      then_one _ _ _ (by_one expression p E N h) λ collection p E N h.
      then_one _ _ _ (by_one (down Declaration) p E N h) λ stmt p E N h.
      ap (λ (r : Reply). and_then r λ f q E N. push_node (enhanced_for_row keyword ids.node collection.node stmt.node) q E N) (one_keeps p E N h)
