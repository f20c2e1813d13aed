-- Progress: a reading that gives a node began at a token and is past it, and no program moves the cursor back. So no loop of the definition uses up its fuel.
use mathlib.Core.Path.{◌≡◌, refl, subst}
use mathlib.Core.List.{List, [], ◌∷◌}
use mathlib.Core.Bool.{Bool, true, false, ◌&&◌, ◌||◌}
use Prim.Native.Nat.{ℕ, zero, suc, ◌-◌, ◌≤◌, ◌<◌}
use native.Mathlib.Omega.{arith}
use lib.Dec.{eqb}
use Rattle.records.specs.declared.Node as rows
use Rattle.parser.specs.declared.State.{State}
use Rattle.parser.specs.declared.Found.{Found}
use Rattle.parser.specs.Tables.{Got}
use Rattle.parser.specs.Tables.{Node, Stop}
use Rattle.std.specs.Prelude.{Option}
use Rattle.std.specs.Prelude.{Some, None}
use Rattle.parser.specs.Tokens.{View, count, kind_at, matches_at}
use Rattle.parser.specs.Tables.{Reply, reply, moved, looked, looped, push_node, push_error, if_seen, and_then, consume_at, require_at}
use Rattle.parser.specs.Programs.{Reader, Which, Declaration, Assignment, Operand, Prog, give, stop, ◌>>=◌, ◌>>◌, look, check, at_end, previous, node, link, fail, fail_at, consume, require, enter_loop, leave_loop, give_back, inside_loop, in_function, down, either, restored, run}
use Rattle.parser.specs.Grammar.{expression_stmt, statement, declaration, primary, call, unary, binary, assignment, body, lower, Level}
use Rattle.parser.proofs.Push.{push_node_lem, push_error_lem}
use Rattle.progress.proofs.Leaf.{check_at_lem, matches_on, matches_at_lem}

-- where a node is given, the reading is at a or further on, and c holds; where it stops, it is at z or further on
abbrev pub PastOf : ℕ → ℕ → Type 0 → Reply → Type 0
PastOf z a c (reply q (Node f) E N) = (a ≤ q.current) × c
PastOf z a c (reply q (Stop o) E N) = z ≤ q.current

-- as a record, so that antt reads z, a, c and the answer off the type
pub record Past (z a : ℕ) (c : Type 0) (r : Reply) : Type 0 where
  pub past : PastOf z a c r

-- a reader that gives a node began at a token, and is past it; where it stops it has not gone back
abbrev pub MovesOn : View → Reader → Type 0
MovesOn T r = (p : State) (E N : List ℕ) → Past p.current (suc p.current) (p.current < count T.tokens) (r p E N)

past_less : (z a : ℕ) (c : Type 0) (y b : ℕ) (d : Type 0) (r : Reply) → Past y b d r → z ≤ y → a ≤ b → (d → c) → Past z a c r
past_less z a c y b d (reply q (Node f) E N) h i e g = let u = h.past.0 in record { past = (omega arith, g h.past.1) }
past_less z a c y b d (reply q (Stop o) E N) h i e g = let u = h.past in record { past = omega arith }

pub past_then : (z a : ℕ) (c : Type 0) (b : ℕ) (d : Type 0) (r : Reply) (k : Found → Reader) → Past z b d r → ((f : Found) (q : State) (E N : List ℕ) → b ≤ q.current → d → Past z a c (k f q E N)) → Past z a c (and_then r k)
past_then z a c b d (reply q (Node f) E N) k h g = g f q E N h.past.0 h.past.1
past_then z a c b d (reply q (Stop o) E N) k h g = record { past = h.past }

pub past_seen : (z a : ℕ) (c : Type 0) (s : Option ℕ) (f : ℕ → Reply) (g : Unit {0} → Reply) → ((i : ℕ) → s ≡ Some i → Past z a c (f i)) → Past z a c (g tt) → Past z a c (if_seen s f g)
past_seen z a c (Some i) f g h e = h i refl
past_seen z a c None f g h e = e

past_either : (z a : ℕ) (c : Type 0) (b : Bool) (f g : Unit {0} → Reply) → Past z a c (f tt) → Past z a c (g tt) → Past z a c (either b f g)
past_either z a c true f g h e = h
past_either z a c false f g h e = e

past_restored : (z a : ℕ) (c : Type 0) (p : State) (r : Reply) → Past z a c r → Past z a c (restored p r)
past_restored z a c p (reply q (Node f) E N) h = record { past = h.past }
past_restored z a c p (reply q (Stop o) E N) h = record { past = h.past }

past_push : (z a : ℕ) (c : Type 0) (d : rows.Node) (p : State) (E N : List ℕ) → z ≤ p.current → a ≤ p.current → c → Past z a c (push_node d p E N)
past_push z a c d p E N y h g = push_node_lem (Past z a c) d p E N (λ _. record { past = (h, g) }) (record { past = y })

past_error : (z a : ℕ) (c : Type 0) (t : List ℕ) (m i : ℕ) (p : State) (E N : List ℕ) → z ≤ p.current → a ≤ p.current → c → Past z a c (push_error t m i p E N)
past_error z a c t m i p E N y h g = push_error_lem (Past z a c) t m i p E N (λ _. record { past = (h, g) }) (record { past = y })

pub past_consume : (z a : ℕ) (c : Type 0) (T : View) (kind m : ℕ) (p : State) (E N : List ℕ) → z ≤ p.current → a ≤ p.current → c → Past z a c (consume_at T kind m p E N)
unfolding consume_at
past_consume z a c T kind m p E N y h g = past_seen _ _ _ _ _ _ (λ i e. let u = matches_on T p.current kind i e in record { past = (omega arith, g) }) (past_error _ _ _ _ _ _ _ _ _ y h g)

-- an unwrapped `consume` gives a node only after its token
past_require : (z a : ℕ) (c : Type 0) (T : View) (kind m : ℕ) (p : State) (E N : List ℕ) → z ≤ p.current → ((i : ℕ) → matches_at T p.current kind ≡ Some i → (a ≤ i) × c) → Past z a c (require_at T kind m p E N)
unfolding require_at
past_require z a c T kind m p E N y h = past_seen _ _ _ _ _ _ (λ i e. record { past = h i e }) (past_then z a c p.current (Unit {0}) _ _ (past_error z _ _ T.tokens m p.current (looked p 1) E N y (omega arith) tt) λ f q E N b x. record { past = omega arith })

-- whether a program gives no node before it has passed a token
unfoldable pub moves : Prog → Bool
moves (give f) = false
moves (stop o) = true
moves (m >>= k) = moves m
moves (m >> k) = moves m || moves k
moves (look zero found missing) = false
moves (look (suc kind) found missing) = moves missing
moves (check kind found missing) = moves found && moves missing
moves (at_end found missing) = moves found && moves missing
moves previous = false
moves (node d) = false
moves (link prev next) = false
moves (fail message) = false
moves (fail_at message token) = false
moves (consume kind message) = false
moves (require zero message) = false
moves (require (suc kind) message) = true
moves enter_loop = false
moves leave_loop = false
moves give_back = false
moves (inside_loop found missing) = moves found && moves missing
moves (in_function name m) = moves m
moves (down w) = true

pub never : {A : Type 0} → false ≡ true → A
never e = let z : ◌≡◌ {A = ℕ} 0 1 = cc in absurd (omega arith)

both : (a b : Bool) → a && b ≡ true → (a ≡ true) × (b ≡ true)
both true b e = (refl, e)
both false b e = never e

module _ (T : View) (low : Which → Reader) (h : (w : Which) → MovesOn T (low w)) where
  -- no program moves the cursor back
  pub stays : (P : Prog) (z a : ℕ) (c : Type 0) (p : State) (E N : List ℕ) → z ≤ p.current → a ≤ p.current → c → Past z a c (run T low P p E N)
  unfolding run
  stays (give f) z a c p E N y b x = record { past = (b, x) }
  stays (stop o) z a c p E N y b x = record { past = y }
  stays (m >>= k) z a c p E N y b x = past_then _ _ _ p.current (Unit {0}) _ _ (stays m z p.current (Unit {0}) p E N y (omega arith) tt) λ f q E N u v. stays (k f) z a c q E N (omega arith) (omega arith) x
  stays (m >> k) z a c p E N y b x = past_then _ _ _ p.current (Unit {0}) _ _ (stays m z p.current (Unit {0}) p E N y (omega arith) tt) λ f q E N u v. stays k z a c q E N (omega arith) (omega arith) x
  stays (look kind found missing) z a c p E N y b x = past_seen _ _ _ _ _ _ (λ i e. let g = matches_on T p.current kind i e in stays (found i) z a c (moved (looked p 1) i) E N (omega arith) (omega arith) x) (stays missing z a c (looked p 1) E N y b x)
  stays (check kind found missing) z a c p E N y b x = past_seen _ _ _ _ _ _ (λ i e. let g = (check_at_lem T p.current kind i e).0 in stays found z a c (moved (looked p 1) i) E N (omega arith) (omega arith) x) (stays missing z a c (looked p 1) E N y b x)
  stays (at_end found missing) z a c p E N y b x = past_either _ _ _ (eqb (kind_at T.tokens p.current) 0) _ _ (stays found z a c p E N y b x) (stays missing z a c p E N y b x)
  stays previous z a c p E N y b x = record { past = (b, x) }
  stays (node d) z a c p E N y b x = past_push z a c d p E N y b x
  stays (link prev next) z a c p E N y b x = record { past = (b, x) }
  stays (fail message) z a c p E N y b x = past_error z a c T.tokens message p.current p E N y b x
  stays (fail_at message token) z a c p E N y b x = past_error z a c T.tokens message (token - 1) p E N y b x
  stays (consume kind message) z a c p E N y b x = past_consume z a c T kind message p E N y b x
  stays (require kind message) z a c p E N y b x = past_require z a c T kind message p E N y λ i e. let g = matches_on T p.current kind i e in (omega arith, x)
  stays enter_loop z a c p E N y b x = record { past = (b, x) }
  stays leave_loop z a c p E N y b x = record { past = (b, x) }
  stays give_back z a c p E N y b x = record { past = (b, x) }
  stays (inside_loop found missing) z a c p E N y b x = past_either _ _ _ (eqb p.loops 0) _ _ (stays missing z a c p E N y b x) (stays found z a c p E N y b x)
  stays (in_function name m) z a c p E N y b x = past_restored z a c p _ (stays m z a c (looped p 0) E N y b x)
  stays (down w) z a c p E N y b x = past_less _ _ _ _ _ _ _ (h w p E N) y (omega arith) λ d. x

  -- a program that passes the test gives a node only after a token
  pub moves_on : (P : Prog) → moves P ≡ true → MovesOn T (run T low P)
  unfolding run moves
  moves_on (give f) e p E N = never e
  moves_on (stop o) e p E N = record { past = omega arith }
  moves_on (m >>= k) e p E N = past_then _ _ _ _ _ _ _ (moves_on m e p E N) λ f q E N b x. stays (k f) _ _ _ q E N (omega arith) b x
  moves_on (m >> k) e p E N = go (moves m) refl e (λ f. moves_on m f p E N) λ f q E N. moves_on k f q E N
    where
      go : (b : Bool) → moves m ≡ b → b || moves k ≡ true → (moves m ≡ true → Past p.current (suc p.current) (p.current < count T.tokens) (run T low m p E N)) → (moves k ≡ true → MovesOn T (run T low k)) → Past p.current (suc p.current) (p.current < count T.tokens) (run T low (m >> k) p E N)
      go true f e g r = past_then _ _ _ _ _ _ _ (g f) λ f q E N b x. stays k _ _ _ q E N (omega arith) b x
      go false f e g r = past_then _ _ _ p.current (Unit {0}) _ _ (stays m _ _ _ p E N (omega arith) (omega arith) tt) λ f q E N b x. past_less _ _ _ _ _ _ _ (r e q E N) b (omega arith) λ d. omega arith
  moves_on (look zero found missing) e p E N = never e
  moves_on (look (suc kind) found missing) e p E N = past_seen _ _ _ _ _ _ (λ i s. let g = matches_at_lem T p.current kind i s in stays (found i) _ _ _ (moved (looked p 1) i) E N (omega arith) g.0 g.1) (moves_on missing e (looked p 1) E N)
  moves_on (check kind found missing) e p E N = past_seen _ _ _ _ _ _ (λ i s. let g = (check_at_lem T p.current kind i s).0 in past_less _ _ _ _ _ _ _ (moves_on found (both (moves found) (moves missing) e).0 (moved (looked p 1) i) E N) g (omega arith) λ d. omega arith) (moves_on missing (both (moves found) (moves missing) e).1 (looked p 1) E N)
  moves_on (at_end found missing) e p E N = past_either _ _ _ (eqb (kind_at T.tokens p.current) 0) _ _ (moves_on found (both (moves found) (moves missing) e).0 p E N) (moves_on missing (both (moves found) (moves missing) e).1 p E N)
  moves_on previous e p E N = never e
  moves_on (node d) e p E N = never e
  moves_on (link prev next) e p E N = never e
  moves_on (fail message) e p E N = never e
  moves_on (fail_at message token) e p E N = never e
  moves_on (consume kind message) e p E N = never e
  moves_on (require zero message) e p E N = never e
  moves_on (require (suc kind) message) e p E N = past_require _ _ _ T (suc kind) message p E N (omega arith) λ i s. matches_at_lem T p.current kind i s
  moves_on enter_loop e p E N = never e
  moves_on leave_loop e p E N = never e
  moves_on give_back e p E N = never e
  moves_on (inside_loop found missing) e p E N = past_either _ _ _ (eqb p.loops 0) _ _ (moves_on missing (both (moves found) (moves missing) e).1 p E N) (moves_on found (both (moves found) (moves missing) e).0 p E N)
  moves_on (in_function name m) e p E N = past_restored _ _ _ p _ (moves_on m e (looped p 0) E N)
  moves_on (down w) e p E N = h w p E N

-- an operand of binary operators, at every level of them
pub binary_moves : (T : View) (ls : List Level) → moves (binary T ls) ≡ true
unfolding moves binary unary call primary
binary_moves T [] = refl
binary_moves T (l ∷ ls) = binary_moves T ls

-- every reading that opens a level, by computation
pub body_moves : (T : View) (w : Which) → moves (body T w) ≡ true
unfolding moves body declaration statement expression_stmt assignment binary unary call primary
body_moves T Declaration = refl
body_moves T Assignment = refl
body_moves T Operand = refl

pub lower_moves : (T : View) (l : ℕ) (w : Which) → MovesOn T (lower T l w)
unfolding lower
lower_moves T zero w p E N = record { past = omega arith }
lower_moves T (suc l) w p E N = moves_on T (lower T l) (lower_moves T l) (body T w) (body_moves T w) p E N

-- a reading that gives a node, at any level and over any tables, began at a token, and is after it
pub reading_moves : (T : View) (l : ℕ) (w : Which) (p q : State) (f : Found) (E N E' N' : List ℕ) → lower T l w p E N ≡ reply q (Node f) E' N' → (p.current < count T.tokens) × (p.current < q.current)
reading_moves T l w p q f E N E' N' e = let h = subst (λ (r : Reply). Past p.current (suc p.current) (p.current < count T.tokens) r) e (lower_moves T l w p E N) in (h.past.1, h.past.0)

-- no program moves the cursor back, whether it gives a node or stops
pub never_back : (T : View) (l : ℕ) (P : Prog) (p q : State) (g : Got) (E N E' N' : List ℕ) → run T (lower T l) P p E N ≡ reply q g E' N' → p.current ≤ q.current
never_back T l P p q g E N E' N' e = go g (subst (λ (r : Reply). Past p.current p.current (Unit {0}) r) e (stays T (lower T l) (lower_moves T l) P p.current p.current (Unit {0}) p E N (omega arith) (omega arith) tt))
  where
    go : (g : Got) → Past p.current p.current (Unit {0}) (reply q g E' N') → p.current ≤ q.current
    go (Node f) h = h.past.0
    go (Stop o) h = h.past
