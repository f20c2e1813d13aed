-- A typing of programs by the nodes or errors that they make, against what the tokens passed allow; and that it is sound. Assumes nothing.
use mathlib.Core.Path.{◌≡◌, refl, ap, subst, ◌∙◌}
use mathlib.Core.List.{List}
use mathlib.Core.Bool.{Bool, true, false, not, ◌||◌}
use Prim.Native.Nat.{ℕ, ◌+◌, ◌-◌, ◌≤◌}
use native.Mathlib.Omega.{arith}
use borrow.Author.Tests.{ltb-false}
use lib.Dec as dec
use lib.Dec.{ltb, eqb}
use Rattle.records.specs.Outcomes.{no_error_room, no_node_room}
use Rattle.records.specs.Table.{room, put, linked, error_width, node_width}
use Rattle.records.specs.Words.{error_words, node_words}
use Rattle.records.specs.declared.Node as rows
use Rattle.records.proofs.Rooms.{room_length}
use Rattle.records.proofs.Put.{put_length}
use Rattle.records.proofs.Rest.{linked_length}
use Rattle.parser.specs.declared.State.{State}
use Rattle.parser.specs.declared.Found.{Found}
use Rattle.parser.specs.Tables.{Node, Stop}
use Rattle.std.specs.Prelude.{Option}
use Rattle.std.specs.Prelude.{Some, None}
use Rattle.parser.specs.Tokens.{View, kind_at, check_at, matches_at}
use Rattle.parser.specs.Tables.{Reply, reply, looped, error_at, node_made, error_made, push_node, push_error, if_seen, and_then, consume_at, require_at}
use Rattle.parser.specs.Programs.{Reader, Which, Declaration, Assignment, Operand, Prog, give, stop, ◌>>=◌, ◌>>◌, look, check, at_end, previous, node, link, fail, fail_at, consume, require, enter_loop, leave_loop, give_back, inside_loop, in_function, down, either, restored, run}
use Rattle.parser.proofs.Push.{push_node_lem, push_error_lem}
use Rattle.progress.proofs.Leaf.{check_at_lem}
use Rattle.rooms.specs.Allowed.{Counted, nodes, errors, pick, per_node, per_error, allows, allowed}
use Rattle.rooms.proofs.Allowed.{allowed_on, allowed_match}

-- ---- the typing
-- a reading that gives a node has made at least so many fewer than the tokens that it passed allow
abbrev pub gain : Counted → Which → ℕ
gain x Declaration = per_error x
gain x Assignment = 1 + per_error x
gain x Operand = 1 + per_error x

-- what a program stops with of itself is no want of room
abbrev is_own : ℕ → Bool
is_own o = not (eqb o no_error_room || eqb o no_node_room)

-- with a debt of at most a at entry, a program gives a node with a debt of at most b, and stops with one of at most D; what finds no room is counted too
abbrev pub Cost : Counted → ℕ → ℕ → Prog → ℕ → Type 0
Cost x D a (give f) b = a ≤ b
Cost x D a (stop o) b = (a ≤ D) × dec.T (is_own o)
Cost x D a (m >>= k) b = (c : ℕ) × Cost x D a m c × ((f : Found) → Cost x D c (k f) b)
Cost x D a (m >> k) b = (c : ℕ) × Cost x D a m c × Cost x D c k b
Cost x D a (look kind found missing) b = ((i : ℕ) → Cost x D (a - allows x kind) (found i) b) × Cost x D a missing b
Cost x D a (check kind found missing) b = Cost x D a found b × Cost x D a missing b
Cost x D a (at_end found missing) b = Cost x D a found b × Cost x D a missing b
Cost x D a previous b = a ≤ b
Cost x D a (node d) b = (a + per_node x ≤ b) × (a + per_node x ≤ D)
Cost x D a (link prev next) b = a ≤ b
Cost x D a (fail message) b = (a + per_error x ≤ b) × (a + per_error x ≤ D)
Cost x D a (fail_at message token) b = (a + per_error x ≤ b) × (a + per_error x ≤ D)
Cost x D a (consume kind message) b = (a + per_error x ≤ b) × (a + per_error x ≤ D)
Cost x D a (require kind message) b = (a ≤ b + allows x kind) × (a + per_error x ≤ D)
Cost x D a enter_loop b = a ≤ b
Cost x D a leave_loop b = a ≤ b
Cost x D a give_back b = a ≤ b
Cost x D a (inside_loop found missing) b = Cost x D a found b × Cost x D a missing b
Cost x D a (in_function name m) b = Cost x D a m b
Cost x D a (down w) b = (a ≤ b + gain x w) × (a + per_error x ≤ D)

-- ---- what it says of an answer
-- how many were made
abbrev pub counted : Counted → State → ℕ
counted x p = pick x p.nodes p.errors

-- for how many their table has room
abbrev pub room_of : Counted → List ℕ → List ℕ → ℕ
room_of x E N = pick x (room node_width N) (room error_width E)

-- a link leaves the room
pub linked_room : (x : Counted) (E N : List ℕ) (prev next : ℕ) → room_of x E (linked N prev next) ≡ room_of x E N
linked_room x E N prev next = ap (λ (k : ℕ). pick x k (room error_width E)) (room_length node_width (linked N prev next) N (linked_length N prev next))

-- the outcome where one finds no room
abbrev pub lacking : Counted → ℕ
lacking x = pick x no_node_room no_error_room

-- with room for R: what was made, and u more, is at most what the tokens up to the cursor allow, and b more; D more at a stop, and where that is for want of room, so is one more than the room
abbrev OwedOf : Counted → View → ℕ → ℕ → ℕ → ℕ → Reply → Type 0
OwedOf x T R u b D (reply q (Node f) E N) = (counted x q + u ≤ allowed x T.tokens q.current + b) × (room_of x E N ≡ R)
OwedOf x T R u b D (reply q (Stop o) E N) = (counted x q + u ≤ allowed x T.tokens q.current + D) × (o ≡ lacking x → R + 1 + u ≤ allowed x T.tokens q.current + D)

-- as a record, so that antt reads the numbers and the answer off the type
pub record Owed (x : Counted) (T : View) (R u b D : ℕ) (r : Reply) : Type 0 where
  pub owed : OwedOf x T R u b D r

-- a stop of its own is none for want of room
pub not_lacking : (x : Counted) (o : ℕ) → dec.T (is_own o) → o ≡ lacking x → ⊥
not_lacking nodes o t e = subst (λ (k : ℕ). dec.T (is_own k)) e t
not_lacking errors o t e = subst (λ (k : ℕ). dec.T (is_own k)) e t

module _ (x : Counted) (T : View) (R u b D : ℕ) where
  pub owed_less : (v c F : ℕ) (r : Reply) → Owed x T R v c F r → c + u ≤ b + v → F + u ≤ D + v → Owed x T R u b D r
  owed_less v c F (reply q (Node f) E N) h y z = let k = h.owed.0 in record { owed = (omega arith, h.owed.1) }
  owed_less v c F (reply q (Stop o) E N) h y z = let k = h.owed.0 in record { owed = (omega arith, λ e. let w = h.owed.1 e in omega arith) }

  pub owed_then : (c : ℕ) (r : Reply) (k : Found → Reader) → Owed x T R u c D r
      → ((f : Found) (q : State) (E N : List ℕ) → counted x q + u ≤ allowed x T.tokens q.current + c → room_of x E N ≡ R → Owed x T R u b D (k f q E N)) → Owed x T R u b D (and_then r k)
  owed_then c (reply q (Node f) E N) k h g = g f q E N h.owed.0 h.owed.1
  owed_then c (reply q (Stop o) E N) k h g = record { owed = h.owed }

  owed_seen : (s : Option ℕ) (f : ℕ → Reply) (g : Unit {0} → Reply) → ((i : ℕ) → s ≡ Some i → Owed x T R u b D (f i)) → Owed x T R u b D (g tt) → Owed x T R u b D (if_seen s f g)
  owed_seen (Some i) f g h e = h i refl
  owed_seen None f g h e = e

  owed_either : (t : Bool) (f g : Unit {0} → Reply) → Owed x T R u b D (f tt) → Owed x T R u b D (g tt) → Owed x T R u b D (either t f g)
  owed_either true f g h e = h
  owed_either false f g h e = e

  owed_restored : (p : State) (r : Reply) → Owed x T R u b D r → Owed x T R u b D (restored p r)
  owed_restored p (reply q (Node f) E N) h = record { owed = h.owed }
  owed_restored p (reply q (Stop o) E N) h = record { owed = h.owed }

-- ---- one more node or error
module _ (T : View) (R u b D : ℕ) where
  -- where none fits, the room is no more than what was made
  full : (m n s : ℕ) → m ≤ n → m ≡ R → n + 1 + u ≤ s → R + 1 + u ≤ s
  full m n s h e g = omega arith

  owed_node : (x : Counted) (d : rows.Node) (p : State) (E N : List ℕ) → room_of x E N ≡ R
      → counted x p + per_node x + u ≤ allowed x T.tokens p.current + b → counted x p + per_node x + u ≤ allowed x T.tokens p.current + D → Owed x T R u b D (push_node d p E N)
  unfolding push_node
  owed_node nodes d p E N r h g = go (ltb p.nodes (room node_width N)) refl
    where
      go : (t : Bool) → ltb p.nodes (room node_width N) ≡ t → Owed nodes T R u b D (elim t [ true ↦ node_made d p E N | false ↦ reply p (Stop 7) E N ])
      go true t = record { owed = (h, room_length node_width (put node_width N p.nodes (node_words d)) N (put_length node_width N p.nodes (node_words d) refl) ∙ r) }
      go false t = record { owed = (omega arith, λ z. full (room node_width N) p.nodes _ (ltb-false p.nodes (room node_width N) t) r g) }
  owed_node errors d p E N r h g = push_node_lem (Owed errors T R u b D) d p E N (λ _. record { owed = (omega arith, r) }) (record { owed = (omega arith, λ z. absurd (omega (arith, z))) })

  owed_error : (x : Counted) (m i : ℕ) (p : State) (E N : List ℕ) → room_of x E N ≡ R
      → counted x p + per_error x + u ≤ allowed x T.tokens p.current + b → counted x p + per_error x + u ≤ allowed x T.tokens p.current + D → Owed x T R u b D (push_error T.tokens m i p E N)
  unfolding push_error
  owed_error nodes m i p E N r h g = push_error_lem (Owed nodes T R u b D) T.tokens m i p E N (λ _. record { owed = (omega arith, r) }) (record { owed = (omega arith, λ z. absurd (omega (arith, z))) })
  owed_error errors m i p E N r h g = go (ltb p.errors (room error_width E)) refl
    where
      go : (t : Bool) → ltb p.errors (room error_width E) ≡ t → Owed errors T R u b D (elim t [ true ↦ error_made (error_at T.tokens m i) p E N | false ↦ reply p (Stop 6) E N ])
      go true t = let ws = error_words (error_at T.tokens m i) in record { owed = (h, room_length error_width (put error_width E p.errors ws) E (put_length error_width E p.errors ws refl) ∙ r) }
      go false t = record { owed = (omega arith, λ z. full (room error_width E) p.errors _ (ltb-false p.errors (room error_width E) t) r g) }

-- ---- the readers of one token
module _ (x : Counted) (T : View) (R u b D : ℕ) (kind m : ℕ) (p : State) (E N : List ℕ) (r : room_of x E N ≡ R) where
  pub owed_consume : counted x p + per_error x + u ≤ allowed x T.tokens p.current + b → counted x p + per_error x + u ≤ allowed x T.tokens p.current + D → Owed x T R u b D (consume_at T kind m p E N)
  unfolding consume_at
  owed_consume h g =
      owed_seen x T R u b D (matches_at T p.current kind) _ _
      (λ i e. let s = allowed_match x T p.current kind i e in record { owed = (omega arith, r) })
      (owed_error T R u b D x m p.current _ E N r h g)

  -- an unwrapped `consume` gives a node only after its token
  owed_require : counted x p + u ≤ allowed x T.tokens p.current + allows x kind + b → counted x p + per_error x + u ≤ allowed x T.tokens p.current + D → Owed x T R u b D (require_at T kind m p E N)
  unfolding require_at
  owed_require h g =
      owed_seen x T R u b D (matches_at T p.current kind) _ _
      (λ i e. let s = allowed_match x T p.current kind i e in record { owed = (omega arith, r) })
      (owed_then x T R u b D D _ _ (owed_error T R u D D x m p.current _ E N r g g) λ f q E N h r. record { owed = (h, λ z. absurd (not_lacking x 1 tt z)) })

-- ---- the induction
-- what a reader one level down is known to keep to
abbrev pub Keeps : Counted → View → Which → Reader → Type 0
Keeps x T w r = (R u b D v : ℕ) (p : State) (E N : List ℕ) → room_of x E N ≡ R → v ≤ b + gain x w → v + per_error x ≤ D → counted x p + u ≤ allowed x T.tokens p.current + v → Owed x T R u b D (r p E N)

module _ (x : Counted) (T : View) (low : Which → Reader) (g : (w : Which) → Keeps x T w (low w)) (R : ℕ) where
  pub run_owed : (P : Prog) (D a b u v : ℕ) (p : State) (E N : List ℕ) → room_of x E N ≡ R → Cost x D a P b → counted x p + u ≤ allowed x T.tokens p.current + (v + a)
      → Owed x T R u (v + b) (v + D) (run T low P p E N)
  unfolding run
  run_owed (give f) D a b u v p E N r d l = record { owed = (omega arith, r) }
  run_owed (stop o) D a b u v p E N r d l = let y = d.0 in record { owed = (omega arith, λ z. absurd (not_lacking x o d.1 z)) }
  run_owed (m >>= k) D a b u v p E N r d l = owed_then x T R u (v + b) (v + D) (v + d.0) _ _ (run_owed m D a d.0 u v p E N r d.1 l) λ f q E N h r. run_owed (k f) D d.0 b u v q E N r (d.2 f) h
  run_owed (m >> k) D a b u v p E N r d l = owed_then x T R u (v + b) (v + D) (v + d.0) _ _ (run_owed m D a d.0 u v p E N r d.1 l) λ f q E N h r. run_owed k D d.0 b u v q E N r d.2 h
  run_owed (look kind found missing) D a b u v p E N r d l =
      owed_seen x T R u (v + b) (v + D) (matches_at T p.current kind) _ _
      (λ i e. let s = allowed_match x T p.current kind i e in run_owed (found i) D (a - allows x kind) b u v _ E N r (d.0 i) (omega arith))
      (run_owed missing D a b u v _ E N r d.1 l)
  run_owed (check kind found missing) D a b u v p E N r d l =
      owed_seen x T R u (v + b) (v + D) (check_at T p.current kind) _ _
      (λ i e. let s = allowed_on x T.tokens p.current i (check_at_lem T p.current kind i e).0 in run_owed found D a b u v _ E N r d.0 (omega arith))
      (run_owed missing D a b u v _ E N r d.1 l)
  run_owed (at_end found missing) D a b u v p E N r d l = owed_either x T R u (v + b) (v + D) (eqb (kind_at T.tokens p.current) 0) _ _ (run_owed found D a b u v p E N r d.0 l) (run_owed missing D a b u v p E N r d.1 l)
  run_owed previous D a b u v p E N r d l = record { owed = (omega arith, r) }
  run_owed (node c) D a b u v p E N r d l = let y = d.0 in let z = d.1 in owed_node T R u (v + b) (v + D) x c p E N r (omega arith) (omega arith)
  run_owed (link prev next) D a b u v p E N r d l = record { owed = (omega arith, linked_room x E N prev next ∙ r) }
  run_owed (fail message) D a b u v p E N r d l = let y = d.0 in let z = d.1 in owed_error T R u (v + b) (v + D) x message p.current p E N r (omega arith) (omega arith)
  run_owed (fail_at message token) D a b u v p E N r d l = let y = d.0 in let z = d.1 in owed_error T R u (v + b) (v + D) x message (token - 1) p E N r (omega arith) (omega arith)
  run_owed (consume kind message) D a b u v p E N r d l = let y = d.0 in let z = d.1 in owed_consume x T R u (v + b) (v + D) kind message p E N r (omega arith) (omega arith)
  run_owed (require kind message) D a b u v p E N r d l = let y = d.0 in let z = d.1 in owed_require x T R u (v + b) (v + D) kind message p E N r (omega arith) (omega arith)
  run_owed enter_loop D a b u v p E N r d l = record { owed = (omega arith, r) }
  run_owed leave_loop D a b u v p E N r d l = record { owed = (omega arith, r) }
  run_owed give_back D a b u v p E N r d l = record { owed = (omega arith, r) }
  run_owed (inside_loop found missing) D a b u v p E N r d l = owed_either x T R u (v + b) (v + D) (eqb p.loops 0) _ _ (run_owed missing D a b u v p E N r d.1 l) (run_owed found D a b u v p E N r d.0 l)
  run_owed (in_function name m) D a b u v p E N r d l = owed_restored x T R u (v + b) (v + D) p _ (run_owed m D a b u v (looped p 0) E N r d l)
  run_owed (down w) D a b u v p E N r d l = let y = d.0 in let z = d.1 in g w R u (v + b) (v + D) (v + a) p E N r (omega arith) (omega arith) l
