-- A typing of programs by what they look, against 45 looks for each token passed; and that it is sound. Assumes nothing.
use mathlib.Core.Path.{◌≡◌, refl}
use mathlib.Core.List.{List}
use mathlib.Core.Bool.{Bool, true, false}
use Prim.Native.Nat.{ℕ, zero, suc, ◌+◌, ◌-◌, ◌*◌, ◌≤◌}
use native.Mathlib.Omega.{arith}
use lib.Dec.{eqb}
use Rattle.records.specs.declared.Node as rows
use Rattle.parser.specs.declared.State.{State}
use Rattle.parser.specs.declared.Found.{Found}
use Rattle.parser.specs.Tables.{Node, Stop}
use Rattle.std.specs.Prelude.{Option}
use Rattle.std.specs.Prelude.{Some, None}
use Rattle.parser.specs.Tokens.{View, kind_at, check_at, matches_at}
use Rattle.parser.specs.Tables.{Reply, reply, moved, looked, counted_by, looped, push_node, push_error, if_seen, and_then, consume_at, require_at}
use Rattle.parser.specs.Programs.{Reader, Which, Declaration, Assignment, Operand, Prog, give, stop, ◌>>=◌, ◌>>◌, look, check, at_end, previous, node, link, fail, fail_at, consume, require, enter_loop, leave_loop, give_back, inside_loop, in_function, down, either, restored, run}
use Rattle.parser.proofs.Push.{push_node_lem, push_error_lem}
use Rattle.progress.proofs.Leaf.{check_at_lem, matches_on, matches_at_lem}

-- a reading that gives a node has made at least so many looks fewer than 45 for each token it passed
abbrev pub gain : Which → ℕ
gain Declaration = 1
gain Assignment = 12
gain Operand = 27

-- one that stops, at most so many more
abbrev pub loss : Which → ℕ
loss Declaration = 26
loss Assignment = 15
loss Operand = 15

-- with a debt of at most a at entry, a program gives a node with a debt of at most b, and stops with one of at most D
abbrev pub Cost : ℕ → ℕ → Prog → ℕ → Type 0
Cost D a (give f) b = a ≤ b
Cost D a (stop o) b = a ≤ D
Cost D a (m >>= k) b = (c : ℕ) × Cost D a m c × ((f : Found) → Cost D c (k f) b)
Cost D a (m >> k) b = (c : ℕ) × Cost D a m c × Cost D c k b
Cost D a (look zero found missing) b = ((i : ℕ) → Cost D (a + 1) (found i) b) × Cost D (a + 1) missing b
Cost D a (look (suc kind) found missing) b = ((i : ℕ) → Cost D (a + 1 - 45) (found i) b) × Cost D (a + 1) missing b
Cost D a (check kind found missing) b = Cost D (a + 1) found b × Cost D (a + 1) missing b
Cost D a (at_end found missing) b = Cost D a found b × Cost D a missing b
Cost D a previous b = a ≤ b
Cost D a (node d) b = (a ≤ b) × (a ≤ D)
Cost D a (link prev next) b = a ≤ b
Cost D a (fail message) b = (a ≤ b) × (a ≤ D)
Cost D a (fail_at message token) b = (a ≤ b) × (a ≤ D)
Cost D a (consume kind message) b = (a + 1 ≤ b) × (a + 1 ≤ D)
Cost D a (require zero message) b = (a + 1 ≤ b) × (a + 1 ≤ D)
Cost D a (require (suc kind) message) b = (a + 1 ≤ b + 45) × (a + 1 ≤ D)
Cost D a enter_loop b = a ≤ b
Cost D a leave_loop b = a ≤ b
Cost D a give_back b = a ≤ b
Cost D a (inside_loop found missing) b = Cost D a found b × Cost D a missing b
Cost D a (in_function name m) b = Cost D a m b
Cost D a (down w) b = (a ≤ b + gain w) × (a + loss w ≤ D)

-- ---- what it says of an answer
-- the looks, and u more, are at most 45 for each token up to the cursor, and d more
abbrev pub Within : ℕ → ℕ → State → Type 0
Within u d q = q.looks + u ≤ 45 * q.current + d

-- b more where a node is given, D more at a stop
abbrev pub OwedOf : ℕ → ℕ → ℕ → Reply → Type 0
OwedOf u b D (reply q (Node f) E N) = Within u b q
OwedOf u b D (reply q (Stop o) E N) = Within u D q

-- as a record, so that antt reads u, b, D and the answer off the type
pub record Owed (u b D : ℕ) (r : Reply) : Type 0 where
  pub owed : OwedOf u b D r

pub owed_less : (u b D v c F : ℕ) (r : Reply) → Owed v c F r → c + u ≤ b + v → F + u ≤ D + v → Owed u b D r
owed_less u b D v c F (reply q (Node f) E N) h x y = let z = h.owed in record { owed = omega arith }
owed_less u b D v c F (reply q (Stop o) E N) h x y = let z = h.owed in record { owed = omega arith }

pub owed_then : (u b D c : ℕ) (r : Reply) (k : Found → Reader) → Owed u c D r → ((f : Found) (q : State) (E N : List ℕ) → Within u c q → Owed u b D (k f q E N)) → Owed u b D (and_then r k)
owed_then u b D c (reply q (Node f) E N) k h g = g f q E N h.owed
owed_then u b D c (reply q (Stop o) E N) k h g = record { owed = h.owed }

owed_seen : (u b D : ℕ) (s : Option ℕ) (f : ℕ → Reply) (g : Unit {0} → Reply) → ((i : ℕ) → s ≡ Some i → Owed u b D (f i)) → Owed u b D (g tt) → Owed u b D (if_seen s f g)
owed_seen u b D (Some i) f g h e = h i refl
owed_seen u b D None f g h e = e

owed_either : (u b D : ℕ) (t : Bool) (f g : Unit {0} → Reply) → Owed u b D (f tt) → Owed u b D (g tt) → Owed u b D (either t f g)
owed_either u b D true f g h e = h
owed_either u b D false f g h e = e

owed_restored : (u b D : ℕ) (p : State) (r : Reply) → Owed u b D r → Owed u b D (restored p r)
owed_restored u b D p (reply q (Node f) E N) h = record { owed = h.owed }
owed_restored u b D p (reply q (Stop o) E N) h = record { owed = h.owed }

owed_push : (u b D : ℕ) (d : rows.Node) (p : State) (E N : List ℕ) → Within u b p → Within u D p → Owed u b D (push_node d p E N)
owed_push u b D d p E N h g = push_node_lem (Owed u b D) d p E N (λ _. record { owed = h }) (record { owed = g })

owed_error : (u b D : ℕ) (t : List ℕ) (m i : ℕ) (p : State) (E N : List ℕ) → Within u b p → Within u D p → Owed u b D (push_error t m i p E N)
owed_error u b D t m i p E N h g = push_error_lem (Owed u b D) t m i p E N (λ _. record { owed = h }) (record { owed = g })

pub owed_consume : (u b D : ℕ) (T : View) (kind m : ℕ) (p : State) (E N : List ℕ) → Within (u + 1) b p → Within (u + 1) D p → Owed u b D (consume_at T kind m p E N)
unfolding consume_at counted_by
owed_consume u b D T kind m p E N h g = owed_seen _ _ _ (matches_at T p.current kind) _ _ (λ i e. let a = matches_on T p.current kind i e in record { owed = omega arith }) (owed_error u b D T.tokens m p.current (looked p 1) E N (omega arith) (omega arith))

-- an unwrapped `consume` gives a node only after its token
owed_require : (u b D : ℕ) (T : View) (kind m : ℕ) (p : State) (E N : List ℕ) → ((i : ℕ) → matches_at T p.current kind ≡ Some i → p.looks + 1 + u ≤ 45 * i + b) → Within (u + 1) D p → Owed u b D (require_at T kind m p E N)
unfolding require_at counted_by
owed_require u b D T kind m p E N h g = owed_seen _ _ _ (matches_at T p.current kind) _ _ (λ i e. let z = h i e in record { owed = omega arith }) (owed_then u b D D _ _ (owed_error u D D T.tokens m p.current (looked p 1) E N (omega arith) (omega arith)) λ f q E N l. record { owed = l })

-- what a reader one level down is known to keep to
abbrev pub Keeps : Which → Reader → Type 0
Keeps w r = (u b D v : ℕ) (p : State) (E N : List ℕ) → v ≤ b + gain w → v + loss w ≤ D → Within u v p → Owed u b D (r p E N)

module _ (T : View) (low : Which → Reader) (g : (w : Which) → Keeps w (low w)) where
  pub run_owed : (P : Prog) (D a b u v : ℕ) (p : State) (E N : List ℕ) → Cost D a P b → Within u (v + a) p → Owed u (v + b) (v + D) (run T low P p E N)
  unfolding run counted_by
  run_owed (give f) D a b u v p E N d l = record { owed = omega arith }
  run_owed (stop o) D a b u v p E N d l = record { owed = omega arith }
  run_owed (m >>= k) D a b u v p E N d l = owed_then u (v + b) (v + D) (v + d.0) _ _ (run_owed m D a d.0 u v p E N d.1 l) λ f q E N h. run_owed (k f) D d.0 b u v q E N (d.2 f) h
  run_owed (m >> k) D a b u v p E N d l = owed_then u (v + b) (v + D) (v + d.0) _ _ (run_owed m D a d.0 u v p E N d.1 l) λ f q E N h. run_owed k D d.0 b u v q E N d.2 h
  run_owed (look zero found missing) D a b u v p E N d l = owed_seen _ _ _ (matches_at T p.current 0) _ _ (λ i e. let s = matches_on T p.current 0 i e in run_owed (found i) D (a + 1) b u v (moved (looked p 1) i) E N (d.0 i) (omega arith)) (run_owed missing D (a + 1) b u v (looked p 1) E N d.1 (omega arith))
  run_owed (look (suc kind) found missing) D a b u v p E N d l = owed_seen _ _ _ (matches_at T p.current (suc kind)) _ _ (λ i e. let s = (matches_at_lem T p.current kind i e).0 in run_owed (found i) D (a + 1 - 45) b u v (moved (looked p 1) i) E N (d.0 i) (omega arith)) (run_owed missing D (a + 1) b u v (looked p 1) E N d.1 (omega arith))
  run_owed (check kind found missing) D a b u v p E N d l = owed_seen _ _ _ (check_at T p.current kind) _ _ (λ i e. let s = (check_at_lem T p.current kind i e).0 in run_owed found D (a + 1) b u v (moved (looked p 1) i) E N d.0 (omega arith)) (run_owed missing D (a + 1) b u v (looked p 1) E N d.1 (omega arith))
  run_owed (at_end found missing) D a b u v p E N d l = owed_either _ _ _ (eqb (kind_at T.tokens p.current) 0) _ _ (run_owed found D a b u v p E N d.0 l) (run_owed missing D a b u v p E N d.1 l)
  run_owed previous D a b u v p E N d l = record { owed = omega arith }
  run_owed (node r) D a b u v p E N d l = let x = d.0 in let y = d.1 in owed_push u (v + b) (v + D) r p E N (omega arith) (omega arith)
  run_owed (link prev next) D a b u v p E N d l = record { owed = omega arith }
  run_owed (fail message) D a b u v p E N d l = let x = d.0 in let y = d.1 in owed_error u (v + b) (v + D) T.tokens message p.current p E N (omega arith) (omega arith)
  run_owed (fail_at message token) D a b u v p E N d l = let x = d.0 in let y = d.1 in owed_error u (v + b) (v + D) T.tokens message (token - 1) p E N (omega arith) (omega arith)
  run_owed (consume kind message) D a b u v p E N d l = let x = d.0 in let y = d.1 in owed_consume u (v + b) (v + D) T kind message p E N (omega arith) (omega arith)
  run_owed (require zero message) D a b u v p E N d l = let x = d.0 in let y = d.1 in owed_require u (v + b) (v + D) T 0 message p E N (λ i e. let s = matches_on T p.current 0 i e in omega arith) (omega arith)
  run_owed (require (suc kind) message) D a b u v p E N d l = let x = d.0 in let y = d.1 in owed_require u (v + b) (v + D) T (suc kind) message p E N (λ i e. let s = (matches_at_lem T p.current kind i e).0 in omega arith) (omega arith)
  run_owed enter_loop D a b u v p E N d l = record { owed = omega arith }
  run_owed leave_loop D a b u v p E N d l = record { owed = omega arith }
  run_owed give_back D a b u v p E N d l = record { owed = omega arith }
  run_owed (inside_loop found missing) D a b u v p E N d l = owed_either _ _ _ (eqb p.loops 0) _ _ (run_owed missing D a b u v p E N d.1 l) (run_owed found D a b u v p E N d.0 l)
  run_owed (in_function name m) D a b u v p E N d l = owed_restored _ _ _ p _ (run_owed m D a b u v (looped p 0) E N d l)
  run_owed (down w) D a b u v p E N d l = let x = d.0 in let y = d.1 in g w u (v + b) (v + D) (v + a) p E N (omega arith) (omega arith) l
