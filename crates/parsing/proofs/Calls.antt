-- The comparison of names in `leave_function` never fails: with the names kept, every program, and `parse` as a whole, does what it does without them. Assumes nothing.
use mathlib.Core.Path.{◌≡◌, refl, subst, subst⁻¹}
use mathlib.Core.Bool.{Bool, true, false}
use mathlib.Core.List.{List, [], ◌∷◌}
use Prim.Native.Nat.{ℕ, zero, suc, ◌-◌}
use native.Mathlib.Omega.{arith}
use borrow.Author.Tests.{eq-eqb}
use lib.Dec.{eqb}
use lib.ListN.{length}
use Rattle.rules.specs.Rules.{loops_behind}
use Rattle.records.specs.Table.{linked}
use Rattle.records.specs.declared.Node as rows
use Rattle.parser.specs.declared.State.{State}
use Rattle.parser.specs.declared.Found.{Found}
use Rattle.std.specs.Prelude.{Option}
use Rattle.std.specs.Prelude.{Some, None}
use Rattle.parser.specs.Tables.{Node, Stop}
use Rattle.parser.specs.Tokens.{View, kind_at, check_at, matches_at}
use Rattle.parser.specs.Tables.{Reply, reply, fresh_state, looped, plain, push_node, push_error, if_seen, and_then, consume_at, require_at}
use Rattle.parser.specs.Programs.{Reader, Which, Declaration, Prog, give, stop, ◌>>=◌, ◌>>◌, look, check, at_end, previous, node, link, fail, fail_at, consume, require, enter_loop, leave_loop, give_back, inside_loop, in_function, down, raised, either, restored, run}
use Rattle.parser.proofs.Push.{push_nodes, push_errors}
use Rattle.parsing.specs.Calls.{Name, script, called, lambda, Call, name_of, same_name, with_loops, Named, named, unequal, NamedReader, then_named, if_named, either_named, leave, run_named, lower_named, NamedParse, came, unequal_names, top_named, or_stops, either_parse, statements_named, parsed_named}
use Rattle.parser.specs.Grammar.{first_of, body, lower}
use Rattle.parser.specs.Whole.{Parsed, top_level, or_ends, if_end, statements, parsed}

-- the answer with names, and the answer without: the same, but that the loop count stands on top of the stack; with a node the functions on the stack are those of before
pub data Agree (cs : List Call) : Named → Reply → Type 0 where
  nodes : (p : State) (f : Found) (E N : List ℕ) (n : ℕ) → Agree cs (named (reply p (Node f) E N) (with_loops cs n)) (reply (looped p n) (Node f) E N)
  stops : (p : State) (o : ℕ) (E N : List ℕ) (ds : List Call) (n : ℕ) → Agree cs (named (reply p (Stop o) E N) ds) (reply (looped p n) (Stop o) E N)

-- a reader with names, and the same without
abbrev pub Agrees : NamedReader → Reader → Type 0
Agrees a r = (c : Call) (cs : List Call) (p : State) (E N : List ℕ) → Agree (c ∷ cs) (a p (c ∷ cs) E N) (r (looped p c.loops) E N)

-- ---- joining
agree_then : (c : Call) (cs : List Call) (x : Named) (y : Reply) (j : Found → NamedReader) (k : Found → Reader) → Agree (c ∷ cs) x y → ((f : Found) → Agrees (j f) (k f))
    → Agree (c ∷ cs) (then_named x j) (and_then y k)
agree_then c cs _ _ j k (nodes p f E N n) h = step (h f (record { function = c.function; loops = n }) cs p E N)
  where
    step : {x : Named} {y : Reply} → Agree (record { function = c.function; loops = n } ∷ cs) x y → Agree (c ∷ cs) x y
    step (nodes p f E N n) = nodes p f E N n
    step (stops p o E N ds n) = stops p o E N ds n
agree_then c cs _ _ j k (stops p o E N ds n) h = stops p o E N ds n

agree_seen : (cs : List Call) (s : Option ℕ) (a : ℕ → Named) (b : Unit {0} → Named) (c : ℕ → Reply) (d : Unit {0} → Reply) → ((i : ℕ) → Agree cs (a i) (c i)) → Agree cs (b tt) (d tt)
    → Agree cs (if_named s a b) (if_seen s c d)
agree_seen cs (Some i) a b c d h g = h i
agree_seen cs None a b c d h g = g

agree_either : (cs : List Call) (t : Bool) (a b : Unit {0} → Named) (c d : Unit {0} → Reply) → Agree cs (a tt) (c tt) → Agree cs (b tt) (d tt) → Agree cs (either_named t a b) (either t c d)
agree_either cs true a b c d h g = h
agree_either cs false a b c d h g = g

-- ---- leaves: the loop count is not looked at
module _ (c : Call) (cs : List Call) where
  agree_node : (p : State) (d : rows.Node) (E N : List ℕ) → Agree (c ∷ cs) (named (push_node d p E N) (c ∷ cs)) (push_node d (looped p c.loops) E N)
  agree_node p d E N = push_nodes (λ x y. Agree (c ∷ cs) (named x (c ∷ cs)) y) d d p (looped p c.loops) E N E N refl refl (λ _. nodes _ _ E _ c.loops) (stops p 7 E N _ c.loops)

  agree_error : (p : State) (t : List ℕ) (message i : ℕ) (E N : List ℕ) → Agree (c ∷ cs) (named (push_error t message i p E N) (c ∷ cs)) (push_error t message i (looped p c.loops) E N)
  agree_error p t message i E N = push_errors (λ x y. Agree (c ∷ cs) (named x (c ∷ cs)) y) t t message i p (looped p c.loops) E N E N refl refl (λ _. nodes _ _ _ N c.loops) (stops p 6 E N _ c.loops)

  -- a token found or not, within a named answer
  inner_seen : (s : Option ℕ) (f f' : ℕ → Reply) (g g' : Unit {0} → Reply) → ((i : ℕ) → Agree (c ∷ cs) (named (f i) (c ∷ cs)) (f' i)) → Agree (c ∷ cs) (named (g tt) (c ∷ cs)) (g' tt)
      → Agree (c ∷ cs) (named (if_seen s f g) (c ∷ cs)) (if_seen s f' g')
  inner_seen (Some i) f f' g g' h e = h i
  inner_seen None f f' g g' h e = e

  agree_consume : (p : State) (T : View) (kind message : ℕ) (E N : List ℕ) → Agree (c ∷ cs) (named (consume_at T kind message p E N) (c ∷ cs)) (consume_at T kind message (looped p c.loops) E N)
  unfolding consume_at
  agree_consume p T kind message E N = inner_seen (matches_at T p.current kind) _ _ _ _ (λ i. nodes _ _ E N c.loops) (agree_error _ T.tokens message p.current E N)

  stopping : {x : Named} {y : Reply} → Agree (c ∷ cs) x y → Agree (c ∷ cs) (then_named x λ f q ds E N. named (reply q (Stop 1) E N) ds) (and_then y λ f q E N. reply q (Stop 1) E N)
  stopping (nodes p f E N n) = stops p 1 E N _ n
  stopping (stops p o E N ds n) = stops p o E N ds n

  -- a stop within a named answer
  inner : (x : Reply) → then_named (named x (c ∷ cs)) (λ f q ds E N. named (reply q (Stop 1) E N) ds) ≡ named (and_then x λ f q E N. reply q (Stop 1) E N) (c ∷ cs)
  inner (reply q (Node f) E N) = refl
  inner (reply q (Stop o) E N) = refl

  inner_stopping : (x y : Reply) → Agree (c ∷ cs) (named x (c ∷ cs)) y → Agree (c ∷ cs) (named (and_then x λ f q E N. reply q (Stop 1) E N) (c ∷ cs)) (and_then y λ f q E N. reply q (Stop 1) E N)
  inner_stopping x y h = subst (λ (z : Named). Agree (c ∷ cs) z (and_then y λ f q E N. reply q (Stop 1) E N)) (inner x) (stopping h)

  agree_require : (p : State) (T : View) (kind message : ℕ) (E N : List ℕ) → Agree (c ∷ cs) (named (require_at T kind message p E N) (c ∷ cs)) (require_at T kind message (looped p c.loops) E N)
  unfolding require_at
  agree_require p T kind message E N =
      inner_seen (matches_at T p.current kind) _ _ _ _ (λ i. nodes _ _ E N c.loops)
      (inner_stopping _ _ (agree_error _ T.tokens message p.current E N))

-- ---- the name on top is the one that was given
same_name_lem : (n : Name) → same_name n n ≡ true
same_name_lem script = refl
same_name_lem (called a) = eq-eqb a a refl
same_name_lem (lambda a) = eq-eqb a a refl

agree_leave : (n : Name) (c : Call) (cs : List Call) (p : State) {x : Named} {y : Reply} → Agree (record { function = n; loops = 0 } ∷ c ∷ cs) x y → Agree (c ∷ cs) (leave n x) (restored (looped p c.loops) y)
agree_leave n c cs p (nodes q f E N k) =
    subst⁻¹ (λ (b : Bool). Agree (c ∷ cs) (either_named b (λ _. named (reply q (Node f) E N) (c ∷ cs)) λ _. unequal) (reply (looped q c.loops) (Node f) E N))
    (same_name_lem n) (nodes q f E N c.loops)
agree_leave n c cs p (stops q o E N ds k) = stops q o E N ds k

-- ---- every program
module _ (T : View) (a : Which → NamedReader) (low : Which → Reader) (h : (w : Which) → Agrees (a w) (low w)) where
  pub run_agrees : (P : Prog) → Agrees (run_named T a P) (run T low P)
  unfolding run_named run
  run_agrees (give f) c cs p E N = nodes p f E N c.loops
  run_agrees (stop o) c cs p E N = stops p o E N _ c.loops
  run_agrees (m >>= k) c cs p E N = agree_then c cs _ _ _ _ (run_agrees m c cs p E N) λ f. run_agrees (k f)
  run_agrees (m >> k) c cs p E N = agree_then c cs _ _ _ _ (run_agrees m c cs p E N) λ f. run_agrees k
  run_agrees (look kind found missing) c cs p E N = agree_seen (c ∷ cs) (matches_at T p.current kind) _ _ _ _ (λ i. run_agrees (found i) c cs _ E N) (run_agrees missing c cs _ E N)
  run_agrees (check kind found missing) c cs p E N = agree_seen (c ∷ cs) (check_at T p.current kind) _ _ _ _ (λ i. run_agrees found c cs _ E N) (run_agrees missing c cs _ E N)
  run_agrees (at_end found missing) c cs p E N = agree_either (c ∷ cs) (eqb (kind_at T.tokens p.current) 0) _ _ _ _ (run_agrees found c cs p E N) (run_agrees missing c cs p E N)
  run_agrees previous c cs p E N = nodes p (plain p.current) E N c.loops
  run_agrees (node d) c cs p E N = agree_node c cs p d E N
  run_agrees (link prev next) c cs p E N = nodes p (plain 0) E (linked N prev next) c.loops
  run_agrees (fail message) c cs p E N = agree_error c cs p T.tokens message p.current E N
  run_agrees (fail_at message token) c cs p E N = agree_error c cs p T.tokens message (token - 1) E N
  run_agrees (consume kind message) c cs p E N = agree_consume c cs p T kind message E N
  run_agrees (require kind message) c cs p E N = agree_require c cs p T kind message E N
  run_agrees enter_loop c cs p E N = nodes p (plain 0) E N (raised c.loops)
  run_agrees leave_loop c cs p E N = nodes p (plain 0) E N (c.loops - 1)
  run_agrees give_back c cs p E N = nodes p (plain 0) E N (loops_behind p.rule c.loops)
  run_agrees (inside_loop found missing) c cs p E N = agree_either (c ∷ cs) (eqb c.loops 0) _ _ _ _ (run_agrees missing c cs p E N) (run_agrees found c cs p E N)
  run_agrees (in_function token m) c cs p E N =
      agree_leave (name_of token (suc (length cs))) c cs p (run_agrees m (record { function = name_of token (suc (length cs)); loops = 0 }) (c ∷ cs) p E N)
  run_agrees (down w) c cs p E N = h w c cs p E N

-- every reading, at every level
pub lower_agrees : (T : View) (l : ℕ) (w : Which) → Agrees (lower_named T l w) (lower T l w)
unfolding lower_named lower
lower_agrees T zero w c cs p E N = stops p 8 E N _ c.loops
lower_agrees T (suc l) w c cs p E N = run_agrees T (lower_named T l) (lower T l) (lower_agrees T l) (body T w) c cs p E N

agree_equal : (cs : List Call) (x : Named) (y : Reply) → Agree cs x y → x ≡ unequal → ⊥
agree_equal cs _ _ (nodes p f E N n) e = let z : ◌≡◌ {A = ℕ} 0 1 = cc in absurd (omega arith)
agree_equal cs _ _ (stops p o E N ds n) e = let z : ◌≡◌ {A = ℕ} 0 1 = cc in absurd (omega arith)

-- the unequal-names branch of `leave_function` is unreachable
pub never_unequal : (T : View) (l : ℕ) (w : Which) (c : Call) (cs : List Call) (p : State) (E N : List ℕ) → lower_named T l w p (c ∷ cs) E N ≡ unequal → ⊥
never_unequal T l w c cs p E N = agree_equal (c ∷ cs) _ _ (lower_agrees T l w c cs p E N)

-- ---- `parse`
-- a top-level statement
top_agrees : (T : View) → Agrees (top_named T) (top_level T)
unfolding top_named top_level
top_agrees T c cs p E N =
    agree_then c cs _ _ _ _ (lower_agrees T 128 Declaration c cs p E N) λ f c cs q E N.
    agree_then c cs _ _ _ _ (agree_consume c cs q T 1 4 E N) λ g c cs r E N. nodes r f E N c.loops

-- the function that `parse` is in, with so many loops open
abbrev top : ℕ → List Call
top n = record { function = script; loops = n } ∷ []

same_or : (first kept m : ℕ) (x : Named) (y : Reply) (j : ℕ → State → List Call → List ℕ → List ℕ → NamedParse) (k : ℕ → State → List ℕ → List ℕ → Parsed) → Agree (top m) x y
    → ((a : ℕ) (q : State) (n : ℕ) (E N : List ℕ) → j a q (top n) E N ≡ came (k a (looped q n) E N)) → or_stops first kept x j ≡ came (or_ends first kept y k)
same_or first kept m _ _ j k (nodes p f E N n) h = h f.node p n E N
same_or first kept m _ _ j k (stops p o E N ds n) h = refl

same_if : (b : Bool) (a c : Unit {0} → NamedParse) (d e : Unit {0} → Parsed) → a tt ≡ came (d tt) → c tt ≡ came (e tt) → either_parse b a c ≡ came (if_end b d e)
same_if true a c d e g h = g
same_if false a c d e g h = h

statements_agree : (f : ℕ) (T : View) (first last : ℕ) (p : State) (n : ℕ) (E N : List ℕ) → statements_named f T first last p (top n) E N ≡ came (statements f T first last (looped p n) E N)
unfolding statements_named statements
statements_agree zero T first last p n E N = refl
statements_agree (suc f) T first last p n E N =
    same_if (eqb (kind_at T.tokens p.current) 0) _ _ _ _ refl
    (same_or first p.nodes n _ _ _ _ (top_agrees T (record { function = script; loops = n }) [] p E N) λ a q n E N. statements_agree f T (first_of first a) a q n E (linked N last a))

-- with the names kept a parsing comes to what it comes to without them
pub parse_agrees : (rule : ℕ) (T : View) (errors : ℕ) (E N : List ℕ) → parsed_named rule T errors E N ≡ came (parsed rule T errors E N)
unfolding parsed_named parsed
parse_agrees rule T errors E N = statements_agree _ T 0 0 (fresh_state rule errors) 0 E N

came_equal : (x : NamedParse) (r : Parsed) → x ≡ came r → x ≡ unequal_names → ⊥
came_equal x r e h = let z : ◌≡◌ {A = ℕ} 0 1 = cc in absurd (omega arith)

-- no `leave_function` of a whole parsing meets another name, and neither does its own at the end
pub parse_never_unequal : (rule : ℕ) (T : View) (errors : ℕ) (E N : List ℕ) → parsed_named rule T errors E N ≡ unequal_names → ⊥
parse_never_unequal rule T errors E N = came_equal _ _ (parse_agrees rule T errors E N)
