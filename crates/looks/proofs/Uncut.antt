-- The looks of a parsing are its calls of `check`, as far as a word counts; with no more tokens than a reading keeps, none is cut off. Assumes nothing.
use mathlib.Core.Path.{◌≡◌, refl}
use mathlib.Core.List.{List}
use mathlib.Core.Bool.{Bool, true, false, cond}
use Prim.Native.Nat.{ℕ, zero, suc, ◌+◌, ◌-◌, ◌≤◌, ◌<◌, min}
use native.Mathlib.Omega.{arith}
use lib.Dec.{eqb}
use Rattle.token.specs.Kind.{newline_kind}
use Rattle.records.specs.Table.{linked}
use Rattle.records.specs.declared.Node as rows
use Rattle.parser.specs.declared.State.{State}
use Rattle.parser.specs.declared.Found.{Found}
use Rattle.parser.specs.Tables.{Got}
use Rattle.parser.specs.Tables.{Node, Stop}
use Rattle.std.specs.Prelude.{Option}
use Rattle.std.specs.Prelude.{Some, None}
use Rattle.parser.specs.Tokens.{View, count, kind_at, check_at, matches_at}
use Rattle.parser.specs.Tables.{Reply, reply, moved, looked, counted_by, looped, fresh_state, push_node, push_error, if_seen, and_then, consume_at, require_at}
use Rattle.parser.specs.Programs.{Reader, Which, Declaration, Prog, give, stop, ◌>>=◌, ◌>>◌, look, check, at_end, previous, node, link, fail, fail_at, consume, require, enter_loop, leave_loop, give_back, inside_loop, in_function, down, either, restored, run}
use Rattle.parser.specs.Grammar.{first_of, declaration, body, lower}
use Rattle.parser.specs.Whole.{Parsed, top_level, or_ends, if_end, statements, parsed}
use Rattle.parser.proofs.Push.{push_node_lem, push_error_lem}
use Rattle.parsing.specs.Ahead.{Agree}
use Rattle.looks.specs.Checks.{Checks, onward, checks_if, checks, lower_checks, top_checks, statements_checks, parsed_checks}
use Rattle.looks.proofs.Bound.{looks_small}

-- so many calls, as far as a word counts
abbrev cut : ℕ → ℕ
cut n = min n 4294967295

abbrev looks_of : Reply → ℕ
looks_of (reply q g E N) = q.looks

-- an answer's looks are n calls, as far as a word counts; as a record, so that antt reads the answer off the type
record Told (n : ℕ) (r : Reply) : Type 0 where
  told : looks_of r ≡ cut n

-- from a state whose looks are n calls a reader makes so many calls more, and its answer's looks tell them all
abbrev Tells : Reader → Checks → Type 0
Tells r c = (n : ℕ) (p : State) (E N : List ℕ) → p.looks ≡ cut n → Told (n + c p E N) (r p E N)

told_then : (n m : ℕ) (r : Reply) (k : Found → Reader) (c : Found → Checks) → Told (n + m) r → ((f : Found) → Tells (k f) (c f)) → Told (n + (m + onward r c)) (and_then r k)
told_then n m (reply q (Node f) E N) k c t h = let z = (h f (n + m) q E N t.told).told in record { told = omega arith }
told_then n m (reply q (Stop o) E N) k c t h = let z = t.told in record { told = omega arith }

-- a look counts one, and what comes after it
told_look : (n : ℕ) (s : Option ℕ) (f : ℕ → Reply) (g : Unit {0} → Reply) (c : ℕ → ℕ) (d : ℕ) → ((i : ℕ) → Told (n + 1 + c i) (f i)) → Told (n + 1 + d) (g tt) → Told (n + (1 + checks_if s c d)) (if_seen s f g)
told_look n (Some i) f g c d h e = let z = (h i).told in record { told = omega arith }
told_look n None f g c d h e = let z = e.told in record { told = omega arith }

told_seen : (n : ℕ) (s : Option ℕ) (f : ℕ → Reply) (g : Unit {0} → Reply) → ((i : ℕ) → Told n (f i)) → Told n (g tt) → Told n (if_seen s f g)
told_seen n (Some i) f g h e = h i
told_seen n None f g h e = e

told_either : (n : ℕ) (t : Bool) (f g : Unit {0} → Reply) (c d : ℕ) → Told (n + c) (f tt) → Told (n + d) (g tt) → Told (n + cond t c d) (either t f g)
told_either n true f g c d h e = h
told_either n false f g c d h e = e

told_restored : (n : ℕ) (p : State) (r : Reply) → Told n r → Told n (restored p r)
told_restored n p (reply q (Node f) E N) h = record { told = h.told }
told_restored n p (reply q (Stop o) E N) h = record { told = h.told }

told_push : (n : ℕ) (d : rows.Node) (p : State) (E N : List ℕ) → p.looks ≡ cut n → Told n (push_node d p E N)
told_push n d p E N h = push_node_lem (Told n) d p E N (λ _. record { told = h }) (record { told = h })

told_error : (n : ℕ) (t : List ℕ) (m i : ℕ) (p : State) (E N : List ℕ) → p.looks ≡ cut n → Told n (push_error t m i p E N)
told_error n t m i p E N h = push_error_lem (Told n) t m i p E N (λ _. record { told = h }) (record { told = h })

told_consume : (T : View) (kind m : ℕ) → Tells (consume_at T kind m) λ p E N. 1
unfolding consume_at counted_by
told_consume T kind m n p E N h = told_seen (n + 1) (matches_at T p.current kind) _ _ (λ i. record { told = omega arith }) (told_error (n + 1) T.tokens m p.current (looked p 1) E N (omega arith))

-- what was found may be exchanged, or be a reason to stop
told_after : (n : ℕ) (g : Found → Got) (r : Reply) → Told n r → Told n (and_then r λ f q E N. reply q (g f) E N)
told_after n g (reply q (Node f) E N) t = record { told = t.told }
told_after n g (reply q (Stop o) E N) t = record { told = t.told }

told_require : (T : View) (kind m : ℕ) → Tells (require_at T kind m) λ p E N. 1
unfolding require_at counted_by
told_require T kind m n p E N h = told_seen (n + 1) (matches_at T p.current kind) _ _ (λ i. record { told = omega arith }) (told_after (n + 1) _ _ (told_error (n + 1) T.tokens m p.current (looked p 1) E N (omega arith)))

module _ (T : View) (low : Which → Reader) (c : Which → Checks) (g : (w : Which) → Tells (low w) (c w)) where
  run_told : (P : Prog) → Tells (run T low P) (checks T low c P)
  unfolding run checks counted_by
  run_told (give f) n p E N h = record { told = omega arith }
  run_told (stop o) n p E N h = record { told = omega arith }
  run_told (m >>= k) n p E N h = told_then n _ _ _ _ (run_told m n p E N h) λ f. run_told (k f)
  run_told (m >> k) n p E N h = told_then n _ _ _ _ (run_told m n p E N h) λ f. run_told k
  run_told (look kind found missing) n p E N h = told_look n (matches_at T p.current kind) _ _ _ _ (λ i. run_told (found i) (n + 1) (moved (looked p 1) i) E N (omega arith)) (run_told missing (n + 1) (looked p 1) E N (omega arith))
  run_told (check kind found missing) n p E N h = told_look n (check_at T p.current kind) _ _ _ _ (λ i. run_told found (n + 1) (moved (looked p 1) i) E N (omega arith)) (run_told missing (n + 1) (looked p 1) E N (omega arith))
  run_told (at_end found missing) n p E N h = told_either n (eqb (kind_at T.tokens p.current) 0) _ _ _ _ (run_told found n p E N h) (run_told missing n p E N h)
  run_told previous n p E N h = record { told = omega arith }
  run_told (node d) n p E N h = told_push _ d p E N (omega arith)
  run_told (link prev next) n p E N h = record { told = omega arith }
  run_told (fail message) n p E N h = told_error _ T.tokens message p.current p E N (omega arith)
  run_told (fail_at message token) n p E N h = told_error _ T.tokens message (token - 1) p E N (omega arith)
  run_told (consume kind message) n p E N h = let z = (told_consume T kind message n p E N h).told in record { told = omega arith }
  run_told (require kind message) n p E N h = let z = (told_require T kind message n p E N h).told in record { told = omega arith }
  run_told enter_loop n p E N h = record { told = omega arith }
  run_told leave_loop n p E N h = record { told = omega arith }
  run_told give_back n p E N h = record { told = omega arith }
  run_told (inside_loop found missing) n p E N h = told_either n (eqb p.loops 0) _ _ _ _ (run_told missing n p E N h) (run_told found n p E N h)
  run_told (in_function name m) n p E N h = told_restored _ p _ (run_told m n (looped p 0) E N h)
  run_told (down w) n p E N h = g w n p E N h

lower_told : (T : View) (l : ℕ) (w : Which) → Tells (lower T l w) (lower_checks T l w)
unfolding lower lower_checks
lower_told T zero w n p E N h = record { told = omega arith }
lower_told T (suc l) w n p E N h = run_told T (lower T l) (lower_checks T l) (lower_told T l) (body T w) n p E N h

-- every call of a top-level statement is among its looks
top_told : (T : View) → Tells (top_level T) (top_checks T)
unfolding top_level top_checks
top_told T n p E N h = told_then n _ _ _ _ (lower_told T 128 Declaration n p E N h) λ f n q E N h. let z = (told_after (n + 1) (λ _. Node f) _ (told_consume T newline_kind 4 n q E N h)).told in record { told = omega arith }

-- ---- the whole
told_or : (n m first kept : ℕ) (r : Reply) (k : ℕ → State → List ℕ → List ℕ → Parsed) (c : Found → Checks) → Told (n + m) r → ((f : Found) (n : ℕ) (q : State) (E N : List ℕ) → q.looks ≡ cut n → (k f.node q E N).looks ≡ cut (n + c f q E N)) → (or_ends first kept r k).looks ≡ cut (n + (m + onward r c))
told_or n m first kept (reply q (Node f) E N) k c t h = let z = h f (n + m) q E N t.told in omega arith
told_or n m first kept (reply q (Stop o) E N) k c t h = let z = t.told in omega arith

told_if : (n : ℕ) (t : Bool) (f g : Unit {0} → Parsed) (c d : ℕ) → (f tt).looks ≡ cut (n + c) → (g tt).looks ≡ cut (n + d) → (if_end t f g).looks ≡ cut (n + cond t c d)
told_if n true f g c d h e = h
told_if n false f g c d h e = e

statements_told : (f : ℕ) (T : View) (first last n : ℕ) (p : State) (E N : List ℕ) → p.looks ≡ cut n → (statements f T first last p E N).looks ≡ cut (n + statements_checks f T last p E N)
unfolding statements statements_checks
statements_told zero T first last n p E N h = omega arith
statements_told (suc f) T first last n p E N h =
    told_if n (eqb (kind_at T.tokens p.current) 0) _ _ _ _ (omega arith)
    (told_or n _ first p.nodes _ _ _ (top_told T n p E N h) λ m n q E N h. statements_told f T (first_of first m.node) m.node n q E (linked N last m.node) h)

-- of any token table: the looks are the calls of `check`, as far as a word counts
pub looks_told : (rule : ℕ) (T : View) (errors : ℕ) (E N : List ℕ) → (parsed rule T errors E N).looks ≡ min (parsed_checks rule T errors E N) 4294967295
unfolding parsed parsed_checks
looks_told rule T errors E N = let h = statements_told (suc (count T.tokens)) T 0 0 0 (fresh_state rule errors) E N (omega arith) in omega arith

-- with at most 65,537 tokens, as many as a source within the limit can have, of which the last is EOF: the number returned is the number of calls of `check`, uncut
pub looks_uncut : (rule : ℕ) (T : View) (e errors : ℕ) (E N : List ℕ) → Agree e T T → e ≤ 65536 → (parsed rule T errors E N).looks ≡ parsed_checks rule T errors E N
looks_uncut rule T e errors E N same l =
    let h = looks_small T e same rule errors E N in
    let k = looks_told rule T errors E N in
    omega arith

-- ---- a parsing that stops has made a look
top_some : (T : View) (p : State) (E N : List ℕ) → 0 < top_checks T p E N
unfolding top_checks lower_checks checks body declaration
top_some T p E N = omega arith

pub looks_some : (rule : ℕ) (T : View) (errors : ℕ) (E N : List ℕ) → ((parsed rule T errors E N).outcome ≡ 0 → ⊥) → 0 < (parsed rule T errors E N).looks
unfolding parsed statements parsed_checks statements_checks
looks_some rule T errors E N n =
    let k = looks_told rule T errors E N in
    let h : 0 < parsed_checks rule T errors E N = at (eqb (kind_at T.tokens 0) 0) _ _ _ n refl in
    omega arith
  where
    at : (b : Bool) (f g : Unit {0} → Parsed) (m : ℕ) → ((if_end b f g).outcome ≡ 0 → ⊥) → (f tt).outcome ≡ 0 → 0 < cond b 0 (top_checks T (fresh_state rule errors) E N + m)
    at true f g m n z = absurd (n z)
    at false f g m n z = let h = top_some T (fresh_state rule errors) E N in omega arith
