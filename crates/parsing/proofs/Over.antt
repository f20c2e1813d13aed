-- A kind over 49 matches nothing. A lent token table may have such kinds: no test of any reader finds such a token, none passes it, and a parsing whose tokens have one before EOF does not reach its end. Assumes nothing.
use mathlib.Core.Path.{◌≡◌, refl, ap}
use mathlib.Core.Bool.{Bool, true, false, ◌&&◌}
use mathlib.Core.List.{List}
use mathlib.Core.Logic.{⊎_elim}
use Prim.Native.Nat.{ℕ, zero, suc, ◌+◌, ◌≤◌, ◌<◌}
use native.Mathlib.Omega.{arith}
use borrow.Author.Tests.{eqb-true, leb-true}
use lib.Dec.{leb, eqb}
use Rattle.token.specs.Kind.{eof_kind, newline_kind, catch_kind}
use Rattle.records.specs.Table.{linked}
use Rattle.records.proofs.Rooms.{lt_or_le}
use Rattle.parser.specs.declared.State.{State}
use Rattle.parser.specs.declared.Found.{Found}
use Rattle.parser.specs.Tables.{Node, Stop}
use Rattle.std.specs.Prelude.{Option}
use Rattle.std.specs.Prelude.{Some, None}
use Rattle.parser.specs.Tokens.{View, count, kind_at, after, walked, skip_lines, seen_if, check_at, matches_at}
use Rattle.parser.specs.Tables.{Reply, reply, fresh_state, looped, push_error, if_seen, and_then, consume_at, require_at}
use Rattle.parser.specs.Programs.{Reader, Which, Declaration, Prog, give, stop, ◌>>=◌, ◌>>◌, look, check, at_end, previous, node, link, fail, fail_at, consume, require, enter_loop, leave_loop, give_back, inside_loop, in_function, down, either, restored, run}
use Rattle.parser.specs.Grammar.{first_of, body, lower}
use Rattle.parser.specs.Whole.{Parsed, top_level, or_ends, if_end, statements, parsed}
use Rattle.parser.proofs.Push.{push_node_lem, push_error_lem}
use Rattle.lines.proofs.Agrees.{walked_within}
use Rattle.progress.proofs.Moves.{never}
use Rattle.parsing.specs.Asked.{is_asked, Foreign}
use Rattle.parsing.proofs.Ahead.{given_out, given_so, Kept, body_kept}

most : (kind : ℕ) → is_asked kind ≡ true → kind ≤ catch_kind
most kind h = go (leb 1 kind) (leb kind 49) refl h
  where
    go : (a b : Bool) → leb kind 49 ≡ b → (a && b) ≡ true → kind ≤ catch_kind
    go true true f h = leb-true _ _ f
    go true false f h = absurd (never h)
    go false b f h = absurd (never h)

after_most : (T : List ℕ) (i : ℕ) → after T i ≤ i + 1
unfolding after
after_most T i = go (eqb (kind_at T i) 0)
  where
    go : (b : Bool) → elim b [ true ↦ i | false ↦ i + 1 ] ≤ i + 1
    go true = omega arith
    go false = omega arith

-- what is found is a token before token e
abbrev Before : ℕ → Option ℕ → Type 0
Before e (Some i) = i < e
Before e None = Unit {0}

-- past it the cursor is at or before e
abbrev UpTo : ℕ → Option ℕ → Type 0
UpTo e (Some i) = i ≤ e
UpTo e None = Unit {0}

-- a reading leaves the cursor at or before e, and does not stop with 0
abbrev pub ShortOf : ℕ → Reply → Type 0
ShortOf e (reply q (Node f) E N) = q.current ≤ e
ShortOf e (reply q (Stop o) E N) = (q.current ≤ e) × (1 ≤ o)

pub record Short (e : ℕ) (r : Reply) : Type 0 where
  pub short : ShortOf e r

-- token e is of a kind over 49, and no newlines before it lead past it
module _ (T : View) (e : ℕ) (over : catch_kind < kind_at T.tokens e) (within : (i : ℕ) → i ≤ e → skip_lines T i ≤ e) where
  -- ---- tests
  seen_before : (i kind : ℕ) → i ≤ e → kind ≤ catch_kind → (b : Bool) → eqb (kind_at T.tokens i) kind ≡ b → Before e (seen_if b i)
  unfolding seen_if
  seen_before i kind l m true h =
      let k : kind_at T.tokens i ≡ kind = eqb-true _ _ h in
      ⊎_elim (λ x. x) (λ x. let s : e ≡ i = omega arith in let o = over in let q = ap (kind_at T.tokens) s in absurd (omega (arith, q, k, o, m))) (lt_or_le i e)
  seen_before i kind l m false h = tt

  -- no test for a kind up to 49 finds that token, from wherever it starts
  pub check_before : (i kind : ℕ) → i ≤ e → kind ≤ catch_kind → Before e (check_at T i kind)
  unfolding check_at
  check_before i kind l m = go (eqb kind 1)
    where
      go : (b : Bool) → Before e (elim b [ true ↦ seen_if (eqb (kind_at T.tokens i) 1) i | false ↦ seen_if (eqb (kind_at T.tokens (skip_lines T i)) kind) (skip_lines T i) ])
      go true = seen_before i 1 l (omega arith) (eqb (kind_at T.tokens i) 1) refl
      go false = seen_before (skip_lines T i) kind (within i l) m (eqb (kind_at T.tokens (skip_lines T i)) kind) refl

  -- and none passes it
  pub matches_before : (i kind : ℕ) → i ≤ e → kind ≤ catch_kind → UpTo e (matches_at T i kind)
  unfolding matches_at
  matches_before i kind l m = go (check_at T i kind) (check_before i kind l m)
    where
      go : (s : Option ℕ) → Before e s → UpTo e (elim s [ Some j ↦ Some (after T.tokens j) | None ↦ None ])
      go (Some j) x = let a = after_most T.tokens j in omega arith
      go None x = tt

  -- ---- steps of a reading
  short_then : (r : Reply) (k : Found → Reader) → Short e r → ((f : Found) (q : State) (E N : List ℕ) → q.current ≤ e → Short e (k f q E N)) → Short e (and_then r k)
  short_then (reply q (Node f) E N) k x g = g f q E N x.short
  short_then (reply q (Stop o) E N) k x g = record { short = x.short }

  short_seen : (s : Option ℕ) (f : ℕ → Reply) (g : Unit {0} → Reply) → UpTo e s → ((i : ℕ) → i ≤ e → Short e (f i)) → Short e (g tt) → Short e (if_seen s f g)
  short_seen (Some i) f g l x y = x i l
  short_seen None f g l x y = y

  short_found : (s : Option ℕ) (f : ℕ → Reply) (g : Unit {0} → Reply) → Before e s → ((i : ℕ) → i ≤ e → Short e (f i)) → Short e (g tt) → Short e (if_seen s f g)
  short_found (Some i) f g l x y = x i (omega arith)
  short_found None f g l x y = y

  short_either : (b : Bool) (f g : Unit {0} → Reply) → Short e (f tt) → Short e (g tt) → Short e (either b f g)
  short_either true f g x y = x
  short_either false f g x y = y

  short_restored : (p : State) (r : Reply) → Short e r → Short e (restored p r)
  short_restored p (reply q (Node f) E N) x = record { short = x.short }
  short_restored p (reply q (Stop o) E N) x = record { short = x.short }

  short_error : (m i : ℕ) (p : State) (E N : List ℕ) → p.current ≤ e → Short e (push_error T.tokens m i p E N)
  short_error m i p E N l = push_error_lem (Short e) T.tokens m i p E N (λ _. record { short = l }) (record { short = (l, omega arith) })

  short_consume : (kind m : ℕ) → kind ≤ catch_kind → (p : State) (E N : List ℕ) → p.current ≤ e → Short e (consume_at T kind m p E N)
  unfolding consume_at
  short_consume kind m k p E N l = short_seen (matches_at T p.current kind) _ _ (matches_before p.current kind l k) (λ i h. record { short = h }) (short_error m p.current _ E N l)

  short_require : (kind m : ℕ) → kind ≤ catch_kind → (p : State) (E N : List ℕ) → p.current ≤ e → Short e (require_at T kind m p E N)
  unfolding require_at
  short_require kind m k p E N l =
      short_seen (matches_at T p.current kind) _ _ (matches_before p.current kind l k) (λ i h. record { short = h })
      (short_then _ _ (short_error m p.current _ E N l) λ f q E N h. record { short = (h, omega arith) })

  -- ---- every program
  module _ (low : Which → Reader) (g : (w : Which) (p : State) (E N : List ℕ) → p.current ≤ e → Short e (low w p E N)) where
    run_short : (P : Prog) → Kept e P → (p : State) (E N : List ℕ) → p.current ≤ e → Short e (run T low P p E N)
    unfolding run
    run_short (give f) k p E N l = record { short = l }
    run_short (stop o) k p E N l = record { short = (l, leb-true 1 o (given_so (leb 1 o) _ k)) }
    run_short (m >>= n) k p E N l = short_then _ _ (run_short m k.0 p E N l) λ f q E N h. run_short (n f) (k.1 f) q E N h
    run_short (m >> n) k p E N l = short_then _ _ (run_short m k.0 p E N l) λ f q E N h. run_short n k.1 q E N h
    run_short (look kind found missing) k p E N l =
        short_seen (matches_at T p.current kind) _ _ (matches_before p.current kind l (most kind (given_so (is_asked kind) _ k))) (λ i h. run_short (found i) ((given_out (is_asked kind) k).0 i h) _ E N h)
        (run_short missing (given_out (is_asked kind) k).1 _ E N l)
    run_short (check kind found missing) k p E N l =
        short_found (check_at T p.current kind) _ _ (check_before p.current kind l (most kind (given_so (is_asked kind) _ k))) (λ i h. run_short found (given_out (is_asked kind) k).0 _ E N h)
        (run_short missing (given_out (is_asked kind) k).1 _ E N l)
    run_short (at_end found missing) k p E N l = short_either (eqb (kind_at T.tokens p.current) 0) _ _ (run_short found k.0 p E N l) (run_short missing k.1 p E N l)
    run_short previous k p E N l = record { short = l }
    run_short (node d) k p E N l = push_node_lem (Short e) d p E N (λ _. record { short = l }) (record { short = (l, omega arith) })
    run_short (link prev next) k p E N l = record { short = l }
    run_short (fail message) k p E N l = short_error message p.current p E N l
    run_short (fail_at message token) k p E N l = short_error message _ p E N l
    run_short (consume kind message) k p E N l = short_consume kind message (most kind (given_so (is_asked kind) _ k)) p E N l
    run_short (require kind message) k p E N l = short_require kind message (most kind (given_so (is_asked kind) _ k)) p E N l
    run_short enter_loop k p E N l = record { short = l }
    run_short leave_loop k p E N l = record { short = l }
    run_short give_back k p E N l = record { short = l }
    run_short (inside_loop found missing) k p E N l = short_either (eqb p.loops 0) _ _ (run_short missing k.1 p E N l) (run_short found k.0 p E N l)
    run_short (in_function name m) k p E N l = short_restored p _ (run_short m k (looped p 0) E N l)
    run_short (down w) k p E N l = g w p E N l

  -- a reading at any level that starts at or before such a token never passes it
  pub never_passed : (l : ℕ) (w : Which) (p : State) (E N : List ℕ) → p.current ≤ e → Short e (lower T l w p E N)
  unfolding lower
  never_passed zero w p E N h = record { short = (h, omega arith) }
  never_passed (suc l) w p E N h = run_short (lower T l) (never_passed l) (body T w) (body_kept T e w) p E N h

  pub top_never_passed : (p : State) (E N : List ℕ) → p.current ≤ e → Short e (top_level T p E N)
  unfolding top_level
  top_never_passed p E N l = short_then _ _ (never_passed 128 Declaration p E N l) λ f q E N h. short_then _ _ (short_consume 1 4 (omega arith) q E N h) λ g r E N i. record { short = i }

  -- ---- the whole, where no EOF comes before it
  module _ (before : (i : ℕ) → i < e → kind_at T.tokens i ≡ eof_kind → ⊥) where
    short_or : (first kept : ℕ) (r : Reply) (k : ℕ → State → List ℕ → List ℕ → Parsed) → Short e r → ((n : ℕ) (q : State) (E N : List ℕ) → q.current ≤ e → 1 ≤ (k n q E N).outcome) → 1 ≤ (or_ends first kept r k).outcome
    short_or first kept (reply q (Node f) E N) k x h = h f.node q E N x.short
    short_or first kept (reply q (Stop o) E N) k x h = x.short.1

    no_end : (i : ℕ) → i ≤ e → kind_at T.tokens i ≡ eof_kind → ⊥
    no_end i l z = ⊎_elim (λ x. before i x z) (λ x. let s : e ≡ i = omega arith in let o = over in let q = ap (kind_at T.tokens) s in absurd (omega (arith, q, z, o))) (lt_or_le i e)

    short_if : (i : ℕ) → i ≤ e → (b : Bool) → eqb (kind_at T.tokens i) eof_kind ≡ b → (f g : Unit {0} → Parsed) → 1 ≤ (g tt).outcome → 1 ≤ (if_end b f g).outcome
    short_if i l true z f g h = absurd (no_end i l (eqb-true _ _ z))
    short_if i l false z f g h = h

    statements_short : (n first last : ℕ) (p : State) (E N : List ℕ) → p.current ≤ e → 1 ≤ (statements n T first last p E N).outcome
    unfolding statements
    statements_short zero first last p E N l = omega arith
    statements_short (suc n) first last p E N l =
        short_if p.current l (eqb (kind_at T.tokens p.current) 0) refl _ _
        (short_or first p.nodes _ _ (top_never_passed p E N l) λ m q E N h. statements_short n (first_of first m) m q E (linked N last m) h)

-- at such a token, also where newlines lead to it, every test for a kind that a reader asks for fails
pub over_nothing : (T : View) (i kind : ℕ) → is_asked kind ≡ true → catch_kind < kind_at T.tokens (skip_lines T i) → (kind ≡ newline_kind → kind_at T.tokens i ≡ newline_kind → ⊥) → matches_at T i kind ≡ None
unfolding matches_at check_at seen_if
over_nothing T i kind a o n = go (eqb kind 1) refl
  where
    none : (b : Bool) (j k : ℕ) → eqb (kind_at T.tokens j) k ≡ b → (kind_at T.tokens j ≡ k → ⊥) → ◌≡◌ {A = Option ℕ} (elim (seen_if b j) [ Some j ↦ Some (after T.tokens j) | None ↦ None ]) None
    none true j k e h = absurd (h (eqb-true _ _ e))
    none false j k e h = refl

    go : (b : Bool) → eqb kind 1 ≡ b
        → ◌≡◌ {A = Option ℕ} (elim (elim b as (λ _. Option ℕ) [ true ↦ seen_if (eqb (kind_at T.tokens i) 1) i | false ↦ seen_if (eqb (kind_at T.tokens (skip_lines T i)) kind) (skip_lines T i) ]) [ Some j ↦ Some (after T.tokens j) | None ↦ None ]) None
    go true e = none (eqb (kind_at T.tokens i) 1) i 1 refl (n (eqb-true _ _ e))
    go false e = none (eqb (kind_at T.tokens (skip_lines T i)) kind) (skip_lines T i) kind refl (λ z. let m = most kind a in absurd (omega (arith, z, m, o)))

-- a parsing whose tokens have such a kind before EOF does not reach its end
pub foreign_stops : (rule : ℕ) (t : List ℕ) (e : ℕ) → Foreign t e → (errors : ℕ) (E N : List ℕ) → 1 ≤ (parsed rule (walked t) errors E N).outcome
unfolding parsed
foreign_stops rule t e x errors E N =
    let k = x.kind in
    statements_short (walked t) e k (walked_within t e (λ o. absurd (omega (arith, o, k)))) x.before (suc (count t)) 0 0 (fresh_state rule errors) E N (omega arith)
