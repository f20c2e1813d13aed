-- The binary operators as one loop: from the tightest level to the loosest, a turn for each operator. Assumes nothing.
use mathlib.Core.Path.{◌≡◌, refl, sym, ap, ◌∙◌}
use mathlib.Core.Bool.{Bool, true, false, ◌||◌, ◌&&◌}
use mathlib.Core.List.{List, [], ◌∷◌}
use mathlib.Core.Logic.{⊎_elim}
use Prim.Native.Nat.{ℕ, zero, suc, ◌+◌, ◌-◌, ◌<◌, ◌≤◌}
use native.Mathlib.Omega.{arith}
use lib.Dec.{eqb, leb, ltb}
use lib.ListN.{length, drop}
use lib.Seq.{drop-nil}
use borrow.Author.Tests.{eqb-true, eqb-false, ltb-true, ltb-false, leb-true, leb-false, lt-ltb, le-ltb, le-leb, lt-leb}
use Rattle.records.specs.declared.Node as rows
use Rattle.parser.specs.declared.State.{State}
use Rattle.parser.specs.declared.Found.{Found}
use Rattle.parser.specs.Tables.{Node}
use Rattle.parser.specs.declared.Coming.{Coming}
use Rattle.parser.specs.Tokens.{View, count, peek_at}
use Rattle.parser.specs.Tables.{Reply, reply, moved, looked, and_then, push_node}
use Rattle.parser.specs.Nodes.{logical_row, binary_row}
use Rattle.parser.specs.Programs.{Which, Reader, Prog, look, run}
use Rattle.parser.specs.Grammar.{Level, levels, row_if, operation, fuel, unary, look_many, binary_from, binary}
use Rattle.pieces.specs.Pieces.{among, place_in}
use Rattle.operators.specs.declared.Tried.{Tried}
use Rattle.std.specs.Prelude.{Option, Some, None}
use Rattle.operators.specs.Operators.{rank_in, binary_at, onward, behind_first, tests_of, behind_in, turn_of, turn_at}
use Rattle.parser.proofs.Write.{looked_more, looked_none}
use Rattle.progress.proofs.Moves.{never}
use Rattle.pieces.proofs.Then.{then_then, then_give, then_same}
use Rattle.pieces.proofs.NextKind.{Next, peeked, look_here, look_past, Each, of_each}
use Rattle.records.proofs.Rooms.{lt_or_le}
use Rattle.pieces.proofs.Turns.{next_past}

-- ---- the level of an operator
-- level n of a list; past its end the tightest does not matter
abbrev level_at : List Level → ℕ → Level
level_at [] n = record { logical = false; operators = [] }
level_at (l ∷ ls) zero = l
level_at (l ∷ ls) (suc n) = level_at ls n

more : (a b : ℕ) → suc (a + b) ≡ suc a + b
more a b = omega arith

level_drop : (ls : List Level) (a b : ℕ) → level_at (drop a ls) b ≡ level_at ls (a + b)
level_drop ls zero b = let z : b ≡ 0 + b = omega arith in ap (level_at ls) z
level_drop [] (suc a) b = refl
level_drop (l ∷ ls) (suc a) b = level_drop ls a b ∙ ap (level_at (l ∷ ls)) (more a b)

-- what is known of an operator of level n, the loosest 0: its rank is the level's; it is no Newline and no EOF; the tests up to it in its level, with those after
-- it, are all of the levels up to its own; and those after it are at least all of the looser levels, and fewer than with its own
record Ranked (n k : ℕ) : Type 0 where
  level : rank_in 1 levels k ≡ suc n
  line : eqb k 1 ≡ false
  some : ltb 0 k ≡ true
  tried : behind_in 0 levels k + place_in 1 (level_at levels n).operators k ≡ tests_of levels (suc n)
  low : leb (tests_of levels n) (behind_in 0 levels k) ≡ true
  high : ltb (behind_in 0 levels k) (tests_of levels (suc n)) ≡ true

ranked : (n : ℕ) → n < 7 → Each (Ranked n) (level_at levels n).operators
unfolding rank_in among place_in tests_of behind_in
ranked zero h = (record { level = refl; line = refl; some = refl; tried = refl; low = refl; high = refl }, tt)
ranked (suc zero) h = (record { level = refl; line = refl; some = refl; tried = refl; low = refl; high = refl }, tt)
ranked (suc (suc zero)) h = (record { level = refl; line = refl; some = refl; tried = refl; low = refl; high = refl }, (record { level = refl; line = refl; some = refl; tried = refl; low = refl; high = refl }, tt))
ranked (suc (suc (suc zero))) h = (record { level = refl; line = refl; some = refl; tried = refl; low = refl; high = refl }, (record { level = refl; line = refl; some = refl; tried = refl; low = refl; high = refl }, (record { level = refl; line = refl; some = refl; tried = refl; low = refl; high = refl }, (record { level = refl; line = refl; some = refl; tried = refl; low = refl; high = refl }, tt))))
ranked (suc (suc (suc (suc zero)))) h = (record { level = refl; line = refl; some = refl; tried = refl; low = refl; high = refl }, (record { level = refl; line = refl; some = refl; tried = refl; low = refl; high = refl }, tt))
ranked (suc (suc (suc (suc (suc zero))))) h = (record { level = refl; line = refl; some = refl; tried = refl; low = refl; high = refl }, (record { level = refl; line = refl; some = refl; tried = refl; low = refl; high = refl }, (record { level = refl; line = refl; some = refl; tried = refl; low = refl; high = refl }, tt)))
ranked (suc (suc (suc (suc (suc (suc zero)))))) h = (record { level = refl; line = refl; some = refl; tried = refl; low = refl; high = refl }, tt)
ranked (suc (suc (suc (suc (suc (suc (suc n))))))) h = absurd (omega arith)

-- a level's tests join those of the looser ones
tests_more : (n : ℕ) → n < 7 → tests_of levels (suc n) ≡ tests_of levels n + length (level_at levels n).operators
unfolding tests_of
tests_more zero h = refl
tests_more (suc zero) h = refl
tests_more (suc (suc zero)) h = refl
tests_more (suc (suc (suc zero))) h = refl
tests_more (suc (suc (suc (suc zero)))) h = refl
tests_more (suc (suc (suc (suc (suc zero))))) h = refl
tests_more (suc (suc (suc (suc (suc (suc zero)))))) h = refl
tests_more (suc (suc (suc (suc (suc (suc (suc n))))))) h = absurd (omega arith)

-- with tighter levels there are no fewer tests
tests_on : (ls : List Level) (m n : ℕ) → tests_of ls m ≤ tests_of ls (m + n)
unfolding tests_of
tests_on ls zero n = omega arith
tests_on [] (suc m) n = omega arith
tests_on (l ∷ ls) (suc m) n =
    let h = tests_on ls m n in
    let e = ap (tests_of (l ∷ ls)) (more m n) in
    omega (arith, h, e)

-- and from seven levels on all of them
pub tests_all : (n : ℕ) → (n ≡ 0 → ⊥) → (n ≡ 1 → ⊥) → (n ≡ 2 → ⊥) → (n ≡ 3 → ⊥) → (n ≡ 4 → ⊥) → (n ≡ 5 → ⊥) → (n ≡ 6 → ⊥) → 14 ≡ tests_of levels n
unfolding tests_of
tests_all zero h0 h1 h2 h3 h4 h5 h6 = absurd (h0 refl)
tests_all (suc zero) h0 h1 h2 h3 h4 h5 h6 = absurd (h1 refl)
tests_all (suc (suc zero)) h0 h1 h2 h3 h4 h5 h6 = absurd (h2 refl)
tests_all (suc (suc (suc zero))) h0 h1 h2 h3 h4 h5 h6 = absurd (h3 refl)
tests_all (suc (suc (suc (suc zero)))) h0 h1 h2 h3 h4 h5 h6 = absurd (h4 refl)
tests_all (suc (suc (suc (suc (suc zero))))) h0 h1 h2 h3 h4 h5 h6 = absurd (h5 refl)
tests_all (suc (suc (suc (suc (suc (suc zero)))))) h0 h1 h2 h3 h4 h5 h6 = absurd (h6 refl)
tests_all (suc (suc (suc (suc (suc (suc (suc zero))))))) h0 h1 h2 h3 h4 h5 h6 = refl
tests_all (suc (suc (suc (suc (suc (suc (suc (suc n)))))))) h0 h1 h2 h3 h4 h5 h6 = refl

-- a rank is 0 or one of the levels from the first on
rank_from : (ls : List Level) (m k kind : ℕ) → rank_in (suc m) ls kind ≡ suc k → m ≤ k
unfolding rank_in
rank_from [] m k kind e = absurd (omega arith)
rank_from (l ∷ ls) m k kind e = go (among l.operators kind) e (rank_from ls (suc m) k kind)
  where
    go : (b : Bool) → elim b [ true ↦ suc m | false ↦ rank_in (suc (suc m)) ls kind ] ≡ suc k → (rank_in (suc (suc m)) ls kind ≡ suc k → suc m ≤ k) → m ≤ k
    go true e f = omega arith
    go false e f = let h = f e in omega arith

-- a kind whose rank is a level's is among its operators
ranked_in : (ls : List Level) (a n kind : ℕ) → rank_in (suc a) ls kind ≡ suc (a + n) → among (level_at ls n).operators kind ≡ true
unfolding rank_in
ranked_in [] a n kind e = absurd (omega arith)
ranked_in (l ∷ ls) a n kind e = go (among l.operators kind) refl n e λ m. ranked_in ls (suc a) m kind
  where
    go : (b : Bool) → among l.operators kind ≡ b → (n : ℕ) → elim b [ true ↦ suc a | false ↦ rank_in (suc (suc a)) ls kind ] ≡ suc (a + n) → ((m : ℕ) → rank_in (suc (suc a)) ls kind ≡ suc (suc a + m) → among (level_at ls m).operators kind ≡ true) → among (level_at (l ∷ ls) n).operators kind ≡ true
    go true t zero e f = t
    go true t (suc n) e f = absurd (omega arith)
    go false t zero e f = let h = rank_from ls (suc a) (a + 0) kind e in absurd (omega arith)
    go false t (suc n) e f = let s : suc (a + suc n) ≡ suc (suc a + n) = omega arith in f n (e ∙ s)

-- ---- `matches_many` by the next token's kind
no_lines : (n : ℕ) (ks : List ℕ) → Each (Ranked n) ks → Each (λ k. eqb k 1 ≡ false) ks
no_lines n [] h = tt
no_lines n (k ∷ ks) h = (h.0.line, no_lines n ks h.1)

module _ (T : View) (low : Which → Reader) (found : ℕ → Prog) (missing : Prog) (p : State) (E N : List ℕ) (kind j : ℕ) (x : Next T p.current kind j) where
  -- the place of the kind among those that are tried is the number of looks
  abbrev many : ℕ → List ℕ → Bool → Reply
  many n ks b = elim b [ true ↦ run T low (found j) (moved (looked p (place_in (n + 1) ks kind)) j) E N | false ↦ run T low missing (looked p (n + length ks)) E N ]

  many_from : (n : ℕ) (ks : List ℕ) → Each (λ k. eqb k 1 ≡ false) ks → run T low (look_many T ks found missing) (looked p n) E N ≡ many n ks (among ks kind)
  unfolding look_many among place_in
  many_from n [] l = let z : n ≡ n + 0 = omega arith in ap (λ (n : ℕ). run T low missing (looked p n) E N) z
  many_from n (k ∷ ks) l = go (eqb kind k) refl (many_from (n + 1) ks l.1)
    where
      go : (b : Bool) → eqb kind k ≡ b → run T low (look_many T ks found missing) (looked p (n + 1)) E N ≡ many (n + 1) ks (among ks kind) →
          run T low (look k found (look_many T ks found missing)) (looked p n) E N ≡ elim (b || among ks kind) [ true ↦ run T low (found j) (moved (looked p (elim b [ true ↦ n + 1 | false ↦ place_in (n + 1 + 1) ks kind ])) j) E N | false ↦ run T low missing (looked p (n + length (k ∷ ks))) E N ]
      go true t e = look_here T low k found (look_many T ks found missing) (looked p n) E N kind j x l.0 (eqb-true kind k t) ∙ ap (λ (q : State). run T low (found j) (moved q j) E N) (looked_more p n 1)
      go false t e =
          let z : n + 1 + length ks ≡ n + length (k ∷ ks) = omega arith in
          look_past T low k found (look_many T ks found missing) (looked p n) E N kind j x l.0 (eqb-false kind k t)
          ∙ ap (λ (q : State). run T low (look_many T ks found missing) q E N) (looked_more p n 1)
          ∙ e
          ∙ ap (λ (i : ℕ). elim (among ks kind) [ true ↦ run T low (found j) (moved (looked p (place_in (n + 1 + 1) ks kind)) j) E N | false ↦ run T low missing (looked p i) E N ]) z

  module _ (n : ℕ) (h : n < 7) where
    level_by : (b : Bool) → among (level_at levels n).operators kind ≡ b → run T low (look_many T (level_at levels n).operators found missing) p E N ≡ many 0 (level_at levels n).operators b
    level_by b e =
        ap (λ (q : State). run T low (look_many T (level_at levels n).operators found missing) q E N) (sym (looked_none p))
        ∙ many_from 0 (level_at levels n).operators (no_lines n (level_at levels n).operators (ranked n h))
        ∙ ap (many 0 (level_at levels n).operators) e

    level_found : rank_in 1 levels kind ≡ suc n → run T low (look_many T (level_at levels n).operators found missing) p E N ≡ run T low (found j) (moved (looked p (place_in 1 (level_at levels n).operators kind)) j) E N
    level_found e = let z : suc n ≡ suc (0 + n) = omega arith in level_by true (ranked_in levels 0 n kind (e ∙ z))

    level_missing : (rank_in 1 levels kind ≡ suc n → ⊥) → run T low (look_many T (level_at levels n).operators found missing) p E N ≡ run T low missing (looked p (length (level_at levels n).operators)) E N
    level_missing e = let z : 0 + length (level_at levels n).operators ≡ length (level_at levels n).operators = omega arith in go (among (level_at levels n).operators kind) refl ∙ ap (λ (i : ℕ). run T low missing (looked p i) E N) z
      where
        go : (b : Bool) → among (level_at levels n).operators kind ≡ b → run T low (look_many T (level_at levels n).operators found missing) p E N ≡ run T low missing (looked p (0 + length (level_at levels n).operators)) E N
        go true t = absurd (e (of_each (Ranked n) (level_at levels n).operators (ranked n h) kind t).level)
        go false t = level_by false t

-- what is known of a kind by its rank
ranked_kind : (kind r : ℕ) → 0 < r → r ≤ 7 → rank_in 1 levels kind ≡ r → Ranked (r - 1) kind
ranked_kind kind r a b e =
    let s : r ≡ suc (0 + (r - 1)) = omega arith in
    of_each (Ranked (r - 1)) (level_at levels (r - 1)).operators (ranked (r - 1) (omega arith)) kind (ranked_in levels 0 (r - 1) kind (e ∙ s))

-- an operator is passed
operator_past : (T : View) (at kind j r : ℕ) → Next T at kind j → 0 < r → r ≤ 7 → rank_in 1 levels kind ≡ r → (at < j) × (at < count T.tokens)
operator_past T at kind j r x a b e = let k = ranked_kind kind r a b e in next_past T at kind j kind x refl k.line k.some

-- ---- what a turn does
-- no rank is above the last level's
rank_most : (ls : List Level) (m kind : ℕ) → rank_in (suc m) ls kind ≤ m + length ls
unfolding rank_in
rank_most [] m kind = omega arith
rank_most (l ∷ ls) m kind = go (among l.operators kind) (rank_most ls (suc m) kind)
  where
    go : (b : Bool) → rank_in (suc (suc m)) ls kind ≤ suc m + length ls → elim b [ true ↦ suc m | false ↦ rank_in (suc (suc m)) ls kind ] ≤ m + length (l ∷ ls)
    go true h = omega arith
    go false h = omega (arith, h)

-- a kind of no level has all tests after it
behind_all : (ls : List Level) (m n kind : ℕ) → rank_in (suc m) ls kind ≡ 0 → behind_in n ls kind ≡ n + tests_of ls (length ls)
unfolding rank_in behind_in tests_of
behind_all [] m n kind e = omega arith
behind_all (l ∷ ls) m n kind e = go (among l.operators kind) e (behind_all ls (suc m) (n + length l.operators) kind)
  where
    go : (b : Bool) → ◌≡◌ {A = ℕ} (elim b [ true ↦ suc m | false ↦ rank_in (suc (suc m)) ls kind ]) 0 → (rank_in (suc (suc m)) ls kind ≡ 0 → behind_in (n + length l.operators) ls kind ≡ n + length l.operators + tests_of ls (length ls)) →
        ◌≡◌ {A = ℕ} (elim b [ true ↦ n + length l.operators - place_in 1 l.operators kind | false ↦ behind_in (n + length l.operators) ls kind ]) (n + (length l.operators + tests_of ls (length ls)))
    go true e f = absurd (omega arith)
    go false e f = let h = f e in omega (arith, h)

-- the levels up to a tighter one have no fewer tests
tests_grow : (m n : ℕ) → m ≤ n → tests_of levels m ≤ tests_of levels n
tests_grow m n h =
    let z : m + (n - m) ≡ n = omega arith in
    let t = tests_on levels m (n - m) in
    let e = ap (tests_of levels) z in
    omega (arith, t, e)

-- and none more than all, of which there are so many
tests_sum : tests_of levels (length levels) ≡ 14
unfolding tests_of
tests_sum = refl

tests_most : (n : ℕ) → tests_of levels n ≤ 14
tests_most n =
    let t = tests_grow n (n + 7) (omega arith) in
    let e = tests_all (n + 7) (λ e. absurd (omega arith)) (λ e. absurd (omega arith)) (λ e. absurd (omega arith)) (λ e. absurd (omega arith)) (λ e. absurd (omega arith)) (λ e. absurd (omega arith)) (λ e. absurd (omega arith)) in
    omega (arith, t, e)

module _ (kind : ℕ) where
  -- an operator of level n is tighter than `looser` where the tests after it are at least those up to there
  above : (n looser : ℕ) → Ranked n kind → leb (tests_of levels looser) (behind_in 0 levels kind) ≡ ltb looser (suc n)
  above n looser k = ⊎_elim tighter not_tighter (lt_or_le looser (suc n))
    where
      tighter : looser < suc n → leb (tests_of levels looser) (behind_in 0 levels kind) ≡ ltb looser (suc n)
      tighter h =
          let t = tests_grow looser n (omega arith) in
          let b = leb-true (tests_of levels n) (behind_in 0 levels kind) k.low in
          le-leb (tests_of levels looser) (behind_in 0 levels kind) (omega (arith, t, b)) ∙ sym (lt-ltb _ _ h)

      not_tighter : suc n ≤ looser → leb (tests_of levels looser) (behind_in 0 levels kind) ≡ ltb looser (suc n)
      not_tighter h =
          let t = tests_grow (suc n) looser h in
          let b = ltb-true (behind_in 0 levels kind) (tests_of levels (suc n)) k.high in
          lt-leb (tests_of levels looser) (behind_in 0 levels kind) (omega (arith, t, b)) ∙ sym (le-ltb _ _ h)

  -- and at most as tight as `tightest` where they are fewer than those up to there
  within : (n tightest : ℕ) → Ranked n kind → ltb (behind_in 0 levels kind) (tests_of levels tightest) ≡ leb (suc n) tightest
  within n tightest k = ⊎_elim looser_one not_looser (lt_or_le tightest (suc n))
    where
      looser_one : tightest < suc n → ltb (behind_in 0 levels kind) (tests_of levels tightest) ≡ leb (suc n) tightest
      looser_one h =
          let t = tests_grow tightest n (omega arith) in
          let b = leb-true (tests_of levels n) (behind_in 0 levels kind) k.low in
          le-ltb (behind_in 0 levels kind) (tests_of levels tightest) (omega (arith, t, b)) ∙ sym (lt-leb _ _ h)

      not_looser : suc n ≤ tightest → ltb (behind_in 0 levels kind) (tests_of levels tightest) ≡ leb (suc n) tightest
      not_looser h =
          let t = tests_grow (suc n) tightest h in
          let b = ltb-true (behind_in 0 levels kind) (tests_of levels (suc n)) k.high in
          lt-ltb (behind_in 0 levels kind) (tests_of levels tightest) (omega (arith, t, b)) ∙ sym (le-leb _ _ h)

  -- so the code's test is the definition's
  between : (looser tightest : ℕ) → leb (tests_of levels looser) (behind_in 0 levels kind) && ltb (behind_in 0 levels kind) (tests_of levels tightest) ≡ ltb looser (rank_in 1 levels kind) && leb (rank_in 1 levels kind) tightest
  between looser tightest = go (rank_in 1 levels kind) refl
    where
      none : (a b : Bool) → b ≡ false → a && b ≡ false
      none true b e = e
      none false b e = refl

      go : (r : ℕ) → rank_in 1 levels kind ≡ r → leb (tests_of levels looser) (behind_in 0 levels kind) && ltb (behind_in 0 levels kind) (tests_of levels tightest) ≡ ltb looser r && leb r tightest
      go zero e =
          let b = behind_all levels 0 0 kind e in
          let t = tests_most tightest in
          none (leb (tests_of levels looser) (behind_in 0 levels kind)) (ltb (behind_in 0 levels kind) (tests_of levels tightest)) (le-ltb (behind_in 0 levels kind) (tests_of levels tightest) (omega (arith, b, t, tests_sum))) ∙ sym (ap (λ (a : Bool). a && leb 0 tightest) (le-ltb looser 0 (omega arith)))
      go (suc n) e =
          let m = rank_most levels 0 kind in
          let z : suc n ≡ suc (0 + n) = omega arith in
          let k = of_each (Ranked n) (level_at levels n).operators (ranked n (omega (arith, m, e))) kind (ranked_in levels 0 n kind (e ∙ z)) in
          ap (λ (a : Bool). a && ltb (behind_in 0 levels kind) (tests_of levels tightest)) (above n looser k) ∙ ap (λ (b : Bool). ltb looser (suc n) && b) (within n tightest k)

-- a turn by what its test says
turn_takes : (looser tightest rank behind past : ℕ) → ltb looser rank && leb rank tightest ≡ true → record { turn = Some (rank, past); looks = tests_of levels tightest - behind } ≡ turn_of looser tightest rank behind past
unfolding turn_of
turn_takes looser tightest rank behind past t = rw (t, turn_of)

turn_over : (looser tightest rank behind past : ℕ) → ltb looser rank && leb rank tightest ≡ false → record { turn = None; looks = tests_of levels tightest - tests_of levels looser } ≡ turn_of looser tightest rank behind past
unfolding turn_of
turn_over looser tightest rank behind past t = rw (t, turn_of)

-- by what `peek`, `tests_of` and `behind_of` give
module _ (T : View) (at looser tightest : ℕ) (c : Coming) (e : c ≡ peek_at T at) (all closed behind : ℕ) (o : all ≡ tests_of levels tightest) (l : closed ≡ tests_of levels looser) (b : behind ≡ behind_in 0 levels c.kind) where
  test : leb closed behind && ltb behind all ≡ ltb looser (rank_in 1 levels c.kind) && leb (rank_in 1 levels c.kind) tightest
  test = ap (λ (n : ℕ). leb n behind && ltb behind all) l ∙ ap (λ (n : ℕ). leb (tests_of levels looser) n && ltb n all) b ∙ ap (λ (n : ℕ). leb (tests_of levels looser) (behind_in 0 levels c.kind) && ltb (behind_in 0 levels c.kind) n) o ∙ between c.kind looser tightest

  turn_by : turn_of looser tightest (rank_in 1 levels c.kind) (behind_in 0 levels c.kind) c.past ≡ turn_at T at looser tightest
  unfolding turn_at
  turn_by = ap (λ (c : Coming). turn_of looser tightest (rank_in 1 levels c.kind) (behind_in 0 levels c.kind) c.past) e

  pub takes : (rank looks : ℕ) → rank ≡ rank_in 1 levels c.kind → looks ≡ all - behind → leb closed behind && ltb behind all ≡ true → ◌≡◌ {A = Tried} (record { turn = Some (rank, c.past); looks = looks }) (turn_at T at looser tightest)
  takes rank looks k n t =
      ap (λ (r : ℕ). record { turn = Some (r, c.past); looks = looks }) k
      ∙ ap (λ (n : ℕ). record { turn = Some (rank_in 1 levels c.kind, c.past); looks = n }) (n ∙ ap (λ (n : ℕ). n - behind) o ∙ ap (λ (n : ℕ). tests_of levels tightest - n) b)
      ∙ turn_takes looser tightest (rank_in 1 levels c.kind) (behind_in 0 levels c.kind) c.past (sym test ∙ t)
      ∙ turn_by

  pub over : (looks : ℕ) → looks ≡ all - closed → leb closed behind && ltb behind all ≡ false → ◌≡◌ {A = Tried} (record { turn = None; looks = looks }) (turn_at T at looser tightest)
  over looks n t =
      ap (λ (n : ℕ). record { turn = None; looks = n }) (n ∙ ap (λ (n : ℕ). n - closed) o ∙ ap (λ (n : ℕ). tests_of levels tightest - n) l)
      ∙ turn_over looser tightest (rank_in 1 levels c.kind) (behind_in 0 levels c.kind) c.past (sym test ∙ t)
      ∙ turn_by

-- an operator that is taken is of a level between, and is passed
pub record Taken (T : View) (at looser tightest rank past : ℕ) : Type 0 where
  pub above : looser < rank
  pub within : rank ≤ tightest
  pub passed : at < past
  pub inside : at < count T.tokens

taken_by : (T : View) (at looser tightest kind j : ℕ) → Next T at kind j → tightest ≤ 7 → (rank past : ℕ) → (turn_of looser tightest (rank_in 1 levels kind) (behind_in 0 levels kind) j).turn ≡ Some (rank, past) → Taken T at looser tightest rank past
unfolding turn_of
taken_by T at looser tightest kind j x h rank past e = go (ltb looser (rank_in 1 levels kind)) refl (leb (rank_in 1 levels kind) tightest) refl e
  where
    takes_one : Option (ℕ × ℕ) → Bool
    takes_one None = false
    takes_one (Some t) = true

    level_of : Option (ℕ × ℕ) → ℕ
    level_of None = 0
    level_of (Some t) = t.0

    past_of : Option (ℕ × ℕ) → ℕ
    past_of None = 0
    past_of (Some t) = t.1

    none : ◌≡◌ {A = Option (ℕ × ℕ)} None (Some (rank, past)) → Taken T at looser tightest rank past
    none e = never (ap takes_one e)

    turn : Bool → Tried
    turn b =
        elim b [
          | true ↦ record { turn = Some (rank_in 1 levels kind, j); looks = tests_of levels tightest - behind_in 0 levels kind }
          | false ↦ record { turn = None; looks = tests_of levels tightest - tests_of levels looser }
        ]

    go : (a : Bool) → ltb looser (rank_in 1 levels kind) ≡ a → (b : Bool) → leb (rank_in 1 levels kind) tightest ≡ b → (turn (a && b)).turn ≡ Some (rank, past) → Taken T at looser tightest rank past
    go true s true t e =
        let k : rank_in 1 levels kind ≡ rank = ap level_of e in
        let i : j ≡ past = ap past_of e in
        let a = ltb-true looser (rank_in 1 levels kind) s in
        let b = leb-true (rank_in 1 levels kind) tightest t in
        let g = operator_past T at kind j rank x (omega (arith, a, k)) (omega (arith, b, k, h)) k in
        record { above = omega (arith, a, k); within = omega (arith, b, k); passed = omega (arith, g.0, i); inside = g.1 }
    go true s false t e = none e
    go false s b t e = none e

pub taken : (T : View) (at looser tightest rank past : ℕ) → tightest ≤ 7 → (turn_at T at looser tightest).turn ≡ Some (rank, past) → Taken T at looser tightest rank past
unfolding turn_at
taken T at looser tightest rank past h e = taken_by T at looser tightest _ _ (peeked T at _ refl) h rank past e

-- the two loosest levels make a Logical
operation_at : (n : ℕ) → n < 7 → (left operator right : ℕ) → operation (level_at levels n) left operator right ≡ row_if (leb (suc n) 2) (logical_row left operator right) (binary_row left operator right)
operation_at zero h left operator right = refl
operation_at (suc zero) h left operator right = refl
operation_at (suc (suc zero)) h left operator right = refl
operation_at (suc (suc (suc zero))) h left operator right = refl
operation_at (suc (suc (suc (suc zero)))) h left operator right = refl
operation_at (suc (suc (suc (suc (suc zero))))) h left operator right = refl
operation_at (suc (suc (suc (suc (suc (suc zero)))))) h left operator right = refl
operation_at (suc (suc (suc (suc (suc (suc (suc n))))))) h left operator right = absurd (omega arith)

-- ---- the nested loops as one
module _ (T : View) (low : Which → Reader) where
  -- before the first operator
  onward_all : (ls : List Level) (p : State) (E N : List ℕ) → run T low (binary T ls) p E N ≡ and_then (run T low (unary T) p E N) λ g q E N. run T low (onward T (fuel T) ls (length ls) g) q E N
  unfolding run binary onward
  onward_all [] p E N = sym (then_give _)
  onward_all (l ∷ []) p E N = refl
  onward_all (l ∷ m ∷ ls) p E N = ap (λ (r : Reply). and_then r λ h q E N. run T low (binary_from T l (binary T (m ∷ ls)) (fuel T) h) q E N) (onward_all (m ∷ ls) p E N) ∙ then_then (run T low (unary T) p E N) (λ g q E N. run T low (onward T (fuel T) (m ∷ ls) (length (m ∷ ls)) g) q E N) (λ h q E N. run T low (binary_from T l (binary T (m ∷ ls)) (fuel T) h) q E N)

  module _ (f : ℕ) (g : Found) (p q : State) (E N : List ℕ) where
    -- an operator of the level, in state q after it
    onward_found : (ls : List Level) (n : ℕ) → n < length ls → (j : ℕ) → ((found : ℕ → Prog) (missing : Prog) → run T low (look_many T (level_at ls n).operators found missing) p E N ≡ run T low (found j) q E N) →
        run T low (onward T (suc f) ls (suc n) g) p E N ≡ and_then (run T low (binary T (drop (suc n) ls)) q E N) λ right q E N. and_then (push_node (operation (level_at ls n) g.node j right.node) q E N) λ o q E N. run T low (onward T f ls (suc n) o) q E N
    unfolding run onward binary_from
    onward_found [] n h j e = absurd (omega arith)
    onward_found (l ∷ ls) zero h j e = e _ _
    onward_found (l ∷ ls) (suc n) h j e =
        ap (λ (r : Reply). and_then r λ h q E N. run T low (binary_from T l (binary T ls) (fuel T) h) q E N) (onward_found ls n (omega arith) j e)
        ∙ then_then (run T low (binary T (drop (suc n) ls)) q E N) _ _
        ∙ then_same (run T low (binary T (drop (suc n) ls)) q E N) _ _ λ right q E N. then_then (push_node (operation (level_at ls n) g.node j right.node) q E N) _ _

    -- none of the level: the next looser level's loop begins
    onward_missing : (ls : List Level) (n : ℕ) → n < length ls → ((found : ℕ → Prog) (missing : Prog) → run T low (look_many T (level_at ls n).operators found missing) p E N ≡ run T low missing q E N) →
        run T low (onward T (suc f) ls (suc n) g) p E N ≡ run T low (onward T (fuel T) ls n g) q E N
    unfolding run onward binary_from
    onward_missing [] n h e = absurd (omega arith)
    onward_missing (l ∷ ls) zero h e = e _ _
    onward_missing (l ∷ ls) (suc zero) h e = ap (λ (r : Reply). and_then r λ h q E N. run T low (binary_from T l (binary T ls) (fuel T) h) q E N) (onward_missing ls zero (omega arith) e)
    onward_missing (l ∷ ls) (suc (suc n)) h e = ap (λ (r : Reply). and_then r λ h q E N. run T low (binary_from T l (binary T ls) (fuel T) h) q E N) (onward_missing ls (suc n) (omega arith) e)

-- the fuel after a turn that n levels ended before: a level's own runs on, and a level that is entered anew has all of it
unfoldable pub spare : View → ℕ → ℕ → ℕ
spare T f zero = f
spare T f (suc n) = count T.tokens

spare_all : (T : View) (n : ℕ) → spare T (count T.tokens) n ≡ count T.tokens
unfolding spare
spare_all T zero = refl
spare_all T (suc n) = refl

-- that fuel is enough for the tokens from one on
pub spare_enough : (T : View) (at f n : ℕ) → count T.tokens - at ≤ f → count T.tokens - at ≤ spare T f n
unfolding spare
spare_enough T at f zero h = h
spare_enough T at f (suc n) h = omega arith

-- ---- in the code's numbers: level r is the tightest that is still open, and the loosest so many are not read here
length_levels : (a : ℕ) → length (drop a levels) ≡ 7 - a
length_levels zero = refl
length_levels (suc zero) = refl
length_levels (suc (suc zero)) = refl
length_levels (suc (suc (suc zero))) = refl
length_levels (suc (suc (suc (suc zero)))) = refl
length_levels (suc (suc (suc (suc (suc zero))))) = refl
length_levels (suc (suc (suc (suc (suc (suc zero)))))) = refl
length_levels (suc (suc (suc (suc (suc (suc (suc a))))))) = ap length (drop-nil a) ∙ omega arith

drop_drop : (ls : List Level) (a b : ℕ) → drop b (drop a ls) ≡ drop (a + b) ls
drop_drop ls zero b = let z : 0 + b ≡ b = omega arith in rw (z)
drop_drop [] (suc a) b = drop-nil b ∙ sym (drop-nil (suc a + b))
drop_drop (l ∷ ls) (suc a) b = drop_drop ls a b ∙ ap (λ (n : ℕ). drop n (l ∷ ls)) (more a b)

module _ (T : View) (low : Which → Reader) (looser : ℕ) where
  pub turns_all : (p : State) (E N : List ℕ) → run T low (binary_at T looser) p E N ≡ and_then (run T low (unary T) p E N) λ g q E N. run T low (behind_first T looser g) q E N
  turns_all p E N = rw (← length_levels looser) (onward_all T low (drop looser levels) p E N)

  turns_none : (f r : ℕ) (g : Found) (p : State) (E N : List ℕ) → r ≤ looser → run T low (onward T f (drop looser levels) (r - looser) g) p E N ≡ reply p (Node g) E N
  unfolding run onward
  turns_none f r g p E N h = let z : r - looser ≡ 0 = omega arith in rw (z)

  module _ (f r : ℕ) (g : Found) (p : State) (E N : List ℕ) (kind j : ℕ) (x : Next T p.current kind j) (a : looser < r) (b : r ≤ 7) where
    level : level_at (drop looser levels) (r - looser - 1) ≡ level_at levels (r - 1)
    level = let s : looser + (r - looser - 1) ≡ r - 1 = omega arith in level_drop levels looser (r - looser - 1) ∙ ap (level_at levels) s

    -- the level's tests, as those of its place among the levels that are read here
    tried : (found : ℕ → Prog) (missing : Prog) → run T low (look_many T (level_at (drop looser levels) (r - looser - 1)).operators found missing) p E N ≡ run T low (look_many T (level_at levels (r - 1)).operators found missing) p E N
    tried found missing = ap (λ (l : Level). run T low (look_many T l.operators found missing) p E N) level

    turn_found : rank_in 1 levels kind ≡ r →
        run T low (onward T (suc f) (drop looser levels) (r - looser) g) p E N ≡ and_then (run T low (binary_at T r) (moved (looked p (place_in 1 (level_at levels (r - 1)).operators kind)) j) E N) λ right q E N. and_then (push_node (row_if (leb r 2) (logical_row g.node j right.node) (binary_row g.node j right.node)) q E N) λ o q E N. run T low (onward T f (drop looser levels) (r - looser) o) q E N
    turn_found e =
        let m : suc (r - looser - 1) ≡ r - looser = omega arith in
        let s : suc (r - 1) ≡ r = omega arith in
        let v : looser + suc (r - looser - 1) ≡ r = omega arith in
        let d : drop (suc (r - looser - 1)) (drop looser levels) ≡ drop r levels = drop_drop levels looser (suc (r - looser - 1)) ∙ ap (λ (n : ℕ). drop n levels) v in
        let o : (right : ℕ) → operation (level_at (drop looser levels) (r - looser - 1)) g.node j right ≡ row_if (leb r 2) (logical_row g.node j right) (binary_row g.node j right) = λ right. ap (λ (l : Level). operation l g.node j right) level ∙ operation_at (r - 1) (omega arith) g.node j right ∙ ap (λ (n : ℕ). row_if (leb n 2) (logical_row g.node j right) (binary_row g.node j right)) s in
        let p' : State = moved (looked p (place_in 1 (level_at levels (r - 1)).operators kind)) j in
        let u = onward_found T low f g p p' E N (drop looser levels) (r - looser - 1) (omega (arith, length_levels looser)) j (λ found missing. tried found missing ∙ level_found T low found missing p E N kind j x (r - 1) (omega arith) (e ∙ sym s)) in
        ap (λ (n : ℕ). run T low (onward T (suc f) (drop looser levels) n g) p E N) (sym m)
        ∙ u
        ∙ ap (λ (ls : List Level). and_then (run T low (binary T ls) p' E N) λ right q E N. and_then (push_node (operation (level_at (drop looser levels) (r - looser - 1)) g.node j right.node) q E N) λ o q E N. run T low (onward T f (drop looser levels) (suc (r - looser - 1)) o) q E N) d
        ∙ then_same (run T low (binary T (drop r levels)) p' E N) _ _ λ right q E N. ap (λ (row : rows.Node). and_then (push_node row q E N) λ o q E N. run T low (onward T f (drop looser levels) (suc (r - looser - 1)) o) q E N) (o right.node)
        ∙ ap (λ (n : ℕ). and_then (push_node (row_if (leb r 2) (logical_row g.node j right.node) (binary_row g.node j right.node)) q E N) λ o q E N. run T low (onward T f (drop looser levels) n o) q E N) m

    turn_missing : (rank_in 1 levels kind ≡ r → ⊥) → run T low (onward T (suc f) (drop looser levels) (r - looser) g) p E N ≡ run T low (onward T (fuel T) (drop looser levels) (r - 1 - looser) g) (looked p (length (level_at levels (r - 1)).operators)) E N
    turn_missing e =
        let m : suc (r - looser - 1) ≡ r - looser = omega arith in
        let s : suc (r - 1) ≡ r = omega arith in
        let q : r - looser - 1 ≡ r - 1 - looser = omega arith in
        let p' : State = looked p (length (level_at levels (r - 1)).operators) in
        let u = onward_missing T low f g p p' E N (drop looser levels) (r - looser - 1) (omega (arith, length_levels looser)) (λ found missing. tried found missing ∙ level_missing T low found missing p E N kind j x (r - 1) (omega arith) (λ t. e (t ∙ s))) in
        ap (λ (n : ℕ). run T low (onward T (suc f) (drop looser levels) n g) p E N) (sym m) ∙ u ∙ ap (λ (n : ℕ). run T low (onward T (fuel T) (drop looser levels) n g) p' E N) q

  -- ---- many levels at once
  module _ (g : Found) (E N : List ℕ) where
    -- what is left to do with level r the tightest that is open
    abbrev left : ℕ → ℕ → State → Reply
    left f r p = run T low (onward T f (drop looser levels) (r - looser) g) p E N

    -- what a turn comes to, after so many looks: what was found so far; or an operation, and the turns from its level on
    abbrev pub turned_by : State → ℕ → ℕ → Option (ℕ × ℕ) → ℕ → Reply
    turned_by p f r None n = reply (looked p n) (Node g) E N
    turned_by p f r (Some t) n = and_then (run T low (binary_at T t.0) (moved (looked p n) t.1) E N) λ right q E N. and_then (push_node (row_if (leb t.0 2) (logical_row g.node t.1 right.node) (binary_row g.node t.1 right.node)) q E N) λ o q E N. run T low (onward T (spare T f (r - t.0)) (drop looser levels) (t.0 - looser) o) q E N

    abbrev pub turned : State → ℕ → ℕ → Tried → Reply
    turned p f r t = turned_by p f r t.turn t.looks

    module _ (kind j : ℕ) where
      -- the loops of n levels end at once, each after its tests
      down : (n m f : ℕ) (p : State) → Next T p.current kind j → looser ≤ m → m + n ≤ 7 → ((r : ℕ) → m < r → r ≤ m + n → rank_in 1 levels kind ≡ r → ⊥) → left (suc f) (m + n) p ≡ left (suc (spare T f n)) m (looked p (tests_of levels (m + n) - tests_of levels m))
      unfolding spare
      down zero m f p x a b h =
          let z : m + 0 ≡ m = omega arith in
          let y : 0 ≡ tests_of levels (m + 0) - tests_of levels m = rw (z) (omega arith) in
          ap (λ (r : ℕ). left (suc f) r p) z ∙ ap (left (suc f) m) (sym (looked_none p) ∙ ap (looked p) y)
      down (suc n) m f p x a b h =
          let size : ℕ = length (level_at levels (m + suc n - 1)).operators in
          let s = turn_missing f (m + suc n) g p E N kind j x (omega arith) b (h (m + suc n) (omega arith) (omega arith)) in
          let z : m + suc n - 1 ≡ m + n = omega arith in
          let t : m + suc n ≡ suc (m + suc n - 1) = omega arith in
          let k : tests_of levels (m + suc n) ≡ tests_of levels (m + n) + size = ap (tests_of levels) t ∙ tests_more (m + suc n - 1) (omega arith) ∙ ap (λ (i : ℕ). tests_of levels i + size) z in
          let c = tests_on levels m n in
          let y : size + (tests_of levels (m + n) - tests_of levels m) ≡ tests_of levels (m + suc n) - tests_of levels m = omega (arith, k, c) in
          s
          ∙ ap (λ (r : ℕ). left (fuel T) r (looked p size)) z
          ∙ down n m (count T.tokens) (looked p size) x a (omega arith) (λ r c d. h r c (omega arith))
          ∙ ap (λ (f : ℕ). left (suc f) m (looked (looked p size) (tests_of levels (m + n) - tests_of levels m))) (spare_all T n)
          ∙ ap (left (suc (count T.tokens)) m) (looked_more p size (tests_of levels (m + n) - tests_of levels m) ∙ ap (looked p) y)

      module _ (p : State) (x : Next T p.current kind j) where
        -- an operator of level rank, after a left operand that loops up to level r may go on with: it is read there, and level rank is then the tightest that is open
        turns_found : (f r rank : ℕ) → looser < rank → rank ≤ r → r ≤ 7 → rank_in 1 levels kind ≡ rank → left (suc f) r p ≡ turned_by p f r (Some (rank, j)) (tests_of levels r - behind_in 0 levels kind)
        turns_found f r rank a b c k =
            let z : r ≡ rank + (r - rank) = omega arith in
            let v : suc (rank - 1) ≡ rank = omega arith in
            let d = down (r - rank) rank f p x (omega arith) (omega arith) (λ y l m i. absurd (omega (arith, k, i))) in
            let place : ℕ = place_in 1 (level_at levels (rank - 1)).operators kind in
            let n : ℕ = tests_of levels (rank + (r - rank)) - tests_of levels rank in
            let t : behind_in 0 levels kind + place ≡ tests_of levels rank = (ranked_kind kind rank (omega arith) (omega arith) k).tried ∙ ap (tests_of levels) v in
            let l = tests_on levels rank (r - rank) in
            let w : tests_of levels (rank + (r - rank)) ≡ tests_of levels r = ap (tests_of levels) (sym z) in
            let y : n + place ≡ tests_of levels r - behind_in 0 levels kind = omega (arith, t, l, w) in
            ap (λ (i : ℕ). left (suc f) i p) z
            ∙ d
            ∙ turn_found (spare T f (r - rank)) rank g (looked p n) E N kind j x a (omega arith) k
            ∙ ap (λ (q : State). and_then (run T low (binary_at T rank) (moved q j) E N) λ right q E N. and_then (push_node (row_if (leb rank 2) (logical_row g.node j right.node) (binary_row g.node j right.node)) q E N) λ o q E N. run T low (onward T (spare T f (r - rank)) (drop looser levels) (rank - looser) o) q E N) (looked_more p n place ∙ ap (looked p) y)

        -- no operator that is read here
        turns_over : (f r : ℕ) → r ≤ 7 → ((y : ℕ) → looser < y → y ≤ r → rank_in 1 levels kind ≡ y → ⊥) → left (suc f) r p ≡ turned_by p f r None (tests_of levels r - tests_of levels looser)
        turns_over f r c h = ⊎_elim below above (lt_or_le looser r)
          where
            below : looser < r → left (suc f) r p ≡ turned_by p f r None (tests_of levels r - tests_of levels looser)
            below l =
                let z : r ≡ looser + (r - looser) = omega arith in
                let d = down (r - looser) looser f p x (omega arith) (omega arith) (λ y m n. h y m (omega arith)) in
                ap (λ (i : ℕ). left (suc f) i p) z ∙ d ∙ turns_none (suc (spare T f (r - looser))) looser g _ E N (omega arith) ∙ ap (λ (i : ℕ). reply (looked p (tests_of levels i - tests_of levels looser)) (Node g) E N) (sym z)

            above : r ≤ looser → left (suc f) r p ≡ turned_by p f r None (tests_of levels r - tests_of levels looser)
            above l =
                let z : r + (looser - r) ≡ looser = omega arith in
                let e = ap (tests_of levels) z in
                let h = tests_on levels r (looser - r) in
                let y : 0 ≡ tests_of levels r - tests_of levels looser = omega (arith, h, e) in
                turns_none (suc f) r g p E N l ∙ ap (λ (q : State). reply q (Node g) E N) (sym (looked_none p) ∙ ap (looked p) y)

        turns_by : (f r : ℕ) → r ≤ 7 → left (suc f) r p ≡ turned p f r (turn_of looser r (rank_in 1 levels kind) (behind_in 0 levels kind) j)
        unfolding turn_of
        turns_by f r c = go (ltb looser (rank_in 1 levels kind)) refl (leb (rank_in 1 levels kind) r) refl
          where
            turn : Bool → Tried
            turn b =
                elim b [
                  | true ↦ record { turn = Some (rank_in 1 levels kind, j); looks = tests_of levels r - behind_in 0 levels kind }
                  | false ↦ record { turn = None; looks = tests_of levels r - tests_of levels looser }
                ]

            go : (a : Bool) → ltb looser (rank_in 1 levels kind) ≡ a → (b : Bool) → leb (rank_in 1 levels kind) r ≡ b → left (suc f) r p ≡ turned p f r (turn (a && b))
            go true s true t = turns_found f r (rank_in 1 levels kind) (ltb-true looser (rank_in 1 levels kind) s) (leb-true (rank_in 1 levels kind) r t) c refl
            go true s false t = let u = leb-false (rank_in 1 levels kind) r t in turns_over f r c (λ y l m i. absurd (omega (arith, u, m, i)))
            go false s b t = let u = ltb-false looser (rank_in 1 levels kind) s in turns_over f r c (λ y l m i. absurd (omega (arith, u, l, i)))

    -- the loops do what a turn does
    pub turns : (p : State) (f r : ℕ) → r ≤ 7 → run T low (onward T (suc f) (drop looser levels) (r - looser) g) p E N ≡ turned p f r (turn_at T p.current looser r)
    unfolding turn_at
    turns p f r c = turns_by _ _ p (peeked T p.current _ refl) f r c
