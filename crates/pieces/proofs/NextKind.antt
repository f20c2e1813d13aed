-- Looking by the next token's kind: one look past the newlines decides all tests on it. Assumes nothing.
use mathlib.Core.Path.{◌≡◌, refl, sym, ap, subst, ◌∙◌}
use mathlib.Core.Bool.{Bool, true, false, ◌||◌}
use mathlib.Core.List.{List, [], ◌∷◌}
use Prim.Native.Nat.{ℕ, zero, suc, ◌+◌, ◌<◌}
use native.Mathlib.Omega.{arith}
use lib.Dec.{eqb}
use borrow.Author.Tests.{ne_eqb, eqb-true, eqb-false}
use Rattle.parser.specs.declared.State.{State}
use Rattle.parser.specs.declared.Coming.{Coming}
use Rattle.std.specs.Prelude.{Option, is_some}
use Rattle.std.specs.Prelude.{Some, None}
use Rattle.parser.specs.Tokens.{View, kind_at, after, skip_lines, peek_at, check_at, matches_at}
use Rattle.parser.specs.Tables.{Reply, moved, looked, if_seen}
use Rattle.parser.specs.Programs.{Which, Reader, Prog, look, run}
use Rattle.pieces.specs.Pieces.{among, place_in, unless_none}
use Rattle.parser.proofs.Look.{check_found, check_none}
use Rattle.parser.proofs.Write.{looked_more, looked_none}
use Rattle.progress.proofs.Moves.{never}

-- the next token that is no Newline: its kind, and the token after it
pub record Next (T : View) (at kind j : ℕ) : Type 0 where
  pub its : kind_at T.tokens (skip_lines T at) ≡ kind
  pub behind : after T.tokens (skip_lines T at) ≡ j

-- as `peek` finds it
pub peeked : (T : View) (at : ℕ) (r : Coming) → r ≡ peek_at T at → Next T at r.kind r.past
peeked T at r e = record { its = sym (ap (λ (c : Coming). c.kind) e); behind = sym (ap (λ (c : Coming). c.past) e) }

-- what `matches` makes of what `check` sees
abbrev pub passed : View → Option ℕ → Option ℕ
passed T (Some i) = Some (after T.tokens i)
passed T None = None

pub matches_passed : (T : View) (at k : ℕ) (s : Option ℕ) → s ≡ check_at T at k → matches_at T at k ≡ passed T s
unfolding matches_at
matches_passed T at k s e = go (check_at T at k) s (sym e)
  where
    go : (r s : Option ℕ) → r ≡ s → elim r [ Some j ↦ Some (after T.tokens j) | None ↦ None ] ≡ passed T s
    go (Some i) s e = ap (passed T) e
    go None s e = ap (passed T) e

pub match_here : (T : View) (at kind j k : ℕ) → Next T at kind j → eqb k 1 ≡ false → kind ≡ k → matches_at T at k ≡ Some j
match_here T at kind j k n l e = matches_passed T at k (Some (skip_lines T at)) (check_found T at k (skip_lines T at) refl (eqb-false k 1 l) (n.its ∙ e)) ∙ ap Some n.behind

pub match_other : (T : View) (at kind j k : ℕ) → Next T at kind j → eqb k 1 ≡ false → (kind ≡ k → ⊥) → matches_at T at k ≡ None
match_other T at kind j k n l h = matches_passed T at k None (check_none T at k (eqb-false k 1 l) (λ e. h (sym n.its ∙ e)))

module _ (T : View) (low : Which → Reader) (k : ℕ) (f : ℕ → Prog) (m : Prog) (p : State) (E N : List ℕ) (kind j : ℕ) (n : Next T p.current kind j) where
  -- what a look does by what it sees
  abbrev seen : Option ℕ → Reply
  seen s = if_seen s (λ i. run T low (f i) (moved (looked p 1) i) E N) λ _. run T low m (looked p 1) E N

  -- it is the kind that is looked for
  pub look_here : eqb k 1 ≡ false → kind ≡ k → run T low (look k f m) p E N ≡ run T low (f j) (moved (looked p 1) j) E N
  unfolding run
  look_here l e = ap seen (match_here T p.current kind j k n l e)

  -- it is another
  pub look_past : eqb k 1 ≡ false → (kind ≡ k → ⊥) → run T low (look k f m) p E N ≡ run T low m (looked p 1) E N
  unfolding run
  look_past l h = ap seen (match_other T p.current kind j k n l h)

-- ---- tests one after the other, as a table
-- a kind that is looked for, and what is read after such a token
pub record Row : Type 0 where
  pub kind : ℕ
  pub found : ℕ → Prog

-- the tests in their order
abbrev pub tests : List Row → Prog → Prog
tests [] m = m
tests (r ∷ rs) m = look r.kind r.found (tests rs m)

-- the row of a kind and which look finds it, where n were made before; or else the rest, and how many were made
abbrev pub pick : {A : Type 0} → ℕ → List Row → ℕ → (ℕ → Row → A) → (ℕ → A) → A
pick n [] kind a b = b n
pick n (r ∷ rs) kind a b = elim (eqb kind r.kind) [ true ↦ a (n + 1) r | false ↦ pick (n + 1) rs kind a b ]

-- a kind that is in no row
abbrev pub NoRow : List Row → ℕ → Type 0
NoRow [] kind = Unit {0}
NoRow (r ∷ rs) kind = (kind ≡ r.kind → ⊥) × NoRow rs kind

-- the looks when all tests are made
abbrev pub made : ℕ → List Row → ℕ
made n [] = n
made n (r ∷ rs) = made (n + 1) rs

pick_none : {A : Type 0} (n : ℕ) (rs : List Row) (kind : ℕ) (a : ℕ → Row → A) (b : ℕ → A) → NoRow rs kind → pick n rs kind a b ≡ b (made n rs)
pick_none n [] kind a b h = refl
pick_none n (r ∷ rs) kind a b h = ap (λ (t : Bool). elim t [ true ↦ a (n + 1) r | false ↦ pick (n + 1) rs kind a b ]) (ne_eqb kind r.kind h.0) ∙ pick_none (n + 1) rs kind a b h.1

-- no row is for a Newline, which is looked for in another way
abbrev pub lineless : List Row → Type 0
lineless [] = Unit {0}
lineless (r ∷ rs) = (eqb r.kind 1 ≡ false) × lineless rs

module _ (T : View) (low : Which → Reader) (m : Prog) (p : State) (E N : List ℕ) (kind j : ℕ) (x : Next T p.current kind j) where
  -- by the next token's kind, where n looks were made before
  abbrev pub picked : ℕ → List Row → ℕ → Reply
  picked n rs kind = pick n rs kind (λ n r. run T low (r.found j) (moved (looked p n) j) E N) λ n. run T low m (looked p n) E N

  by_kind_from : (n : ℕ) (rs : List Row) → lineless rs → run T low (tests rs m) (looked p n) E N ≡ picked n rs kind
  by_kind_from n [] l = refl
  by_kind_from n (r ∷ rs) l = go (eqb kind r.kind) refl (by_kind_from (n + 1) rs l.1)
    where
      go : (b : Bool) → eqb kind r.kind ≡ b → run T low (tests rs m) (looked p (n + 1)) E N ≡ picked (n + 1) rs kind → run T low (tests (r ∷ rs) m) (looked p n) E N ≡ elim b [ true ↦ run T low (r.found j) (moved (looked p (n + 1)) j) E N | false ↦ picked (n + 1) rs kind ]
      go true t e = look_here T low r.kind r.found (tests rs m) (looked p n) E N kind j x l.0 (eqb-true kind r.kind t) ∙ ap (λ (q : State). run T low (r.found j) (moved q j) E N) (looked_more p n 1)
      go false t e = look_past T low r.kind r.found (tests rs m) (looked p n) E N kind j x l.0 (eqb-false kind r.kind t) ∙ ap (λ (q : State). run T low (tests rs m) q E N) (looked_more p n 1) ∙ e

  -- the next token's kind decides
  pub by_kind : (rs : List Row) → lineless rs → run T low (tests rs m) p E N ≡ picked 0 rs kind
  by_kind rs l = ap (λ (q : State). run T low (tests rs m) q E N) (sym (looked_none p)) ∙ by_kind_from 0 rs l

  -- it is in no row: all tests are made
  pub by_none : (rs : List Row) → lineless rs → NoRow rs kind → run T low (tests rs m) p E N ≡ run T low m (looked p (made 0 rs)) E N
  by_none rs l h = by_kind rs l ∙ pick_none 0 rs kind (λ n r. run T low (r.found j) (moved (looked p n) j) E N) (λ n. run T low m (looked p n) E N) h

-- ---- kinds of a list
-- what holds of each of them
abbrev pub Each : (ℕ → Type 0) → List ℕ → Type 0
Each P [] = Unit {0}
Each P (k ∷ ks) = P k × Each P ks

-- holds of a kind among them
pub of_each : (P : ℕ → Type 0) (ks : List ℕ) → Each P ks → (kind : ℕ) → among ks kind ≡ true → P kind
unfolding among
of_each P [] h kind e = never e
of_each P (k ∷ ks) h kind e = go (eqb kind k) refl e (of_each P ks h.1 kind)
  where
    go : (b : Bool) → eqb kind k ≡ b → b || among ks kind ≡ true → (among ks kind ≡ true → P kind) → P kind
    go true t e f = subst P (sym (eqb-true kind k t)) h.0
    go false t e f = f e

-- of a kind that has a place among them
pub of_place : (P : ℕ → Type 0) (ks : List ℕ) → Each P ks → (n kind : ℕ) → (place_in n ks kind ≡ 0 → ⊥) → P kind
unfolding place_in
of_place P [] h n kind e = absurd (e refl)
of_place P (k ∷ ks) h n kind e = go (eqb kind k) refl e (of_place P ks h.1 (n + 1) kind)
  where
    go : (b : Bool) → eqb kind k ≡ b → (◌≡◌ {A = ℕ} (elim b [ true ↦ n | false ↦ place_in (n + 1) ks kind ]) 0 → ⊥) → ((place_in (n + 1) ks kind ≡ 0 → ⊥) → P kind) → P kind
    go true t e f = subst P (sym (eqb-true kind k t)) h.0
    go false t e f = f e

-- a kind that has none is none of them
pub of_none : (ks : List ℕ) (n kind : ℕ) → 0 < n → place_in n ks kind ≡ 0 → Each (λ k. kind ≡ k → ⊥) ks
unfolding place_in
of_none [] n kind l e = tt
of_none (k ∷ ks) n kind l e = go (eqb kind k) refl e (of_none ks (n + 1) kind (omega arith))
  where
    go : (b : Bool) → eqb kind k ≡ b → ◌≡◌ {A = ℕ} (elim b [ true ↦ n | false ↦ place_in (n + 1) ks kind ]) 0 → (place_in (n + 1) ks kind ≡ 0 → Each (λ k. kind ≡ k → ⊥) ks) → Each (λ k. kind ≡ k → ⊥) (k ∷ ks)
    go true t e f = absurd (omega arith)
    go false t e f = (eqb-false kind k t, f e)

-- a place that was found is the place, and not 0
pub placed : (n i : ℕ) (o : Option ℕ) → o ≡ unless_none n → o ≡ Some i → (i ≡ n) × (i ≡ 0 → ⊥)
unfolding unless_none
placed zero i o e f = absurd (cc)
placed (suc n) i o e f = let g : ◌≡◌ {A = Option ℕ} (Some (suc n)) (Some i) = sym e ∙ f in let h : suc n ≡ i = cc in (sym h, λ z. absurd (omega arith))

-- none was found
pub unplaced : (n : ℕ) (o : Option ℕ) → o ≡ unless_none n → o ≡ None → 0 ≡ n
unfolding unless_none
unplaced zero o e f = refl
unplaced (suc n) o e f = absurd (cc)

pub none_is : (o : Option ℕ) → is_some o ≡ false → o ≡ None
none_is None e = refl
none_is (Some i) e = absurd (cc)
