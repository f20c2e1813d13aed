-- Well-formed rows stay so while other rows are written: by a reading that starts after them, by a new row, by a link.
use mathlib.Core.Path.{◌≡◌, refl, sym, ap, ◌∙◌, subst}
use mathlib.Core.List.{List}
use mathlib.Core.Bool.{Bool, true, false, ◌||◌, false≢true}
use mathlib.Core.Logic.{◌⊎◌, inl, inr, ⊎_elim}
use Prim.Native.Nat.{ℕ, ◌+◌, ◌-◌, ◌≤◌, ◌<◌}
use native.Mathlib.Omega.{arith}
use lib.Dec.{eqb}
use borrow.Author.Tests.{eqb-true}
use Rattle.records.specs.Table.{field, node_width}
use Rattle.records.specs.declared.Node as rows
use Rattle.records.proofs.Rooms.{lt_or_le}
use Rattle.trees.specs.Trees.{Sort, Expression, is_operation, tightness, tight_of, Binds, Column, Unused, One, Maybe, Many, shape_of, next_of, row_at, Chain, single, more, Child, Members, Fits, Formed, Next, Forest}

-- rows lo up to hi are the same in both tables
abbrev pub Agree : ℕ → ℕ → List ℕ → List ℕ → Type 0
Agree lo hi N N' = (i k : ℕ) → lo ≤ i → i < hi → k < node_width → field node_width k N' i ≡ field node_width k N i

module _ (N N' : List ℕ) (s : Sort) where
  pub chain_up : (n last : ℕ) → Chain N s n last → n ≤ last
  chain_up _ _ (single n k) = omega arith
  chain_up _ _ (more n last k h c) = let a = chain_up (next_of N n) last c in omega arith

  pub chain_keep : (lo hi n last : ℕ) → Agree lo hi N N' → lo < n → last ≤ hi → Chain N s n last → Chain N' s n last
  chain_keep lo hi _ _ a l h (single n k) = single n (rw (a (n - 1) 0 (omega arith) (omega arith) (omega arith)) k)
  chain_keep lo hi _ _ a l h (more n last k g c) =
      let u = chain_up (next_of N n) last c in
      let e : next_of N' n ≡ next_of N n = a (n - 1) 8 (omega arith) (omega arith) (omega arith) in
      more n last
      (rw (a (n - 1) 0 (omega arith) (omega arith) (omega arith)) k)
      (rw e g)
      (rw e (chain_keep lo hi (next_of N n) last a (omega arith) h c))

-- all words of row j but next are the same
row_same : (N N' : List ℕ) (j : ℕ) → ((k : ℕ) → k < 8 → field node_width k N' j ≡ field node_width k N j) → row_at N' j ≡ row_at N j
row_same N N' j a = rw (a 0 (omega arith), a 1 (omega arith), a 2 (omega arith), a 3 (omega arith), a 4 (omega arith), a 5 (omega arith), a 6 (omega arith), a 7 (omega arith)) refl

-- a Binary or Logical has two children
operation_shape : (k : ℕ) → is_operation k ≡ true → ((shape_of k).child1 ≡ One Expression) × ((shape_of k).child2 ≡ One Expression)
operation_shape k h = go (eqb k 7) (eqb k 14) refl refl h
  where
    go : (a b : Bool) → eqb k 7 ≡ a → eqb k 14 ≡ b → (a || b) ≡ true → ((shape_of k).child1 ≡ One Expression) × ((shape_of k).child2 ≡ One Expression)
    go true b e f h = let z = eqb-true k 7 e in (ap (λ (i : ℕ). (shape_of i).child1) z, ap (λ (i : ℕ). (shape_of i).child2) z)
    go false true e f h = let z = eqb-true k 14 f in (ap (λ (i : ℕ). (shape_of i).child1) z, ap (λ (i : ℕ). (shape_of i).child2) z)
    go false false e f h = absurd (false≢true h)

module _ (N N' : List ℕ) (d j e m : ℕ) (a : Agree d j N N') (h : e ≤ d) (g : j ≤ m) where
  pub child_keep : (s : Sort) (c : ℕ) → Child N d j s c → Child N' e m s c
  child_keep s c x =
      let b = x.above in
      let l = x.below in
      record {
        above = omega arith;
        below = omega arith;
        kind = rw (a (c - 1) 0 (omega arith) (omega arith) (omega arith)) x.kind;
        alone = a (c - 1) 8 (omega arith) (omega arith) (omega arith) ∙ x.alone;
      }

  pub members_keep : (s : Sort) (c : ℕ) → Members N d j s c → Members N' e m s c
  members_keep s c x =
      let b = x.above in
      let l = x.below in
      let u = chain_up N N' s c x.last x.chain in
      record {
        above = omega arith;
        last = x.last;
        chain = chain_keep N N' s d j c x.last a b l x.chain;
        below = omega arith;
        closed = a (x.last - 1) 8 (omega arith) (omega arith) (omega arith) ∙ x.closed;
      }

  pub fits_keep : (k : Column) (c : ℕ) → Fits N d j k c → Fits N' e m k c
  fits_keep Unused c x = x
  fits_keep (One s) c x = child_keep s c x
  fits_keep (Maybe s) c x = ⊎_elim (λ z. inl z) (λ y. inr (child_keep s c y)) x
  fits_keep (Many s) c x = ⊎_elim (λ z. inl z) (λ y. inr (members_keep s c y)) x

  pub tight_keep : (T : List ℕ) (c : ℕ) → d < c → c ≤ j → tight_of T N' c ≡ tight_of T N c
  tight_keep T c b l = ap (tightness T) (row_same N N' (c - 1) λ k q. a (c - 1) k (omega arith) (omega arith) (omega arith))

  binds_keep : (T : List ℕ) (r : rows.Node) → Formed T N d j r → (b : Bool) → is_operation r.kind ≡ b → Binds b T N r → Binds b T N' r
  binds_keep T r x true q y =
      let z = operation_shape r.kind q in
      let l : Child N d j Expression r.child1 = subst (λ (k : Column). Fits N d j k r.child1) z.0 x.child1 in
      let k : Child N d j Expression r.child2 = subst (λ (k : Column). Fits N d j k r.child2) z.1 x.child2 in
      (rw (tight_keep T r.child1 l.above l.below) y.0, rw (tight_keep T r.child2 k.above k.below) y.1)
  binds_keep T r x false q y = tt

  pub formed_keep : (T : List ℕ) (r : rows.Node) → Formed T N d j r → Formed T N' e m r
  formed_keep T r x = record {
    kind = x.kind;
    token1 = x.token1;
    token2 = x.token2;
    token3 = x.token3;
    child1 = fits_keep (shape_of r.kind).child1 r.child1 x.child1;
    child2 = fits_keep (shape_of r.kind).child2 r.child2 x.child2;
    child3 = fits_keep (shape_of r.kind).child3 r.child3 x.child3;
    child4 = fits_keep (shape_of r.kind).child4 r.child4 x.child4;
    binds = binds_keep T r x (is_operation r.kind) refl x.binds;
  }

-- a later table: more rows, and those below u as they were
pub record Later (u : ℕ) (N : List ℕ) (u' : ℕ) (N' : List ℕ) : Type 0 where
  pub up : u ≤ u'
  pub same : Agree 0 u N N'

pub later_none : (u : ℕ) (N : List ℕ) → Later u N u N
later_none u N = record { up = omega arith; same = λ i k l h c. refl }

pub later_then : {u v w : ℕ} {N M O : List ℕ} → Later u N v M → Later v M w O → Later u N w O
later_then a b =
    let x = a.up in
    let y = b.up in
    record { up = omega arith; same = λ i k l h c. b.same i k l (omega arith) c ∙ a.same i k l h c }

-- a row d is put after the u rows of N
pub record Made (u : ℕ) (N : List ℕ) (d : rows.Node) (N' : List ℕ) : Type 0 where
  pub later : Later u N (u + 1) N'
  pub row : row_at N' u ≡ d
  pub next : field node_width 8 N' u ≡ 0

-- n is put as next of prev
pub record Linked (N : List ℕ) (prev n : ℕ) (N' : List ℕ) : Type 0 where
  pub others : (i k : ℕ) → (i + 1 ≡ prev → ⊥) → k < node_width → field node_width k N' i ≡ field node_width k N i
  pub words : (i k : ℕ) → k < 8 → field node_width k N' i ≡ field node_width k N i
  pub put : 1 ≤ prev → field node_width 8 N' (prev - 1) ≡ n

module _ (T : List ℕ) where
  pub formed_moved : (N N' : List ℕ) (d j e : ℕ) → Agree d j N N' → e ≤ d → ((k : ℕ) → k < 8 → field node_width k N' j ≡ field node_width k N j) → Formed T N d j (row_at N j) → Formed T N' e j (row_at N' j)
  formed_moved N N' d j e a h s x = rw (row_same N N' j s) (formed_keep N N' d j e j a h (omega arith) T (row_at N j) x)

  -- what a reading that starts with u rows adds
  pub forest_join : (b u u' : ℕ) (N N' : List ℕ) → b ≤ u → Forest T b u N → Later u N u' N' → Forest T u u' N' → Forest T b u' N'
  forest_join b u u' N N' h x l y = record { formed = λ j p q. formed j p q (lt_or_le j u); nexts = λ j p q. nexts j p q (lt_or_le j u) }
    where
      formed : (j : ℕ) → b ≤ j → j < u' → (j < u) ⊎ (u ≤ j) → Formed T N' b j (row_at N' j)
      formed j p q (inl o) = formed_moved N N' b j b (λ i k r t c. l.same i k (omega arith) (omega arith) c) (omega arith) (λ k c. l.same j k (omega arith) o (omega arith)) (x.formed j p o)
      formed j p q (inr o) = formed_moved N' N' u j b (λ i k r t c. refl) h (λ k c. refl) (y.formed j o q)

      nexts : (j : ℕ) → b ≤ j → j < u' → (j < u) ⊎ (u ≤ j) → Next N' u' j
      nexts j p q (inl o) = let g = l.up in rw (l.same j 8 (omega arith) o (omega arith)) (⊎_elim (λ z. inl z) (λ z. let z1 = z.0 in let z2 = z.1 in inr (omega arith, omega arith)) (x.nexts j p o))
      nexts j p q (inr o) = y.nexts j o q

  pub forest_none : (b : ℕ) (N : List ℕ) → Forest T b b N
  forest_none b N = record { formed = λ j p q. absurd (omega arith); nexts = λ j p q. absurd (omega arith) }

  -- what one row adds
  made_one : (b u : ℕ) (N N' : List ℕ) (d : rows.Node) → Formed T N b u d → Made u N d N' → Formed T N' b u (row_at N' u)
  made_one b u N N' d x m = rw m.row (formed_keep N N' b u b u (λ i k r t c. m.later.same i k (omega arith) t c) (omega arith) (omega arith) T d x)

  pub forest_made : (b u : ℕ) (N N' : List ℕ) (d : rows.Node) → b ≤ u → Forest T b u N → Formed T N b u d → Made u N d N' → Forest T b (u + 1) N'
  forest_made b u N N' d h x f m = record { formed = λ j p q. formed j p q (lt_or_le j u); nexts = λ j p q. nexts j p q (lt_or_le j u) }
    where
      formed : (j : ℕ) → b ≤ j → j < u + 1 → (j < u) ⊎ (u ≤ j) → Formed T N' b j (row_at N' j)
      formed j p q (inl o) = formed_moved N N' b j b (λ i k r t c. m.later.same i k (omega arith) (omega arith) c) (omega arith) (λ k c. m.later.same j k (omega arith) o (omega arith)) (x.formed j p o)
      formed j p q (inr o) = let e : j ≡ u = omega arith in subst (λ (i : ℕ). Formed T N' b i (row_at N' i)) (sym e) (made_one b u N N' d f m)

      nexts : (j : ℕ) → b ≤ j → j < u + 1 → (j < u) ⊎ (u ≤ j) → Next N' (u + 1) j
      nexts j p q (inl o) = rw (m.later.same j 8 (omega arith) o (omega arith)) (⊎_elim (λ z. inl z) (λ z. let z1 = z.0 in let z2 = z.1 in inr (omega arith, omega arith)) (x.nexts j p o))
      nexts j p q (inr o) = let e : j ≡ u = omega arith in inl (ap (λ (i : ℕ). field node_width 8 N' i) e ∙ m.next)

  -- prev may be linked to n: it stands below n, and no row after it refers to it
  pub record Behind (b u : ℕ) (N : List ℕ) (prev n : ℕ) : Type 0 where
    pub above : b < prev
    pub below : prev < n
    pub made : n ≤ u
    pub apart : Forest T prev u N

  pub forest_link : (b u prev n : ℕ) (N N' : List ℕ) → Forest T b u N → (prev ≡ 0) ⊎ Behind b u N prev n → Linked N prev n N' → Forest T b u N'
  forest_link b u prev n N N' x (inl z) l = record {
    formed = λ j p q. formed_moved N N' b j b (λ i k r t c. l.others i k (λ w. omega arith) c) (omega arith) (λ k c. l.words j k c) (x.formed j p q);
    nexts = λ j p q. rw (l.others j 8 (λ w. omega arith) (omega arith)) (x.nexts j p q);
  }
  forest_link b u prev n N N' x (inr y) l = record { formed = λ j p q. formed j p q (lt_or_le j prev); nexts = λ j p q. nexts j p q (lt_or_le (j + 1) prev) (lt_or_le prev (j + 1)) }
    where
      formed : (j : ℕ) → b ≤ j → j < u → (j < prev) ⊎ (prev ≤ j) → Formed T N' b j (row_at N' j)
      formed j p q (inl o) = formed_moved N N' b j b (λ i k r t c. l.others i k (λ w. omega arith) c) (omega arith) (λ k c. l.words j k c) (x.formed j p q)
      formed j p q (inr o) = let a = y.above in formed_moved N N' prev j b (λ i k r t c. l.others i k (λ w. omega arith) c) (omega arith) (λ k c. l.words j k c) (y.apart.formed j o q)

      kept : (j : ℕ) → b ≤ j → j < u → (j + 1 ≡ prev → ⊥) → Next N' u j
      kept j p q w = rw (l.others j 8 w (omega arith)) (x.nexts j p q)

      nexts : (j : ℕ) → b ≤ j → j < u → (j + 1 < prev) ⊎ (prev ≤ j + 1) → (prev < j + 1) ⊎ (j + 1 ≤ prev) → Next N' u j
      nexts j p q (inl o) s = kept j p q (λ w. omega arith)
      nexts j p q (inr o) (inl s) = kept j p q (λ w. omega arith)
      nexts j p q (inr o) (inr s) =
          let a = y.above in
          let e : j ≡ prev - 1 = omega arith in
          let c = y.below in
          let m = y.made in
          let f : field node_width 8 N' j ≡ n = ap (λ (i : ℕ). field node_width 8 N' i) e ∙ l.put (omega arith) in
          inr (omega arith, omega arith)
