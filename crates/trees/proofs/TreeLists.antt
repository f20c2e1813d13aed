-- Lists while they are read: a new member is linked after the last one. And what readers hold, kept over later readings.
use mathlib.Core.Path.{◌≡◌, refl, sym, ap, ◌∙◌, subst}
use mathlib.Core.List.{List}
use mathlib.Core.Bool.{true, ◌&&◌}
use mathlib.Core.Logic.{◌⊎◌, inl, inr, ⊎_elim}
use Prim.Native.Nat.{ℕ, zero, suc, ◌+◌, ◌-◌, ◌≤◌, ◌<◌}
use native.Mathlib.Omega.{arith}
use lib.Dec.{leb}
use Rattle.records.specs.declared.Node as rows
use Rattle.records.proofs.Rooms.{lt_or_le}
use Rattle.parser.specs.declared.Found.{Found}
use Rattle.parser.specs.Tokens.{count}
use Rattle.parser.specs.Tables.{plain}
use Rattle.parser.specs.Programs.{node}
use Rattle.parser.specs.Grammar.{first_of}
use Rattle.trees.specs.Trees.{Sort, is_of, Column, shape_of, kind_of, next_of, row_at, Chain, single, more, Child, Members, Fits, Spot, is_operation, tightness, tight_of, Binds, Formed, Forest}
use Rattle.trees.proofs.TreeRows.{chain_up, chain_keep, child_keep, fits_keep, tight_keep, formed_moved, Later, Made, Linked, Behind, forest_join, forest_none, forest_link}
use Rattle.trees.proofs.TreeTyping.{Held, Wp}

-- a row, column by column
pub form : {T N : List ℕ} {d j : ℕ} {r : rows.Node}
    → (leb 1 r.kind && leb r.kind 32) ≡ true
    → Spot (shape_of r.kind).token1 (count T) r.token1
    → Spot (shape_of r.kind).token2 (count T) r.token2
    → Spot (shape_of r.kind).token3 (count T) r.token3
    → Fits N d j (shape_of r.kind).child1 r.child1
    → Fits N d j (shape_of r.kind).child2 r.child2
    → Fits N d j (shape_of r.kind).child3 r.child3
    → Fits N d j (shape_of r.kind).child4 r.child4
    → Binds (is_operation r.kind) T N r
    → Formed T N d j r
form k t1 t2 t3 c1 c2 c3 c4 b = record { kind = k; token1 = t1; token2 = t2; token3 = t3; child1 = c1; child2 = c2; child3 = c3; child4 = c4; binds = b }

-- ---- what is held, kept
pub fits_later : {u v : ℕ} {N M : List ℕ} → Later u N v M → (b : ℕ) (k : Column) (c : ℕ) → Fits N b u k c → Fits M b v k c
fits_later {u} {v} {N} {M} l b k c x = fits_keep N M b u b v (λ i k y z q. l.same i k (omega arith) z q) (omega arith) l.up k c x

pub fits_less : (d b u : ℕ) (N : List ℕ) → b ≤ d → (k : Column) (c : ℕ) → Fits N d u k c → Fits N b u k c
fits_less d b u N h k c x = fits_keep N N d u b u (λ i k y z q. refl) h (omega arith) k c x

-- both: what a reading that started at d holds, in one that started at b, after later readings
pub carry : {u v : ℕ} {N M : List ℕ} → Later u N v M → (d b : ℕ) → b ≤ d → (k : Column) (c : ℕ) → Fits N d u k c → Fits M b v k c
carry {u} {v} {N} {M} l d b h k c x = fits_later l b k c (fits_less d b u N h k c x)

pub tight_later : {u v : ℕ} {N M : List ℕ} (T : List ℕ) → Later u N v M → (b c : ℕ) → b < c → c ≤ u → tight_of T M c ≡ tight_of T N c
tight_later {u} {v} {N} {M} T l b c h g = tight_keep N M b u b v (λ i k y z q. l.same i k (omega arith) z q) (omega arith) l.up T c h g

-- a new node is held
pub held_node : {T N M : List ℕ} {d : rows.Node} {u : ℕ} (s : Sort) (l b : ℕ) → b ≤ u → Made u N d M → is_of s d.kind ≡ true → l ≤ tightness T d → Held T s l b (plain (u + 1)) (u + 1) M
held_node {T} {N} {M} {d} {u} s l b h m k t =
    let e : u + 1 - 1 ≡ u = omega arith in
    record {
      root = refl;
      child = record { above = omega arith; below = omega arith; kind = rw (e, ap (λ (r : rows.Node). r.kind) m.row) k; alone = rw e m.next };
      tight = subst (λ (n : ℕ). l ≤ n) (sym (ap (λ (i : ℕ). tightness T (row_at M i)) e ∙ ap (tightness T) m.row)) t;
      form = tt;
      access = inl refl;
    }

-- a reader's last step: it makes the node
pub finish : {T N : List ℕ} {d : rows.Node} {u : ℕ} (s : Sort) (l b : ℕ) → b ≤ u → is_of s d.kind ≡ true → l ≤ tightness T d → d.next ≡ 0 → Formed T N b u d → Wp T b (node d) (Held T s l b) u N
finish s l b g k t e F = (F, e, λ M m. held_node s l b g m k t)

-- what is held is a list of one
pub held_list : {T N : List ℕ} {s : Sort} {l b u : ℕ} {f : Found} → Held T s l b f u N → Members N b u s f.node
held_list {f} h = record { above = h.child.above; last = f.node; chain = single f.node h.child.kind; below = h.child.below; closed = h.child.alone }

-- it binds less tight than it might, or is of a wider sort
pub held_as : {T N : List ℕ} {b u : ℕ} {f : Found} (s s' : Sort) (l l' : ℕ) → l' ≤ l → ((k : ℕ) → is_of s k ≡ true → is_of s' k ≡ true) → Held T s l b f u N → Held T s' l' b f u N
held_as s s' l l' g w h = let t = h.tight in record { root = h.root; child = record { above = h.child.above; below = h.child.below; kind = w _ h.child.kind; alone = h.child.alone }; tight = omega arith; form = h.form; access = h.access }

-- ---- lists
-- an open list: its last member's next is 0, and no row after the last member refers to it
pub record Opened (T : List ℕ) (s : Sort) (b first last u : ℕ) (N : List ℕ) : Type 0 where
  pub above : b < first
  pub chain : Chain N s first last
  pub below : last ≤ u
  pub closed : next_of N last ≡ 0
  pub apart : Forest T last u N

abbrev pub Listing : List ℕ → Sort → ℕ → ℕ → ℕ → ℕ → List ℕ → Type 0
Listing T s b first last u N = ((first ≡ 0) × (last ≡ 0)) ⊎ Opened T s b first last u N

-- a list that is read
abbrev pub Listed : Sort → ℕ → Found → ℕ → List ℕ → Type 0
Listed s b f u N = (f.node ≡ 0) ⊎ Members N b u s f.node

module _ (T : List ℕ) (s : Sort) (b : ℕ) where
  pub list_done : (first last u : ℕ) (N : List ℕ) → Listing T s b first last u N → (first ≡ 0) ⊎ Members N b u s first
  list_done first last u N (inl z) = inl z.0
  list_done first last u N (inr o) = inr (record { above = o.above; last = last; chain = o.chain; below = o.below; closed = o.closed })

  pub list_below : (first last u : ℕ) (N : List ℕ) → Listing T s b first last u N → last ≤ u
  list_below first last u N (inl z) = let a = z.1 in omega arith
  list_below first last u N (inr o) = o.below

  pub list_later : (first last u v : ℕ) (N M : List ℕ) → Listing T s b first last u N → Later u N v M → Forest T u v M → Listing T s b first last v M
  list_later first last u v N M (inl z) l x = inl z
  list_later first last u v N M (inr o) l x =
      let a = o.above in
      let p = o.below in
      let g = l.up in
      let c = chain_up N M s first last o.chain in
      inr (record {
        above = a;
        chain = chain_keep N M s b u first last (λ i k y z q. l.same i k (omega arith) z q) a p o.chain;
        below = omega arith;
        closed = l.same (last - 1) 8 (omega arith) (omega arith) (omega arith) ∙ o.closed;
        apart = forest_join T last u v N M p o.apart l x;
      })

  pub list_link : (first last u n : ℕ) (N : List ℕ) → Listing T s b first last u N → last < n → n ≤ u → (last ≡ 0) ⊎ Behind T b u N last n
  list_link first last u n N (inl z) h g = inl z.1
  list_link first last u n N (inr o) h g =
      let a = o.above in
      let c = chain_up N N s first last o.chain in
      inr (record { above = omega arith; below = h; made = g; apart = o.apart })

-- a link changes no list but at its end
chain_linked : (N M : List ℕ) (s : Sort) (prev n first last : ℕ) → 0 < first → next_of N prev ≡ 0 → Linked N prev n M → Chain N s first last → Chain M s first last
chain_linked N M s prev n _ _ h z l (single m k) = single m (rw (l.words (m - 1) 0 (omega arith)) k)
chain_linked N M s prev n _ _ h z l (more m last k g c) =
    let w : m ≡ prev → ⊥ = λ e. let f : next_of N m ≡ 0 = rw e z in omega arith in
    let e : next_of M m ≡ next_of N m = l.others (m - 1) 8 (λ q. w (omega arith)) (omega arith) in
    more m last (rw (l.words (m - 1) 0 (omega arith)) k) (rw e g) (rw e (chain_linked N M s prev n (next_of N m) last (omega arith) z l c))

chain_more : (M : List ℕ) (s : Sort) (first last n : ℕ) → Chain M s first last → last < n → next_of M last ≡ n → is_of s (kind_of M n) ≡ true → Chain M s first n
chain_more M s _ _ n (single m k) h e q = more m n k (rw e h) (rw e (single n q))
chain_more M s _ _ n (more m last k g c) h e q = more m n k g (chain_more M s (next_of M m) last n c h e q)

pub child_linked : (N M : List ℕ) (d u prev n : ℕ) (s : Sort) (c : ℕ) → Linked N prev n M → (c ≡ prev → ⊥) → Child N d u s c → Child M d u s c
child_linked N M d u prev n s c l w x =
    let a = x.above in
    record { above = a; below = x.below; kind = rw (l.words (c - 1) 0 (omega arith)) x.kind; alone = l.others (c - 1) 8 (λ e. w (omega arith)) (omega arith) ∙ x.alone }

pub forest_linked : (T N M : List ℕ) (d u prev n : ℕ) → prev ≤ d → Linked N prev n M → Forest T d u N → Forest T d u M
forest_linked T N M d u prev n h l x = record {
  formed = λ j p q. formed_moved T N M d j d (λ i k y z c. l.others i k (λ e. omega arith) c) (omega arith) (λ k c. l.words j k c) (x.formed j p q);
  nexts = λ j p q. rw (l.others j 8 (λ e. omega arith) (omega arith)) (x.nexts j p q);
}

-- one member more
pub list_next : (T : List ℕ) (s : Sort) (b first last u n : ℕ) (N M : List ℕ) → Listing T s b first last u N → last < n → Child N b u s n → Forest T n u N → Linked N last n M → Listing T s b (first_of first n) n u M
unfolding first_of
list_next T s b first last u n N M (inl z) h x f l =
    let e = z.0 in
    let y = child_linked N M b u last n s n l (λ e. omega arith) x in
    rw e (inr (record { above = y.above; chain = single n y.kind; below = y.below; closed = y.alone; apart = forest_linked T N M n u last n (omega arith) l f }))
list_next T s b zero last u n N M (inr o) h x f l = let a = o.above in absurd (omega arith)
list_next T s b (suc first) last u n N M (inr o) h x f l =
    let a = o.above in
    let c = chain_up N M s (suc first) last o.chain in
    let y = child_linked N M b u last n s n l (λ e. omega arith) x in
    inr (record {
      above = a;
      chain = chain_more M s (suc first) last n (chain_linked N M s last n (suc first) last (omega arith) o.closed l o.chain) h (l.put (omega arith)) y.kind;
      below = y.below;
      closed = y.alone;
      apart = forest_linked T N M n u last n (omega arith) l f;
    })

-- and a member that was just read, from u nodes to v
pub member_link : {T N M : List ℕ} {s : Sort} {b first last u v : ℕ} (n : ℕ) → Listing T s b first last u N → Later u N v M → Forest T u v M → u < n → n ≤ v → (last ≡ 0) ⊎ Behind T b v M last n
member_link {T} {N} {M} {s} {b} {first} {last} {u} {v} n z l x h g = let p = list_below T s b first last u N z in list_link T s b first last v n M (list_later T s b first last u v N M z l x) (omega arith) g

pub member_next : {T N M O : List ℕ} {s : Sort} {b first last u v : ℕ} (n : ℕ) → b ≤ u → Listing T s b first last u N → Later u N v M → Forest T u v M → n ≡ v → Child M u v s n → Linked M last n O → Listing T s b (first_of first n) n v O
member_next {T} {N} {M} {O} {s} {b} {first} {last} {u} {v} n g z l x e c k =
    let p = list_below T s b first last u N z in
    let a = c.above in
    list_next T s b first last v n M O (list_later T s b first last u v N M z l x) (omega arith) (child_keep M M u v b v (λ i k y z q. refl) g (omega arith) s n c) (rw e (forest_none T v M)) k

-- ---- two lists at once
-- what may be linked, with its next 0
pub list_tail : (T : List ℕ) (s : Sort) (b first last u v n : ℕ) (N M : List ℕ) → Listing T s b first last u N → Later u N v M → Forest T u v M → u < n → n ≤ v → (last ≡ 0) ⊎ (Behind T b v M last n × (next_of M last ≡ 0))
list_tail T s b first last u v n N M (inl z) l x h g = inl z.1
list_tail T s b first last u v n N M (inr o) l x h g =
    let p = o.below in
    let a = o.above in
    let c = chain_up N N s first last o.chain in
    inr (record { above = omega arith; below = omega arith; made = g; apart = forest_join T last u v N M p o.apart l x }, l.same (last - 1) 8 (omega arith) (omega arith) (omega arith) ∙ o.closed)

-- the other list is as it was
pub list_other : (T : List ℕ) (s : Sort) (b first last u prev n : ℕ) (N M : List ℕ) → Listing T s b first last u N → (prev ≡ last → prev ≡ 0) → (prev ≡ 0) ⊎ (Behind T b u N prev n × (next_of N prev ≡ 0)) → Linked N prev n M → Listing T s b first last u M
list_other T s b first last u prev n N M (inl z) w y l = inl z
list_other T s b first last u prev n N M (inr o) w (inl z) l =
    let a = o.above in
    inr (record {
      above = a;
      chain = chain_keep N M s b u first last (λ i k p q c. l.others i k (λ e. omega arith) c) a o.below o.chain;
      below = o.below;
      closed = l.others (last - 1) 8 (λ e. omega arith) (omega arith) ∙ o.closed;
      apart = forest_linked T N M last u prev n (omega arith) l o.apart;
    })
list_other T s b first last u prev n N M (inr o) w (inr y) l =
    let a = o.above in
    let p = y.0.above in
    let c = chain_up N N s first last o.chain in
    let ne : prev ≡ last → ⊥ = λ e. let z = w e in omega arith in
    inr (record {
      above = a;
      chain = chain_linked N M s prev n first last (omega arith) y.1 l o.chain;
      below = o.below;
      closed = l.others (last - 1) 8 (λ e. ne (omega arith)) (omega arith) ∙ o.closed;
      apart = ⊎_elim (λ h. forest_link T last u prev n N M o.apart (inr (record { above = h; below = y.0.below; made = y.0.made; apart = y.0.apart })) l) (λ h. forest_linked T N M last u prev n h l o.apart) (lt_or_le last prev);
    })
