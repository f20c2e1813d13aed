-- What a program has to show so that what it makes is well formed, as a type computed from the program; and that this suffices.
use mathlib.Core.Path.{◌≡◌, refl, sym, ◌∙◌}
use mathlib.Core.List.{List}
use mathlib.Core.Bool.{Bool, true, false}
use mathlib.Core.Logic.{◌⊎◌, inl, inr}
use Prim.Native.Nat.{ℕ, zero, suc, ◌+◌, ◌-◌, ◌*◌, ◌≤◌, ◌<◌}
use native.Mathlib.Omega.{arith}
use lib.Dec.{eqb}
use borrow.Author.Tests.{eqb-true}
use lib.ListN.{length, get_or, set, length-set}
use lib.Seq.{get_or-set_same, get_or-set_other}
use Rattle.records.specs.Table.{room, put, field, linked, node_width}
use Rattle.records.specs.Words.{node_words}
use Rattle.records.specs.declared.Node as rows
use Rattle.records.proofs.Rooms.{lt_or_le, room_fits, room_length}
use Rattle.records.proofs.Put.{put_length}
use Rattle.records.proofs.Field.{field_put, field_other, field_room, field_same}
use Rattle.records.proofs.Rest.{linked_room, linked_none, linked_length}
use Rattle.parser.specs.declared.State.{State}
use Rattle.parser.specs.declared.Form.{Form}
use Rattle.parser.specs.declared.Form.TheVariants.{Other, Empty, Name, Property}
use Rattle.parser.specs.declared.Found.{Found}
use Rattle.parser.specs.Tables.{Node, Stop}
use Rattle.std.specs.Prelude.{Option}
use Rattle.std.specs.Prelude.{Some, None}
use Rattle.parser.specs.Tokens.{View, count, kind_at, after, skip_lines, seen_if, check_at, matches_at}
use Rattle.parser.specs.Tables.{Reply, reply, looped, plain, push_node, push_error, if_seen, and_then, consume_at, require_at}
use Rattle.parser.specs.Programs.{Reader, Which, Declaration, Assignment, Operand, Prog, give, stop, ◌>>=◌, ◌>>◌, look, check, at_end, previous, node, link, fail, fail_at, consume, require, enter_loop, leave_loop, give_back, inside_loop, in_function, down, either, restored, run}
use Rattle.parser.specs.Grammar.{body, lower}
use Rattle.parser.proofs.Look.{kind_inside, after_in}
use Rattle.parser.proofs.Push.{push_node_lem, push_error_lem}
use Rattle.trees.specs.Trees.{Sort, Expression, Statement, Index, tight_of, Child, Formed, Forest}
use Rattle.trees.proofs.TreeRows.{Agree, formed_keep, Later, Made, Linked, Behind, forest_join, forest_none, forest_made, forest_link}

-- ---- what the leaves write
put_other : (N : List ℕ) (u : ℕ) (d : rows.Node) → Agree 0 u N (put node_width N u (node_words d))
put_other N u d i k l h c = field_other node_width k N u (node_words d) refl c i (λ e. omega arith)

put_made : (N : List ℕ) (u : ℕ) (d : rows.Node) → d.next ≡ 0 → u < room node_width N → Made u N d (put node_width N u (node_words d))
put_made N u d e h = record {
  later = record { up = omega arith; same = put_other N u d };
  row = rw (f 0 (omega arith), f 1 (omega arith), f 2 (omega arith), f 3 (omega arith), f 4 (omega arith), f 5 (omega arith), f 6 (omega arith), f 7 (omega arith)) (λ i. record { kind = d.kind; token1 = d.token1; token2 = d.token2; token3 = d.token3; child1 = d.child1; child2 = d.child2; child3 = d.child3; child4 = d.child4; next = sym e i });
  next = f 8 (omega arith) ∙ e;
}
  where
    f : (k : ℕ) → k < node_width → field node_width k (put node_width N u (node_words d)) u ≡ get_or (node_words d) k 0
    f k c = field_put node_width k N u (node_words d) refl c h

link_linked : (N : List ℕ) (u prev n : ℕ) → u ≤ room node_width N → prev ≤ u → Linked N prev n (linked N prev n)
link_linked N u prev n r h = go (lt_or_le 0 prev)
  where
    go : (0 < prev) ⊎ (prev ≤ 0) → Linked N prev n (linked N prev n)
    go (inl p) = rw (linked_room N prev n p (omega arith)) (record {
      others = λ i k w c. field_same node_width k (set N (node_width * (prev - 1) + 8) n) N i (length-set N (node_width * (prev - 1) + 8) n) (get_or-set_other N (node_width * (prev - 1) + 8) (node_width * i + k) n 0 (λ e. w (omega arith)));
      words = λ i k c. field_same node_width k (set N (node_width * (prev - 1) + 8) n) N i (length-set N (node_width * (prev - 1) + 8) n) (get_or-set_other N (node_width * (prev - 1) + 8) (node_width * i + k) n 0 (λ e. omega arith));
      put = λ q.
          let f = room_fits node_width N (prev - 1) (omega arith) in
          let e = room_length node_width (set N (node_width * (prev - 1) + 8) n) N (length-set N (node_width * (prev - 1) + 8) n) in
          field_room node_width 8 (set N (node_width * (prev - 1) + 8) n) (prev - 1) (omega arith) ∙ get_or-set_same N (node_width * (prev - 1) + 8) n 0 (omega arith);
    })
    go (inr p) = let z : prev ≡ 0 = omega arith in rw (linked_none N prev n (inl z)) (record { others = λ i k w c. refl; words = λ i k c. refl; put = λ q. absurd (omega arith) })

-- ---- the token found is of the kind, so it is one of the table's: no reader asks for EOF
-- the table T has the tokens that a reading of the view U finds from one of its tokens, or from its end, on: U's own table has them, and so have its tokens before an EOF
pub record Covers (U : View) (T : List ℕ) : Type 0 where
  pub here : (i k : ℕ) → i ≤ count T → kind_at U.tokens i ≡ suc k → kind_at T i ≡ suc k
  pub past : (i k : ℕ) → i ≤ count T → kind_at U.tokens (skip_lines U i) ≡ suc k → kind_at T (skip_lines U i) ≡ suc k

-- a token of that kind in both
pub record Both (S T : List ℕ) (kind i : ℕ) : Type 0 where
  pub first : kind_at S i ≡ kind
  pub second : kind_at T i ≡ kind

abbrev Spotted : List ℕ → List ℕ → ℕ → Option ℕ → Type 0
Spotted S T kind (Some i) = Both S T kind i
Spotted S T kind None = Unit {0}

-- reference i names a token of the kind
pub record Token (T : List ℕ) (kind i : ℕ) : Type 0 where
  pub within : i ≤ count T
  pub seen : kind_at T (i - 1) ≡ kind

abbrev Passed : List ℕ → ℕ → Option ℕ → Type 0
Passed T kind (Some i) = Token T kind i
Passed T kind None = Unit {0}

seen_kind : (S T : List ℕ) (kind i : ℕ) → (kind_at S i ≡ kind → kind_at T i ≡ kind) → (b : Bool) → eqb (kind_at S i) kind ≡ b → Spotted S T kind (seen_if b i)
unfolding seen_if
seen_kind S T kind i h true e = let f = eqb-true _ _ e in record { first = f; second = h f }
seen_kind S T kind i h false e = tt

after_kind : (S T : List ℕ) (k i : ℕ) → Both S T (suc k) i → Token T (suc k) (after S i)
after_kind S T k i b =
    let e = b.first in
    let h = kind_inside T i k b.second in
    let y : i + 1 - 1 ≡ i = omega arith in
    rw (← after_in S i λ z. omega (arith, e, z)) (record { within = omega (arith, h); seen = rw y b.second })

module _ (U : View) (T : List ℕ) (c : Covers U T) where
  check_kind : (i k : ℕ) → i ≤ count T → Spotted U.tokens T (suc k) (check_at U i (suc k))
  unfolding check_at
  check_kind i k l = go (eqb (suc k) 1) refl
    where
      S : List ℕ
      S = U.tokens

      go : (b : Bool) → eqb (suc k) 1 ≡ b → Spotted S T (suc k) (elim b [ true ↦ seen_if (eqb (kind_at S i) 1) i | false ↦ seen_if (eqb (kind_at S (skip_lines U i)) (suc k)) (skip_lines U i) ])
      go true e = let f = eqb-true (suc k) 1 e in rw f (seen_kind S T 1 i (c.here i 0 l) (eqb (kind_at S i) 1) refl)
      go false e = seen_kind S T (suc k) (skip_lines U i) (c.past i k l) (eqb (kind_at S (skip_lines U i)) (suc k)) refl

  matches_kind : (i k : ℕ) → i ≤ count T → Passed T (suc k) (matches_at U i (suc k))
  unfolding matches_at
  matches_kind i k l = go (check_at U i (suc k)) (check_kind i k l)
    where
      go : (s : Option ℕ) → Spotted U.tokens T (suc k) s → Passed T (suc k) (elim s [ Some j ↦ Some (after U.tokens j) | None ↦ None ])
      go (Some j) x = after_kind U.tokens T k j x
      go None x = tt

-- ---- what is found
-- what may stand left of `=` refers to a token, and to an expression that is no list's member
abbrev pub FormFits : List ℕ → ℕ → ℕ → List ℕ → Form → Type 0
FormFits T b u N Other = Unit {0}
FormFits T b u N Empty = Unit {0}
FormFits T b u N (Name t) = t ≤ count T
FormFits T b u N (Property t o) = (t ≤ count T) × Child N b u Expression o

-- a node of the sort, the last one made and no list's member, that binds at least as tight as l
pub record Held (T : List ℕ) (s : Sort) (l b : ℕ) (f : Found) (u : ℕ) (N : List ℕ) : Type 0 where
  pub root : f.node ≡ u
  pub child : Child N b u s f.node
  pub tight : l ≤ tight_of T N f.node
  pub form : FormFits T b u N f.form
  pub access : (f.access ≡ 0) ⊎ Child N b u Index f.access

abbrev pub sort_of : Which → Sort
sort_of Declaration = Statement
sort_of Assignment = Expression
sort_of Operand = Expression

abbrev pub tight_from : Which → ℕ
tight_from Declaration = 0
tight_from Assignment = 0
tight_from Operand = 8

-- ---- what a program has to show: from u nodes in the table N to what R says of what is found, the nodes then and the table then; all that it makes refers to nothing at or below b
module _ (T : List ℕ) where
  abbrev pub Wp : ℕ → Prog → (Found → ℕ → List ℕ → Type 0) → ℕ → List ℕ → Type 0
  Wp b (give f) R u N = R f u N
  Wp b (stop o) R u N = Unit {0}
  Wp b (m >>= k) R u N = Wp b m (λ f v M. Wp b (k f) R v M) u N
  Wp b (m >> k) R u N = Wp b m (λ f v M. Wp b k R v M) u N
  Wp b (look zero found missing) R u N = ⊥
  Wp b (look (suc k) found missing) R u N = ((i : ℕ) → Token T (suc k) i → Wp b (found i) R u N) × Wp b missing R u N
  Wp b (check zero found missing) R u N = ⊥
  Wp b (check (suc k) found missing) R u N = Wp b found R u N × Wp b missing R u N
  Wp b (at_end found missing) R u N = Wp b found R u N × Wp b missing R u N
  Wp b previous R u N = (t : ℕ) → t ≤ count T → R (plain t) u N
  Wp b (node d) R u N = Formed T N b u d × (d.next ≡ 0) × ((M : List ℕ) → Made u N d M → R (plain (u + 1)) (u + 1) M)
  Wp b (link prev n) R u N = ((prev ≡ 0) ⊎ Behind T b u N prev n) × ((M : List ℕ) → Linked N prev n M → R (plain 0) u M)
  Wp b (fail message) R u N = R (plain 0) u N
  Wp b (fail_at message token) R u N = R (plain 0) u N
  Wp b (consume zero message) R u N = ⊥
  Wp b (consume (suc k) message) R u N = (t : ℕ) → t ≤ count T → R (plain t) u N
  Wp b (require zero message) R u N = ⊥
  Wp b (require (suc k) message) R u N = (t : ℕ) → t ≤ count T → R (plain t) u N
  Wp b enter_loop R u N = R (plain 0) u N
  Wp b leave_loop R u N = R (plain 0) u N
  Wp b give_back R u N = R (plain 0) u N
  Wp b (inside_loop found missing) R u N = Wp b found R u N × Wp b missing R u N
  Wp b (in_function name m) R u N = Wp b m R u N
  Wp b (down w) R u N = (f : Found) (v : ℕ) (M : List ℕ) → Later u N v M → Forest T u v M → Held T (sort_of w) (tight_from w) u f v M → R f v M

  -- a program with its own start d, inside one that started earlier
  abbrev Onward : ℕ → List ℕ → (Found → ℕ → List ℕ → Type 0) → (Found → ℕ → List ℕ → Type 0) → Type 0
  Onward d N₀ R' R = (f : Found) (v : ℕ) (M : List ℕ) → d ≤ v → Agree 0 d N₀ M → Forest T d v M → R' f v M → R f v M

  pub behind_less : (b d u prev n : ℕ) (N : List ℕ) → b ≤ d → (prev ≡ 0) ⊎ Behind T d u N prev n → (prev ≡ 0) ⊎ Behind T b u N prev n
  behind_less b d u prev n N h (inl z) = inl z
  behind_less b d u prev n N h (inr y) = let a = y.above in inr (record { above = omega arith; below = y.below; made = y.made; apart = y.apart })

  pub link_kept : (d u prev n : ℕ) (N M : List ℕ) → (prev ≡ 0) ⊎ Behind T d u N prev n → Linked N prev n M → Agree 0 d N M
  link_kept d u prev n N M (inl z) l i k p q c = l.others i k (λ e. omega arith) c
  link_kept d u prev n N M (inr y) l i k p q c = let a = y.above in l.others i k (λ e. omega arith) c

  weaken : (b d : ℕ) (N₀ : List ℕ) → b ≤ d → (Q : Prog) (R' R : Found → ℕ → List ℕ → Type 0) (u : ℕ) (N : List ℕ) → d ≤ u → Agree 0 d N₀ N → Forest T d u N → Wp d Q R' u N → Onward d N₀ R' R → Wp b Q R u N
  weaken b d N₀ h (give f) R' R u N p a x w o = o f u N p a x w
  weaken b d N₀ h (stop e) R' R u N p a x w o = tt
  weaken b d N₀ h (m >>= k) R' R u N p a x w o = weaken b d N₀ h m (λ f v M. Wp d (k f) R' v M) (λ f v M. Wp b (k f) R v M) u N p a x w (λ f v M p a x w. weaken b d N₀ h (k f) R' R v M p a x w o)
  weaken b d N₀ h (m >> k) R' R u N p a x w o = weaken b d N₀ h m (λ f v M. Wp d k R' v M) (λ f v M. Wp b k R v M) u N p a x w (λ f v M p a x w. weaken b d N₀ h k R' R v M p a x w o)
  weaken b d N₀ h (look zero found missing) R' R u N p a x w o = absurd w
  weaken b d N₀ h (look (suc e) found missing) R' R u N p a x w o = (λ i t. weaken b d N₀ h (found i) R' R u N p a x (w.0 i t) o, weaken b d N₀ h missing R' R u N p a x w.1 o)
  weaken b d N₀ h (check zero found missing) R' R u N p a x w o = absurd w
  weaken b d N₀ h (check (suc e) found missing) R' R u N p a x w o = (weaken b d N₀ h found R' R u N p a x w.0 o, weaken b d N₀ h missing R' R u N p a x w.1 o)
  weaken b d N₀ h (at_end found missing) R' R u N p a x w o = (weaken b d N₀ h found R' R u N p a x w.0 o, weaken b d N₀ h missing R' R u N p a x w.1 o)
  weaken b d N₀ h previous R' R u N p a x w o = λ t l. o (plain t) u N p a x (w t l)
  weaken b d N₀ h (node r) R' R u N p a x w o = (
    formed_keep N N d u b u (λ i k y z c. refl) h (omega arith) T r w.0,
    w.1,
    λ M m. o (plain (u + 1)) (u + 1) M (omega arith) (λ i k y z c. m.later.same i k y (omega arith) c ∙ a i k y z c) (forest_made T d u N M r p x w.0 m) (w.2 M m),
  )
  weaken b d N₀ h (link prev n) R' R u N p a x w o = (
    behind_less b d u prev n N h w.0,
    λ M l. o (plain 0) u M p (λ i k y z c. link_kept d u prev n N M w.0 l i k y z c ∙ a i k y z c) (forest_link T d u prev n N M x w.0 l) (w.1 M l),
  )
  weaken b d N₀ h (fail message) R' R u N p a x w o = o (plain 0) u N p a x w
  weaken b d N₀ h (fail_at message token) R' R u N p a x w o = o (plain 0) u N p a x w
  weaken b d N₀ h (consume zero message) R' R u N p a x w o = absurd w
  weaken b d N₀ h (consume (suc e) message) R' R u N p a x w o = λ t l. o (plain t) u N p a x (w t l)
  weaken b d N₀ h (require zero message) R' R u N p a x w o = absurd w
  weaken b d N₀ h (require (suc e) message) R' R u N p a x w o = λ t l. o (plain t) u N p a x (w t l)
  weaken b d N₀ h enter_loop R' R u N p a x w o = o (plain 0) u N p a x w
  weaken b d N₀ h leave_loop R' R u N p a x w o = o (plain 0) u N p a x w
  weaken b d N₀ h give_back R' R u N p a x w o = o (plain 0) u N p a x w
  weaken b d N₀ h (inside_loop found missing) R' R u N p a x w o = (weaken b d N₀ h found R' R u N p a x w.0 o, weaken b d N₀ h missing R' R u N p a x w.1 o)
  weaken b d N₀ h (in_function name m) R' R u N p a x w o = weaken b d N₀ h m R' R u N p a x w o
  weaken b d N₀ h (down k) R' R u N p a x w o = λ f v M l y z. let g = l.up in o f v M (omega arith) (λ i k y z c. l.same i k y (omega arith) c ∙ a i k y z c) (forest_join T d u v N M p x l y) (w f v M l y z)

  -- a reader by name, from where it is called
  pub call : (b : ℕ) (Q : Prog) (R' R : Found → ℕ → List ℕ → Type 0) (u : ℕ) (N : List ℕ) → b ≤ u → Wp u Q R' u N → ((f : Found) (v : ℕ) (M : List ℕ) → Later u N v M → Forest T u v M → R' f v M → R f v M) → Wp b Q R u N
  call b Q R' R u N h w o = weaken b u N h Q R' R u N (omega arith) (λ i k y z c. refl) (forest_none T u N) w (λ f v M p a x r. o f v M (record { up = p; same = a }) x r)

  -- ---- and that suffices
  pub record Stands (b u c : ℕ) (N : List ℕ) : Type 0 where
    pub low : b ≤ u
    pub fits : u ≤ room node_width N
    pub cursor : c ≤ count T
    pub forest : Forest T b u N

  pub record Kept (b : ℕ) (N M : List ℕ) : Type 0 where
    pub same : Agree 0 b N M
    pub long : length M ≡ length N

  pub kept_all : (b : ℕ) (N : List ℕ) → Kept b N N
  kept_all b N = record { same = λ i k y z c. refl; long = refl }

  kept_then : (b : ℕ) (N M O : List ℕ) → Kept b N M → Kept b M O → Kept b N O
  kept_then b N M O x y = record { same = λ i k p q c. y.same i k p q c ∙ x.same i k p q c; long = y.long ∙ x.long }

  abbrev pub DoneOf : ℕ → (Found → ℕ → List ℕ → Type 0) → List ℕ → Reply → Type 0
  DoneOf b R N (reply q (Node f) E M) = Kept b N M × Stands b q.nodes q.current M × R f q.nodes M
  DoneOf b R N (reply q (Stop o) E M) = Kept b N M

  pub record Done (b : ℕ) (R : Found → ℕ → List ℕ → Type 0) (N : List ℕ) (o : Reply) : Type 0 where
    pub done : DoneOf b R N o

  done_kept : (b : ℕ) (R : Found → ℕ → List ℕ → Type 0) (N M : List ℕ) (o : Reply) → Kept b N M → Done b R M o → Done b R N o
  done_kept b R N M (reply q (Node f) E O) x y = record { done = (kept_then b N M O x y.done.0, y.done.1, y.done.2) }
  done_kept b R N M (reply q (Stop w) E O) x y = record { done = kept_then b N M O x y.done }

  pub done_then : (b : ℕ) (R' R : Found → ℕ → List ℕ → Type 0) (N : List ℕ) (o : Reply) (k : Found → Reader) → Done b R' N o → ((f : Found) (q : State) (E M : List ℕ) → Stands b q.nodes q.current M → R' f q.nodes M → Done b R M (k f q E M)) → Done b R N (and_then o k)
  done_then b R' R N (reply q (Node f) E M) k x g = done_kept b R N M (k f q E M) x.done.0 (g f q E M x.done.1 x.done.2)
  done_then b R' R N (reply q (Stop w) E M) k x g = record { done = x.done }

  done_passed : (b : ℕ) (R : Found → ℕ → List ℕ → Type 0) (N : List ℕ) (kind : ℕ) (s : Option ℕ) (f : ℕ → Reply) (g : Unit {0} → Reply) → Passed T kind s → ((i : ℕ) → Token T kind i → Done b R N (f i)) → Done b R N (g tt) → Done b R N (if_seen s f g)
  done_passed b R N kind (Some i) f g t h e = h i t
  done_passed b R N kind None f g t h e = e

  done_spotted : (b : ℕ) (R : Found → ℕ → List ℕ → Type 0) (N : List ℕ) (k : ℕ) (S : List ℕ) (s : Option ℕ) (f : ℕ → Reply) (g : Unit {0} → Reply) → Spotted S T (suc k) s → ((i : ℕ) → i ≤ count T → Done b R N (f i)) → Done b R N (g tt) → Done b R N (if_seen s f g)
  done_spotted b R N k S (Some i) f g t h e = let l = kind_inside T i k t.second in h i (omega arith)
  done_spotted b R N k S None f g t h e = e

  done_either : (b : ℕ) (R : Found → ℕ → List ℕ → Type 0) (N : List ℕ) (t : Bool) (f g : Unit {0} → Reply) → Done b R N (f tt) → Done b R N (g tt) → Done b R N (either t f g)
  done_either b R N true f g x y = x
  done_either b R N false f g x y = y

  done_restored : (b : ℕ) (R : Found → ℕ → List ℕ → Type 0) (N : List ℕ) (p : State) (o : Reply) → Done b R N o → Done b R N (restored p o)
  done_restored b R N p (reply q (Node f) E M) x = record { done = x.done }
  done_restored b R N p (reply q (Stop w) E M) x = record { done = x.done }

  state_moved : {b u c : ℕ} {N : List ℕ} (i : ℕ) → i ≤ count T → Stands b u c N → Stands b u i N
  state_moved i h st = record { low = st.low; fits = st.fits; cursor = h; forest = st.forest }

  done_push : (b : ℕ) (R : Found → ℕ → List ℕ → Type 0) (d : rows.Node) (p : State) (E N : List ℕ) → Stands b p.nodes p.current N → Wp b (node d) R p.nodes N → Done b R N (push_node d p E N)
  done_push b R d p E N st w =
      push_node_lem (Done b R N) d p E N
      (λ h.
      let m = put_made N p.nodes d w.1 h in
      let l = st.low in
      let long : length (put node_width N p.nodes (node_words d)) ≡ length N = put_length node_width N p.nodes (node_words d) refl in
      let same = room_length node_width (put node_width N p.nodes (node_words d)) N long in
      let kept : Kept b N (put node_width N p.nodes (node_words d)) = record { same = λ i k y z c. m.later.same i k y (omega arith) c; long = long } in
      let st' : Stands b (p.nodes + 1) p.current (put node_width N p.nodes (node_words d)) = record { low = omega arith; fits = omega arith; cursor = st.cursor; forest = forest_made T b p.nodes N (put node_width N p.nodes (node_words d)) d l st.forest w.0 m } in
      record { done = (kept, st', w.2 (put node_width N p.nodes (node_words d)) m) })
      (record { done = kept_all b N })

  done_error : (b : ℕ) (R : Found → ℕ → List ℕ → Type 0) (S : List ℕ) (message i : ℕ) (p : State) (E N : List ℕ) → Stands b p.nodes p.current N → R (plain 0) p.nodes N → Done b R N (push_error S message i p E N)
  done_error b R S message i p E N st w = push_error_lem (Done b R N) S message i p E N (λ _. record { done = (kept_all b N, st, w) }) (record { done = kept_all b N })

  -- a reader one level down
  abbrev pub Reads : Sort → ℕ → Reader → Type 0
  Reads s l r = (p : State) (E N : List ℕ) → p.nodes ≤ room node_width N → p.current ≤ count T → Done p.nodes (Held T s l p.nodes) N (r p E N)

  pub done_down : (b : ℕ) (s : Sort) (l : ℕ) (R : Found → ℕ → List ℕ → Type 0) (u c : ℕ) (N : List ℕ) (o : Reply) → Stands b u c N → Done u (Held T s l u) N o → ((f : Found) (v : ℕ) (M : List ℕ) → Later u N v M → Forest T u v M → Held T s l u f v M → R f v M) → Done b R N o
  done_down b s l R u c N (reply q (Node f) E M) st x w =
      let z = st.low in
      let y = x.done.1 in
      let g = y.low in
      let later : Later u N q.nodes M = record { up = g; same = x.done.0.same } in
      let kept : Kept b N M = record { same = λ i k e h c. x.done.0.same i k e (omega arith) c; long = x.done.0.long } in
      let st' : Stands b q.nodes q.current M = record { low = omega arith; fits = y.fits; cursor = y.cursor; forest = forest_join T b u q.nodes N M z st.forest later y.forest } in
      record { done = (kept, st', w f q.nodes M later y.forest x.done.2) }
  done_down b s l R u c N (reply q (Stop o) E M) st x w = let z = st.low in record { done = record { same = λ i k e h c. x.done.same i k e (omega arith) c; long = x.done.long } }

  pub done_link : (b : ℕ) (R : Found → ℕ → List ℕ → Type 0) (prev n : ℕ) (p : State) (E N : List ℕ) → Stands b p.nodes p.current N → Wp b (link prev n) R p.nodes N → Done b R N (reply p (Node (plain 0)) E (linked N prev n))
  done_link b R prev n p E N st w =
      let l = link_linked N p.nodes prev n st.fits (below w.0) in
      let long : length (linked N prev n) ≡ length N = linked_length N prev n in
      let same = room_length node_width (linked N prev n) N long in
      let f = st.fits in
      let kept : Kept b N (linked N prev n) = record { same = link_kept b p.nodes prev n N (linked N prev n) w.0 l; long = long } in
      let st' : Stands b p.nodes p.current (linked N prev n) = record { low = st.low; fits = omega arith; cursor = st.cursor; forest = forest_link T b p.nodes prev n N (linked N prev n) st.forest w.0 l } in
      record { done = (kept, st', w.1 (linked N prev n) l) }
    where
      below : (prev ≡ 0) ⊎ Behind T b p.nodes N prev n → prev ≤ p.nodes
      below (inl z) = omega arith
      below (inr y) = let a = y.below in let m = y.made in omega arith

-- over any view, however it passes newlines, and any table that has the tokens that a reading finds
module _ (U : View) (T : List ℕ) (c : Covers U T) (low : Which → Reader) (h : (w : Which) → Reads T (sort_of w) (tight_from w) (low w)) where
  pub sound : (Q : Prog) (p : State) (E N : List ℕ) (b : ℕ) (R : Found → ℕ → List ℕ → Type 0) → Stands T b p.nodes p.current N → Wp T b Q R p.nodes N → Done T b R N (run U low Q p E N)
  unfolding run consume_at require_at
  sound (give f) p E N b R st w = record { done = (kept_all T b N, st, w) }
  sound (stop o) p E N b R st w = record { done = kept_all T b N }
  sound (m >>= k) p E N b R st w = done_then T b (λ f v M. Wp T b (k f) R v M) R N (run U low m p E N) (λ f q E M. run U low (k f) q E M) (sound m p E N b (λ f v M. Wp T b (k f) R v M) st w) (λ f q E M st w. sound (k f) q E M b R st w)
  sound (m >> k) p E N b R st w = done_then T b (λ f v M. Wp T b k R v M) R N (run U low m p E N) (λ f q E M. run U low k q E M) (sound m p E N b (λ f v M. Wp T b k R v M) st w) (λ f q E M st w. sound k q E M b R st w)
  sound (look zero found missing) p E N b R st w = absurd w
  sound (look (suc k) found missing) p E N b R st w = done_passed T b R N (suc k) (matches_at U p.current (suc k)) _ _ (matches_kind U T c p.current k st.cursor) (λ i t. sound (found i) _ E N b R (state_moved T i t.within st) (w.0 i t)) (sound missing _ E N b R st w.1)
  sound (check zero found missing) p E N b R st w = absurd w
  sound (check (suc k) found missing) p E N b R st w = done_spotted T b R N k U.tokens (check_at U p.current (suc k)) _ _ (check_kind U T c p.current k st.cursor) (λ i t. sound found _ E N b R (state_moved T i t st) w.0) (sound missing _ E N b R st w.1)
  sound (at_end found missing) p E N b R st w = done_either T b R N (eqb (kind_at U.tokens p.current) 0) _ _ (sound found p E N b R st w.0) (sound missing p E N b R st w.1)
  sound previous p E N b R st w = record { done = (kept_all T b N, st, w p.current st.cursor) }
  sound (node d) p E N b R st w = done_push T b R d p E N st w
  sound (link prev n) p E N b R st w = done_link T b R prev n p E N st w
  sound (fail message) p E N b R st w = done_error T b R U.tokens message p.current p E N st w
  sound (fail_at message token) p E N b R st w = done_error T b R U.tokens message (token - 1) p E N st w
  sound (consume zero message) p E N b R st w = absurd w
  sound (consume (suc k) message) p E N b R st w = done_passed T b R N (suc k) (matches_at U p.current (suc k)) _ _ (matches_kind U T c p.current k st.cursor) (λ i t. record { done = (kept_all T b N, state_moved T i t.within st, w i t.within) }) (done_error T b R U.tokens message p.current _ E N st (w 0 (omega arith)))
  sound (require zero message) p E N b R st w = absurd w
  sound (require (suc k) message) p E N b R st w = done_passed T b R N (suc k) (matches_at U p.current (suc k)) _ _ (matches_kind U T c p.current k st.cursor) (λ i t. record { done = (kept_all T b N, state_moved T i t.within st, w i t.within) }) (done_then T b (λ f v M. Unit {0}) R N _ _ (done_error T b (λ f v M. Unit {0}) U.tokens message p.current _ E N st tt) (λ f q E M st w. record { done = kept_all T b M }))
  sound enter_loop p E N b R st w = record { done = (kept_all T b N, st, w) }
  sound leave_loop p E N b R st w = record { done = (kept_all T b N, st, w) }
  sound give_back p E N b R st w = record { done = (kept_all T b N, st, w) }
  sound (inside_loop found missing) p E N b R st w = done_either T b R N (eqb p.loops 0) _ _ (sound missing p E N b R st w.1) (sound found p E N b R st w.0)
  sound (in_function name m) p E N b R st w = done_restored T b R N p (run U low m (looped p 0) E N) (sound m (looped p 0) E N b R st w)
  sound (down k) p E N b R st w = done_down T b (sort_of k) (tight_from k) R p.nodes p.current N (low k p E N) st (h k p E N st.fits st.cursor) w

pub lower_sound : (U : View) (T : List ℕ) → Covers U T → ((w : Which) (u : ℕ) (N : List ℕ) → Wp T u (body U w) (Held T (sort_of w) (tight_from w) u) u N) → (l : ℕ) (w : Which) → Reads T (sort_of w) (tight_from w) (lower U l w)
unfolding lower
lower_sound U T v h zero w p E N f c = record { done = kept_all T p.nodes N }
lower_sound U T v h (suc l) w p E N f c = sound U T v (lower U l) (lower_sound U T v h l) (body U w) p E N p.nodes (Held T (sort_of w) (tight_from w) p.nodes) (record { low = omega arith; fits = f; cursor = c; forest = forest_none T p.nodes N }) (h w p.nodes N)
