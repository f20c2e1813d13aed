-- Kept trees are well formed: of every reading, and of the whole parsing.
use mathlib.Core.Path.{◌≡◌, refl, sym, ap, ◌∙◌}
use mathlib.Core.List.{List}
use mathlib.Core.Bool.{Bool, true, false}
use mathlib.Core.Logic.{inl, ⊎_elim}
use Prim.Native.Nat.{ℕ, zero, suc, ◌+◌, ◌*◌, ◌≤◌, ◌<◌}
use native.Mathlib.Omega.{arith}
use lib.Dec.{eqb}
use lib.ListN.{get_or}
use lib.Seq.{get_or-take}
use Rattle.token.specs.Kind.{newline_kind}
use Rattle.records.specs.Table.{field, linked, zeroed, node_width}
use Rattle.records.proofs.Field.{field_same}
use Rattle.records.proofs.Rest.{zeroed_length, zeroed_take}
use Rattle.parser.specs.declared.State.{State}
use Rattle.parser.specs.declared.Found.{Found}
use Rattle.parser.specs.Tables.{Node, Stop}
use Rattle.parser.specs.Tokens.{View, count, kind_at}
use Rattle.parser.specs.Tables.{Reply, reply, fresh_state, consume_at}
use Rattle.parser.specs.Programs.{Which, Declaration, consume, run}
use Rattle.parser.specs.Grammar.{first_of, lower}
use Rattle.parser.specs.Whole.{Parsed, top_level, or_ends, if_end, statements, parsed}
use Rattle.records.specs.declared.Node as rows
use Rattle.trees.specs.Trees.{Sort, is_of, Column, Unused, One, Maybe, shape_of, column_of, child_of, permits, allows, kind_of, next_of, row_at, Reaches, here, there, Chain, single, more, Child, Fits, Formed, Statement, Many, Forest, Tree}
use Rattle.trees.proofs.TreeRows.{chain_up, Agree, Later, forest_none, forest_join}
use Rattle.trees.proofs.TreeTyping.{Covers, Held, sort_of, tight_from, Stands, Done, kept_all, done_then, done_down, done_link, Reads, sound, lower_sound}
use Rattle.trees.proofs.TreeLists.{Listing, fits_later, list_done, member_link, member_next}
use Rattle.trees.proofs.TreeReaders.{body_ok}

-- a view's own table has what a reading finds
covers_self : (U : View) → Covers U U.tokens
covers_self U = record { here = λ i k l e. e; past = λ i k l e. e }

-- at every level each reading makes well-formed rows, keeps those before it, and gives the last of them
pub lower_reads : (U : View) (l : ℕ) (w : Which) → Reads U.tokens (sort_of w) (tight_from w) (lower U l w)
lower_reads U = lower_sound U U.tokens (covers_self U) (body_ok U U.tokens)

-- so with well-formed rows before it there are well-formed rows after it
pub lower_keeps : (U : View) (l : ℕ) (w : Which) (b : ℕ) (p : State) (E N : List ℕ) → Stands U.tokens b p.nodes p.current N → Done U.tokens b (Held U.tokens (sort_of w) (tight_from w) p.nodes) N (lower U l w p E N)
lower_keeps U l w b p E N st = done_down U.tokens b (sort_of w) (tight_from w) (Held U.tokens (sort_of w) (tight_from w) p.nodes) p.nodes p.current N (lower U l w p E N) st (lower_reads U l w p E N st.fits st.cursor) (λ f v M l x h. h)

-- a top-level statement
module _ (U : View) (T : List ℕ) (c : Covers U T) where
  low_reads : (l : ℕ) (w : Which) → Reads T (sort_of w) (tight_from w) (lower U l w)
  low_reads = lower_sound U T c (body_ok U T)

  top_reads : Reads T Statement 0 (top_level U)
  unfolding top_level run
  top_reads p E N f g = done_then T p.nodes (Held T Statement 0 p.nodes) (Held T Statement 0 p.nodes) N (lower U 128 Declaration p E N) _ (low_reads 128 Declaration p E N f g) λ n q E M st h.
      done_then T p.nodes (λ g v M. Held T Statement 0 p.nodes n v M) (Held T Statement 0 p.nodes) M (consume_at U newline_kind 4 q E M) _
      (sound U T c (lower U 0) (low_reads 0) (consume newline_kind 4) q E M p.nodes (λ g v M. Held T Statement 0 p.nodes n v M) st (λ t c. h))
      λ g r E M st h. record { done = (kept_all T p.nodes M, st, h) }

-- what a parsing comes to is well formed
abbrev pub Whole : List ℕ → Parsed → Type 0
Whole T r = Tree T r.node_count r.first r.nodes

zeroed_same : (n : ℕ) (N : List ℕ) → Agree 0 n N (zeroed node_width N n)
zeroed_same n N i k l h c =
    let e : node_width * i + k < node_width * n = omega arith in
    field_same node_width k (zeroed node_width N n) N i (zeroed_length node_width N n) (sym (get_or-take (node_width * n) (zeroed node_width N n) (node_width * i + k) 0 e) ∙ ap (λ (l : List ℕ). get_or l (node_width * i + k) 0) (zeroed_take node_width N n) ∙ get_or-take (node_width * n) N (node_width * i + k) 0 e)

-- the rows of N are kept, in a table M that has them too
ends_tree : (T : List ℕ) (first last n : ℕ) (N M : List ℕ) → Forest T 0 n N → Listing T Statement 0 first last n N → Agree 0 n N M → Tree T n first (zeroed node_width M n)
ends_tree T first last n N M x s a =
    let l : Later n N n (zeroed node_width M n) = record { up = omega arith; same = λ i k p q c. zeroed_same n M i k p q c ∙ a i k p q c } in
    record { rows = forest_join T 0 n n N (zeroed node_width M n) (omega arith) x l (forest_none T n (zeroed node_width M n)); statements = fits_later l 0 (Many Statement) first (list_done T Statement 0 first last n N s) }

end_tree : (T : List ℕ) (b : Bool) (x y : Unit {0} → Parsed) → Whole T (x tt) → Whole T (y tt) → Whole T (if_end b x y)
end_tree T true x y a b = a
end_tree T false x y a b = b

or_tree : (T : List ℕ) (first last u c : ℕ) (N : List ℕ) (o : Reply) (k : ℕ → State → List ℕ → List ℕ → Parsed) → Stands T 0 u c N → Listing T Statement 0 first last u N → Done T u (Held T Statement 0 u) N o
    → ((f : Found) (q : State) (E M : List ℕ) → Stands T 0 q.nodes q.current M → Later u N q.nodes M → Forest T u q.nodes M → Held T Statement 0 u f q.nodes M → Whole T (k f.node q E M)) → Whole T (or_ends first u o k)
or_tree T first last u c N (reply q (Node f) E M) k st s d h =
    let r = done_down T 0 Statement 0 (λ f v M. Later u N v M × Forest T u v M × Held T Statement 0 u f v M) u c N (reply q (Node f) E M) st d (λ f v M l x h. (l, x, h)) in
    h f q E M r.done.1 r.done.2.0 r.done.2.1 r.done.2.2
or_tree T first last u c N (reply q (Stop o) E M) k st s d h = ends_tree T first last u N M st.forest s d.done.same

module _ (U : View) (T : List ℕ) (c : Covers U T) where
  statements_tree : (f first last : ℕ) (p : State) (E N : List ℕ) → Stands T 0 p.nodes p.current N → Listing T Statement 0 first last p.nodes N → Whole T (statements f U first last p E N)
  unfolding statements
  statements_tree zero first last p E N st s = ends_tree T first last p.nodes N N st.forest s (λ i k l h c. refl)
  statements_tree (suc f) first last p E N st s = end_tree T (eqb (kind_at U.tokens p.current) 0) _ _
      (ends_tree T first last p.nodes N N st.forest s (λ i k l h c. refl))
      (or_tree T first last p.nodes p.current N (top_level U p E N) _ st s (top_reads U T c p E N st.fits st.cursor) λ n q E M st l x h.
      let d = done_link T 0 (λ g v O. Listing T Statement 0 (first_of first n.node) n.node v O) last n.node q E M st (member_link n.node s l x h.child.above h.child.below, λ O k. member_next n.node (omega arith) s l x h.root h.child k) in
      statements_tree f (first_of first n.node) n.node q E (linked M last n.node) d.done.1 d.done.2)

  -- so the kept nodes of a parsing are well-formed trees over any table that has the tokens that it finds
  pub covered_tree : (rule errors : ℕ) (E N : List ℕ) → Whole T (parsed rule U errors E N)
  unfolding parsed
  covered_tree rule errors E N = statements_tree (suc (count U.tokens)) 0 0 (fresh_state rule errors) E N (record { low = omega arith; fits = omega arith; cursor = omega arith; forest = forest_none T 0 N }) (inl (refl, refl))

-- the kept nodes of every parsing are well-formed trees, whatever the tokens, however newlines are passed and however long the tables
pub parsed_tree : (rule : ℕ) (U : View) (errors : ℕ) (E N : List ℕ) → Whole U.tokens (parsed rule U errors E N)
parsed_tree rule U errors E N = covered_tree U U.tokens (covers_self U) rule errors E N

-- ---- what that says of each child and each member of its list
abbrev Sound : List ℕ → ℕ → Column → ℕ → Type 0
Sound N j k m = (m ≤ j) × (permits k (kind_of N m) ≡ true)

chain_reaches : (N : List ℕ) (s : Sort) (j n m last : ℕ) → Reaches N n m → Chain N s n last → next_of N last ≡ 0 → last ≤ j → (m ≤ j) × (is_of s (kind_of N m) ≡ true)
chain_reaches N s j _ _ _ (here n) (single _ k) z h = (h, k)
chain_reaches N s j _ _ _ (here n) (more _ last k g c) z h = let a = chain_up N N s (next_of N n) last c in (omega arith, k)
chain_reaches N s j _ _ _ (there n m p r) (single _ k) z h = absurd (omega arith)
chain_reaches N s j _ _ _ (there n m p r) (more _ last k g c) z h = chain_reaches N s j (next_of N n) m last r c z h

child_reaches : (N : List ℕ) (s : Sort) (d j n m : ℕ) → Reaches N n m → Child N d j s n → (m ≤ j) × (is_of s (kind_of N m) ≡ true)
child_reaches N s d j n m r x = chain_reaches N s j n m n r (single n x.kind) x.alone x.below

fits_reaches : (N : List ℕ) (d j : ℕ) (k : Column) (n m : ℕ) → 1 ≤ n → Reaches N n m → Fits N d j k n → Sound N j k m
fits_reaches N d j Unused n m p r x = absurd (omega arith)
fits_reaches N d j (One s) n m p r x = child_reaches N s d j n m r x
fits_reaches N d j (Maybe s) n m p r x = ⊎_elim (λ z. absurd (omega arith)) (λ y. child_reaches N s d j n m r y) x
fits_reaches N d j (Many s) n m p r x = ⊎_elim (λ z. absurd (omega arith)) (λ y. chain_reaches N s j n m y.last r y.chain y.closed y.below) x

column_fits : (T N : List ℕ) (d j : ℕ) (r : rows.Node) → Formed T N d j r → (k : ℕ) → Fits N d j (column_of (shape_of r.kind) k) (child_of r k)
column_fits T N d j r x zero = refl
column_fits T N d j r x (suc zero) = x.child1
column_fits T N d j r x (suc (suc zero)) = x.child2
column_fits T N d j r x (suc (suc (suc zero))) = x.child3
column_fits T N d j r x (suc (suc (suc (suc zero)))) = x.child4
column_fits T N d j r x (suc (suc (suc (suc (suc k))))) = refl

-- each child of a kept row, and each later member of its list, stands below its parent and is of a kind that the column allows
pub tree_allows : (T : List ℕ) (n first : ℕ) (N : List ℕ) → Tree T n first N → (j k m : ℕ) → j < n → 1 ≤ child_of (row_at N j) k → Reaches N (child_of (row_at N j) k) m → (m ≤ j) × (allows (field node_width 0 N j) k (kind_of N m) ≡ true)
tree_allows T n first N t j k m h p r = fits_reaches N 0 j (column_of (shape_of (field node_width 0 N j)) k) (child_of (row_at N j) k) m p r (column_fits T N 0 j (row_at N j) (t.rows.formed j (omega arith) h) k)
