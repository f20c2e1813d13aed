-- A parsing depends on the lengths of the tables and on the errors from before, and not on what else they hold: two pairs of tables that are as long, and alike in what is kept, give the same answer and stay so.
use mathlib.Core.Path.{◌≡◌, refl, sym, ap, ◌∙◌}
use mathlib.Core.Bool.{Bool, true, false, cond, ◌&&◌}
use mathlib.Core.List.{List, ◌++◌}
use mathlib.Core.Logic.{⊎_elim}
use Prim.Native.Nat.{ℕ, zero, suc, ◌+◌, ◌-◌, ◌*◌, ◌≤◌, ◌<◌}
use native.Mathlib.Omega.{arith}
use lib.Dec.{leb, eqb}
use lib.ListN.{length, take, drop, set, replicate, length-set, take-append-drop}
use lib.Seq.{take-set-le, take-set-lt}
use Rattle.token.specs.Kind.{newline_kind}
use Rattle.records.specs.Table.{room, put, linked, zeroed, error_width, node_width}
use Rattle.records.specs.Words.{error_words, node_words}
use Rattle.records.specs.declared.Node as rows
use Rattle.records.proofs.Rooms.{room_length, lt_or_le}
use Rattle.records.proofs.Put.{put_take, put_length}
use Rattle.parser.specs.declared.State.{State}
use Rattle.parser.specs.declared.Found.{Found}
use Rattle.parser.specs.Tables.{Got}
use Rattle.parser.specs.Tables.{Node, Stop}
use Rattle.std.specs.Prelude.{Option}
use Rattle.std.specs.Prelude.{Some, None}
use Rattle.parser.specs.Tokens.{View, count, kind_at, check_at, matches_at}
use Rattle.parser.specs.Tables.{Reply, reply, looped, fresh_state, error_at, push_node, push_error, if_seen, and_then, consume_at, require_at}
use Rattle.parser.specs.Programs.{Reader, Which, Declaration, Prog, give, stop, ◌>>=◌, ◌>>◌, look, check, at_end, previous, node, link, fail, fail_at, consume, require, enter_loop, leave_loop, give_back, inside_loop, in_function, down, either, restored, run}
use Rattle.parser.specs.Grammar.{first_of, body, lower}
use Rattle.parser.specs.Whole.{Parsed, ends, top_level, or_ends, if_end, statements, parsed}
use Rattle.parser.proofs.Push.{push_nodes, push_errors}
use Rattle.parsing.proofs.Frame.{Grown, take_less, top_frames, parsed_errors_kept}

-- as long, and alike in the first e errors and n nodes
pub record Alike (e n : ℕ) (E N E' N' : List ℕ) : Type 0 where
  pub errors_long : length E ≡ length E'
  pub nodes_long : length N ≡ length N'
  pub errors_same : take (error_width * e) E ≡ take (error_width * e) E'
  pub nodes_same : take (node_width * n) N ≡ take (node_width * n) N'

-- the same state, the same found or the same stop, and tables that are alike in what is kept
pub data Same : Reply → Reply → Type 0 where
  same : (q : State) (g : Got) (E N E' N' : List ℕ) → Alike q.errors q.nodes E N E' N' → Same (reply q g E N) (reply q g E' N')

-- a reader that does the same with tables that are alike
abbrev pub Sized : Reader → Type 0
Sized r = (p : State) (E N E' N' : List ℕ) → Alike p.errors p.nodes E N E' N' → Same (r p E N) (r p E' N')

same_then : {r r' : Reply} (k : Found → Reader) → Same r r' → ((f : Found) → Sized (k f)) → Same (and_then r k) (and_then r' k)
same_then k (same q (Node f) E N E' N' a) h = h f q E N E' N' a
same_then k (same q (Stop o) E N E' N' a) h = same q (Stop o) E N E' N' a

same_seen : (s : Option ℕ) (f f' : ℕ → Reply) (g g' : Unit {0} → Reply) → ((i : ℕ) → Same (f i) (f' i)) → Same (g tt) (g' tt) → Same (if_seen s f g) (if_seen s f' g')
same_seen (Some i) f f' g g' h e = h i
same_seen None f f' g g' h e = e

same_either : (b : Bool) (f f' g g' : Unit {0} → Reply) → Same (f tt) (f' tt) → Same (g tt) (g' tt) → Same (either b f g) (either b f' g')
same_either true f f' g g' h e = h
same_either false f f' g g' h e = e

same_restored : (p : State) {r r' : Reply} → Same r r' → Same (restored p r) (restored p r')
same_restored p (same q (Node f) E N E' N' a) = same (looped q p.loops) (Node f) E N E' N' a
same_restored p (same q (Stop o) E N E' N' a) = same q (Stop o) E N E' N' a

-- the same record more in both
put_same : (w : ℕ) (t u : List ℕ) (n : ℕ) (ws : List ℕ) → length ws ≡ w → length t ≡ length u → n < room w t → take (w * n) t ≡ take (w * n) u → take (w * (n + 1)) (put w t n ws) ≡ take (w * (n + 1)) (put w u n ws)
put_same w t u n ws l e h s = put_take w t n ws l h ∙ ap (λ (x : List ℕ). x ++ ws) s ∙ sym (put_take w u n ws l (rw (← room_length w t u e) h))

put_long : (w : ℕ) (t u : List ℕ) (n : ℕ) (ws : List ℕ) → length ws ≡ w → length t ≡ length u → length (put w t n ws) ≡ length (put w u n ws)
put_long w t u n ws l e = put_length w t n ws l ∙ e ∙ sym (put_length w u n ws l)

-- the same word in both
set_same : (L L' : List ℕ) (m i a : ℕ) → take m L ≡ take m L' → take m (set L i a) ≡ take m (set L' i a)
set_same L L' m i a t =
    ⊎_elim (λ h. take-set-lt m L i a h ∙ ap (λ (l : List ℕ). set l i a) t ∙ sym (take-set-lt m L' i a h))
    (λ h. take-set-le m L i a h ∙ t ∙ sym (take-set-le m L' i a h))
    (lt_or_le i m)

linked_same : (e n : ℕ) (E N E' N' : List ℕ) (r m : ℕ) → Alike e n E N E' N' → Alike e n E (linked N r m) E' (linked N' r m)
unfolding linked
linked_same e n E N E' N' r m h = rw (← h.nodes_long) (go (leb 1 r && leb r (room node_width N)))
  where
    go : (b : Bool) → Alike e n E (cond b (set N (node_width * (r - 1) + 8) m) N) E' (cond b (set N' (node_width * (r - 1) + 8) m) N')
    go true = record { errors_long = h.errors_long; nodes_long = simp length-set h.nodes_long; errors_same = h.errors_same; nodes_same = set_same N N' (node_width * n) (node_width * (r - 1) + 8) m h.nodes_same }
    go false = h

push_same : (d : rows.Node) → Sized (push_node d)
push_same d p E N E' N' h =
    push_nodes Same d d p p E N E' N' refl (room_length node_width N N' h.nodes_long)
    (λ l.
    let a : Alike p.errors (p.nodes + 1) E (put node_width N p.nodes (node_words d)) E' (put node_width N' p.nodes (node_words d)) = record {
      errors_long = h.errors_long;
      nodes_long = put_long node_width N N' p.nodes (node_words d) refl h.nodes_long;
      errors_same = h.errors_same;
      nodes_same = put_same node_width N N' p.nodes (node_words d) refl h.nodes_long l h.nodes_same;
    } in
    same _ _ _ _ _ _ a)
    (same _ _ _ _ _ _ h)

error_same : (t : List ℕ) (m i : ℕ) → Sized (push_error t m i)
error_same t m i p E N E' N' h =
    push_errors Same t t m i p p E N E' N' refl (room_length error_width E E' h.errors_long)
    (λ l.
    let ws = error_words (error_at t m i) in
    let a : Alike (p.errors + 1) p.nodes (put error_width E p.errors ws) N (put error_width E' p.errors ws) N' = record {
      errors_long = put_long error_width E E' p.errors ws refl h.errors_long;
      nodes_long = h.nodes_long;
      errors_same = put_same error_width E E' p.errors ws refl h.errors_long l h.errors_same;
      nodes_same = h.nodes_same;
    } in
    same _ _ _ _ _ _ a)
    (same _ _ _ _ _ _ h)

consume_same : (T : View) (kind m : ℕ) → Sized (consume_at T kind m)
unfolding consume_at
consume_same T kind m p E N E' N' a = same_seen (matches_at T p.current kind) _ _ _ _ (λ i. same _ _ E N E' N' a) (error_same T.tokens m p.current _ E N E' N' a)

require_same : (T : View) (kind m : ℕ) → Sized (require_at T kind m)
unfolding require_at
require_same T kind m p E N E' N' a = same_seen (matches_at T p.current kind) _ _ _ _ (λ i. same _ _ E N E' N' a) (same_then _ (error_same T.tokens m p.current _ E N E' N' a) λ f q E N E' N' b. same q (Stop 1) E N E' N' b)

-- ---- every program
module _ (T : View) (low : Which → Reader) (h : (w : Which) → Sized (low w)) where
  pub run_sized : (P : Prog) → Sized (run T low P)
  unfolding run
  run_sized (give f) p E N E' N' a = same p _ E N E' N' a
  run_sized (stop o) p E N E' N' a = same p _ E N E' N' a
  run_sized (m >>= k) p E N E' N' a = same_then _ (run_sized m p E N E' N' a) λ f. run_sized (k f)
  run_sized (m >> k) p E N E' N' a = same_then _ (run_sized m p E N E' N' a) λ f. run_sized k
  run_sized (look kind found missing) p E N E' N' a = same_seen (matches_at T p.current kind) _ _ _ _ (λ i. run_sized (found i) _ E N E' N' a) (run_sized missing _ E N E' N' a)
  run_sized (check kind found missing) p E N E' N' a = same_seen (check_at T p.current kind) _ _ _ _ (λ i. run_sized found _ E N E' N' a) (run_sized missing _ E N E' N' a)
  run_sized (at_end found missing) p E N E' N' a = same_either (eqb (kind_at T.tokens p.current) 0) _ _ _ _ (run_sized found p E N E' N' a) (run_sized missing p E N E' N' a)
  run_sized previous p E N E' N' a = same p _ E N E' N' a
  run_sized (node d) p E N E' N' a = push_same d p E N E' N' a
  run_sized (link prev next) p E N E' N' a = same p _ _ _ _ _ (linked_same _ _ _ _ _ _ prev next a)
  run_sized (fail message) p E N E' N' a = error_same T.tokens message p.current p E N E' N' a
  run_sized (fail_at message token) p E N E' N' a = error_same T.tokens message (token - 1) p E N E' N' a
  run_sized (consume kind message) p E N E' N' a = consume_same T kind message p E N E' N' a
  run_sized (require kind message) p E N E' N' a = require_same T kind message p E N E' N' a
  run_sized enter_loop p E N E' N' a = same _ _ E N E' N' a
  run_sized leave_loop p E N E' N' a = same _ _ E N E' N' a
  run_sized give_back p E N E' N' a = same _ _ E N E' N' a
  run_sized (inside_loop found missing) p E N E' N' a = same_either (eqb p.loops 0) _ _ _ _ (run_sized missing p E N E' N' a) (run_sized found p E N E' N' a)
  run_sized (in_function name m) p E N E' N' a = same_restored p (run_sized m (looped p 0) E N E' N' a)
  run_sized (down w) p E N E' N' a = h w p E N E' N' a

pub lower_sized : (T : View) (l : ℕ) (w : Which) → Sized (lower T l w)
unfolding lower
lower_sized T zero w p E N E' N' a = same p (Stop 8) E N E' N' a
lower_sized T (suc l) w p E N E' N' a = run_sized T (lower T l) (lower_sized T l) (body T w) p E N E' N' a

pub top_sized : (T : View) → Sized (top_level T)
unfolding top_level
top_sized T p E N E' N' a = same_then _ (lower_sized T 128 Declaration p E N E' N' a) λ f q E N E' N' b. same_then _ (consume_same T newline_kind 4 q E N E' N' b) λ g r E N E' N' c. same r (Node f) E N E' N' c

-- ---- the whole
-- the same answer, the same errors as far as they count, and the same node table, word for word
pub record SameParsed (a b : Parsed) : Type 0 where
  pub outcome : a.outcome ≡ b.outcome
  pub error_count : a.error_count ≡ b.error_count
  pub node_count : a.node_count ≡ b.node_count
  pub first : a.first ≡ b.first
  pub looks : a.looks ≡ b.looks
  pub errors_long : length a.errors ≡ length b.errors
  pub errors_same : take (error_width * a.error_count) a.errors ≡ take (error_width * a.error_count) b.errors
  pub nodes : a.nodes ≡ b.nodes

-- what is not kept is 0 in both
zeroed_same : (N N' : List ℕ) (n : ℕ) → length N ≡ length N' → take (node_width * n) N ≡ take (node_width * n) N' → zeroed node_width N n ≡ zeroed node_width N' n
unfolding zeroed
zeroed_same N N' n l e = ap (λ (x : List ℕ). x ++ replicate (length N - node_width * n) 0) e ∙ ap (λ (m : ℕ). take (node_width * n) N' ++ replicate (m - node_width * n) 0) l

-- with fewer nodes kept than made
ends_same : (o first k : ℕ) (p : State) (E N E' N' : List ℕ) → k ≤ p.nodes → Alike p.errors p.nodes E N E' N' → SameParsed (ends o first k p E N) (ends o first k p E' N')
ends_same o first k p E N E' N' h a = record {
  outcome = refl;
  error_count = refl;
  node_count = refl;
  first = refl;
  looks = refl;
  errors_long = a.errors_long;
  errors_same = a.errors_same;
  nodes = zeroed_same N N' k a.nodes_long (take_less (node_width * k) (node_width * p.nodes) N N' (omega (arith, h)) a.nodes_same);
}

same_or : (a : ℕ) (E : List ℕ) (b : ℕ) (N : List ℕ) (first : ℕ) {r r' : Reply} (k : ℕ → State → List ℕ → List ℕ → Parsed) → Grown a E b N r → Same r r'
    → ((n : ℕ) (q : State) (E N E' N' : List ℕ) → Alike q.errors q.nodes E N E' N' → SameParsed (k n q E N) (k n q E' N')) → SameParsed (or_ends first b r k) (or_ends first b r' k)
same_or a E b N first k g (same q (Node f) F M F' M' s) h = h f.node q F M F' M' s
same_or a E b N first k g (same q (Stop o) F M F' M' s) h = ends_same o first b q F M F' M' g.nodes.more s

same_if : (b : Bool) (f f' g g' : Unit {0} → Parsed) → SameParsed (f tt) (f' tt) → SameParsed (g tt) (g' tt) → SameParsed (if_end b f g) (if_end b f' g')
same_if true f f' g g' h e = h
same_if false f f' g g' h e = e

pub statements_sized : (f : ℕ) (T : View) (first last : ℕ) (p : State) (E N E' N' : List ℕ) → Alike p.errors p.nodes E N E' N' → SameParsed (statements f T first last p E N) (statements f T first last p E' N')
unfolding statements
statements_sized zero T first last p E N E' N' a = ends_same 99 first p.nodes p E N E' N' (omega arith) a
statements_sized (suc f) T first last p E N E' N' a =
    same_if (eqb (kind_at T.tokens p.current) 0) _ _ _ _ (ends_same 0 first p.nodes p E N E' N' (omega arith) a)
    (same_or p.errors E p.nodes N first _ (top_frames T p E N) (top_sized T p E N E' N' a) λ n q F M F' M' b.
    statements_sized f T (first_of first n) n q F (linked M last n) F' (linked M' last n) (linked_same q.errors q.nodes F M F' M' last n b))

-- a parsing depends on the lengths of the tables and on the first `errors` errors only
pub parsed_sizes : (rule : ℕ) (T : View) (errors : ℕ) (E N E' N' : List ℕ) → length E ≡ length E' → length N ≡ length N' → take (error_width * errors) E ≡ take (error_width * errors) E'
    → SameParsed (parsed rule T errors E N) (parsed rule T errors E' N')
unfolding parsed
parsed_sizes rule T errors E N E' N' l m e =
    statements_sized (suc (count T.tokens)) T 0 0 (fresh_state rule errors) E N E' N'
    (record { errors_long = l; nodes_long = m; errors_same = e; nodes_same = refl })

-- ---- what the node table held before does not matter at all
parsed_ext : (a b : Parsed) → SameParsed a b → a.errors ≡ b.errors → a ≡ b
parsed_ext a b h e = λ i. record { outcome = h.outcome i; error_count = h.error_count i; node_count = h.node_count i; first = h.first i; looks = h.looks i; errors = e i; nodes = h.nodes i }

pub parsed_nodes_any : (rule : ℕ) (T : View) (errors : ℕ) (E N N' : List ℕ) → length N ≡ length N' → parsed rule T errors E N ≡ parsed rule T errors E N'
parsed_nodes_any rule T errors E N N' l =
    let a = parsed rule T errors E N in
    let b = parsed rule T errors E N' in
    let h : SameParsed a b = parsed_sizes rule T errors E N E N' refl l refl in
    let w = error_width * a.error_count in
    let d : drop w b.errors ≡ drop w E = rw h.error_count (parsed_errors_kept rule T errors E N').rest in
    let s : drop w a.errors ≡ drop w E = (parsed_errors_kept rule T errors E N).rest in
    parsed_ext a b h
    (sym (take-append-drop w a.errors)
    ∙ ap (λ (x : List ℕ). x ++ drop w a.errors) h.errors_same
    ∙ ap (λ (x : List ℕ). take w b.errors ++ x) (s ∙ sym d)
    ∙ take-append-drop w b.errors)
