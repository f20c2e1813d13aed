-- What a reading leaves as it was: errors and nodes are written only at and after their counts, counts never fall and stay within the rooms, and tables keep their lengths.
use mathlib.Core.Path.{◌≡◌, refl, sym, ap, ◌∙◌, subst}
use mathlib.Core.Bool.{Bool, true, false, cond, ◌&&◌}
use mathlib.Core.List.{List}
use mathlib.Core.Logic.{⊎_elim}
use Prim.Native.Nat.{ℕ, zero, suc, ◌+◌, ◌-◌, ◌*◌, ◌≤◌, ◌<◌}
use native.Mathlib.Omega.{arith}
use lib.Dec.{leb, eqb}
use lib.ListN.{length, get_or, take, drop, set, length-set, get_or-eq_default}
use lib.Seq.{drop-drop, take-take, take_at, length-take-le, get_or-take, get_or-set_other}
use Rattle.token.specs.Kind.{newline_kind}
use Rattle.records.specs.Table.{room, put, field, linked, zeroed, error_width, node_width}
use Rattle.records.specs.Words.{error_words, node_words}
use Rattle.records.specs.declared.Node as rows
use Rattle.records.proofs.Rooms.{room_fits, room_length, lt_or_le}
use Rattle.records.proofs.Put.{put_take, put_drop, put_length}
use Rattle.records.proofs.Field.{field_same, field_other}
use Rattle.records.proofs.Rest.{linked_length, zeroed_length, zeroed_word, zeroed_take}
use Rattle.parser.specs.declared.State.{State}
use Rattle.parser.specs.declared.Found.{Found}
use Rattle.parser.specs.Tables.{Got}
use Rattle.parser.specs.Tables.{Node, Stop}
use Rattle.std.specs.Prelude.{Option}
use Rattle.std.specs.Prelude.{Some, None}
use Rattle.parser.specs.Tokens.{View, count, kind_at, check_at, matches_at}
use Rattle.parser.specs.Tables.{Reply, reply, looped, fresh_state, error_at, push_node, push_error, if_seen, and_then, consume_at, require_at}
use Rattle.parser.specs.Programs.{Reader, Which, Declaration, Prog, give, stop, ◌>>=◌, ◌>>◌, look, check, at_end, previous, node, link, fail, fail_at, consume, require, enter_loop, leave_loop, give_back, inside_loop, in_function, down, either, restored, run}
use Rattle.parser.specs.Grammar.{first_of, body, lower}
use Rattle.parser.specs.Whole.{Parsed, ends, top_level, or_ends, if_end, statements, parsed}
use Rattle.parser.proofs.Push.{push_node_lem, push_error_lem}

-- from a errors in E to b errors in E': the first a are kept, and after b all is as it was
pub record ErrorsGrow (a : ℕ) (E : List ℕ) (b : ℕ) (E' : List ℕ) : Type 0 where
  pub more : a ≤ b
  pub long : length E' ≡ length E
  pub within : a ≤ room error_width E → b ≤ room error_width E'
  pub kept : take (error_width * a) E' ≡ take (error_width * a) E
  pub rest : drop (error_width * b) E' ≡ drop (error_width * b) E

-- from a nodes in N to b nodes in N': of a record before a or after b only `next`, word 8, may be another
pub record NodesGrow (a : ℕ) (N : List ℕ) (b : ℕ) (N' : List ℕ) : Type 0 where
  pub more : a ≤ b
  pub long : length N' ≡ length N
  pub within : a ≤ room node_width N → b ≤ room node_width N'
  pub kept : (n k : ℕ) → k < 8 → n < a → field node_width k N' n ≡ field node_width k N n
  pub rest : (n k : ℕ) → k < 8 → b ≤ n → field node_width k N' n ≡ field node_width k N n

-- the parts of an answer
abbrev pub state_of : Reply → State
state_of (reply q g E N) = q

abbrev pub errors_of : Reply → List ℕ
errors_of (reply q g E N) = E

abbrev pub nodes_of : Reply → List ℕ
nodes_of (reply q g E N) = N

-- an answer to a reading that had a errors in E and b nodes in N
pub record Grown (a : ℕ) (E : List ℕ) (b : ℕ) (N : List ℕ) (r : Reply) : Type 0 where
  pub errors : ErrorsGrow a E (state_of r).errors (errors_of r)
  pub nodes : NodesGrow b N (state_of r).nodes (nodes_of r)

-- a reader that leaves as it was what it must
abbrev pub Frames : Reader → Type 0
Frames r = (p : State) (E N : List ℕ) → Grown p.errors E p.nodes N (r p E N)

-- ---- errors
errors_none : (a : ℕ) (E : List ℕ) → ErrorsGrow a E a E
errors_none a E = record { more = omega arith; long = refl; within = λ h. h; kept = refl; rest = refl }

-- alike as far as n words is alike as far as fewer; alike from m on is alike from further on
pub take_less : (m n : ℕ) (L L' : List ℕ) → m ≤ n → take n L ≡ take n L' → take m L ≡ take m L'
take_less m n L L' h e = sym (take-take m n L h) ∙ ap (λ (l : List ℕ). take m l) e ∙ take-take m n L' h

drop_more : (m n : ℕ) (L L' : List ℕ) → m ≤ n → drop m L ≡ drop m L' → drop n L ≡ drop n L'
drop_more m n L L' h e =
    let s : n ≡ m + (n - m) = omega arith in
    rw s (sym (drop-drop (n - m) m L) ∙ ap (λ (l : List ℕ). drop (n - m) l) e ∙ drop-drop (n - m) m L')

errors_on : (a b c : ℕ) (E F G : List ℕ) → ErrorsGrow a E b F → ErrorsGrow b F c G → ErrorsGrow a E c G
errors_on a b c E F G h g = record {
  more = omega (arith, h.more, g.more);
  long = g.long ∙ h.long;
  within = λ x. g.within (h.within x);
  kept = take_less (error_width * a) (error_width * b) G F (omega (arith, h.more)) g.kept ∙ h.kept;
  rest = g.rest ∙ drop_more (error_width * b) (error_width * c) F E (omega (arith, g.more)) h.rest;
}

errors_put : (E : List ℕ) (n : ℕ) (ws : List ℕ) → length ws ≡ error_width → n < room error_width E → ErrorsGrow n E (n + 1) (put error_width E n ws)
errors_put E n ws l h =
    let f : error_width * n + error_width ≤ length E = room_fits error_width E n h in
    let U = put error_width E n ws in
    let r : room error_width U ≡ room error_width E = room_length error_width U E (put_length error_width E n ws l) in
    record {
      more = omega arith;
      long = put_length error_width E n ws l;
      within = λ x. omega (arith, r, h);
      kept =
          sym (take-take (error_width * n) (error_width * (n + 1)) U (omega arith))
          ∙ ap (λ (t : List ℕ). take (error_width * n) t) (put_take error_width E n ws l h)
          ∙ take_at (take (error_width * n) E) ws (error_width * n) (length-take-le (error_width * n) E (omega (arith, f)));
      rest = put_drop error_width E n ws l h;
    }

-- ---- nodes
nodes_none : (a : ℕ) (N : List ℕ) → NodesGrow a N a N
nodes_none a N = record { more = omega arith; long = refl; within = λ h. h; kept = λ n k x y. refl; rest = λ n k x y. refl }

nodes_on : (a b c : ℕ) (L M N : List ℕ) → NodesGrow a L b M → NodesGrow b M c N → NodesGrow a L c N
nodes_on a b c L M N h g = record {
  more = omega (arith, h.more, g.more);
  long = g.long ∙ h.long;
  within = λ x. g.within (h.within x);
  kept = λ n k x y. g.kept n k x (omega (arith, h.more)) ∙ h.kept n k x y;
  rest = λ n k x y. g.rest n k x y ∙ h.rest n k x (omega (arith, g.more));
}

nodes_put : (N : List ℕ) (n : ℕ) (ws : List ℕ) → length ws ≡ node_width → n < room node_width N → NodesGrow n N (n + 1) (put node_width N n ws)
nodes_put N n ws l h =
    let U = put node_width N n ws in
    let r : room node_width U ≡ room node_width N = room_length node_width U N (put_length node_width N n ws l) in
    record {
      more = omega arith;
      long = put_length node_width N n ws l;
      within = λ x. omega (arith, r, h);
      kept = λ j k x y. field_other node_width k N n ws l (omega arith) j λ e. omega (arith, e);
      rest = λ j k x y. field_other node_width k N n ws l (omega arith) j λ e. omega (arith, e);
    }

-- a link writes word 8 of a record
pub linked_field : (N : List ℕ) (r m n k : ℕ) → k < 8 → field node_width k (linked N r m) n ≡ field node_width k N n
unfolding linked
linked_field N r m n k h = go (leb 1 r && leb r (room node_width N))
  where
    go : (b : Bool) → field node_width k (cond b (set N (node_width * (r - 1) + 8) m) N) n ≡ field node_width k N n
    go true = field_same node_width k (set N (node_width * (r - 1) + 8) m) N n (length-set N (node_width * (r - 1) + 8) m) (get_or-set_other N (node_width * (r - 1) + 8) (node_width * n + k) m 0 λ e. omega (arith, e))
    go false = refl

nodes_linked : (a : ℕ) (N : List ℕ) (r m : ℕ) → NodesGrow a N a (linked N r m)
nodes_linked a N r m =
    let e : room node_width (linked N r m) ≡ room node_width N = room_length node_width (linked N r m) N (linked_length N r m) in
    record {
      more = omega arith;
      long = linked_length N r m;
      within = λ x. omega (arith, e, x);
      kept = λ n k x y. linked_field N r m n k x;
      rest = λ n k x y. linked_field N r m n k x;
    }

-- ---- answers
grown_none : (p q : State) (g : Got) (E N : List ℕ) → p.errors ≡ q.errors → p.nodes ≡ q.nodes → Grown p.errors E p.nodes N (reply q g E N)
grown_none p q g E N e f = record { errors = rw e (errors_none q.errors E); nodes = rw f (nodes_none q.nodes N) }

grown_on : (a b c d : ℕ) (E F M N : List ℕ) (r : Reply) → ErrorsGrow a E c F → NodesGrow b M d N → Grown c F d N r → Grown a E b M r
grown_on a b c d E F M N (reply q g G L) h i j = record {
  errors = errors_on a c q.errors E F G h j.errors;
  nodes = nodes_on b d q.nodes M N L i j.nodes;
}

pub grown_then : (a : ℕ) (E : List ℕ) (b : ℕ) (N : List ℕ) (r : Reply) (k : Found → Reader) → Grown a E b N r → ((f : Found) → Frames (k f)) → Grown a E b N (and_then r k)
grown_then a E b N (reply q (Node f) F M) k h g = grown_on a b q.errors q.nodes E F N M (k f q F M) h.errors h.nodes (g f q F M)
grown_then a E b N (reply q (Stop o) F M) k h g = record { errors = h.errors; nodes = h.nodes }

grown_seen : (a : ℕ) (E : List ℕ) (b : ℕ) (N : List ℕ) (s : Option ℕ) (f : ℕ → Reply) (g : Unit {0} → Reply) → ((i : ℕ) → Grown a E b N (f i)) → Grown a E b N (g tt) → Grown a E b N (if_seen s f g)
grown_seen a E b N (Some i) f g h e = h i
grown_seen a E b N None f g h e = e

grown_either : (a : ℕ) (E : List ℕ) (b : ℕ) (N : List ℕ) (s : Bool) (f g : Unit {0} → Reply) → Grown a E b N (f tt) → Grown a E b N (g tt) → Grown a E b N (either s f g)
grown_either a E b N true f g h e = h
grown_either a E b N false f g h e = e

grown_restored : (a : ℕ) (E : List ℕ) (b : ℕ) (N : List ℕ) (p : State) (r : Reply) → Grown a E b N r → Grown a E b N (restored p r)
grown_restored a E b N p (reply q (Node f) F M) h = record { errors = h.errors; nodes = h.nodes }
grown_restored a E b N p (reply q (Stop o) F M) h = record { errors = h.errors; nodes = h.nodes }

grown_push : (d : rows.Node) → Frames (push_node d)
grown_push d p E N =
    push_node_lem (Grown p.errors E p.nodes N) d p E N
    (λ h. record { errors = errors_none p.errors E; nodes = nodes_put N p.nodes (node_words d) refl h })
    (grown_none p p (Stop 7) E N refl refl)

grown_error : (t : List ℕ) (m i : ℕ) → Frames (push_error t m i)
grown_error t m i p E N =
    push_error_lem (Grown p.errors E p.nodes N) t m i p E N
    (λ h. record { errors = errors_put E p.errors (error_words (error_at t m i)) refl h; nodes = nodes_none p.nodes N })
    (grown_none p p (Stop 6) E N refl refl)

pub grown_consume : (T : View) (kind m : ℕ) → Frames (consume_at T kind m)
unfolding consume_at
grown_consume T kind m p E N = grown_seen _ _ _ _ (matches_at T p.current kind) _ _ (λ i. grown_none p _ _ E N refl refl) (grown_error T.tokens m p.current _ E N)

grown_require : (T : View) (kind m : ℕ) → Frames (require_at T kind m)
unfolding require_at
grown_require T kind m p E N = grown_seen _ _ _ _ (matches_at T p.current kind) _ _ (λ i. grown_none p _ _ E N refl refl) (grown_then _ _ _ _ _ _ (grown_error T.tokens m p.current _ E N) λ f q E N. grown_none q q (Stop 1) E N refl refl)

-- ---- every program
module _ (T : View) (low : Which → Reader) (h : (w : Which) → Frames (low w)) where
  pub run_frames : (P : Prog) → Frames (run T low P)
  unfolding run
  run_frames (give f) p E N = grown_none p p _ E N refl refl
  run_frames (stop o) p E N = grown_none p p _ E N refl refl
  run_frames (m >>= k) p E N = grown_then _ _ _ _ _ _ (run_frames m p E N) λ f. run_frames (k f)
  run_frames (m >> k) p E N = grown_then _ _ _ _ _ _ (run_frames m p E N) λ f. run_frames k
  run_frames (look kind found missing) p E N = grown_seen _ _ _ _ (matches_at T p.current kind) _ _ (λ i. run_frames (found i) _ E N) (run_frames missing _ E N)
  run_frames (check kind found missing) p E N = grown_seen _ _ _ _ (check_at T p.current kind) _ _ (λ i. run_frames found _ E N) (run_frames missing _ E N)
  run_frames (at_end found missing) p E N = grown_either _ _ _ _ (eqb (kind_at T.tokens p.current) 0) _ _ (run_frames found p E N) (run_frames missing p E N)
  run_frames previous p E N = grown_none p p _ E N refl refl
  run_frames (node d) p E N = grown_push d p E N
  run_frames (link prev next) p E N = record { errors = errors_none p.errors E; nodes = nodes_linked p.nodes N prev next }
  run_frames (fail message) p E N = grown_error T.tokens message p.current p E N
  run_frames (fail_at message token) p E N = grown_error T.tokens message (token - 1) p E N
  run_frames (consume kind message) p E N = grown_consume T kind message p E N
  run_frames (require kind message) p E N = grown_require T kind message p E N
  run_frames enter_loop p E N = grown_none p _ _ E N refl refl
  run_frames leave_loop p E N = grown_none p _ _ E N refl refl
  run_frames give_back p E N = grown_none p _ _ E N refl refl
  run_frames (inside_loop found missing) p E N = grown_either _ _ _ _ (eqb p.loops 0) _ _ (run_frames missing p E N) (run_frames found p E N)
  run_frames (in_function name m) p E N = grown_restored _ _ _ _ p _ (run_frames m (looped p 0) E N)
  run_frames (down w) p E N = h w p E N

pub lower_frames : (T : View) (l : ℕ) (w : Which) → Frames (lower T l w)
unfolding lower
lower_frames T zero w p E N = grown_none p p (Stop 8) E N refl refl
lower_frames T (suc l) w p E N = run_frames T (lower T l) (lower_frames T l) (body T w) p E N

-- ---- the whole: a parsing ends with c nodes in N', and every word after them is 0
pub record NodesEnd (a : ℕ) (N : List ℕ) (c : ℕ) (N' : List ℕ) : Type 0 where
  pub more : a ≤ c
  pub long : length N' ≡ length N
  pub within : a ≤ room node_width N → c ≤ room node_width N'
  pub kept : (n k : ℕ) → k < 8 → n < a → field node_width k N' n ≡ field node_width k N n
  pub zero_rest : (i : ℕ) → node_width * c ≤ i → get_or N' i 0 ≡ 0

-- what a parsing comes to that had a errors in E and b nodes in N
pub record Ended (a : ℕ) (E : List ℕ) (b : ℕ) (N : List ℕ) (d : Parsed) : Type 0 where
  pub errors : ErrorsGrow a E d.error_count d.errors
  pub nodes : NodesEnd b N d.node_count d.nodes

pub zeroed_rest : (N : List ℕ) (n i : ℕ) → node_width * n ≤ i → get_or (zeroed node_width N n) i 0 ≡ 0
zeroed_rest N n i h =
    ⊎_elim (λ l. zeroed_word node_width N n i h l)
    (λ l. get_or-eq_default (zeroed node_width N n) 0 (omega (arith, l, zeroed_length node_width N n)))
    (lt_or_le i (length N))

zeroed_field : (N : List ℕ) (a n k : ℕ) → k < 8 → n < a → field node_width k (zeroed node_width N a) n ≡ field node_width k N n
zeroed_field N a n k x y =
    let b : node_width * n + k < node_width * a = omega arith in
    field_same node_width k (zeroed node_width N a) N n (zeroed_length node_width N a)
    (sym (get_or-take (node_width * a) (zeroed node_width N a) (node_width * n + k) 0 b)
    ∙ ap (λ (l : List ℕ). get_or l (node_width * n + k) 0) (zeroed_take node_width N a)
    ∙ get_or-take (node_width * a) N (node_width * n + k) 0 b)

-- what is kept is what there was at the start of the statement
nodes_end : (a b : ℕ) (M N : List ℕ) → NodesGrow a M b N → NodesEnd a M a (zeroed node_width N a)
nodes_end a b M N h =
    let l : length (zeroed node_width N a) ≡ length M = zeroed_length node_width N a ∙ h.long in
    let e : room node_width (zeroed node_width N a) ≡ room node_width M = room_length node_width (zeroed node_width N a) M l in
    record {
      more = omega arith;
      long = l;
      within = λ x. omega (arith, e, x);
      kept = λ n k x y. zeroed_field N a n k x y ∙ h.kept n k x y;
      zero_rest = λ i x. zeroed_rest N a i x;
    }

nodes_end_on : (a b c : ℕ) (L M N : List ℕ) → NodesGrow a L b M → NodesEnd b M c N → NodesEnd a L c N
nodes_end_on a b c L M N h g = record {
  more = omega (arith, h.more, g.more);
  long = g.long ∙ h.long;
  within = λ x. g.within (h.within x);
  kept = λ n k x y. g.kept n k x (omega (arith, h.more)) ∙ h.kept n k x y;
  zero_rest = g.zero_rest;
}

ended_on : (a b c d : ℕ) (E F M N : List ℕ) (r : Parsed) → ErrorsGrow a E c F → NodesGrow b M d N → Ended c F d N r → Ended a E b M r
ended_on a b c d E F M N r h i j = record {
  errors = errors_on a c r.error_count E F r.errors h j.errors;
  nodes = nodes_end_on b d r.node_count M N r.nodes i j.nodes;
}

ended_or : (a : ℕ) (E : List ℕ) (b : ℕ) (N : List ℕ) (first : ℕ) (r : Reply) (k : ℕ → State → List ℕ → List ℕ → Parsed) → Grown a E b N r → ((n : ℕ) (q : State) (F M : List ℕ) → Ended q.errors F q.nodes M (k n q F M)) → Ended a E b N (or_ends first b r k)
ended_or a E b N first (reply q (Node f) F M) k h g = ended_on a b q.errors q.nodes E F N M (k f.node q F M) h.errors h.nodes (g f.node q F M)
ended_or a E b N first (reply q (Stop o) F M) k h g = record { errors = h.errors; nodes = nodes_end b q.nodes N M h.nodes }

ended_if : (a : ℕ) (E : List ℕ) (b : ℕ) (N : List ℕ) (s : Bool) (f g : Unit {0} → Parsed) → Ended a E b N (f tt) → Ended a E b N (g tt) → Ended a E b N (if_end s f g)
ended_if a E b N true f g h k = h
ended_if a E b N false f g h k = k

-- a top-level statement, and all of them
pub top_frames : (T : View) → Frames (top_level T)
unfolding top_level
top_frames T p E N = grown_then _ _ _ _ _ _ (lower_frames T 128 Declaration p E N) λ f q E N. grown_then _ _ _ _ _ _ (grown_consume T newline_kind 4 q E N) λ g r E N. grown_none r r (Node f) E N refl refl

ended_now : (o first : ℕ) (p : State) (E N : List ℕ) → Ended p.errors E p.nodes N (ends o first p.nodes p E N)
ended_now o first p E N = record { errors = errors_none p.errors E; nodes = nodes_end p.nodes p.nodes N N (nodes_none p.nodes N) }

pub statements_end : (f : ℕ) (T : View) (first last : ℕ) (p : State) (E N : List ℕ) → Ended p.errors E p.nodes N (statements f T first last p E N)
unfolding statements
statements_end zero T first last p E N = ended_now 99 first p E N
statements_end (suc f) T first last p E N =
    ended_if _ _ _ _ (eqb (kind_at T.tokens p.current) 0) _ _ (ended_now 0 first p E N)
    (ended_or _ _ _ _ first _ _ (top_frames T p E N) λ n q F M.
    ended_on q.errors q.nodes q.errors q.nodes F F M (linked M last n) _ (errors_none q.errors F) (nodes_linked q.nodes M last n)
    (statements_end f T (first_of first n) n q F (linked M last n)))

-- by any rule, for any tokens, tables and number of errors before
module _ (rule : ℕ) (T : View) (errors : ℕ) (E N : List ℕ) where
  pub parsed_frame : Ended errors E 0 N (parsed rule T errors E N)
  unfolding parsed
  parsed_frame = statements_end (suc (count T.tokens)) T 0 0 (fresh_state rule errors) E N

  -- the errors from before are kept, none is taken away, and after the last one the table is as it was
  pub parsed_errors_kept : ErrorsGrow errors E (parsed rule T errors E N).error_count (parsed rule T errors E N).errors
  parsed_errors_kept = parsed_frame.errors

  -- every word of the node table past the kept nodes is 0
  pub parsed_nodes_zero : (i : ℕ) → node_width * (parsed rule T errors E N).node_count ≤ i → get_or (parsed rule T errors E N).nodes i 0 ≡ 0
  parsed_nodes_zero = parsed_frame.nodes.zero_rest

  -- the node table is as long as it was, and has room for the nodes
  pub parsed_nodes_long : length (parsed rule T errors E N).nodes ≡ length N
  parsed_nodes_long = parsed_frame.nodes.long

  pub parsed_nodes_within : (parsed rule T errors E N).node_count ≤ room node_width N
  parsed_nodes_within = subst (λ (m : ℕ). (parsed rule T errors E N).node_count ≤ m) (room_length node_width (parsed rule T errors E N).nodes N parsed_nodes_long) (parsed_frame.nodes.within (omega arith))
