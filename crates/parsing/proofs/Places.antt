-- Every error that a parsing records is about one of the tokens up to an EOF: it has that token's line, and that token's start as its pos. Assumes nothing.
use mathlib.Core.Path.{◌≡◌, refl, subst, ◌∙◌}
use mathlib.Core.Bool.{Bool, true, false}
use mathlib.Core.List.{List}
use mathlib.Core.Logic.{⊎_elim}
use Prim.Native.Nat.{ℕ, zero, suc, ◌+◌, ◌-◌, ◌≤◌, ◌<◌}
use native.Mathlib.Omega.{arith}
use lib.Dec as dec
use lib.Dec.{leb, eqb, leb→le}
use lib.Ieee.Fits.{and_l, and_r}
use Rattle.token.specs.Kind.{eof_kind, newline_kind}
use Rattle.records.specs.Table.{room, put, field, linked, error_width}
use Rattle.records.specs.Words.{error_words}
use Rattle.records.specs.declared.Node as rows
use Rattle.records.proofs.Rooms.{lt_or_le}
use Rattle.records.proofs.Field.{field_put, field_other}
use Rattle.parser.specs.declared.State.{State}
use Rattle.parser.specs.declared.Found.{Found}
use Rattle.parser.specs.Tables.{Node, Stop}
use Rattle.std.specs.Prelude.{Option}
use Rattle.parser.specs.Tokens.{View, count, kind_at, walked}
use Rattle.parser.specs.Tables.{Reply, reply, looped, fresh_state, error_at, push_node, push_error, if_seen, and_then, consume_at, require_at}
use Rattle.parser.specs.Programs.{Reader, Which, Declaration, Prog, give, stop, ◌>>=◌, ◌>>◌, look, check, at_end, previous, node, link, fail, fail_at, consume, require, enter_loop, leave_loop, give_back, inside_loop, in_function, down, either, restored, run}
use Rattle.parser.specs.Grammar.{first_of, body, lower}
use Rattle.parser.specs.Whole.{Parsed, top_level, or_ends, if_end, statements, parsed}
use Rattle.parser.proofs.Push.{push_node_lem, push_error_lem}
use Rattle.parsing.specs.Ahead.{Agree}
use Rattle.parsing.specs.Places.{is_parsers, About}
use Rattle.parsing.specs.Asked.{is_asked}
use Rattle.parsing.proofs.Ahead.{given_out, Kept, agree_self, Spotted, spot, none, check_ahead, matches_ahead, body_kept}
use Rattle.parsing.proofs.Frame.{state_of, errors_of}

-- token e is an EOF that no reading passes; a errors were there before
module _ (T : View) (e a : ℕ) (same : Agree e T T) where
  -- the errors from a on, of n, are about tokens up to e
  abbrev Placed : ℕ → List ℕ → Type 0
  Placed n E = (k : ℕ) → a ≤ k → k < n → About T.tokens e E k

  -- an answer whose errors are, with the cursor at or before e
  record Fine (r : Reply) : Type 0 where
    at : (state_of r).current ≤ e
    errors : Placed (state_of r).errors (errors_of r)

  -- a reader that keeps to it
  abbrev Places : Reader → Type 0
  Places r = (p : State) (E N : List ℕ) → p.current ≤ e → Placed p.errors E → Fine (r p E N)

  -- ---- one error more
  module _ (E : List ℕ) (n m i : ℕ) (h : n < room error_width E) where
    abbrev more : List ℕ
    more = put error_width E n (error_words (error_at T.tokens m i))

    -- the new one
    about_new : dec.T (is_parsers m) → i ≤ e → About T.tokens e more n
    about_new g l =
        let ws = error_words (error_at T.tokens m i) in
        let f : field error_width 0 more n ≡ m = field_put error_width 0 E n ws refl (omega arith) h in
        let b : 4 ≤ m = leb→le 4 m (and_l (leb 4 m) (leb m 29) g) in
        let c : m ≤ 29 = leb→le m 29 (and_r (leb 4 m) (leb m 29) g) in
        record {
          message_from = omega (arith, f, b);
          message_to = omega (arith, f, c);
          token = i;
          up_to = l;
          line_is = field_put error_width 1 E n ws refl (omega arith) h;
          pos_is = field_put error_width 2 E n ws refl (omega arith) h;
        }

    -- one of before
    about_old : (k : ℕ) → (k ≡ n → ⊥) → About T.tokens e E k → About T.tokens e more k
    about_old k ne x =
        let ws = error_words (error_at T.tokens m i) in
        let f : field error_width 0 more k ≡ field error_width 0 E k = field_other error_width 0 E n ws refl (omega arith) k ne in
        let b = x.message_from in
        let c = x.message_to in
        record {
          message_from = omega (arith, f, b);
          message_to = omega (arith, f, c);
          token = x.token;
          up_to = x.up_to;
          line_is = field_other error_width 1 E n ws refl (omega arith) k ne ∙ x.line_is;
          pos_is = field_other error_width 2 E n ws refl (omega arith) k ne ∙ x.pos_is;
        }

    placed_more : dec.T (is_parsers m) → i ≤ e → Placed n E → Placed (n + 1) more
    placed_more g l x k f b =
        ⊎_elim (λ c. about_old k (λ q. omega (arith, q, c)) (x k f c))
        (λ c. let q : n ≡ k = omega arith in subst (λ (j : ℕ). About T.tokens e more j) q (about_new g l))
        (lt_or_le k n)

  -- ---- steps of a reading
  fine_then : (r : Reply) (k : Found → Reader) → Fine r → ((f : Found) → Places (k f)) → Fine (and_then r k)
  fine_then (reply q (Node f) E N) k x g = g f q E N x.at x.errors
  fine_then (reply q (Stop o) E N) k x g = x

  fine_seen : {s s' : Option ℕ} (f : ℕ → Reply) (g : Unit {0} → Reply) → Spotted e s s' → ((i : ℕ) → i ≤ e → Fine (f i)) → Fine (g tt) → Fine (if_seen s f g)
  fine_seen f g (spot i l) x y = x i l
  fine_seen f g none x y = y

  fine_either : (b : Bool) (f g : Unit {0} → Reply) → Fine (f tt) → Fine (g tt) → Fine (either b f g)
  fine_either true f g x y = x
  fine_either false f g x y = y

  fine_restored : (p : State) (r : Reply) → Fine r → Fine (restored p r)
  fine_restored p (reply q (Node f) E N) x = record { at = x.at; errors = x.errors }
  fine_restored p (reply q (Stop o) E N) x = x

  fine_push : (d : rows.Node) → Places (push_node d)
  fine_push d p E N l x = push_node_lem Fine d p E N (λ h. record { at = l; errors = x }) (record { at = l; errors = x })

  fine_error : (m i : ℕ) → dec.T (is_parsers m) → i ≤ e → Places (push_error T.tokens m i)
  fine_error m i g h p E N l x = push_error_lem Fine T.tokens m i p E N (λ r. record { at = l; errors = placed_more E p.errors m i r g h x }) (record { at = l; errors = x })

  fine_consume : (kind m : ℕ) → dec.T (is_parsers m) → Places (consume_at T kind m)
  unfolding consume_at
  fine_consume kind m g p E N l x = fine_seen _ _ (matches_ahead T T e same p.current kind l) (λ i h. record { at = h; errors = x }) (fine_error m p.current g l _ E N l x)

  fine_require : (kind m : ℕ) → dec.T (is_parsers m) → Places (require_at T kind m)
  unfolding require_at
  fine_require kind m g p E N l x =
      fine_seen _ _ (matches_ahead T T e same p.current kind l) (λ i h. record { at = h; errors = x })
      (fine_then _ _ (fine_error m p.current g l _ E N l x) λ f q E N h y. record { at = h; errors = y })

  -- ---- every program
  module _ (low : Which → Reader) (down-fine : (w : Which) → Places (low w)) where
    run_fine : (P : Prog) → Kept e P → Places (run T low P)
    unfolding run
    run_fine (give f) k p E N l x = record { at = l; errors = x }
    run_fine (stop o) k p E N l x = record { at = l; errors = x }
    run_fine (m >>= n) k p E N l x = fine_then _ _ (run_fine m k.0 p E N l x) λ f. run_fine (n f) (k.1 f)
    run_fine (m >> n) k p E N l x = fine_then _ _ (run_fine m k.0 p E N l x) λ f. run_fine n k.1
    run_fine (look kind found missing) k p E N l x = fine_seen _ _ (matches_ahead T T e same p.current kind l) (λ i h. run_fine (found i) ((given_out (is_asked kind) k).0 i h) _ E N h x) (run_fine missing (given_out (is_asked kind) k).1 _ E N l x)
    run_fine (check kind found missing) k p E N l x = fine_seen _ _ (check_ahead T T e same p.current kind l) (λ i h. run_fine found (given_out (is_asked kind) k).0 _ E N h x) (run_fine missing (given_out (is_asked kind) k).1 _ E N l x)
    run_fine (at_end found missing) k p E N l x = fine_either (eqb (kind_at T.tokens p.current) 0) _ _ (run_fine found k.0 p E N l x) (run_fine missing k.1 p E N l x)
    run_fine previous k p E N l x = record { at = l; errors = x }
    run_fine (node d) k p E N l x = fine_push d p E N l x
    run_fine (link prev next) k p E N l x = record { at = l; errors = x }
    run_fine (fail message) k p E N l x = fine_error message p.current k l p E N l x
    run_fine (fail_at message token) k p E N l x = let b = k.1 in fine_error message (token - 1) k.0 (omega arith) p E N l x
    run_fine (consume kind message) k p E N l x = fine_consume kind message (given_out (is_asked kind) k) p E N l x
    run_fine (require kind message) k p E N l x = fine_require kind message (given_out (is_asked kind) k) p E N l x
    run_fine enter_loop k p E N l x = record { at = l; errors = x }
    run_fine leave_loop k p E N l x = record { at = l; errors = x }
    run_fine give_back k p E N l x = record { at = l; errors = x }
    run_fine (inside_loop found missing) k p E N l x = fine_either (eqb p.loops 0) _ _ (run_fine missing k.1 p E N l x) (run_fine found k.0 p E N l x)
    run_fine (in_function name m) k p E N l x = fine_restored p _ (run_fine m k (looped p 0) E N l x)
    run_fine (down w) k p E N l x = down-fine w p E N l x

  lower_fine : (n : ℕ) (w : Which) → Places (lower T n w)
  unfolding lower
  lower_fine zero w p E N l x = record { at = l; errors = x }
  lower_fine (suc n) w p E N l x = run_fine (lower T n) (lower_fine n) (body T w) (body_kept T e w) p E N l x

  top_fine : Places (top_level T)
  unfolding top_level
  top_fine p E N l x = fine_then _ _ (lower_fine 128 Declaration p E N l x) λ f q E N h y. fine_then _ _ (fine_consume newline_kind 4 tt q E N h y) λ g r E N i z. record { at = i; errors = z }

  -- ---- the whole
  placed_or : (first kept : ℕ) (r : Reply) (k : ℕ → State → List ℕ → List ℕ → Parsed) → Fine r → ((n : ℕ) (q : State) (E N : List ℕ) → q.current ≤ e → Placed q.errors E → Placed (k n q E N).error_count (k n q E N).errors) → Placed (or_ends first kept r k).error_count (or_ends first kept r k).errors
  placed_or first kept (reply q (Node f) E N) k x g = g f.node q E N x.at x.errors
  placed_or first kept (reply q (Stop o) E N) k x g = x.errors

  placed_if : (b : Bool) (f g : Unit {0} → Parsed) → Placed (f tt).error_count (f tt).errors → Placed (g tt).error_count (g tt).errors → Placed (if_end b f g).error_count (if_end b f g).errors
  placed_if true f g x y = x
  placed_if false f g x y = y

  statements_placed : (n first last : ℕ) (p : State) (E N : List ℕ) → p.current ≤ e → Placed p.errors E → Placed (statements n T first last p E N).error_count (statements n T first last p E N).errors
  unfolding statements
  statements_placed zero first last p E N l x = x
  statements_placed (suc n) first last p E N l x =
      placed_if (eqb (kind_at T.tokens p.current) 0) _ _ x
      (placed_or first p.nodes _ _ (top_fine p E N l x) λ m q E N h y. statements_placed n (first_of first m) m q E (linked N last m) h y)

-- every error that a parsing adds to those of before is about one of the tokens up to an EOF
pub parsed_about : (rule : ℕ) (t : List ℕ) (e : ℕ) → kind_at t e ≡ eof_kind → (errors : ℕ) (E N : List ℕ) (k : ℕ) → errors ≤ k → k < (parsed rule (walked t) errors E N).error_count → About t e (parsed rule (walked t) errors E N).errors k
unfolding parsed
parsed_about rule t e end errors E N = statements_placed (walked t) e errors (agree_self t e end) (suc (count t)) 0 0 (fresh_state rule errors) E N (omega arith) λ k f b. absurd (omega (arith, f, b))
