-- Laws of writing nodes and errors, in the form that the code's facts have. Assumes nothing.
use mathlib.Core.Path.{◌≡◌, sym, ap, ◌∙◌}
use mathlib.Core.Bool.{Bool, true, false}
use mathlib.Core.List.{List}
use Prim.Native.Nat.{ℕ, ◌+◌, ◌/◌, ◌<◌}
use native.Mathlib.Omega.{arith}
use native.Mathlib.Nat.{min-le_right, le_trans}
use borrow.Author.Tests.{ltb-true, ltb-false}
use lib.Dec.{ltb}
use lib.ListN.{length}
use Rattle.records.specs.Table.{room, error_width, node_width, Pushed}
use Rattle.records.specs.Words.{error_words, node_words}
use Rattle.records.specs.declared.Node as rows
use Rattle.records.specs.declared.InterpreterError.{InterpreterError}
use Rattle.records.proofs.Put.{put_none}
use Rattle.parser.specs.declared.State.{State}
use Rattle.parser.specs.declared.Halted.{Halted}
use Rattle.parser.specs.declared.Found.{Found}
use Rattle.parser.specs.Tables.{Node, Stop}
use Rattle.std.specs.Prelude.{Option, Result, Ok, Err}
use Rattle.std.specs.Prelude.{Some, None}
use Rattle.parser.specs.Tokens.{View, matches_at}
use Rattle.parser.specs.Tables.{Reply, reply, answered, moved, counted_by, looked, with_node, with_error, error_at, plain, error_made, push_node, push_error, and_then, consume_at, require_at}

-- a record that had room is one that a word can count
pub counted : (w : ℕ) (t : List ℕ) (n : ℕ) (b : Bool) → b ≡ ltb n (room w t) → b ≡ true → n < 4294967295
counted w t n b answer h = le_trans (ltb-true n (room w t) (sym answer ∙ h)) (min-le_right (length t / w) 4294967295)

-- ---- nodes
module _ (d : rows.Node) (p : State) (E N N' : List ℕ) (b : Bool) (o : Result (State × Found) Halted) (h : Pushed node_width N p.nodes (node_words d) b N') where
  pub node_made_lem : (q : State) → b ≡ true → q ≡ with_node p → o ≡ Ok (q, plain (p.nodes + 1)) → answered o E N' ≡ push_node d p E N
  unfolding push_node
  node_made_lem q t s e =
      let r : ltb p.nodes (room node_width N) ≡ true = sym h.answer ∙ t in
      ap (λ (x : Result (State × Found) Halted). answered x E N') e
      ∙ ap (λ (x : State). reply x (Node (plain (p.nodes + 1))) E N') s
      ∙ ap (reply (with_node p) (Node (plain (p.nodes + 1))) E) h.table
      ∙ sym (rw (r, push_node))

  pub node_refused : b ≡ false → o ≡ Err (record { p = p; outcome = 7 }) → answered o E N' ≡ push_node d p E N
  unfolding push_node
  node_refused t e =
      let r : ltb p.nodes (room node_width N) ≡ false = sym h.answer ∙ t in
      ap (λ (x : Result (State × Found) Halted). answered x E N') e
      ∙ ap (reply p (Stop 7) E) (h.table ∙ put_none node_width N p.nodes (node_words d) (ltb-false _ _ r))
      ∙ sym (rw (r, push_node))

-- ---- errors
module _ (T : List ℕ) (message i : ℕ) (d : InterpreterError) (p : State) (E E' N : List ℕ) (b : Bool) (o : Result (State × Found) Halted) (l : d ≡ error_at T message i) (h : Pushed error_width E p.errors (error_words d) b E') where
  pub error_made_lem : (q : State) → b ≡ true → q ≡ with_error p → o ≡ Ok (q, plain 0) → answered o E' N ≡ push_error T message i p E N
  unfolding push_error
  error_made_lem q t s e =
      let r : ltb p.errors (room error_width E) ≡ true = sym h.answer ∙ t in
      ap (λ (x : Result (State × Found) Halted). answered x E' N) e
      ∙ ap (λ (x : State). reply x (Node (plain 0)) E' N) s
      ∙ ap (λ (x : List ℕ). reply (with_error p) (Node (plain 0)) x N) h.table
      ∙ ap (λ (x : InterpreterError). error_made x p E N) l
      ∙ sym (rw (r, push_error))

  pub error_refused : b ≡ false → o ≡ Err (record { p = p; outcome = 6 }) → answered o E' N ≡ push_error T message i p E N
  unfolding push_error
  error_refused t e =
      let r : ltb p.errors (room error_width E) ≡ false = sym h.answer ∙ t in
      ap (λ (x : Result (State × Found) Halted). answered x E' N) e
      ∙ ap (λ (x : List ℕ). reply p (Stop 6) x N) (h.table ∙ put_none error_width E p.errors _ (ltb-false _ _ r))
      ∙ sym (rw (r, push_error))

-- ---- looks
-- the state at token i with so many looks
abbrev pub with_looks : State → ℕ → ℕ → State
with_looks p i n = record { rule = p.rule; current = i; errors = p.errors; nodes = p.nodes; loops = p.loops; looks = n }

-- looks one after the other are as many at once
pub looked_more : (p : State) (m n : ℕ) → looked (looked p m) n ≡ looked p (m + n)
unfolding counted_by
looked_more p m n = let e : counted_by n (counted_by m p.looks) ≡ counted_by (m + n) p.looks = omega arith in ap (with_looks p p.current) e

-- and none at all change nothing
pub looked_none : (p : State) → looked p 0 ≡ p
unfolding counted_by
looked_none p = let e : counted_by 0 p.looks ≡ p.looks = omega arith in ap (with_looks p p.current) e

-- ---- a token that is passed, or whose absence is an error
module _ (T : View) (kind message : ℕ) (p : State) (s : Option ℕ) (h : s ≡ matches_at T p.current kind) where
  pub consume_found : (i : ℕ) (E N : List ℕ) (o : Result (State × Found) Halted) (q : State) → s ≡ Some i → q ≡ moved (looked p 1) i → o ≡ Ok (q, plain i) → answered o E N ≡ consume_at T kind message p E N
  unfolding consume_at
  consume_found i E N o q f g e =
      let m : matches_at T p.current kind ≡ Some i = sym h ∙ f in
      ap (λ (x : Result (State × Found) Halted). answered x E N) e ∙ ap (λ (x : State). reply x (Node (plain i)) E N) g ∙ sym (rw (m, consume_at))

  pub consume_missing : (E N : List ℕ) (r : Reply) (q : State) → s ≡ None → q ≡ looked p 1 → r ≡ push_error T.tokens message p.current q E N → r ≡ consume_at T kind message p E N
  unfolding consume_at
  consume_missing E N r q f l e =
      let m : matches_at T p.current kind ≡ None = sym h ∙ f in
      e ∙ ap (λ (x : State). push_error T.tokens message p.current x E N) l ∙ sym (rw (m, consume_at))

  pub require_found : (i : ℕ) (E N : List ℕ) (o : Result (State × Found) Halted) (q : State) → s ≡ Some i → q ≡ moved (looked p 1) i → o ≡ Ok (q, plain i) → answered o E N ≡ require_at T kind message p E N
  unfolding require_at
  require_found i E N o q f g e =
      let m : matches_at T p.current kind ≡ Some i = sym h ∙ f in
      ap (λ (x : Result (State × Found) Halted). answered x E N) e ∙ ap (λ (x : State). reply x (Node (plain i)) E N) g ∙ sym (rw (m, require_at))

  module _ (E E' N : List ℕ) (g : Result (State × Found) Halted) (q : State) (f : s ≡ None) (l : q ≡ looked p 1) (e : answered g E' N ≡ push_error T.tokens message p.current q E N) where
    stops : require_at T kind message p E N ≡ and_then (answered g E' N) λ x q E N. reply q (Stop 1) E N
    unfolding require_at
    stops =
        let m : matches_at T p.current kind ≡ None = sym h ∙ f in
        let r : require_at T kind message p E N ≡ and_then (push_error T.tokens message p.current (looked p 1) E N) (λ x q E N. reply q (Stop 1) E N) = rw (m, require_at) in
        r ∙ ap (λ (x : Reply). and_then x λ x q E N. reply q (Stop 1) E N) (sym (e ∙ ap (λ (x : State). push_error T.tokens message p.current x E N) l))

    pub require_full : (w : Halted) → g ≡ Err w → answered (Err w) E' N ≡ require_at T kind message p E N
    require_full w k = sym (stops ∙ ap (λ (x : Result (State × Found) Halted). and_then (answered x E' N) λ x q E N. reply q (Stop 1) E N) k)

    pub require_stops : (x : State × Found) (o : Result (State × Found) Halted) → g ≡ Ok x → o ≡ Err (record { p = x.0; outcome = 1 }) → answered o E' N ≡ require_at T kind message p E N
    require_stops x o k q =
        ap (λ (y : Result (State × Found) Halted). answered y E' N) q
        ∙ sym (stops ∙ ap (λ (y : Result (State × Found) Halted). and_then (answered y E' N) λ x q E N. reply q (Stop 1) E N) k)
