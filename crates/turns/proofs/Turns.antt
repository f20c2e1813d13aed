-- Calls one after the other: where a final answer is given, it and the tables are what the whole reading yields, and every read after it gives the same.
-- Assumes nothing.
use mathlib.Core.Path.{◌≡◌, refl, sym, ap, subst, ◌∙◌}
use mathlib.Core.Bool.{Bool, true, false}
use mathlib.Core.List.{List}
use Prim.Native.Nat.{ℕ, zero, suc, ◌-◌, ◌≤◌, ◌<◌}
use native.Mathlib.Omega.{arith}
use lib.Dec.{eqb}
use borrow.Author.Tests.{eqb-true}
use Rattle.rules.specs.Rules.{known}
use Rattle.records.specs.Table.{linked, zeroed, node_width}
use Rattle.parser.specs.Tables.{Node, Stop}
use Rattle.parser.specs.Tokens.{count, kind_at, walked, indexed}
use Rattle.parser.specs.Tables.{Reply, reply}
use Rattle.parser.specs.Grammar.{first_of}
use Rattle.parser.specs.Whole.{Parsed, ends, top_level, statements, parsed}
use Rattle.parsing.proofs.Ahead.{parsed_tokens}
use Rattle.parsing.proofs.Rule.{Ruled, top_ruled}
use Rattle.statements.proofs.TopLevel.{at_end_lem, stops, goes_on_lem, statement_past}
use Rattle.entry.specs.declared.Answer.{Answer}
use Rattle.whole.specs.Ends.{is_final}
use Rattle.whole.proofs.Index.{index_agree}
use Rattle.whole.proofs.Ends.{reading_outcome, unruled_only}
use Rattle.entry.specs.Entry.{Entered, entered}
use Rattle.entry.specs.Reading.{Reading, joined, read_by, read_after, reading, Answers}
use Rattle.host.specs.declared.Parser.{Parser}
use Rattle.host.specs.Fits.{fits_in}
use Rattle.host.specs.Kept.{marked_as, fresh, state_of, behind, stopped_at}
use Rattle.steps.specs.Steps.{Called, left, held, leaving, final, pick_call, rest_of, begun_by, begun, refused_as, after_one, one_of, next_of, next, nexts}
use Rattle.steps.proofs.Cases.{begun_known, next_again, next_refuses, next_unruled, next_goes_on}

-- how a call stands to the whole reading R: it gave the final answer, and all is as R has it; or the statements that are left make R, with fuel for a turn
-- for each token that is left
data Stands (R : Reading) : Called → Type 0 where
  done : (p : Parser) (T E N X : List ℕ) → (p.ended ≡ 0 → ⊥) → Answers R (held p) T E N X → Stands R (left (leaving p) T E N X)
  on : (r : Answer) (p : Parser) (T E N X : List ℕ) (f : ℕ) → p.ended ≡ 0 → count T - p.current ≤ f → R ≡ joined p.tokens T (statements (suc f) (indexed T X) p.first p.last (state_of p) E N) X
      → Stands R (left (record { parser = p; answer = r }) T E N X)

-- the mark of a final answer
one_not : ◌≡◌ {A = ℕ} 1 0 → ⊥
one_not h = omega (arith, h)

-- the parsing ends, and this is what the parser holds
ended_as : (R : Reading) (o : ℕ) (p : Parser) (T E N X : List ℕ) → R ≡ joined p.tokens T (ends o p.first p.nodes (state_of p) E N) X → Stands R (final o p T E N X)
ended_as R o p T E N X e =
    done (marked_as 1 o p) T E (zeroed node_width N p.nodes) X one_not
    (record {
      outcome_is = ap (λ (x : Reading). x.outcome) (sym e);
      tokens_are = ap (λ (x : Reading). x.token_count) (sym e);
      errors_are = ap (λ (x : Reading). x.error_count) (sym e);
      nodes_are = ap (λ (x : Reading). x.node_count) (sym e);
      first_is = ap (λ (x : Reading). x.first) (sym e);
      looks_are = ap (λ (x : Reading). x.looks) (sym e);
      token_table = ap (λ (x : Reading). x.tokens) (sym e);
      error_table_lem = ap (λ (x : Reading). x.errors) (sym e);
      node_table = ap (λ (x : Reading). x.nodes) (sym e);
      index_table = ap (λ (x : Reading). x.index) (sym e);
    })

module _ (R : Reading) (T : List ℕ) (p : Parser) (E N X : List ℕ) (f : ℕ) (enough : count T - p.current ≤ f) (e : R ≡ joined p.tokens T (statements (suc f) (indexed T X) p.first p.last (state_of p) E N) X) where
  -- at EOF the whole is at its end
  at_its_end : eqb (kind_at T p.current) 0 ≡ true → Stands R (final 0 p T E N X)
  at_its_end h = ended_as R 0 p T E N X (e ∙ ap (λ (x : Parsed). joined p.tokens T x X) (at_end_lem (indexed T X) f p.first p.last (state_of p) E N h))

  -- after a statement, or before the first
  rest_by : (b : Bool) → eqb (kind_at T p.current) 0 ≡ b → Stands R (rest_of T p E N X)
  unfolding rest_of
  rest_by true h = subst (λ (b : Bool). Stands R (pick_call b (λ _. final 0 p T E N X) λ _. left (leaving (marked_as 0 19 p)) T E N X)) (sym h) (at_its_end h)
  rest_by false h = subst (λ (b : Bool). Stands R (pick_call b (λ _. final 0 p T E N X) λ _. left (leaving (marked_as 0 19 p)) T E N X)) (sym h) (on _ (marked_as 0 19 p) T E N X f refl enough e)

  rests : Stands R (rest_of T p E N X)
  rests = rest_by (eqb (kind_at T p.current) 0) refl

-- with fuel that is one more than some
less : (f : ℕ) → 0 < f → f ≡ suc (f - 1)
less f h = omega (arith, h)

module _ (R : Reading) (T : List ℕ) (p : Parser) (E N X : List ℕ) (f : ℕ) (enough : count T - p.current ≤ f) (e : R ≡ joined p.tokens T (statements (suc f) (indexed T X) p.first p.last (state_of p) E N) X) where
  -- what came of a statement
  came : eqb (kind_at T p.current) 0 ≡ false → (r : Reply) → r ≡ top_level (indexed T X) (state_of p) E N → Stands R (after_one T X p r)
  came h (reply q (Stop o) E' N') t =
      ended_as R o (stopped_at p q) T E' N' X (e ∙ ap (λ (x : Parsed). joined p.tokens T x X) (stops (indexed T X) f p.first p.last (state_of p) E N q (Stop o) E' N' h t o refl))
  came h (reply q (Node n) E' N') t =
      let g = statement_past (indexed T X) f p.first p.last (state_of p) E N q (Node n) E' N' h t n refl in
      let below : p.current < count T = g.0 in
      let moved : p.current < q.current = g.1 in
      let z : f ≡ suc (f - 1) = less f (omega (arith, below, enough)) in
      let r : q.rule ≡ p.rule = (subst (Ruled p.rule) (sym t) (top_ruled (indexed T X) (state_of p) E N)).rule_is in
      rests R T (behind p q n.node) E' (linked N' p.last n.node) X (f - 1) (omega (arith, below, moved, enough))
      (e ∙ ap (λ (x : Parsed). joined p.tokens T x X) (goes_on_lem (indexed T X) f p.first p.last (state_of p) E N q (Node n) E' N' h t n refl)
      ∙ ap (λ (i : ℕ). joined p.tokens T (statements i (indexed T X) (first_of p.first n.node) n.node q E' (linked N' p.last n.node)) X) z
      ∙ ap (λ (x : ℕ). joined p.tokens T (statements (suc (f - 1)) (indexed T X) (first_of p.first n.node) n.node (record { rule = x; current = q.current; errors = q.errors; nodes = q.nodes; loops = q.loops; looks = q.looks }) E' (linked N' p.last n.node)) X) r)

  -- a statement, or the end
  one_by : (b : Bool) → eqb (kind_at T p.current) 0 ≡ b → Stands R (one_of T p E N X)
  unfolding one_of
  one_by true h = subst (λ (b : Bool). Stands R (pick_call b (λ _. final 0 p T E N X) λ _. after_one T X p (top_level (indexed T X) (state_of p) E N))) (sym h) (at_its_end R T p E N X f enough e h)
  one_by false h = subst (λ (b : Bool). Stands R (pick_call b (λ _. final 0 p T E N X) λ _. after_one T X p (top_level (indexed T X) (state_of p) E N))) (sym h) (came h (top_level (indexed T X) (state_of p) E N) refl)

  -- the two tests
  next_by : p.ended ≡ 0 → (b : Bool) → fits_in T E N X p ≡ b → (k : Bool) → known p.rule ≡ k → Stands R (next_of T E N X p)
  next_by z true h true k = subst (Stands R) (next_goes_on T E N X p z h k) (one_by (eqb (kind_at T p.current) 0) refl)
  next_by z true h false k = subst (Stands R) (next_unruled T E N X p z h k (refused_as 13 p) refl) (on _ p T E N X f z enough e)
  next_by z false h x k = subst (Stands R) (next_refuses T E N X p z h (refused_as 18 p) refl) (on _ p T E N X f z enough e)

-- a read keeps it so
next_stands : (R : Reading) (c : Called) → Stands R c → Stands R (next c)
next_stands R _ (done p T E N X z a) = subst (Stands R) (next_again T E N X p z) (done p T E N X z a)
next_stands R _ (on r p T E N X f z enough e) = next_by R T p E N X f enough e z (fits_in T E N X p) refl (known p.rule) refl

-- after lexing, by its test: where parsing comes, it comes to the same with the index as with newlines walked
module _ (s t e n x : List ℕ) (p : Parser) where
  abbrev d : Entered
  d = entered p.rule p.way s t e n x

  begin_stands : (b : Bool) → eqb d.outcome 0 ≡ b → Stands (read_by b p.rule d) (begun_by b p d)
  unfolding parsed
  begin_stands true h =
      let g = index_agree p.rule p.way s t e n x (eqb-true d.outcome 0 h) in
      let w = parsed_tokens (indexed d.tokens d.index) (walked d.tokens) g.0 g.2 p.rule d.error_count d.errors d.nodes in
      rests _ d.tokens (fresh p d.token_count d.error_count) d.errors d.nodes d.index (count d.tokens) (omega arith) (ap (λ (y : Parsed). joined d.token_count d.tokens y d.index) (sym w))
  begin_stands false h =
      done (marked_as 1 d.outcome (fresh p d.token_count d.error_count)) d.tokens d.errors d.nodes d.index one_not
      (record { outcome_is = refl; tokens_are = refl; errors_are = refl; nodes_are = refl; first_is = refl; looks_are = refl; token_table = refl; error_table_lem = refl; node_table = refl; index_table = refl })

  begun_stands : known p.rule ≡ true → Stands (reading p.rule p.way s t e n x) (begun s t e n x p)
  unfolding reading
  begun_stands k = subst (Stands (read_after p.rule d)) (begun_known s t e n x p k) (begin_stands (eqb d.outcome 0) refl)

reads_stand : (R : Reading) (k : ℕ) (c : Called) → Stands R c → Stands R (nexts k c)
unfolding nexts
reads_stand R zero c a = a
reads_stand R (suc k) c a = next_stands R (nexts k c) (reads_stand R k c a)

-- what stands so and is final
final_answers : (R : Reading) (c : Called) → Stands R c → (c.stepped.parser.ended ≡ 0 → ⊥) → Answers R c.stepped.answer c.tokens c.errors c.nodes c.index
final_answers R _ (done p T E N X z a) h = a
final_answers R _ (on r p T E N X f z enough e) h = elim (h z) [ ]

final_again : (R : Reading) (c : Called) → Stands R c → (c.stepped.parser.ended ≡ 0 → ⊥) → next c ≡ c
final_again R _ (done p T E N X z a) h = sym (next_again T E N X p z)
final_again R _ (on r p T E N X f z enough e) h = elim (h z) [ ]

module _ (s t e n x : List ℕ) (p : Parser) (r : known p.rule ≡ true) (k : ℕ) where
  -- begin with any parser whose rule is known, and k reads, each over what the last call left
  abbrev called : Called
  called = nexts k (begun s t e n x p)

  -- the whole reading by that parser's rule and on its way
  abbrev whole : Reading
  whole = reading p.rule p.way s t e n x

  -- where they give the final answer, it and the tables are what the whole reading yields
  pub yields_whole : (called.stepped.parser.ended ≡ 0 → ⊥) → Answers whole called.stepped.answer called.tokens called.errors called.nodes called.index
  yields_whole = final_answers whole called (reads_stand whole k (begun s t e n x p) (begun_stands s t e n x p r))

  -- a read after that returns the same and changes nothing
  pub yields_again : (called.stepped.parser.ended ≡ 0 → ⊥) → next called ≡ called
  yields_again = final_again whole called (reads_stand whole k (begun s t e n x p) (begun_stands s t e n x p r))

  -- and the final answer is one of 0 to 8, 10 or 11: not 13, for the rule is known
  pub final_number : (called.stepped.parser.ended ≡ 0 → ⊥) → is_final called.stepped.answer.outcome ≡ true
  final_number z = ap is_final (yields_whole z).outcome_is ∙ reading_outcome p.rule p.way s t e n x

  pub never_unruled : (called.stepped.parser.ended ≡ 0 → ⊥) → called.stepped.answer.outcome ≡ 13 → ⊥
  never_unruled z h = let w = unruled_only p.rule p.way s t e n x (sym (yields_whole z).outcome_is ∙ h) in let y : ◌≡◌ {A = ℕ} 0 1 = cc in omega arith
