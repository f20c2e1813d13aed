-- What the host chooses in the pair, the rule and the way: they are all that counts of the parser that begin is lent, and no call changes them; 11 is a final answer, 13 is none, and under rule two no call answers 2.
-- Assumes nothing.
use mathlib.Core.Path.{◌≡◌, refl, sym, ap, subst, ◌∙◌}
use mathlib.Core.Bool.{Bool, true, false}
use mathlib.Core.List.{List}
use mathlib.Core.Logic.{⊎_elim}
use Prim.Native.Nat.{ℕ, zero, suc}
use native.Mathlib.Omega.{arith}
use lib.Dec.{eqb}
use borrow.Author.Tests.{eqb-true}
use Rattle.rules.specs.Rules.{two, known}
use Rattle.records.specs.Table.{room, linked, token_width, error_width}
use Rattle.lexer.specs.Lex.{lexed_of}
use Rattle.parser.specs.declared.State.{State}
use Rattle.parser.specs.Tables.{Node, Stop}
use Rattle.parser.specs.Tokens.{kind_at, indexed}
use Rattle.parser.specs.Tables.{Reply, reply, fresh_state}
use Rattle.parser.specs.Grammar.{first_of}
use Rattle.parser.specs.Whole.{top_level}
use Rattle.entry.specs.Entry.{Entered, entered}
use Rattle.entry.specs.Reading.{reading}
use Rattle.whole.specs.Ways.{Stops}
use Rattle.whole.proofs.Ends.{two_never}
use Rattle.whole.proofs.Ways.{entered_stops, stops_only}
use Rattle.host.specs.declared.Parser.{Parser}
use Rattle.host.specs.Fits.{fits_in}
use Rattle.host.specs.Kept.{changed, fresh, marked_as, behind, stopped_in, stopped_at, state_of}
use Rattle.steps.specs.Steps.{Called, left, pick_call, rest_of, refused_as, begun_by, begun_after, begun, after_one, one_of, next_of, nexts}
use Rattle.steps.proofs.Cases.{begun_refuses, begun_known}
use Rattle.turns.proofs.Turns.{yields_whole}
use Rattle.turns.proofs.Begun.{never_refused}

-- ---- of the parser that begin is lent only the rule and the way count, where the rule is known
pub begun_by_choice : (s t e n x : List ℕ) (p q : Parser) → p.rule ≡ q.rule → p.way ≡ q.way → known p.rule ≡ true → begun s t e n x p ≡ begun s t e n x q
begun_by_choice s t e n x p q g h k = sym (begun_known s t e n x p k) ∙ (λ i. on (g i) (h i)) ∙ begun_known s t e n x q (ap known (sym g) ∙ k)
  where
    -- with a parser that has these and else zeros
    on : ℕ → ℕ → Called
    on r w = begun_after (record { rule = r; way = w; current = 0; loops = 0; tokens = 0; errors = 0; nodes = 0; first = 0; last = 0; ended = 0; outcome = 0; looks = 0 }) (entered r w s t e n x)

-- ---- no call changes a word of the host's: one that `changed` keeps
module _ (of : Parser → ℕ) (keeps : (p : Parser) (tokens : ℕ) (q : State) (first last ended outcome : ℕ) → of (changed p tokens q first last ended outcome) ≡ of p) (w : ℕ) where
  -- the word that a call leaves
  abbrev word_of : Called → ℕ
  word_of c = of c.stepped.parser

  -- by what a call makes of the parser
  marked_word : (p : Parser) (ended outcome : ℕ) → of p ≡ w → of (marked_as ended outcome p) ≡ w
  marked_word p ended outcome is = keeps p p.tokens (state_of p) p.first p.last ended outcome ∙ is

  fresh_word : (p : Parser) (tokens errors : ℕ) → of p ≡ w → of (fresh p tokens errors) ≡ w
  fresh_word p tokens errors is = keeps p tokens (fresh_state p.rule errors) 0 0 0 19 ∙ is

  behind_word : (p : Parser) (q : State) (n : ℕ) → of p ≡ w → of (behind p q n) ≡ w
  behind_word p q n is = keeps p p.tokens q (first_of p.first n) n p.ended p.outcome ∙ is

  stopped_word : (p : Parser) (q : State) → of p ≡ w → of (stopped_at p q) ≡ w
  stopped_word p q is = keeps p p.tokens (stopped_in p q) p.first p.last p.ended p.outcome ∙ is

  pick_word : (b : Bool) (x y : Unit {0} → Called) → word_of (x tt) ≡ w → word_of (y tt) ≡ w → word_of (pick_call b x y) ≡ w
  pick_word true x y g h = g
  pick_word false x y g h = h

  rest_word : (T : List ℕ) (p : Parser) → of p ≡ w → (E N X : List ℕ) → word_of (rest_of T p E N X) ≡ w
  unfolding rest_of
  rest_word T p is E N X = pick_word (eqb (kind_at T p.current) 0) _ _ (marked_word p 1 0 is) (marked_word p 0 19 is)

  module _ (T X : List ℕ) (p : Parser) (is : of p ≡ w) where
    after_word : (r : Reply) → word_of (after_one T X p r) ≡ w
    after_word (reply q (Node f) E N) = rest_word T (behind p q f.node) (behind_word p q f.node is) E (linked N p.last f.node) X
    after_word (reply q (Stop o) E N) = marked_word (stopped_at p q) 1 o (stopped_word p q is)

    one_word : (E N : List ℕ) → word_of (one_of T p E N X) ≡ w
    unfolding one_of
    one_word E N = pick_word (eqb (kind_at T p.current) 0) _ _ (marked_word p 1 0 is) (after_word (top_level (indexed T X) (state_of p) E N))

    next_word : (E N : List ℕ) → word_of (next_of T E N X p) ≡ w
    unfolding next_of
    next_word E N = pick_word (eqb p.ended 0) _ _ (pick_word (fits_in T E N X p) _ _ (pick_word (known p.rule) _ _ (one_word E N) is) is) is

  begun_word : (s t e n x : List ℕ) (p : Parser) → of p ≡ w → word_of (begun s t e n x p) ≡ w
  unfolding begun
  begun_word s t e n x p is =
      let d = entered p.rule p.way s t e n x in
      let new = fresh_word p d.token_count d.error_count is in
      pick_word (known p.rule) _ _
      (pick_word (eqb d.outcome 0) _ _ (rest_word d.tokens (fresh p d.token_count d.error_count) new d.errors d.nodes d.index) (marked_word (fresh p d.token_count d.error_count) 1 d.outcome new)) is

  -- begin, and any number of reads after it
  stays : (s t e n x : List ℕ) (p : Parser) → of p ≡ w → (k : ℕ) → word_of (nexts k (begun s t e n x p)) ≡ w
  unfolding nexts
  stays s t e n x p is zero = begun_word s t e n x p is
  stays s t e n x p is (suc k) = let c = nexts k (begun s t e n x p) in next_word c.tokens c.index c.stepped.parser (stays s t e n x p is k) c.errors c.nodes

pub way_stays : (s t e n x : List ℕ) (p : Parser) (k : ℕ) → (nexts k (begun s t e n x p)).stepped.parser.way ≡ p.way
way_stays s t e n x p k = stays (λ (p : Parser). p.way) (λ p tokens q first last ended outcome. refl) p.way s t e n x p refl k

pub rule_stays : (s t e n x : List ℕ) (p : Parser) (k : ℕ) → (nexts k (begun s t e n x p)).stepped.parser.rule ≡ p.rule
rule_stays s t e n x p k = stays (λ (p : Parser). p.rule) (λ p tokens q first last ended outcome. refl) p.rule s t e n x p refl k

module _ (s t e n x : List ℕ) (p : Parser) where
  -- ---- 13: begin changes nothing, the parser included
  pub begin_unruled : known p.rule ≡ false → begun s t e n x p ≡ left (refused_as 13 p) t e n x
  begin_unruled k = sym (begun_refuses s t e n x p k (refused_as 13 p) refl)

  -- ---- OUTCOME 2 NEVER OCCURS UNDER RULE TWO: no call from begin on answers it
  pub two_never_there : (k : ℕ) → p.rule ≡ two → (nexts k (begun s t e n x p)).stepped.answer.outcome ≡ 2 → ⊥
  two_never_there k i h = ⊎_elim final (λ o. omega (arith, h, o)) (never_refused s t e n x p r k)
    where
      r : known p.rule ≡ true
      r = ap known i

      final : ((nexts k (begun s t e n x p)).stepped.parser.ended ≡ 0 → ⊥) → ⊥
      final z = two_never p.way s t e n x (ap (λ (r : ℕ). (reading r p.way s t e n x).outcome) (sym i) ∙ sym (yields_whole s t e n x p r k z).outcome_is ∙ h)

  -- ---- 11
  -- where the whole reading stops before parsing, begin gives 11, and it is final
  pub begin_stops : known p.rule ≡ true → Stops p.way (lexed_of p.rule s (room token_width t) (room error_width e)) → ((begun s t e n x p).stepped.answer.outcome ≡ 11) × ((begun s t e n x p).stepped.parser.ended ≡ 1)
  begin_stops r o = subst (λ (c : Called). (c.stepped.answer.outcome ≡ 11) × (c.stepped.parser.ended ≡ 1)) (begun_known s t e n x p r) (at (eqb d.outcome 0) refl)
    where
      d : Entered
      d = entered p.rule p.way s t e n x

      i : d.outcome ≡ 11
      i = entered_stops p.rule s t e n x p.way o

      at : (b : Bool) → eqb d.outcome 0 ≡ b
          → let c = begun_by b p d in (c.stepped.answer.outcome ≡ 11) × (c.stepped.parser.ended ≡ 1)
      at true h = let z = eqb-true d.outcome 0 h in absurd (omega (arith, i, z))
      at false h = (i, refl)

  -- a final answer 11 comes only there
  pub stops_only_there : known p.rule ≡ true → (k : ℕ) → let c = nexts k (begun s t e n x p) in (c.stepped.parser.ended ≡ 0 → ⊥) → c.stepped.answer.outcome ≡ 11
      → Stops p.way (lexed_of p.rule s (room token_width t) (room error_width e))
  stops_only_there r k z h = stops_only p.rule s t e n x p.way (sym (yields_whole s t e n x p r k z).outcome_is ∙ h)
