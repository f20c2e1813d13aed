-- What was entered, with or without a parsing, makes a reading, as the code joins them. Assumes nothing.
use mathlib.Core.Path.{◌≡◌, refl, sym, subst, ◌∙◌}
use mathlib.Core.Bool.{Bool, true, false}
use mathlib.Core.List.{List}
use Prim.Native.Nat.{ℕ}
use lib.Dec.{eqb}
use borrow.Author.Tests.{eq-eqb, ne_eqb}
use Rattle.lexer.specs.declared.Scanned.{Scanned}
use Rattle.parser.specs.declared.Parsed as answers
use Rattle.parser.specs.Tokens.{walked, indexed}
use Rattle.parser.specs.Whole.{Parsed, parsed, Parsing}
use Rattle.parsing.specs.Ahead.{Agree}
use Rattle.parsing.proofs.Ahead.{parsed_tokens}
use Rattle.entry.specs.declared.Answer.{Answer}
use Rattle.entry.specs.Entry.{Entered, entered, Enters}
use Rattle.entry.specs.Reading.{read_by, read_after, reading, Answers}
use Rattle.entry.proofs.Entry.{standing, stands_as_lem}
use Rattle.whole.proofs.Index.{index_agree}

module _ (rule way : ℕ) (s t e n x T E N X : List ℕ) (d : Scanned) (l : Enters (entered rule way s t e n x) d T E N X) where
  -- by its test
  by : (b : Bool) (r : Answer) (E' N' : List ℕ) → eqb d.outcome 0 ≡ b
      → Answers (read_by b rule (standing d T E N X)) r T E' N' X
      → Answers (reading rule way s t e n x) r T E' N' X
  unfolding reading
  by b r E' N' p a =
      subst (λ (x : Entered). Answers (read_after rule x) r T E' N' X) (stands_as_lem (entered rule way s t e n x) d T E N X l)
      (subst (λ (z : Bool). Answers (read_by z rule (standing d T E N X)) r T E' N' X) (sym p) a)

  -- the code parses with the index, and it comes to what a reading means, where newlines are walked
  walks : d.outcome ≡ 0 → parsed rule (indexed T X) d.errors E N ≡ parsed rule (walked T) d.errors E N
  walks z =
      let g = index_agree rule way s t e n x (sym l.outcome_is ∙ z) in
      let a = subst (λ (y : Entered). Agree g.0 (indexed y.tokens y.index) (walked y.tokens)) (sym (stands_as_lem (entered rule way s t e n x) d T E N X l)) g.2 in
      parsed_tokens (indexed T X) (walked T) g.0 a rule d.errors E N

  -- what was lexed is parsed, and parsing decides
  pub goes_on_lem : (p : answers.Parsed) (E' N' : List ℕ) → d.outcome ≡ 0 → Parsing (parsed rule (indexed T X) d.errors E N) p E' N'
      → Answers (reading rule way s t e n x) (record { outcome = p.outcome; tokens = d.tokens; errors = p.errors; nodes = p.nodes; first = p.first; looks = p.looks }) T E' N' X
  goes_on_lem p E' N' z b =
      let a = subst (λ (y : Parsed). Parsing y p E' N') (walks z) b in
      by true _ E' N' (eq-eqb d.outcome 0 z)
      (record {
        outcome_is = a.outcome_is;
        tokens_are = refl;
        errors_are = a.errors_are;
        nodes_are = a.nodes_are;
        first_is = a.first_is;
        looks_are = a.looks_are;
        token_table = refl;
        error_table_lem = a.error_table_lem;
        node_table = a.node_table;
        index_table = refl;
      })

  -- it is the answer: no node is kept, and no look was made
  pub ends : (nodes first looks : ℕ) → (nodes ≡ 0) × (first ≡ 0) × (looks ≡ 0) → (d.outcome ≡ 0 → ⊥)
      → Answers (reading rule way s t e n x) (record { outcome = d.outcome; tokens = d.tokens; errors = d.errors; nodes = nodes; first = first; looks = looks }) T E N X
  ends nodes first looks h z =
      by false _ E N (ne_eqb d.outcome 0 z)
      (record { outcome_is = refl; tokens_are = refl; errors_are = refl; nodes_are = h.0; first_is = h.1; looks_are = h.2; token_table = refl; error_table_lem = refl; node_table = refl; index_table = refl })
