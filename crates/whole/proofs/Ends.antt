-- How a reading ends: one of 0 to 8, 10, 11 or 13; under rule two never with 2; with 10 only where the index has too little room; with 13, and nothing changed, exactly where its number names no
-- rule; and with no look made where it ends before parsing. Assumes nothing.
use mathlib.Core.Path.{◌≡◌, refl, sym, ap, subst, subst⁻¹, ◌∙◌}
use mathlib.Core.Bool.{Bool, true, false, not, cond, ◌&&◌, ◌||◌}
use mathlib.Core.List.{List}
use Prim.Native.Nat.{ℕ, ◌≤◌, ◌<◌}
use native.Mathlib.Omega.{arith}
use borrow.Author.Tests.{eqb-true, eqb-false, eq-eqb, ne_eqb, ltb-true, ltb-false}
use lib.Dec.{eqb, ltb}
use Rattle.rules.specs.Rules.{two, known, is_two}
use Rattle.records.specs.Table.{room, token_width, error_width, index_width}
use Rattle.lexer.specs.Lex.{Result, refusal, pick_result, lexed_by, lexed_of}
use Rattle.lexing.specs.Ends as lexings
use Rattle.lexing.proofs.Ends.{lexing_ends, ends_cases, ends_two}
use Rattle.parser.specs.Tokens.{walked}
use Rattle.parser.specs.Whole.{Parsed, parsed}
use Rattle.progress.proofs.Moves.{never}
use Rattle.parsing.specs.Ahead.{is_outcome}
use Rattle.parsing.proofs.Ahead.{parsed_outcome}
use Rattle.entry.specs.Ways.{stop, ended_wrong, with_outcome, on_way}
use Rattle.entry.specs.Entry.{Entered, with_room, entered_after, entered}
use Rattle.entry.specs.Reading.{Reading, refused, joined, read_by, read_after, reading}
use Rattle.whole.specs.Ends.{Ends, in_lexing, before_parsing, without_index, in_parsing, is_final, unruled}

-- ---- what is lexed
-- where lexing does not end with 13 the rule is known
ends_known : (rule o : ℕ) → lexings.Ends rule o → (o ≡ 13 → ⊥) → known rule ≡ true
ends_known rule =
    ends_cases rule (λ (o : ℕ). (o ≡ 13 → ⊥) → known rule ≡ true) (λ h n. absurd (n refl)) (λ h. (λ n. h, λ n. h, λ n. h, λ n. h, λ n. h)) λ h i n. h

-- where it does, the rule is not
ends_unknown : (rule o : ℕ) → lexings.Ends rule o → o ≡ 13 → known rule ≡ false
ends_unknown rule =
    ends_cases rule (λ (o : ℕ). o ≡ 13 → known rule ≡ false) (λ h e. h)
    (λ h. (λ e. absurd (omega (arith, e)), λ e. absurd (omega (arith, e)), λ e. absurd (omega (arith, e)), λ e. absurd (omega (arith, e)), λ e. absurd (omega (arith, e))))
    λ h i e. absurd (omega (arith, e))

-- ---- the reading
module _ (rule way : ℕ) (s t e n x : List ℕ) where
  -- what is lexed, and how it ended
  abbrev d : Result
  d = lexed_of rule s (room token_width t) (room error_width e)

  lexed : lexings.Ends rule d.outcome
  lexed = lexing_ends rule s (room token_width t) (room error_width e)

  -- where lexing reached its end, the rule is known
  ended_known : d.outcome ≡ 0 → known rule ≡ true
  ended_known z = ends_known rule d.outcome lexed λ h. omega (arith, z, h)

  -- what stands then, with that outcome, and what is parsed of it
  abbrev stands_as : ℕ → Entered
  stands_as o = entered_after (with_outcome o d) t e n x

  abbrev parse : Parsed
  parse = parsed rule (walked (stands_as d.outcome).tokens) d.error_count (stands_as d.outcome).errors (stands_as d.outcome).nodes

  -- BY ITS END: whatever holds where the new way stops, where the index has too little room, where lexing ended the reading, and where what was lexed to its end is parsed, holds of it
  pub by_end : (P : Reading → Type 0)
      → (way ≡ stop → d.outcome ≡ 0 → P (refused (stands_as 11)))
      → (d.outcome ≡ 0 → room index_width x < d.token_count → P (refused (stands_as 10)))
      → ((d.outcome ≡ 0 → ⊥) → P (refused (stands_as d.outcome)))
      → (d.outcome ≡ 0 → d.token_count ≤ room index_width x → P (joined d.token_count (stands_as d.outcome).tokens parse (stands_as d.outcome).index))
      → P (reading rule way s t e n x)
  unfolding reading
  by_end P stopped lacking short whole = at (eqb way stop) refl (eqb d.outcome 0) refl (ltb 0 d.error_count)
    where
      -- it goes to parsing, or not
      goes : (b : Bool) → eqb d.outcome 0 ≡ b → (d.outcome ≡ 0 → d.token_count ≤ room index_width x) → P (read_by b rule (stands_as d.outcome))
      goes true h f = let z = eqb-true d.outcome 0 h in whole z (f z)
      goes false h f = short (eqb-false d.outcome 0 h)

      -- if the index has room, and else not
      fits : (b : Bool) → eqb d.outcome 0 ≡ b → (c : Bool) → ltb (room index_width x) d.token_count ≡ c → P (read_after rule (stands_as (cond (b && c) 10 d.outcome)))
      fits true h true g = lacking (eqb-true d.outcome 0 h) (ltb-true _ _ g)
      fits true h false g = goes (eqb d.outcome 0) refl λ z. ltb-false _ _ g
      fits false h c g = goes (eqb d.outcome 0) refl λ z. never (sym h ∙ eq-eqb d.outcome 0 z)

      -- the outcome that lexing's becomes, where the new way stops if b holds
      by : Bool → Reading
      by b = read_after rule (entered_after (with_room (room index_width x) (with_outcome (cond b 11 d.outcome) d)) t e n x)

      at : (a : Bool) → eqb way stop ≡ a → (b : Bool) → eqb d.outcome 0 ≡ b → (c : Bool) → P (by (a && (b && c)))
      at true p true q true = stopped (eqb-true way stop p) (eqb-true d.outcome 0 q)
      at true p true q false = fits (eqb d.outcome 0) refl (ltb (room index_width x) d.token_count) refl
      at true p false q c = fits (eqb d.outcome 0) refl (ltb (room index_width x) d.token_count) refl
      at false p b q c = fits (eqb d.outcome 0) refl (ltb (room index_width x) d.token_count) refl

  -- HOW A READING ENDS
  pub reading_ends : Ends rule way (reading rule way s t e n x).outcome
  reading_ends =
      by_end (λ r. Ends rule way r.outcome) (λ w z. before_parsing (ended_known z) w) (λ z f. without_index (ended_known z)) (in_lexing _ lexed)
      λ z f. in_parsing _ (ended_known z) (parsed_outcome (stands_as d.outcome).tokens rule d.error_count (stands_as d.outcome).errors (stands_as d.outcome).nodes)

-- ---- looks
module _ (rule way : ℕ) (s t e n x : List ℕ) where
  -- what stands once the source is lexed
  abbrev stands : Entered
  stands = entered rule way s t e n x

  -- NO LOOK IS MADE WHERE A READING ENDS BEFORE PARSING
  pub looks_before : (stands.outcome ≡ 0 → ⊥) → (reading rule way s t e n x).looks ≡ 0
  unfolding reading
  looks_before h = ap (λ (b : Bool). (read_by b rule stands).looks) (ne_eqb stands.outcome 0 h)

  -- and so after every outcome that is none of parsing's: 2, 3, 4, 5, 10, 11 and 13
  pub looks_none : is_outcome (reading rule way s t e n x).outcome ≡ false → (reading rule way s t e n x).looks ≡ 0
  unfolding reading
  looks_none = at (eqb stands.outcome 0)
    where
      at : (b : Bool) → is_outcome (read_by b rule stands).outcome ≡ false → (read_by b rule stands).looks ≡ 0
      at true h = never (sym h ∙ parsed_outcome stands.tokens rule stands.error_count stands.errors stands.nodes)
      at false h = refl

-- ---- the numbers
-- of lexing
lexed_number : (rule o : ℕ) → lexings.Ends rule o → is_final o ≡ true
lexed_number rule = ends_cases rule (λ (o : ℕ). is_final o ≡ true) (λ h. refl) (λ h. (refl, refl, refl, refl, refl)) λ h i. refl

-- of parsing, which are 0, 1, 6, 7 and 8: whatever holds of these
parsed_numbers : (P : ℕ → Type 0) → P 0 → P 1 → P 6 → P 7 → P 8 → (o : ℕ) → is_outcome o ≡ true → P o
parsed_numbers P p q r s t o = at (eqb o 0) refl (eqb o 1) refl (eqb o 6) refl (eqb o 7) refl (eqb o 8) refl
  where
    is : (k : ℕ) → P k → eqb o k ≡ true → P o
    is k h e = subst⁻¹ P (eqb-true o k e) h

    at : (a : Bool) → eqb o 0 ≡ a → (b : Bool) → eqb o 1 ≡ b → (c : Bool) → eqb o 6 ≡ c → (d : Bool) → eqb o 7 ≡ d → (e : Bool) → eqb o 8 ≡ e → a || b || c || d || e ≡ true → P o
    at true f b g c h d i e j k = is 0 p f
    at false f true g c h d i e j k = is 1 q g
    at false f false g true h d i e j k = is 6 r h
    at false f false g false h true i e j k = is 7 s i
    at false f false g false h false i true j k = is 8 t j
    at false f false g false h false i false j k = never k

ends_number : (rule way o : ℕ) → Ends rule way o → is_final o ≡ true
ends_number rule way _ (in_lexing o x z) = lexed_number rule o x
ends_number rule way _ (before_parsing k i) = refl
ends_number rule way _ (without_index k) = refl
ends_number rule way _ (in_parsing o k h) = parsed_numbers (λ (o : ℕ). is_final o ≡ true) refl refl refl refl refl o h

-- a reading ends with 0 to 8, with 10, with 11, or with 13
pub reading_outcome : (rule way : ℕ) (s t e n x : List ℕ) → is_final (reading rule way s t e n x).outcome ≡ true
reading_outcome rule way s t e n x = ends_number rule way _ (reading_ends rule way s t e n x)

-- ---- 10 and 11 are none of lexing's
lexed_not : (rule k : ℕ) → 9 ≤ k → k ≤ 12 → (o : ℕ) → lexings.Ends rule o → o ≡ k → ⊥
lexed_not rule k f g =
    ends_cases rule (λ (o : ℕ). o ≡ k → ⊥) (λ h e. omega (arith, e, g))
    (λ h. (λ e. omega (arith, e, f), λ e. omega (arith, e, f), λ e. omega (arith, e, f), λ e. omega (arith, e, f), λ e. omega (arith, e, f))) λ h i e. omega (arith, e, f)

-- 11 is the new way's
pub ends_new : (rule way o : ℕ) → Ends rule way o → o ≡ 11 → way ≡ stop
ends_new rule way _ (in_lexing o x z) e = absurd (lexed_not rule 11 (omega arith) (omega arith) o x e)
ends_new rule way _ (before_parsing k i) e = i
ends_new rule way _ (without_index k) e = absurd (omega (arith, e))
ends_new rule way _ (in_parsing o k h) e = never (subst (λ (j : ℕ). is_outcome j ≡ true) e h)

-- 10 is the index's: it has fewer words than there are tokens
pub index_only : (rule way : ℕ) (s t e n x : List ℕ) → (reading rule way s t e n x).outcome ≡ 10 → room index_width x < (reading rule way s t e n x).token_count
index_only rule way s t e n x =
    by_end rule way s t e n x (λ r. r.outcome ≡ 10 → room index_width x < r.token_count) (λ w z o. absurd (omega (arith, o))) (λ z f o. f)
    (λ z o. absurd (lexed_not rule 10 (omega arith) (omega arith) _ (lexed rule way s t e n x) o))
    λ z f o. never (subst (λ (j : ℕ). is_outcome j ≡ true) o (parsed_outcome _ rule _ _ _))

-- ---- OUTCOME 2 NEVER OCCURS UNDER RULE TWO
reading_two : (rule way o : ℕ) → is_two rule ≡ true → Ends rule way o → o ≡ 2 → ⊥
reading_two rule way _ i (in_lexing o x z) e = ends_two rule o i x e
reading_two rule way _ i (before_parsing k j) e = omega (arith, e)
reading_two rule way _ i (without_index k) e = omega (arith, e)
reading_two rule way _ i (in_parsing o k h) e = never (subst (λ (j : ℕ). is_outcome j ≡ true) e h)

pub two_never : (way : ℕ) (s t e n x : List ℕ) → (reading two way s t e n x).outcome ≡ 2 → ⊥
two_never way s t e n x = reading_two two way _ refl (reading_ends two way s t e n x)

-- ---- 13
-- only where the number names no rule
ends_unruled : (rule way o : ℕ) → Ends rule way o → o ≡ 13 → known rule ≡ false
ends_unruled rule way _ (in_lexing o x z) e = ends_unknown rule o x e
ends_unruled rule way _ (before_parsing k i) e = absurd (omega (arith, e))
ends_unruled rule way _ (without_index k) e = absurd (omega (arith, e))
ends_unruled rule way _ (in_parsing o k h) e = never (subst (λ (j : ℕ). is_outcome j ≡ true) e h)

pub unruled_only : (rule way : ℕ) (s t e n x : List ℕ) → (reading rule way s t e n x).outcome ≡ 13 → known rule ≡ false
unruled_only rule way s t e n x = ends_unruled rule way _ (reading_ends rule way s t e n x)

-- there always, and nothing changed
pub unruled_so : (rule way : ℕ) (s t e n x : List ℕ) → known rule ≡ false → reading rule way s t e n x ≡ unruled t e n x
unfolding reading lexed_of
unruled_so rule way s t e n x h =
    ap (λ (b : Bool). read_after rule (entered_after (with_room (room index_width x) (on_way way (pick_result (not b) (refusal 13) (lexed_by rule s (room token_width t) (room error_width e))))) t e n x)) h
    ∙ at (eqb way stop)
  where
    at : (b : Bool) → read_after rule (entered_after (with_room (room index_width x) (with_outcome (cond (b && ended_wrong 13 0) 11 13) (refusal 13))) t e n x) ≡ unruled t e n x
    at true = refl
    at false = refl
