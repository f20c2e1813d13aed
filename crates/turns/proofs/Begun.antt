-- What begin leaves fits where its rule is known, so that calls from begin on answer 19 until the final answer is given, and never 18 or 13; and it comes. Assumes nothing.
use mathlib.Core.Path.{◌≡◌, refl, sym, ap, subst, ◌∙◌}
use mathlib.Core.Bool.{Bool, true, false, not, ◌&&◌}
use mathlib.Core.List.{List, ◌++◌}
use mathlib.Core.Logic.{◌⊎◌, inl, inr}
use Prim.Native.Nat.{ℕ, zero, suc, ◌+◌, ◌*◌, ◌≤◌, ◌<◌}
use native.Mathlib.Omega.{arith}
use lib.Dec.{eqb}
use lib.ListN.{length, get_or, drop, length-append, get_or-append}
use lib.Seq.{get_or-append-add}
use borrow.Author.Tests.{eqb-true, eq-eqb, ne_eqb}
use Rattle.rules.specs.Rules.{known}
use Rattle.records.specs.Table.{room, token_width, error_width, index_width}
use Rattle.records.specs.Words.{token_words}
use Rattle.records.specs.Rows.{Rows}
use Rattle.records.specs.declared.TokenData.{TokenData}
use Rattle.records.proofs.Rooms.{room_length}
use Rattle.records.proofs.Field.{field_room}
use Rattle.records.proofs.Rows.{rows_length, row_at}
use Rattle.lexer.specs.Lex.{Result, lexed_of}
use Rattle.lexing.specs.Kept.{Good, Eof, Ending, whole, short}
use Rattle.lexing.proofs.Answer.{token_count_lem, tokens_within, errors_within}
use Rattle.parser.specs.Tokens.{kind_at}
use Rattle.entry.specs.Entry.{Entered, over, entered}
use Rattle.entry.proofs.Ways.{on_ended, on_fits}
use Rattle.whole.proofs.Sizes.{over_keeps}
use Rattle.whole.proofs.Index.{lexed_whole, index_agree, index_long}
use Rattle.host.specs.declared.Parser.{Parser}
use Rattle.host.specs.Fits.{no_eof, only_eof}
use Rattle.host.specs.Kept.{fresh}
use Rattle.steps.specs.Steps.{Called, begun_by, begun, nexts}
use Rattle.steps.proofs.Cases.{begun_known}
use Rattle.turns.proofs.Steady as steady
use Rattle.turns.proofs.Steady.{Fit, Steady, going, rest_steady, reads_steady, steady_ends}

module _ (n m : ℕ) (ws rest : List ℕ) (d : TokenData) (rows : Rows token_words (Good n) ws m) (eof : Eof n d) (fits : m + 1 ≤ room token_width ((ws ++ token_words d) ++ rest)) where
  abbrev T : List ℕ
  T = (ws ++ token_words d) ++ rest

  long : length ws ≡ token_width * m
  long = rows_length token_words (Good n) token_width (λ d. refl) ws m rows

  front : length (ws ++ token_words d) ≡ token_width * m + token_width
  front = length-append ws (token_words d) ∙ (let a = long in omega arith)

  -- no token before the last is EOF
  kind_some : (i : ℕ) → i < m → kind_at T i ≡ 0 → ⊥
  unfolding kind_at
  kind_some i h z =
      let x = row_at token_words (Good n) token_width (λ d. refl) ws m rows i h in
      let a = long in
      let b = front in
      let k : get_or T (token_width * i + 0) 0 ≡ x.0.kind = get_or-append (ws ++ token_words d) rest 0 (token_width * i + 0) (omega arith) ∙ get_or-append ws (token_words d) 0 (token_width * i + 0) (omega arith) ∙ x.2 0 (omega arith) in
      let e : x.0.kind ≡ 0 = sym k ∙ sym (field_room token_width 0 T i (omega arith)) ∙ z in
      let g = x.1.kind_from in
      omega arith

  -- the last is
  kind_last : kind_at T m ≡ 0
  unfolding kind_at
  kind_last =
      let a = long in
      let b = front in
      field_room token_width 0 T m (omega arith) ∙ get_or-append (ws ++ token_words d) rest 0 (token_width * m + 0) (omega arith) ∙ ap (λ (k : ℕ). get_or (ws ++ token_words d) (k + 0) 0) (sym long) ∙ get_or-append-add ws (token_words d) 0 0 ∙ eof.kind_is

  none_before : (j : ℕ) → j ≤ m → no_eof T j ≡ true
  unfolding no_eof
  none_before zero h = refl
  none_before (suc j) h = ap (λ (b : Bool). not b && no_eof T j) (ne_eqb (kind_at T j) 0 (kind_some j (omega arith))) ∙ none_before j (omega arith)

  only : only_eof T (suc m) ≡ true
  unfolding only_eof
  only = ap (λ (b : Bool). b && no_eof T m) (eq-eqb (kind_at T m) 0 kind_last) ∙ none_before m (omega arith)

-- the last token of a lexing that reached the end is the only EOF
lexed_only : (n : ℕ) (r : Result) (t : List ℕ) → r.outcome ≡ 0 → Ending n r → r.token_count ≤ room token_width (over r.tokens t) → (only_eof (over r.tokens t) r.token_count ≡ true) × (0 < r.token_count)
lexed_only n r t z (whole ws m d o rows le eof is count) h =
    let c : r.token_count ≡ suc m = count ∙ omega arith in
    let f : m + 1 ≤ room token_width (over (ws ++ token_words d) t) = subst (λ (x : List ℕ). m + 1 ≤ room token_width (over x t)) is (subst (λ (k : ℕ). k ≤ room token_width (over r.tokens t)) count h) in
    ((λ i. only_eof (over (is i) t) (c i)) ∙ only n m ws (drop (length (ws ++ token_words d)) t) d rows eof f, omega arith)
lexed_only n r t z (short ne rows le) h = absurd (ne z)

-- the parser that begin leaves where the end was reached
fresh_fit : (s t e n x : List ℕ) (p : Parser) → known p.rule ≡ true → let d = entered p.rule p.way s t e n x in d.outcome ≡ 0 → Fit d.tokens d.errors d.nodes d.index (fresh p d.token_count d.error_count)
fresh_fit s t e n x p r h =
    let d = lexed_of p.rule s (room token_width t) (room error_width e) in
    let z : d.outcome ≡ 0 = on_ended p.way (room index_width x) d h in
    let k = lexed_whole p.rule s (room token_width t) (room error_width e) z in
    let a : room token_width (over d.tokens t) ≡ room token_width t = room_length token_width (over d.tokens t) t (over_keeps d.tokens t (tokens_within p.rule s t (room error_width e))) in
    let b : room error_width (over d.errors e) ≡ room error_width e = room_length error_width (over d.errors e) e (over_keeps d.errors e (errors_within p.rule s e (room token_width t))) in
    let f : d.token_count ≤ room token_width (over d.tokens t) = subst (λ (m : ℕ). d.token_count ≤ m) (sym a) k.token_room_held in
    let o = lexed_only (length s) d t z k.ending f in
    let g = index_agree p.rule p.way s t e n x h in
    let c : d.token_count ≡ g.0 + 1 = g.1 in
    let y = room_length index_width (entered p.rule p.way s t e n x).index x (index_long p.rule p.way s t e n x h) in
    record { rule = r; tokens = f; errors = subst (λ (m : ℕ). d.error_count ≤ m) (sym b) k.error_room_held; nodes = omega arith; last = omega arith; loops = omega arith; cursor = o.1; eof = o.0; index = subst (λ (m : ℕ). d.token_count ≤ m) (sym y) (on_fits p.way (room index_width x) d h); within = λ i l. let v = g.2.within i (omega (arith, c, l)) in omega (arith, c, v) }

one_not : ◌≡◌ {A = ℕ} 1 0 → ⊥
one_not h = omega (arith, h)

begun_steady : (s t e n x : List ℕ) (p : Parser) → known p.rule ≡ true → Steady (length s + 2) 0 (begun s t e n x p)
begun_steady s t e n x p r = subst (Steady (length s + 2) 0) (begun_known s t e n x p r) (at (eqb d.outcome 0) refl)
  where
    d : Entered
    d = entered p.rule p.way s t e n x

    at : (x : Bool) → eqb d.outcome 0 ≡ x → Steady (length s + 2) 0 (begun_by x p d)
    at true h = rest_steady (length s + 2) 0 d.tokens (fresh p d.token_count d.error_count) d.errors d.nodes d.index (fresh_fit s t e n x p r (eqb-true d.outcome 0 h)) (token_count_lem p.rule s (room token_width t) (room error_width e)) (omega arith)
    at false h = steady.over _ one_not

-- a call that stands so gave the final answer, or answers 19
steady_answers : (b j : ℕ) (c : Called) → Steady b j c → (c.stepped.parser.ended ≡ 0 → ⊥) ⊎ (c.stepped.answer.outcome ≡ 19)
steady_answers b j _ (steady.over c z) = inl z
steady_answers b j _ (going p T E N X z o f m l) = inr o

module _ (s t e n x : List ℕ) (p : Parser) (r : known p.rule ≡ true) (k : ℕ) where
  -- after begin with a rule that is known and k reads, each over what the last call left, the final answer was given, or the call answers 19
  pub never_refused : ((nexts k (begun s t e n x p)).stepped.parser.ended ≡ 0 → ⊥) ⊎ ((nexts k (begun s t e n x p)).stepped.answer.outcome ≡ 19)
  never_refused = steady_answers (length s + 2) k (nexts k (begun s t e n x p)) (reads_steady (length s + 2) k (begun s t e n x p) (begun_steady s t e n x p r))

  -- a source of m bytes has its final answer after m + 2 reads
  pub final_comes : length s + 2 ≤ k → (nexts k (begun s t e n x p)).stepped.parser.ended ≡ 0 → ⊥
  final_comes h = steady_ends (length s + 2) k (nexts k (begun s t e n x p)) h (reads_steady (length s + 2) k (begun s t e n x p) (begun_steady s t e n x p r))
