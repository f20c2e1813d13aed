-- The newlines that the code passes by the index it wrote are those that a reading walks. Assumes nothing.
use mathlib.Core.Path.{◌≡◌, refl, sym, ap, subst, ◌∙◌}
use mathlib.Core.Bool.{Bool, cond}
use mathlib.Core.List.{List}
use Prim.Native.Nat.{ℕ, ◌+◌, ◌-◌, ◌*◌, ◌≤◌}
use native.Mathlib.Omega.{arith}
use lib.ListN.{length}
use borrow.Author.Tests.{eq-eqb}
use Rattle.records.specs.Table.{room, token_width, error_width, index_width}
use Rattle.records.proofs.Rooms.{room_length}
use Rattle.lexer.specs.Lex.{Result, lexed_of}
use Rattle.lexing.specs.Kept.{Keeps}
use Rattle.lexing.proofs.Kept.{lexed_keeps}
use Rattle.lexing.proofs.Answer.{tests, tokens_within}
use Rattle.lines.specs.Lines.{line_index}
use Rattle.lines.proofs.Words.{index_length}
use Rattle.parser.specs.Tokens.{count, kind_at, walked, indexed}
use Rattle.parsing.specs.Ahead.{Agree}
use Rattle.parsing.proofs.Ahead.{agree_indexed}
use Rattle.entry.specs.Entry.{Entered, entered}
use Rattle.entry.proofs.Ways.{on_ended, on_fits}
use Rattle.whole.proofs.Sizes.{well_on, over_keeps, over_agree}

-- a lexing that reached the end keeps what every lexing keeps
pub lexed_whole : (rule : ℕ) (s : List ℕ) (a b : ℕ) → (lexed_of rule s a b).outcome ≡ 0 → Keeps s a b (lexed_of rule s a b)
lexed_whole rule s a b =
    tests (λ r. r.outcome ≡ 0 → Keeps s a b r) rule s a b (λ z. absurd (omega (arith, z))) (λ z. absurd (omega (arith, z))) (λ z. absurd (omega (arith, z))) λ z. lexed_keeps rule s a b

module _ (rule way : ℕ) (s t e n x : List ℕ) where
  -- what is lexed, and what stands then
  abbrev r : Result
  r = lexed_of rule s (room token_width t) (room error_width e)

  abbrev d : Entered
  d = entered rule way s t e n x

  -- where parsing comes the tokens have room
  kept : d.outcome ≡ 0 → d.token_count ≤ count d.tokens
  kept h =
      let k = lexed_whole rule s (room token_width t) (room error_width e) (on_ended way (room index_width x) r h) in
      subst (λ (m : ℕ). d.token_count ≤ m) (sym (room_length token_width d.tokens t (over_keeps r.tokens t (tokens_within rule s t (room error_width e))))) k.token_room_held

  -- and the index is written
  written : d.outcome ≡ 0 → d.index ≡ line_index d.tokens d.token_count x
  written h = ap (λ (b : Bool). cond b (line_index d.tokens d.token_count x) x) (eq-eqb d.outcome 0 h)

  -- and it is as long as it was
  pub index_long : d.outcome ≡ 0 → length d.index ≡ length x
  index_long h = ap length (written h) ∙ index_length d.tokens d.token_count x (room_long (on_fits way (room index_width x) r h))
    where
      room_long : d.token_count ≤ room index_width x → d.token_count ≤ length x
      room_long l = omega arith

  -- WITH THE INDEX NEWLINES ARE PASSED AS WITHOUT IT: up to the last token, which is EOF
  pub index_agree : d.outcome ≡ 0 → (m : ℕ) × (d.token_count ≡ m + 1) × Agree m (indexed d.tokens d.index) (walked d.tokens)
  index_agree h =
      let w = well_on rule way (room index_width x) s (room token_width t) (room error_width e) in
      let z = w.eof h in
      let a = over_agree r.tokens t t z.0 refl (w.tokens_long ∙ ap (λ (k : ℕ). token_width * k) z.1) z.2 in
      let c : d.token_count ≡ z.0 + 1 = z.1 in
      let l : z.0 ≡ d.token_count - 1 = omega (arith, c) in
      let g : kind_at d.tokens (d.token_count - 1) ≡ 0 = ap (kind_at d.tokens) (sym l) ∙ a.end in (
        z.0,
        c,
        subst (λ (m : ℕ). Agree m (indexed d.tokens d.index) (walked d.tokens)) (sym l)
            (subst (λ (u : List ℕ). Agree (d.token_count - 1) (indexed d.tokens u) (walked d.tokens)) (sym (written h))
            (agree_indexed d.tokens x d.token_count (omega (arith, c)) (kept h) g (on_fits way (room index_width x) r h))),
      )
