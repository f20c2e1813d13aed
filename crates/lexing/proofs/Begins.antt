-- Every token that a lexing keeps begins on its line less the newlines among its bytes, and none on an earlier line than one before it. Assumes nothing.
use mathlib.Core.Path.{◌≡◌, refl, sym, ap, ◌∙◌}
use mathlib.Core.List.{List, ◌++◌}
use mathlib.Core.Logic.{⊎_elim}
use Prim.Native.Nat.{ℕ, ◌+◌, ◌*◌, ◌≤◌, ◌<◌}
use native.Mathlib.Omega.{arith}
use lib.ListN.{length, get_or, length-append, get_or-append}
use lib.Seq.{get_or-append-add}
use Rattle.records.specs.declared.TokenData.{TokenData}
use Rattle.records.specs.Table.{token_width}
use Rattle.records.specs.Words.{token_words}
use Rattle.records.specs.Rows.{none}
use Rattle.records.proofs.Rooms.{lt_or_le}
use Rattle.lexer.specs.Lex.{lexed, lexed_of}
use Rattle.lexing.specs.Kept.{InOrder, first, behind}
use Rattle.lexing.specs.Begins.{begins_at, Begun}
use Rattle.lexing.proofs.Kept.{lexed_keeps}
use Rattle.lexing.proofs.Answer.{entry}

-- a word of a token that was there before, and of the last
module _ (ws : List ℕ) (n : ℕ) (d : TokenData) (long : length ws ≡ token_width * n) where
  old : (i : ℕ) → i < n → begins_at (ws ++ token_words d) i ≡ begins_at ws i
  old i h = get_or-append ws (token_words d) 0 (token_width * i + 7) (omega arith)

  last : (i : ℕ) → i ≡ n → begins_at (ws ++ token_words d) i ≡ d.begins
  last i e = ap (begins_at (ws ++ token_words d)) e ∙ ap (λ (m : ℕ). get_or (ws ++ token_words d) (m + 7) 0) (sym long) ∙ get_or-append-add ws (token_words d) 7 0

-- n tokens that begin on this line or an earlier one, none on an earlier line than one before it
record Rising (ws : List ℕ) (n line : ℕ) : Type 0 where
  long : length ws ≡ token_width * n
  up_to : (i : ℕ) → i < n → begins_at ws i ≤ line
  never_falls : (i j : ℕ) → i ≤ j → j < n → begins_at ws i ≤ begins_at ws j

rising : (ws : List ℕ) (n end line : ℕ) → InOrder ws n end line → Rising ws n line
rising _ _ _ _ first = record { long = refl; up_to = λ i h. absurd (omega arith); never_falls = λ i j h l. absurd (omega arith) }
rising _ _ _ _ (behind {ws} {n} {end} {line} o d a b c) =
    let r = rising ws n end line o in
    let l = r.long in
    let below : (i : ℕ) → i < n + 1 → begins_at (ws ++ token_words d) i ≤ d.begins = λ i h.
    ⊎_elim (λ x. let e = old ws n d l i x in let f = r.up_to i x in omega arith) (λ x. let e = last ws n d l i (omega arith) in omega arith) (lt_or_le i n) in
    record {
      long = length-append ws (token_words d) ∙ omega arith;
      up_to = λ i h. let f = below i h in omega arith;
      never_falls = λ i j h k.
          ⊎_elim (λ x. let e = old ws n d l i (omega arith) in let f = old ws n d l j x in let g = r.never_falls i j h x in omega arith)
          (λ x. let e = last ws n d l j (omega arith) in let f = below i (omega arith) in omega arith)
          (lt_or_le j n);
    }

lexed_begins : (rule : ℕ) (s : List ℕ) (token_room error_room : ℕ) → Begun s (lexed rule s token_room error_room)
lexed_begins rule s token_room error_room =
    let k = lexed_keeps rule s token_room error_room in
    let o = k.order in
    record { tokens = k.begins; never_falls = (rising _ _ o.0 o.1 o.2).never_falls }

-- any bytes: every token that is kept begins where its bytes say, and none on an earlier line than one before it
pub lexing_begins : (rule : ℕ) (s : List ℕ) (token_room error_room : ℕ) → Begun s (lexed_of rule s token_room error_room)
lexing_begins rule s token_room error_room =
    entry (Begun s) rule s token_room error_room (λ o. record { tokens = none; never_falls = λ i j h l. absurd (omega arith) }) (lexed_begins rule s token_room error_room)
