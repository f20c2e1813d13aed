-- Blacking out (docs/RULES.md, 'Blacking out') does not change the reading. Assumes nothing.
use mathlib.Core.Path.{◌≡◌, sym, ap, subst, ◌∙◌}
use mathlib.Core.Bool.{true, not}
use mathlib.Core.List.{List}
use Prim.Native.Nat.{ℕ, ◌<◌}
use native.Mathlib.Omega.{arith}
use borrow.Author.Tests.{lt-ltb}
use lib.Dec.{T}
use lib.ListN.{length}
use Rattle.text.specs.Text.{is_text}
use Rattle.rules.specs.Rules.{known}
use Rattle.records.specs.Table.{room, token_width, error_width, index_width}
use Rattle.items.specs.declared.Item.{Item}
use Rattle.lexer.specs.Lex.{Result, emit, fresh, refusal, pick_result, lexed, lexed_of}
use Rattle.parser.specs.Tokens.{walked}
use Rattle.parser.specs.Whole.{parsed}
use Rattle.entry.specs.Ways.{on_way}
use Rattle.entry.specs.Entry.{over, with_room, entered_after}
use Rattle.entry.specs.Reading.{Reading, read_after, reading}
use Rattle.whole.specs.Sizes.{SameReading}
use Rattle.whole.proofs.Sizes.{reading_sizes, reading_read}
use Rattle.blackout.specs.Blackout.{alike, Blackout}
use Rattle.blackout.proofs.Near.{is_true}
use Rattle.blackout.proofs.Items.{items_alike}

-- lexing, with any rooms: the same outcome, counts and every word of the kept tokens and errors
pub lexed_same : (rule : ℕ) (s r : List ℕ) (token_room error_room : ℕ) → T (alike rule s r) → lexed rule s token_room error_room ≡ lexed rule r token_room error_room
unfolding lexed
lexed_same rule s r a b h = ap (λ (x : List Item). emit a b x fresh) (items_alike rule s r h)

-- the same with the limit and the text test before it
pub lexed_of_same : (rule : ℕ) (s r : List ℕ) (token_room error_room : ℕ) → Blackout rule s r → lexed_of rule s token_room error_room ≡ lexed_of rule r token_room error_room
unfolding lexed_of
lexed_of_same rule s r a b h =
    let l : length s ≡ length r = h.equal_length in
    let t : is_text s ≡ is_text r = is_true (is_text s) h.first_text ∙ sym (is_true (is_text r) h.second_text) in
    let x : lexed rule s a b ≡ lexed rule r a b = lexed_same rule s r a b h.differs_only in
    cc

-- parsing what was lexed: the same outcome, counts, first statement, looks, errors and nodes
pub parsed_same : (rule : ℕ) (s r t e n : List ℕ) (token_room error_room : ℕ) → Blackout rule s r
    → parsed rule (walked (over (lexed_of rule s token_room error_room).tokens t)) (lexed_of rule s token_room error_room).error_count (over (lexed_of rule s token_room error_room).errors e) n
    ≡ parsed rule (walked (over (lexed_of rule r token_room error_room).tokens t)) (lexed_of rule r token_room error_room).error_count (over (lexed_of rule r token_room error_room).errors e) n
parsed_same rule s r t e n a b h = ap (λ (d : Result). parsed rule (walked (over d.tokens t)) d.error_count (over d.errors e) n) (lexed_of_same rule s r a b h)

-- the whole reading, by the same rule and on the same way, into the same tables: the same answer, and every word of all three and of the index
pub reading_equal : (rule way : ℕ) (s r t e n x : List ℕ) → Blackout rule s r → reading rule way s t e n x ≡ reading rule way r t e n x
unfolding reading
reading_equal rule way s r t e n x h = ap (λ (d : Result). read_after rule (entered_after (with_room (room index_width x) (on_way way d)) t e n x)) (lexed_of_same rule s r (room token_width t) (room error_width e) h)

-- THE THEOREM: the whole reading, by any rule and on any way, the same for both, into equally large tables and with an equally large index, whatever they held: the same outcome, counts, first
-- statement, looks, kept records and words of the index
pub reading_same : (rule way : ℕ) (s r t e n x t' e' n' x' : List ℕ) → Blackout rule s r → length t ≡ length t' → length e ≡ length e' → length n ≡ length n' → length x ≡ length x' → SameReading (reading rule way s t e n x) (reading rule way r t' e' n' x')
reading_same rule way s r t e n x t' e' n' x' h tl el nl xl = subst (λ (y : Reading). SameReading (reading rule way s t e n x) y) (reading_equal rule way s r t' e' n' x' h) (reading_sizes rule way s t e n x t' e' n' x' tl el nl xl)

-- and every word of the node table, for both are read where the rule is known
pub nodes_same : (rule way : ℕ) (s r t e n x t' e' n' x' : List ℕ) → known rule ≡ true → Blackout rule s r → length t ≡ length t' → length e ≡ length e' → length n ≡ length n' → length x ≡ length x' → (reading rule way s t e n x).nodes ≡ (reading rule way r t' e' n' x').nodes
nodes_same rule way s r t e n x t' e' n' x' k h tl el nl xl = (reading_same rule way s r t e n x t' e' n' x' h tl el nl xl).nodes (reading_read rule way s t e n x k h.within (is_true (is_text s) h.first_text))

-- beyond the limit equally long scripts are refused alike, whatever they hold: the limit is the only clause that the same reading doesn't need
pub beyond_same : (rule way : ℕ) (s r t e n x : List ℕ) → 65535 < length s → length s ≡ length r → reading rule way s t e n x ≡ reading rule way r t e n x
unfolding reading lexed_of
beyond_same rule way s r t e n x h l =
    let a = room token_width t in
    let b = room error_width e in
    let y = pick_result (not (known rule)) (refusal 13) (refusal 4) in
    let i : lexed_of rule s a b ≡ y = simp (lt-ltb 65535 (length s) h) in
    let j : lexed_of rule r a b ≡ y = simp (lt-ltb 65535 (length r) (omega arith)) in
    ap (λ (d : Result). read_after rule (entered_after (with_room (room index_width x) (on_way way d)) t e n x)) (i ∙ sym j)
