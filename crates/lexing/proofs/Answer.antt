-- What follows for the entry: at most two tokens more than bytes; and a second lexing into the tables as the first left them gives the same.
-- Assumes nothing.
use mathlib.Core.Path.{◌≡◌, refl, sym, ap, ◌∙◌}
use mathlib.Core.Bool.{Bool, true, false, not}
use mathlib.Core.List.{List, ◌++◌}
use Prim.Native.Nat.{ℕ, zero, suc, ◌+◌, ◌*◌, ◌≤◌}
use native.Mathlib.Nat.{mul-zero, mul-suc}
use native.Mathlib.Omega.{arith}
use lib.Dec.{ltb}
use lib.ListN.{length, drop, length-append}
use lib.Seq.{length_front, length-take-le}
use Rattle.text.specs.Text.{is_text}
use Rattle.rules.specs.Rules.{known}
use Rattle.records.specs.Table.{room, token_width, error_width}
use Rattle.records.specs.Words.{token_words, error_words}
use Rattle.records.proofs.Rooms.{room_fits, room_length}
use Rattle.records.proofs.Rows.{rows_length}
use Rattle.lexer.specs.Lex.{Result, refusal, pick_result, lexed, lexed_of}
use Rattle.lexing.specs.Kept.{Good, Placed, Ending, whole, short}
use Rattle.lexing.proofs.Kept.{lexed_keeps}

-- ---- of what is kept
ending_count : (n : ℕ) (r : Result) → Ending n r → r.token_count ≤ n + 2
ending_count n r (whole ws m d o rows le eof is count) = omega arith
ending_count n r (short ne rows le) = omega arith

ending_words : (n : ℕ) (r : Result) → Ending n r → length r.tokens ≡ token_width * r.token_count
ending_words n r (whole ws m d o rows le eof is count) =
    let a : length ws ≡ token_width * m = rows_length token_words (Good n) token_width (λ d. refl) ws m rows in
    ap length is ∙ length-append ws (token_words d) ∙ omega arith
ending_words n r (short ne rows le) = rows_length token_words (Good n) token_width (λ d. refl) r.tokens r.token_count rows

-- so many records lie within the table
room_words : (w : ℕ) (t : List ℕ) (n : ℕ) → n ≤ room w t → w * n ≤ length t
room_words w t zero h = let e = mul-zero w in omega arith
room_words w t (suc n) h = let e = mul-suc w n in let f : w * n + w ≤ length t = room_fits w t n h in omega arith

-- a table whose front is rewritten is as long as it was
front_room : (w : ℕ) (t ws : List ℕ) → length ws ≤ length t → room w (ws ++ drop (length ws) t) ≡ room w t
front_room w t ws h = room_length w (ws ++ drop (length ws) t) t (length_front t ws (length ws) (sym (length-take-le (length ws) t h)))

-- ---- of the entry: whatever holds of its three refusals and of a lexing holds of its answer
pub tests : (P : Result → Type 0) (rule : ℕ) (s : List ℕ) (token_room error_room : ℕ) → P (refusal 13) → P (refusal 4) → P (refusal 3) → P (lexed rule s token_room error_room)
    → P (lexed_of rule s token_room error_room)
unfolding lexed_of
tests P rule s token_room error_room w l x g = go (known rule) (ltb 65535 (length s)) (is_text s)
  where
    go : (k a b : Bool) → P (pick_result (not k) (refusal 13) (pick_result a (refusal 4) (pick_result (not b) (refusal 3) (lexed rule s token_room error_room))))
    go false a b = w
    go true true b = l
    go true false false = x
    go true false true = g

-- of every refusal
pub entry : (P : Result → Type 0) (rule : ℕ) (s : List ℕ) (token_room error_room : ℕ) → ((o : ℕ) → P (refusal o)) → P (lexed rule s token_room error_room) → P (lexed_of rule s token_room error_room)
entry P rule s token_room error_room f g = tests P rule s token_room error_room (f 13) (f 4) (f 3) g

-- the token count is at most the bytes plus 2
pub token_count_lem : (rule : ℕ) (s : List ℕ) (token_room error_room : ℕ) → (lexed_of rule s token_room error_room).token_count ≤ length s + 2
token_count_lem rule s token_room error_room =
    entry (λ r. r.token_count ≤ length s + 2) rule s token_room error_room (λ o. omega arith)
    (ending_count (length s) (lexed rule s token_room error_room) (lexed_keeps rule s token_room error_room).ending)

-- the kept words lie within the tables
pub tokens_within : (rule : ℕ) (s t : List ℕ) (error_room : ℕ) → length (lexed_of rule s (room token_width t) error_room).tokens ≤ length t
tokens_within rule s t error_room =
    entry (λ r. length r.tokens ≤ length t) rule s (room token_width t) error_room (λ o. omega arith)
    (let r = lexed rule s (room token_width t) error_room in
    let k = lexed_keeps rule s (room token_width t) error_room in
    let e : length r.tokens ≡ token_width * r.token_count = ending_words (length s) r k.ending in
    let w : token_width * r.token_count ≤ length t = room_words token_width t r.token_count k.token_room_held in
    omega arith)

pub errors_within : (rule : ℕ) (s e : List ℕ) (token_room : ℕ) → length (lexed_of rule s token_room (room error_width e)).errors ≤ length e
errors_within rule s e token_room =
    entry (λ r. length r.errors ≤ length e) rule s token_room (room error_width e) (λ o. omega arith)
    (let r = lexed rule s token_room (room error_width e) in
    let k = lexed_keeps rule s token_room (room error_width e) in
    let x : length r.errors ≡ error_width * r.error_count = rows_length error_words (Placed (length s)) error_width (λ d. refl) r.errors r.error_count k.errors in
    let w : error_width * r.error_count ≤ length e = room_words error_width e r.error_count k.error_room_held in
    omega arith)

-- lexing once more into the tables as the first lexing left them gives the same lists
pub second_lexing : (rule : ℕ) (s t e : List ℕ) → let d = lexed_of rule s (room token_width t) (room error_width e) in
    lexed_of rule s (room token_width (d.tokens ++ drop (length d.tokens) t)) (room error_width (d.errors ++ drop (length d.errors) e)) ≡ d
second_lexing rule s t e =
    let d = lexed_of rule s (room token_width t) (room error_width e) in
    ap (λ (n : ℕ). lexed_of rule s n (room error_width (d.errors ++ drop (length d.errors) e))) (front_room token_width t d.tokens (tokens_within rule s t (room error_width e)))
    ∙ ap (lexed_of rule s (room token_width t)) (front_room error_width e d.errors (errors_within rule s e (room token_width t)))
