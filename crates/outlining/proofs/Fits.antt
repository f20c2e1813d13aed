-- The outline of any script fits a buffer of 287,353 bytes, so a larger one holds the whole of it. Assumes nothing.
use mathlib.Core.Path.{◌≡◌, refl, sym, ap, subst, ◌∙◌}
use mathlib.Core.Bool.{Bool, true, false, cond}
use mathlib.Core.List.{List, [], ◌∷◌, ◌++◌}
use Prim.Native.Nat.{ℕ, zero, suc, ◌+◌, ◌*◌, ◌/◌, ◌%◌, ◌≤◌, min}
use native.Mathlib.Nat.{mul-suc}
use native.Mathlib.Omega.{arith}
use lib.Dec.{ltb}
use lib.ListN.{length, get_or, take, drop, replicate, length-append, length-replicate}
use lib.Seq.{take_all}
use Rattle.records.specs.Table.{room, token_width, error_width, node_width, index_width}
use Rattle.rules.specs.Rules.{one}
use Rattle.entry.specs.Ways.{go_on}
use Rattle.entry.specs.Reading.{Reading}
use Rattle.whole.proofs.Rooms.{reading_rooms}
use Rattle.form.specs.Text.{Holds, digits_within, decimal, field, fields, line_of, lines_of, head_of, token_shown, error_shown, node_shown, text_of, read_within, outline_of}

one_more : (b : Bool) (k n : ℕ) (ds : List ℕ) → length ds ≤ k → length (cond b ((48 + n) ∷ []) (ds ++ ((48 + n % 10) ∷ []))) ≤ suc k
one_more true k n ds h = omega arith
one_more false k n ds h = let e = length-append ds ((48 + n % 10) ∷ []) in omega arith

digits_fit : (k n : ℕ) → length (digits_within k n) ≤ k
digits_fit zero n = omega arith
digits_fit (suc k) n = one_more (ltb n 10) k n (digits_within k (n / 10)) (digits_fit k (n / 10))

-- a space and ten digits
field_fits : (n : ℕ) → length (field n) ≤ 11
unfolding decimal
field_fits n = let h = digits_fit 10 n in omega arith

fields_fit : (t : List ℕ) (from : ℕ) (ks : List ℕ) → length (fields t from ks) ≤ 11 * length ks
unfolding fields
fields_fit t from [] = omega arith
fields_fit t from (k ∷ ks) =
    let h = fields_fit t from ks in
    let g = field_fits (get_or t (from + k) 0) in
    let e = length-append (field (get_or t (from + k) 0)) (fields t from ks) in
    omega arith

line_fits : (letter : ℕ) (t : List ℕ) (from : ℕ) (shown : List ℕ) → length (line_of letter t from shown) ≤ 11 * length shown + 2
line_fits letter t from shown = let h = fields_fit t from shown in let e = length-append (fields t from shown) (10 ∷ []) in omega arith

-- lines of at most w bytes
lines_fit : (letter : ℕ) (t : List ℕ) (width : ℕ) (shown : List ℕ) (w n : ℕ) → 11 * length shown + 2 ≤ w → length (lines_of letter t width shown n) ≤ w * n
unfolding lines_of
lines_fit letter t width shown w zero h = omega arith
lines_fit letter t width shown w (suc n) h =
    let r = lines_fit letter t width shown w n h in
    let g = line_fits letter t (width * n) shown in
    let e = length-append (lines_of letter t width shown n) (line_of letter t (width * n) shown) in
    let m = mul-suc w n in
    omega arith

text_fits : (r : Reading) → length (text_of r) ≤ 57 + 57 * r.token_count + 35 * r.error_count + 101 * r.node_count
unfolding text_of
text_fits r =
    let a = head_of (r.outcome ∷ r.token_count ∷ r.error_count ∷ r.node_count ∷ r.first ∷ []) in
    let b = lines_of 116 r.tokens token_width token_shown r.token_count in
    let c = lines_of 101 r.errors error_width error_shown r.error_count in
    let d = lines_of 110 r.nodes node_width node_shown r.node_count in
    let x = line_fits 111 (r.outcome ∷ r.token_count ∷ r.error_count ∷ r.node_count ∷ r.first ∷ []) 0 (0 ∷ 1 ∷ 2 ∷ 3 ∷ 4 ∷ []) in
    let y = lines_fit 116 r.tokens token_width token_shown 57 r.token_count (omega arith) in
    let z = lines_fit 101 r.errors error_width error_shown 35 r.error_count (omega arith) in
    let w = lines_fit 110 r.nodes node_width node_shown 101 r.node_count (omega arith) in
    let e = length-append a b in
    let f = length-append (a ++ b) c in
    let g = length-append (a ++ b ++ c) d in
    omega arith

-- so many words of a table have so much room
words_room : (w n m : ℕ) → min (n / w) 4294967295 ≡ m → room w (replicate n 0) ≡ m
words_room w n m e = ap (λ (k : ℕ). min (k / w) 4294967295) (length-replicate n 0) ∙ e

pub outline_fits : (s : List ℕ) → length (outline_of s) ≤ 287353
unfolding outline_of
outline_fits s = at (ltb 4096 (length s))
  where
    at : (b : Bool) → length (cond b (head_of (4 ∷ 0 ∷ 0 ∷ 0 ∷ 0 ∷ [])) (text_of (read_within s))) ≤ 287353
    at true = let h = line_fits 111 (4 ∷ 0 ∷ 0 ∷ 0 ∷ 0 ∷ []) 0 (0 ∷ 1 ∷ 2 ∷ 3 ∷ 4 ∷ []) in omega arith
    at false =
        let r = read_within s in
        let w = reading_rooms one go_on s (replicate (token_width * 2048) 0) (replicate (error_width * 256) 0) (replicate (node_width * 1600) 0) (replicate (index_width * 2048) 0) in
        let h = text_fits r in
        let a : r.token_count ≤ 2048 = subst (λ (m : ℕ). r.token_count ≤ m) (words_room token_width (token_width * 2048) 2048 refl) w.tokens_fit in
        let b : r.error_count ≤ 256 = subst (λ (m : ℕ). r.error_count ≤ m) (words_room error_width (error_width * 256) 256 refl) w.errors_fit in
        let c : r.node_count ≤ 1600 = subst (λ (m : ℕ). r.node_count ≤ m) (words_room node_width (node_width * 1600) 1600 refl) w.nodes_fit in
        omega arith

-- what a buffer of at least that size holds is the whole outline, and after it what it held before
pub holds_whole : (s B u : List ℕ) (at : ℕ) → 287353 ≤ length B → Holds (outline_of s) B u at → (at ≡ length (outline_of s)) × (u ≡ outline_of s ++ drop at B)
holds_whole s B u at l h =
    let f = outline_fits s in
    let c = h.count in
    let e : at ≡ length (outline_of s) = omega arith in
    (e, h.bytes ∙ ap (λ (x : List ℕ). x ++ drop at B) (take_all at (outline_of s) (omega arith)))

-- a promise allows one answer only: the count and every byte of the buffer
pub one_text : (t B u u' : List ℕ) (at at' : ℕ) → Holds t B u at → Holds t B u' at' → (at ≡ at') × (u ≡ u')
one_text t B u u' at at' x y = let e : at ≡ at' = x.count ∙ sym y.count in (e, x.bytes ∙ ap (λ (k : ℕ). take k t ++ drop k B) e ∙ sym y.bytes)
