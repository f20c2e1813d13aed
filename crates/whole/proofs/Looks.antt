-- The looks of a reading are at most linear in the tokens that it keeps. Assumes nothing.
use mathlib.Core.Path.{◌≡◌, refl, ap, ◌∙◌}
use mathlib.Core.List.{List}
use Prim.Native.Nat.{ℕ, ◌+◌, ◌*◌, ◌≤◌}
use native.Mathlib.Omega.{arith}
use Rattle.records.specs.Table.{room, token_width, error_width}
use Rattle.lexer.specs.Lex.{lexed_of}
use Rattle.looks.specs.Checks.{allowed}
use Rattle.looks.proofs.Bound.{looks_linear}
use Rattle.parser.specs.Tokens.{walked}
use Rattle.entry.specs.Entry.{over, nodes_after}
use Rattle.entry.specs.Reading.{reading}
use Rattle.whole.proofs.Sizes.{well, over_agree}
use Rattle.whole.proofs.Ends.{by_end}

-- of any bytes, by any rule and on any way, into any tables and with any index: at most 45 for each token
pub reading_looks : (rule way : ℕ) (s t e n x : List ℕ) → (reading rule way s t e n x).looks ≤ allowed (reading rule way s t e n x).token_count
reading_looks rule way s t e n x =
    by_end rule way s t e n x (λ r. r.looks ≤ allowed r.token_count) (λ w z. omega arith) (λ z f. omega arith) (λ z. omega arith)
    λ z f.
    let l = lexed_of rule s (room token_width t) (room error_width e) in
    let w = well rule s (room token_width t) (room error_width e) in
    let y = w.eof z in
    let q : l.token_count ≡ y.0 + 1 = y.1 in
    let a = over_agree l.tokens t t y.0 refl (w.tokens_long ∙ ap (λ (k : ℕ). token_width * k) q) y.2 in
    let h = looks_linear (walked (over l.tokens t)) y.0 a rule l.error_count (over l.errors e) (nodes_after l.outcome n) in
    omega (arith, h, q)

-- in the form asked for
pub reading_looks_asked : (rule way : ℕ) (s t e n x : List ℕ) → (reading rule way s t e n x).looks ≤ 64 * (reading rule way s t e n x).token_count + 64
reading_looks_asked rule way s t e n x = let h = reading_looks rule way s t e n x in omega arith
