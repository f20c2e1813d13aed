-- A rule that is known, and a source that is text and not too long.
use Rattle.std.proofs.Common.{◌≡◌, true, false, ltb, length, rules, arith}
use Rattle.std.proofs.lemmas.Grind.{common_steps}
use Rattle.text.specs.Text.{is_text}
use Rattle.rules.specs.Rules.{known}
use Rattle.lexer.specs.Lex.{lexed_of}
use Rattle.lexer.proofs.Tables.{lexes}
use Rattle.lexer.proofs.try_scan.Goals as goal

pub returns : goal.returns
unfolding lexed_of
returns c =
    let a = c.args in
    let k : known a.rule ≡ true = search rules in
    let n : ltb 65535 (length a.source.now) ≡ false = grind (arith, common_steps) in
    let t : is_text a.source.now ≡ true = search rules in
    rw (k, n, t) (lexes a.rule a.source.now a.tokens.now a.errors.now _ _ _ c.scan_tokens.ensures)
