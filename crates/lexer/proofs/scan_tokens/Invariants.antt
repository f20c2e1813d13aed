-- What is left to lex is the whole; the tables keep their lengths.
use Rattle.std.proofs.Common.{◌≡◌, ◌+◌, ◌-◌, ◌≤◌, length, drop}
use Rattle.items.specs.Items.{items}
use Rattle.lexer.specs.Steps.{scan_in, start}
use Rattle.lexer.proofs.scan_tokens.Given as goal

abbrev pub invariant-loop-l : goal.invariant-loop-l
invariant-loop-l l = record {
  within : l.l.current ≤ length l.source;
  line_within : l.l.line ≤ l.l.current + 1;
  same : scan_in (items l.rule l.source 0) start l.fn.tokens l.fn.errors ≡ scan_in (items l.rule (drop l.l.current l.source) 0) l.l l.tokens l.errors;
}

abbrev pub decreases-loop-l : goal.decreases-loop-l
decreases-loop-l l = length l.source - l.l.current
