-- Before the turn at the token in front of token i: the word in hand is that of token i, and from there on the words are as they are to be, the others as they were.
use Rattle.std.proofs.Common.{◌≡◌, ◌-◌}
use Rattle.lines.proofs.Words.{in_hand, filled}
use Rattle.lines.proofs.index_lines.Given as goal

abbrev pub invariant-loop-i : goal.invariant-loop-i
invariant-loop-i l = record { hand : l.word ≡ in_hand l.tokens l.i (l.n - l.i); words : l.index ≡ filled l.tokens l.initial.index l.n l.i }
