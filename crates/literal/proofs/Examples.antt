-- Worked examples: 1.5, 0.1, 0.0, 2^53 / 10^22, and the two long sides of the line. Assumes nothing.
use mathlib.Core.Path.{◌≡◌, refl}
use Prim.Native.Nat.{◌^◌, ◌+◌}
use lib.Ieee.{div, of_int, to_bits}
use Rattle.literal.specs.declared.Span.{Span}
use Rattle.literal.specs.declared.Literal.TheVariants.{Long}
use Rattle.literal.specs.Value.{value_of, words_of}

-- somewhere in a source
abbrev here : Span
here = record { start = 0; length = 3 }

one_and_a_half : words_of (value_of 15 1 here) ≡ record { sort = 2; low = 0; high = 0x3ff8_0000 }
unfolding div of_int to_bits
one_and_a_half = refl

a_tenth : words_of (value_of 1 1 here) ≡ record { sort = 2; low = 0x9999_999a; high = 0x3fb9_9999 }
unfolding div of_int to_bits
a_tenth = refl

nought : words_of (value_of 0 1 here) ≡ record { sort = 2; low = 0; high = 0 }
unfolding div of_int to_bits
nought = refl

last : words_of (value_of (2 ^ 53) 22 here) ≡ record { sort = 2; low = 0x1017_5ee6; high = 0x3eae_3920 }
unfolding div of_int to_bits
last = refl

long : value_of (2 ^ 53 + 1) 0 here ≡ Long here
long = refl

far : value_of 1 23 here ≡ Long here
far = refl
