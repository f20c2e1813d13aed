-- What is no number has one pattern of bits. Assumes nothing.
use mathlib.Core.Path.{◌≡◌, refl}
use mathlib.Core.Bool.{true, true≢false}
use lib.Ieee.{Float, nan, inf, fin, binary64, is_nan, to_bits}

pub no_number : (x : Float) → true ≡ is_nan x → to_bits binary64 x ≡ 0x7ff8_0000_0000_0000
unfolding is_nan to_bits
no_number nan h = refl
no_number (inf s) h = absurd (true≢false h)
no_number (fin s m e) h = absurd (true≢false h)
