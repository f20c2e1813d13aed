-- Room enough for every source of n bytes, by any rule and on any way: with so much no reading of one ends with 5, 6, 7 or 10.
use Rattle.std.specs.Prelude.{ℕ, ◌+◌, ◌*◌}

-- a token has a byte at least, but for the added Newline and EOF
abbrev pub tokens_for : ℕ → ℕ
tokens_for n = n + 2

-- an error of lexing is about a byte that no token has; parsing records two at the most for each byte of a token, two for the added Newline, and one that ends the reading
abbrev pub errors_for : ℕ → ℕ
errors_for n = 2 * n + 3

-- two at the most for each token but EOF
abbrev pub nodes_for : ℕ → ℕ
nodes_for n = 2 * n + 2

-- a word of the index for each token
abbrev pub index_for : ℕ → ℕ
index_for n = tokens_for n
