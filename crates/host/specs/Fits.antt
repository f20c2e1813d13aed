-- Whether a parser that a host keeps fits the tables that it is lent with (docs/RULES.md, 'One statement at a time').
use Rattle.std.specs.Prelude.{ℕ, zero, suc, Bool, true, false, not, ◌&&◌, List, eqb, leb, ltb}
use Rattle.token.specs.Kind.{eof_kind}
use Rattle.records.specs.Table.{room, token_width, error_width, node_width, index_width}
use Rattle.parser.specs.Tokens.{kind_at}
use Rattle.host.specs.declared.Parser.{Parser}

-- none of the first n tokens is EOF
unfoldable pub no_eof : List ℕ → ℕ → Bool
no_eof T zero = true
no_eof T (suc k) = not (eqb (kind_at T k) eof_kind) && no_eof T k

-- the last of n tokens is EOF, and the only one
unfoldable pub only_eof : List ℕ → ℕ → Bool
only_eof T zero = false
only_eof T (suc k) = eqb (kind_at T k) eof_kind && no_eof T k

-- the counts and the last statement fit the tables, the token count fits the index too, the cursor is below the token count, and the loop count is not over it
abbrev pub within : List ℕ → List ℕ → List ℕ → List ℕ → Parser → Bool
within T E N X p =
    leb p.tokens (room token_width T) && leb p.errors (room error_width E) && leb p.nodes (room node_width N) && leb p.last (room node_width N)
    && leb p.tokens (room index_width X) && ltb p.current p.tokens && leb p.loops p.tokens

-- a read goes on exactly if this holds: all that, and the last token is the only EOF; else it answers 18
unfoldable pub fits_in : List ℕ → List ℕ → List ℕ → List ℕ → Parser → Bool
fits_in T E N X p = within T E N X p && only_eof T p.tokens
