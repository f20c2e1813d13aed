-- Where the tokens of a reading begin, in the words of the table that it leaves.
use Rattle.std.specs.Prelude.{ℕ, ◌≤◌, ◌<◌, ◌≡◌, List, get_or}
use Rattle.records.specs.declared.TokenData.{TokenData}
use Rattle.records.specs.Table.{field, token_width}
use Rattle.records.specs.Words.{token_words}
use Rattle.lexing.specs.Begins.{Begins}
use Rattle.entry.specs.Reading.{Reading}

-- token i of a reading of s: its words in the table are those of a token that begins where its bytes say
pub record TokenBegins (s : List ℕ) (r : Reading) (i : ℕ) : Type 0 where
  pub token : TokenData
  pub words : (k : ℕ) → k < token_width → field token_width k r.tokens i ≡ get_or (token_words token) k 0
  pub begins : Begins s token

-- every token that is kept is such a one, and none begins on an earlier line than one before it
pub record TokensBegin (s : List ℕ) (r : Reading) : Type 0 where
  pub tokens : (i : ℕ) → i < r.token_count → TokenBegins s r i
  pub never_falls : (i j : ℕ) → i ≤ j → j < r.token_count → field token_width 7 r.tokens i ≤ field token_width 7 r.tokens j
