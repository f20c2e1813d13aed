-- Tables of records of w words: lists of words with no header, in which record n starts at word w * n.
use Rattle.std.specs.Prelude.{ℕ, ◌+◌, ◌*◌, ◌-◌, ◌/◌, min, ◌≡◌, Bool, cond, ◌&&◌, List, ◌++◌, leb, ltb, length, get_or, take, drop, set, replicate}

-- a token is eight words
abbrev pub token_width : ℕ
token_width = 8

-- an error is three words
abbrev pub error_width : ℕ
error_width = 3

-- a node is nine words
abbrev pub node_width : ℕ
node_width = 9

-- an index has one word for each token
abbrev pub index_width : ℕ
index_width = 1

-- how many records the table has: a spare tail shorter than a record is never a record, and a reference, index + 1, is one word
abbrev pub room : ℕ → List ℕ → ℕ
room w t = min (length t / w) 4294967295

-- the table with the words ws as record n; unchanged where there is no room for it
unfoldable pub put : ℕ → List ℕ → ℕ → List ℕ → List ℕ
put w t n ws = cond (ltb n (room w t)) (take (w * n) t ++ ws ++ drop (w * n + w) t) t

-- word k of record n; 0 where there is no such record
unfoldable pub field : ℕ → ℕ → List ℕ → ℕ → ℕ
field w k t n = cond (ltb n (room w t)) (get_or t (w * n + k) 0) 0

-- the node table with m as next, the last word, of the node that reference r names; unchanged where r is 0 (nothing) or above the room
unfoldable pub linked : List ℕ → ℕ → ℕ → List ℕ
linked t r m = cond (leb 1 r && leb r (room node_width t)) (set t (node_width * (r - 1) + 8) m) t

-- the table with every word from record n on, a spare tail too, 0
unfoldable pub zeroed : ℕ → List ℕ → ℕ → List ℕ
zeroed w t n = take (w * n) t ++ replicate (length t - w * n) 0

-- what a push of the words ws as record n answers, whether there is room, and the table u that it leaves
pub record Pushed (w : ℕ) (t : List ℕ) (n : ℕ) (ws : List ℕ) (r : Bool) (u : List ℕ) : Type 0 where
  pub answer : r ≡ ltb n (room w t)
  pub table : u ≡ put w t n ws
