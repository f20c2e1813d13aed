-- The words of a record, in the order in which they stand in the table (docs/RULES.md, 'Records').
use Rattle.std.specs.Prelude.{ℕ, List, [], ◌∷◌}
use Rattle.records.specs.declared.TokenData.{TokenData}
use Rattle.records.specs.declared.InterpreterError.{InterpreterError}
use Rattle.records.specs.declared.Node.{Node}

-- a token: kind, start, length, line, value sort, two value words, the line where it begins
abbrev pub token_words : TokenData → List ℕ
token_words t = t.kind ∷ t.start ∷ t.length ∷ t.line ∷ t.sort ∷ t.low ∷ t.high ∷ t.begins ∷ []

-- an error: message, line, pos
abbrev pub error_words : InterpreterError → List ℕ
error_words e = e.message ∷ e.line ∷ e.pos ∷ []

-- a node: kind, three tokens, four children, next
abbrev pub node_words : Node → List ℕ
node_words d = d.kind ∷ d.token1 ∷ d.token2 ∷ d.token3 ∷ d.child1 ∷ d.child2 ∷ d.child3 ∷ d.child4 ∷ d.next ∷ []
