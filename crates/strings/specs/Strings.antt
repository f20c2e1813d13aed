-- Strings (docs/RULES.md, 'Strings'): lexing's rule 5, from the byte after the opening quote, and the bytes that a string stands for.
use Rattle.std.specs.Prelude.{ℕ, ◌+◌, ◌≤◌, ◌≡◌, Bool, true, false, not, cond, if◌then◌else◌, Option, Some, None, Result, Ok, Err, List, [], ◌∷◌, eqb, ◌<◌, length, drop}
use Rattle.std.specs.declared.ops.ControlFlow.{ControlFlow}
use Rattle.std.specs.declared.ops.ControlFlow.TheVariants.{Continue, Break}
use Rattle.strings.specs.declared.Reading.{Reading}
use Rattle.strings.specs.declared.Closed.{Closed}
use Rattle.strings.specs.declared.Broken.{Broken}

-- what a string comes to
abbrev pub Ended : Type 0
Ended = Result Closed Broken

-- what a byte makes of the reading: it goes on, or the string has ended
abbrev pub Step : Type 0
Step = ControlFlow Ended Reading

-- a string that closes: the bytes passed with the closing quote, the newlines that raise the line, the decoded length
abbrev pub closed : ℕ → ℕ → ℕ → Ended
closed n m l = Ok (record { size = n; lines = m; length = l })

-- a string that doesn't: the bytes passed and the newlines
abbrev pub broken : ℕ → ℕ → Ended
broken n m = Err (record { size = n; lines = m })

-- what the byte after a backslash stands for: n, r, t, a backslash, a quote; 0 for any other byte
abbrev pub unescaped : ℕ → ℕ
unescaped b = cond (eqb b 110) 10 (cond (eqb b 114) 13 (cond (eqb b 116) 9 (cond (eqb b 92) 92 (cond (eqb b 34) 34 0))))

-- the bytes that may follow a backslash
abbrev pub is_escape : ℕ → Bool
is_escape b = not (eqb (unescaped b) 0)

-- the same, if it is one
abbrev pub escape_of : ℕ → Option ℕ
escape_of b = (if is_escape b then Some (unescaped b) else None)

-- the first step where the test holds, else the second
abbrev pub pick_step : Bool → Step → Step → Step
pick_step true a b = a
pick_step false a b = b

-- the byte b, with n bytes, l decoded bytes and m newlines passed: after a backslash an escape, or broken, and a newline there doesn't raise the line; else a quote closes, a backslash waits, a newline raises the line
abbrev pub step_of : Bool → ℕ → ℕ → ℕ → ℕ → Step
step_of true n l m b =
    pick_step (is_escape b) (Continue (record { escaped = false; at = n + 1; length = l + 1; lines = m })) (Break (broken (n + 1) m))
step_of false n l m b =
    pick_step (eqb b 34) (Break (closed (n + 1) m l))
    (pick_step (eqb b 92) (Continue (record { escaped = true; at = n + 1; length = l; lines = m }))
    (pick_step (eqb b 10) (Continue (record { escaped = false; at = n + 1; length = l + 1; lines = m + 1 }))
    (Continue (record { escaped = false; at = n + 1; length = l + 1; lines = m }))))

-- a step that goes on passes one byte, and adds at most one to the decoded length and to the newlines
abbrev pub Grown : Reading → Step → Type 0
Grown t (Continue u) = (u.at ≡ t.at + 1) × (u.length ≤ t.length + 1) × (u.lines ≤ t.lines + 1)
Grown t (Break r) = Unit

-- the reading goes on from the step's state, or the step has stopped it
abbrev pub and_then : Step → (Reading → Ended) → Ended
and_then (Continue u) k = k u
and_then (Break r) k = r

-- rule 5 over the bytes that are left; at the end the string is broken
abbrev pub read_of : List ℕ → Reading → Ended
read_of [] t = broken t.at t.lines
read_of (b ∷ s) t = and_then (step_of t.escaped t.at t.length t.lines b) (read_of s)

-- after the opening quote nothing is passed yet
abbrev pub begun : Reading
begun = record { escaped = false; at = 0; length = 0; lines = 0 }

-- nothing from the closing quote on
abbrev pub unless_closed : Bool → List ℕ → List ℕ
unless_closed true w = []
unless_closed false w = w

-- a backslash gives no byte by itself, any other byte stands for itself
abbrev pub plain : Bool → ℕ → List ℕ → List ℕ
plain true b w = w
plain false b w = b ∷ w

-- the decoded bytes up to the closing quote; the Bool says that a backslash stands before
abbrev pub decoded_from : List ℕ → Bool → List ℕ
decoded_from [] e = []
decoded_from (b ∷ s) true = unescaped b ∷ decoded_from s false
decoded_from (b ∷ s) false = unless_closed (eqb b 34) (plain (eqb b 92) b (decoded_from s (eqb b 92)))

-- The rest is for the clauses of the code's private functions, and no part of rule 5.

-- neither the decoded bytes nor the newlines are more than the bytes passed
abbrev pub Counted : Reading → Type 0
Counted t = (t.length ≤ t.at) × (t.lines ≤ t.at)

-- over the bytes s: the reading goes on from a later state, from which it comes to the same, or it has ended, and this is what it comes to
abbrev pub Passed : List ℕ → Reading → Step → Type 0
Passed s t (Continue u) = (t.at < u.at) × (u.at ≤ length s) × Counted u × (read_of (drop t.at s) t ≡ read_of (drop u.at s) u)
Passed s t (Break r) = read_of (drop t.at s) t ≡ r
