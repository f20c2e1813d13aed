-- From the text of a reading to the outline of a script. Assumes nothing.
use mathlib.Core.Path.{◌≡◌, refl, sym, ap, ◌∙◌}
use mathlib.Core.List.{List, [], ◌∷◌, ◌++◌}
use Prim.Native.Nat.{ℕ, ◌≤◌, ◌<◌}
use borrow.Author.Tests.{lt-ltb, le-ltb}
use lib.ListN.{length}
use lib.Seq.{length-take-le}
use Rattle.io.specs.Counts.{IsPrefixLen}
use Rattle.records.specs.Table.{token_width, error_width, node_width}
use Rattle.entry.specs.declared.Answer.{Answer}
use Rattle.entry.specs.Reading.{Reading, Answers}
use Rattle.form.specs.Text.{Holds, head_of, lines_of, token_shown, error_shown, node_shown, read_of, text_of, read_within, outline_of}
use Rattle.form.proofs.Laws.{holds_within}

-- what a promise allows is the reading itself
read_is : (d : Reading) (r : Answer) (T E N X : List ℕ) → Answers d r T E N X → read_of r T E N X ≡ d
read_is d r T E N X h = λ i.
    record { outcome = h.outcome_is i; token_count = h.tokens_are i; error_count = h.errors_are i; node_count = h.nodes_are i; first = h.first_is i; looks = h.looks_are i; tokens = h.token_table i; errors = h.error_table_lem i; nodes = h.node_table i; index = h.index_table i }

-- the parts of a reading's text, as they are written one after the other
pub text_is : (r : Answer) (T E N X : List ℕ)
    → head_of (r.outcome ∷ r.tokens ∷ r.errors ∷ r.nodes ∷ r.first ∷ []) ++
    lines_of 116 T token_width token_shown r.tokens ++
    lines_of 101 E error_width error_shown r.errors ++
    lines_of 110 N node_width node_shown r.nodes
    ≡ text_of (read_of r T E N X)
unfolding text_of
text_is r T E N X = refl

-- a script that is too long
pub outline_long : (s : List ℕ) (tokens errors nodes first : ℕ) → 4096 < length s → (tokens ≡ 0) × (errors ≡ 0) × (nodes ≡ 0) × (first ≡ 0)
    → head_of (4 ∷ tokens ∷ errors ∷ nodes ∷ first ∷ []) ≡ outline_of s
unfolding outline_of
outline_long s tokens errors nodes first l z =
    (λ i. head_of (4 ∷ z.0 i ∷ z.1 i ∷ z.2 i ∷ z.3 i ∷ [])) ∙ sym (rw (lt-ltb 4096 (length s) l) refl)

-- any other
pub outline_read : (s : List ℕ) (r : Answer) (T E N X : List ℕ) → length s ≤ 4096 → Answers (read_within s) r T E N X → text_of (read_of r T E N X) ≡ outline_of s
unfolding outline_of
outline_read s r T E N X l a = ap text_of (read_is (read_within s) r T E N X a) ∙ sym (rw (le-ltb 4096 (length s) l) refl)

-- what is held counts bytes of the buffer
pub holds_counts : (t B u : List ℕ) (at : ℕ) → Holds t B u at → IsPrefixLen at u
holds_counts t B u at h = (holds_within t B u at h, sym (length-take-le at u (holds_within t B u at h)))
