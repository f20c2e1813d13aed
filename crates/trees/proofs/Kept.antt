-- The kept nodes of a reading are well-formed trees over the kept tokens before EOF, so that no node refers to a token that is not kept, nor to EOF. Assumes nothing.
use mathlib.Core.Path.{◌≡◌, refl, sym, ap, subst, ◌∙◌}
use mathlib.Core.Bool.{Bool, true, false}
use mathlib.Core.List.{List}
use mathlib.Core.Logic.{inl, ⊎_elim}
use Prim.Native.Nat.{ℕ, suc, ◌+◌, ◌*◌, ◌-◌, ◌/◌, ◌≤◌, ◌<◌}
use native.Mathlib.Omega.{arith}
use native.Mathlib.Nat.{min-le_right}
use lib.ListN.{length, take}
use lib.Seq.{get_or-take, length-take-le}
use Rattle.token.specs.Kind.{eof_kind}
use Rattle.records.specs.Table.{room, field, token_width, error_width, node_width}
use Rattle.records.proofs.Rooms.{room_fits, fits_room, room_length, lt_or_le}
use Rattle.records.proofs.Field.{field_room}
use Rattle.lexer.specs.Lex.{Result, lexed_of}
use Rattle.lexing.proofs.Answer.{tokens_within}
use Rattle.parser.specs.Tokens.{count, kind_at, walked, skip_lines}
use Rattle.parser.specs.Whole.{parsed}
use Rattle.lines.proofs.Agrees.{eof_apart, walked_within}
use Rattle.entry.specs.Ways.{with_outcome}
use Rattle.entry.specs.Entry.{over, nodes_after, entered_after}
use Rattle.entry.specs.Reading.{Reading, refused, reading}
use Rattle.whole.proofs.Sizes.{Well, well, over_agree, over_keeps}
use Rattle.whole.proofs.Rooms.{lexed_rooms}
use Rattle.whole.proofs.Ends.{by_end}
use Rattle.trees.specs.Trees.{shape_of, Spot, Tree}
use Rattle.trees.specs.Kept.{tokens_before, KeptTree}
use Rattle.trees.proofs.TreeRows.{forest_none}
use Rattle.trees.proofs.TreeTyping.{Covers}
use Rattle.trees.proofs.Trees.{Whole, covered_tree}

-- ---- the front of a token table
module _ (t : List ℕ) (e : ℕ) (fits : e ≤ count t) where
  abbrev front : List ℕ
  front = take (token_width * e) t

  front_long : length front ≡ token_width * e
  front_long = length-take-le (token_width * e) t (⊎_elim (λ h. let f = room_fits token_width t (e - 1) (omega arith) in omega arith) (λ h. omega arith) (lt_or_le 0 e))

  -- it has just those tokens
  front_count : count front ≡ e
  front_count =
      let l = front_long in
      let m = min-le_right (length t / token_width) 4294967295 in
      let low : e ≤ count front = ⊎_elim (λ h. let f = fits_room token_width front (count front) (omega arith) (omega arith) (omega arith) in omega arith) (λ h. h) (lt_or_le (count front) e) in
      let high : count front ≤ e = ⊎_elim (λ h. let f = room_fits token_width front e h in omega arith) (λ h. h) (lt_or_le e (count front)) in
      omega arith

  front_kind : (i : ℕ) → i < e → kind_at front i ≡ kind_at t i
  unfolding kind_at
  front_kind i h =
      let c = front_count in
      field_room token_width 0 front i (omega arith) ∙ get_or-take (token_width * e) t (token_width * i + 0) 0 (omega arith) ∙ sym (field_room token_width 0 t i (omega arith))

  -- where the token after them is EOF they are what a reading finds
  module _ (end : kind_at t e ≡ eof_kind) where
    front_some : (i k : ℕ) → i ≤ e → kind_at t i ≡ suc k → kind_at front i ≡ suc k
    front_some i k l s =
        let b : i < e = ⊎_elim (λ h. h) (λ h. let q : e ≡ i = omega arith in let z = ap (kind_at t) q in absurd (omega (arith, z, s, end))) (lt_or_le i e) in
        front_kind i b ∙ s

    front_covers : Covers (walked t) front
    front_covers =
        let c = front_count in
        record {
          here = λ i k l s. front_some i k (omega (arith, l, c)) s;
          past = λ i k l s. front_some (skip_lines (walked t) i) k (walked_within t e (eof_apart t e end) i (omega (arith, l, c))) s;
        }

    -- of a parsing
    pub front_tree : (rule errors : ℕ) (E N : List ℕ) → Whole front (parsed rule (walked t) errors E N)
    front_tree = covered_tree (walked t) front front_covers

-- ---- the reading
-- where nothing is parsed, no node is kept
none_kept : (T N : List ℕ) → Tree T 0 0 N
none_kept T N = record { rows = forest_none T 0 N; statements = inl refl }

-- what a tree refers to
spot_most : (b : Bool) (m t : ℕ) → Spot b m t → t ≤ m
spot_most true m t h = h
spot_most false m t h = omega arith

kept_tree : (r : Reading) → count (tokens_before r) ≡ r.token_count - 1 → Tree (tokens_before r) r.node_count r.first r.nodes → KeptTree r
kept_tree r c t = record {
  before = c;
  tree = t;
  refers = λ j h.
      let f = t.rows.formed j (omega arith) h in
      let s = shape_of (field node_width 0 r.nodes j) in
      record {
        token1 = subst (λ (m : ℕ). field node_width 1 r.nodes j ≤ m) c (spot_most s.token1 (count (tokens_before r)) _ f.token1);
        token2 = subst (λ (m : ℕ). field node_width 2 r.nodes j ≤ m) c (spot_most s.token2 (count (tokens_before r)) _ f.token2);
        token3 = subst (λ (m : ℕ). field node_width 3 r.nodes j ≤ m) c (spot_most s.token3 (count (tokens_before r)) _ f.token3);
      };
}

-- THE KEPT NODES OF ANY READING, by any rule and on any way, into any tables and with any index
pub reading_tree : (rule way : ℕ) (s t e n x : List ℕ) → KeptTree (reading rule way s t e n x)
reading_tree rule way s t e n x =
    by_end rule way s t e n x KeptTree (λ w z. none 11) (λ z f. none 10) (λ z. none l.outcome)
    λ z f.
    let y = w.eof z in
    let q : l.token_count ≡ y.0 + 1 = y.1 in
    let p : l.token_count - 1 ≡ y.0 = omega arith in
    let a = over_agree l.tokens t t y.0 refl (w.tokens_long ∙ ap (λ (k : ℕ). token_width * k) q) y.2 in
    let g : kind_at T (l.token_count - 1) ≡ eof_kind = ap (kind_at T) p ∙ a.end in
    kept_tree _ (front_count T (l.token_count - 1) less) (front_tree T (l.token_count - 1) less g rule l.error_count (over l.errors e) (nodes_after l.outcome n))
  where
    l : Result
    l = lexed_of rule s (room token_width t) (room error_width e)

    w : Well l
    w = well rule s (room token_width t) (room error_width e)

    T : List ℕ
    T = over l.tokens t

    less : l.token_count - 1 ≤ count T
    less =
        let a = (lexed_rooms rule s (room token_width t) (room error_width e)).0 in
        let b = room_length token_width T t (over_keeps l.tokens t (tokens_within rule s t (room error_width e))) in
        omega arith

    none : (o : ℕ) → KeptTree (refused (entered_after (with_outcome o l) t e n x))
    none o = kept_tree _ (front_count T (l.token_count - 1) less) (none_kept _ _)
