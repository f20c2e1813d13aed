-- Rule 3 of docs/RULES.md, 'Lexing': names among the 22 in `keywords` take that kind, every other name is an Identifier.
use Rattle.std.specs.Prelude.{ℕ, ◌-◌, Bool, true, false, ◌&&◌, cond, List, [], ◌∷◌, eqb, take, drop}
use Rattle.token.specs.Kind as kinds

-- the bytes of s from a up to e, as far as s has them
abbrev pub part : ℕ → ℕ → List ℕ → List ℕ
part a e s = take (e - a) (drop a s)

-- whether two byte strings are the same
abbrev pub same : List ℕ → List ℕ → Bool
same [] [] = true
same [] (y ∷ ys) = false
same (x ∷ xs) [] = false
same (x ∷ xs) (y ∷ ys) = eqb x y && same xs ys

-- a row of `keywords` in lexer.rs: a word's bytes, and its kind
pub record Entry : Type 0 where
  pub word : List ℕ
  pub kind : ℕ

-- the kind of the first row whose word is w; Identifier where there is none
abbrev pub lookup : List ℕ → List Entry → ℕ
lookup w [] = kinds.identifier_kind
lookup w (k ∷ ks) = cond (same w k.word) k.kind (lookup w ks)

-- the 22 rows, in the order of lexer.rs
abbrev pub table : List Entry
table =
    record { word = 97 ∷ 110 ∷ 100 ∷ []; kind = kinds.and_kind } ∷  -- and
    record { word = 99 ∷ 108 ∷ 97 ∷ 115 ∷ 115 ∷ []; kind = kinds.class_kind } ∷  -- class
    record { word = 101 ∷ 108 ∷ 115 ∷ 101 ∷ []; kind = kinds.else_kind } ∷  -- else
    record { word = 102 ∷ 97 ∷ 108 ∷ 115 ∷ 101 ∷ []; kind = kinds.false_kind } ∷  -- false
    record { word = 102 ∷ 110 ∷ []; kind = kinds.fn_kind } ∷  -- fn
    record { word = 102 ∷ 111 ∷ 114 ∷ []; kind = kinds.for_kind } ∷  -- for
    record { word = 105 ∷ 102 ∷ []; kind = kinds.if_kind } ∷  -- if
    record { word = 101 ∷ 108 ∷ 105 ∷ 102 ∷ []; kind = kinds.elif_kind } ∷  -- elif
    record { word = 110 ∷ 105 ∷ 108 ∷ []; kind = kinds.nil_kind } ∷  -- nil
    record { word = 111 ∷ 114 ∷ []; kind = kinds.or_kind } ∷  -- or
    record { word = 114 ∷ 101 ∷ 116 ∷ 117 ∷ 114 ∷ 110 ∷ []; kind = kinds.return_kind } ∷  -- return
    record { word = 98 ∷ 114 ∷ 101 ∷ 97 ∷ 107 ∷ []; kind = kinds.break_kind } ∷  -- break
    record { word = 99 ∷ 111 ∷ 110 ∷ 116 ∷ 105 ∷ 110 ∷ 117 ∷ 101 ∷ []; kind = kinds.continue_kind } ∷  -- continue
    record { word = 115 ∷ 117 ∷ 112 ∷ 101 ∷ 114 ∷ []; kind = kinds.super_kind } ∷  -- super
    record { word = 116 ∷ 104 ∷ 105 ∷ 115 ∷ []; kind = kinds.this_kind } ∷  -- this
    record { word = 116 ∷ 114 ∷ 117 ∷ 101 ∷ []; kind = kinds.true_kind } ∷  -- true
    record { word = 108 ∷ 101 ∷ 116 ∷ []; kind = kinds.let_kind } ∷  -- let
    record { word = 119 ∷ 104 ∷ 105 ∷ 108 ∷ 101 ∷ []; kind = kinds.while_kind } ∷  -- while
    record { word = 110 ∷ 111 ∷ 116 ∷ []; kind = kinds.not_kind } ∷  -- not
    record { word = 105 ∷ 110 ∷ []; kind = kinds.in_kind } ∷  -- in
    record { word = 116 ∷ 114 ∷ 121 ∷ []; kind = kinds.try_kind } ∷  -- try
    record { word = 99 ∷ 97 ∷ 116 ∷ 99 ∷ 104 ∷ []; kind = kinds.catch_kind } ∷  -- catch
    []

-- the kind of a name
unfoldable pub keyword_of : List ℕ → ℕ
keyword_of w = lookup w table
