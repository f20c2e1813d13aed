-- The premise as it is computed and the premise clause by clause are the same. Assumes nothing.
use mathlib.Core.Path.{◌≡◌, subst}
use mathlib.Core.Bool.{◌&&◌}
use mathlib.Core.List.{List}
use Prim.Native.Nat.{ℕ}
use lib.Dec.{T, leb, eqb, leb→le, le→leb, eqb→eq, eqb_refl}
use lib.ListN.{length}
use lib.Ieee.Fits.{and_l, and_r, and_i}
use Rattle.text.specs.Text.{is_text}
use Rattle.blackout.specs.Blackout.{alike, blackout, Blackout}

-- what the computed premise says
pub decided : (rule : ℕ) (s r : List ℕ) → T (blackout rule s r) → Blackout rule s r
unfolding blackout
decided rule s r h =
    let a = leb (length s) 65535 in
    let b = eqb (length s) (length r) in
    let f : T (b && (is_text s && (is_text r && alike rule s r))) = and_r a _ h in
    let g : T (is_text s && (is_text r && alike rule s r)) = and_r b _ f in
    let i : T (is_text r && alike rule s r) = and_r (is_text s) _ g in
    record {
      within = leb→le (length s) 65535 (and_l a _ h);
      equal_length = eqb→eq (length s) (length r) (and_l b _ f);
      first_text = and_l (is_text s) _ g;
      second_text = and_l (is_text r) _ i;
      differs_only = and_r (is_text r) _ i;
    }

-- and where each clause holds it says so
pub computed : (rule : ℕ) (s r : List ℕ) → Blackout rule s r → T (blackout rule s r)
unfolding blackout
computed rule s r h =
    and_i (leb (length s) 65535) _ (le→leb (length s) 65535 h.within)
    (and_i (eqb (length s) (length r)) _ (subst (λ (n : ℕ). T (eqb (length s) n)) h.equal_length (eqb_refl (length s)))
    (and_i (is_text s) _ h.first_text (and_i (is_text r) _ h.second_text h.differs_only)))
