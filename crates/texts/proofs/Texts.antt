-- Laws of texts one behind the other.
use mathlib.Core.Path.{◌≡◌, refl, ap, sym}
use mathlib.Core.Bool.{Bool, true, not, ◌&&◌}
use mathlib.Core.List.{List, [], ◌∷◌, ◌++◌}
use Prim.Native.Nat.{ℕ, zero, suc, ◌+◌, ◌<◌}
use native.Mathlib.Decide.{dec_lt}
use native.Mathlib.Omega.{arith}
use borrow.Author.Tests.{eq-eqb, eqb-false, not-true, ne_eqb}
use lib.Dec.{eqb}
use lib.ListN.{length, get_or}
use lib.Seq.{drop-drop, drop_at}
use Rattle.rows.proofs.NotMet.{both}
use Rattle.writers.specs.Text.{unfilled}
use denote.Ref.{Bor}
use Rattle.std.proofs.Common.{Option, Some, None}
use Rattle.std.proofs.lemmas.List.Splits.{length-slice_split}
use Rattle.std.specs.List.{onto_first, slice_get, slice_split}
use Rattle.std.specs.Option.{option_map, unwrap_or}
use Rattle.texts.specs.inner.Texts.{packed, texts_from, text_of}

texts_none : (n : ℕ) → texts_from n [] ≡ []
unfolding texts_from unfilled
texts_none zero = refl
texts_none (suc n) = texts_none n

-- the text of a number is the piece of that number, cut at the zero bytes
abbrev pub zero_byte : ℕ → Bool
zero_byte b = eqb b 0

front_first : (b : ℕ) (ps : List (List ℕ)) → 0 < length ps → unwrap_or (slice_get (onto_first b ps) 0) [] ≡ b ∷ unwrap_or (slice_get ps 0) []
front_first b [] h = absurd (omega arith)
front_first b (p ∷ ps) h = refl

front_next : (b n : ℕ) (ps : List (List ℕ)) → 0 < length ps → slice_get (onto_first b ps) (suc n) ≡ slice_get ps (suc n)
front_next b n [] h = absurd (omega arith)
front_next b n (p ∷ ps) h = refl

pieces : (bs : List ℕ) → 0 < length (slice_split zero_byte bs)
pieces bs = omega (arith, length-slice_split zero_byte bs)

pub piece_is : (bs : List ℕ) (n : ℕ) → unwrap_or (slice_get (slice_split zero_byte bs) n) [] ≡ text_of n bs
unfolding texts_from unfilled
piece_is [] zero = refl
piece_is [] (suc n) = rw (texts_none n) refl
piece_is (b ∷ bs) zero =
    elim (dec_lt b 1) [
      | yes ends ↦ rw (eq-eqb b 0 (omega arith)) refl
      | no goes_on ↦ rw (ne_eqb b 0 (λ e. omega arith), front_first b _ (pieces bs)) (ap (λ (r : List ℕ). b ∷ r) (piece_is bs 0))
    ]
piece_is (b ∷ bs) (suc n) =
    elim (dec_lt b 1) [
      | yes ends ↦ rw (eq-eqb b 0 (omega arith)) (piece_is bs n)
      | no goes_on ↦ let m : suc (length (unfilled bs)) + 1 ≡ suc (length (unfilled bs) + 1) = omega arith in rw (ne_eqb b 0 (λ e. omega arith), front_next b n _ (pieces bs), m) (piece_is bs (suc n))
    ]

-- what a piece or nothing points to
pub pointed : (r : Option (Bor (List ℕ))) (d : Bor (List ℕ)) → (unwrap_or r d).now ≡ unwrap_or (option_map (λ x. x.now) r) d.now
pointed None d = refl
pointed (Some x) d = refl

-- a text without zero bytes is whole before its end
abbrev pub plain : List ℕ → Bool
plain [] = true
plain (b ∷ bs) = not (eqb b 0) && plain bs

unfilled_plain : (bs rest : List ℕ) → plain bs ≡ true → unfilled (bs ++ (0 ∷ rest)) ≡ bs
unfolding unfilled
unfilled_plain [] rest p = refl
unfilled_plain (b ∷ bs) rest p =
    let x = both (not (eqb b 0)) (plain bs) p in
    rw (ne_eqb b 0 (eqb-false _ _ (not-true _ x.0))) (ap (λ (r : List ℕ). b ∷ r) (unfilled_plain bs rest x.1))

abbrev pub all_plain : List (List ℕ) → Bool
all_plain [] = true
all_plain (t ∷ ts) = plain t && all_plain ts

-- the text of a number is the list's
pub text_is : (ts : List (List ℕ)) → all_plain ts ≡ true → (n : ℕ) → text_of n (packed ts) ≡ get_or ts n []
unfolding packed texts_from unfilled
text_is [] p n = rw (texts_none n) refl
text_is (t ∷ ts) p zero = unfilled_plain t (packed ts) (both (plain t) (all_plain ts) p).0
text_is (t ∷ ts) p (suc n) =
    let x = both (plain t) (all_plain ts) p in
    let u = unfilled_plain t (packed ts) x.0 in
    rw (u, sym (drop-drop 1 (length t) (t ++ (0 ∷ packed ts))), drop_at t (0 ∷ packed ts) (length t) refl) (text_is ts x.1 n)
