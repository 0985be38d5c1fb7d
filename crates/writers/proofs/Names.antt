-- Laws of the hexadecimal text of a name.
use mathlib.Core.Path.{◌≡◌, refl, ap, sym, ◌∙◌}
use mathlib.Core.Bool.{Bool, true, false, cond}
use mathlib.Core.List.{List, [], ◌∷◌, ◌++◌, append_assoc}
use Prim.Native.Nat.{ℕ, suc, ◌+◌, ◌-◌, ◌*◌, ◌≤◌, ◌<◌}
use native.Mathlib.Decide.{dec_lt}
use native.Mathlib.Omega.{arith}
use borrow.Author.Tests.{eq-eqb, ne_eqb, lt-ltb, le-ltb}
use lib.Dec.{eqb, ltb}
use lib.ListN.{length, get_or, take, drop}
use lib.Seq.{take-length, take-suc}
use Rattle.std.proofs.Common.{Some, None}
use Rattle.std.specs.List.{position_or_len}
use Rattle.std.specs.Option.{unwrap_or}
use Rattle.std.proofs.lemmas.List.{take_more}
use Rattle.std.proofs.lemmas.List.Recursion.{is_position_or_len}
use Rattle.writers.specs.Text.{pair, unfilled, hexadecimal}

-- how many bytes stand before the filling: of no bytes, at a zero, and behind another byte, `&name[1..]`
pub unfilled_empty : (bs : List ℕ) → length bs ≡ 0 → 0 ≡ length (unfilled bs)
unfolding unfilled
unfilled_empty [] h = refl
unfilled_empty (b ∷ bs) h = absurd (omega arith)

pub unfilled_ended : (bs : List ℕ) → (length bs ≡ 0 → ⊥) → get_or bs 0 0 ≡ 0 → 0 ≡ length (unfilled bs)
unfolding unfilled
unfilled_ended [] h k = absurd (h refl)
unfilled_ended (b ∷ bs) h k = rw (eq-eqb b 0 k) refl

pub unfilled_more : (bs : List ℕ) → (length bs ≡ 0 → ⊥) → (get_or bs 0 0 ≡ 0 → ⊥)
    → 1 + length (unfilled (take (length bs - 1) (drop 1 bs))) ≡ length (unfilled bs)
unfolding unfilled
unfilled_more [] h k = absurd (h refl)
unfilled_more (b ∷ bs) h k =
    let e : suc (length bs) - 1 ≡ length bs = omega arith in
    rw (ne_eqb b 0 k, e, take-length bs) (omega arith)

pub unfilled_length : (bs : List ℕ) → length (unfilled bs) ≤ length bs
unfolding unfilled
unfilled_length [] = omega arith
unfilled_length (b ∷ bs) =
    elim (dec_lt b 1) [
      | yes none ↦ rw (eq-eqb b 0 (omega arith)) (omega arith)
      | no some ↦ rw (ne_eqb b 0 (λ e. omega arith)) (omega (arith, unfilled_length bs))
    ]

-- the filling begins at the first zero byte, or behind the name
first_zero : (bs : List ℕ) → length (unfilled bs) ≡ position_or_len (λ b. eqb b 0) bs
unfolding unfilled
first_zero = is_position_or_len (λ bs. length (unfilled bs)) (λ b. eqb b 0) refl (λ x xs. by (eqb x 0) x xs)
  where
    by : (t : Bool) (x : ℕ) (xs : List ℕ) → length (cond t [] (x ∷ unfilled xs)) ≡ cond t 0 (1 + length (unfilled xs))
    by true x xs = refl
    by false x xs = omega arith

pub used_is : (bs : List ℕ) (n : ℕ) → n ≡ position_or_len (λ b. eqb b 0) bs → unwrap_or (cond (ltb n (length bs)) (Some n) None) (length bs) ≡ length (unfilled bs)
used_is bs n e =
    let z = first_zero bs in
    elim (dec_lt n (length bs)) [
      | yes some ↦ rw (lt-ltb n (length bs) some) (omega arith)
      | no none ↦ rw (le-ltb n (length bs) (omega arith)) (omega (arith, unfilled_length bs))
    ]

-- these bytes are the name without its filling
pub unfilled_front : (bs : List ℕ) → take (length (unfilled bs)) bs ≡ unfilled bs
unfolding unfilled
unfilled_front [] = refl
unfilled_front (b ∷ bs) =
    elim (dec_lt b 1) [
      | yes none ↦ rw (eq-eqb b 0 (omega arith)) refl
      | no some ↦ rw (ne_eqb b 0 (λ e. omega arith)) (ap (λ (r : List ℕ). b ∷ r) (unfilled_front bs))
    ]

hexadecimal_append : (xs ys : List ℕ) → hexadecimal (xs ++ ys) ≡ hexadecimal xs ++ hexadecimal ys
unfolding hexadecimal
hexadecimal_append [] ys = refl
hexadecimal_append (x ∷ xs) ys = rw (hexadecimal_append xs ys, append_assoc) refl

-- one byte more
pub hexadecimal_more : (bs : List ℕ) (i : ℕ) → i < length bs → hexadecimal (take (i + 1) bs) ≡ hexadecimal (take i bs) ++ pair (get_or bs i 0)
unfolding hexadecimal
hexadecimal_more bs i h = rw (take_more bs i 0 h, hexadecimal_append) refl

-- all bytes but the last, `&bytes[..n - 1]`, and then the last
pub hexadecimal_last : (bs : List ℕ) → (length bs ≡ 0 → ⊥) → hexadecimal (take (length bs - 1) bs) ++ pair (get_or bs (length bs - 1) 0) ≡ hexadecimal bs
unfolding hexadecimal
hexadecimal_last bs h =
    let e : suc (length bs - 1) ≡ length bs = omega arith in
    let t : bs ≡ take (length bs - 1) bs ++ (get_or bs (length bs - 1) 0 ∷ []) = sym (take-length bs) ∙ ap (λ (n : ℕ). take n bs) (sym e) ∙ take-suc bs (length bs - 1) 0 (omega arith) in
    sym (ap hexadecimal t ∙ hexadecimal_append (take (length bs - 1) bs) (get_or bs (length bs - 1) 0 ∷ []))

pub hexadecimal_length : (bs : List ℕ) → length (hexadecimal bs) ≡ 2 * length bs
unfolding hexadecimal
hexadecimal_length [] = refl
hexadecimal_length (b ∷ bs) = omega (arith, hexadecimal_length bs)
