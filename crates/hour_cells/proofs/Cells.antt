-- The cells of an hour: their range, and what they come to at most.
use Prim.Native.Nat.{ℕ, ◌+◌, ◌<◌, ◌≤◌}
use native.Mathlib.Numerals.{add-one}
use native.Mathlib.Omega.{arith}
use mathlib.Core.Path.{◌≡◌, refl}
use mathlib.Core.Bool.{Bool, true, false, cond}
use mathlib.Core.List.{List}
use borrow.Author.Tests.{ltb-true, ltb-false, le-ltb}
use lib.Dec.{ltb}
use lib.IntN.{ℤ, pos, negsuc, nat_abs}
use lib.ListN.{length, take, get_or, length-take}
use lib.Seq.{get_or-take}
use lib.Signed.{lt_z}
use Rattle.std.specs.Int.{int_min, int_max}
use Rattle.integers.proofs.Sums.{sum_abs}
use Rattle.hour_cells.specs.Cells.{held, seconds_to, cell, cell_at, amount_of}

pub held_most : (count : ℕ) → held count ≤ 60
unfolding held
held_most count = by (ltb count 60) (λ e. ltb-true count 60 e)
  where
    by : (b : Bool) → (b ≡ true → count < 60) → cond b count 60 ≤ 60
    by true l = let k = l refl in omega arith
    by false l = omega arith

pub held_all : (count : ℕ) → count ≤ 60 → held count ≡ count
unfolding held
held_all count l = by (ltb count 60) (λ e. ltb-false count 60 e)
  where
    by : (b : Bool) → (b ≡ false → 60 ≤ count) → cond b count 60 ≡ count
    by true f = refl
    by false f = let k = f refl in omega arith

-- the cells that count are the first of all
pub cell_here : {A : Type 0} (cells : List A) (n i : ℕ) (d : A) → i < length (take n cells) → get_or (take n cells) i d ≡ get_or cells i d
cell_here {A} cells n i d h = get_or-take n cells i d (omega (arith, length-take {A = A} n cells))

-- ---- seconds
pub seconds_zero : (seconds : List ℕ) → seconds_to seconds 0 ≡ 0
unfolding seconds_to
seconds_zero seconds = refl

pub seconds_next : (seconds : List ℕ) (n : ℕ) → seconds_to seconds (n + 1) ≡ seconds_to seconds n + get_or seconds n 0
unfolding seconds_to
seconds_next seconds n = rw add-one

-- ---- amounts
cell_within : (x : ℤ) → nat_abs (cell x) ≤ 2000000000000
unfolding cell
cell_within x = by (lt_z x (negsuc 1999999999999)) (lt_z (pos 2000000000000) x) refl refl
  where
    mid : (y : ℤ) → lt_z y (negsuc 1999999999999) ≡ false → lt_z (pos 2000000000000) y ≡ false → nat_abs y ≤ 2000000000000
    mid (pos n) a b = let k : n ≤ 2000000000000 = ltb-false 2000000000000 n b in omega arith
    mid (negsuc n) a b = let k : n ≤ 1999999999999 = ltb-false 1999999999999 n a in omega arith

    by : (a b : Bool) → lt_z x (negsuc 1999999999999) ≡ a → lt_z (pos 2000000000000) x ≡ b →
        nat_abs (cond a (negsuc 1999999999999) (cond b (pos 2000000000000) x)) ≤ 2000000000000
    by true b p q = omega arith
    by false true p q = omega arith
    by false false p q = mid x p q

pub cell_at_within : (amounts : List ℤ) (i : ℕ) → nat_abs (cell_at amounts i) ≤ 2000000000000
unfolding cell_at
cell_at_within amounts i = cell_within (get_or amounts i (pos 0))

-- an interval's amount is its cell's
pub cell_is : (x : ℤ) → nat_abs x ≤ 2000000000000 → cell x ≡ x
unfolding cell
cell_is (pos n) h = rw (le-ltb 2000000000000 n h)
cell_is (negsuc n) h = rw (le-ltb 1999999999999 n (omega arith))

pub amount_within : (amounts : List ℤ) (count : ℕ) → nat_abs (amount_of amounts count) ≤ 120000000000000
unfolding amount_of
amount_within amounts count =
    omega (arith, sum_abs (cell_at amounts) 2000000000000 (held count) (λ i l. cell_at_within amounts i), held_most count)

pub clamped : (x : ℤ) → int_max (negsuc 1999999999999) (int_min x (pos 2000000000000)) ≡ cell x
unfolding cell
clamped (pos n) = by (ltb 2000000000000 n)
  where
    by : (b : Bool) → int_max (negsuc 1999999999999) (cond b (pos 2000000000000) (pos n)) ≡ cond b (pos 2000000000000) (pos n)
    by true = refl
    by false = refl
clamped (negsuc n) = refl
