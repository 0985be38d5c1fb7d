-- No byte is an escape: up to 16 bytes of 1..255, whichever they are, with their filling, are a name.
use Prim.Native.Nat.{ℕ, zero, suc}
use mathlib.Core.Path.{◌≡◌, refl, sym}
use mathlib.Core.List.{List, [], ◌∷◌, ◌++◌}
use mathlib.Core.Bool.{Bool, true, false, not, ◌&&◌, cond, true≢false}
use lib.ListN.{replicate}
use lib.Dec.{eqb}
use Rattle.names.specs.Names.{zeros, filled, name_ok}
use Rattle.names.specs.inner.Words.{non_zero}

zeros_filling : (n : ℕ) → zeros (replicate n 0) ≡ true
unfolding zeros
zeros_filling zero = refl
zeros_filling (suc n) = zeros_filling n

filled_filling : (n : ℕ) → filled (replicate n 0) ≡ true
unfolding filled
filled_filling zero = refl
filled_filling (suc n) = zeros_filling n

any_filled : (x : List ℕ) (n : ℕ) → non_zero x ≡ true → filled (x ++ replicate n 0) ≡ true
unfolding filled non_zero
any_filled [] n e = filled_filling n
any_filled (b ∷ x) n e = go (eqb b 0) e (any_filled x n)
  where
    go : (w : Bool) → (not w && (non_zero x)) ≡ true → (non_zero x ≡ true → filled (x ++ replicate n 0) ≡ true) → (cond w (zeros (x ++ replicate n 0)) (filled (x ++ replicate n 0))) ≡ true
    go true q f = absurd (true≢false (sym q))
    go false q f = f q

pub any_name : (b : ℕ) (x : List ℕ) (n : ℕ) → non_zero (b ∷ x) ≡ true → name_ok ((b ∷ x) ++ replicate n 0) ≡ true
unfolding name_ok non_zero
any_name b x n e = go (eqb b 0) e
  where
    go : (w : Bool) → (not w && (non_zero x)) ≡ true → (not w && (filled (x ++ replicate n 0))) ≡ true
    go true q = absurd (true≢false (sym q))
    go false q = any_filled x n q
