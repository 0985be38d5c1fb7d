-- A figure of every zone in 32 cells: what stands in each.
use Prim.Native.Nat.{ℕ, zero, suc, ◌+◌, ◌<◌, ◌≤◌}
use native.Mathlib.Decide.{ℕ_discrete}
use native.Mathlib.Numerals.{add-one}
use native.Mathlib.Omega.{arith}
use mathlib.Core.Path.{◌≡◌, refl, ap₂, ◌∙◌}
use mathlib.Core.Bool.{Bool, true, false}
use mathlib.Core.List.{List}
use borrow.Author.Tests.{ltb-true, ltb-false}
use lib.Dec.{ltb}
use lib.IntN.{ℤ, pos, nat_abs}
use lib.ListN.{length, get_or, set, replicate, length-set}
use lib.Seq.{get_or-set_same, get_or-set_other}
use Rattle.zone_sums.specs.ByZone.{cells}
use Rattle.zone_sums.specs.inner.Ledger.{Held, figure_at}

zero_cells : (n z : ℕ) → get_or (replicate n (pos 0)) z (pos 0) ≡ pos 0
zero_cells zero z = refl
zero_cells (suc n) zero = refl
zero_cells (suc n) (suc z) = zero_cells n z

pub cells_zero : (f : ℕ → ℤ) → replicate 32 (pos 0) ≡ cells f 0
unfolding cells
cells_zero f = refl

pub cells_next : (f : ℕ → ℤ) (n : ℕ) → set (cells f n) n (f n) ≡ cells f (n + 1)
unfolding cells
cells_next f n = rw add-one

pub cells_length : (f : ℕ → ℤ) (n : ℕ) → length (cells f n) ≡ 32
unfolding cells
cells_length f zero = refl
cells_length f (suc n) = length-set (cells f n) n (f n) ∙ cells_length f n

-- a zone's cell has its figure
pub cell_at : (f : ℕ → ℤ) (n z : ℕ) → n ≤ 32 → z < n → figure_at (cells f n) z ≡ f z
unfolding cells figure_at
cell_at f zero z m l = absurd (omega arith)
cell_at f (suc n) z m l = by (ℕ_discrete z n) (cell_at f n z (omega arith))
  where
    by : Dec (z ≡ n) → (z < n → get_or (cells f n) z (pos 0) ≡ f z) → get_or (set (cells f n) n (f n)) z (pos 0) ≡ f z
    by (yes q) h = rw q (get_or-set_same (cells f n) n (f n) (pos 0) (omega (arith, cells_length f n)))
    by (no q) h = get_or-set_other (cells f n) n z (f n) (pos 0) q ∙ h (omega arith)

-- those behind the zones' are zero
cell_behind : (f : ℕ → ℤ) (n z : ℕ) → n ≤ z → figure_at (cells f n) z ≡ pos 0
unfolding cells figure_at
cell_behind f zero z l = zero_cells 32 z
cell_behind f (suc n) z l = get_or-set_other (cells f n) n z (f n) (pos 0) (λ q. omega arith) ∙ cell_behind f n z (omega arith)

pub cells_same : (f g : ℕ → ℤ) (n : ℕ) → ((z : ℕ) → z < n → f z ≡ g z) → cells f n ≡ cells g n
unfolding cells
cells_same f g zero h = refl
cells_same f g (suc n) h = ap₂ (λ (xs : List ℤ) (x : ℤ). set xs n x) (cells_same f g n (λ z l. h z (omega arith))) (h n (omega arith))

pub cells_held : (f : ℕ → ℤ) (n : ℕ) → n ≤ 32 → ((z : ℕ) → z < n → nat_abs (f z) ≤ 2048000000) → Held (cells f n)
cells_held f n m h = record { most = λ z l. by z (ltb z n) refl }
  where
    by : (z : ℕ) (b : Bool) → ltb z n ≡ b → nat_abs (figure_at (cells f n) z) ≤ 2048000000
    by z true e = let k = ltb-true z n e in rw (cell_at f n z m k) (h z k)
    by z false e = rw (cell_behind f n z (ltb-false z n e)) (omega arith)
