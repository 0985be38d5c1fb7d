-- Tests on signed numbers, and a figure of every zone held against zero.
use Prim.Native.Nat.{ℕ, zero, suc, ◌<◌, ◌≤◌}
use mir.Syntax.{w64}
use mir.Val.{of_z, SFits}
use mathlib.Core.Path.{◌≡◌, refl, sym, ap, ◌∙◌}
use mathlib.Core.Bool.{Bool, true, false}
use mathlib.Core.Logic.{◌↔◌}
use native.Mathlib.Decide.{ℕ_discrete}
use native.Mathlib.Nat.{suc-ne-zero}
use native.Mathlib.Omega.{arith}
use borrow.Author.Tests.{ne_eqb}
use lib.Dec.{T, eqb, lit<}
use lib.IntN.{ℤ, pos, negsuc, nat_abs}
use lib.ListN.{length}
use lib.Signed.{◌≤ℤ◌, le_z}
use Rattle.std.specs.Bool.{IsTrue}
use Rattle.records.specs.Content.{Content}
use Rattle.figures.specs.Balance.{zone_load, zone_generation, none_below_zero}
use Rattle.generation_to_load.specs.declared.LoadServed.{LoadServed}
use Rattle.generation_to_load.specs.declared.GenerationServing.{GenerationServing}
use Rattle.generation_to_load.specs.Steps.{loads_of, generation_of}
use Rattle.integers.specs.Sum.{all_to}
use Rattle.integers.proofs.Machine.{abs_fits, bits_eq, le_true}
use Rattle.integers.proofs.Sums.{all_same, all_at}
use Rattle.zone_sums.specs.ByZone.{cells}
use Rattle.zone_sums.specs.inner.Ledger.{figure_at}
use Rattle.zone_sums.proofs.Cells.{cell_at}

at_least : {x y : ℤ} → x ≤ℤ y → le_z x y ≡ true
at_least {x} {y} h = by (le_z x y) h.le
  where
    by : (b : Bool) → T b → b ≡ true
    by true t = refl
    by false t = absurd t

each_true : (p : ℕ → Bool) (n : ℕ) → ((i : ℕ) → i < n → p i ≡ true) → all_to p n ≡ true
unfolding all_to
each_true p zero h = refl
each_true p (suc n) h = rw (each_true p n (λ i l. h i (omega arith)), h n (omega arith))

-- a test that no number is below zero is the definition's
none_below_is : (b : Bool) (f : ℕ → ℤ) (n : ℕ) → (IsTrue b ↔ ((z : ℕ) → z < n → pos 0 ≤ℤ f z)) → b ≡ all_to (λ z. le_z (pos 0) (f z)) n
none_below_is true f n h = sym (each_true _ n (λ z l. at_least (h.0 refl z l)))
none_below_is false f n h = by (all_to (λ z. le_z (pos 0) (f z)) n) refl
  where
    by : (a : Bool) → all_to (λ z. le_z (pos 0) (f z)) n ≡ a → false ≡ a
    by true e = h.1 (λ z l. le_true (pos 0) (f z) (all_at (λ z. le_z (pos 0) (f z)) n z e l))
    by false e = refl

-- what the cells say of zero, the figures say
pub none_below : (f : ℕ → ℤ) (n : ℕ) → n ≤ 32 → all_to (λ z. le_z (pos 0) (figure_at (cells f n) z)) n ≡ all_to (λ z. le_z (pos 0) (f z)) n
none_below f n h = all_same _ _ n (λ z l. ap (le_z (pos 0)) (cell_at f n z h l))

none_below_in : (b : Bool) (f : ℕ → ℤ) (n : ℕ) → n ≤ 32 → (IsTrue b ↔ ((z : ℕ) → z < n → pos 0 ≤ℤ figure_at (cells f n) z)) → b ≡ all_to (λ z. le_z (pos 0) (f z)) n
none_below_in b f n few h = none_below_is b (figure_at (cells f n)) n h ∙ none_below f n few

-- and those of the loads and of the generation what rows 17 and 19 ask
pub loads_judged : (c : Content) (load : LoadServed) (zones : ℕ) → zones ≤ 32 → load ≡ loads_of c → zones ≡ length c.zones → (b : Bool) →
    (IsTrue b ↔ ((z : ℕ) → z < zones → pos 0 ≤ℤ figure_at load.zone_loads z)) → b ≡ none_below_zero c (zone_load c)
unfolding none_below_zero
loads_judged c load zones few el ez b h =
    none_below_in b (zone_load c) (length c.zones) (rw ez at few) (rw (el, ez) at h)

pub generation_judged : (c : Content) (generation : GenerationServing) (zones : ℕ) → zones ≤ 32 → generation ≡ generation_of c → zones ≡ length c.zones → (b : Bool) →
    (IsTrue b ↔ ((z : ℕ) → z < zones → pos 0 ≤ℤ figure_at generation.zone_generation z)) → b ≡ none_below_zero c (zone_generation c)
unfolding none_below_zero
generation_judged c generation zones few eg ez b h =
    none_below_in b (zone_generation c) (length c.zones) (rw ez at few) (rw (eg, ez) at h)

-- the test z == 0, which compares the bits
size_zero : (z : ℤ) → nat_abs z ≡ 0 → z ≡ pos 0
size_zero (pos n) e = ap pos e
size_zero (negsuc n) e = absurd (suc-ne-zero n e)

pub zero_bits : (z : ℤ) → SFits w64 z → eqb (of_z w64 z) 0 ≡ eqb (nat_abs z) 0
zero_bits z f = by (ℕ_discrete (of_z w64 z) 0)
  where
    by : Dec (of_z w64 z ≡ 0) → eqb (of_z w64 z) 0 ≡ eqb (nat_abs z) 0
    by (yes e) = rw (bits_eq {x = z} {y = pos 0} f (abs_fits (pos 0) (lit< tt)) e)
    by (no n) = rw (ne_eqb (of_z w64 z) 0 n, ne_eqb (nat_abs z) 0 (λ e. n (ap (of_z w64) (size_zero z e))))
