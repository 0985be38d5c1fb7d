-- What is known of loads and generation where none of refusals 16 to 21 is met.
use Prim.Native.Nat.{ℕ, zero, suc, ◌<◌}
use native.Mathlib.Omega.{arith}
use mathlib.Core.Path.{◌≡◌, refl}
use mathlib.Core.Bool.{Bool, true, false, not, cond, ◌||◌}
use borrow.Author.Tests.{not-false}
use lib.Dec.{eqb}
use lib.IntN.{ℤ, pos, negsuc, nat_abs, ◌-ℤ◌}
use lib.ListN.{length}
use lib.Signed.{◌≤ℤ◌, ◌<ℤ◌, le_z, lt_z}
use Rattle.integers.proofs.Linear.{zarith}
use Rattle.integers.proofs.Tactic.{zi, zo}
use Rattle.integers.proofs.Machine.{lt_false, le_true, le_false}
use Rattle.integers.proofs.Sums.{sum_least, all_at}
use Rattle.rows.proofs.NotMet.{neither, row_pass}
use Rattle.records.specs.declared.Place.{Place}
use Rattle.records.specs.declared.Place.TheVariants.{Proxy}
use Rattle.records.specs.Content.{Content, point}
use Rattle.figures.specs.Balance.{same_place, import_at, imports, export_at, exports, zone_load, net_load, final_load, zone_generation, net_generation, final_generation, gross_load, gross_output, none_below_zero, balance_row}
use Rattle.figures.proofs.Numbers.{natural_least, above_suc, less_left}

-- the rows one by one
pub record NoneMet (c : Content) : Type 0 where
  pub row_16 : (lt_z (pos 2000000) (gross_load c) || lt_z (pos 2000000) (gross_output c)) ≡ false
  pub row_17 : not (none_below_zero c (zone_load c)) ≡ false
  pub row_18 : le_z (final_load c) (pos 0) ≡ false
  pub row_19 : not (none_below_zero c (zone_generation c)) ≡ false
  pub row_20 : eqb (nat_abs (net_generation c)) 0 ≡ false
  pub row_21 : lt_z (final_generation c) (pos 0) ≡ false

none_met : (c : Content) → balance_row c ≡ 0 → NoneMet c
unfolding balance_row
none_met c e =
    let a = row_pass 15 (lt_z (pos 2000000) (gross_load c) || lt_z (pos 2000000) (gross_output c)) _ e in
    let b = row_pass 16 (not (none_below_zero c (zone_load c))) _ a.1 in
    let d = row_pass 17 (le_z (final_load c) (pos 0)) _ b.1 in
    let f = row_pass 18 (not (none_below_zero c (zone_generation c))) _ d.1 in
    let g = row_pass 19 (eqb (nat_abs (net_generation c)) 0) _ f.1 in
    let h = row_pass 20 (lt_z (final_generation c) (pos 0)) _ g.1 in
    record { row_16 = a.0; row_17 = b.0; row_18 = d.0; row_19 = f.0; row_20 = g.0; row_21 = h.0 }

-- a net figure and what is taken off it at the proxies
more_left : (n x : ℤ) → pos 0 ≤ℤ x → pos 0 <ℤ (n -ℤ x) → pos 0 <ℤ n
more_left n x = simp zi (simp zo (omega zarith))

or_zero_least : (b : Bool) (x : ℕ) → pos 0 ≤ℤ cond b (pos x) (pos 0)
or_zero_least true x = natural_least x
or_zero_least false x = record { le = tt }

pub imports_least : (c : Content) (place : Place) → pos 0 ≤ℤ imports c place
unfolding imports import_at
imports_least c place = sum_least (import_at c place) (length c.points) (λ i l. or_zero_least (same_place (point c i).place place) (point c i).import)

pub exports_least : (c : Content) (place : Place) → pos 0 ≤ℤ exports c place
unfolding exports export_at
exports_least c place = sum_least (export_at c place) (length c.points) (λ i l. or_zero_least (same_place (point c i).place place) (point c i).export)

not_zero : (x : ℤ) → eqb (nat_abs x) 0 ≡ false → pos 0 ≤ℤ x → pos 0 <ℤ x
not_zero (pos zero) e h = let z : ◌≡◌ {A = ℕ} 0 1 = cc in absurd (omega arith)
not_zero (pos (suc n)) e h = above_suc n
not_zero (negsuc n) e h = absurd h.le

module _ (c : Content) (e : balance_row c ≡ 0) where
  pub gross_load_most : gross_load c ≤ℤ pos 2000000
  gross_load_most = lt_false _ _ (neither (lt_z (pos 2000000) (gross_load c)) (lt_z (pos 2000000) (gross_output c)) (none_met c e).row_16).0

  pub gross_output_most : gross_output c ≤ℤ pos 2000000
  gross_output_most = lt_false _ _ (neither (lt_z (pos 2000000) (gross_load c)) (lt_z (pos 2000000) (gross_output c)) (none_met c e).row_16).1

  pub zone_load_least : (z : ℕ) → z < length c.zones → pos 0 ≤ℤ zone_load c z
  unfolding none_below_zero
  zone_load_least z l = le_true _ _ (all_at (λ i. le_z (pos 0) (zone_load c i)) (length c.zones) z (not-false _ (none_met c e).row_17) l)

  pub final_load_above : pos 0 <ℤ final_load c
  final_load_above = le_false _ _ (none_met c e).row_18

  pub net_load_above : pos 0 <ℤ net_load c
  unfolding final_load
  net_load_above = more_left (net_load c) (imports c Proxy) (imports_least c Proxy) final_load_above

  pub zone_generation_least : (z : ℕ) → z < length c.zones → pos 0 ≤ℤ zone_generation c z
  unfolding none_below_zero
  zone_generation_least z l = le_true _ _ (all_at (λ i. le_z (pos 0) (zone_generation c i)) (length c.zones) z (not-false _ (none_met c e).row_19) l)

  pub net_generation_above : pos 0 <ℤ net_generation c
  unfolding net_generation
  net_generation_above = not_zero (net_generation c) (none_met c e).row_20 (sum_least (zone_generation c) (length c.zones) zone_generation_least)

  pub final_generation_least : pos 0 ≤ℤ final_generation c
  final_generation_least = lt_false _ _ (none_met c e).row_21

  pub final_generation_most : final_generation c ≤ℤ net_generation c
  unfolding final_generation
  final_generation_most = less_left (net_generation c) (exports c Proxy) (exports_least c Proxy)
