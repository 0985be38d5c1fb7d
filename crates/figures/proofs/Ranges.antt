-- How large each term and each sum can be on any content that passes rows 1 to 13 and 28.
use Prim.Native.Nat.{ℕ, ◌+◌, ◌*◌, ◌≤◌, ◌<◌}
use native.Mathlib.Nat.{le_refl, le_trans}
use native.Mathlib.Omega.{arith}
use lib.Dec.{eqb}
use lib.IntN.{ℤ, pos, nat_abs, ◌+ℤ◌, ◌-ℤ◌, ◌*ℤ◌}
use lib.ListN.{length}
use Rattle.integers.specs.Sum.{sum_to}
use Rattle.integers.proofs.Absolute.{abs_sub}
use Rattle.integers.proofs.Linear.{zarith}
use Rattle.integers.proofs.Tactic.{zi, zo}
use Rattle.records.specs.declared.Place.{Place}
use Rattle.records.specs.declared.Place.TheVariants.{Line}
use Rattle.records.specs.declared.Point.{Point}
use Rattle.records.specs.Codes.{common, noncommon, point_subject}
use Rattle.records.specs.Content.{Content, zone, unit, point, par, path, circulation}
use Rattle.record_rows.specs.inner.Valid.{PointFits, Lake, none, all, Valid}
use Rattle.figures.specs.Balance.{same_place, import_at, imports, total_load, zone_load, output}
use Rattle.figures.specs.Flow.{factor, par_factor, net_schedule, schedule_term, schedule_flow, parallel, shadow, control_term, control}
use Rattle.figures.specs.Lake.{path_term, path_sum, impact}
use Rattle.figures.specs.inner.Most.{most_net, most_schedule, most_control, most_path_sum, most_impact}
use Rattle.figures.proofs.Numbers.{cond_within, times_within, sum_within, quotient_share}
use Rattle.figures.proofs.Factors.{point-factor-within, par_factor_within}

-- power × factor × 10, in watts
watts_within : (x f : ℤ) {a : ℕ} → nat_abs x ≤ a → nat_abs f ≤ 10000 → nat_abs (x *ℤ f *ℤ pos 10) ≤ a * 10000 * 10
watts_within x f h k = times_within (x *ℤ f) (pos 10) (times_within x f h k) (le_refl 10)

gap_within : (a b d f : ℕ) → a ≤ 200000 → b ≤ 200000 → d ≤ 200000 → f ≤ 200000 → nat_abs (pos a +ℤ pos b -ℤ pos d -ℤ pos f) ≤ most_net
gap_within a b d f = simp zi (simp zo (omega zarith))

pub net_within : {zones : ℕ} {p : Point} → PointFits zones p → nat_abs (net_schedule p) ≤ most_net
unfolding net_schedule
net_within {p = p} f = gap_within p.import p.wheel_in p.export p.wheel_out f.import f.wheel_in f.export f.wheel_out

lake_most : {paths circulations : ℕ} → Lake paths circulations → paths ≤ 4
lake_most (none p q) = omega arith
lake_most (all p q) = omega arith

-- where there is a path there is the circulation
pub lake_whole : {paths circulations : ℕ} → Lake paths circulations → 0 < paths → 0 < circulations
lake_whole (none p q) l = absurd (omega arith)
lake_whole (all p q) l = omega arith

module _ {c : Content} (v : Valid c) where
  -- steps 1 and 2
  imports_within : (place : Place) → nat_abs (imports c place) ≤ 6400000
  unfolding imports import_at
  imports_within place =
      sum_within (import_at c place) 200000 (λ i l. cond_within (same_place (point c i).place place) (pos (point c i).import) (v.point_fits i l).import) v.points_most

  pub zone_load_within : (z : ℕ) → z < length c.zones → nat_abs (zone_load c z) ≤ 10400000
  unfolding zone_load total_load
  zone_load_within z l = omega (arith, abs_sub (total_load c z) (imports c (Line (z + 1))), v.zone_fits z l, imports_within (Line (z + 1)))

  pub output_within : (i : ℕ) → i < length c.units → nat_abs (output c i) ≤ 2000000
  unfolding output
  output_within i l = (v.unit_fits i l).output

  -- step 4, for a target of the sheet
  module _ {target : ℕ} (k : target ≤ length c.pars) where
    schedule-term-within : (type i : ℕ) → i < length c.points → nat_abs (schedule_term c type target i) ≤ most_net * 10000 * 10
    unfolding schedule_term
    schedule-term-within type i l =
        cond_within (eqb (point c i).sort type) (net_schedule (point c i) *ℤ factor c target point_subject i *ℤ pos 10)
        (watts_within (net_schedule (point c i)) (factor c target point_subject i) (net_within (v.point_fits i l)) (point-factor-within v k i l))

    pub schedule-flow-within : (type : ℕ) → nat_abs (schedule_flow c type target) ≤ most_schedule
    unfolding schedule_flow
    schedule-flow-within type = sum_within (schedule_term c type target) (most_net * 10000 * 10) (schedule-term-within type) v.points_most

    pub parallel-within : nat_abs (parallel c target) ≤ most_schedule
    unfolding parallel
    parallel-within = schedule-flow-within noncommon

    pub shadow-within : nat_abs (shadow c target) ≤ most_schedule
    unfolding shadow
    shadow-within = schedule-flow-within common

  -- step 5
  control_term_within : (class i : ℕ) → i < length c.pars → nat_abs (control_term c class i) ≤ 400000 * 10000 * 10
  unfolding control_term
  control_term_within class i l =
      cond_within (eqb (par c i).class class) (((par c i).actual -ℤ (par c i).target) *ℤ par_factor c i *ℤ pos 10)
      (watts_within ((par c i).actual -ℤ (par c i).target) (par_factor c i) {a = 400000} (omega (arith, abs_sub (par c i).actual (par c i).target, v.par_fits i l)) (par_factor_within v i l))

  pub control_within : (class : ℕ) → nat_abs (control c class) ≤ most_control
  unfolding control
  control_within class = sum_within (control_term c class) (400000 * 10000 * 10) (control_term_within class) v.pars_most

  -- the lake
  pub paths_most : length c.paths ≤ 4
  paths_most = lake_most v.lake

  pub circulation_within : 0 < length c.paths → nat_abs (circulation c).flow ≤ 200000
  circulation_within l = (v.circulation_fits (lake_whole v.lake l)).flow

  pub path_term_within : (i : ℕ) → i < length c.paths → nat_abs (path_term c i) ≤ 1000000 * 10000 * 10
  unfolding path_term
  path_term_within i l =
      let flow = pos 4 *ℤ (path c i).flow in
      watts_within (flow -ℤ (circulation c).flow) (path c i).factor {a = 1000000}
      (omega (arith, abs_sub flow (circulation c).flow, times_within (pos 4) (path c i).flow (le_refl 4) (v.path_fits i l).flow, circulation_within (omega arith))) (v.path_fits i l).factor

  pub path_sums_within : (n : ℕ) → n ≤ length c.paths → nat_abs (sum_to (path_term c) n) ≤ most_path_sum
  path_sums_within n l = sum_within (path_term c) (1000000 * 10000 * 10) (λ i m. path_term_within i (omega arith)) (le_trans l paths_most)

  pub path_sum_within : nat_abs (path_sum c) ≤ most_path_sum
  unfolding path_sum
  path_sum_within = path_sums_within (length c.paths) (le_refl (length c.paths))

  pub impact_within : nat_abs (impact c) ≤ most_impact
  unfolding impact
  impact_within = quotient_share (path_sum c) (pos 4) most_impact (record { lt = tt }) path_sum_within
