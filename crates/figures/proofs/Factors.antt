-- Every factor that a figure uses is one that is due, and so within ±10,000.
use Prim.Native.Nat.{ℕ, ◌≤◌, ◌<◌}
use native.Mathlib.Omega.{arith}
use mathlib.Core.Path.{refl}
use lib.Dec.{lit≤}
use lib.IntN.{nat_abs}
use lib.ListN.{length}
use Rattle.due_factors.specs.Due.{Asked, how_many}
use Rattle.records.specs.Codes.{unit_subject, zone_subject, point_subject}
use Rattle.records.specs.Content.{Content}
use Rattle.record_rows.specs.inner.Valid.{Valid}
use Rattle.figures.specs.Flow.{factor, par_factor}

module _ {c : Content} (v : Valid c) where
  module _ {target : ℕ} (k : target ≤ length c.pars) where
    -- subjects 1 to 3, on every target
    asked : (subject i : ℕ) → 1 ≤ subject → subject ≤ 3 → i < how_many (length c.zones) (length c.units) (length c.points) (length c.pars) subject →
        Asked (length c.zones) (length c.units) (length c.points) (length c.pars) target subject i
    asked subject i low high l = record { known = k; low = low; high = omega arith; par = λ e. absurd (omega arith); index = l }

    pub unit-factor-within : (i : ℕ) → i < length c.units → nat_abs (factor c target unit_subject i) ≤ 10000
    unfolding factor how_many
    unit-factor-within i l = v.factor_fits target 1 i (asked 1 i (lit≤ tt) (lit≤ tt) l)

    pub zone-factor-within : (i : ℕ) → i < length c.zones → nat_abs (factor c target zone_subject i) ≤ 10000
    unfolding factor how_many
    zone-factor-within i l = v.factor_fits target 2 i (asked 2 i (lit≤ tt) (lit≤ tt) l)

    pub point-factor-within : (i : ℕ) → i < length c.points → nat_abs (factor c target point_subject i) ≤ 10000
    unfolding factor how_many
    point-factor-within i l = v.factor_fits target 3 i (asked 3 i (lit≤ tt) (lit≤ tt) l)

  -- subject 4, on the flowgate
  pub par_factor_within : (i : ℕ) → i < length c.pars → nat_abs (par_factor c i) ≤ 10000
  unfolding par_factor factor how_many
  par_factor_within i l = v.factor_fits 0 4 i (record { known = omega arith; low = lit≤ tt; high = lit≤ tt; par = λ e. refl; index = l })
