-- The weighted sums are the figures of steps 3 to 5; how large a term can be.
use Prim.Native.Nat.{ℕ, ◌+◌, ◌≤◌, ◌<◌}
use native.Mathlib.Nat.{le_refl}
use native.Mathlib.Omega.{arith}
use mathlib.Core.Path.{◌≡◌, refl, ap, ◌∙◌}
use mathlib.Core.Bool.{Bool, true, false, cond}
use mathlib.Core.List.{List}
use lib.Dec.{eqb, lit<, lit≤}
use lib.IntN.{ℤ, pos, nat_abs, ◌-ℤ◌, ◌*ℤ◌}
use lib.ListN.{length, get_or}
use Rattle.integers.proofs.Linear.{zarith}
use Rattle.integers.proofs.Tactic.{zi, zo}
use Rattle.integers.proofs.Absolute.{abs_sub}
use Rattle.integers.proofs.Sums.{sum_same}
use Rattle.integers.proofs.Machine.{Num, Op, rd, num, num_is, mul}
use Rattle.due_factors.specs.Due.{Asked, how_many}
use Rattle.layout.specs.declared.Layout.{Layout}
use Rattle.records.specs.declared.Unit.{Unit}
use Rattle.records.specs.declared.Point.{Point}
use Rattle.records.specs.declared.Par.{Par}
use Rattle.records.specs.Codes.{unit_subject, zone_subject, point_subject, par_subject}
use Rattle.records.specs.Content.{Content, unit, point, par, factor_for}
use Rattle.record_rows.specs.inner.Valid.{ParFits, Valid}
use Rattle.sheet.specs.Sheet.{read_sheet, content_of, Accepted}
use Rattle.sheet.proofs.Accepted.{valid, counts}
use Rattle.figures.specs.Balance.{zone_load, output}
use Rattle.figures.specs.Flow.{factor, par_factor, output_term, weighted_output, load_term, net_schedule, schedule_term, schedule_flow, control_term, control}
use Rattle.figures.proofs.Numbers.{cond_within, times_within}
use Rattle.figures.proofs.Ranges.{output_within, zone_load_within, net_within}
use Rattle.zone_sums.specs.ByZone.{zone_loads}
use Rattle.zone_sums.specs.inner.Ledger.{figure_at}
use Rattle.zone_sums.proofs.Cells.{cell_at}
use Rattle.weighted_sums.specs.inner.Weighted.{Lent, tenfold_in, power_of, weighted_term, members, weighted_sum}

-- the class is asked before or after the factor
tenfold_times : (b : Bool) (x f : ℤ) → cond b (x *ℤ pos 10) (pos 0) *ℤ f ≡ cond b (x *ℤ f *ℤ pos 10) (pos 0)
tenfold_times true x f = simp zi (simp zo (omega zarith))
tenfold_times false x f = simp zi (simp zo (omega zarith))

module _ (c : Content) (class target : ℕ) where
  -- A
  pub outputs_are : weighted_sum c unit_subject class target ≡ weighted_output c target
  unfolding weighted_sum members how_many weighted_term power_of weighted_output output_term
  outputs_are = refl

  -- units are of no class
  pub units_of_no_class : weighted_sum c unit_subject 0 target ≡ weighted_sum c unit_subject class target
  unfolding weighted_sum members how_many weighted_term power_of
  units_of_no_class = refl

  pub schedules_are : weighted_sum c point_subject class target ≡ schedule_flow c class target
  unfolding weighted_sum members how_many weighted_term power_of tenfold_in schedule_flow schedule_term
  schedules_are = sum_same _ _ (length c.points) (λ i l. tenfold_times (eqb (point c i).sort class) (net_schedule (point c i)) (factor c target point_subject i))

pub control_is : (c : Content) (class : ℕ) → weighted_sum c par_subject class 0 ≡ control c class
unfolding weighted_sum members how_many weighted_term power_of tenfold_in control control_term par_factor
control_is c class = sum_same _ _ (length c.pars) (λ i l. tenfold_times (eqb (par c i).class class) ((par c i).actual -ℤ (par c i).target) (factor c 0 par_subject i))

-- what a PAR brings is no larger than `tenfold_in` asks; a net schedule is not, by `net_within`
pub over_within : {p : Par} → ParFits p → nat_abs (p.actual -ℤ p.target) ≤ 400000
over_within {p} f = omega (arith, abs_sub p.actual p.target, f.actual, f.target)

tenfold_within : (of class : ℕ) (x : ℤ) → nat_abs x ≤ 400000 → nat_abs (tenfold_in of class x) ≤ 4000000
unfolding tenfold_in
tenfold_within of class x h = cond_within (eqb of class) (x *ℤ pos 10) (times_within x (pos 10) h (le_refl 10))

-- z is a record's power, x the same as a call returned it
module _ {x z : ℤ} (e : x ≡ z) (h : nat_abs z ≤ 400000) where
  as_read : Num (rd x) z 400000
  as_read = num_is x z 400000 e h (lit< tt)

  pub small : nat_abs (rd x) ≤ 400000
  small = rw as_read.is as_read.abs

  pub tenfold_is : (of class : ℕ) → tenfold_in of class (rd x) ≡ tenfold_in of class z
  tenfold_is of class = rw as_read.is

module _ {c : Content} (v : Valid c) (class i : ℕ) where
  pub point_power_within : i < length c.points → nat_abs (tenfold_in (point c i).sort class (net_schedule (point c i))) ≤ 4000000
  point_power_within l = tenfold_within (point c i).sort class (net_schedule (point c i)) (net_within (v.point_fits i l))

  pub par_power_within : i < length c.pars → nat_abs (tenfold_in (par c i).class class ((par c i).actual -ℤ (par c i).target)) ≤ 4000000
  par_power_within l = tenfold_within (par c i).class class ((par c i).actual -ℤ (par c i).target) (over_within (v.par_fits i l))

-- what the layout of an accepted sheet counts is what its content has
module _ (s : List ℕ) (l : Layout) (e : read_sheet s ≡ Accepted l) where
  pub unit_asked : {target : ℕ} → target ≤ l.pars → (i : ℕ) → i < l.units → Asked l.zones l.units l.points l.pars target unit_subject i
  unfolding how_many
  unit_asked k i h = record { known = k; low = lit≤ tt; high = lit≤ tt; par = λ p. absurd (omega (arith, p)); index = h }

  pub zone_asked : {target : ℕ} → target ≤ l.pars → (i : ℕ) → i < l.zones → Asked l.zones l.units l.points l.pars target zone_subject i
  unfolding how_many
  zone_asked k i h = record { known = k; low = lit≤ tt; high = lit≤ tt; par = λ p. absurd (omega (arith, p)); index = h }

  pub point_asked : {target : ℕ} → target ≤ l.pars → (i : ℕ) → i < l.points → Asked l.zones l.units l.points l.pars target point_subject i
  unfolding how_many
  point_asked k i h = record { known = k; low = lit≤ tt; high = lit≤ tt; par = λ p. absurd (omega (arith, p)); index = h }

  pub par_asked : (i : ℕ) → i < l.pars → Asked l.zones l.units l.points l.pars 0 par_subject i
  unfolding how_many
  par_asked i h = record { known = omega arith; low = lit≤ tt; high = lit≤ tt; par = λ p. refl; index = h }

  -- a power, and the factor as the call returned it
  pub weighed : {target subject i : ℕ} → Asked l.zones l.units l.points l.pars target subject i → (power f : ℤ) → nat_abs power ≤ 10400000 →
      f ≡ factor_for (content_of s).factors target subject (i + 1) → Op (rd power *ℤ rd f) (power *ℤ factor (content_of s) target subject i) 104000000000
  unfolding factor
  weighed {target} {subject} {i} a power f h ef =
      mul (num power 10400000 h (lit< tt))
      (num_is f _ 10000 ef ((valid s l e).factor_fits target subject i (rw ((counts s l e).zones, (counts s l e).units, (counts s l e).points, (counts s l e).pars) at a)) (lit< tt)) (lit< tt)

  -- a unit's output as it is read
  pub output_read : (i : ℕ) → i < l.units → (u : Unit) → u ≡ unit (content_of s) i → (power : ℤ) → power ≡ pos u.output → Num (rd power) (output (content_of s) i) 2000000
  unfolding output
  output_read i h u g power q = num_is power _ 2000000 (rw g at q) (output_within (valid s l e) i (rw (counts s l e).units at h)) (lit< tt)

  pub output_term_within : {target i : ℕ} → target ≤ l.pars → i < l.units → nat_abs (weighted_term (content_of s) unit_subject 0 target i) ≤ 104000000000
  unfolding weighted_term power_of
  output_term_within {i = i} k h = (weighed (unit_asked k i h) (output (content_of s) i) _ (omega (arith, output_within (valid s l e) i (rw (counts s l e).units at h))) refl).num.abs

  pub point_term_within : (class : ℕ) {target i : ℕ} → target ≤ l.pars → i < l.points → nat_abs (weighted_term (content_of s) point_subject class target i) ≤ 104000000000
  unfolding weighted_term power_of
  point_term_within class {i = i} k h = (weighed (point_asked k i h) (tenfold_in (point (content_of s) i).sort class (net_schedule (point (content_of s) i))) _ (omega (arith, point_power_within (valid s l e) class i (rw (counts s l e).points at h))) refl).num.abs

  pub par_term_within : (class : ℕ) {i : ℕ} → i < l.pars → nat_abs (weighted_term (content_of s) par_subject class 0 i) ≤ 104000000000
  unfolding weighted_term power_of
  par_term_within class {i} h = (weighed (par_asked i h) (tenfold_in (par (content_of s) i).class class ((par (content_of s) i).actual -ℤ (par (content_of s) i).target)) _ (omega (arith, par_power_within (valid s l e) class i (rw (counts s l e).pars at h))) refl).num.abs

  -- a point's net schedule, n, and ten times that in its class, t, as the calls returned them
  module _ (i : ℕ) (h : i < l.points) (p : Point) (ep : p ≡ point (content_of s) i) (n : ℤ) (en : n ≡ net_schedule p) where
    pub net_small : nat_abs (rd n) ≤ 400000
    net_small = small en (rw ep (net_within ((valid s l e).point_fits i (rw (counts s l e).points at h))))

    pub point_power_read : (class : ℕ) (t : ℤ) → t ≡ tenfold_in p.sort class (rd n) →
        Num (rd t) (tenfold_in (point (content_of s) i).sort class (net_schedule (point (content_of s) i))) 4000000
    point_power_read class t et =
        let f = (valid s l e).point_fits i (rw (counts s l e).points at h) in
        num_is t _ 4000000 (et ∙ tenfold_is en (rw ep (net_within f)) p.sort class ∙ ap (λ (q : Point). tenfold_in q.sort class (net_schedule q)) ep)
        (point_power_within (valid s l e) class i (rw (counts s l e).points at h)) (lit< tt)

  -- what a PAR's flow has more than its target, and ten times that in its class
  module _ (i : ℕ) (h : i < l.pars) (p : Par) (ep : p ≡ par (content_of s) i) (n : ℤ) (en : n ≡ p.actual -ℤ p.target) where
    pub over_small : nat_abs (rd n) ≤ 400000
    over_small = small en (rw ep (over_within ((valid s l e).par_fits i (rw (counts s l e).pars at h))))

    pub par_power_read : (class : ℕ) (t : ℤ) → t ≡ tenfold_in p.class class (rd n) →
        Num (rd t) (tenfold_in (par (content_of s) i).class class ((par (content_of s) i).actual -ℤ (par (content_of s) i).target)) 4000000
    par_power_read class t et =
        let f = (valid s l e).par_fits i (rw (counts s l e).pars at h) in
        num_is t _ 4000000 (et ∙ tenfold_is en (rw ep (over_within f)) p.class class ∙ ap (λ (q : Par). tenfold_in q.class class (q.actual -ℤ q.target)) ep)
        (par_power_within (valid s l e) class i (rw (counts s l e).pars at h)) (lit< tt)

  -- a zone's load as it is lent
  pub load_read : {array : List ℤ} → array ≡ zone_loads (content_of s) → (z : ℕ) → z < l.zones → get_or array z (pos 0) ≡ zone_load (content_of s) z
  unfolding figure_at
  load_read g z h = rw g (cell_at (zone_load (content_of s)) (length (content_of s).zones) z (valid s l e).zones_most (rw (counts s l e).zones at h))

  pub load_most : (z : ℕ) → z < l.zones → nat_abs (zone_load (content_of s) z) ≤ 10400000
  load_most z h = zone_load_within (valid s l e) z (rw (counts s l e).zones at h)

  -- a zone's term, from its load as it is read
  pub load_term_is : {array : List ℤ} → array ≡ zone_loads (content_of s) → (target z : ℕ) → z < l.zones →
      rd (get_or array z (pos 0)) *ℤ factor (content_of s) target zone_subject z ≡ load_term (content_of s) target z
  unfolding load_term
  load_term_is g target z h = rw (num_is _ _ 10400000 (load_read g z h) (load_most z h) (lit< tt)).is

  pub load_term_within : {target z : ℕ} → target ≤ l.pars → z < l.zones → nat_abs (load_term (content_of s) target z) ≤ 104000000000
  unfolding load_term
  load_term_within {z = z} k h = (weighed (zone_asked k z h) (zone_load (content_of s) z) _ (load_most z h) refl).num.abs

module _ {s : List ℕ} {l : Layout} {array : List ℤ} (g : Lent s l array) (target z : ℕ) (known : target ≤ l.pars) (within : z < l.zones) where
  -- the same with the factor as it is read, and how large it can be
  pub load_term_lem : (f : ℤ) → f ≡ factor_for (content_of s).factors target zone_subject (z + 1) → Op (rd (get_or array z (pos 0)) *ℤ rd f) (load_term (content_of s) target z) 104000000000
  unfolding load_term
  load_term_lem f ef =
      rw (load_read s l g.accepted g.loads z within)
      (weighed s l g.accepted (zone_asked s l g.accepted known z within) (zone_load (content_of s) z) f (load_most s l g.accepted z within) ef)
