-- What rows 1 to 13 and 28 leave of a sheet's content: every number in its range, every count within its limit, every factor due there.
use Rattle.std.specs.Prelude.{ℕ, ◌+◌, ◌≤◌, ◌<◌, ◌≡◌, true, false, List, nat_abs, length, take, get_or}
use Rattle.names.specs.Names.{name_ok, seen_before}
use Rattle.due_factors.specs.Due.{Asked, due}
use Rattle.records.specs.declared.Head.{Head}
use Rattle.records.specs.declared.Zone.{Zone}
use Rattle.records.specs.declared.Unit.{Unit}
use Rattle.records.specs.declared.Place.TheVariants.{Line}
use Rattle.records.specs.declared.Point.{Point}
use Rattle.records.specs.declared.Par.{Par}
use Rattle.records.specs.declared.Path.{Path}
use Rattle.records.specs.declared.Circulation.{Circulation}
use Rattle.record_table.specs.Table.{head_kind, zone_kind, unit_kind, point_kind, par_kind}
use Rattle.records.specs.Content.{Content, no_name, head, zone, unit, point, par, path, circulation, factor_for}

pub record HeadFits (h : Head) : Type 0 where
  pub rto_least : 1 ≤ h.monitoring_rto
  pub rto_most : h.monitoring_rto ≤ 2
  pub seconds_least : 1 ≤ h.seconds
  pub seconds_most : h.seconds ≤ 900
  pub monitoring_price : h.monitoring_price ≤ 400000
  pub nonmonitoring_price : h.nonmonitoring_price ≤ 400000

pub record ZoneFits (z : Zone) : Type 0 where
  pub load : z.load ≤ 2000000
  pub losses : z.losses ≤ 2000000

pub record UnitFits (zones : ℕ) (u : Unit) : Type 0 where
  pub zone_least : 1 ≤ u.zone
  pub zone_most : u.zone ≤ zones
  pub output : u.output ≤ 2000000

-- the zone number of a scheduled line is one of the sheet's
pub record LineFits (zones n : ℕ) : Type 0 where
  pub least : 1 ≤ n
  pub most : n ≤ zones

pub record PointFits (zones : ℕ) (p : Point) : Type 0 where
  pub sort_least : 1 ≤ p.sort
  pub sort_most : p.sort ≤ 2
  pub place : (n : ℕ) → p.place ≡ Line n → LineFits zones n
  pub import : p.import ≤ 200000
  pub export : p.export ≤ 200000
  pub wheel_in : p.wheel_in ≤ 200000
  pub wheel_out : p.wheel_out ≤ 200000

pub record ParFits (p : Par) : Type 0 where
  pub class_least : 1 ≤ p.class
  pub class_most : p.class ≤ 2
  pub actual : nat_abs p.actual ≤ 200000
  pub target : nat_abs p.target ≤ 200000

pub record PathFits (p : Path) : Type 0 where
  pub flow : nat_abs p.flow ≤ 200000
  pub factor : nat_abs p.factor ≤ 10000

pub record CirculationFits (c : Circulation) : Type 0 where
  pub flow : nat_abs c.flow ≤ 200000

-- four paths and one circulation, or neither
pub data Lake (paths circulations : ℕ) : Type 0 where
  none : paths ≡ 0 → circulations ≡ 0 → Lake paths circulations
  all : paths ≡ 4 → circulations ≡ 1 → Lake paths circulations

pub record Valid (c : Content) : Type 0 where
  pub heads : length c.heads ≡ head_kind.most
  pub zones_least : 1 ≤ length c.zones
  pub zones_most : length c.zones ≤ zone_kind.most
  pub units_least : 1 ≤ length c.units
  pub units_most : length c.units ≤ unit_kind.most
  pub points_most : length c.points ≤ point_kind.most
  pub pars_most : length c.pars ≤ par_kind.most
  pub factors : length c.factors ≡ length (due c)
  pub lake : Lake (length c.paths) (length c.circulations)
  pub head_fits : HeadFits (head c)
  pub zone_fits : (i : ℕ) → i < length c.zones → ZoneFits (zone c i)
  pub unit_fits : (i : ℕ) → i < length c.units → UnitFits (length c.zones) (unit c i)
  pub point_fits : (i : ℕ) → i < length c.points → PointFits (length c.zones) (point c i)
  pub par_fits : (i : ℕ) → i < length c.pars → ParFits (par c i)
  pub path_fits : (i : ℕ) → i < length c.paths → PathFits (path c i)
  pub circulation_fits : 0 < length c.circulations → CirculationFits (circulation c)
  pub factor_fits : (target subject i : ℕ) → Asked (length c.zones) (length c.units) (length c.points) (length c.pars) target subject i →
      nat_abs (factor_for c.factors target subject (i + 1)) ≤ 10000

-- what rows 6 and 7 leave of a kind's names: each well formed, and none of those before it
pub record NamesFit (names : List (List ℕ)) : Type 0 where
  pub well : (i : ℕ) → i < length names → name_ok (get_or names i no_name) ≡ true
  pub new : (i : ℕ) → i < length names → seen_before (take i names) (get_or names i no_name) ≡ false
