-- Rows 8, 9 and 11 by a record's fields (document 01, 'Where each refusal is checked' and the table of records).
use Rattle.std.specs.Prelude.{ℕ, Bool, false, not, ◌||◌, eqb, ltb}
use Rattle.rows.specs.Rows.{outside, beyond}
use Rattle.records.specs.declared.Head.{Head}
use Rattle.records.specs.declared.Zone.{Zone}
use Rattle.records.specs.declared.Unit.{Unit}
use Rattle.records.specs.declared.Place.{Place}
use Rattle.records.specs.declared.Place.TheVariants.{Proxy, Line}
use Rattle.records.specs.declared.Point.{Point}
use Rattle.records.specs.declared.Par.{Par}
use Rattle.records.specs.declared.Factor.{Factor}
use Rattle.records.specs.declared.Path.{Path}
use Rattle.records.specs.declared.Circulation.{Circulation}
use Rattle.records.specs.Codes.{nyiso, pjm, common, noncommon}

-- row 8: RTO not listed; type or class not listed
abbrev pub no_rto : ℕ → Bool
no_rto code = not (eqb code nyiso || eqb code pjm)

abbrev pub no_type : ℕ → Bool
no_type code = not (eqb code common || eqb code noncommon)

-- row 8: a zone number 0 or above the count
abbrev pub no_zone_of : ℕ → ℕ → Bool
no_zone_of zones n = outside 1 n zones

-- row 8: the place's zone number, where it is a scheduled line
abbrev pub place_unknown : ℕ → Place → Bool
place_unknown zones Proxy = false
place_unknown zones (Line n) = no_zone_of zones n

-- row 9: number fields outside their ranges
abbrev pub head_outside : Head → Bool
head_outside h = outside 1 h.seconds 900 || (ltb 400000 h.monitoring_price || ltb 400000 h.nonmonitoring_price)

abbrev pub zone_outside : Zone → Bool
zone_outside z = ltb 2000000 z.load || ltb 2000000 z.losses

abbrev pub unit_outside : Unit → Bool
unit_outside u = ltb 2000000 u.output

abbrev pub point_outside : Point → Bool
point_outside p = ltb 200000 p.import || (ltb 200000 p.export || (ltb 200000 p.wheel_in || ltb 200000 p.wheel_out))

abbrev pub par_outside : Par → Bool
par_outside p = beyond 200000 p.actual || beyond 200000 p.target

abbrev pub path_outside : Path → Bool
path_outside p = beyond 200000 p.flow

abbrev pub circulation_outside : Circulation → Bool
circulation_outside c = beyond 200000 c.flow

-- row 11: factor outside ±10,000
abbrev pub factor_outside : Factor → Bool
factor_outside f = beyond 10000 f.factor

abbrev pub path_factor_outside : Path → Bool
path_factor_outside p = beyond 10000 p.factor
