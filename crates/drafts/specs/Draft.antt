-- A draft of a sheet and the content that it gives (document 02, requests 3 and 6).
use Rattle.std.specs.Prelude.{ℕ, ◌-◌, cond, List, [], ◌∷◌, ◌++◌, map, eqb, length, take, replicate}
use Rattle.records.specs.declared.Place.{Place}
use Rattle.records.specs.declared.Place.TheVariants.{Proxy, Line}
use Rattle.records.specs.declared.Point.{Point}
use Rattle.records.specs.Content.{Content, no_name, no_zone, no_unit, no_par, no_factor, no_path, no_circulation, head}
use Rattle.drafts.specs.declared.DraftPoint.{DraftPoint}
use Rattle.drafts.specs.declared.Draft.{Draft}

-- a point's place: a proxy where `line` is 0, else a scheduled line into the zone
abbrev pub place_given : DraftPoint → Place
place_given p = cond (eqb p.line 0) Proxy (Line p.zone)

abbrev pub point_given : DraftPoint → Point
point_given p = record { name = p.name; sort = p.sort; place = place_given p; import = p.import; export = p.export; wheel_in = p.wheel_in; wheel_out = p.wheel_out }

-- of each array as many records as its count says, and at most all
abbrev pub given : Draft → Content
given d = record {
  heads = d.head ∷ [];
  zones = take d.zone_count d.zones;
  units = take d.unit_count d.units;
  points = map point_given (take d.point_count d.points);
  pars = take d.par_count d.pars;
  factors = take d.factor_count d.factors;
  paths = take d.path_count d.paths;
  circulations = take d.circulation_count d.circulations;
}

-- the other way: a place as numbers
abbrev pub line_of : Place → ℕ
line_of Proxy = 0
line_of (Line n) = 1

abbrev pub zone_in : Place → ℕ
zone_in Proxy = 0
zone_in (Line n) = n

abbrev pub drafted : Point → DraftPoint
drafted p = record { name = p.name; sort = p.sort; line = line_of p.place; zone = zone_in p.place; import = p.import; export = p.export; wheel_in = p.wheel_in; wheel_out = p.wheel_out }

abbrev pub no_draft_point : DraftPoint
no_draft_point = record { name = no_name; sort = 0; line = 0; zone = 0; import = 0; export = 0; wheel_in = 0; wheel_out = 0 }

-- an array of `most` cells: the records, and zeros behind them
abbrev pub cells : {A : Type 0} → ℕ → A → List A → List A
cells most none l = l ++ replicate (most - length l) none

-- a content's draft
unfoldable pub draft_of : Content → Draft
draft_of c = record {
  head = head c;
  zone_count = length c.zones;
  zones = cells 33 no_zone c.zones;
  unit_count = length c.units;
  units = cells 257 no_unit c.units;
  point_count = length c.points;
  points = cells 33 no_draft_point (map drafted c.points);
  par_count = length c.pars;
  pars = cells 9 no_par c.pars;
  factor_count = length c.factors;
  factors = cells 2889 no_factor c.factors;
  path_count = length c.paths;
  paths = cells 5 no_path c.paths;
  circulation_count = length c.circulations;
  circulations = cells 2 no_circulation c.circulations;
}
