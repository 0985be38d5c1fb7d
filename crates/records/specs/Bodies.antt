-- What the bytes of a body mean, by its kind (document 01, the table of 'The interval sheet').
use Rattle.std.specs.Prelude.{ℕ, cond, List, eqb}
use Rattle.fields.specs.Fields.{byte_at, be16, be32, sbe16, sbe32}
use Rattle.names.specs.Names.{name_at}
use Rattle.records.specs.declared.Head.{Head}
use Rattle.records.specs.declared.Zone.{Zone}
use Rattle.records.specs.declared.Unit.{Unit}
use Rattle.records.specs.declared.Place.{Place}
use Rattle.records.specs.declared.Place.TheVariants.{Proxy, Line}
use Rattle.records.specs.declared.Point.{Point}
use Rattle.records.specs.declared.Par.{Par}
use Rattle.records.specs.declared.Factor.{Factor}
use Rattle.records.specs.declared.Path.{Path}
use Rattle.records.specs.declared.Circulation.{Circulation}
use Rattle.record_table.specs.Table.{field_at, head_kind, zone_kind, unit_kind, point_kind, par_kind, factor_kind, path_kind, circulation_kind}

-- a point's place: a proxy (0), or a scheduled line that ends in the zone of that number
abbrev pub place_of : ℕ → Place
place_of n = cond (eqb n 0) Proxy (Line n)

-- the fields in the table's order
unfoldable pub head_of : List ℕ → Head
head_of b = record {
  name = name_at b (field_at head_kind 0);
  monitoring_rto = byte_at b (field_at head_kind 1);
  seconds = be16 b (field_at head_kind 2);
  monitoring_price = be32 b (field_at head_kind 3);
  nonmonitoring_price = be32 b (field_at head_kind 4);
}

unfoldable pub zone_of : List ℕ → Zone
zone_of b = record {
  name = name_at b (field_at zone_kind 0);
  load = be32 b (field_at zone_kind 1);
  losses = be32 b (field_at zone_kind 2);
}

unfoldable pub unit_of : List ℕ → Unit
unit_of b = record {
  name = name_at b (field_at unit_kind 0);
  zone = byte_at b (field_at unit_kind 1);
  output = be32 b (field_at unit_kind 2);
}

unfoldable pub point_of : List ℕ → Point
point_of b = record {
  name = name_at b (field_at point_kind 0);
  sort = byte_at b (field_at point_kind 1);
  place = place_of (byte_at b (field_at point_kind 2));
  import = be32 b (field_at point_kind 3);
  export = be32 b (field_at point_kind 4);
  wheel_in = be32 b (field_at point_kind 5);
  wheel_out = be32 b (field_at point_kind 6);
}

unfoldable pub par_of : List ℕ → Par
par_of b = record {
  name = name_at b (field_at par_kind 0);
  class = byte_at b (field_at par_kind 1);
  actual = sbe32 b (field_at par_kind 2);
  target = sbe32 b (field_at par_kind 3);
}

unfoldable pub factor_of : List ℕ → Factor
factor_of b = record {
  target = byte_at b (field_at factor_kind 0);
  subject = byte_at b (field_at factor_kind 1);
  index = be16 b (field_at factor_kind 2);
  factor = sbe16 b (field_at factor_kind 3);
}

unfoldable pub path_of : List ℕ → Path
path_of b = record {
  name = name_at b (field_at path_kind 0);
  flow = sbe32 b (field_at path_kind 1);
  factor = sbe16 b (field_at path_kind 2);
}

unfoldable pub circulation_of : List ℕ → Circulation
circulation_of b = record { flow = sbe32 b (field_at circulation_kind 0) }
