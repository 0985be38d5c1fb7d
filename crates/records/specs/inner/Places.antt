-- A point at another place.
use Rattle.records.specs.declared.Place.{Place}
use Rattle.records.specs.declared.Point.{Point}

abbrev pub at_place : Point → Place → Point
at_place p place = record { name = p.name; sort = p.sort; place = place; import = p.import; export = p.export; wheel_in = p.wheel_in; wheel_out = p.wheel_out }
