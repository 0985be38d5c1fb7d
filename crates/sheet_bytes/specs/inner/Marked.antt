-- A scheduled line into zone 0, as the reader is told of it: as one into another zone that no sheet has.
use Rattle.std.specs.Prelude.{ℕ, cond, map, eqb}
use Rattle.records.specs.declared.Place.{Place}
use Rattle.records.specs.declared.Place.TheVariants.{Proxy, Line}
use Rattle.records.specs.declared.Point.{Point}
use Rattle.records.specs.Content.{Content}
use Rattle.records.specs.inner.Places.{at_place}

-- a zone that no sheet has
abbrev pub nowhere : ℕ
nowhere = 255

abbrev pub marked_zone : ℕ → ℕ
marked_zone n = cond (eqb n 0) nowhere n

abbrev pub marked_place : Place → Place
marked_place Proxy = Proxy
marked_place (Line n) = Line (marked_zone n)

abbrev pub marked_point : Point → Point
marked_point p = at_place p (marked_place p.place)

abbrev pub marked : Content → Content
marked c = record { heads = c.heads; zones = c.zones; units = c.units; points = map marked_point c.points; pars = c.pars; factors = c.factors; paths = c.paths; circulations = c.circulations }
