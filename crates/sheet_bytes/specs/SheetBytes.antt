-- The bytes of a sheet with a content (document 01, the table of 'The interval sheet'; document 02, requests 3 and 6).
use Rattle.std.specs.Prelude.{ℕ, List, [], ◌∷◌, ◌++◌}
use Rattle.field_writers.specs.FieldBytes.{bytes16, bytes32, signed16, signed32}
use Rattle.records.specs.declared.Head.{Head}
use Rattle.records.specs.declared.Zone.{Zone}
use Rattle.records.specs.declared.Unit.{Unit}
use Rattle.records.specs.declared.Place.{Place}
use Rattle.records.specs.declared.Place.TheVariants.{Proxy, Line}
use Rattle.records.specs.declared.Point.{Point}
use Rattle.records.specs.declared.Par.{Par}
use Rattle.records.specs.declared.Factor.{Factor}
use Rattle.records.specs.declared.Path.{Path}
use Rattle.records.specs.declared.Circulation.{Circulation}
use Rattle.records.specs.Content.{Content}

-- a place: 0 for a proxy, else the zone's number. No byte says a scheduled line into zone 0, which row 8 refuses
abbrev pub place_byte : Place → ℕ
place_byte Proxy = 0
place_byte (Line n) = n

-- a record's body: its fields in the table's order
unfoldable pub head_body : Head → List ℕ
head_body h = (((h.name ++ (h.monitoring_rto ∷ [])) ++ bytes16 h.seconds) ++ bytes32 h.monitoring_price) ++ bytes32 h.nonmonitoring_price

unfoldable pub zone_body : Zone → List ℕ
zone_body z = (z.name ++ bytes32 z.load) ++ bytes32 z.losses

unfoldable pub unit_body : Unit → List ℕ
unit_body u = (u.name ++ (u.zone ∷ [])) ++ bytes32 u.output

unfoldable pub point_body : Point → List ℕ
point_body p = (((((p.name ++ (p.sort ∷ [])) ++ (place_byte p.place ∷ [])) ++ bytes32 p.import) ++ bytes32 p.export) ++ bytes32 p.wheel_in) ++ bytes32 p.wheel_out

unfoldable pub par_body : Par → List ℕ
par_body p = ((p.name ++ (p.class ∷ [])) ++ signed32 p.actual) ++ signed32 p.target

unfoldable pub factor_body : Factor → List ℕ
factor_body f = (((f.target ∷ []) ++ (f.subject ∷ [])) ++ bytes16 f.index) ++ signed16 f.factor

unfoldable pub path_body : Path → List ℕ
path_body p = (p.name ++ signed32 p.flow) ++ signed16 p.factor

unfoldable pub circulation_body : Circulation → List ℕ
circulation_body c = signed32 c.flow

-- the records of a kind, one behind the other: of each the kind byte, then the body
unfoldable pub all : {A : Type 0} → ℕ → (A → List ℕ) → List A → List ℕ
all kind body [] = []
all kind body (a ∷ l) = (kind ∷ body a) ++ all kind body l

unfoldable pub sheet_bytes : Content → List ℕ
sheet_bytes c =
    all 1 head_body c.heads
    ++ (all 2 zone_body c.zones
    ++ (all 3 unit_body c.units
    ++ (all 4 point_body c.points
    ++ (all 5 par_body c.pars
    ++ (all 6 factor_body c.factors
    ++ (all 7 path_body c.paths
    ++ all 8 circulation_body c.circulations))))))
