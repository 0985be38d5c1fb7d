-- What a sheet holds: its records by kind, in their order (document 01, 'The interval sheet').
use Rattle.std.specs.Prelude.{ℕ, Bool, true, false, ◌&&◌, cond, List, [], ◌∷◌, ◌++◌, map, eqb, ℤ, pos, length, get_or, replicate}
use Rattle.records.specs.declared.Head.{Head}
use Rattle.records.specs.declared.Zone.{Zone}
use Rattle.records.specs.declared.Unit.{Unit}
use Rattle.records.specs.declared.Place.TheVariants.{Proxy}
use Rattle.records.specs.declared.Point.{Point}
use Rattle.records.specs.declared.Par.{Par}
use Rattle.records.specs.declared.Factor.{Factor}
use Rattle.records.specs.declared.Path.{Path}
use Rattle.records.specs.declared.Circulation.{Circulation}
use Rattle.record_table.specs.Table.{by_kind}
use Rattle.records.specs.Bodies.{head_of, zone_of, unit_of, point_of, par_of, factor_of, path_of, circulation_of}

-- an accepted sheet has one head, and four paths and one circulation or neither (document 02, request 6)
pub record Content : Type 0 where
  pub heads : List Head
  pub zones : List Zone
  pub units : List Unit
  pub points : List Point
  pub pars : List Par
  pub factors : List Factor
  pub paths : List Path
  pub circulations : List Circulation

abbrev pub no_content : Content
no_content = record { heads = []; zones = []; units = []; points = []; pars = []; factors = []; paths = []; circulations = [] }

-- what stands for a record where a list has none at an index; no definition of a figure depends on it
abbrev pub no_name : List ℕ
no_name = replicate 16 0

abbrev pub no_head : Head
no_head = record { name = no_name; monitoring_rto = 0; seconds = 0; monitoring_price = 0; nonmonitoring_price = 0 }

abbrev pub no_zone : Zone
no_zone = record { name = no_name; load = 0; losses = 0 }

abbrev pub no_unit : Unit
no_unit = record { name = no_name; zone = 0; output = 0 }

abbrev pub no_point : Point
no_point = record { name = no_name; sort = 0; place = Proxy; import = 0; export = 0; wheel_in = 0; wheel_out = 0 }

abbrev pub no_par : Par
no_par = record { name = no_name; class = 0; actual = pos 0; target = pos 0 }

abbrev pub no_factor : Factor
no_factor = record { target = 0; subject = 0; index = 0; factor = pos 0 }

abbrev pub no_path : Path
no_path = record { name = no_name; flow = pos 0; factor = pos 0 }

abbrev pub no_circulation : Circulation
no_circulation = record { flow = pos 0 }

-- the records at an index from 0
abbrev pub head : Content → Head
head c = get_or c.heads 0 no_head

abbrev pub zone : Content → ℕ → Zone
zone c i = get_or c.zones i no_zone

abbrev pub unit : Content → ℕ → Unit
unit c i = get_or c.units i no_unit

abbrev pub point : Content → ℕ → Point
point c i = get_or c.points i no_point

abbrev pub par : Content → ℕ → Par
par c i = get_or c.pars i no_par

abbrev pub path : Content → ℕ → Path
path c i = get_or c.paths i no_path

abbrev pub circulation : Content → Circulation
circulation c = get_or c.circulations 0 no_circulation

-- whether a record is the factor for a target, a subject and an index from 1
unfoldable pub bears : Factor → ℕ → ℕ → ℕ → Bool
bears f target subject index = eqb f.target target && (eqb f.subject subject && eqb f.index index)

-- the factor for a target, a subject and an index from 1. Each of those due stands in an accepted sheet just once
unfoldable pub factor_for : List Factor → ℕ → ℕ → ℕ → ℤ
factor_for [] target subject index = pos 0
factor_for (f ∷ fs) target subject index = cond (bears f target subject index) f.factor (factor_for fs target subject index)

abbrev pub only_if : {A : Type 0} → Bool → A → List A
only_if true a = a ∷ []
only_if false a = []

-- the record of a kind with the body b goes behind the others of its kind
unfoldable pub with_record : Content → ℕ → List ℕ → Content
with_record c kind b = record {
  heads = c.heads ++ only_if (eqb kind 1) (head_of b);
  zones = c.zones ++ only_if (eqb kind 2) (zone_of b);
  units = c.units ++ only_if (eqb kind 3) (unit_of b);
  points = c.points ++ only_if (eqb kind 4) (point_of b);
  pars = c.pars ++ only_if (eqb kind 5) (par_of b);
  factors = c.factors ++ only_if (eqb kind 6) (factor_of b);
  paths = c.paths ++ only_if (eqb kind 7) (path_of b);
  circulations = c.circulations ++ only_if (eqb kind 8) (circulation_of b);
}

-- how many records of a kind there are
abbrev pub count_of : Content → ℕ → ℕ
count_of c kind =
    by_kind kind 0
    (length c.heads
    ∷ length c.zones
    ∷ length c.units
    ∷ length c.points
    ∷ length c.pars
    ∷ length c.factors
    ∷ length c.paths
    ∷ length c.circulations
    ∷ [])

-- the names of a kind's records, in their order: factors and the circulation have none
unfoldable pub names_of : Content → ℕ → List (List ℕ)
names_of c kind =
    by_kind kind []
    (map (λ (h : Head). h.name) c.heads
    ∷ map (λ (z : Zone). z.name) c.zones
    ∷ map (λ (u : Unit). u.name) c.units
    ∷ map (λ (p : Point). p.name) c.points
    ∷ map (λ (p : Par). p.name) c.pars
    ∷ []
    ∷ map (λ (p : Path). p.name) c.paths
    ∷ [])
