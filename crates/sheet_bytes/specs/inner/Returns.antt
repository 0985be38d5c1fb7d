-- Records that are had back from their bytes.
use Rattle.std.specs.Prelude.{ℕ, ◌≡◌, List, [], ◌∷◌, length}
use Rattle.record_table.specs.Table.{body_length}
use Rattle.records.specs.Bodies.{head_of, zone_of, unit_of, point_of, par_of, factor_of, path_of, circulation_of}
use Rattle.records.specs.Content.{Content}
use Rattle.sheet_bytes.specs.SheetBytes.{head_body, zone_body, unit_body, point_body, par_body, factor_body, path_body, circulation_body}

-- the body of a record of a kind is as long as the kind's, and read again is the record
pub record Returns {A : Type 0} (kind : ℕ) (body : A → List ℕ) (of : List ℕ → A) (a : A) : Type 0 where
  pub long : length (body a) ≡ body_length kind
  pub same : of (body a) ≡ a

-- a fact of each element
abbrev pub Each : {A : Type 0} → (A → Type 0) → List A → Type 0
Each P [] = Unit
Each P (a ∷ l) = P a × Each P l

-- of each record of a content
pub record Returned (c : Content) : Type 0 where
  pub heads : Each (Returns 1 head_body head_of) c.heads
  pub zones : Each (Returns 2 zone_body zone_of) c.zones
  pub units : Each (Returns 3 unit_body unit_of) c.units
  pub points : Each (Returns 4 point_body point_of) c.points
  pub pars : Each (Returns 5 par_body par_of) c.pars
  pub factors : Each (Returns 6 factor_body factor_of) c.factors
  pub paths : Each (Returns 7 path_body path_of) c.paths
  pub circulations : Each (Returns 8 circulation_body circulation_of) c.circulations
