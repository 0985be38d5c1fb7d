-- Where the records of a sheet stand, by how many there are of each kind.
use Rattle.std.specs.Prelude.{ℕ, zero, suc, ◌+◌, ◌*◌, ◌≤◌, Bool, true, false, List, [], ◌∷◌, eqb, drop}
use Rattle.fields.specs.Lists.{tab}
use Rattle.record_table.specs.Table.{by_kind, head_kind, path_kind, circulation_kind, last_kind, body_in}
use Rattle.record_table.specs.inner.Sizes.{size}
use Rattle.records.specs.Bodies.{head_of, zone_of, unit_of, point_of, par_of, factor_of, path_of, circulation_of}
use Rattle.records.specs.Content.{Content}
use Rattle.due_factors.specs.declared.Counts.{Counts}
use Rattle.due_factors.specs.declared.Due.{Due}
use Rattle.due_factors.specs.Due.{due_list}
use Rattle.due_factors.specs.inner.Places.{Few}
use Rattle.layout.specs.declared.Layout.{Layout}

abbrev pub one : Bool → ℕ
one true = 1
one false = 0

abbrev pub no_records : Layout
no_records = record { heads = 0; zones = 0; units = 0; points = 0; pars = 0; factors = 0; paths = 0; circulations = 0 }

-- how many there are of a kind
abbrev pub counts : Layout → List ℕ
counts l = l.heads ∷ l.zones ∷ l.units ∷ l.points ∷ l.pars ∷ l.factors ∷ l.paths ∷ l.circulations ∷ []

abbrev pub count : Layout → ℕ → ℕ
count l kind = by_kind kind 0 (counts l)

-- those that what is due goes by
abbrev pub counts_in : Layout → Counts
counts_in l = record { zones = l.zones; units = l.units; points = l.points; pars = l.pars }

abbrev pub due_of : Layout → List Due
due_of l = due_list (counts_in l)

-- no more than a sheet may have
pub record Allowed (l : Layout) : Type 0 where
  pub heads : l.heads ≤ head_kind.most
  pub few : Few (counts_in l)
  pub paths : l.paths ≤ path_kind.most
  pub circulations : l.circulations ≤ circulation_kind.most

-- one more of a kind
unfoldable pub counted : Layout → ℕ → Layout
counted l kind = record {
  heads = l.heads + one (eqb kind 1);
  zones = l.zones + one (eqb kind 2);
  units = l.units + one (eqb kind 3);
  points = l.points + one (eqb kind 4);
  pars = l.pars + one (eqb kind 5);
  factors = l.factors + one (eqb kind 6);
  paths = l.paths + one (eqb kind 7);
  circulations = l.circulations + one (eqb kind 8);
}

-- where the records of a kind begin: kinds never fall along the sheet, so behind all records of the kinds below
unfoldable pub first_of : Layout → ℕ → ℕ
first_of l zero = 0
first_of l (suc kind) = first_of l kind + size kind * count l kind

-- where the i-th record of a kind begins, from 0
abbrev pub start_of : Layout → ℕ → ℕ → ℕ
start_of l kind i = first_of l kind + size kind * i

-- where the last record ends
abbrev pub extent : Layout → ℕ
extent l = first_of l (last_kind + 1)

-- the body of the i-th record of a kind
abbrev pub body_at : List ℕ → Layout → ℕ → ℕ → List ℕ
body_at s l kind i = body_in kind (drop (start_of l kind i + 1) s)

-- what the records at these places hold
unfoldable pub content_at : List ℕ → Layout → Content
content_at s l = record {
  heads = tab (λ i. head_of (body_at s l 1 i)) l.heads;
  zones = tab (λ i. zone_of (body_at s l 2 i)) l.zones;
  units = tab (λ i. unit_of (body_at s l 3 i)) l.units;
  points = tab (λ i. point_of (body_at s l 4 i)) l.points;
  pars = tab (λ i. par_of (body_at s l 5 i)) l.pars;
  factors = tab (λ i. factor_of (body_at s l 6 i)) l.factors;
  paths = tab (λ i. path_of (body_at s l 7 i)) l.paths;
  circulations = tab (λ i. circulation_of (body_at s l 8 i)) l.circulations;
}
