-- The factors that are due, in their order (document 01, 'The interval sheet').
use Rattle.std.specs.Prelude.{ℕ, zero, suc, ◌+◌, ◌≤◌, ◌<◌, ◌≡◌, List, [], ◌++◌, cond, eqb, length}
use Rattle.fields.specs.Lists.{tab}
use Rattle.records.specs.Codes.{unit_subject, zone_subject, point_subject, par_subject}
use Rattle.records.specs.Content.{Content}
use Rattle.due_factors.specs.declared.Counts.{Counts}
use Rattle.due_factors.specs.declared.Due.{Due}

-- how many zones, units, points and PARs a sheet has
abbrev pub counts_of : Content → Counts
counts_of c = record { zones = length c.zones; units = length c.units; points = length c.points; pars = length c.pars }

-- a factor's target, subject and index, the last counted from 1
abbrev pub key : ℕ → ℕ → ℕ → Due
key target subject i = record { target = target; subject = subject; index = i + 1 }

-- all of a subject, by index
abbrev pub run : ℕ → ℕ → ℕ → List Due
run target subject many = tab (key target subject) many

-- all units, zones, points
unfoldable pub each : Counts → ℕ → List Due
each n target = run target unit_subject n.units ++ (run target zone_subject n.zones ++ run target point_subject n.points)

-- for target 0: all units, zones, points, PARs
unfoldable pub flowgate : Counts → List Due
flowgate n = each n 0 ++ run 0 par_subject n.pars

-- for each of the first PARs as target: all units, zones, points
unfoldable pub per_par : Counts → ℕ → List Due
per_par n zero = []
per_par n (suc pars) = per_par n pars ++ each n (suc pars)

unfoldable pub due_list : Counts → List Due
due_list n = flowgate n ++ per_par n n.pars

-- what is due of a sheet with these records
abbrev pub due : Content → List Due
due c = due_list (counts_of c)

abbrev pub no_due : Due
no_due = record { target = 0; subject = 0; index = 0 }

-- how many there are of a subject
unfoldable pub how_many : ℕ → ℕ → ℕ → ℕ → ℕ → ℕ
how_many zones units points pars subject =
    cond (eqb subject unit_subject) units (cond (eqb subject zone_subject) zones (cond (eqb subject point_subject) points pars))

-- a factor that is due, its index counted from 0
pub record Asked (zones units points pars target subject i : ℕ) : Type 0 where
  pub known : target ≤ pars
  pub low : 1 ≤ subject
  pub high : subject ≤ 4
  pub par : subject ≡ par_subject → target ≡ 0
  pub index : i < how_many zones units points pars subject
