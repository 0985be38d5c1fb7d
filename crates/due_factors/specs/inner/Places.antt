-- Where the factors that are due stand in their list.
use Rattle.std.specs.Prelude.{ℕ, suc, ◌+◌, ◌*◌, ◌-◌, ◌/◌, ◌%◌, ◌≤◌, Bool, ◌&&◌, cond, List, [], ◌∷◌, eqb, ltb, get_or, drop}
use Rattle.records.specs.Codes.{unit_subject, zone_subject, point_subject}
use Rattle.record_table.specs.Table.{zone_kind, unit_kind, point_kind, par_kind}
use Rattle.due_factors.specs.declared.Counts.{Counts}
use Rattle.due_factors.specs.declared.Due.{Due}
use Rattle.due_factors.specs.declared.Standing.{Standing}
use Rattle.due_factors.specs.Due.{due_list, no_due}

-- no more than a sheet may have
pub record Few (n : Counts) : Type 0 where
  pub zones_most : n.zones ≤ zone_kind.most
  pub units_most : n.units ≤ unit_kind.most
  pub points_most : n.points ≤ point_kind.most
  pub pars_most : n.pars ≤ par_kind.most

-- how many factors each target has but for those of PARs
abbrev pub every : Counts → ℕ
every n = n.units + n.zones + n.points

-- how many PARs have a factor on a target: all on the flowgate, none on a PAR
abbrev pub pars_on : ℕ → ℕ → ℕ
pars_on pars target = cond (eqb target 0) pars 0

-- how many factors a target has
abbrev pub own : Counts → ℕ → ℕ
own n target = every n + pars_on n.pars target

-- where a subject's factors begin among a target's
unfoldable pub offset : Counts → ℕ → ℕ
offset n subject =
    cond (eqb subject unit_subject) 0 (cond (eqb subject zone_subject) n.units (cond (eqb subject point_subject) (n.units + n.zones) (every n)))

-- where a target's factors begin
unfoldable pub start : Counts → ℕ → ℕ
start n target = cond (eqb target 0) 0 (every n + n.pars + (target - 1) * every n)

-- the target of the factor that is due behind k others, and how many of that target's stand before it
unfoldable pub standing : Counts → ℕ → Standing
standing n k =
    cond (ltb k (every n + n.pars))
    (record { target = 0; behind = k })
    (record { target = (k - (every n + n.pars)) / every n + 1; behind = (k - (every n + n.pars)) % every n })

unfoldable pub same : Due → Due → Bool
same d e = eqb d.target e.target && (eqb d.subject e.subject && eqb d.index e.index)

-- the place of the first factor of a list that is this one
unfoldable pub place_in : List Due → Due → ℕ
place_in [] d = 0
place_in (e ∷ es) d = cond (same e d) 0 (suc (place_in es d))

-- how many factors at the front of a list have this one's target and subject
unfoldable pub alike : Due → List Due → ℕ
alike d [] = 0
alike d (e ∷ es) = cond (eqb e.target d.target && eqb e.subject d.subject) (suc (alike d es)) 0

-- behind the factor that is due behind k others, how many more of its target and subject are due
unfoldable pub more_of_run : Counts → ℕ → ℕ
more_of_run n k = alike (get_or (due_list n) k no_due) (drop (k + 1) (due_list n))
