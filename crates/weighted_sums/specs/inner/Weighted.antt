-- The weighted sums of steps 3 to 5 in one form: what each unit, point or PAR brings, times its factor on a target. N, over the zones, has its own in `figures`.
-- Subjects are a factor's. The class asked is a point's type or a PAR's class; units have none.
use Rattle.std.specs.Prelude.{ℕ, ◌≤◌, ◌≡◌, cond, List, eqb, ℤ, pos, ◌-ℤ◌, ◌*ℤ◌, length}
use Rattle.integers.specs.Sum.{sum_to}
use Rattle.due_factors.specs.Due.{how_many}
use Rattle.layout.specs.declared.Layout.{Layout}
use Rattle.records.specs.Codes.{unit_subject, zone_subject, point_subject, par_subject}
use Rattle.records.specs.Content.{Content, point, par}
use Rattle.sheet.specs.Sheet.{read_sheet, content_of, Accepted}
use Rattle.figures.specs.Balance.{output}
use Rattle.figures.specs.Flow.{factor, net_schedule}
use Rattle.zone_sums.specs.ByZone.{zone_loads}

-- an accepted sheet with its layout, and its zone loads
pub record Lent (s : List ℕ) (l : Layout) (array : List ℤ) : Type 0 where
  pub accepted : read_sheet s ≡ Accepted l
  pub loads : array ≡ zone_loads (content_of s)

-- a target, and a subject other than zones whose factors on it are due
pub record OnTarget (pars target subject : ℕ) : Type 0 where
  pub known : target ≤ pars
  pub low : 1 ≤ subject
  pub high : subject ≤ 4
  pub other : subject ≡ zone_subject → ⊥
  pub par : subject ≡ par_subject → target ≡ 0

-- ten times a record's power, if the record is of the class asked
unfoldable pub tenfold_in : ℕ → ℕ → ℤ → ℤ
tenfold_in of class power = cond (eqb of class) (power *ℤ pos 10) (pos 0)

-- a unit's output, ten times a point's net schedule, ten times what a PAR's actual flow has more than its target
unfoldable pub power_of : Content → ℕ → ℕ → ℕ → ℤ
power_of c subject class i =
    cond (eqb subject unit_subject) (output c i)
    (cond (eqb subject point_subject) (tenfold_in (point c i).sort class (net_schedule (point c i)))
    (tenfold_in (par c i).class class ((par c i).actual -ℤ (par c i).target)))

unfoldable pub weighted_term : Content → ℕ → ℕ → ℕ → ℕ → ℤ
weighted_term c subject class target i = power_of c subject class i *ℤ factor c target subject i

-- how many records a subject has
unfoldable pub members : Content → ℕ → ℕ
members c subject = how_many (length c.zones) (length c.units) (length c.points) (length c.pars) subject

unfoldable pub weighted_sum : Content → ℕ → ℕ → ℕ → ℤ
weighted_sum c subject class target = sum_to (weighted_term c subject class target) (members c subject)
