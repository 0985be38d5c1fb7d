-- Steps 3 to 6, from a target's generation-to-load flow to the market flow (5.4 to 5.7), and refusal 22. Flows are watts.
-- Three figures are rounded, each after its own sum: a target's B and generation-to-load flow, and what a class of PARs carries.
use Rattle.std.specs.Prelude.{ℕ, ◌+◌, Bool, cond, eqb, ℤ, pos, ◌+ℤ◌, ◌-ℤ◌, ◌*ℤ◌, length}
use Rattle.integers.specs.Sum.{sum_to}
use Rattle.quotient.specs.Rounded.{quotient, remainder}
use Rattle.rows.specs.Rows.{row, beyond}
use Rattle.records.specs.declared.Point.{Point}
use Rattle.records.specs.Codes.{nyiso, common, noncommon, unit_subject, zone_subject, point_subject, par_subject}
use Rattle.records.specs.Content.{Content, head, point, par, factor_for}
use Rattle.figures.specs.Balance.{zone_load, net_load, output, gross_output, net_generation, final_generation}

-- Target 0 is the flowgate, target k the k-th PAR. Indices of units, zones, points and PARs start at 0, in a factor's record at 1
unfoldable pub factor : Content → ℕ → ℕ → ℕ → ℤ
factor c target subject i = factor_for c.factors target subject (i + 1)

unfoldable pub par_factor : Content → ℕ → ℤ
par_factor c i = factor c 0 par_subject i

-- Step 3 (5.4), for a target
unfoldable pub output_term : Content → ℕ → ℕ → ℤ
output_term c target i = output c i *ℤ factor c target unit_subject i

-- A
unfoldable pub weighted_output : Content → ℕ → ℤ
weighted_output c target = sum_to (output_term c target) (length c.units)

unfoldable pub load_term : Content → ℕ → ℕ → ℤ
load_term c target z = zone_load c z *ℤ factor c target zone_subject z

-- N
unfoldable pub weighted_load : Content → ℕ → ℤ
weighted_load c target = sum_to (load_term c target) (length c.zones)

-- 10 × G × N
unfoldable pub first_dividend : Content → ℕ → ℤ
first_dividend c target = pos 10 *ℤ gross_output c *ℤ weighted_load c target

-- B
unfoldable pub load_share : Content → ℕ → ℤ
load_share c target = quotient (first_dividend c target) (net_load c)

unfoldable pub first_remainder : Content → ℕ → ℤ
first_remainder c target = remainder (first_dividend c target) (net_load c)

-- H
unfoldable pub gross_flow : Content → ℕ → ℤ
gross_flow c target = pos 10 *ℤ weighted_output c target -ℤ load_share c target

-- H × final generation
unfoldable pub second_dividend : Content → ℕ → ℤ
second_dividend c target = gross_flow c target *ℤ final_generation c

unfoldable pub generation_to_load : Content → ℕ → ℤ
generation_to_load c target = quotient (second_dividend c target) (net_generation c)

unfoldable pub second_remainder : Content → ℕ → ℤ
second_remainder c target = remainder (second_dividend c target) (net_generation c)

-- Step 4 (5.5); net schedule by document 02, request 5. Loads and generation are not reduced by wheels
unfoldable pub net_schedule : Point → ℤ
net_schedule p = pos p.import +ℤ pos p.wheel_in -ℤ pos p.export -ℤ pos p.wheel_out

-- a point's flow on a target, if the point is of that type
unfoldable pub schedule_term : Content → ℕ → ℕ → ℕ → ℤ
schedule_term c type target i = cond (eqb (point c i).sort type) (net_schedule (point c i) *ℤ factor c target point_subject i *ℤ pos 10) (pos 0)

unfoldable pub schedule_flow : Content → ℕ → ℕ → ℤ
schedule_flow c type target = sum_to (schedule_term c type target) (length c.points)

unfoldable pub parallel : Content → ℕ → ℤ
parallel c target = schedule_flow c noncommon target

unfoldable pub shadow : Content → ℕ → ℤ
shadow c target = schedule_flow c common target

-- Step 5 (5.6), for a class of PARs
unfoldable pub control_term : Content → ℕ → ℕ → ℤ
control_term c class i = cond (eqb (par c i).class class) (((par c i).actual -ℤ (par c i).target) *ℤ par_factor c i *ℤ pos 10) (pos 0)

unfoldable pub control : Content → ℕ → ℤ
control c class = sum_to (control_term c class) (length c.pars)

-- the PAR of index i is target i + 1
unfoldable pub carried_term : Content → ℕ → ℕ → ℤ
carried_term c class i = cond (eqb (par c i).class class) (par_factor c i *ℤ (generation_to_load c (i + 1) +ℤ parallel c (i + 1))) (pos 0)

unfoldable pub carried_sum : Content → ℕ → ℤ
carried_sum c class = sum_to (carried_term c class) (length c.pars)

unfoldable pub carried : Content → ℕ → ℤ
carried c class = quotient (carried_sum c class) (pos 10000)

unfoldable pub redirect : Content → ℕ → ℤ
redirect c class = carried c class -ℤ control c class

-- Step 6 (5.7). The non-common redirect is NYISO's alone
unfoldable pub nyiso_monitors : Content → Bool
nyiso_monitors c = eqb (head c).monitoring_rto nyiso

unfoldable pub non_common_redirect : Content → ℤ
non_common_redirect c = cond (nyiso_monitors c) (pos 0) (redirect c noncommon)

unfoldable pub market_flow : Content → ℤ
market_flow c = generation_to_load c 0 +ℤ parallel c 0 +ℤ shadow c 0 -ℤ redirect c common -ℤ non_common_redirect c

-- 22: the flow is outside ±10,000,000,000 W. It judges the settlement flow, which without paths is the market flow (document 02, request 6)
abbrev pub most_flow : ℕ
most_flow = 10000000000

unfoldable pub flow_row : ℤ → ℕ
flow_row flow = row 22 (beyond most_flow flow) 0
