-- Document 01's worked figures, computed: flows with their remainders, payments, sheet S; another sheet; sheet S with paths; each of refusals 16 to 22 and the order of 16 to 21.
use Prim.Native.Nat.{ℕ}
use mathlib.Core.Path.{◌≡◌, refl}
use mathlib.Core.List.{List, [], ◌∷◌, map}
use lib.IntN.{ℤ, pos, negsuc}
use Rattle.integers.specs.Sum.{sum_to, all_to}
use Rattle.quotient.specs.Rounded.{quotient, remainder}
use Rattle.records.specs.declared.Head.{Head}
use Rattle.records.specs.declared.Zone.{Zone}
use Rattle.records.specs.declared.Unit.{Unit}
use Rattle.records.specs.declared.Place.{Place}
use Rattle.records.specs.declared.Place.TheVariants.{Proxy, Line}
use Rattle.records.specs.declared.Point.{Point}
use Rattle.records.specs.declared.Par.{Par}
use Rattle.records.specs.declared.Factor.{Factor}
use Rattle.records.specs.Codes.{nyiso, pjm, common, noncommon}
use Rattle.records.specs.Content.{Content, no_name, head, bears, factor_for}
use Rattle.figures.specs.Balance.{same_place, import_at, imports, export_at, exports, total_load, zone_load, net_load, final_load, output, output_in, zone_output, zone_generation, net_generation, final_generation, gross_output, gross_load, none_below_zero, balance_row}
use Rattle.figures.specs.Flow.{factor, par_factor, output_term, weighted_output, load_term, weighted_load, first_dividend, load_share, first_remainder, gross_flow, second_dividend, generation_to_load, second_remainder, net_schedule, schedule_term, schedule_flow, parallel, shadow, control_term, control, carried_term, carried_sum, carried, redirect, nyiso_monitors, non_common_redirect, market_flow, flow_row}
use Rattle.figures.specs.Lake.{has_paths, path_term, path_sum, impact, adjusted_flow, settlement_flow}
use Rattle.figures.specs.Payment.{in_watts, difference, price, amount_of, amount, payment}

-- records, most of them without a name: no figure depends on it
abbrev pub head_of : ℕ → ℕ → ℕ → ℕ → Head
head_of rto seconds monitoring nonmonitoring = record { name = no_name; monitoring_rto = rto; seconds = seconds; monitoring_price = monitoring; nonmonitoring_price = nonmonitoring }

abbrev pub zone_of : ℕ → ℕ → Zone
zone_of load losses = record { name = no_name; load = load; losses = losses }

abbrev pub unit_of : ℕ → ℕ → Unit
unit_of zone output = record { name = no_name; zone = zone; output = output }

abbrev pub wheel_of : ℕ → Place → ℕ → ℕ → ℕ → ℕ → Point
wheel_of type place import export into out = record { name = no_name; sort = type; place = place; import = import; export = export; wheel_in = into; wheel_out = out }

abbrev pub point_of : ℕ → Place → ℕ → ℕ → Point
point_of type place import export = wheel_of type place import export 0 0

abbrev pub par_of : ℕ → ℤ → ℤ → Par
par_of class actual target = record { name = no_name; class = class; actual = actual; target = target }

abbrev pub factor_of : ℕ → ℕ → ℕ → ℤ → Factor
factor_of target subject index x = record { target = target; subject = subject; index = index; factor = x }

-- a content without PARs and paths
abbrev pub plain : Head → List Zone → List Unit → List Point → List Factor → Content
plain h zones units points factors = record { heads = h ∷ []; zones = zones; units = units; points = points; pars = []; factors = factors; paths = []; circulations = [] }

-- a content with paths, each a flow and a factor, and a circulation in addition
abbrev pub on_lake : Content → List (ℤ × ℤ) → ℤ → Content
on_lake c paths circulation = record {
  heads = c.heads;
  zones = c.zones;
  units = c.units;
  points = c.points;
  pars = c.pars;
  factors = c.factors;
  paths = map (λ (p : ℤ × ℤ). record { name = no_name; flow = p.0; factor = p.1 }) paths;
  circulations = record { flow = circulation } ∷ [];
}

-- Monitoring PJM, 900 s, prices 400,000 and 100,000
abbrev pub dear : Head
dear = head_of 2 900 400000 100000

-- the numbers of the printed statement, in its order
unfoldable pub printed : Content → ℤ → List ℤ
unfolding sum_to quotient remainder bears factor_for
    same_place import_at imports export_at exports total_load zone_load net_load output output_in zone_output zone_generation net_generation final_generation gross_output
    factor par_factor output_term weighted_output load_term weighted_load first_dividend load_share first_remainder gross_flow
    second_dividend generation_to_load second_remainder net_schedule schedule_term schedule_flow parallel shadow control_term control carried_term carried_sum
    carried redirect nyiso_monitors non_common_redirect market_flow
    has_paths path_term path_sum impact adjusted_flow settlement_flow
    in_watts difference price amount_of amount payment
printed c entitlement =
    generation_to_load c 0
    ∷ first_remainder c 0
    ∷ second_remainder c 0
    ∷ parallel c 0
    ∷ shadow c 0
    ∷ redirect c common
    ∷ non_common_redirect c
    ∷ market_flow c
    ∷ in_watts entitlement
    ∷ price (head c) (difference c entitlement)
    ∷ amount c entitlement
    ∷ payment (head c) (amount c entitlement) nyiso
    ∷ payment (head c) (amount c entitlement) pjm
    ∷ []

-- Sheet S, with its PAR's class and its Monitoring RTO left open
abbrev pub like_s : ℕ → ℕ → Content
like_s rto class = record {
  heads = head_of rto 300 5000 2000 ∷ [];
  zones = zone_of 900 100 ∷ zone_of 1950 50 ∷ [];
  units = unit_of 1 1200 ∷ unit_of 2 2000 ∷ [];
  points = point_of noncommon (Line 2) 500 0 ∷ point_of common Proxy 300 200 ∷ [];
  pars = par_of class (pos 400) (pos 380) ∷ [];
  factors = factor_of 0 1 1 (pos 3000)
      ∷ factor_of 0 1 2 (negsuc 999)
      ∷ factor_of 0 2 1 (pos 500)
      ∷ factor_of 0 2 2 (negsuc 199)
      ∷ factor_of 0 3 1 (pos 1000)
      ∷ factor_of 0 3 2 (pos 400)
      ∷ factor_of 0 4 1 (pos 2500)
      ∷ factor_of 1 1 1 (pos 1000)
      ∷ factor_of 1 1 2 (pos 0)
      ∷ factor_of 1 2 1 (pos 0)
      ∷ factor_of 1 2 2 (pos 0)
      ∷ factor_of 1 3 1 (pos 2000)
      ∷ factor_of 1 3 2 (pos 0)
      ∷ [];
  paths = [];
  circulations = [];
}

abbrev pub sheet_s : Content
sheet_s = like_s 2 common

-- Sheet S with wheels: at the line 70 in and 30 out, at the proxy 20 in and 50 out. The net schedules are 540 and 70, loads and
-- generation those of sheet S
abbrev pub wheeling : Content
wheeling = record {
  heads = sheet_s.heads;
  zones = sheet_s.zones;
  units = sheet_s.units;
  points = wheel_of noncommon (Line 2) 500 0 70 30 ∷ wheel_of common Proxy 300 200 20 50 ∷ [];
  pars = sheet_s.pars;
  factors = sheet_s.factors;
  paths = [];
  circulations = [];
}

-- A line with an export, two PARs of one class, and a common point that acts on each PAR: here G and net generation differ, a PAR's shadow
-- flow is not zero, and the two common PARs' shares rounded one by one would carry one watt more
abbrev pub exchanging : ℕ → Content
exchanging rto = record {
  heads = head_of rto 300 5000 2000 ∷ [];
  zones = zone_of 900 103 ∷ zone_of 1950 50 ∷ [];
  units = unit_of 1 1200 ∷ unit_of 2 2000 ∷ [];
  points = point_of noncommon (Line 2) 500 70 ∷ point_of common Proxy 300 200 ∷ [];
  pars = par_of common (pos 400) (pos 380) ∷ par_of common (negsuc 249) (negsuc 239) ∷ par_of noncommon (pos 90) (pos 60) ∷ [];
  factors = factor_of 0 1 1 (pos 3000)
      ∷ factor_of 0 1 2 (negsuc 999)
      ∷ factor_of 0 2 1 (pos 500)
      ∷ factor_of 0 2 2 (negsuc 199)
      ∷ factor_of 0 3 1 (pos 1000)
      ∷ factor_of 0 3 2 (pos 400)
      ∷ factor_of 0 4 1 (pos 2500)
      ∷ factor_of 0 4 2 (negsuc 1506)
      ∷ factor_of 0 4 3 (pos 777)
      ∷ factor_of 1 1 1 (pos 1000)
      ∷ factor_of 1 1 2 (pos 7)
      ∷ factor_of 1 2 1 (pos 3)
      ∷ factor_of 1 2 2 (pos 0)
      ∷ factor_of 1 3 1 (pos 2000)
      ∷ factor_of 1 3 2 (pos 300)
      ∷ factor_of 2 1 1 (pos 11)
      ∷ factor_of 2 1 2 (negsuc 499)
      ∷ factor_of 2 2 1 (pos 0)
      ∷ factor_of 2 2 2 (pos 9)
      ∷ factor_of 2 3 1 (negsuc 1299)
      ∷ factor_of 2 3 2 (pos 1000)
      ∷ factor_of 3 1 1 (pos 101)
      ∷ factor_of 3 1 2 (pos 203)
      ∷ factor_of 3 2 1 (pos 307)
      ∷ factor_of 3 2 2 (negsuc 408)
      ∷ factor_of 3 3 1 (pos 503)
      ∷ factor_of 3 3 2 (negsuc 600)
      ∷ [];
  paths = [];
  circulations = [];
}

-- a market flow of 10,000,000 W
abbrev pub level : Content
level = plain dear (zone_of 100 0 ∷ []) (unit_of 1 100 ∷ []) [] (factor_of 0 1 1 (pos 10000) ∷ factor_of 0 2 1 (pos 0) ∷ [])

-- content, entitlement, and the numbers printed
abbrev statements : List (Content × ℤ × List ℤ)
statements =
    (sheet_s, pos 100, pos 12600000 ∷ pos 0 ∷ pos 0 ∷ pos 5000000 ∷ pos 400000 ∷ pos 4812500 ∷ pos 0 ∷ pos 13187500 ∷ pos 10000000 ∷ pos 5000 ∷ pos 1328125 ∷ negsuc 1328124 ∷ pos 1328125 ∷ [])
    ∷ (wheeling, pos 100, pos 12600000 ∷ pos 0 ∷ pos 0 ∷ pos 5400000 ∷ pos 280000 ∷ pos 5012500 ∷ pos 0 ∷ pos 13267500 ∷ pos 10000000 ∷ pos 5000 ∷ pos 1361458 ∷ negsuc 1361457 ∷ pos 1361458 ∷ [])
    ∷ (like_s 2 noncommon, pos 100, pos 12600000 ∷ pos 0 ∷ pos 0 ∷ pos 5000000 ∷ pos 400000 ∷ pos 0 ∷ pos 4812500 ∷ pos 13187500 ∷ pos 10000000 ∷ pos 5000 ∷ pos 1328125 ∷ negsuc 1328124 ∷ pos 1328125 ∷ [])
    ∷ (like_s 1 noncommon, pos 100, pos 12600000 ∷ pos 0 ∷ pos 0 ∷ pos 5000000 ∷ pos 400000 ∷ pos 0 ∷ pos 0 ∷ pos 18000000 ∷ pos 10000000 ∷ pos 5000 ∷ pos 3333333 ∷ pos 3333333 ∷ negsuc 3333332 ∷ [])
    ∷ (exchanging pjm, pos 100, pos 12566134 ∷ negsuc 826 ∷ pos 1210 ∷ pos 4300000 ∷ pos 400000 ∷ pos 6590213 ∷ pos 602573 ∷ pos 10073348 ∷ pos 10000000 ∷ pos 5000 ∷ pos 30562 ∷ negsuc 30561 ∷ pos 30562 ∷ [])
    ∷ (exchanging pjm, pos 101, pos 12566134 ∷ negsuc 826 ∷ pos 1210 ∷ pos 4300000 ∷ pos 400000 ∷ pos 6590213 ∷ pos 602573 ∷ pos 10073348 ∷ pos 10100000 ∷ pos 2000 ∷ negsuc 4441 ∷ pos 4442 ∷ negsuc 4441 ∷ [])
    ∷ (exchanging nyiso, pos 100, pos 12566134 ∷ negsuc 826 ∷ pos 1210 ∷ pos 4300000 ∷ pos 400000 ∷ pos 6590213 ∷ pos 0 ∷ pos 10675921 ∷ pos 10000000 ∷ pos 5000 ∷ pos 281634 ∷ pos 281634 ∷ negsuc 281633 ∷ [])
    ∷ (level, pos 100, pos 10000000 ∷ pos 0 ∷ pos 0 ∷ pos 0 ∷ pos 0 ∷ pos 0 ∷ pos 0 ∷ pos 10000000 ∷ pos 10000000 ∷ pos 0 ∷ pos 0 ∷ pos 0 ∷ pos 0 ∷ [])
    ∷ []

pub printed_statements : map (λ (r : Content × ℤ × List ℤ). (r.0, r.1, printed r.0 r.1)) statements ≡ statements
unfolding printed
printed_statements = refl

-- Sheet S with paths: its market flow is 13,187,500 W. The terms are 360 × the first factor × 10, −240 × 500 × 10, 80 × −300 × 10 and 40 × 200 × 10
abbrev pub bordering : ℤ → Content
bordering first = on_lake sheet_s ((pos 100, first) ∷ (negsuc 49, pos 500) ∷ (pos 30, negsuc 299) ∷ (pos 20, pos 200) ∷ []) (pos 40)

abbrev pub lowered : Content
lowered = bordering (negsuc 999)

abbrev pub raised : Content
raised = bordering (pos 1000)

-- and with a circulation of −1 alone: a term is 10 × its factor
abbrev pub tens : ℤ → ℤ → Content
tens first second = on_lake sheet_s ((pos 0, first) ∷ (pos 0, second) ∷ (pos 0, pos 0) ∷ (pos 0, pos 0) ∷ []) (negsuc 0)

-- content, entitlement; path sum, impact, adjusted flow, settlement flow, amount. Impacts of 2.5, 7.5 and −2.5 W are rounded to even; two of 2.5 W are 5 W
abbrev lakes : List (Content × ℤ × List ℤ)
lakes =
    (lowered, pos 100, negsuc 4959999 ∷ negsuc 1239999 ∷ pos 11947500 ∷ pos 11947500 ∷ pos 811458 ∷ [])
    ∷ (lowered, pos 125, negsuc 4959999 ∷ negsuc 1239999 ∷ pos 11947500 ∷ pos 12500000 ∷ pos 0 ∷ [])
    ∷ (lowered, pos 135, negsuc 4959999 ∷ negsuc 1239999 ∷ pos 11947500 ∷ pos 13187500 ∷ negsuc 52082 ∷ [])
    ∷ (raised, pos 100, pos 2240000 ∷ pos 560000 ∷ pos 13747500 ∷ pos 13187500 ∷ pos 1328125 ∷ [])
    ∷ (raised, pos 135, pos 2240000 ∷ pos 560000 ∷ pos 13747500 ∷ pos 13500000 ∷ pos 0 ∷ [])
    ∷ (raised, pos 150, pos 2240000 ∷ pos 560000 ∷ pos 13747500 ∷ pos 13747500 ∷ negsuc 208749 ∷ [])
    ∷ (tens (pos 1) (pos 0), pos 150, pos 10 ∷ pos 2 ∷ pos 13187502 ∷ pos 13187502 ∷ negsuc 302082 ∷ [])
    ∷ (tens (pos 3) (pos 0), pos 150, pos 30 ∷ pos 8 ∷ pos 13187508 ∷ pos 13187508 ∷ negsuc 302081 ∷ [])
    ∷ (tens (negsuc 0) (pos 0), pos 100, negsuc 9 ∷ negsuc 1 ∷ pos 13187498 ∷ pos 13187498 ∷ pos 1328124 ∷ [])
    ∷ (tens (pos 1) (pos 1), pos 150, pos 20 ∷ pos 5 ∷ pos 13187505 ∷ pos 13187505 ∷ negsuc 302081 ∷ [])
    ∷ (tens (pos 1) (negsuc 0), pos 100, pos 0 ∷ pos 0 ∷ pos 13187500 ∷ pos 13187500 ∷ pos 1328125 ∷ [])
    ∷ []

pub settled_lakes : map (λ (r : Content × ℤ × List ℤ). (r.0, r.1, path_sum r.0 ∷ impact r.0 ∷ adjusted_flow r.0 ∷ settlement_flow r.0 (in_watts r.1) ∷ amount r.0 r.1 ∷ [])) lakes ≡ lakes
unfolding printed
settled_lakes = refl

-- zone loads 1 and 2, factors 1 and 0; one unit, output 1, factor 1
abbrev pub thirds : Content
thirds = plain dear (zone_of 1 0 ∷ zone_of 2 0 ∷ []) (unit_of 1 1 ∷ []) [] (factor_of 0 1 1 (pos 1) ∷ factor_of 0 2 1 (pos 1) ∷ factor_of 0 2 2 (pos 0) ∷ [])

-- zone loads 1 and 3, factors 1 and 0; one unit, output 5, factor 0; proxy export 1
abbrev pub exporting : Content
exporting =
    plain dear (zone_of 1 0 ∷ zone_of 3 0 ∷ []) (unit_of 1 5 ∷ []) (point_of common Proxy 0 1 ∷ [])
    (factor_of 0 1 1 (pos 0) ∷ factor_of 0 2 1 (pos 1) ∷ factor_of 0 2 2 (pos 0) ∷ factor_of 0 3 1 (pos 0) ∷ [])

-- the first with two more such units: their shares of 20/3 W would be 21 W, rounded one by one
abbrev pub three_units : Content
three_units =
    plain dear (zone_of 1 0 ∷ zone_of 2 0 ∷ []) (unit_of 1 1 ∷ unit_of 1 1 ∷ unit_of 2 1 ∷ []) []
    (factor_of 0 1 1 (pos 1) ∷ factor_of 0 1 2 (pos 1) ∷ factor_of 0 1 3 (pos 1) ∷ factor_of 0 2 1 (pos 1) ∷ factor_of 0 2 2 (pos 0) ∷ [])

-- content; generation-to-load flow, first and second remainder
abbrev flows : List (Content × ℤ × ℤ × ℤ)
flows = (thirds, pos 7, pos 1, pos 0) ∷ (exporting, negsuc 9, pos 2, pos 2) ∷ (three_units, pos 20, pos 0, pos 0) ∷ []

pub computed_flows : map (λ (r : Content × ℤ × ℤ × ℤ). (r.0, generation_to_load r.0 0, first_remainder r.0 0, second_remainder r.0 0)) flows ≡ flows
unfolding printed
computed_flows = refl

-- head, difference, amount
abbrev amounts : List (Head × ℤ × ℤ)
amounts =
    (dear, pos 1, pos 100)
    ∷ (dear, negsuc 0, negsuc 24)
    ∷ (head_of 2 300 6000 6000, pos 1, pos 0)
    ∷ (head_of 2 300 6000 6000, negsuc 0, pos 0)
    ∷ (head_of 2 300 6000 6000, pos 3, pos 2)
    ∷ (head_of 2 300 6000 6000, negsuc 2, negsuc 1)
    ∷ []

pub computed_amounts : map (λ (r : Head × ℤ × ℤ). (r.0, r.1, amount_of r.0 r.1)) amounts ≡ amounts
unfolding printed
computed_amounts = refl

-- one zone and one unit
abbrev single : ℕ → ℕ → ℕ → List Point → Content
single load losses output points = plain dear (zone_of load losses ∷ []) (unit_of 1 output ∷ []) points []

-- two zones, and a unit in each
abbrev double : ℕ → ℕ → ℕ → ℕ → List Point → Content
double load other output second points = plain dear (zone_of load 0 ∷ zone_of other 0 ∷ []) (unit_of 1 output ∷ unit_of 2 second ∷ []) points []

-- the first of refusals 16 to 21 or 0, and all that it goes through
unfoldable pub refused : Content → ℕ
unfolding printed all_to final_load gross_load none_below_zero balance_row
refused c = balance_row c

-- each row just met, and just not met
abbrev balances : List (Content × ℕ)
balances =
    (single 2000000 0 2000000 [], 0)
    ∷ (single 2000000 1 1 [], 16)
    ∷ (double 1 1 2000000 1 [], 16)
    ∷ (double 5 2 1 1 (point_of common (Line 2) 2 0 ∷ []), 0)
    ∷ (double 5 1 1 1 (point_of common (Line 2) 2 0 ∷ []), 17)
    ∷ (single 2 0 1 (point_of noncommon Proxy 1 0 ∷ []), 0)
    ∷ (single 1 0 1 (point_of noncommon Proxy 1 0 ∷ []), 18)
    ∷ (double 1 1 5 2 (point_of noncommon (Line 2) 0 2 ∷ []), 0)
    ∷ (double 1 1 5 1 (point_of noncommon (Line 2) 0 2 ∷ []), 19)
    ∷ (single 1 0 0 [], 20)
    ∷ (single 1 0 1 (point_of common Proxy 0 1 ∷ []), 0)
    ∷ (single 1 0 1 (point_of common Proxy 0 2 ∷ []), 21)
    ∷ []

-- contents that meet the next row too: the lower number wins
abbrev orders : List (Content × ℕ)
orders =
    (double 2000000 1 1 1 (point_of common (Line 2) 2 0 ∷ []), 16)
    ∷ (single 1 0 1 (point_of common (Line 1) 2 0 ∷ []), 17)
    ∷ (single 1 0 1 (point_of common Proxy 1 0 ∷ point_of common (Line 1) 0 2 ∷ []), 18)
    ∷ (double 1 1 2 0 (point_of common (Line 2) 0 2 ∷ []), 19)
    ∷ (single 1 0 0 (point_of common Proxy 0 1 ∷ []), 20)
    ∷ []

pub computed_balances : map (λ (r : Content × ℕ). (r.0, balance_row r.0)) balances ≡ balances
unfolding refused
computed_balances = refl

pub computed_orders : map (λ (r : Content × ℕ). (r.0, balance_row r.0)) orders ≡ orders
unfolding refused
computed_orders = refl

-- a market flow, and refusal 22 or 0
abbrev outermost : List (ℤ × ℕ)
outermost = (pos 10000000000, 0) ∷ (pos 10000000001, 22) ∷ (negsuc 9999999999, 0) ∷ (negsuc 10000000000, 22) ∷ []

pub computed_rows_22 : map (λ (r : ℤ × ℕ). (r.0, flow_row r.0)) outermost ≡ outermost
unfolding flow_row
computed_rows_22 = refl
