-- Sheet S, without paths and with them, passes rows 1 to 13, 28 and 16 to 22: what is proved of accepted sheets speaks of something.
use Prim.Native.Nat.{ℕ, zero, suc, ◌≤◌, ◌<◌}
use native.Mathlib.Omega.{arith}
use mathlib.Core.Path.{◌≡◌, refl}
use mathlib.Core.Bool.{Bool, true, false, cond}
use mathlib.Core.List.{List, [], ◌∷◌}
use lib.Dec.{lit≤}
use lib.IntN.{pos, nat_abs}
use lib.ListN.{length, get_or}
use Rattle.fields.specs.Lists.{tab}
use Rattle.due_factors.specs.Due.{each, flowgate, per_par, due_list, due}
use Rattle.records.specs.declared.Place.TheVariants.{Proxy, Line}
use Rattle.records.specs.declared.Factor.{Factor}
use Rattle.records.specs.Content.{Content, head, no_zone, no_unit, no_point, no_par, no_path, no_circulation, bears, factor_for}
use Rattle.record_rows.specs.inner.Valid.{HeadFits, ZoneFits, UnitFits, LineFits, PointFits, ParFits, PathFits, CirculationFits, Lake, none, all, Valid}
use Rattle.figures.specs.Balance.{balance_row}
use Rattle.figures.specs.Flow.{flow_row}
use Rattle.figures.specs.Lake.{settlement_flow}
use Rattle.figures.specs.Payment.{in_watts}
use Rattle.figures.proofs.Examples.{printed, refused, sheet_s, lowered}

-- what holds of every element holds at every index
abbrev pub All : {A : Type 0} → (A → Type 0) → List A → Type 0
All P [] = Unit {0}
All P (x ∷ xs) = P x × All P xs

pub at_each : {A : Type 0} (P : A → Type 0) (d : A) (xs : List A) → All P xs → (i : ℕ) → i < length xs → P (get_or xs i d)
at_each P d [] h i l = absurd (omega arith)
at_each P d (x ∷ xs) h zero l = h.0
at_each P d (x ∷ xs) h (suc i) l = at_each P d xs h.1 i (omega arith)

-- factors that are looked up are in the list, or 0
pub record FactorFits (f : Factor) : Type 0 where
  pub factor : nat_abs f.factor ≤ 10000

pub looked_up : (fs : List Factor) → All FactorFits fs → (target subject index : ℕ) → nat_abs (factor_for fs target subject index) ≤ 10000
unfolding factor_for
looked_up [] h target subject index = omega arith
looked_up (f ∷ fs) h target subject index = by (bears f target subject index) (looked_up fs h.1 target subject index)
  where
    by : (b : Bool) → nat_abs (factor_for fs target subject index) ≤ 10000 → nat_abs (cond b f.factor (factor_for fs target subject index)) ≤ 10000
    by true r = h.0.factor
    by false r = r

-- a point's place
pub line_fits : (zones k : ℕ) → 1 ≤ k → k ≤ zones → (n : ℕ) → Line k ≡ Line n → LineFits zones n
line_fits zones k a b n e = let q : k ≡ n = cc in omega arith

pub proxy_fits : (zones n : ℕ) → Proxy ≡ Line n → LineFits zones n
proxy_fits zones n e = let q : ◌≡◌ {A = ℕ} 0 1 = cc in omega arith

-- how many factors are due
unfoldable pub due_count : Content → ℕ
unfolding tab each flowgate per_par due_list
due_count c = length (due c)

-- what passes rows 1 to 13 and 28, from a test of each record
pub record Tested (c : Content) : Type 0 where
  pub heads : length c.heads ≡ 1
  pub zones_least : 1 ≤ length c.zones
  pub zones_most : length c.zones ≤ 32
  pub units_least : 1 ≤ length c.units
  pub units_most : length c.units ≤ 256
  pub points_most : length c.points ≤ 32
  pub pars_most : length c.pars ≤ 8
  pub due : length c.factors ≡ due_count c
  pub head : HeadFits (head c)
  pub zones : All ZoneFits c.zones
  pub units : All (UnitFits (length c.zones)) c.units
  pub pars : All ParFits c.pars
  pub paths : All PathFits c.paths
  pub circulations : All CirculationFits c.circulations

pub valid_of : (c : Content) → Tested c → Lake (length c.paths) (length c.circulations) → All FactorFits c.factors → All (PointFits (length c.zones)) c.points → Valid c
unfolding due_count
valid_of c t lake f p = record {
  heads = t.heads;
  zones_least = t.zones_least;
  zones_most = t.zones_most;
  units_least = t.units_least;
  units_most = t.units_most;
  points_most = t.points_most;
  pars_most = t.pars_most;
  factors = t.due;
  lake = lake;
  head_fits = t.head;
  zone_fits = at_each ZoneFits no_zone c.zones t.zones;
  unit_fits = at_each (UnitFits (length c.zones)) no_unit c.units t.units;
  point_fits = at_each (PointFits (length c.zones)) no_point c.points p;
  par_fits = at_each ParFits no_par c.pars t.pars;
  path_fits = at_each PathFits no_path c.paths t.paths;
  circulation_fits = at_each CirculationFits no_circulation c.circulations t.circulations 0;
  factor_fits = λ target subject i a. looked_up c.factors f target subject _;
}

s_points : All (PointFits 2) sheet_s.points
s_points = (
  record { sort_least = lit≤ tt; sort_most = lit≤ tt; place = line_fits 2 2 (lit≤ tt) (lit≤ tt); import = lit≤ tt; export = lit≤ tt; wheel_in = lit≤ tt; wheel_out = lit≤ tt },
  (record { sort_least = lit≤ tt; sort_most = lit≤ tt; place = proxy_fits 2; import = lit≤ tt; export = lit≤ tt; wheel_in = lit≤ tt; wheel_out = lit≤ tt }, tt),
)

pub s_valid : Valid sheet_s
unfolding due_count
s_valid = valid_of sheet_s (omega arith) (none refl refl) (omega arith) s_points

pub lowered_valid : Valid lowered
unfolding due_count
lowered_valid = valid_of lowered (omega arith) (all refl refl) (omega arith) s_points

pub s_balanced : balance_row sheet_s ≡ 0
unfolding refused
s_balanced = refl

pub lowered_balanced : balance_row lowered ≡ 0
unfolding refused
lowered_balanced = refl

pub s_inside : flow_row (settlement_flow sheet_s (in_watts (pos 100))) ≡ 0
unfolding printed flow_row
s_inside = refl

pub lowered_inside : flow_row (settlement_flow lowered (in_watts (pos 100))) ≡ 0
unfolding printed flow_row
lowered_inside = refl
