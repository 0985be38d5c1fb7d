-- The numbers that steps 4 to 6 pass on are the figures, and each fits.
use Prim.Native.Nat.{ℕ, ◌+◌, ◌≤◌, ◌<◌}
use native.Mathlib.Omega.{arith}
use mathlib.Core.Path.{◌≡◌, refl, ap, ◌∙◌}
use mathlib.Core.List.{List}
use lib.Dec.{lit<, lit≤}
use lib.IntN.{ℤ, pos, ◌+ℤ◌, ◌-ℤ◌, ◌*ℤ◌}
use Rattle.integers.proofs.Machine.{Num, Op, rd, num_is, add, sub, mul}
use Rattle.quotient.specs.declared.Quotient.{Quotient}
use Rattle.quotient.specs.Rounded.{quotient}
use Rattle.due_factors.specs.Due.{Asked, how_many}
use Rattle.layout.specs.declared.Layout.{Layout}
use Rattle.records.specs.Codes.{common, noncommon, point_subject, par_subject}
use Rattle.records.specs.Content.{factor_for}
use Rattle.sheet.specs.Sheet.{content_of}
use Rattle.sheet.proofs.Accepted.{counts}
use Rattle.figures.specs.Flow.{generation_to_load, first_remainder, second_remainder, schedule_flow, parallel, shadow, factor, par_factor, carried_sum, carried, redirect, non_common_redirect, market_flow}
use Rattle.figures.specs.inner.Most.{most_generation_to_load, most_schedule, most_on_par, most_over_par, most_carried_sum, most_carried, most_control, most_redirect, most_market}
use Rattle.figures.proofs.Bounds.{generation-to-load-small, first-remainder-small, second-remainder-small, carried_sum_small, carried_small, redirect_small, non_common_redirect_small, market_flow_small}
use Rattle.figures.proofs.Factors.{par_factor_within}
use Rattle.figures.proofs.Ranges.{schedule-flow-within, control_within}
use Rattle.weighted_sums.specs.inner.Weighted.{weighted_sum}
use Rattle.weighted_sums.proofs.Laws.{schedules_are, control_is}
use Rattle.generation_to_load.specs.declared.Balance.{Balance}
use Rattle.generation_to_load.specs.declared.GenerationToLoad.{GenerationToLoad}
use Rattle.generation_to_load.specs.Steps.{Ready, flow_for}
use Rattle.generation_to_load.proofs.Laws.{is_valid, known}
use Rattle.market_flow.specs.inner.Flow.{par_share, flow_of}

module _ {s : List ℕ} {l : Layout} {b : Balance} {array : List ℤ} (r : Ready s l b array) where
  module _ {target : ℕ} (k : target ≤ l.pars) where
    pub schedule-num : (class : ℕ) (x : ℤ) → x ≡ weighted_sum (content_of s) point_subject class target → Num (rd x) (schedule_flow (content_of s) class target) most_schedule
    schedule-num class x e = num_is x _ most_schedule (e ∙ schedules_are (content_of s) class target) (schedule-flow-within (is_valid r) (known r k) class) (lit< tt)

    pub gtl-num : (x : GenerationToLoad) → x ≡ flow_for (content_of s) target → Num (rd x.flow) (generation_to_load (content_of s) target) most_generation_to_load
    gtl-num x e = num_is x.flow _ most_generation_to_load (ap (λ (y : GenerationToLoad). y.flow) e) (generation-to-load-small (is_valid r) r.passed (known r k)) (lit< tt)

    first-num : (x : GenerationToLoad) → x ≡ flow_for (content_of s) target → Num (rd x.first_remainder) (first_remainder (content_of s) target) 2000000
    first-num x e = num_is _ _ 2000000 (ap (λ (y : GenerationToLoad). y.first_remainder) e) (first-remainder-small (is_valid r) r.passed (known r k)) (lit< tt)

    second-num : (x : GenerationToLoad) → x ≡ flow_for (content_of s) target → Num (rd x.second_remainder) (second_remainder (content_of s) target) 2000000
    second-num x e = num_is _ _ 2000000 (ap (λ (y : GenerationToLoad). y.second_remainder) e) (second-remainder-small (is_valid r) r.passed (known r k)) (lit< tt)

  -- a PAR's share, by its flow and its factor
  module _ {i : ℕ} (h : i < l.pars) where
    as-target : i + 1 ≤ l.pars
    as-target = omega arith

    pub par-asked : Asked l.zones l.units l.points l.pars 0 4 i
    unfolding how_many
    par-asked = record { known = omega arith; low = lit≤ tt; high = lit≤ tt; par = λ e. refl; index = h }

    module _ (g : GenerationToLoad) (x f : ℤ) (eg : g ≡ flow_for (content_of s) (i + 1)) (ex : x ≡ weighted_sum (content_of s) point_subject noncommon (i + 1))
        (ef : f ≡ factor_for (content_of s).factors 0 4 (i + 1)) where
      pub par-flow : Op (rd g.flow +ℤ rd x) (generation_to_load (content_of s) (i + 1) +ℤ parallel (content_of s) (i + 1)) most_on_par
      unfolding parallel
      par-flow = add (gtl-num as-target g eg) (schedule-num as-target noncommon x ex) (lit< tt)

      pub par-share : Op (rd f *ℤ rd (rd g.flow +ℤ rd x)) (par_share (content_of s) i) most_over_par
      unfolding par_factor factor
      par-share =
          mul (num_is f _ 10000 ef (par_factor_within (is_valid r) i (omega (arith, (counts s l r.accepted).pars))) (lit< tt)) par-flow.num (lit< tt)

  -- a class's redirect, from its carried sum and its control
  pub redirect_op : (class : ℕ) (x : ℤ) (q : Quotient) (y : ℤ) → x ≡ carried_sum (content_of s) class → q.quotient ≡ quotient (rd x) (pos 10000) → y ≡ weighted_sum (content_of s) par_subject class 0 →
      Op (rd q.quotient -ℤ rd y) (redirect (content_of s) class) most_redirect
  unfolding redirect carried
  redirect_op class x q y ex eq ey =
      let sum = num_is x _ most_carried_sum ex (carried_sum_small (is_valid r) r.passed class) (lit< tt) in
      sub (num_is q.quotient (carried (content_of s) class) most_carried (eq ∙ rw sum.is) (carried_small (is_valid r) r.passed class) (lit< tt))
      (num_is y _ most_control (ey ∙ control_is (content_of s) class) (control_within (is_valid r) class) (lit< tt)) (lit< tt)

  pub redirect_num : (class : ℕ) (x : ℤ) → x ≡ redirect (content_of s) class → Num (rd x) (redirect (content_of s) class) most_redirect
  redirect_num class x e = num_is x _ most_redirect e (redirect_small (is_valid r) r.passed class) (lit< tt)

  pub noncommon_num : (x : ℤ) → x ≡ non_common_redirect (content_of s) → Num (rd x) (non_common_redirect (content_of s)) most_redirect
  noncommon_num x e = num_is x _ most_redirect e (non_common_redirect_small (is_valid r) r.passed) (lit< tt)

  -- the flowgate's figures, as the calls return them
  module _ (g : GenerationToLoad) (x y z w : ℤ) (eg : g ≡ flow_for (content_of s) 0) (ex : x ≡ weighted_sum (content_of s) point_subject noncommon 0) (ey : y ≡ weighted_sum (content_of s) point_subject common 0)
      (ez : z ≡ redirect (content_of s) common) (ew : w ≡ non_common_redirect (content_of s)) where
    flowgate : 0 ≤ l.pars
    flowgate = omega arith

    market-num : (m : ℤ) → m ≡ rd g.flow +ℤ rd x +ℤ rd y -ℤ rd z -ℤ rd w → Num (rd m) (market_flow (content_of s)) most_market
    unfolding market_flow parallel shadow
    market-num m e =
        num_is m (market_flow (content_of s)) most_market
        (e ∙ rw ((gtl-num flowgate g eg).is, (schedule-num flowgate noncommon x ex).is, (schedule-num flowgate common y ey).is, (redirect_num common z ez).is, (noncommon_num w ew).is))
        (market_flow_small (is_valid r) r.passed) (lit< tt)

    pub flow-of-is : (m : ℤ) → m ≡ rd g.flow +ℤ rd x +ℤ rd y -ℤ rd z -ℤ rd w →
        record { gtl = rd g.flow; first_remainder = rd g.first_remainder; second_remainder = rd g.second_remainder; parallel = rd x; shadow = rd y; common = rd z; noncommon = rd w; market = rd m }
        ≡ flow_of (content_of s)
    unfolding parallel shadow
    flow-of-is m em =
        rw ((market-num m em).is, (gtl-num flowgate g eg).is, (first-num flowgate g eg).is, (second-num flowgate g eg).is, (schedule-num flowgate noncommon x ex).is, (schedule-num flowgate common y ey).is, (redirect_num common z ez).is, (noncommon_num w ew).is)
