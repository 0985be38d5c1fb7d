-- `settle_flow` meets its contract.
use mathlib.Core.Path.{◌≡◌, refl, sym, ap, ◌∙◌}
use mir.Facts.{to_z-of_z}
use mir.Syntax.{w64}
use mir.Val.{SFits}
use borrow.Author.Rules.{rules}
use Rattle.sheet.specs.Sheet.{content_of}
use Rattle.sheet.proofs.Accepted.{valid}
use Rattle.integers.proofs.Machine.{rd}
use Rattle.figures.specs.Flow.{market_flow, flow_row}
use Rattle.figures.specs.Lake.{settlement_flow}
use Rattle.figures.specs.Payment.{in_watts}
use Rattle.figures.proofs.Bounds.{market_flow_small}
use Rattle.market_flow.specs.declared.Flow.{Flow}
use Rattle.settlement_flow.proofs.Paths.{paths_are}
use Rattle.settlement.specs.Settled.{refused_by}
use Rattle.rows.proofs.Refusing.{refuses}
use Rattle.rows.specs.Refusals.{number}
use Rattle.std.specs.Prelude.{Err}
use Rattle.settlement.proofs.Stages.{flow_refused, flow_passed, figures_are, payable}
use Rattle.settlement.proofs.settle_flow.Goals as goal

pub in_watts-watts-requires : goal.in_watts-watts-requires
in_watts-watts-requires c = rw (to_z-of_z c.ranges.e) c.requires

pub settlement_flow-settled-requires : goal.settlement_flow-settled-requires
settlement_flow-settled-requires c =
    let r = c.args.served.now.ready in
    let market_fits : SFits w64 c.flow_of-f.result.market = search rules in
    let market_is : rd c.flow_of-f.result.market ≡ market_flow (content_of c.args.served.now.sheet.bytes.now) =
    to_z-of_z market_fits ∙ ap (λ (x : Flow). x.market) c.flow_of-f.ensures in
    (market_is, rw market_is (market_flow_small (valid _ _ r.accepted) r.passed))

pub returns-in_err-flow_row : goal.returns-in_err-flow_row
returns-in_err-flow_row c =
    let k = content_of c.args.served.now.sheet.bytes.now in
    let watts_fits : SFits w64 c.in_watts-watts.result = search rules in
    let watts_are : rd c.in_watts-watts.result ≡ in_watts c.args.e = to_z-of_z watts_fits ∙ rw (to_z-of_z c.ranges.e) at c.in_watts-watts.ensures in
    let settled_fits : SFits w64 c.settlement_flow-settled.result = search rules in
    let settled_is : rd c.settlement_flow-settled.result ≡ settlement_flow k (in_watts c.args.e) =
    to_z-of_z settled_fits ∙ rw watts_are at c.settlement_flow-settled.ensures in
    let refusal = c.in_err-flow_row.field-0.0 in
    let row_is : number refusal ≡ flow_row (settlement_flow k (in_watts c.args.e)) = rw settled_is at c.in_err-flow_row.ensures in
    let e : c.from_residual.result ≡ Err refusal = search rules in
    rw e (ap refused_by row_is ∙ sym (flow_refused _ _ (λ z. refuses refusal (sym row_is) z)))

pub pay-p-requires : goal.pay-p-requires
pay-p-requires c =
    let k = content_of c.args.served.now.sheet.bytes.now in
    let watts_fits : SFits w64 c.in_watts-watts.result = search rules in
    let watts_are : rd c.in_watts-watts.result ≡ in_watts c.args.e = to_z-of_z watts_fits ∙ rw (to_z-of_z c.ranges.e) at c.in_watts-watts.ensures in
    let settled_fits : SFits w64 c.settlement_flow-settled.result = search rules in
    let settled_is : rd c.settlement_flow-settled.result ≡ settlement_flow k (in_watts c.args.e) =
    to_z-of_z settled_fits ∙ rw watts_are at c.settlement_flow-settled.ensures in
    let passed : flow_row (settlement_flow k (in_watts c.args.e)) ≡ 0 = sym (rw settled_is at c.in_ok-flow_row.ensures) in
    rw (settled_is, watts_are, c.head_at-h.ensures) (payable _ _ (valid _ _ c.args.served.now.ready.accepted) passed c.requires)

pub returns : goal.returns
returns c =
    let k = content_of c.args.served.now.sheet.bytes.now in
    let watts_fits : SFits w64 c.in_watts-watts.result = search rules in
    let watts_are : rd c.in_watts-watts.result ≡ in_watts c.args.e = to_z-of_z watts_fits ∙ rw (to_z-of_z c.ranges.e) at c.in_watts-watts.ensures in
    let settled_fits : SFits w64 c.settlement_flow-settled.result = search rules in
    let settled_is : rd c.settlement_flow-settled.result ≡ settlement_flow k (in_watts c.args.e) =
    to_z-of_z settled_fits ∙ rw watts_are at c.settlement_flow-settled.ensures in
    let passed : flow_row (settlement_flow k (in_watts c.args.e)) ≡ 0 = sym (rw settled_is at c.in_ok-flow_row.ensures) in (
      c.interval_of.ensures
          ∙ rw (c.pay-p.ensures, settled_is, watts_are, c.flow_of-f.ensures, c.head_at-h.ensures, ← paths_are _ _ c.args.served.now.ready.accepted)
          (figures_are _ _ ∙ sym (flow_passed _ _ passed)),
      rw c.interval_of.ensures refl,
    )
