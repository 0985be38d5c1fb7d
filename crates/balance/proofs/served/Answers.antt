-- `served` meets its contract.
use mathlib.Core.Path.{◌≡◌, sym, ap}
use mir.Facts.{to_z-of_z}
use mir.Syntax.{w64}
use mir.Val.{SFits}
use borrow.Author.Rules.{rules}
use Rattle.rows.specs.Refusals.{number, row_of}
use Rattle.sheet.specs.Sheet.{content_of}
use Rattle.sheet.proofs.Accepted.{counts}
use Rattle.figures.specs.Balance.{balance_row}
use Rattle.zone_sums.proofs.Sides.{few_zones}
use Rattle.generation_to_load.specs.declared.LoadServed.{LoadServed}
use Rattle.balance.proofs.served.Goals as goal

pub balance_row-requires : goal.balance_row-requires
balance_row-requires c = few_zones _ _ c.args.sheet.now.accepted

pub returns-in_err-balance_row : goal.returns-in_err-balance_row
returns-in_err-balance_row c =
    let s = c.args.sheet.now in
    let row : number c.in_err-balance_row.field-0.0 ≡ balance_row (content_of s.bytes.now) = rw c.in_err-balance_row.was at (c.balance_row.ensures _ c.loads-load.ensures c.generation-generation.ensures (counts _ _ s.accepted).zones) in
    search rules

pub invariant_of-result : goal.invariant_of-result
invariant_of-result c =
    let s = c.args.sheet.now in
    let load = c.loads-load.result in
    let generation = c.generation-generation.result in
    let row : row_of c.balance_row.result ≡ balance_row (content_of s.bytes.now) = c.balance_row.ensures _ c.loads-load.ensures c.generation-generation.ensures (counts _ _ s.accepted).zones in
    let passed : 0 ≡ balance_row (content_of s.bytes.now) = rw c.in_ok-balance_row.was at row in
    let net : SFits w64 load.net_load = search rules in
    let fit : SFits w64 generation.gross_output × SFits w64 generation.net_generation × SFits w64 generation.final_generation = search rules in
    record {
      ready = record {
        accepted = s.accepted;
        passed = sym passed;
        balance = simp (to_z-of_z net, to_z-of_z fit.0, to_z-of_z fit.1, to_z-of_z fit.2) (rw (c.loads-load.ensures, c.generation-generation.ensures));
        loads = ap (λ (x : LoadServed). x.zone_loads) c.loads-load.ensures;
      };
    }
