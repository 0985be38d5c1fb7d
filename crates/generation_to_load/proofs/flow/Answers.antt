-- `flow` meets its contract.
use Rattle.figures.proofs.Balanced.{net_load_above, net_generation_above}
use Rattle.generation_to_load.proofs.Laws.{read_within, read_above, gross, net_load_lem, net_generation_lem, final_generation_lem, output, load, share, gross-flow, flow-is}
use Rattle.generation_to_load.proofs.flow.Goals as goal

pub load_share-share-requires : goal.load_share-share-requires
load_share-share-requires c =
    let r = c.args.served.now.ready in
    let k = c.requires in
    (read_within (gross r), read_within (load r k _ c.weighted_load-n.ensures), read_above (net_load_lem r) (net_load_above _ r.passed))

pub gross_flow-h-requires : goal.gross_flow-h-requires
gross_flow-h-requires c =
    let r = c.args.served.now.ready in
    let k = c.requires in
    (read_within (output r k _ c.output-a.ensures), read_within (share r k c.weighted_load-n.ensures c.load_share-share.ensures))

pub scaled_down-flow-requires : goal.scaled_down-flow-requires
scaled_down-flow-requires c =
    let r = c.args.served.now.ready in
    let k = c.requires in (
      read_within (gross-flow r k c.weighted_load-n.ensures c.load_share-share.ensures c.output-a.ensures c.gross_flow-h.ensures),
      read_within (final_generation_lem r),
      read_above (net_generation_lem r) (net_generation_above _ r.passed),
    )

pub returns : goal.returns
returns c =
    let r = c.args.served.now.ready in
    let k = c.requires in
    flow-is r k c.weighted_load-n.ensures c.load_share-share.ensures c.output-a.ensures c.gross_flow-h.ensures c.scaled_down-flow.ensures
