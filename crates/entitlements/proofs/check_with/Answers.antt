-- `check_with` meets its contract: the conditions one after the other.
use Rattle.std.proofs.Common.{rules, arith, refl, sym, ◌∙◌, ◌+◌, ◌*◌, ◌<◌, length}
use Rattle.name_index.specs.inner.Index.{names_at}
use Rattle.name_index.proofs.Table.{next-indexed, none_indexed}
use Rattle.fields.proofs.Lists.{tail_is}
use Rattle.entitlements.specs.Entitlements.{record_length, most_records}
use Rattle.entitlements.specs.inner.Steps.{run_of}
use Rattle.entitlements.proofs.Reached.{all_pass, begins, cut_refused, late_refused, repeated_refused, unfit_refused, fit_passes}
use Rattle.entitlements.proofs.check_with.Goals as goal

pub loop-n-init : goal.loop-n-init
unfolding names_at
loop-n-init c = record {
  left = refl;
  long = refl;
  held = rw c.requires.0 (none_indexed c.args.list.now (run_of c.args.mask 0) (length c.args.table.now) refl (omega arith));
}

pub returns-in_err-row : goal.returns-in_err-row
returns-in_err-row c = rw (cut_refused c.loop-n.invariant (omega arith) (search rules)) (search rules)

pub returns-in_err-row-2 : goal.returns-in_err-row-2
returns-in_err-row-2 c = rw (late_refused c.loop-n.invariant (omega arith) (search rules)) (search rules)

pub seen_before-repeated-requires : goal.seen_before-repeated-requires
seen_before-repeated-requires c =
    let r = c.loop-n.invariant in
    let few : c.loop-n.n < most_records = search rules in
    let room = c.requires.2.room c.loop-n.n few (begins r (omega arith)) in
    (omega arith, search rules, omega arith, omega (arith, r.long), r.held)

pub returns-in_err-row-3 : goal.returns-in_err-row-3
returns-in_err-row-3 c =
    rw (repeated_refused c.loop-n.invariant (omega arith) (sym c.seen_before-repeated.ensures.0 ∙ search rules)) (search rules)

pub returns-in_err-row-4 : goal.returns-in_err-row-4
returns-in_err-row-4 c =
    let t = rw (tail_is c.args.list.now (record_length * c.loop-n.n + 1)) at c.entry_fault.ensures in
    rw (unfit_refused c.loop-n.invariant (omega arith) (search rules) (search rules) (sym c.seen_before-repeated.ensures.0 ∙ search rules) t (search rules)) (search rules)

pub loop-n-preserved : goal.loop-n-preserved
loop-n-preserved c =
    let r = c.loop-n.invariant in
    let t = rw (tail_is c.args.list.now (record_length * c.loop-n.n + 1)) at c.entry_fault.ensures in
    let room = c.requires.2.room c.loop-n.n (search rules) (begins r (omega arith)) in
    record {
      left = fit_passes r (omega arith) (search rules) (search rules) (sym c.seen_before-repeated.ensures.0 ∙ search rules) t (search rules);
      long = search rules;
      held = rw c.seen_before-repeated.ensures.1 (next-indexed c.args.list.now (run_of c.args.mask c.loop-n.n) c.loop-n.table r.held (omega (arith, room, r.long)));
    }

pub returns : goal.returns
returns c = rw (all_pass c.loop-n.invariant (omega arith)) refl
