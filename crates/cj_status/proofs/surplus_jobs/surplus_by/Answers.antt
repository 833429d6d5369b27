-- surplus_by: what leave_surplus requires, that the Jobs come in order of age.
use Rattle.std.proofs.Common.{subst, sym, List}
use Rattle.cj_types.specs.Uids.{uid_text}
use Rattle.cj_status.specs.declared.refs.JobRef.{JobRef}
use Rattle.cj_status.specs.declared.order.Sorting.TheVariants.{ByAge}
use Rattle.cj_status.specs.Order.{IsRising}
use Rattle.cj_status.specs.Picked.{gathered, picks}
use Rattle.cj_status.specs.Refs.{is_older}
use Rattle.cj_status.proofs.Orders.{by_sorting}
use Rattle.cj_status.proofs.Sorts.{rising_in_order}
use Rattle.cj_status.proofs.surplus_jobs.surplus_by.Goals as goal

pub leave_surplus-requires : goal.leave_surplus-requires
leave_surplus-requires c = record {
  rises = subst (λ (r : List JobRef). IsRising is_older r) (sym c.in_ok-items.ensures.ok)
      (rising_in_order is_older (by_sorting ByAge)
      (gathered (picks c.args.pick (uid_text c.args.uid.now)) c.args.jobs.now));
}
