-- watch: its clause adds, where the Watch answers with events, is refused as expired, or is refused
-- else.
use Rattle.std.proofs.Common.{arith}
use Rattle.cj_calls.specs.declared.call.Call.TheVariants as Of
use Rattle.cj_calls.specs.declared.reply.Reply.TheVariants as Is
use Rattle.std.proofs.lemmas.Grind.{common_steps}
use Rattle.cj_hub.proofs.Runs.{adds-then, adds-weaker}
use Rattle.cj_informer.proofs.Goes.{accepted_as}
use Rattle.cj_informer.proofs.Steps.{watched, expired, not_watched}
use Rattle.cj_informer.proofs.watching.watch.Goals as goal

pub returns-in-Ok-Events-clause-adds : goal.returns-in-Ok-Events-clause-adds
returns-in-Ok-Events-clause-adds g c =
    adds-then c.in-Ok.ensures.adds c.follow.ensures.adds (λ es fs h k.
    watched c.args.max c.args.from c.as_slice.result.now c.follow.result es fs
    (accepted_as (Of.Watch c.args.from c.args.max) c.in-Ok.receipt.entry.answer (Is.Events c.as_slice.result.now) es h
    (grind (arith, common_steps))) k)

pub returns-in-Err-Expired-clause-adds : goal.returns-in-Err-Expired-clause-adds
returns-in-Err-Expired-clause-adds g c =
    adds-then c.in-Err-Expired.ensures.adds c.list.ensures.adds (λ es fs h k.
    expired c.args.max c.args.from c.in-Err-Expired.field-0-0 c.list.result es fs
    (rw c.in-Err-Expired.field-0-is at h) k)

pub returns-in-Err-clause-adds : goal.returns-in-Err-clause-adds
returns-in-Err-clause-adds g c =
    adds-weaker c.in-Err.ensures.adds (λ es h. not_watched c.args.max c.args.from c.in-Err.refusal es h)
