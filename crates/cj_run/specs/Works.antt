-- What a worker of a run did, by its receipts: whole syncs, one after the other, until it found the
-- queue shut.
use Rattle.std.specs.Prelude.{List, fold, Result, Ok, Err}
use Rattle.cj_base.specs.declared.refusal.Refusal.{Refusal}
use Rattle.cj_base.specs.declared.refusal.Refusal.TheVariants.{ShutDown}
use Rattle.cj_calls.specs.declared.call.Call.{Call}
use Rattle.cj_calls.specs.declared.call.Call.TheVariants as Of
use Rattle.cj_calls.specs.declared.end.End.TheVariants.{Again, Well}
use Rattle.cj_calls.specs.declared.reply.Reply.{Reply}
use Rattle.cj_hub.specs.declared.receipt.Receipt.{Receipt}
use Rattle.cj_run.specs.declared.work.Stage.{Stage}
use Rattle.cj_run.specs.declared.work.Stage.TheVariants.{Idle, Taken, SawCron, SawJobs, SawActive, Claimed, Hindered, Over, Astray}

-- a Take, which at a shut queue is the last call
abbrev pub after_take : Result Reply Refusal → Stage
after_take (Ok reply) = Taken
after_take (Err ShutDown) = Over
after_take (Err refusal) = Astray

-- a call that is refused hinders the sync
abbrev pub unless_refused : Stage → Result Reply Refusal → Stage
unless_refused stage (Ok reply) = stage
unless_refused stage (Err refusal) = Hindered

-- a sync that was hindered ends by asking for another try
abbrev pub after_retry : Result Reply Refusal → Stage
after_retry (Ok reply) = Idle
after_retry (Err refusal) = Astray

-- where a worker is after a call: astray, where a sync makes another one
-- rule: run-report
abbrev pub after : Stage → Call → Result Reply Refusal → Stage
after Idle Of.Take answer = after_take answer
after Taken Of.SeeCron answer = unless_refused SawCron answer
after SawCron Of.SeeJobs answer = unless_refused SawJobs answer
after SawJobs Of.SeeActive answer = unless_refused SawActive answer
after SawActive (Of.Claim plan) answer = unless_refused Claimed answer
after Claimed Of.DropNext answer = unless_refused Claimed answer
after Claimed Of.MakeNext answer = unless_refused Claimed answer
after Claimed Of.SetStatus answer = unless_refused Claimed answer
after Claimed (Of.Finish Well reasons) answer = unless_refused Idle answer
after Hindered (Of.Finish (Again at) reasons) answer = after_retry answer
after stage call answer = Astray

abbrev pub after_all : Stage → List Receipt → Stage
after_all stage rs = fold (λ s r. after s r.entry.call r.entry.answer) stage rs
