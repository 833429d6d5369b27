-- progress_law: its clause MakesJob, that an undisturbed sync makes the Job of the latest time missed; and the samples.
use Rattle.cj_history.proofs.ProgressLemmas.Whole.{makes_job}
use Rattle.cj_history.proofs.ProgressLemmas.SyncSample.{is_ready, takes, tick_aside, sees, has_plan}
use Rattle.cj_history.proofs.progress.laws.progress_law.Goals as goal

pub returns : goal.returns
returns c = let a = is_ready in let b = takes in let d = tick_aside in let e = sees in let f = has_plan in makes_job
