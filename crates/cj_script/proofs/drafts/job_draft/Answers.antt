-- job_draft: its clauses ok and err, as the manifest has no fault or some.
use Rattle.serde_json.specs.View.{view}
use Rattle.cj_script.proofs.Drafted.{job_faulty, job_fine}
use Rattle.cj_script.proofs.drafts.job_draft.Goals as goal

pub returns-in-Ok-clause-ok : goal.returns-in-Ok-clause-ok
returns-in-Ok-clause-ok c =
    job_fine (view c.args.manifest.now) c.in-Ok.draft c.in-Ok.ensures.said.sound c.in-Ok.ensures.said.drafted

pub returns-in-Err-clause-err : goal.returns-in-Err-clause-err
returns-in-Err-clause-err c =
    job_faulty (view c.args.manifest.now) c.first_fault.result (c.first_fault.ensures _ c.in-Err.ensures.refused)
