-- Why a run has no report.
use Rattle.cj_io.specs.declared.failure.Failure.{Failure}
use Rattle.cj_io.specs.declared.failure.Failure.TheVariants as Why
use Rattle.cj_run.specs.declared.error.RunError.{RunError}
use Rattle.cj_run.specs.declared.error.RunError.TheVariants.{GivenUp, HistoryFull, Inconsistent, Memory, UnexpectedRefusal}

-- the error that a refused call is to a run, by the failure that it is
abbrev pub error_of : Failure → RunError
error_of Why.Memory = Memory
error_of Why.HistoryFull = HistoryFull
error_of failure = UnexpectedRefusal

-- the failure that an error is to whoever wanted the report. That a worker gave up is replaced by
-- why it did before that
abbrev pub failure_by : RunError → Failure
failure_by HistoryFull = Why.HistoryFull
failure_by Memory = Why.Memory
failure_by UnexpectedRefusal = Why.UnexpectedRefusal
failure_by GivenUp = Why.InconsistentRun
failure_by Inconsistent = Why.InconsistentRun
