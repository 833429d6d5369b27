-- The exit statuses of the program, and what it says where it fails.
use Rattle.std.specs.Prelude.{ℕ, List, codes}
use Rattle.cj_base.specs.declared.refusal.Refusal.{Refusal}
use Rattle.cj_base.specs.declared.refusal.Refusal.TheVariants as Of
use Rattle.cj_io.specs.declared.exit_status.ExitStatus.{ExitStatus}
use Rattle.cj_io.specs.declared.exit_status.ExitStatus.TheVariants.{Success, Refused, Usage, Failed}
use Rattle.cj_io.specs.declared.failure.Failure.{Failure}
use Rattle.cj_io.specs.declared.failure.Failure.TheVariants.{Device, HistoryFull, InconsistentRun, Memory, UnexpectedRefusal}

-- the number that the process ends with
-- rule: statuses
abbrev pub code_of : ExitStatus → ℕ
code_of Success = 0
code_of Refused = 1
code_of Usage = 2
code_of Failed = 3

-- the failure that a refusal is to whoever asked for an answer: only a refused growth is want of
-- memory
-- rule: statuses
abbrev pub failure_of : Refusal → Failure
failure_of Of.OutOfMemory = Memory
failure_of Of.HistoryFull = HistoryFull
failure_of refusal = UnexpectedRefusal

-- the line on standard error that names a failure
-- rule: statuses
abbrev pub failure_line : Failure → List ℕ
failure_line Device = codes "cronsim: input or output failed\n"
failure_line Memory = codes "cronsim: out of memory\n"
failure_line HistoryFull = codes "cronsim: history full\n"
failure_line UnexpectedRefusal = codes "cronsim: internal error: a call was refused for no cause that it can have\n"
failure_line InconsistentRun = codes "cronsim: internal error: the history of the run is not what its participants did\n"
