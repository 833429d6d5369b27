-- The fixed lines of an audit.
use Rattle.std.specs.Prelude.{ℕ, List, [], ◌∷◌, ◌++◌, codes, decimal, length, unwrap_or}
use Rattle.cj_zone.specs.TimeText.{time_text_of}
use Rattle.cj_audit.specs.declared.kind.FindingKind.{FindingKind}
use Rattle.cj_audit.specs.declared.kind.FindingKind.TheVariants.{Twice, Beside, Undue, Early, Missing, Stray, Stuck}
use Rattle.cj_audit.specs.declared.finding.Finding.{Finding}

-- the name of the second Job, and nothing where there is one
abbrev pub second_name : Finding → List ℕ
second_name f = unwrap_or f.second []

-- `twice NAMESPACE/NAME TIME JOB JOB`
-- rule: audit-lines
abbrev pub twice_line : Finding → List ℕ → List ℕ
twice_line f time =
    codes "twice " ++ (f.namespace ++ (codes "/" ++ (f.cron ++ (codes " " ++ (time ++ (codes " "
    ++ (f.first ++ (codes " " ++ (second_name f ++ codes "\n")))))))))

-- `beside NAMESPACE/NAME JOB JOB`
-- rule: audit-lines
abbrev pub beside_line : Finding → List ℕ
beside_line f =
    codes "beside " ++ (f.namespace ++ (codes "/" ++ (f.cron ++ (codes " " ++ (f.first ++ (codes " "
    ++ (second_name f ++ codes "\n")))))))

-- `undue NAMESPACE/NAME JOB TIME`
-- rule: audit-lines
abbrev pub undue_line : Finding → List ℕ → List ℕ
undue_line f time =
    codes "undue " ++ (f.namespace ++ (codes "/" ++ (f.cron ++ (codes " " ++ (f.first ++ (codes " "
    ++ (time ++ codes "\n")))))))

-- `early NAMESPACE/NAME JOB TIME`
-- rule: audit-lines
abbrev pub early_line : Finding → List ℕ → List ℕ
early_line f time =
    codes "early " ++ (f.namespace ++ (codes "/" ++ (f.cron ++ (codes " " ++ (f.first ++ (codes " "
    ++ (time ++ codes "\n")))))))

-- `missing NAMESPACE/NAME TIME`
-- rule: audit-lines
abbrev pub missing_line : Finding → List ℕ → List ℕ
missing_line f time =
    codes "missing "
    ++ (f.namespace ++ (codes "/" ++ (f.cron ++ (codes " " ++ (time ++ codes "\n")))))

-- `stray NAMESPACE/JOB NAME`
-- rule: audit-lines
abbrev pub stray_line : Finding → List ℕ
stray_line f =
    codes "stray "
    ++ (f.namespace ++ (codes "/" ++ (f.first ++ (codes " " ++ (f.cron ++ codes "\n")))))

-- `stuck NAMESPACE/NAME`
-- rule: audit-lines
abbrev pub stuck_line : Finding → List ℕ
stuck_line f = codes "stuck " ++ (f.namespace ++ (codes "/" ++ (f.cron ++ codes "\n")))

abbrev pub line_by : FindingKind → Finding → List ℕ
line_by Twice f = twice_line f (time_text_of f.time)
line_by (Beside e) f = beside_line f
line_by Undue f = undue_line f (time_text_of f.time)
line_by Early f = early_line f (time_text_of f.time)
line_by Missing f = missing_line f (time_text_of f.time)
line_by Stray f = stray_line f
line_by Stuck f = stuck_line f

abbrev pub finding_line : Finding → List ℕ
finding_line f = line_by f.kind f

-- a line for each, in their order
-- rule: audit-lines
abbrev pub lines_of : List Finding → List ℕ
lines_of [] = []
lines_of (f ∷ fs) = finding_line f ++ lines_of fs

-- `N cron jobs, M jobs, K findings`
-- rule: audit-lines
abbrev pub counts_line : ℕ → ℕ → ℕ → List ℕ
counts_line crons jobs findings =
    decimal crons
    ++ (codes " cron jobs, "
    ++ (decimal jobs ++ (codes " jobs, " ++ (decimal findings ++ codes " findings\n"))))

-- rule: audit-lines
abbrev pub audit_lines : ℕ → ℕ → List Finding → List ℕ
audit_lines crons jobs findings = lines_of findings ++ counts_line crons jobs (length findings)
