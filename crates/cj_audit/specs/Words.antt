-- What is said of findings for people. That a policy or a schedule may have been changed since is
-- said with it, as the object doesn't tell what it was.
use Rattle.std.specs.Prelude.{ℕ, List, [], ◌∷◌, ◌++◌, codes}
use Rattle.cj_zone.specs.TimeText.{time_text_of}
use Rattle.cj_audit.specs.declared.kind.Exclusive.{Exclusive}
use Rattle.cj_audit.specs.declared.kind.Exclusive.TheVariants.{UnderForbid, UnderReplace}
use Rattle.cj_audit.specs.declared.kind.FindingKind.{FindingKind}
use Rattle.cj_audit.specs.declared.kind.FindingKind.TheVariants.{Twice, Beside, Undue, Early, Missing, Stray, Stuck}
use Rattle.cj_audit.specs.declared.finding.Finding.{Finding}
use Rattle.cj_audit.specs.Lines.{second_name}

-- rule: audit-explained
unfoldable pub twice_words : Finding → List ℕ → List ℕ
twice_words f time =
    codes "twice " ++ (f.namespace ++ (codes "/" ++ (f.cron ++ (codes ": two Jobs were made for "
    ++ (time ++ codes "\n")))))

-- rule: audit-explained
unfoldable pub policy_words : Exclusive → List ℕ
policy_words UnderForbid =
    codes "; spec.concurrencyPolicy is Forbid now, and may have been another then\n"
policy_words UnderReplace =
    codes "; spec.concurrencyPolicy is Replace now, and may have been another then\n"

-- rule: audit-explained
unfoldable pub beside_words : Exclusive → Finding → List ℕ → List ℕ
beside_words e f time =
    codes "beside " ++ (f.namespace ++ (codes "/" ++ (f.cron ++ (codes ": " ++ (second_name f
    ++ (codes " was created at "
    ++ (time ++ (codes ", while " ++ (f.first ++ (codes " ran" ++ policy_words e))))))))))

-- rule: audit-explained
unfoldable pub undue_words : Finding → List ℕ → List ℕ
undue_words f time =
    codes "undue " ++ (f.namespace ++ (codes "/" ++ (f.cron ++ (codes ": its schedule isn't due at "
    ++ (time ++ codes "; it may have been another then, or the controller went by another clock than UTC, as it may without spec.timeZone\n")))))

-- rule: audit-explained
unfoldable pub early_words : Finding → List ℕ → List ℕ
early_words f time =
    codes "early " ++ (f.namespace ++ (codes "/" ++ (f.cron ++ (codes ": " ++ (f.first
    ++ (codes " was created before " ++ (time ++ codes ", by a clock that is ahead\n")))))))

-- rule: audit-explained
unfoldable pub missing_end : List ℕ
missing_end =
    codes "; the controller may have been down, or the Job was deleted, by somebody or by its TTL, or the CronJob was changed or suspended for a while\n"

-- rule: audit-explained
unfoldable pub missing_words : Finding → List ℕ → List ℕ
missing_words f time =
    codes "missing " ++ (f.namespace ++ (codes "/" ++ (f.cron ++ (codes ": no Job stands for "
    ++ (time ++ (codes ", though later ones do" ++ missing_end))))))

-- rule: audit-explained
unfoldable pub stray_end : List ℕ
stray_end = codes " that isn't in the list, or one of that name made anew\n"

-- rule: audit-explained
unfoldable pub stray_words : Finding → List ℕ
stray_words f =
    codes "stray "
    ++ (f.namespace ++ (codes "/" ++ (f.first ++ (codes ": its controller is a CronJob "
    ++ (f.cron ++ stray_end)))))

-- rule: audit-explained
unfoldable pub stuck_end : List ℕ
stuck_end = codes ": a reference in status.active has no name, so each sync of Kubernetes' controller fails, and nothing starts; take it out by kubectl edit --subresource=status cronjob "

-- rule: audit-explained
unfoldable pub stuck_words : Finding → List ℕ
stuck_words f =
    codes "stuck "
    ++ (f.namespace ++ (codes "/" ++ (f.cron ++ (stuck_end ++ (f.cron ++ (codes " -n "
    ++ (f.namespace ++ codes "\n")))))))

abbrev pub words_by : FindingKind → Finding → List ℕ
words_by Twice f = twice_words f (time_text_of f.time)
words_by (Beside e) f = beside_words e f (time_text_of f.time)
words_by Undue f = undue_words f (time_text_of f.time)
words_by Early f = early_words f (time_text_of f.time)
words_by Missing f = missing_words f (time_text_of f.time)
words_by Stray f = stray_words f
words_by Stuck f = stuck_words f

abbrev pub finding_words : Finding → List ℕ
finding_words f = words_by f.kind f

-- a line for each, in their order
-- rule: audit-explained
abbrev pub audit_words : List Finding → List ℕ
audit_words [] = []
audit_words (f ∷ fs) = finding_words f ++ audit_words fs
