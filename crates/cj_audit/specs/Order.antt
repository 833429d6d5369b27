-- The order of findings.
use Rattle.std.specs.declared.cmp.Ordering.{Ordering}
use Rattle.std.specs.Cmp.{IsTotalOrder, on_total, then_total, nat_cmp_total}
use Rattle.std.specs.Cmp.Lexicographic.{slice_cmp, nat_list_cmp_total, options_total}
use Rattle.std.specs.Option.{option_cmp}
use Rattle.std.specs.Ordering.{nat_cmp, on, then_cmp}
use Rattle.cj_audit.specs.declared.kind.FindingKind.{FindingKind}
use Rattle.cj_audit.specs.declared.finding.Finding.{Finding}
use Rattle.cj_audit.specs.contracts.kind.FindingKindOrd.TheImpl as kind
use Rattle.cj_audit.specs.contracts.kind.FindingKindOrd.TheImpl.Laws as kind_laws

-- twice, beside (under Forbid, under Replace), undue, early, missing, stray, stuck
abbrev pub kind_cmp : FindingKind → FindingKind → Ordering
kind_cmp = kind.ghosts.cmp

-- by the bytes of the CronJob's namespace, then of its name, by the time, by the bytes of the first
-- Job's name, then of the second's, none before any, and by the kind
-- rule: audit-order
abbrev pub finding_cmp : Finding → Finding → Ordering
finding_cmp =
    then_cmp (then_cmp (then_cmp (then_cmp (then_cmp (on (λ f. f.namespace) (slice_cmp nat_cmp))
    (on (λ f. f.cron) (slice_cmp nat_cmp))) (on (λ f. f.time) nat_cmp))
    (on (λ f. f.first) (slice_cmp nat_cmp)))
    (on (λ f. f.second) (option_cmp (slice_cmp nat_cmp)))) (on (λ f. f.kind) kind_cmp)

pub findings_total : IsTotalOrder finding_cmp
findings_total =
    then_total (then_total (then_total (then_total
    (then_total (on_total (λ f. f.namespace) nat_list_cmp_total)
    (on_total (λ f. f.cron) nat_list_cmp_total)) (on_total (λ f. f.time) nat_cmp_total))
    (on_total (λ f. f.first) nat_list_cmp_total))
    (on_total (λ f. f.second) (options_total nat_list_cmp_total)))
    (on_total (λ f. f.kind) kind_laws.total-law)
