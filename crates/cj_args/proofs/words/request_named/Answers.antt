-- request_named: what it reads of the rows behind `audit`, `upcoming` and `crontab`.
use Rattle.std.proofs.Common.{rules}
use Rattle.cj_args.proofs.words.request_named.Goals as goal
use Rattle.cj_args.proofs.Named.{audit_read, crontab_read, upcoming_read}

pub returns-in-audit : goal.returns-in-audit
returns-in-audit c =
    audit_read c.args.name.now _ c.audit_request.result c.map-in-audit.result c.in-audit.is c.audit_request.ensures
    (λ x y made. search rules) c.map-in-audit.ensures.cases

pub returns-in-upcoming : goal.returns-in-upcoming
returns-in-upcoming c =
    upcoming_read c.args.name.now _ c.upcoming_request.result c.map-in-upcoming.result c.in-upcoming.is
    c.upcoming_request.ensures (λ x y made. search rules) c.map-in-upcoming.ensures.cases

pub returns-in-crontab : goal.returns-in-crontab
returns-in-crontab c =
    crontab_read c.args.name.now _ c.crontab_request.result c.map-in-crontab.result c.in-crontab.is
    c.crontab_request.ensures (λ x y made. search rules) c.map-in-crontab.ensures.cases
