-- Which request rows are of that stand behind the name of a command.
use Rattle.std.proofs.Common.{◌≡◌, rules, List, Option, Some, Result, Ok, Err, codes}
use Rattle.std.specs.Result.{IsOkAnd, MatchResult}
use Rattle.clap.specs.Words.{Row, Text}
use Rattle.cj_args.specs.Command.{IsAudit, IsCrontab, IsOfRows, IsUpcoming, Reads}
use Rattle.cj_args.specs.declared.crontab.CrontabRequest.{CrontabRequest}
use Rattle.cj_args.specs.declared.request.AuditRequest.{AuditRequest}
use Rattle.cj_args.specs.declared.request.UpcomingRequest.{UpcomingRequest}
use Rattle.cj_args.specs.declared.request.Request.{Request}
use Rattle.cj_args.specs.declared.word_fault.WordFault.{WordFault}
use Rattle.cj_args.specs.declared.request.Request.TheVariants.{Audit, Check, Control, Crontab, Describe, Next, Plan, Previous, Replay, Report, Run, Scenario, Upcoming, Why}

-- rows behind `upcoming` are of that command's requests alone
pub upcoming_alone : (name : Text) (rows : List Row) → name ≡ codes "upcoming" → ((r : UpcomingRequest) → ¬ (IsUpcoming rows r))
    → (r : Request) → ¬ (IsOfRows (Some (name, rows)) r)
upcoming_alone name rows is none (Next r) of = search rules
upcoming_alone name rows is none (Check r) of = search rules
upcoming_alone name rows is none (Plan r) of = search rules
upcoming_alone name rows is none (Replay r) of = search rules
upcoming_alone name rows is none (Run r) of = search rules
upcoming_alone name rows is none (Why r) of = search rules
upcoming_alone name rows is none (Audit r) of = search rules
upcoming_alone name rows is none (Upcoming r) of = search rules
upcoming_alone name rows is none (Describe r) of = search rules
upcoming_alone name rows is none (Report r) of = search rules
upcoming_alone name rows is none (Crontab r) of = search rules
upcoming_alone name rows is none (Previous r) of = search rules
upcoming_alone name rows is none (Scenario r) of = search rules
upcoming_alone name rows is none (Control r) of = search rules

-- rows behind `audit` are of that command's requests alone
pub audit_alone : (name : Text) (rows : List Row) → name ≡ codes "audit" → ((r : AuditRequest) → ¬ (IsAudit rows r))
    → (r : Request) → ¬ (IsOfRows (Some (name, rows)) r)
audit_alone name rows is none (Next r) of = search rules
audit_alone name rows is none (Check r) of = search rules
audit_alone name rows is none (Plan r) of = search rules
audit_alone name rows is none (Replay r) of = search rules
audit_alone name rows is none (Run r) of = search rules
audit_alone name rows is none (Why r) of = search rules
audit_alone name rows is none (Audit r) of = search rules
audit_alone name rows is none (Upcoming r) of = search rules
audit_alone name rows is none (Describe r) of = search rules
audit_alone name rows is none (Report r) of = search rules
audit_alone name rows is none (Crontab r) of = search rules
audit_alone name rows is none (Previous r) of = search rules
audit_alone name rows is none (Scenario r) of = search rules
audit_alone name rows is none (Control r) of = search rules

-- rows behind `crontab` are of that command's requests alone
pub crontab_alone : (name : Text) (rows : List Row) → name ≡ codes "crontab" → ((r : CrontabRequest) → ¬ (IsCrontab rows r))
    → (r : Request) → ¬ (IsOfRows (Some (name, rows)) r)
crontab_alone name rows is none (Next r) of = search rules
crontab_alone name rows is none (Check r) of = search rules
crontab_alone name rows is none (Plan r) of = search rules
crontab_alone name rows is none (Replay r) of = search rules
crontab_alone name rows is none (Run r) of = search rules
crontab_alone name rows is none (Why r) of = search rules
crontab_alone name rows is none (Audit r) of = search rules
crontab_alone name rows is none (Upcoming r) of = search rules
crontab_alone name rows is none (Describe r) of = search rules
crontab_alone name rows is none (Report r) of = search rules
crontab_alone name rows is none (Crontab r) of = search rules
crontab_alone name rows is none (Previous r) of = search rules
crontab_alone name rows is none (Scenario r) of = search rules
crontab_alone name rows is none (Control r) of = search rules

-- what is read of the rows behind `upcoming` is what that command's request is read of
pub upcoming_read : (name : Text) (rows : List Row) (from : Result UpcomingRequest WordFault)
    (result : Result Request WordFault)
    {P : UpcomingRequest → Request → Type 0} → name ≡ codes "upcoming" → Reads (IsUpcoming rows) from
    → ((x : UpcomingRequest) (y : Request) → P x y → y ≡ Upcoming x)
    → MatchResult from (λ x. IsOkAnd result (P x)) (λ e. result ≡ Err e) → Reads (IsOfRows (Some (name, rows))) result
upcoming_read name rows (Ok x) (Ok y) is reads made of = rw (made x y of, is) (search rules)
upcoming_read name rows (Ok x) (Err e) is reads made of = search rules
upcoming_read name rows (Err e) (Ok y) is reads made of = search rules
upcoming_read name rows (Err e) (Err f) is reads made of =
    let alone = upcoming_alone name rows is in search rules

-- what is read of the rows behind `audit` is what that command's request is read of
pub audit_read : (name : Text) (rows : List Row) (from : Result AuditRequest WordFault)
    (result : Result Request WordFault)
    {P : AuditRequest → Request → Type 0} → name ≡ codes "audit" → Reads (IsAudit rows) from
    → ((x : AuditRequest) (y : Request) → P x y → y ≡ Audit x)
    → MatchResult from (λ x. IsOkAnd result (P x)) (λ e. result ≡ Err e) → Reads (IsOfRows (Some (name, rows))) result
audit_read name rows (Ok x) (Ok y) is reads made of = rw (made x y of, is) (search rules)
audit_read name rows (Ok x) (Err e) is reads made of = search rules
audit_read name rows (Err e) (Ok y) is reads made of = search rules
audit_read name rows (Err e) (Err f) is reads made of =
    let alone = audit_alone name rows is in search rules

-- what is read of the rows behind `crontab` is what that command's request is read of
pub crontab_read : (name : Text) (rows : List Row) (from : Result CrontabRequest WordFault)
    (result : Result Request WordFault)
    {P : CrontabRequest → Request → Type 0} → name ≡ codes "crontab" → Reads (IsCrontab rows) from
    → ((x : CrontabRequest) (y : Request) → P x y → y ≡ Crontab x)
    → MatchResult from (λ x. IsOkAnd result (P x)) (λ e. result ≡ Err e) → Reads (IsOfRows (Some (name, rows))) result
crontab_read name rows (Ok x) (Ok y) is reads made of = rw (made x y of, is) (search rules)
crontab_read name rows (Ok x) (Err e) is reads made of = search rules
crontab_read name rows (Err e) (Ok y) is reads made of = search rules
crontab_read name rows (Err e) (Err f) is reads made of =
    let alone = crontab_alone name rows is in search rules
