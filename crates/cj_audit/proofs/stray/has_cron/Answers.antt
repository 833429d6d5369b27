-- has_cron: its clause ok, by what stands at the key that the Job names.
use Rattle.std.proofs.Common.{rules, ◌≡◌, ◌∙◌, sym, ap, subst, Some, None}
use Rattle.std.specs.FinMap as map
use Rattle.cj_types.specs.Keys.{place}
use Rattle.cj_cluster.specs.Content.{is_of}
use Rattle.cj_audit.proofs.Controls.{none_ill, none_there, no_place, one_there, place_of}
use Rattle.cj_audit.proofs.stray.has_cron.Goals as goal

pub returns-in_default-clause-ok : goal.returns-in_default-clause-ok
returns-in_default-clause-ok c =
    sym (none_ill c.args.cluster.now c.args.job.now c.args.name.now c.requires.short c.requires.named
    (no_place _ _ _ _ c.in_ok-key.field-0 c.in_default.is c.in_ok-key.ensures.ok c.namespace.ensures c.as_str.ensures))

pub returns-in-Some-cron-clause-ok : goal.returns-in-Some-cron-clause-ok
returns-in-Some-cron-clause-ok c =
    let key : c.in-Some.key ≡ place c.args.job.now.key.namespace c.args.name.now = place_of _ _ _ _ c.in-Some.key
    c.in_ok-key.field-0 c.in-Some.is c.in_ok-key.ensures.ok c.namespace.ensures c.as_str.ensures in
    let found : map.get c.args.cluster.now.crons c.in-Some.key ≡ Some c.in-Some-cron.cron.now = search rules in
    let there : map.get c.args.cluster.now.crons (place c.args.job.now.key.namespace c.args.name.now)
    ≡ Some c.in-Some-cron.cron.now =
    subst (λ k. map.get c.args.cluster.now.crons k ≡ Some c.in-Some-cron.cron.now) key found in
    c.controls.ensures ∙ ap (λ x. is_of x c.args.job.now) c.deref.ensures
    ∙ sym (one_there c.args.cluster.now c.in-Some-cron.cron.now c.args.job.now c.args.name.now c.cron.ensures.sound
    c.requires.named there)

pub returns-clause-ok : goal.returns-clause-ok
returns-clause-ok c =
    let key : c.in-Some.key ≡ place c.args.job.now.key.namespace c.args.name.now = place_of _ _ _ _ c.in-Some.key
    c.in_ok-key.field-0 c.in-Some.is c.in_ok-key.ensures.ok c.namespace.ensures c.as_str.ensures in
    let none : map.get c.args.cluster.now.crons c.in-Some.key ≡ None = search rules in
    sym (none_there c.args.cluster.now c.args.job.now c.args.name.now c.cron.ensures.sound c.requires.named
    (subst (λ k. map.get c.args.cluster.now.crons k ≡ None) key none))
