-- add_cron: the invariant of the cluster, as it was or with the CronJob.
use Rattle.std.proofs.Common.{rules, ◌≡◌, ◌∙◌, ap, subst, sym}
use Rattle.std.specs.FinMap as map
use Rattle.cj_cluster.specs.Content.{IsSound, with_cron}
use Rattle.cj_cluster.proofs.Sound.{content, parts_with_cron}
use Rattle.cj_cluster.proofs.cluster.Cluster.add_cron.Goals as goal

pub invariant_of-self : goal.invariant_of-self
invariant_of-self c =
    let same : c.insert.new.self ≡ c.self.inside.crons = search rules in
    subst (λ x. IsSound (content x c.self.inside.jobs c.self.inside.times)) (sym same) c.self.invariant

pub invariant_of-self-2 : goal.invariant_of-self-2
invariant_of-self-2 c =
    let key : c.in_ok-key.key ≡ c.args.cron.cron.key = search rules in
    let cron : c.in_ok-cron.cron ≡ c.args.cron = search rules in
    let put : c.insert.new.self ≡ map.insert c.self.inside.crons c.in_ok-key.key c.in_ok-cron.cron = search rules in
    parts_with_cron c.self.inside.crons c.insert.new.self c.self.inside.jobs c.self.inside.times c.args.cron
    c.self.invariant (put ∙ ap (λ k. map.insert c.self.inside.crons k c.in_ok-cron.cron) key
    ∙ ap (λ x. map.insert c.self.inside.crons c.args.cron.cron.key x) cron)

pub returns-clause-ok : goal.returns-clause-ok
returns-clause-ok c =
    let key : c.in_ok-key.key ≡ c.args.cron.cron.key = search rules in
    let cron : c.in_ok-cron.cron ≡ c.args.cron = search rules in
    let put : c.insert.new.self ≡ map.insert c.self.inside.crons c.in_ok-key.key c.in_ok-cron.cron = search rules in
    ap (λ x. content x c.self.inside.jobs c.self.inside.times) (put
    ∙ ap (λ k. map.insert c.self.inside.crons k c.in_ok-cron.cron) key
    ∙ ap (λ x. map.insert c.self.inside.crons c.args.cron.cron.key x) cron)
    ∙ ap (with_cron c.args.cron) c.self.view_is
