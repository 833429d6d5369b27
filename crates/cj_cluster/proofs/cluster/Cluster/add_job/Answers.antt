-- add_job: the invariant of the cluster with the Job or without it; its clause err, as the times that were put are
-- taken out again.
use Rattle.std.proofs.Common.{rules, ◌∙◌, sym, subst}
use Rattle.cj_cluster.specs.Content.{IsSound}
use Rattle.cj_cluster.proofs.Sound.{parts_undone, parts_with_job}
use Rattle.cj_cluster.proofs.cluster.Cluster.add_job.Goals as goal

pub invariant_of-self-in-Ok : goal.invariant_of-self-in-Ok
invariant_of-self-in-Ok c =
    parts_with_job c.self.inside.crons c.self.inside.jobs c.add.new.self c.self.inside.times c.insert.new.self
    c.args.job c.args.times c.self.invariant (search rules) (search rules)

pub invariant_of-self-in-Err : goal.invariant_of-self-in-Err
invariant_of-self-in-Err c =
    subst IsSound (sym (parts_undone c.self.inside.crons c.self.inside.jobs c.add.new.self c.self.inside.times
    c.insert.new.self c.remove.new.self c.args.job.key c.args.times c.self.invariant (search rules) (search rules)
    (search rules) (search rules))) c.self.invariant

pub returns-clause-err : goal.returns-clause-err
returns-clause-err c =
    parts_undone c.self.inside.crons c.self.inside.jobs c.add.new.self c.self.inside.times c.insert.new.self
    c.remove.new.self c.args.job.key c.args.times c.self.invariant (search rules) (search rules) (search rules)
    (search rules) ∙ c.self.view_is
