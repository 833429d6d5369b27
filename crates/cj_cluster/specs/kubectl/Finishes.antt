-- The end of a Job, whose time is a value, as the end that it is.
use Rattle.std.specs.Prelude.{option_map}
use Rattle.serde_json.specs.View.{view}
use Rattle.cj_cluster.specs.declared.kubectl.conditions.FinishAt.{FinishAt}
use Rattle.cj_cluster.specs.kubectl.Rows.{Finish}

abbrev pub finish_of : FinishAt → Finish
finish_of f = record { ending = f.ending; time = option_map (λ v. view v.now) f.time }
