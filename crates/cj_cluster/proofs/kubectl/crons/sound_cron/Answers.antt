-- sound_cron: its clause ok, where the server's part has a fault, and where it has none.
use Rattle.std.proofs.Common.{◌≡◌, ◌∙◌, [], sym, ap, rules}
use Rattle.serde_json.specs.View.{view}
use Rattle.cj_manifest.specs.Drafts.{value_or}
use Rattle.cj_cluster.specs.declared.kubectl.item.Item.TheVariants as Read
use Rattle.cj_cluster.specs.kubectl.Faults.{cron_server_faults}
use Rattle.cj_cluster.proofs.KubectlLemmas.ItemLemmas.{cron_is, none_seen, unless_clear, unless_faulty}
use Rattle.cj_cluster.proofs.kubectl.crons.sound_cron.Goals as goal

pub returns-then-not-is_empty-clause-ok : goal.returns-then-not-is_empty-clause-ok
returns-then-not-is_empty-clause-ok c =
    let d = view c.args.value.now in
    let times = c.cron_times-times.result in
    let faults = c.in_ok-faults.faults in
    let is : faults ≡ cron_server_faults c.args.draft.meta.uid d times = c.in_ok-faults.ensures.ok
    ∙ ap (λ x. cron_server_faults x.meta.uid d times) c.get.ensures in
    let some : faults ≡ [] → ⊥ = search rules in
    record {
      draft = c.args.draft;
      times = times;
      drafted = c.requires.drafted;
      timed = c.cron_times-times.ensures;
      answer = unless_faulty (cron_server_faults c.args.draft.meta.uid d times) faults _ is some;
    }

pub returns-clause-ok : goal.returns-clause-ok
returns-clause-ok c =
    let d = view c.args.value.now in
    let times = c.cron_times-times.result in
    let faults = c.in_ok-faults.faults in
    let is : faults ≡ cron_server_faults c.args.draft.meta.uid d times = c.in_ok-faults.ensures.ok
    ∙ ap (λ x. cron_server_faults x.meta.uid d times) c.get.ensures in
    let none = none_seen faults c.as_slice.result.now c.is_empty.result c.is_empty.ensures c.if-not-is_empty.false
    c.as_slice.ensures in
    let names : c.unwrap_or-names.result ≡ value_or [] c.in_ok-active.active = search rules in
    let made = cron_is c.args.place d c.args.draft c.into_inner.result times c.unwrap_or-names.result
    c.in_ok-active.active c.marks_of-marks.result c.in_ok-cron.cron c.in_ok-cron.ensures.ok c.into_inner.ensures
    names c.in_ok-active.ensures.ok c.marks_of-marks.ensures in
    record {
      draft = c.args.draft;
      times = times;
      drafted = c.requires.drafted;
      timed = c.cron_times-times.ensures;
      answer = unless_clear (cron_server_faults c.args.draft.meta.uid d times) (Read.Cron c.in_ok-cron.cron) _
          (sym is ∙ none) (ap Read.Cron made);
    }
