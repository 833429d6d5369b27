-- list_reports, its loop: at each turn the answers and the values so far, with those of the items to come, are those of
-- all, and the place is that of the last item.
use Rattle.std.proofs.Common.{◌≡◌, ◌+◌, drop, map}
use Rattle.serde_json.specs.View.{view}
use Rattle.cj_zone.specs.Table.{zones_of}
use Rattle.cj_check.proofs.ItemAnswers.{Begins}
use Rattle.cj_check.proofs.ItemData.{Leads}
use Rattle.cj_check.proofs.check_list.list_reports.Given as goal

abbrev pub invariant-loop-text : goal.invariant-loop-text
invariant-loop-text l =
    Begins l.check (zones_of l.zones) l.texts l.seen (drop l.text-index l.texts) l.answers.items
    × Leads (zones_of l.zones) l.texts l.seen (l.place + 1) (drop l.text-index l.texts) (map view l.values.items)
    × (l.place ≡ l.text-index)
