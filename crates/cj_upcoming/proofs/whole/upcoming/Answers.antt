-- upcoming: its clauses, since what is noted in an empty set is what starts in the window.
use Rattle.std.proofs.Common.{rules, ◌≡◌, IfErr, sym, subst}
use Rattle.std.proofs.lemmas.Result.{IfErr-weaker, IfOk-weaker}
use Rattle.cj_zone.specs.Table.{zones_of}
use Rattle.cj_upcoming.specs.Upcoming.{IsUpcoming, HasMore}
use Rattle.cj_upcoming.specs.declared.fault.StartsFault.{StartsFault}
use Rattle.cj_upcoming.specs.declared.fault.StartsFault.TheVariants.{TooMany}
use Rattle.cj_upcoming.proofs.Noted.{all_noted, all_over}
use Rattle.cj_upcoming.proofs.whole.upcoming.Goals as goal

pub returns-clause-ok : goal.returns-clause-ok
returns-clause-ok c =
    let zones = zones_of c.args.zones.now in
    let w = c.args.window.now in
    let xs = c.args.crons.now in
    let whole : IsUpcoming zones w xs c.note_crons.new.starts.keys = all_noted zones w xs c.new-starts.result
    c.note_crons.new.starts c.new-starts.ensures.empty c.in_ok-note_crons.ensures.ok c.of_set.ensures.ordered in
    IfOk-weaker c.of_set.result _ _ (λ f e. subst (λ ys. IsUpcoming zones w xs ys) (sym e) whole) c.of_set.ensures.ok

pub returns-in_err-note_crons-clause-many : goal.returns-in_err-note_crons-clause-many
returns-in_err-note_crons-clause-many c =
    let zones = zones_of c.args.zones.now in
    let w = c.args.window.now in
    let xs = c.args.crons.now in
    let more : IfErr c.note_crons.result (λ (e : StartsFault). e ≡ TooMany → HasMore zones w xs c.args.most) =
    IfErr-weaker c.note_crons.result _ _ (λ e h is. all_over zones w xs c.args.most c.new-starts.result
    c.note_crons.new.starts c.new-starts.ensures.empty (h is)) c.note_crons.ensures.many in
    search rules
