-- WatchLog::push: the type's invariant, that the log keeps the last events up to its window.
use Rattle.std.proofs.Common.{◌+◌, ◌∙◌, ap, sym}
use Rattle.cj_watch.specs.Log.{Log}
use Rattle.cj_watch.proofs.Logs.{put_keeps}
use Rattle.cj_watch.proofs.log.WatchLog.push.Goals as goal

pub invariant_of-self : goal.invariant_of-self
invariant_of-self c =
    let log : Log = record {
      kept = c.self.inside.events.items;
      count = c.self.inside.count;
      window = c.self.inside.events.capacity;
    } in
    let next = c.requires.next ∙ ap (λ (l : Log). l.count + 1) (sym c.self.view_is) in
    put_keeps log c.args.event c.put_last.new.ring c.get-self-inside.result c.self.invariant next c.put_last.ensures
    (c.get-self-inside.ensures ∙ c.version.ensures)
