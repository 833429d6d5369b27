-- Upkeep::see: its clause ok, of the history with the entry.
use Rattle.std.proofs.Common.{◌∙◌, ap}
use Rattle.cj_calls.specs.declared.call.Call.{Call}
use Rattle.cj_calls.specs.declared.caller.Caller.{Caller}
use Rattle.cj_run.specs.Turns.{progress_after}
use Rattle.cj_run.proofs.Kept.{look_more}
use Rattle.cj_run.proofs.upkeep.Upkeep.see.Goals as goal

pub returns-clause-ok : goal.returns-clause-ok
returns-clause-ok c = λ h k.
    let s = c.args.span.now in
    let p = c.args.self.now.progress in
    let e = c.args.entry.now in
    look_more s e h c.args.self.now
    (record {
      progress = c.after-self.result;
      work = c.go.new.self;
      untaken = c.note_entry.new.untaken;
      kept = c.is_kept-self.result;
    })
    c.is_over_with-over.result c.in_ok-clear.clear c.is_over_with-over.ensures c.in_ok-clear.ensures
    c.is_kept-self.ensures c.in_ok-go.ensures c.in_ok-note_entry.ensures
    (c.after-self.ensures.value
    ∙ ap (λ (x : Caller). progress_after s p x.role c.call.result.now) c.caller.ensures
    ∙ ap (λ (x : Call). progress_after s p e.caller.role x) c.call.ensures.value)
    k
