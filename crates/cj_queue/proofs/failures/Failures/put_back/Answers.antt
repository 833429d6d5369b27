-- Failures::put_back: its one clause, where the key had no count and where it had one, which the map has then.
use Rattle.std.proofs.Common.{refl, sym, ap, ◌∙◌}
use Rattle.std.specs.FinMap as map
use Rattle.cj_table.proofs.Rows.{found_at, inserted_at, removed_at}
use Rattle.cj_queue.specs.Parts.{Counts}
use Rattle.cj_queue.proofs.Counts.{taken_back, given_back, count_there}
use Rattle.cj_queue.proofs.failures.Failures.put_back.Goals as goal

pub returns-in_default : goal.returns-in_default
returns-in_default c = λ counts n before put.
    removed_at c.self.inside.counts.entries c.remove.new.self.entries c.args.key.now c.remove.ensures.updates.0
    ∙ ap (λ (m : Counts). map.remove m c.args.key.now) c.self.view_is
    ∙ taken_back counts c.args.self.now c.args.key.now n (before ∙ c.in_default.is) put

pub returns-in_default-get_mut : goal.returns-in_default-get_mut
returns-in_default-get_mut c = λ counts n before put.
    absurd (count_there counts c.args.self.now c.args.key.now n put
    (ap (λ (m : Counts). map.get m c.args.key.now) (sym c.self.view_is)
    ∙ found_at c.self.inside.counts.entries c.args.key.now ∙ sym c.in_default-get_mut.ensures.value))

pub returns : goal.returns
returns c = λ counts n before put.
    let w = c.in-Some.count in
    let writes = (c.get_mut.follows.holds w).3 (rw (← c.in-Some-get_mut.ensures.value) refl) in
    inserted_at c.self.inside.counts.entries (c.get_mut.follows.lender w).entries c.args.key.now w writes.0
    ∙ ap (λ (m : Counts). map.insert m c.args.key.now w) c.self.view_is
    ∙ given_back counts c.args.self.now c.args.key.now n w (before ∙ c.in-Some.is) put
