-- foretold_under: its clause ok of a list, by what is told of its window.
use Rattle.std.proofs.Common.{ℕ, List, inr, string_bytes}
use Rattle.std.proofs.lemmas.Result.{IfOk-weaker}
use Rattle.std.specs.FinMap as map
use Rattle.cj_zone.specs.Table.{zones_of}
use Rattle.cj_c.specs.declared.answers.told.Told.{Told}
use Rattle.cj_c.specs.declared.answers.told.Told.TheVariants as Was
use Rattle.cj_c.specs.answers.Buffers.{IsTold}
use Rattle.cj_c.specs.answers.Upcoming.{IsForetold, IsTooMany, IsUpcomingRefusal, IsWindowTold}
use Rattle.cj_c.proofs.answers.upcoming.foretold_under.Goals as goal

-- What is told is what follows from it.
told_as : (P Q R S : List ℕ → Type 0) → ((text : List ℕ) → P text → R text)
    → ((text : List ℕ) → Q text → S text) → (t : Told) → IsTold P Q t → IsTold R S t
told_as P Q R S f g (Was.Done text) h = f (string_bytes text) h
told_as P Q R S f g (Was.Refused text) h = g (string_bytes text) h

pub returns-in-Ok-clause-ok : goal.returns-in-Ok-clause-ok
returns-in-Ok-clause-ok c zones_text are =
    let zones = zones_of c.args.zones.now in
    let list = c.in-Ok.list in
    let bytes = c.args.bytes.now in
    let w = c.args.window.now in
    let crons = map.values list.cluster.crons in
    let told : (text : List ℕ) → IsWindowTold zones w crons list.notes c.args.most text
    → IsForetold bytes zones_text w c.args.most text =
    λ text h. record { zones = zones; zones_are = are; list = list; read = c.in-Ok.ensures.read; told = h } in
    let many : (text : List ℕ) → IsTooMany zones w crons text → IsUpcomingRefusal bytes zones_text w text =
    λ text h. inr (record { zones = zones; zones_are = are; list = list; read = c.in-Ok.ensures.read; many = h }) in
    IfOk-weaker c.list_told.result _ _ (told_as (IsWindowTold zones w crons list.notes c.args.most)
    (IsTooMany zones w crons) (IsForetold bytes zones_text w c.args.most) (IsUpcomingRefusal bytes zones_text w) told
    many) c.list_told.ensures.ok
