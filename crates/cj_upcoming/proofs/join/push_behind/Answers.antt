-- push_behind: its loop, by the next link and text.
use Rattle.std.proofs.Common.{◌++◌, ◌+◌, ◌-◌, ◌==◌, drop, length, map, string_bytes, ap, sym, ◌∙◌, arith}
use Rattle.cj_upcoming.specs.Lists.{behind, link}
use Rattle.cj_upcoming.proofs.Places.{behind_step, grows}
use Rattle.cj_upcoming.proofs.join.push_behind.Goals as goal

pub loop-i-preserved : goal.loop-i-preserved
loop-i-preserved c =
    let xs = c.args.items.now in
    let i = c.loop-i.i in
    let x = c.index-items-i.result in
    let rest = behind (map string_bytes (drop (i + 1) xs)) in
    let piece = link (length xs - (i + 1) == 0) ++ string_bytes x in
    let whole = string_bytes c.args.text.now ++ behind (map string_bytes xs) in
    grows (string_bytes c.loop-i.text) (string_bytes c.push_linked.new.text) piece rest whole
    (c.in_ok-push_linked.ensures
    ∙ ap (λ y. string_bytes c.loop-i.text ++ (link (length xs - (i + 1) == 0) ++ y)) c.as_str.ensures.value)
    (ap (λ y. string_bytes c.loop-i.text
    ++ y) (sym (behind_step string_bytes xs i x (omega arith) c.index-items-i.is)) ∙ c.loop-i.invariant)
