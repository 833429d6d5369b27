-- instant: its one clause, since jiff reads the text that an instant prints as.
use Rattle.std.proofs.Common.{◌≡◌, ◌∙◌, ap, sym}
use Rattle.jiff_fmt.specs.Temporal.{parse_timestamp}
use Rattle.cj_zone.proofs.ReadLemmas.{printed_reads, read_some, read_is, second_of, tried, some_is}
use Rattle.cj_zone.proofs.parse_time.instant.Goals as goal

pub returns-in_err-read : goal.returns-in_err-read
returns-in_err-read c = λ t h e.
    absurd (read_some c.parse.result _ (c.parse.ensures.value ∙ ap parse_timestamp e ∙ printed_reads t h)
    (sym c.ok.ensures.value ∙ c.in_err-read.was))

pub returns-in_err-second : goal.returns-in_err-second
returns-in_err-second c = λ t h e.
    let moment = read_is c.parse.result _ c.in_ok-read.read
    (c.parse.ensures.value ∙ ap parse_timestamp e ∙ printed_reads t h) (sym c.ok.ensures.value ∙ c.in_ok-read.was) in
    let count = tried c.try_from.result c.as_second.result t h (c.as_second.ensures ∙ second_of _ t moment)
    c.try_from.ensures in
    absurd (cc (sym count ∙ sym c.ok-2.ensures.value ∙ c.in_err-second.was))

pub returns : goal.returns
returns c = λ t h e.
    let moment = read_is c.parse.result _ c.in_ok-read.read
    (c.parse.ensures.value ∙ ap parse_timestamp e ∙ printed_reads t h) (sym c.ok.ensures.value ∙ c.in_ok-read.was) in
    let count = tried c.try_from.result c.as_second.result t h (c.as_second.ensures ∙ second_of _ t moment)
    c.try_from.ensures in
    let same : c.in_ok-second.second ≡ t = cc (sym count ∙ sym c.ok-2.ensures.value ∙ c.in_ok-second.was) in
    some_is c.new.result c.in_ok-second.second t c.new.ensures.in_range.1 c.new.ensures.value same h
