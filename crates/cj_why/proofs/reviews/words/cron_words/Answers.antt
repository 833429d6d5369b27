-- cron_words: its clause ok, from those of its parts for the CronJob itself.
use Rattle.std.proofs.Common.{rules, string_bytes}
use Rattle.std.proofs.lemmas.Result.{IfOk-weaker}
use Rattle.cj_zone.specs.Table.{zones_of}
use Rattle.cj_why.specs.reviews.Seen.{gone}
use Rattle.cj_why.specs.reviews.Words.{gone_lines}
use Rattle.cj_why.proofs.ReviewsLemmas.Moved.{late_moved, otherwise_moved, title_moved}
use Rattle.cj_why.proofs.reviews.words.cron_words.Goals as goal

pub returns-clause-ok : goal.returns-clause-ok
returns-clause-ok c =
    let cron = c.args.cron.now.cron in
    let zones = zones_of c.args.zones.now in
    let late = string_bytes c.in_ok-late.late in
    let why = string_bytes c.in_ok-why.why in
    IfOk-weaker c.titled.result _ _ (λ s h. record {
      late = late;
      too_late = late_moved cron c.get.result.now zones c.args.now late (search rules) c.in_ok-late.ensures.ok;
      why = why;
      reason = c.in_ok-why.ensures.ok;
      are = title_moved cron c.get-3.result.now (gone_lines (gone c.args.cluster.now c.args.cron.now)) late why _
          c.as_str.result.now c.as_str-2.result.now c.as_str-3.result.now c.as_str-4.result.now (string_bytes s)
          (search rules) (search rules) (search rules) (search rules)
          (otherwise_moved cron c.get-2.result.now zones _ c.as_str-4.result.now
          (search rules) (search rules) c.in_ok-otherwise.ensures.ok) h;
    }) c.titled.ensures.ok
