-- refused_text: its loop goes on with an entry more.
use Rattle.std.proofs.Common.{◌≡◌, ◌+◌, ◌∷◌, take, string_bytes, arith}
use Rattle.std.proofs.lemmas.Grind.{common_steps}
use mathlib.Core.List.{reverse}
use Rattle.cj_program.proofs.Refusals.{refused_more, went_more}
use Rattle.cj_program.proofs.remarks.refused.refused_text.Goals as goal

pub loop-entry-preserved : goal.loop-entry-preserved
loop-entry-preserved c =
    let s = c.args.span.now in
    let e = c.entry-item.result in
    let past = reverse (take c.loop-entry.entry-index c.args.entries.now) in
    let next = reverse (take (c.loop-entry.entry-index + 1) c.args.entries.now) in
    let more : e ∷ past ≡ next = grind (arith, common_steps) in
    let was = c.loop-entry.invariant in
    let short = was.short in
    let step = c.in_ok-read_entry.ensures.short in
    record {
      short = omega (arith, short, step);
      progress = went_more s e past next more c.loop-entry.progress c.read_entry.new.progress was.progress
          c.in_ok-read_entry.ensures.progress;
      text = refused_more s e past next more c.loop-entry.progress c.read_entry.new.progress was.progress
          (string_bytes c.loop-entry.text) (string_bytes c.read_entry.new.text) c.in_ok-read_entry.ensures.text
          was.text;
    }
