-- fields_of: its ensures, by the five words.
use Rattle.cj_check.proofs.CrontabWords.{five_words}
use Rattle.cj_check.proofs.crontab.when.fields_of.Goals as goal

pub returns : goal.returns
returns c =
    five_words c.args.text.now c.next_word.result.0.now c.next_word.result.1.now
    c.next_word-2.result.0.now c.next_word-2.result.1.now c.next_word-3.result.0.now
    c.next_word-3.result.1.now c.next_word-4.result.0.now c.next_word-4.result.1.now
    c.next_word-5.result.0.now c.next_word-5.result.1.now
    c.next_word.ensures c.next_word-2.ensures c.next_word-3.ensures c.next_word-4.ensures c.next_word-5.ensures
