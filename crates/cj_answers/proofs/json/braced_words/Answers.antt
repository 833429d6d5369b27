-- braced_words: its ensures, by the place and by what is said of what stands behind it.
use Rattle.cj_answers.proofs.json.braced_words.Goals as goal

pub returns : goal.returns
returns c = record {
  line = c.in_ok-place.place.line;
  column = c.in_ok-place.place.column;
  more = c.in_ok-more.more.now;
  is_more = c.in_ok-more.ensures;
  are = c.in_ok-placed.ensures;
}
