-- are_digits: it calls itself with a smaller count of digits.
use Rattle.cj_types.proofs.uid.+are_digits.Given as goal

abbrev pub decreases-are_digits : goal.decreases-are_digits
decreases-are_digits l = l.count
