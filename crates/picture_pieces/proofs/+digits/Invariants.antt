-- A number's digits are one more than those of its tenth, and at most 20. Assumes nothing.
use Rattle.picture_pieces.proofs.+digits.Given as goal

abbrev pub decreases-digits : goal.decreases-digits
decreases-digits l = l.n
