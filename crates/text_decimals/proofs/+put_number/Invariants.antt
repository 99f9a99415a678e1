-- The digits before the last are written by the call within, which has fewer: n / 10 is below n. Assumes nothing.
use Rattle.text_decimals.proofs.+put_number.Given as goal

abbrev pub decreases-put_number : goal.decreases-put_number
decreases-put_number l = l.n
