-- What is left to read says what all of it says (`Going`), and no sum passes the range's end. Assumes nothing.
use Rattle.text_decimals.proofs.Values.{Going}
use Rattle.text_decimals.proofs.value_in.Given as goal

abbrev pub invariant-loop-c : goal.invariant-loop-c
invariant-loop-c l = Going l.f l.most l.n l.c-index
