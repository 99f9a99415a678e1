-- Two words are written. Assumes nothing.
use Rattle.group_lent_extends.proofs.pair.Goals as goal

pub returns : goal.returns
returns c = rw (c.flag_after-h.ensures, c.length_after-l.ensures)
