-- The entries are copied and counted. Assumes nothing.
use Rattle.group_lent_extends.proofs.append.Goals as goal

pub returns : goal.returns
returns c = rw c.copy.ensures
