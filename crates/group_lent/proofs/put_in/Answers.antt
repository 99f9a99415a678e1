-- All five words are written. Assumes nothing.
use Rattle.group_lent.proofs.Stores.{sets_all}
use mathlib.Core.Path.{sym}
use Rattle.group_lent.specs.Forms.{five_words}
use Rattle.group_lent.proofs.put_in.Goals as goal

pub returns : goal.returns
returns c = sets_all c.args.w.now (five_words c.args.f) (sym c.all_five.ensures)
