-- The verdict on the words decides: BROKEN, or the picture on sound words, which alone writes to the slice. Assumes nothing.
use borrow.Author.Rules.{rules}
use Rattle.sound_lent.proofs.Asking.{no_bench, a_bench, fits}
use mathlib.Core.Path.{ap}
use mathlib.Core.Bool.{not}
use Rattle.picture_any.proofs.snapshot.Goals as goal

pub returns-then-not-is_bench : goal.returns-then-not-is_bench
returns-then-not-is_bench c = no_bench _ _ _ c.is_bench.ensures (ap not c.if-not-is_bench.true)

pub snapshot-requires : goal.snapshot-requires
snapshot-requires c = fits c.is_bench.ensures (ap not c.if-not-is_bench.false)

pub returns : goal.returns
returns c =
    a_bench _ _ _ c.is_bench.ensures (ap not c.if-not-is_bench.false) c.snapshot.ensures
