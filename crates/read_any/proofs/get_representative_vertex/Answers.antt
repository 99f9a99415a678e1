-- The verdict on the words decides: BROKEN, or the read on sound words. Assumes nothing.
use borrow.Author.Rules.{rules}
use Rattle.sound_lent.proofs.Asking.{no_bench, a_bench, fits}
use mathlib.Core.Path.{ap}
use mathlib.Core.Bool.{not}
use Rattle.read_any.proofs.get_representative_vertex.Goals as goal

pub returns-then-not-is_bench : goal.returns-then-not-is_bench
returns-then-not-is_bench c = no_bench _ _ _ c.is_bench.ensures (ap not c.if-not-is_bench.true)

pub get_representative_vertex-requires : goal.get_representative_vertex-requires
get_representative_vertex-requires c = fits c.is_bench.ensures (ap not c.if-not-is_bench.false)

pub returns : goal.returns
returns c = a_bench _ _ _ c.is_bench.ensures (ap not c.if-not-is_bench.false) c.get_representative_vertex.ensures
