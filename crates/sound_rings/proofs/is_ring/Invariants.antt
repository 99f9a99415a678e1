-- Each turn follows one link of the circle; each way out is a test that fails, or all of them. Assumes nothing.
use Rattle.bench_words.specs.Store.{node_at}
use Rattle.sound_rings.proofs.Walking.{Going}
use Rattle.sound_rings.proofs.is_ring.Given as goal

abbrev pub invariant-loop-i : goal.invariant-loop-i
invariant-loop-i l = Going (node_at l.b) l.next l.h l.n l.p l.total l.i
