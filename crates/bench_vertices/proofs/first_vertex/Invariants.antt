-- A defect has its own vertex; a blossom's first vertex is that of its first member, whose serial is lower: the number that falls. Assumes nothing.
use Rattle.bench_words.specs.Store.{node_at}
use Rattle.bench_vertices.proofs.Circling.{Down}
use Rattle.bench_vertices.proofs.first_vertex.Given as goal

abbrev pub invariant-loop-v : goal.invariant-loop-v
invariant-loop-v l = Down l.b l.k l.p

abbrev pub decreases-loop-v : goal.decreases-loop-v
decreases-loop-v l = (node_at l.b l.p).serial.0
