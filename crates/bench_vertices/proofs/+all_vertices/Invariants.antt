-- A blossom's members, whose serials are lower, write their vertices one after the other. Assumes nothing.
use Prim.Native.Nat.{◌-◌}
use Rattle.bench_words.specs.Store.{node_at}
use Rattle.bench_vertices.proofs.Circling.{Going}
use Rattle.bench_vertices.proofs.+all_vertices.Given as goal

abbrev pub decreases-all_vertices : goal.decreases-all_vertices
decreases-all_vertices l = (node_at l.b.now l.k).serial.0

abbrev pub invariant-loop : goal.invariant-loop
invariant-loop l = Going l.b l.k l.at l.fn.out l.i l.p (l.end - l.counter) l.out
