-- A defect has its own vertex; a blossom's first vertex is that of its first member, whose serial is lower: the number that falls. Assumes nothing.
use mathlib.Core.Path.{◌≡◌, refl, ◌∙◌}
use Rattle.kinds.specs.declared.Class.TheVariants.{Absent, Blossom, Defect}
use Rattle.bench_vertices.proofs.Circling.{never, first_own, first_placed, first_older, first_under}
use Rattle.bench_vertices.proofs.first_vertex.Goals as goal

pub loop-v-init : goal.loop-v-init
loop-v-init c = record { placed = c.requires.placed; same = refl }

pub load_node-n-requires : goal.load_node-n-requires
load_node-n-requires c = c.loop-v.invariant.placed.low

pub returns-in-Absent : goal.returns-in-Absent
returns-in-Absent c =
    let l = c.loop-v in
    let n = c.load_node-n in
    let q : n.result.class ≡ Absent = cc in
    absurd (never c.args.b.now c.requires.fit l.p l.invariant.placed n.result n.ensures q)

pub returns-in-Defect : goal.returns-in-Defect
returns-in-Defect c =
    let l = c.loop-v in
    let n = c.load_node-n in
    let v = c.in-Defect.v in
    let q : n.result.class ≡ Defect v = cc in
    first_own c.args.b.now c.requires.fit l.p l.invariant.placed n.result n.ensures v q ∙ l.invariant.same

pub loop-v-smaller : goal.loop-v-smaller
loop-v-smaller c =
    let l = c.loop-v in
    let n = c.load_node-n in
    let q : n.result.class ≡ Blossom = cc in
    first_older c.args.b.now c.requires.fit l.p l.invariant.placed n.result n.ensures q

pub loop-v-preserved : goal.loop-v-preserved
loop-v-preserved c =
    let l = c.loop-v in
    let n = c.load_node-n in
    let q : n.result.class ≡ Blossom = cc in
    record {
      placed = first_placed c.args.b.now c.requires.fit l.p l.invariant.placed n.result n.ensures q;
      same = first_under c.args.b.now c.requires.fit l.p l.invariant.placed n.result n.ensures q ∙ l.invariant.same;
    }
