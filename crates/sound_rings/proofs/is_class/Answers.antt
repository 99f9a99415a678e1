-- A class is told by its case. Assumes nothing.
use mathlib.Core.Path.{◌≡◌}
use Rattle.kinds.specs.declared.Class.TheVariants.{Absent, Blossom, Defect}
use Rattle.bench_words.specs.Store.{node_at}
use Rattle.sound_rings.proofs.Walking.{class_absent, class_ring, class_defect}
use Rattle.sound_rings.proofs.is_class.Goals as goal

pub returns-in-Absent : goal.returns-in-Absent
returns-in-Absent c = let q : c.args.n.class ≡ Absent = cc in class_absent (node_at c.args.b.now) c.args.next c.args.h c.args.n q

pub returns-in-Blossom : goal.returns-in-Blossom
returns-in-Blossom c = let q : c.args.n.class ≡ Blossom = cc in class_ring (node_at c.args.b.now) c.args.next c.args.h c.args.n q c.is_ring.result c.is_ring.ensures

pub returns-in-Defect : goal.returns-in-Defect
returns-in-Defect c = let q : c.args.n.class ≡ Defect c.in-Defect._v = cc in class_defect (node_at c.args.b.now) c.args.next c.args.h c.args.n c.in-Defect._v q
