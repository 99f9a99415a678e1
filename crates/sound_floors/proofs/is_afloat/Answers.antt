-- By cases of the class. Assumes nothing.
use Rattle.sound_floors.proofs.Rows.{none_afloat, ring_afloat, single_afloat}
use Rattle.sound_floors.proofs.is_afloat.Goals as goal

pub returns-in-Absent : goal.returns-in-Absent
returns-in-Absent c = let n = c.load_node-n in none_afloat n.result _ c.args.t n.ensures c.in-Absent.is

pub returns-in-Blossom : goal.returns-in-Blossom
returns-in-Blossom c = let n = c.load_node-n in ring_afloat n.result _ c.args.t n.ensures c.in-Blossom.is c.is_high.result c.is_high.ensures

pub returns-in-Defect : goal.returns-in-Defect
returns-in-Defect c = let n = c.load_node-n in single_afloat n.result _ c.args.t n.ensures _ c.in-Defect.is c.is_high-in-Defect.result c.is_high-in-Defect.ensures
