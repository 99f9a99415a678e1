-- Each return is one case of what the slot's words hold. Assumes nothing.
use Rattle.check_walks.proofs.Looking.{look_absent, look_strict, look_again, look_new, ring_placed, ring_is, look_ring}
use Rattle.check_walks.proofs.look.Goals as goal

pub returns-then-strict : goal.returns-then-strict
returns-then-strict c =
    let x = c.load_node in
    let v = c.in-Defect.v in
    let q = c.in-Defect.is in
    (rw c.told-then-strict.ensures (look_strict c.args.b.now c.args.unit c.args.k c.args.p c.requires.at_index x.result x.ensures c.args.strict c.args.met.now c.args.n c.requires.keeps v q c.if-strict.true), c.requires.nests)

pub returns-then-meet : goal.returns-then-meet
returns-then-meet c =
    let v = c.in-Defect.v in
    let q = c.in-Defect.is in
    let m = c.meet in
    (rw c.told-then-meet.ensures (look_again c.args.b.now c.args.unit c.args.k c.args.p c.requires.at_index c.load_node.result c.load_node.ensures c.args.strict c.args.met.now c.args.n c.requires.keeps v q c.if-strict.false m.new.t m.result m.ensures c.if-meet.true), c.requires.nests)

pub look_circle-j-requires : goal.look_circle-j-requires
look_circle-j-requires c =
    let x = c.load_node in
    let q = c.in-Blossom.is in record { fit = c.requires.fit; unit_bound = c.requires.unit_bound; unit_value = c.requires.unit_value; placed = ring_placed c.args.b.now c.args.unit c.args.k c.args.p c.requires.at_index x.result x.ensures c.args.strict c.args.met.now c.args.n c.requires.keeps q; p_value = ring_is c.args.b.now c.args.unit c.args.k c.args.p c.requires.at_index x.result x.ensures c.args.strict c.args.met.now c.args.n c.requires.keeps q; nests = c.requires.nests }

pub returns-in-Absent : goal.returns-in-Absent
returns-in-Absent c =
    let x = c.load_node in
    let q = c.in-Absent.is in
    (rw c.told.ensures (look_absent c.args.b.now c.args.unit c.args.k c.args.p c.requires.at_index x.result x.ensures c.args.strict c.args.met.now c.args.n c.requires.keeps q), c.requires.nests)

pub returns-else-meet : goal.returns-else-meet
returns-else-meet c =
    let v = c.in-Defect.v in
    let q = c.in-Defect.is in
    let m = c.meet in
    (rw c.told-in-Defect.ensures (look_new c.args.b.now c.args.unit c.args.k c.args.p c.requires.at_index c.load_node.result c.load_node.ensures c.args.strict c.args.met.now c.args.n c.requires.keeps v q c.if-strict.false m.new.t m.result m.ensures c.if-meet.false), c.requires.nests)

pub returns-in-Blossom : goal.returns-in-Blossom
returns-in-Blossom c =
    let x = c.load_node in
    let q = c.in-Blossom.is in
    let j = c.look_circle-j in
    (rw c.told-in-Blossom.ensures (look_ring c.args.b.now c.args.unit c.args.k c.args.p c.requires.at_index x.result x.ensures c.args.strict c.args.met.now c.args.n c.requires.keeps q j.result j.ensures.0), j.ensures.1)
