-- At each turn what is left of the list comes after what is put. Assumes nothing.
use mathlib.Core.Path.{◌∙◌}
use native.Mathlib.Omega.{arith}
use Rattle.picture_nodes.proofs.Along.{along_starts, along_on, along_ends}
use Rattle.picture_nodes.proofs.put_slots.Goals as goal

pub loop-k-init : goal.loop-k-init
loop-k-init c = (omega arith, along_starts c.args.b.now c.args.unit c.args.short c.put-r.new.out c.put-r.result)

pub bounds-places-k : goal.bounds-places-k
bounds-places-k c =
    omega (arith, c.loop-k-test.true, c.requires.places.few)

pub put_slot-r-requires : goal.put_slot-r-requires
put_slot-r-requires c = record { fit = c.requires.fit; indices = c.requires.indices; at_index = c.requires.places.at c.loop-k.k c.loop-k-test.true }

pub loop-k-preserved : goal.loop-k-preserved
loop-k-preserved c =
    (omega (arith, c.loop-k-test.true), along_on c.args.b.now c.args.unit c.args.places.now c.args.count c.requires.places c.args.short c.put-r.new.out c.put-r.result c.loop-k.out c.loop-k.r c.loop-k.k c.loop-k.i c.loop-k.invariant.1 c.loop-k-test.true c.put_comma-s.new.out c.put_comma-s.result c.put_slot-r.new.out c.put_slot-r.result c.put_comma-s.ensures c.put_slot-r.ensures)

pub shape_of-out : goal.shape_of-out
shape_of-out c =
    c.put.ensures.long ∙ (c.loop-k.invariant.1.text.drawn.long ∙ c.put-r.ensures.long)

pub returns : goal.returns
returns c =
    along_ends c.args.b.now c.args.unit c.args.places.now c.args.count c.requires.places c.args.short c.put-r.new.out c.put-r.result c.loop-k.out c.loop-k.r c.loop-k.k c.loop-k.i c.loop-k.invariant.1 c.loop-k-test.false c.args.out.now c.args.at c.put-r.ensures c.put.new.out c.put.result c.put.ensures
