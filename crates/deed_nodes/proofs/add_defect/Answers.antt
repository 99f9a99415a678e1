-- The passed tests leave a slot and a serial; the words pushed are those of the law of add defect. Assumes nothing.
use mathlib.Core.Path.{ap}
use native.Mathlib.Omega.{arith}
use Rattle.bench_words.specs.declared.Interface.{Interface}
use Rattle.bench_views.specs.View.{lag_of}
use Rattle.deed_nodes.proofs.Bodies.{defect_space, defect_by}
use borrow.Author.Rules.{rules}
use Rattle.deed_nodes.proofs.add_defect.Goals as goal

pub load_interface-f-requires : goal.load_interface-f-requires
load_interface-f-requires c = let a = c.args in let s = defect_space a.b.now a.unit a.vertex c.requires.0 c.requires.1 in s.top

pub free_slot-slot-requires : goal.free_slot-slot-requires
free_slot-slot-requires c = let a = c.args in let s = defect_space a.b.now a.unit a.vertex c.requires.0 c.requires.1 in record { canon = s.canon; unit_bound = s.top }

pub overflow_cast-serial : goal.overflow_cast-serial
overflow_cast-serial c =
    let a = c.args in
    let s = defect_space a.b.now a.unit a.vertex c.requires.0 c.requires.1 in
    omega (arith, s.next, c.load_next-next.ensures)

pub new_node-n-requires : goal.new_node-n-requires
new_node-n-requires c =
    let a = c.args in
    let s = defect_space a.b.now a.unit a.vertex c.requires.0 c.requires.1 in
    omega (arith, s.short, c.lag-t.ensures, ap (λ (x : Interface). lag_of x) c.load_interface-f.ensures)

pub overflow_add-f : goal.overflow_add-f
overflow_add-f c =
    let a = c.args in
    let s = defect_space a.b.now a.unit a.vertex c.requires.0 c.requires.1 in
    omega (arith, s.fast, ap (λ (x : Interface). x.speed) c.load_interface-f.ensures)

pub push-requires : goal.push-requires
push-requires c =
    let a = c.args in
    let s = defect_space a.b.now a.unit a.vertex c.requires.0 c.requires.1 in
    (s.top, omega (arith, s.room, c.free_slot-slot.ensures), s.next)

pub overflow_cast-result : goal.overflow_cast-result
overflow_cast-result c =
    let a = c.args in
    let s = defect_space a.b.now a.unit a.vertex c.requires.0 c.requires.1 in
    omega (arith, s.top)

pub returns : goal.returns
returns c =
    let a = c.args in
    let f = c.load_interface-f in
    defect_by a.b.now a.unit a.vertex c.requires.0 c.requires.1 f.result (omega (arith, c.struct_known-1.given)) f.ensures c.free_slot-slot.ensures c.load_next-next.ensures c.lag-t.ensures c.new_node-n.ensures c.push.ensures
