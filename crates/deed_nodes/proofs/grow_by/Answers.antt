-- By the engine. Assumes nothing.
use Prim.Native.Nat.{ℕ}
use mathlib.Core.Path.{◌≡◌}
use mathlib.Core.Bool.{Bool}
use Rattle.bench_words.specs.declared.Interface.{Interface}
use Rattle.deed_nodes.specs.Steps.{Room}
use Rattle.deed_nodes.proofs.Growing.{growth_low, growth_room, growth_done}
use Rattle.deed_nodes.proofs.Holding.{held_movable, held_growth}
use Rattle.deed_nodes.proofs.grow_by.Goals as goal

room_as : {f g : Interface} {l : ℕ} → f ≡ g → Room g l → Room f l
room_as e r = rw e r

engine-is : {f g : Interface} {x : Bool} → f ≡ g → f.marks.plain ≡ x → g.marks.plain ≡ x
engine-is e p = rw (← e) p

pub load_interface-f-requires : goal.load_interface-f-requires
load_interface-f-requires c = let a = c.args in growth_low a.b.now a.unit a.length c.requires.0 c.requires.1

pub raise_tree-requires : goal.raise_tree-requires
raise_tree-requires c =
    let a = c.args in
    let C = c.requires.0.canon in record { steady = C.steady; coded = C.coded; bare = C.past; tree_movable = held_movable a.b.now a.unit a.length c.requires.0 c.requires.1 }

pub note_growth-requires : goal.note_growth-requires
note_growth-requires c =
    let a = c.args in
    let low = growth_low a.b.now a.unit a.length c.requires.0 c.requires.1 in record { unit_bound = low; room = room_as (c.raise_tree.ensures.interfaces a.unit low) (growth_room a.b.now a.unit a.length c.requires.0 c.requires.1) }

pub returns-then-f : goal.returns-then-f
returns-then-f c =
    let a = c.args in
    held_growth a.b.now a.unit a.length c.requires.0 c.requires.1 (engine-is c.load_interface-f.ensures c.if-f.true) c.raise_tree.ensures c.note_growth.ensures

pub note_growth-requires-2 : goal.note_growth-requires-2
note_growth-requires-2 c =
    let a = c.args in record { unit_bound = growth_low a.b.now a.unit a.length c.requires.0 c.requires.1; room = growth_room a.b.now a.unit a.length c.requires.0 c.requires.1 }

pub returns : goal.returns
returns c =
    let a = c.args in
    growth_done a.b.now a.unit a.length c.requires.0 c.requires.1 (engine-is c.load_interface-f.ensures c.if-f.false) c.note_growth-2.ensures
