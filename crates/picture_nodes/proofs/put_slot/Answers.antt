-- By its class: null; a vertex; a circle, in two lists. Assumes nothing.
use mathlib.Core.Path.{◌≡◌, refl, ap, ◌∙◌}
use mathlib.Core.List.{map}
use Rattle.kinds.specs.declared.Class.TheVariants.{Absent, Blossom, Defect}
use Rattle.bench_words.specs.Store.{node_at}
use Rattle.ledger_spec.specs.Named.{state_named, parent_named}
use Rattle.bench_views.specs.View.{view, circle_of}
use Rattle.picture_spec.specs.Sketch.{linked, indexed, index_of}
use Rattle.picture_spec.specs.Text.{names_by, slot_text}
use Rattle.picture_pieces.proofs.Drawing.{chain, same_text}
use Rattle.picture_nodes.proofs.Texts.{null_text, defect_text, blossom_text}
use Rattle.picture_nodes.proofs.Seeing.{parent_low, low_place, seen_absent, seen_defect, seen_ring, ring_is, ring_placed}
use Rattle.picture_nodes.proofs.put_slot.Goals as goal

pub load_node-x-requires : goal.load_node-x-requires
load_node-x-requires c = low_place c.args.b.now c.args.unit c.args.k c.args.p c.requires.at_index (node_at c.args.b.now c.args.p) refl

pub put_rest-requires : goal.put_rest-requires
put_rest-requires c = record { indices = c.requires.indices; lowly = parent_low c.args.b.now c.args.p c.load_node-x.result c.load_node-x.ensures }

pub put_ring-q-requires : goal.put_ring-q-requires
put_ring-q-requires c =
    let e : c.load_node-x.result.class ≡ Blossom = cc in record { fit = c.requires.fit; indices = c.requires.indices; placed = ring_placed c.args.b.now c.args.unit c.args.k c.args.p c.requires.at_index c.load_node-x.result c.load_node-x.ensures e; p_value = ring_is c.args.b.now c.args.unit c.args.k c.args.p c.requires.at_index c.load_node-x.result c.load_node-x.ensures e }

pub put_rest-requires-in-Blossom : goal.put_rest-requires-in-Blossom
put_rest-requires-in-Blossom c = record { indices = c.requires.indices; lowly = parent_low c.args.b.now c.args.p c.load_node-x.result c.load_node-x.ensures }

pub returns-in-Absent : goal.returns-in-Absent
returns-in-Absent c =
    let e : c.load_node-x.result.class ≡ Absent = cc in
    same_text (null_text c.args.short ∙ ap (slot_text (names_by c.args.short)) (seen_absent c.args.b.now c.args.unit c.args.k c.args.p c.requires.at_index c.load_node-x.result c.load_node-x.ensures e)) c.put.ensures

pub returns-in-Defect : goal.returns-in-Defect
returns-in-Defect c =
    let w = c.in-Defect.v in
    let e : c.load_node-x.result.class ≡ Defect w = cc in
    same_text (defect_text (state_named c.load_node-x.result.state) (indexed (index_of (view c.args.b.now) c.args.unit) (parent_named c.load_node-x.result.parent)) w.0 c.args.short
    ∙ ap (slot_text (names_by c.args.short)) (seen_defect c.args.b.now c.args.unit c.args.k c.args.p c.requires.at_index c.load_node-x.result c.load_node-x.ensures w e))
    (chain c.put_either-q.ensures (chain c.put_number-r.ensures c.put_rest.ensures))

pub returns-in-Blossom : goal.returns-in-Blossom
returns-in-Blossom c =
    let e : c.load_node-x.result.class ≡ Blossom = cc in
    same_text (blossom_text (state_named c.load_node-x.result.state) (indexed (index_of (view c.args.b.now) c.args.unit) (parent_named c.load_node-x.result.parent)) (map (linked (index_of (view c.args.b.now) c.args.unit)) (circle_of (node_at c.args.b.now) c.args.p)) c.args.short
    ∙ ap (slot_text (names_by c.args.short)) (seen_ring c.args.b.now c.args.unit c.args.k c.args.p c.requires.at_index c.load_node-x.result c.load_node-x.ensures e))
    (chain c.put_ring-q.ensures c.put_rest-in-Blossom.ensures)
