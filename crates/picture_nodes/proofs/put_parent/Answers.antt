-- Null, or its index. Assumes nothing.
use Rattle.std.specs.Prelude.{None, Some}
use mathlib.Core.Path.{◌≡◌}
use Rattle.bench_views.specs.View.{view}
use Rattle.picture_spec.specs.Sketch.{index_of}
use Rattle.picture_pieces.proofs.Drawing.{same_text}
use Rattle.picture_nodes.proofs.Seeing.{parent_none, parent_some, inside_low}
use Rattle.picture_nodes.proofs.put_parent.Goals as goal

pub index_of-requires : goal.index_of-requires
index_of-requires c =
    let h = c.in-Some.h in
    let e : c.args.parent ≡ Some h = cc in let rest = inside_low c.args.parent h e c.requires.lowly in record { indices = c.requires.indices; unit_bound = rest.0; slot_bound = rest.1 }

pub returns-in-None : goal.returns-in-None
returns-in-None c =
    let e : c.args.parent ≡ None = cc in
    same_text (parent_none (index_of (view c.args.b.now) c.args.unit) c.args.parent e) c.put.ensures

pub returns-in-Some : goal.returns-in-Some
returns-in-Some c =
    let h = c.in-Some.h in
    let e : c.args.parent ≡ Some h = cc in
    same_text (parent_some (index_of (view c.args.b.now) c.args.unit) c.args.parent h e c.index_of.result c.index_of.ensures) c.put_number.ensures
