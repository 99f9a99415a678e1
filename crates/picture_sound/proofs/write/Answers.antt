-- Measured first; what fits is written. Assumes nothing.
use native.Mathlib.Omega.{arith}
use Rattle.bench_views.specs.View.{view}
use Rattle.picture_spec.specs.Picture.{picture}
use Rattle.picture_sound.proofs.Fitting.{measured_small, measured_fits, written}
use borrow.Author.Rules.{rules}
use Rattle.picture_sound.proofs.write.Goals as goal

pub draw-n-requires : goal.draw-n-requires
draw-n-requires c = record { fit = c.requires.fit; unit_bound = c.requires.unit_bound; unit_value = c.requires.unit_value; places = c.list-count.ensures; indices = c.indices-index.ensures }

pub returns-then-out-n : goal.returns-then-out-n
returns-then-out-n c = measured_small (picture (view c.args.b.now) c.args.unit c.args.short) c.args.out.now _ _ _ c.draw-n.ensures c.if-out-n.true

pub draw-m-requires : goal.draw-m-requires
draw-m-requires c = record { fit = c.requires.fit; unit_bound = c.requires.unit_bound; unit_value = c.requires.unit_value; places = c.list-count.ensures; indices = c.indices-index.ensures }

pub returns : goal.returns
returns c =
    let t = picture (view c.args.b.now) c.args.unit c.args.short in
    let g = c.slice_known-1.given in
    written t c.args.out.now (omega arith) (measured_fits t c.args.out.now _ _ _ c.draw-n.ensures (omega arith) c.if-out-n.false) c.draw-m.new.out c.draw-m.result c.draw-m.ensures
