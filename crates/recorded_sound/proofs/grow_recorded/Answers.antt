-- The verdict first; accepted, the growth in one and the lengths. Assumes nothing.
use mir.Facts.{to_z-of_z}
use Rattle.bench_views.proofs.Fits.{fit_of}
use Rattle.refuse_calls.proofs.Lengths.{forward_of}
use Rattle.recorded_sound.proofs.Judging.{all_refused, ahead, ready, all_done}
use borrow.Author.Rules.{rules}
use mir.Syntax.{w64}
use Rattle.recorded_sound.proofs.grow_recorded.Goals as goal

pub judge-p-requires : goal.judge-p-requires
judge-p-requires c = fit_of _ c.requires

pub returns-then-p-ne0 : goal.returns-then-p-ne0
returns-then-p-ne0 c =
    let a = c.args in
    all_refused a.b.now a.unit a.length a.groups.now a.out.now _ (rw (to_z-of_z {w = w64} c.ranges.length) at c.judge-p.ensures) c.requires c.if-p-ne0.true

pub overflow_cast-length : goal.overflow_cast-length
overflow_cast-length c =
    let a = c.args in
    let j = rw (to_z-of_z {w = w64} c.ranges.length) at c.judge-p.ensures in
    (forward_of a.length c.ranges.length (ahead a.b.now a.unit a.length a.groups.now a.out.now _ j c.if-p-ne0.false)).whole

pub put_lengths-requires : goal.put_lengths-requires
put_lengths-requires c =
    let a = c.args in
    let l = to_z-of_z {w = w64} c.ranges.length in
    rw l (ready a.b.now a.unit a.length a.groups.now a.out.now _ (rw l at c.judge-p.ensures) c.if-p-ne0.false)

pub returns : goal.returns
returns c =
    let z = c.if-p-ne0.false in
    let a = c.args in
    let l = to_z-of_z {w = w64} c.ranges.length in
    all_done a.b.now a.unit a.length a.groups.now a.out.now _ (rw l at c.judge-p.ensures) z _ _ _ (rw l at c.grow.ensures.0) (rw l at c.put_lengths.ensures)
