-- What is left of the lengths, written from here, comes to the whole (`Writing`). The measure is the words left. Assumes nothing.
use Prim.Native.Nat.{◌-◌}
use native.Mathlib.Omega.{arith}
use lib.ListN.{length as size}
use Rattle.recorded_steps.proofs.Reaching.{Writing, writing_start, goes_on, writing_room, writing_next, writing_end}
use Rattle.recorded_steps.proofs.put_lengths.Goals as goal

pub loop-done-init : goal.loop-done-init
loop-done-init c = let a = c.args in writing_start a.ws.now a.length a.out.now

pub overflow_sub-length : goal.overflow_sub-length
overflow_sub-length c = omega arith

pub step_at-s-requires : goal.step_at-s-requires
step_at-s-requires c = (omega (arith, c.loop-done.invariant.reached.in_words), omega arith)

pub offset_bounds-out-i : goal.offset_bounds-out-i
offset_bounds-out-i c = omega arith

pub bounds-out-i : goal.bounds-out-i
bounds-out-i c = let a = c.args in writing_room a.ws.now a.length a.out.now c.loop-done.out c.loop-done.at c.loop-done.i c.loop-done.done c.loop-done.invariant c.requires c.loop-done-test.true _ c.step_at-s.ensures

pub overflow_add-done : goal.overflow_add-done
overflow_add-done c = let a = c.args in omega (arith, (writing_next a.ws.now a.length a.out.now c.loop-done.out c.loop-done.at c.loop-done.i c.loop-done.done c.loop-done.invariant c.requires c.loop-done-test.true _ c.step_at-s.ensures).reached.low)

pub overflow_add-i : goal.overflow_add-i
overflow_add-i c = omega (arith, c.loop-done.invariant.reached.few, c.loop-done.invariant.reached.in_words)

pub loop-done-smaller : goal.loop-done-smaller
loop-done-smaller c = let a = c.args in omega (arith, c.step_at-s.ensures.end (goes_on a.ws.now a.length a.out.now c.loop-done.out c.loop-done.at c.loop-done.i c.loop-done.done c.loop-done.invariant c.requires c.loop-done-test.true _ c.step_at-s.ensures))

pub loop-done-preserved : goal.loop-done-preserved
loop-done-preserved c = let a = c.args in writing_next a.ws.now a.length a.out.now c.loop-done.out c.loop-done.at c.loop-done.i c.loop-done.done c.loop-done.invariant c.requires c.loop-done-test.true _ c.step_at-s.ensures

pub shape_of-out : goal.shape_of-out
shape_of-out c = c.loop-done.invariant.long

pub returns : goal.returns
returns c = let a = c.args in writing_end a.ws.now a.length a.out.now c.loop-done.out c.loop-done.at c.loop-done.i c.loop-done.done c.loop-done.invariant (omega arith)
