-- By the mode: the used count, or what the map's lowest clear bit says. Assumes nothing.
use native.Mathlib.Omega.{arith}
use Rattle.bench_slots.proofs.Free.{used_small, next_slot, lowest_slot, no_slot}
use borrow.Author.Rules.{rules}
use mathlib.Core.Path.{ap}
use mathlib.Core.Bool.{not}
use Rattle.bench_slots.proofs.free_slot.Goals as goal

pub overflow_cast-result : goal.overflow_cast-result
overflow_cast-result c = omega (arith, used_small c.args.b.now c.requires.canon c.args.unit c.requires.unit_bound c.load_interface-f.result c.load_interface-f.ensures)

pub returns-then-not-marks : goal.returns-then-not-marks
returns-then-not-marks c =
    let f = c.load_interface-f in
    next_slot c.args.b.now c.requires.canon c.args.unit c.requires.unit_bound f.result f.ensures c.if-not-marks.true

pub returns-in-Some : goal.returns-in-Some
returns-in-Some c =
    let f = c.load_interface-f in
    let m = c.load_map-map in
    let r = c.lowest_clear-found in
    lowest_slot c.args.b.now c.requires.canon c.args.unit c.requires.unit_bound f.result f.ensures c.if-not-marks.false m.result m.ensures r.result r.ensures c.in-Some.s c.in-Some.is

pub returns-in-None : goal.returns-in-None
returns-in-None c =
    let f = c.load_interface-f in
    let m = c.load_map-map in
    let r = c.lowest_clear-found in
    no_slot c.args.b.now c.requires.canon c.args.unit c.requires.unit_bound f.result f.ensures c.if-not-marks.false m.result m.ensures r.result r.ensures c.in-None.is
