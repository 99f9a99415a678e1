-- `add_stop` finds the vertex: at a free place the stop comes in, at one that is held two stops meet. Assumes nothing.
use Rattle.std.specs.Prelude.{Option}
use mathlib.Core.Path.{◌≡◌, sym, ap, ◌∙◌}
use native.Mathlib.Omega.{arith}
use borrow.Author.Rules.{rules}
use lib.ListN.{length, length-map}
use Rattle.ledger_spec.specs.Groups.{Lists, grouped}
use Rattle.groups.specs.View.{list_of, stops_of}
use Rattle.groups.proofs.View.{stopped_is}
use Rattle.group_adds.specs.Adds.{changed}
use Rattle.group_adds.proofs.Places.{free_adds, held_adds}
use Rattle.group_adds.proofs.Bytes.{Fits, at_stops}
use Rattle.group_adds.proofs.Adding.{free_full, free_done}
use Rattle.group_adds.proofs.add_stop.Goals as goal

pub spot_of-requires : goal.spot_of-requires
spot_of-requires c = c.requires.1.1

pub met-requires : goal.met-requires
met-requires c =
    let h = held_adds c.args.x (list_of c.args.g) (stops_of c.args.g) c.in-Held.p c.in-Held.y (at_stops c.args.g ((let l = (c.well_formed.0.1.1.1.0.1.0.1) in let w = (c.well_formed.0.1.1.1.1.0.1.0.1) in record { kind = c.requires.0; few = c.requires.1.0; short = c.requires.1.1; list = omega (arith, l); stops = omega (arith, w) })) c.args.x.vertex.0 _ (sym c.in-Held.is ∙ c.spot_of.ensures)) in record { kind_value = c.requires; p_lt_stopped = (omega (arith, h.0, stopped_is c.args.g), h.1) }

pub returns-then-count-ge-MOST : goal.returns-then-count-ge-MOST
returns-then-count-ge-MOST c =
    let h = free_adds c.args.x (list_of c.args.g) (stops_of c.args.g) c.in-Free.p (at_stops c.args.g ((let l = (c.well_formed.0.1.1.1.0.1.0.1) in let w = (c.well_formed.0.1.1.1.1.0.1.0.1) in record { kind = c.requires.0; few = c.requires.1.0; short = c.requires.1.1; list = omega (arith, l); stops = omega (arith, w) })) c.args.x.vertex.0 _ (sym c.in-Free.is ∙ c.spot_of.ensures)) in
    let z = stopped_is c.args.g in
    free_full c.args.g ((let l = (c.well_formed.0.1.1.1.0.1.0.1) in let w = (c.well_formed.0.1.1.1.1.0.1.0.1) in record { kind = c.requires.0; few = c.requires.1.0; short = c.requires.1.1; list = omega (arith, l); stops = omega (arith, w) })) c.in-Free.p c.args.x (omega (arith, h.0, z)) h.1 c.if-count-ge-MOST.true

pub put_in-stops-requires : goal.put_in-stops-requires
put_in-stops-requires c =
    let h = free_adds c.args.x (list_of c.args.g) (stops_of c.args.g) c.in-Free.p (at_stops c.args.g ((let l = (c.well_formed.0.1.1.1.0.1.0.1) in let w = (c.well_formed.0.1.1.1.1.0.1.0.1) in record { kind = c.requires.0; few = c.requires.1.0; short = c.requires.1.1; list = omega (arith, l); stops = omega (arith, w) })) c.args.x.vertex.0 _ (sym c.in-Free.is ∙ c.spot_of.ensures)) in
    let z = stopped_is c.args.g in
    (omega (arith, h.0, z), c.if-count-ge-MOST.false)

pub overflow_add-group : goal.overflow_add-group
overflow_add-group c = omega (arith, c.if-count-ge-MOST.false)

pub returns-in-Held : goal.returns-in-Held
returns-in-Held c =
    let h = held_adds c.args.x (list_of c.args.g) (stops_of c.args.g) c.in-Held.p c.in-Held.y (at_stops c.args.g ((let l = (c.well_formed.0.1.1.1.0.1.0.1) in let w = (c.well_formed.0.1.1.1.1.0.1.0.1) in record { kind = c.requires.0; few = c.requires.1.0; short = c.requires.1.1; list = omega (arith, l); stops = omega (arith, w) })) c.args.x.vertex.0 _ (sym c.in-Held.is ∙ c.spot_of.ensures)) in
    c.met.ensures ∙ ap (λ (o : Option Lists). changed (grouped o) c.args.g) (sym h.2)

pub returns-else-count-ge-MOST : goal.returns-else-count-ge-MOST
returns-else-count-ge-MOST c =
    let h = free_adds c.args.x (list_of c.args.g) (stops_of c.args.g) c.in-Free.p (at_stops c.args.g ((let l = (c.well_formed.0.1.1.1.0.1.0.1) in let w = (c.well_formed.0.1.1.1.1.0.1.0.1) in record { kind = c.requires.0; few = c.requires.1.0; short = c.requires.1.1; list = omega (arith, l); stops = omega (arith, w) })) c.args.x.vertex.0 _ (sym c.in-Free.is ∙ c.spot_of.ensures)) in
    let z = stopped_is c.args.g in
    free_done c.args.g ((let l = (c.well_formed.0.1.1.1.0.1.0.1) in let w = (c.well_formed.0.1.1.1.1.0.1.0.1) in record { kind = c.requires.0; few = c.requires.1.0; short = c.requires.1.1; list = omega (arith, l); stops = omega (arith, w) })) c.in-Free.p c.args.x (omega (arith, h.0, z)) h.1 c.put_in-stops.result c.if-count-ge-MOST.false c.put_in-stops.ensures
