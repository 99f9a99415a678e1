-- `moved` takes the stop out and pushes the entry, where the list has room. Assumes nothing.
use mathlib.Core.Path.{◌≡◌}
use native.Mathlib.Omega.{arith}
use borrow.Author.Rules.{rules}
use lib.ListN.{length, length-map}
use Rattle.group_adds.proofs.Bytes.{Fits}
use Rattle.group_adds.proofs.Adding.{moved_full, moved_done}
use Rattle.group_adds.proofs.moved.Goals as goal

pub returns-then-n-ge-MOST : goal.returns-then-n-ge-MOST
returns-then-n-ge-MOST c = moved_full c.args.g ((let l = (c.well_formed.0.1.1.1.0.1.0.1) in let w = (c.well_formed.0.1.1.1.1.0.1.0.1) in record { kind = c.requires.kind_value.0; few = c.requires.kind_value.1.0; short = c.requires.kind_value.1.1; list = omega (arith, l); stops = omega (arith, w) })) c.args.p c.args.e c.if-n-ge-MOST.true

pub returns : goal.returns
returns c =
    moved_done c.args.g ((let l = (c.well_formed.0.1.1.1.0.1.0.1) in let w = (c.well_formed.0.1.1.1.1.0.1.0.1) in record { kind = c.requires.kind_value.0; few = c.requires.kind_value.1.0; short = c.requires.kind_value.1.1; list = omega (arith, l); stops = omega (arith, w) })) c.args.p c.args.e c.taken_out-stops.result c.if-n-ge-MOST.false c.requires.p_lt_stopped c.taken_out-stops.ensures
