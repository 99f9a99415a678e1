-- `add_listed` pushes the entry where there is room. Assumes nothing.
use mathlib.Core.Path.{◌≡◌}
use native.Mathlib.Omega.{arith}
use borrow.Author.Rules.{rules}
use lib.ListN.{length, length-map}
use Rattle.group_adds.proofs.Bytes.{Fits}
use Rattle.group_adds.proofs.Adding.{listed_full, listed_done}
use Rattle.group_adds.proofs.add_listed.Goals as goal

pub returns-then-at-ge-MOST : goal.returns-then-at-ge-MOST
returns-then-at-ge-MOST c = listed_full c.args.g ((let l = (c.well_formed.0.1.1.1.0.1.0.1) in let w = (c.well_formed.0.1.1.1.1.0.1.0.1) in record { kind = c.requires.0; few = c.requires.1.0; short = c.requires.1.1; list = omega (arith, l); stops = omega (arith, w) })) c.args.e c.if-at-ge-MOST.true

pub returns : goal.returns
returns c = listed_done c.args.g ((let l = (c.well_formed.0.1.1.1.0.1.0.1) in let w = (c.well_formed.0.1.1.1.1.0.1.0.1) in record { kind = c.requires.0; few = c.requires.1.0; short = c.requires.1.1; list = omega (arith, l); stops = omega (arith, w) })) c.args.e c.if-at-ge-MOST.false
