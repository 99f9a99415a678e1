-- `pop_sparing_stops` is the other pop where there is no list; else it asks peek, and lowers the list's count. Assumes nothing.
use mathlib.Core.Path.{◌≡◌, refl}
use native.Mathlib.Omega.{arith}
use borrow.Author.Rules.{rules}
use lib.ListN.{length, length-map}
use Rattle.group_spares.proofs.Sparing.{spares_none, spares_refused, spares_list}
use Rattle.group_spares.proofs.pop_sparing_stops.Goals as goal

pub returns-then-g-eq0 : goal.returns-then-g-eq0
returns-then-g-eq0 c = let whole = spares_none c.args.g c.pop.result.number c.pop.result.obstacle c.pop.result.group c.if-g-eq0.true c.pop.ensures.says c.pop.ensures.leaves in record { says = whole.0; leaves = whole.1 }

pub returns-then-number-ne0 : goal.returns-then-number-ne0
returns-then-number-ne0 c = let whole = spares_refused c.args.g c.peek-top.result.number c.peek-top.result.obstacle c.peek-top.ensures c.if-number-ne0.true in record { says = whole.0; leaves = whole.1 }

pub returns : goal.returns
returns c = let whole = spares_list c.args.g c.peek-top.result.number c.peek-top.result.obstacle c.peek-top.ensures c.if-number-ne0.false (omega (arith, c.if-g-eq0.false)) (omega (arith, (c.well_formed.0.1.1.1.0.1.0.1))) (omega (arith, (c.well_formed.0.1.1.1.1.0.1.0.1))) _ refl in record { says = whole.0; leaves = whole.1 }
