-- `group_is_sound` makes each test of the definition, in its order, once the counts are known to lie within the arrays. Assumes nothing.
use mathlib.Core.Path.{sym, ◌∙◌}
use native.Mathlib.Omega.{arith}
use Rattle.groups.proofs.View.{sound_growth, long_list, long_stops, bad_list, good_list}
use Rattle.groups.proofs.group_is_sound.Goals as goal

pub returns-then-g-gt-MOST : goal.returns-then-g-gt-MOST
returns-then-g-gt-MOST c = long_list c.args.g c.in-Conflicts.is c.if-g-gt-MOST.true

pub returns-then-g-gt-MOST-2 : goal.returns-then-g-gt-MOST-2
returns-then-g-gt-MOST-2 c =
    long_stops c.args.g c.in-Conflicts.is c.if-g-gt-MOST.false c.if-g-gt-MOST-2.true

pub returns-then-not-are_listable : goal.returns-then-not-are_listable
returns-then-not-are_listable c =
    let l = (c.well_formed.0.1.1.1.0.1.0.1) in
    let w = (c.well_formed.0.1.1.1.1.0.1.0.1) in
    bad_list c.args.g c.in-Conflicts.is c.if-g-gt-MOST.false c.if-g-gt-MOST-2.false (omega arith) (omega arith) (sym c.are_listable.ensures ∙ c.if-not-are_listable.true)

pub returns-in-Growth : goal.returns-in-Growth
returns-in-Growth c = sound_growth c.args.g _ _ c.in-Growth.is

pub returns-else-not-are_listable : goal.returns-else-not-are_listable
returns-else-not-are_listable c =
    let l = (c.well_formed.0.1.1.1.0.1.0.1) in
    let w = (c.well_formed.0.1.1.1.1.0.1.0.1) in
    c.are_rising.ensures ∙ good_list c.args.g c.in-Conflicts.is c.if-g-gt-MOST.false c.if-g-gt-MOST-2.false (omega arith) (omega arith) (sym c.are_listable.ensures ∙ c.if-not-are_listable.false)
