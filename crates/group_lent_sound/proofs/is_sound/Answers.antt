-- `is_sound` goes by the tests of the definition. Assumes nothing.
use native.Mathlib.Omega.{arith}
use borrow.Author.Tests.{not-true, not-false}
use Rattle.group_lent_sound.proofs.Sound.{head_counts, growth_test, head_no, list_no, stops_test}
use borrow.Author.Rules.{rules}
use Rattle.group_lent_sound.proofs.is_sound.Goals as goal

pub returns-then-w-eq1 : goal.returns-then-w-eq1
returns-then-w-eq1 c = growth_test c.args.w.now c.if-w-eq1.true

pub returns-then-not-head_fits : goal.returns-then-not-head_fits
returns-then-not-head_fits c = head_no c.args.w.now c.if-w-eq1.false _ c.head_fits.ensures (c.if-not-head_fits.true)

pub entries_fit-requires : goal.entries_fit-requires
entries_fit-requires c = (omega arith, (head_counts c.args.w.now _ c.head_fits.ensures (c.if-not-head_fits.false)).0)

pub returns-then-not-entries_fit : goal.returns-then-not-entries_fit
returns-then-not-entries_fit c = list_no c.args.w.now c.if-w-eq1.false _ c.head_fits.ensures (c.if-not-head_fits.false) _ c.entries_fit.ensures (c.if-not-entries_fit.true)

pub stops_fit-requires : goal.stops_fit-requires
stops_fit-requires c = (omega arith, (head_counts c.args.w.now _ c.head_fits.ensures (c.if-not-head_fits.false)).1)

pub returns : goal.returns
returns c =
    stops_test c.args.w.now c.if-w-eq1.false _ c.head_fits.ensures (c.if-not-head_fits.false) _ c.entries_fit.ensures (c.if-not-entries_fit.false) _ c.stops_fit.ensures
