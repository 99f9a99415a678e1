-- Nothing is stored before all fields were seen to be serials. Assumes nothing.
use Rattle.std.specs.Prelude.{None, Some}
use mathlib.Core.Path.{◌≡◌}
use Rattle.text_lines.proofs.Serials.{blossom_end, blossom_bad, blossom_good}
use borrow.Author.Rules.{rules}
use Rattle.text_lines.proofs.blossoms.blossom.Goals as goal

pub returns-in_default : goal.returns-in_default
returns-in_default c =
    let a = c.args in
    let k = c.count_serials in
    let q : k.result ≡ None = cc in
    blossom_bad a.s.now a.serials.now a.unit a.place k.result c.if-place-s.true k.ensures q

pub returns-then-place-s : goal.returns-then-place-s
returns-then-place-s c =
    let a = c.args in
    let k = c.count_serials in
    let q : k.result ≡ Some c.in-Some.count = cc in
    blossom_good a.s.now a.serials.now a.unit a.place k.result c.if-place-s.true k.ensures _ _ q c.store_serials.ensures

pub returns : goal.returns
returns c = blossom_end c.args.s.now c.args.serials.now c.args.unit c.args.place c.if-place-s.false
