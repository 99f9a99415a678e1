-- The words given name what the serials do, and what a longer line drops has no part in the answer. Assumes nothing.
use mathlib.Core.Path.{sym}
use native.Mathlib.Omega.{arith}
use borrow.Author.Rules.{rules}
use lib.Seq.{length-take-le}
use Rattle.outcomes.proofs.Outcomes.{sound_after}
use Rattle.text_calls.proofs.Members.{turned_blossom}
use Rattle.text_calls.proofs.blossom.Goals as goal

pub slice_bounds-create_blossom-end-2 : goal.slice_bounds-create_blossom-end-2
slice_bounds-create_blossom-end-2 c =
    let f = c.few-n in
    sym (length-take-le _ _ (omega (arith, f.ensures.most, c.name.ensures.long, c.requires.1)))

pub tell-requires : goal.tell-requires
tell-requires c =
    sound_after c.requires.0 c.create_blossom-made.ensures.0

pub returns : goal.returns
returns c =
    let f = c.few-n in
    let n = c.name in
    let a = c.args in
    turned_blossom a.b.now c.requires.0 a.unit a.serials.now a.count c.requires.1 f.result f.ensures _ n.ensures
    _ _ _ c.create_blossom-made.ensures c.tell.result c.tell.ensures
