-- The letter and the unit alone. Assumes nothing.
use Rattle.record_measures.proofs.Plains.{is-C, is-K}
use mathlib.Core.List.{[]}
use borrow.Author.Rules.{rules}
use Rattle.record_measures.proofs.letters.unit_alone.Goals as goal

pub returns : goal.returns
returns c s =
    let u = c.args.unit in
    let d = c.digits-a in
    (is-C [] 0 u c.requires d.result d.ensures.0 s, is-K [] 0 u c.requires d.result d.ensures.0 s)
