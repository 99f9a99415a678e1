-- Two interfaces are left. Assumes nothing.
use native.Mathlib.Omega.{arith}
use mathlib.Core.Path.{◌∙◌}
use lib.ListN.{drop}
use Rattle.record_spec.specs.Reader.{rest}
use Rattle.record_measures.proofs.Rests.{short-F}
use Rattle.record_measures.proofs.Measuring.{none_measured}
use Rattle.record_measures.proofs.Plains.{is-F}
use borrow.Author.Rules.{rules}
use Rattle.record_measures.proofs.letters.fuse.Goals as goal

pub returns-then-t-q-lt2 : goal.returns-then-t-q-lt2
returns-then-t-q-lt2 c =
    let a = c.args in
    c.nothing.ensures ∙ none_measured (rest 70 a.parent (drop a.q a.t.now)) (short-F a.t.now a.q a.parent (omega (arith, c.if-t-q-lt2.true, c.requires.0)))

pub returns : goal.returns
returns c =
    let w = c.byte_at-right in
    is-F c.args.t.now c.args.q c.args.parent c.requires.1 _ c.digits-a.ensures.0 c.byte_at-left.result w.result _ _ (omega (arith, c.if-t-q-lt2.false, c.requires.0)) c.byte_at-left.ensures.0 c.byte_at-left.ensures.1 w.ensures.0 w.ensures.1 c.digits-b.ensures.0 c.digits-d.ensures.0
