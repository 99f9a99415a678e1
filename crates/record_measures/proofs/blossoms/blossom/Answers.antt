-- A count, and as many members. Assumes nothing.
use Rattle.std.specs.Prelude.{Option}
use native.Mathlib.Omega.{arith}
use Prim.Native.Nat.{ℕ, ◌+◌, ◌*◌}
use mathlib.Core.Path.{◌∙◌, sym, ap}
use mathlib.Core.List.{List}
use lib.ListN.{drop}
use Rattle.ledger_spec.specs.Operations.{B}
use Rattle.record_spec.specs.Operations.{Op}
use Rattle.record_spec.specs.Reader.{rest}
use Rattle.record_spec.specs.Places.{at}
use Rattle.record_measures.specs.Measures.{measured_of, kept, members_at, tried_members}
use Rattle.record_measures.proofs.Rests.{rest-B, few-B, short-B}
use Rattle.record_measures.proofs.Measuring.{none_measured, whatever_after}
use borrow.Author.Rules.{rules}
use Rattle.record_measures.proofs.blossoms.blossom.Goals as goal

pub returns-then-t-q-lt2 : goal.returns-then-t-q-lt2
returns-then-t-q-lt2 c =
    let a = c.args in
    c.nothing.ensures ∙ none_measured (rest 66 a.unit (drop a.q a.t.now)) (short-B a.t.now a.q a.unit (omega (arith, c.if-t-q-lt2.true, c.requires.0)))

pub returns-then-t-q : goal.returns-then-t-q
returns-then-t-q c =
    let a = c.args in
    c.nothing-then-t-q.ensures ∙ none_measured (rest 66 a.unit (drop a.q a.t.now)) (few-B a.t.now a.q a.unit (omega (arith, c.if-t-q-lt2.false, c.requires.0)) (omega (arith, c.if-t-q-lt2.false, c.requires.0, c.if-t-q.true, c.two_at-n.ensures.0)))

pub returns : goal.returns
returns c =
    let a = c.args in
    let n = c.two_at-n in
    let many = at 2 a.t.now a.q in
    c.members.ensures ∙ ap (λ (k : ℕ). tried_members a.unit (members_at k a.t.now (a.q + 2))) n.ensures.0 ∙ sym (whatever_after (B a.unit (members_at many a.t.now (a.q + 2))) (drop (a.q + 2 + 12 * many) a.t.now)) ∙ sym (ap (λ (o : Option (Op × List ℕ)). measured_of (kept o)) (rest-B a.t.now a.q a.unit (omega (arith, c.if-t-q-lt2.false, c.requires.0, c.if-t-q.false, n.ensures.0))))
