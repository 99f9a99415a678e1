-- The number of the interface, the check's verdict, and then what is written. Assumes nothing.
use mathlib.Core.Path.{sym, ◌∙◌}
use Rattle.ledger_spec.proofs.Accepted.{clear_passed}
use Rattle.bench_views.specs.View.{view}
use Rattle.picture_sound.proofs.Saying.{verdict_said, into_no, into_unsound, into_written}
use borrow.Author.Rules.{rules}
use Rattle.picture_sound.proofs.snapshot.Goals as goal

pub returns-then-number-ne0 : goal.returns-then-number-ne0
returns-then-number-ne0 c = into_no (view c.args.b.now) c.args.unit c.args.short c.args.out.now c.unit_number-number.result c.unit_number-number.ensures c.if-number-ne0.true

pub returns-then-c-ne0 : goal.returns-then-c-ne0
returns-then-c-ne0 c =
    let p = sym c.unit_number-number.ensures ∙ c.if-number-ne0.false in
    into_unsound (view c.args.b.now) c.args.unit c.args.short c.args.out.now p
    (λ z. c.if-c-ne0.true (verdict_said (view c.args.b.now) c.args.unit c.sanity_check-c.result c.sanity_check-c.ensures p ∙ z))

pub write-requires : goal.write-requires
write-requires c =
    let o = clear_passed (view c.args.b.now) c.args.unit (sym c.unit_number-number.ensures ∙ c.if-number-ne0.false) in record { fit = c.requires; unit_bound = o.low; unit_value = o.free }

pub returns : goal.returns
returns c =
    let p = sym c.unit_number-number.ensures ∙ c.if-number-ne0.false in
    into_written (view c.args.b.now) c.args.unit c.args.short c.args.out.now p
    (sym (verdict_said (view c.args.b.now) c.args.unit c.sanity_check-c.result c.sanity_check-c.ensures p) ∙ c.if-c-ne0.false) _ c.write.ensures
