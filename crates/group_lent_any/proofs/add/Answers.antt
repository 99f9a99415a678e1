-- BROKEN, or the call on sound words. Assumes nothing.
use mathlib.Core.Path.{refl, sym, ◌∙◌}
use borrow.Author.Rules.{rules}
use borrow.Author.Tests.{not-true, not-false}
use Rattle.group_lent.specs.Forms.{is_form, five_at}
use Rattle.group_lent_any.proofs.Judging.{not_ready, not_fit, all_fit}
use mathlib.Core.Path.{ap}
use mathlib.Core.Bool.{not}
use Rattle.group_lent_any.proofs.add.Goals as goal

pub returns-then-not-is_ready : goal.returns-then-not-is_ready
returns-then-not-is_ready c =
    let a = c.args in
    not_ready a.b.now a.w.now _ c.is_ready.ensures (is_form (five_at a.o.now 0)) _ _ (ap not c.if-not-is_ready.true) (refl, refl)

pub returns-then-not-is_form : goal.returns-then-not-is_form
returns-then-not-is_form c =
    let a = c.args in
    not_fit a.b.now a.w.now _ c.is_ready.ensures (is_form (five_at a.o.now 0)) _ _ (ap not c.if-not-is_ready.false)
    (sym (rw c.five_in-f.ensures at c.is_form.ensures) ∙ c.if-not-is_form.true) (refl, refl)

pub add-requires : goal.add-requires
add-requires c = record { sound_words = c.is_ready.ensures.says (c.if-not-is_ready.false); o_value = sym (rw c.five_in-f.ensures at c.is_form.ensures) ∙ c.if-not-is_form.false }

pub returns : goal.returns
returns c =
    let a = c.args in
    all_fit a.b.now a.w.now _ c.is_ready.ensures (is_form (five_at a.o.now 0)) _ _ (ap not c.if-not-is_ready.false)
    (sym (rw c.five_in-f.ensures at c.is_form.ensures) ∙ c.if-not-is_form.false) c.add.ensures
