-- A word of 2^41 and more names none; any other is the handle that it packs. Assumes nothing.
use mathlib.Core.Path.{ap, subst, ◌∙◌}
use Rattle.ledger_spec.specs.Bench.{Handle}
use Rattle.ledger_spec.specs.Named.{handle_named}
use Rattle.bench_links.specs.Find.{Finds}
use Rattle.bench_links.proofs.Finding.{no_handle, is_handle}
use Rattle.bench_links.proofs.find_word.Goals as goal

pub returns-then-w-ge-PAST_HANDLES : goal.returns-then-w-ge-PAST_HANDLES
returns-then-w-ge-PAST_HANDLES c = no_handle c.args.b.now c.args.w c.if-w-ge-PAST_HANDLES.true

pub returns : goal.returns
returns c =
    let b = c.args.b.now in
    let w = c.args.w in
    subst (λ (h : Handle). Finds b h c.find.result) (ap handle_named c.handle_of.ensures ∙ is_handle w c.if-w-ge-PAST_HANDLES.false) c.find.ensures
