-- The verdict on the words decides: BROKEN, or the read on sound words. Assumes nothing.
use mathlib.Core.Path.{ap, ◌∙◌}
use borrow.Author.Rules.{rules}
use Rattle.kinds.specs.declared.Handle.{Handle}
use Rattle.ledger_spec.specs.Named.{handle_named}
use Rattle.sound_lent.proofs.Asking.{no_bench, a_bench, fits}
use mathlib.Core.Bool.{not}
use Rattle.read_any.proofs.get_secondary_ancestor_blossom.Goals as goal

pub returns-then-not-is_bench : goal.returns-then-not-is_bench
returns-then-not-is_bench c = ap (λ (h : Handle). (2, handle_named h)) c.nobody.ensures ∙ no_bench _ _ _ c.is_bench.ensures (ap not c.if-not-is_bench.true)

pub get_secondary_ancestor_blossom-requires : goal.get_secondary_ancestor_blossom-requires
get_secondary_ancestor_blossom-requires c = fits c.is_bench.ensures (ap not c.if-not-is_bench.false)

pub returns : goal.returns
returns c = a_bench _ _ _ c.is_bench.ensures (ap not c.if-not-is_bench.false) c.get_secondary_ancestor_blossom.ensures
