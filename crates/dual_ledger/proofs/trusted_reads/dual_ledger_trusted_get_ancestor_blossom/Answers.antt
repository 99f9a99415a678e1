-- The read below answers; its number and its values as words are handed on. Assumes nothing.
use borrow.Author.Rules.{rules}
use mathlib.Core.Path.{ap, ◌∙◌}
use Rattle.bench_views.proofs.Fits.{fit_of}
use Rattle.bench_views.specs.View.{view}
use Rattle.ledger_spec.specs.Walk.{outer_of}
use Rattle.dual_ledger.proofs.Handing.{outer_by}
use Rattle.dual_ledger.proofs.trusted_reads.dual_ledger_trusted_get_ancestor_blossom.Goals as goal

pub get_ancestor_blossom-a-requires : goal.get_ancestor_blossom-a-requires
get_ancestor_blossom-a-requires c = fit_of _ c.requires

pub returns : goal.returns
returns c = outer_by (c.get_ancestor_blossom-a.ensures ∙ ap (outer_of (view c.args.bench.now)) c.hand-h.ensures) c.node_word.ensures
