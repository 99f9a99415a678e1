-- The read below answers; its number and its values as words are handed on. Assumes nothing.
use borrow.Author.Rules.{rules}
use mathlib.Core.Path.{ap, ◌∙◌}
use Rattle.bench_views.proofs.Fits.{fit_of}
use Rattle.bench_views.specs.View.{view}
use Rattle.ledger_spec.specs.Walk.{first_vertex}
use Rattle.dual_ledger.proofs.trusted_reads.dual_ledger_trusted_get_representative_vertex.Goals as goal

pub get_representative_vertex-a-requires : goal.get_representative_vertex-a-requires
get_representative_vertex-a-requires c = fit_of _ c.requires

pub returns : goal.returns
returns c = c.get_representative_vertex-a.ensures ∙ ap (first_vertex (view c.args.bench.now)) c.hand-h.ensures
