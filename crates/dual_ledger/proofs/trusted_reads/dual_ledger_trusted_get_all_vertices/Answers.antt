-- The read below answers; its number and its values as words are handed on. Assumes nothing.
use borrow.Author.Rules.{rules}
use mathlib.Core.Path.{ap, ◌∙◌}
use Rattle.ledger_spec.specs.Bench.{Handle}
use Rattle.bench_views.proofs.Fits.{fit_of}
use Rattle.bench_views.specs.View.{view}
use Rattle.ledger_spec.specs.Walk.{vertices_into}
use Rattle.dual_ledger.proofs.trusted_reads.dual_ledger_trusted_get_all_vertices.Goals as goal

pub get_all_vertices-a-requires : goal.get_all_vertices-a-requires
get_all_vertices-a-requires c = fit_of _ c.requires

pub returns : goal.returns
returns c = c.get_all_vertices-a.ensures ∙ ap (λ (h : Handle). vertices_into (view c.args.bench.now) h c.args.out.now) c.hand-h.ensures
