-- The check changes nothing, and its verdict stands where another line has the serial. Assumes nothing.
use borrow.Author.Rules.{rules}
use Rattle.bench_views.proofs.Fits.{fit_of}
use Rattle.text_calls.proofs.Turning.{turned_check}
use Rattle.text_calls.proofs.check.Goals as goal

pub sanity_check-checked-requires : goal.sanity_check-checked-requires
sanity_check-checked-requires c = fit_of c.args.b.now c.requires

pub returns : goal.returns
returns c =
    turned_check c.args.b.now c.requires c.args.unit _ _ _ c.sanity_check-checked.ensures c.show.result c.show.ensures
