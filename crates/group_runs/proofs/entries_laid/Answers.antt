-- The run is copied into the part of the array that it takes. Assumes nothing.
use Rattle.group_runs.proofs.Runs.{run_laid}
use Rattle.group_runs.proofs.entries_laid.Goals as goal

pub returns : goal.returns
returns c = run_laid c.args.list c.args.more _ c.args.at c.args.from c.args.n c.copy_from_slice.ensures.after
