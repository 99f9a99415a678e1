-- FILE, or the run of a whole file. Assumes nothing.
use borrow.Author.Tests.{not-true, not-false}
use Rattle.record_runs.proofs.Ending.{listing, no_file, ran_no_file}
use borrow.Author.Rules.{rules}
use Rattle.record_runs.proofs.run_sound.Goals as goal

pub returns-then-not-scanned : goal.returns-then-not-scanned
returns-then-not-scanned c =
    let a = c.args in
    let x = c.scan-scanned in
    ran_no_file a.b.now a.file.now a.answers.now c.requires (no_file a.file.now x.result x.ensures (not-true _ c.if-not-scanned.true)) c.refused.result c.refused.ensures

pub run_whole-requires : goal.run_whole-requires
run_whole-requires c =
    (c.requires, listing c.args.file.now c.scan-scanned.result c.scan-scanned.ensures (not-false _ c.if-not-scanned.false))

pub returns : goal.returns
returns c = c.run_whole.ensures
