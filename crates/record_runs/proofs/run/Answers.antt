-- FILE, BROKEN, or the run on sound words. Assumes nothing.
use mathlib.Core.Path.{sym, ◌∙◌}
use borrow.Author.Tests.{not-true, not-false}
use Rattle.record_runs.proofs.Ending.{listing, no_file, any_no_file, any_sound, any_broken}
use borrow.Author.Rules.{rules}
use Rattle.record_runs.proofs.run.Goals as goal

pub returns-then-not-scanned : goal.returns-then-not-scanned
returns-then-not-scanned c =
    let a = c.args in
    let x = c.scan-scanned in
    any_no_file a.b.now a.file.now a.answers.now (no_file a.file.now x.result x.ensures (not-true _ c.if-not-scanned.true)) c.refused.result c.refused.ensures

pub returns-then-not-is_bench : goal.returns-then-not-is_bench
returns-then-not-is_bench c =
    let a = c.args in
    let h = listing a.file.now c.scan-scanned.result c.scan-scanned.ensures (not-false _ c.if-not-scanned.false) in
    any_broken a.b.now a.file.now a.answers.now c.scan-scanned.result.start c.scan-scanned.result.count h
    (sym c.is_bench.ensures.is ∙ c.if-not-is_bench.true) c.refused-then-not-is_bench.result c.refused-then-not-is_bench.ensures

pub run_whole-requires : goal.run_whole-requires
run_whole-requires c =
    let f = c.args.file.now in
    (c.is_bench.ensures.says (c.if-not-is_bench.false), listing f c.scan-scanned.result c.scan-scanned.ensures (not-false _ c.if-not-scanned.false))

pub returns : goal.returns
returns c =
    let a = c.args in
    let h = listing a.file.now c.scan-scanned.result c.scan-scanned.ensures (not-false _ c.if-not-scanned.false) in
    any_sound a.b.now a.file.now a.answers.now c.scan-scanned.result.start c.scan-scanned.result.count h _ _ _
    (sym c.is_bench.ensures.is ∙ c.if-not-is_bench.false) c.run_whole.ensures
