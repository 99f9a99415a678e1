-- What the walk finds; else the sum against the total; else, strictly, what the second walk finds. Assumes nothing.
use borrow.Author.Rules.{rules}
use Rattle.bench_views.specs.View.{view}
use Rattle.bench_links.proofs.Weighing.{sum_seen}
use Rattle.check_nests.proofs.Reading.{nests_fresh}
use Rattle.check_sound.proofs.Judging.{judge_found, judge_five, judge_zero, judge_strict, sum_agrees, sum_differs}
use Rattle.check_sound.proofs.judge.Goals as goal

pub walk-w-requires : goal.walk-w-requires
walk-w-requires c = record { fit = c.requires.fit; unit_bound = c.requires.unit_bound; unit_value = c.requires.unit_value; places = c.list-count.ensures; nests = nests_fresh c.args.b.now }

pub returns-then-w-ne0 : goal.returns-then-w-ne0
returns-then-w-ne0 c =
    let b = c.args.b.now in
    let w = c.walk-w in
    judge_found (view b) c.args.unit c.args.strict w.result.verdict w.result.index.0 w.ensures.0 c.if-w-ne0.true

pub returns-then-total-f : goal.returns-then-total-f
returns-then-total-f c =
    let b = c.args.b.now in
    let w = c.walk-w in
    let f = c.load_interface-f in
    let t = c.total-total in
    let x = sum_seen b c.requires.fit c.args.unit c.requires.unit_bound c.requires.unit_value f.result f.ensures in
    judge_five (view b) c.args.unit c.args.strict w.result.verdict w.result.index.0 w.ensures.0 c.if-w-ne0.false (sum_differs b c.args.unit t.result f.result x t.ensures c.if-total-f.true)

pub walk-requires : goal.walk-requires
walk-requires c = record { fit = c.requires.fit; unit_bound = c.requires.unit_bound; unit_value = c.requires.unit_value; places = c.list-count.ensures; nests = c.walk-w.ensures.1 }

pub returns-then-strict : goal.returns-then-strict
returns-then-strict c =
    let b = c.args.b.now in
    let x = sum_seen b c.requires.fit c.args.unit c.requires.unit_bound c.requires.unit_value c.load_interface-f.result c.load_interface-f.ensures in
    judge_strict (view b) c.args.unit c.args.strict c.walk-w.result.verdict c.walk-w.result.index.0 c.walk-w.ensures.0 c.if-w-ne0.false (sum_agrees b c.args.unit c.total-total.result c.load_interface-f.result x c.total-total.ensures c.if-total-f.false) c.if-strict.true (c.walk.result.verdict, c.walk.result.index.0) c.walk.ensures.0

pub returns : goal.returns
returns c =
    let b = c.args.b.now in
    let f = c.load_interface-f in
    let x = sum_seen b c.requires.fit c.args.unit c.requires.unit_bound c.requires.unit_value f.result f.ensures in
    judge_zero (view b) c.args.unit c.args.strict c.walk-w.result.verdict c.walk-w.result.index.0 c.walk-w.ensures.0 c.if-w-ne0.false (sum_agrees b c.args.unit c.total-total.result f.result x c.total-total.ensures c.if-total-f.false) c.if-strict.false
