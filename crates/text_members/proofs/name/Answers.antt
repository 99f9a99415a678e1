-- The words passed name what their serials did; the others are as they were. Assumes nothing.
use lib.ListN.{take}
use Rattle.bench_views.specs.View.{view}
use Rattle.text_members.proofs.Naming.{passed_none, passed_one, passed_all}
use Rattle.text_members.proofs.name.Goals as goal

pub loop-word-init : goal.loop-word-init
loop-word-init c = passed_none (view c.args.b.now) (take c.args.n c.args.serials.now)

pub loop-word-preserved : goal.loop-word-preserved
loop-word-preserved c =
    let l = c.loop-word in
    passed_one (view c.args.b.now) (take c.args.n c.args.serials.now) l.word-items l.word-index l.invariant c.loop-word-test.true c.member.result
    c.member.ensures

pub returns : goal.returns
returns c =
    let l = c.loop-word in
    passed_all (view c.args.b.now) c.args.serials.now l.word-items c.args.n l.word-index c.requires.1 l.invariant c.loop-word-test.false
