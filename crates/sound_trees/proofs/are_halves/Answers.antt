-- Each way out is one case of the definition. Assumes nothing.
use Rattle.bench_words.specs.Store.{interface_at}
use Rattle.sound_trees.proofs.Rows.{down_none, down_high, down_high_right, down_alone, down_both}
use Rattle.sound_trees.proofs.are_halves.Goals as goal

pub returns-then-l-eq0 : goal.returns-then-l-eq0
returns-then-l-eq0 c = down_none (interface_at c.args.b.now) c.args.l c.args.r c.args.u c.if-l-eq0.true

pub returns-then-n-l : goal.returns-then-n-l
returns-then-n-l c = down_high (interface_at c.args.b.now) c.args.l c.args.r c.args.u c.if-l-eq0.false c.if-n-l.true

pub returns-then-n-r : goal.returns-then-n-r
returns-then-n-r c = down_high_right (interface_at c.args.b.now) c.args.l c.args.r c.args.u c.if-l-eq0.false c.if-n-l.false c.if-n-r.true

pub returns-then-r-eq0 : goal.returns-then-r-eq0
returns-then-r-eq0 c = down_alone (interface_at c.args.b.now) c.args.l c.args.r c.args.u c.if-l-eq0.false c.if-n-l.false c.if-n-r.false c.if-r-eq0.true

pub returns : goal.returns
returns c =
    down_both (interface_at c.args.b.now) c.args.l c.args.r c.args.u c.if-l-eq0.false c.if-n-l.false c.if-n-r.false c.if-r-eq0.false c.load_interface-f.result c.load_interface-g.result c.is_under.result c.is_under-2.result c.load_interface-f.ensures c.load_interface-g.ensures c.is_under.ensures c.is_under-2.ensures
