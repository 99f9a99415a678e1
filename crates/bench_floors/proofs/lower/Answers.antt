-- Each way out is one of the laws of the lower number. Assumes nothing.
use Rattle.bench_floors.proofs.Lowers.{lower_none, bias_room, lower_still, lower_it, lower_not}
use Rattle.bench_floors.proofs.lower.Goals as goal

pub returns-then-is_absent : goal.returns-then-is_absent
returns-then-is_absent c =
    let n = c.load_node-n in
    lower_none c.args.b.now c.requires.fit c.args.k c.requires.k_bound c.requires.k_bound_2 n.result n.ensures c.is_absent.ensures c.if-is_absent.true c.args.m

pub returns-then-not-is_shrink : goal.returns-then-not-is_shrink
returns-then-not-is_shrink c =
    let n = c.load_node-n in
    lower_still c.args.b.now c.requires.fit c.args.k c.requires.k_bound c.requires.k_bound_2 n.result n.ensures c.is_absent.ensures c.if-is_absent.false c.args.t c.requires.t_value
    c.is_shrink.ensures (c.if-not-is_shrink.true) c.args.m

pub valued-v-requires : goal.valued-v-requires
valued-v-requires c =
    let n = c.load_node-n in
    bias_room c.args.b.now c.requires.fit c.args.k c.requires.k_bound c.requires.k_bound_2 n.result n.ensures c.is_absent.ensures c.if-is_absent.false c.args.t c.requires.t_value

pub returns-then-v-m : goal.returns-then-v-m
returns-then-v-m c =
    let n = c.load_node-n in
    lower_it c.args.b.now c.requires.fit c.args.k c.requires.k_bound c.requires.k_bound_2 n.result n.ensures c.is_absent.ensures c.if-is_absent.false c.args.t c.requires.t_value
    c.is_shrink.ensures (c.if-not-is_shrink.false) c.valued-v.result c.valued-v.ensures c.args.m c.if-v-m.true

pub returns : goal.returns
returns c =
    let n = c.load_node-n in
    lower_not c.args.b.now c.requires.fit c.args.k c.requires.k_bound c.requires.k_bound_2 n.result n.ensures c.is_absent.ensures c.if-is_absent.false c.args.t c.requires.t_value
    c.is_shrink.ensures (c.if-not-is_shrink.false) c.valued-v.result c.valued-v.ensures c.args.m c.if-v-m.false
