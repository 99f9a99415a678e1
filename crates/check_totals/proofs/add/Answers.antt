-- An empty slot adds nothing; else the value lies near 2^60, so the sum stays in range. Assumes nothing.
use mathlib.Core.Path.{sym, subst}
use Prim.Native.Nat.{ℕ, ◌+◌, ◌-◌}
use native.Mathlib.Omega.{arith}
use Rattle.check_totals.specs.Total.{Added}
use Rattle.check_totals.proofs.Adding.{added_none, bias_room, value_near, added_value}
use Rattle.check_totals.proofs.add.Goals as goal

pub returns-then-is_absent : goal.returns-then-is_absent
returns-then-is_absent c =
    let n = c.load_node-n in
    added_none c.args.b.now c.requires.fit c.args.k c.requires.k_bound c.requires.k_bound_2 n.result n.ensures c.is_absent.ensures c.if-is_absent.true c.args.sum

pub valued-requires : goal.valued-requires
valued-requires c =
    let n = c.load_node-n in
    bias_room c.args.b.now c.requires.fit c.args.k c.requires.k_bound c.requires.k_bound_2 n.result n.ensures c.is_absent.ensures c.if-is_absent.false c.args.t c.requires.t_value

pub overflow_add-result : goal.overflow_add-result
overflow_add-result c =
    let n = c.load_node-n in
    let v = value_near c.args.b.now c.requires.fit c.args.k c.requires.k_bound c.requires.k_bound_2 n.result n.ensures c.is_absent.ensures c.if-is_absent.false c.args.t c.requires.t_value in
    omega (arith, v.1, c.valued.ensures, c.requires.sum_bound)

pub returns : goal.returns
returns c =
    let n = c.load_node-n in
    subst (λ (x : ℕ). Added c.args.b.now c.args.k c.args.sum (c.args.sum + x - 1152921504606846976)) (sym c.valued.ensures)
    (added_value c.args.b.now c.requires.fit c.args.k c.requires.k_bound c.requires.k_bound_2 n.result n.ensures c.is_absent.ensures c.if-is_absent.false c.args.t c.requires.t_value c.args.sum c.requires.le_sum)
