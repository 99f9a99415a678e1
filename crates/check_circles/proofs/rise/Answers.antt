-- The loop goes up by the definition's own steps, one link a turn. Assumes nothing.
use Rattle.std.specs.Prelude.{None, Some}
use Rattle.std.proofs.Common.{rules}
use mathlib.Core.Path.{◌≡◌, sym, ◌∙◌}
use native.Mathlib.Omega.{arith}
use Rattle.ledger_spec.specs.Named.{handle_named}
use Rattle.check_circles.proofs.Touching.{same_named}
use Rattle.check_circles.proofs.Arriving.{rising_starts, rising_spent, rising_here, rising_ends, rising_on, spot_low}
use Rattle.check_circles.proofs.rise.Goals as goal

pub loop-init : goal.loop-init
loop-init c = rising_starts c.args.b.now (handle_named c.args.own) (handle_named c.args.h) c.requires.fit c.requires.stands

pub returns-then-eq : goal.returns-then-eq
returns-then-eq c =
    let l = c.loop in
    rising_here c.args.b.now (handle_named c.args.own) (handle_named c.args.h) (handle_named l.at) l.counter l.invariant
    (sym (same_named l.at c.args.own) ∙ sym c.eq.ensures ∙ c.if-eq.true)

pub load_node-n-requires : goal.load_node-n-requires
load_node-n-requires c =
    let l = c.loop in
    spot_low c.args.b.now (handle_named c.args.own) (handle_named c.args.h) (handle_named l.at) l.counter l.invariant

pub returns-in_default : goal.returns-in_default
returns-in_default c =
    let l = c.loop in
    let n = c.load_node-n in
    let q : n.result.parent ≡ None = search rules in
    rising_ends c.args.b.now (handle_named c.args.own) (handle_named c.args.h) (handle_named l.at) l.counter l.invariant
    (omega (arith, c.loop-test.true))
    (sym (same_named l.at c.args.own) ∙ sym c.eq.ensures ∙ c.if-eq.false) n.result n.ensures q

pub loop-preserved : goal.loop-preserved
loop-preserved c =
    let l = c.loop in
    let n = c.load_node-n in
    let p = c.in-Some.q in
    let q : n.result.parent ≡ Some p = cc in
    rising_on c.args.b.now (handle_named c.args.own) (handle_named c.args.h) (handle_named l.at) l.counter l.invariant
    (omega (arith, c.loop-test.true))
    (sym (same_named l.at c.args.own) ∙ sym c.eq.ensures ∙ c.if-eq.false) n.result n.ensures p q

pub returns-then-eq-2 : goal.returns-then-eq-2
returns-then-eq-2 c =
    let l = c.loop in
    rising_here c.args.b.now (handle_named c.args.own) (handle_named c.args.h) (handle_named l.at) l.counter l.invariant
    (sym (same_named l.at c.args.own) ∙ sym c.eq-2.ensures ∙ c.if-eq-2.true)

pub returns : goal.returns
returns c =
    let l = c.loop in
    rising_spent c.args.b.now (handle_named c.args.own) (handle_named c.args.h) (handle_named l.at) l.counter l.invariant (omega (arith, c.loop-test.false))
    (sym (same_named l.at c.args.own) ∙ sym c.eq-2.ensures ∙ c.if-eq-2.false)
