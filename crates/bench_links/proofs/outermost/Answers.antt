-- The loop goes up by the definitions' own steps, at most 512. Assumes nothing.
use Rattle.std.specs.Prelude.{Some}
use mathlib.Core.Path.{◌≡◌, refl}
use native.Mathlib.Omega.{arith}
use Rattle.ledger_spec.specs.Named.{handle_named}
use Rattle.bench_links.proofs.Rising.{going_starts, spot_low, going_ends, going_on, going_spent}
use Rattle.bench_links.proofs.outermost.Goals as goal

pub loop-links-init : goal.loop-links-init
loop-links-init c = going_starts c.args.b.now (handle_named c.args.h) c.requires.fit c.requires.stands

pub load_node-n-requires : goal.load_node-n-requires
load_node-n-requires c =
    let l = c.loop-links in
    spot_low c.args.b.now (handle_named c.args.h) (handle_named l.at) (handle_named l.under) l.links l.invariant

pub returns-in-None : goal.returns-in-None
returns-in-None c =
    let l = c.loop-links in
    going_ends c.args.b.now (handle_named c.args.h) (handle_named l.at) (handle_named l.under) l.links l.invariant c.load_node-n.result c.load_node-n.ensures (cc)
    (record { node = l.at; under = l.under; links = l.links }) refl refl refl

pub loop-links-preserved : goal.loop-links-preserved
loop-links-preserved c =
    let l = c.loop-links in
    let q : c.load_node-n.result.parent ≡ Some c.in-Some.q = cc in
    going_on c.args.b.now (handle_named c.args.h) (handle_named l.at) (handle_named l.under) l.links l.invariant c.load_node-n.result c.load_node-n.ensures
    c.loop-links-test.true c.in-Some.q q

pub returns : goal.returns
returns c =
    let l = c.loop-links in
    going_spent c.args.b.now (handle_named c.args.h) (handle_named l.at) (handle_named l.under) l.links l.invariant c.loop-links-test.false
    (record { node = l.at; under = l.under; links = 512 }) refl refl (omega arith)
