-- Each way out is one of the laws of finding, at what was tested and loaded on the way. Assumes nothing.
use Prim.Native.Nat.{◌+◌, ◌*◌}
use mathlib.Core.Path.{refl}
use Rattle.ledger_spec.specs.Named.{handle_named}
use Rattle.bench_links.proofs.Finding.{out_unit, out_slot, gone, renamed, found}
use Rattle.bench_links.proofs.find.Goals as goal

pub returns-then-h-ge8 : goal.returns-then-h-ge8
returns-then-h-ge8 c = out_unit c.args.b.now (handle_named c.args.h) c.if-h-ge8.true

pub returns-then-h-ge64 : goal.returns-then-h-ge64
returns-then-h-ge64 c = out_slot c.args.b.now (handle_named c.args.h) c.requires c.if-h-ge8.false c.if-h-ge64.true

pub returns-then-is_absent : goal.returns-then-is_absent
returns-then-is_absent c =
    gone c.args.b.now c.requires (handle_named c.args.h) c.load_node-n.result c.load_node-n.ensures c.if-h-ge8.false c.if-h-ge64.false c.is_absent.ensures c.if-is_absent.true

pub returns-then-n-h : goal.returns-then-n-h
returns-then-n-h c =
    renamed c.args.b.now c.requires (handle_named c.args.h) c.load_node-n.result c.load_node-n.ensures c.if-h-ge8.false c.if-h-ge64.false c.is_absent.ensures c.if-is_absent.false c.if-n-h.true

pub returns : goal.returns
returns c =
    found c.args.b.now c.requires (handle_named c.args.h) c.load_node-n.result c.load_node-n.ensures c.if-h-ge8.false c.if-h-ge64.false c.is_absent.ensures c.if-is_absent.false c.if-n-h.false (c.args.h.unit * 64 + c.args.h.slot) refl
