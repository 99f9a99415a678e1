-- A handle that is not found is gone; else its node's outermost blossom tells. Assumes nothing.
use Rattle.std.specs.Prelude.{None, Some}
use Rattle.std.proofs.Common.{rules}
use mathlib.Core.Path.{◌≡◌, ap, sym, ◌∙◌}
use Rattle.ledger_spec.specs.Bench.{Handle}
use Rattle.ledger_spec.specs.Look.{same_handle}
use Rattle.ledger_spec.specs.Named.{handle_named}
use Rattle.ledger_spec.specs.Walk.{outermost}
use Rattle.bench_links.proofs.Finding.{found_at, found_none}
use Rattle.bench_links.proofs.Rising.{seen_some}
use Rattle.bench_views.specs.View.{view}
use Rattle.bench_vertices.proofs.Named.{held_placed}
use Rattle.check_nests.proofs.Reading.{held_back}
use Rattle.check_circles.proofs.Touching.{same_named, touch_gone, touch_near, touch_far}
use Rattle.check_circles.proofs.touch_verdict.Goals as goal

pub outer-requires : goal.outer-requires
outer-requires c =
    let b = c.args.b.now in
    let h = handle_named c.args.h in
    let k = c.in-Some.k in
    let q : c.find.result ≡ Some k = cc in
    let H = found_at b h c.find.ensures k q in record { fit = c.requires.fit; placed = held_placed b h k H; nests = c.requires.nests }

pub returns-then-eq : goal.returns-then-eq
returns-then-eq c =
    let b = c.args.b.now in
    let h = handle_named c.args.h in
    let k = c.in-Some.k in
    let q : c.find.result ≡ Some k = cc in
    let H = found_at b h c.find.ensures k q in
    let n = seen_some b h H.stands in
    let o = c.outer in
    let e = o.ensures.0 ∙ ap (outermost (view b)) (held_back b h k H) in
    touch_near (view b) (handle_named c.args.outer) h n.0 n.1 (sym (ap (λ (x : Handle). same_handle x (handle_named c.args.outer)) e) ∙ sym (same_named o.result c.args.outer) ∙ sym c.eq.ensures ∙ c.if-eq.true)

pub returns-in_default : goal.returns-in_default
returns-in_default c =
    let q : c.find.result ≡ None = search rules in
    touch_gone (view c.args.b.now) (handle_named c.args.outer) (handle_named c.args.h) (found_none c.args.b.now (handle_named c.args.h) c.find.ensures q)

pub returns : goal.returns
returns c =
    let b = c.args.b.now in
    let h = handle_named c.args.h in
    let k = c.in-Some.k in
    let q : c.find.result ≡ Some k = cc in
    let H = found_at b h c.find.ensures k q in
    let n = seen_some b h H.stands in
    let o = c.outer in
    let e = o.ensures.0 ∙ ap (outermost (view b)) (held_back b h k H) in
    touch_far (view b) (handle_named c.args.outer) h n.0 n.1 (sym (ap (λ (x : Handle). same_handle x (handle_named c.args.outer)) e) ∙ sym (same_named o.result c.args.outer) ∙ sym c.eq.ensures ∙ c.if-eq.false)
