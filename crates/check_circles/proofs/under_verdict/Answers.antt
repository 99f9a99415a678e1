-- The member itself, a handle that is gone, a node whose word says that it is under the member; else the walk up tells. Assumes nothing.
use Rattle.std.specs.Prelude.{None, Some}
use mathlib.Core.Path.{◌≡◌, ap, sym, ◌∙◌, subst}
use Rattle.bench_words.specs.Store.{node_at}
use Rattle.ledger_spec.specs.Bench.{Handle}
use Rattle.ledger_spec.specs.Look.{same_handle}
use Rattle.ledger_spec.specs.Named.{handle_named}
use Rattle.ledger_laws.specs.Clean.{Descends}
use Rattle.bench_links.proofs.Finding.{found_at, found_none}
use Rattle.bench_links.proofs.Rising.{seen_some}
use Rattle.bench_views.specs.View.{view, handle_at}
use Rattle.bench_vertices.proofs.Named.{held_placed}
use Rattle.check_nests.proofs.Reading.{held_back}
use Rattle.check_circles.specs.Found.{under_verdict}
use Rattle.check_circles.proofs.Touching.{same_named}
use Rattle.check_circles.proofs.Arriving.{under_self, under_gone, under_below}
use Rattle.check_circles.proofs.under_verdict.Goals as goal

pub returns-then-eq : goal.returns-then-eq
returns-then-eq c =
    let b = c.args.b.now in
    let h = handle_named c.args.h in
    let m = handle_at (node_at b) c.args.k in
    under_self (view b) m h (sym (ap (same_handle h) c.handle_at-own.ensures) ∙ sym (same_named c.args.h c.handle_at-own.result) ∙ sym c.eq.ensures ∙ c.if-eq.true)

pub is_within-requires : goal.is_within-requires
is_within-requires c =
    let b = c.args.b.now in
    let h = handle_named c.args.h in
    let m = handle_at (node_at b) c.args.k in
    let k = c.in-Some.p in
    let q : c.find.result ≡ Some k = cc in
    let H = found_at b h c.find.ensures k q in record { fit = c.requires.fit; placed = c.requires.placed; placed_2 = held_placed b h k H; nests = c.requires.nests }

pub returns-then-is_within : goal.returns-then-is_within
returns-then-is_within c =
    let b = c.args.b.now in
    let h = handle_named c.args.h in
    let m = handle_at (node_at b) c.args.k in
    let k = c.in-Some.p in
    let q : c.find.result ≡ Some k = cc in
    let H = found_at b h c.find.ensures k q in
    let n = seen_some b h H.stands in
    under_below (view b) m c.requires.fit.facts h n.0 n.1 (subst (λ (x : Handle). Descends (view b) m x) (held_back b h k H) (c.is_within.ensures c.if-is_within.true))

pub rise-requires : goal.rise-requires
rise-requires c =
    let b = c.args.b.now in
    let h = handle_named c.args.h in
    let m = handle_at (node_at b) c.args.k in
    let k = c.in-Some.p in
    let q : c.find.result ≡ Some k = cc in
    let H = found_at b h c.find.ensures k q in record { fit = c.requires.fit; stands = H.stands }

pub returns-in-None : goal.returns-in-None
returns-in-None c =
    let b = c.args.b.now in
    let h = handle_named c.args.h in
    let m = handle_at (node_at b) c.args.k in
    let q : c.find.result ≡ None = cc in
    under_gone (view b) m h (sym (ap (same_handle h) c.handle_at-own.ensures) ∙ sym (same_named c.args.h c.handle_at-own.result) ∙ sym c.eq.ensures ∙ c.if-eq.false)
    (found_none b h c.find.ensures q)

pub returns-else-is_within : goal.returns-else-is_within
returns-else-is_within c =
    let b = c.args.b.now in
    let h = handle_named c.args.h in
    let m = handle_at (node_at b) c.args.k in
    c.rise.ensures ∙ ap (λ (x : Handle). under_verdict (view b) x h) c.handle_at-own.ensures
