-- A stale handle has no vertices; there are as many as the size, and they fill the front of a slice that is no shorter. Assumes nothing.
use Rattle.std.specs.Prelude.{None, Some}
use mathlib.Core.Path.{◌≡◌, ap}
use native.Mathlib.Omega.{arith}
use borrow.Author.Rules.{rules}
use lib.ListN.{length}
use Rattle.bench_words.specs.declared.Node.{Node}
use Rattle.ledger_spec.specs.Named.{handle_named}
use Rattle.ledger_spec.specs.Walk.{vertices_of}
use Rattle.bench_links.proofs.Finding.{found_at, found_none}
use Rattle.bench_links.proofs.Rising.{seen_some}
use Rattle.bench_vertices.proofs.Named.{held_placed, held_under, held_size, held_many, wrote_front}
use Rattle.bench_views.specs.View.{view}
use Rattle.read_sound.proofs.Saying.{vertices_no, vertices_small, vertices_yes}
use Rattle.read_sound.proofs.get_all_vertices.Goals as goal

pub load_node-n-requires : goal.load_node-n-requires
load_node-n-requires c =
    let k = c.in-Some.k in
    let q : c.find.result ≡ Some k = cc in
    (found_at c.args.b.now (handle_named c.args.h) c.find.ensures k q).low

pub returns-then-out-n : goal.returns-then-out-n
returns-then-out-n c =
    let b = c.args.b.now in
    let h = handle_named c.args.h in
    let k = c.in-Some.k in
    let q : c.find.result ≡ Some k = cc in
    let f = found_at b h c.find.ensures k q in
    let n = seen_some b h f.stands in
    vertices_small (view b) h n.0 n.1 c.args.out.now (omega (arith, c.if-out-n.true, held_size b h k f, ap (λ (x : Node). x.size) c.load_node-n.ensures))

pub all_vertices-count-requires : goal.all_vertices-count-requires
all_vertices-count-requires c =
    let b = c.args.b.now in
    let h = handle_named c.args.h in
    let k = c.in-Some.k in
    let q : c.find.result ≡ Some k = cc in
    let f = found_at b h c.find.ensures k q in record { fit = c.requires; placed = held_placed b h k f; k_in_bounds = omega (arith, c.if-out-n.false, held_many b h k f c.requires, ap length (held_under b h k f), ap (λ (x : Node). x.size) c.load_node-n.ensures) }

pub returns-in-None : goal.returns-in-None
returns-in-None c =
    let q : c.find.result ≡ None = cc in
    vertices_no (view c.args.b.now) (handle_named c.args.h) (found_none c.args.b.now (handle_named c.args.h) c.find.ensures q) c.args.out.now

pub returns-else-out-n : goal.returns-else-out-n
returns-else-out-n c =
    let b = c.args.b.now in
    let h = handle_named c.args.h in
    let k = c.in-Some.k in
    let q : c.find.result ≡ Some k = cc in
    let f = found_at b h c.find.ensures k q in
    let n = seen_some b h f.stands in
    let a = c.all_vertices-count in
    let z = ap (λ (x : Node). x.size) c.load_node-n.ensures in
    let w = wrote_front (vertices_of (view b) h) c.args.out.now a.new.out a.result (omega (arith, c.if-out-n.false, held_many b h k f c.requires, z)) (rw (held_under b h k f) at a.ensures) in
    vertices_yes (view b) h n.0 n.1 c.args.out.now (omega (arith, c.if-out-n.false, held_size b h k f, z)) a.result a.new.out w.0 w.1
