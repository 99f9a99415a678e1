-- A stale handle has no vertex; else the first under its node. Assumes nothing.
use Rattle.std.specs.Prelude.{None, Some}
use Prim.Native.Nat.{ℕ}
use mathlib.Core.Path.{◌≡◌, ap, ◌∙◌}
use mathlib.Core.List.{List}
use borrow.Author.Rules.{rules}
use lib.ListN.{get_or}
use Rattle.ledger_spec.specs.Named.{handle_named}
use Rattle.bench_links.proofs.Finding.{found_at, found_none}
use Rattle.bench_links.proofs.Rising.{seen_some}
use Rattle.bench_vertices.proofs.Named.{held_placed, held_under}
use Rattle.bench_views.specs.View.{view}
use Rattle.read_sound.proofs.Saying.{vertex_no, vertex_yes}
use Rattle.read_sound.proofs.get_representative_vertex.Goals as goal

pub first_vertex-requires : goal.first_vertex-requires
first_vertex-requires c =
    let k = c.in-Some.k in
    let q : c.find.result ≡ Some k = cc in record { fit = c.requires; placed = held_placed c.args.b.now (handle_named c.args.h) k (found_at c.args.b.now (handle_named c.args.h) c.find.ensures k q) }

pub returns-in-None : goal.returns-in-None
returns-in-None c =
    let q : c.find.result ≡ None = cc in
    vertex_no (view c.args.b.now) (handle_named c.args.h) (found_none c.args.b.now (handle_named c.args.h) c.find.ensures q)

pub returns-in-Some : goal.returns-in-Some
returns-in-Some c =
    let b = c.args.b.now in
    let h = handle_named c.args.h in
    let k = c.in-Some.k in
    let q : c.find.result ≡ Some k = cc in
    let f = found_at b h c.find.ensures k q in
    let n = seen_some b h f.stands in
    vertex_yes (view b) h n.0 n.1 c.first_vertex.result.0 (c.first_vertex.ensures ∙ ap (λ (vs : List ℕ). get_or vs 0 0) (held_under b h k f))
