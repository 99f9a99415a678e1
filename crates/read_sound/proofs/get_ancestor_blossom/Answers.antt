-- A stale handle has no ancestor; else the walk up finds it. Assumes nothing.
use Rattle.std.specs.Prelude.{None, Some}
use mathlib.Core.Path.{◌≡◌, ap, ◌∙◌}
use borrow.Author.Rules.{rules}
use Rattle.kinds.specs.declared.Handle.{Handle}
use Rattle.ledger_spec.specs.Named.{handle_named}
use Rattle.bench_links.proofs.Finding.{found_at, found_none}
use Rattle.bench_links.proofs.Rising.{seen_some}
use Rattle.bench_views.specs.View.{view}
use Rattle.read_sound.proofs.Saying.{outer_no, outer_yes}
use Rattle.read_sound.proofs.get_ancestor_blossom.Goals as goal

pub outermost-o-requires : goal.outermost-o-requires
outermost-o-requires c =
    let k = c.in-Some.field-0 in
    let q : c.find.result ≡ Some k = cc in record { fit = c.requires; stands = (found_at c.args.b.now (handle_named c.args.h) c.find.ensures k q).stands }

pub returns-in-None : goal.returns-in-None
returns-in-None c =
    let q : c.find.result ≡ None = cc in
    ap (λ (g : Handle). (8, (handle_named g, 0))) c.nobody.ensures
    ∙ outer_no (view c.args.b.now) (handle_named c.args.h) (found_none c.args.b.now (handle_named c.args.h) c.find.ensures q)

pub returns-in-Some : goal.returns-in-Some
returns-in-Some c =
    let b = c.args.b.now in
    let h = handle_named c.args.h in
    let k = c.in-Some.field-0 in
    let q : c.find.result ≡ Some k = cc in
    let n = seen_some b h (found_at b h c.find.ensures k q).stands in
    let o = c.outermost-o in
    outer_yes (view b) h n.0 n.1 (handle_named o.result.node) o.result.links o.ensures.node o.ensures.links
