-- A node without a parent has no link above it, and one with a parent has. Assumes nothing.
use Rattle.std.specs.Prelude.{None, Some}
use mathlib.Core.Path.{◌≡◌, ap, sym, ◌∙◌}
use borrow.Author.Rules.{rules}
use Rattle.kinds.specs.declared.Handle.{Handle}
use Rattle.ledger_spec.specs.Named.{handle_named}
use Rattle.bench_links.proofs.Finding.{found_at, found_none}
use Rattle.bench_links.proofs.Rising.{seen_some, no_link, some_link}
use Rattle.bench_views.specs.View.{view}
use Rattle.read_sound.proofs.Saying.{under_no, under_top, under_yes}
use Rattle.read_sound.proofs.get_secondary_ancestor_blossom.Goals as goal

pub outermost-o-requires : goal.outermost-o-requires
outermost-o-requires c =
    let k = c.in-Some.field-0 in
    let q : c.find.result ≡ Some k = cc in record { fit = c.requires; stands = (found_at c.args.b.now (handle_named c.args.h) c.find.ensures k q).stands }

pub returns-then-o-eq0 : goal.returns-then-o-eq0
returns-then-o-eq0 c =
    let b = c.args.b.now in
    let h = handle_named c.args.h in
    let k = c.in-Some.field-0 in
    let q : c.find.result ≡ Some k = cc in
    let n = seen_some b h (found_at b h c.find.ensures k q).stands in
    ap (λ (g : Handle). (12, handle_named g)) c.nobody-then-o-eq0.ensures
    ∙ under_top (view b) h n.0 n.1 (no_link (view b) h (sym c.outermost-o.ensures.links ∙ c.if-o-eq0.true))

pub returns-in-None : goal.returns-in-None
returns-in-None c =
    let q : c.find.result ≡ None = cc in
    ap (λ (g : Handle). (8, handle_named g)) c.nobody.ensures
    ∙ under_no (view c.args.b.now) (handle_named c.args.h) (found_none c.args.b.now (handle_named c.args.h) c.find.ensures q)

pub returns-else-o-eq0 : goal.returns-else-o-eq0
returns-else-o-eq0 c =
    let b = c.args.b.now in
    let h = handle_named c.args.h in
    let k = c.in-Some.field-0 in
    let q : c.find.result ≡ Some k = cc in
    let n = seen_some b h (found_at b h c.find.ensures k q).stands in
    let p = some_link (view b) h (λ z. c.if-o-eq0.false (c.outermost-o.ensures.links ∙ z)) in
    under_yes (view b) h n.0 n.1 p.0 p.1 (handle_named c.outermost-o.result.under) c.outermost-o.ensures.under
