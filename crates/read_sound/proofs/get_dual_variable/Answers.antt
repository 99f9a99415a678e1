-- A stale handle has no value; else the node's own. Assumes nothing.
use Rattle.std.specs.Prelude.{None, Some}
use mathlib.Core.Path.{◌≡◌, ◌∙◌}
use borrow.Author.Rules.{rules}
use mir.Syntax.{w64}
use mir.Val.{to_z, of_z}
use mir.Facts.{to_z-of_z}
use Rattle.ledger_spec.specs.Named.{handle_named}
use Rattle.bench_links.proofs.Finding.{found_at, found_none}
use Rattle.bench_links.proofs.Rising.{seen_some}
use Rattle.bench_views.specs.View.{view}
use Rattle.read_sound.proofs.Saying.{value_no, value_yes}
use Rattle.read_sound.proofs.get_dual_variable.Goals as goal

pub value-requires : goal.value-requires
value-requires c =
    let k = c.in-Some.field-0 in
    let q : c.find.result ≡ Some k = cc in record { fit = c.requires; stands = (found_at c.args.b.now (handle_named c.args.h) c.find.ensures k q).stands }

pub returns-in-None : goal.returns-in-None
returns-in-None c =
    let q : c.find.result ≡ None = cc in
    value_no (view c.args.b.now) (handle_named c.args.h) (found_none c.args.b.now (handle_named c.args.h) c.find.ensures q)

pub returns-in-Some : goal.returns-in-Some
returns-in-Some c =
    let b = c.args.b.now in
    let h = handle_named c.args.h in
    let k = c.in-Some.field-0 in
    let q : c.find.result ≡ Some k = cc in
    let n = seen_some b h (found_at b h c.find.ensures k q).stands in
    value_yes (view b) h n.0 n.1 (to_z w64 (of_z w64 c.value.result)) (to_z-of_z {w = w64} (record { sfits = c.value.type_inv }) ∙ c.value.ensures)
