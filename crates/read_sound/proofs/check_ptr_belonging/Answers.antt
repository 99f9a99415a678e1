-- No in place of STALE and FOREIGN. Assumes nothing.
use Rattle.std.specs.Prelude.{None, Some}
use mathlib.Core.Path.{◌≡◌}
use borrow.Author.Rules.{rules}
use Rattle.ledger_spec.specs.Named.{handle_named}
use Rattle.bench_links.proofs.Finding.{found_at, found_none}
use Rattle.bench_links.proofs.Rising.{seen_some}
use Rattle.bench_views.specs.View.{view}
use Rattle.read_sound.proofs.Saying.{belongs_no, belongs_stale, belongs_there}
use Rattle.read_sound.proofs.check_ptr_belonging.Goals as goal

pub returns-then-number-ne0 : goal.returns-then-number-ne0
returns-then-number-ne0 c = belongs_no (view c.args.b.now) c.args.unit c.unit_number-number.result c.unit_number-number.ensures c.if-number-ne0.true (handle_named c.args.h)

pub is_foreign-requires : goal.is_foreign-requires
is_foreign-requires c =
    let k = c.in-Some.field-0 in
    let q : c.find.result ≡ Some k = cc in record { steady = c.requires.canon.steady; unit_bound = (found_at c.args.b.now (handle_named c.args.h) c.find.ensures k q).stands.unit }

pub returns-in-None : goal.returns-in-None
returns-in-None c =
    let q : c.find.result ≡ None = cc in
    belongs_stale (view c.args.b.now) c.args.unit c.unit_number-number.result c.unit_number-number.ensures c.if-number-ne0.false (handle_named c.args.h)
    (found_none c.args.b.now (handle_named c.args.h) c.find.ensures q)

pub returns-in-Some : goal.returns-in-Some
returns-in-Some c =
    let b = c.args.b.now in
    let h = handle_named c.args.h in
    let k = c.in-Some.field-0 in
    let q : c.find.result ≡ Some k = cc in
    let n = seen_some b h (found_at b h c.find.ensures k q).stands in
    belongs_there (view b) c.args.unit c.unit_number-number.result c.unit_number-number.ensures c.if-number-ne0.false h n.0 n.1 c.is_foreign.result c.is_foreign.ensures
