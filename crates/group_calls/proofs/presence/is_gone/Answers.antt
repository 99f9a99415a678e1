-- A handle is gone exactly where none is found by it. Assumes nothing.
use Rattle.std.specs.Prelude.{None, Option, Some, ℕ, is_some}
use mathlib.Core.Path.{◌≡◌, sym}
use mathlib.Core.Bool.{Bool, true, false, not, true≢false, false≢true}
use mathlib.Core.List.{List}
use Rattle.ledger_spec.specs.Bench.{Handle}
use Rattle.ledger_spec.specs.Named.{handle_named}
use Rattle.ledger_spec.specs.Tests.{stale}
use Rattle.bench_views.specs.View.{view}
use Rattle.bench_links.specs.Find.{Finds}
use Rattle.bench_links.proofs.Rising.{seen_some}
use Rattle.read_sound.proofs.Numbers.{stale_yes, stale_no}
use Rattle.group_calls.proofs.presence.is_gone.Goals as goal

gone_is : (b : List ℕ) (h : Handle) (r : Option ℕ) (x : Bool) → Finds b h r → is_some r ≡ not x → x ≡ stale (view b) h
gone_is b h None true f e = sym (stale_yes (view b) h f)
gone_is b h None false f e = absurd (false≢true e)
gone_is b h (Some k) true f e = absurd (true≢false e)
gone_is b h (Some k) false f e = let n = seen_some b h f.stands in sym (stale_no (view b) h n.0 n.1)

pub returns : goal.returns
returns c = gone_is c.args.b.now (handle_named c.args.h) c.find.result c.is_none.result c.find.ensures c.is_none.ensures
