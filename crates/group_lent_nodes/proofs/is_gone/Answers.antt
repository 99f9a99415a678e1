-- A node is gone exactly where none is found by the word. Assumes nothing.
use Rattle.std.specs.Prelude.{None, Option, Some, ℕ, is_some}
use mathlib.Core.Path.{◌≡◌, sym, ap, ◌∙◌}
use mathlib.Core.Bool.{Bool, true, false, not, true≢false, false≢true}
use mathlib.Core.List.{List}
use Rattle.ledger_spec.specs.Bench.{Handle}
use Rattle.bench_views.specs.Given.{hand_given}
use Rattle.bench_views.proofs.Givens.{hand_given_lem}
use Rattle.ledger_spec.specs.Tests.{stale}
use Rattle.bench_views.specs.View.{view}
use Rattle.bench_links.specs.Find.{Finds}
use Rattle.bench_links.proofs.Rising.{seen_some}
use Rattle.read_sound.proofs.Numbers.{stale_yes, stale_no}
use Rattle.group_lent_nodes.proofs.is_gone.Goals as goal

gone_is : (b : List ℕ) (h : Handle) (r : Option ℕ) (x : Bool) → Finds b h r → is_some r ≡ not x → x ≡ stale (view b) h
gone_is b h None true f e = sym (stale_yes (view b) h f)
gone_is b h None false f e = absurd (false≢true e)
gone_is b h (Some k) true f e = absurd (true≢false e)
gone_is b h (Some k) false f e = let n = seen_some b h f.stands in sym (stale_no (view b) h n.0 n.1)

pub returns : goal.returns
returns c =
    let b = c.args.b.now in
    gone_is b (hand_given c.args.w) c.find_word.result c.is_none.result c.find_word.ensures c.is_none.ensures
    ∙ ap (stale (view b)) (sym (hand_given_lem c.args.w))
