-- T depends on the interface alone. Assumes nothing.
use Prim.Native.Nat.{ℕ}
use mathlib.Core.Path.{ap, sym, ◌∙◌}
use Rattle.bench_words.specs.Store.{interface_at}
use Rattle.bench_views.specs.View.{sum_up}
use Rattle.check_totals.proofs.progress.Goals as goal

pub returns-then-u-last : goal.returns-then-u-last
returns-then-u-last c =
    c.requires.t_value ∙ sym (ap (λ (u : ℕ). sum_up 8 (interface_at c.args.b.now) u) c.if-u-last.true)

pub returns : goal.returns
returns c = c.climb-c.ensures.total
