-- Sound words are fit for a call's work: each fact is one of the sound bench's own, or a bound that follows. Assumes nothing.
use Prim.Native.Nat.{ℕ, ◌≤◌, ◌^◌}
use mathlib.Core.Path.{subst}
use mathlib.Core.List.{List}
use lib.ListN.{get_or}
use Rattle.bench_words.specs.Store.{node_at, interface_at}
use Rattle.ledger_spec.specs.Bench.{Bench}
use Rattle.ledger_spec.specs.Facts.{Sound}
use Rattle.ledger_spec.proofs.Says.{says}
use Rattle.ledger_spec.proofs.Bounds.{speed_bound, value_bound, sum_bound}
use Rattle.ledger_spec.proofs.Sizes.{Adds, small_size}
use Rattle.bench_views.specs.View.{view}
use Rattle.bench_views.specs.Fit.{SoundWords, Fit}
use Rattle.bench_views.proofs.Views.{view_next}

pub sizes_add : (b : Bench) → Sound b → Adds b
sizes_add b S = record {
  eight = S.frame.eight;
  few = S.few;
  single = λ u s n v e f. (S.rings u s n e).single v f;
  added = λ u s n ms e f. ((S.rings u s n e).circle ms f).size;
}

pub facts : (b : List ℕ) → SoundWords b → Sound (view b)
facts b W = says (view b) W.sound

pub fit_of : (b : List ℕ) → SoundWords b → Fit b
fit_of b W = record {
  canon = W.canon;
  facts = S;
  frame = S.frame;
  sewn = S.sewn;
  within = value_bound (view b) S;
  begun = subst (λ (n : ℕ). 1 ≤ n) (view_next (get_or b 0 0) (interface_at b) (node_at b)) S.sewn.begun;
  next = subst (λ (n : ℕ). n ≤ 2 ^ 32) (view_next (get_or b 0 0) (interface_at b) (node_at b)) S.worn;
  speed = speed_bound (view b) S;
  sum = sum_bound (view b) S;
  size = small_size (view b) S.sewn (sizes_add (view b) S);
  circle = λ u s n ms e f. let c = (S.rings u s n e).circle ms f in (c.least, c.most);
}
  where
    S : Sound (view b)
    S = facts b W
