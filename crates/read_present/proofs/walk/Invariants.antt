-- At each turn the next node of the whole is that of the slots that are left; the first met ends it. Assumes nothing.
use Prim.Native.Nat.{ℕ, ◌-◌}
use mathlib.Core.Path.{◌≡◌, refl, ap, sym, ◌∙◌}
use native.Mathlib.Omega.{arith}
use lib.ListN.{get_or}
use borrow.Author.Rules.{rules}
use Rattle.slot_map.specs.Slots.{first_from}
use Rattle.bench_words.specs.Store.{node_at}
use Rattle.bench_views.specs.Canon.{held_in}
use Rattle.bench_orders.proofs.Counting.{unit_low, used_small}
use Rattle.read_present.proofs.Walking.{Going, go_on, go_met, go_ends}
use Rattle.read_present.proofs.walk.Given as goal

abbrev pub invariant-loop-u : goal.invariant-loop-u
invariant-loop-u l = Going l.b l.unit l.index l.u-index l.passed
