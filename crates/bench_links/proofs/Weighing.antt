-- Numbers held higher than they are, read out: a sound bench's sums, speeds and values are small, so what stands for them fits an `i64`. Assumes nothing.
use Rattle.std.specs.Prelude.{None}
use Prim.Native.Nat.{ℕ, zero, suc, ◌+◌, ◌-◌, ◌<◌, ◌≤◌, ◌^◌}
use mathlib.Core.Path.{◌≡◌, ap, sym, ◌∙◌}
use mathlib.Core.Bool.{Bool, true, false, cond}
use mathlib.Core.List.{List}
use native.Mathlib.Omega.{arith}
use lib.Dec.{ltb}
use lib.ListN.{get_or}
use lib.IntN.{pos, negsuc, ◌-ℤ◌}
use mir.Syntax.{w64}
use mir.Val.{SFits}
use Rattle.bench_words.specs.Store.{node_at, interface_at}
use Rattle.bench_words.specs.declared.Node.{Node}
use Rattle.bench_words.specs.declared.Interface.{Interface}
use Rattle.kinds.specs.declared.GrowState.{GrowState}
use Rattle.kinds.specs.declared.GrowState.TheVariants.{Grow, Stay, Shrink}
use Rattle.ledger_spec.specs.Bench.{Handle}
use Rattle.ledger_spec.specs.Bench as plain
use Rattle.ledger_spec.specs.Look.{interface, node_named}
use Rattle.ledger_spec.specs.Change.{worth}
use Rattle.bench_views.specs.View.{off, view, value_by, sum_up}
use Rattle.bench_views.specs.Records.{Ranged}
use Rattle.bench_views.specs.Fit.{Fit}
use Rattle.bench_views.proofs.Views.{interface_in_lem}
use Rattle.bench_views.proofs.Ranges.{off_range, ranged}
use Rattle.bench_links.specs.Find.{spot, Stands}
use Rattle.bench_links.proofs.Rising.{seen_node}

either : (q : Bool) (a b : ℕ) → a < 2 ^ 63 → b < 2 ^ 63 → SFits w64 (cond q (negsuc a) (pos b))
either true a b l h = record { sfits = l }
either false a b l h = record { sfits = h }

pub lowered_fits : (x c : ℕ) → x < 9223372036854775808 → c < 9223372036854775808 → SFits w64 (pos x -ℤ pos c)
lowered_fits x zero l h = record { sfits = omega arith }
lowered_fits x (suc c) l h = either (ltb x (suc c)) (suc c - suc x) (x - suc c) (omega arith) (omega arith)

-- ---- interfaces without a parent
module _ (b : List ℕ) (F : Fit b) (u : ℕ) (lu : u < 8) (free : (interface (view b) u).parent ≡ None) (f : Interface) (e : f ≡ interface_at b u) where
  pub sum_seen : off 4611686018427387904 f.sum ≡ (interface (view b) u).sum
  sum_seen = ap (λ (x : Interface). off 4611686018427387904 x.sum) e ∙ sym (ap (λ (x : plain.Interface). x.sum) (interface_in_lem (get_or b 0 0) (interface_at b) (node_at b) u lu))

  pub speed_seen : off 1024 f.speed ≡ (interface (view b) u).speed
  speed_seen = ap (λ (x : Interface). off 1024 x.speed) e ∙ sym (ap (λ (x : plain.Interface). x.speed) (interface_in_lem (get_or b 0 0) (interface_at b) (node_at b) u lu))

  pub sum_small : f.sum < 9223372036854775808
  sum_small = let r = off_range 4611686018427387903 f.sum 4503599627370496 (rw sum_seen (F.sum u lu free)) in omega arith

  pub speed_small : f.speed < 9223372036854775808
  speed_small = let r = off_range 1023 f.speed 512 (rw speed_seen (F.speed u lu free)) in omega arith

-- ---- a node
value_most : (g : GrowState) (x t : ℕ) → value_by g x t ≤ x + t
value_most Grow x t = omega arith
value_most Stay x t = omega arith
value_most Shrink x t = omega arith

module _ (b : List ℕ) (h : Handle) (S : Stands b h) (n : Node) (e : n ≡ node_at b (spot h)) (t : ℕ) where
  module _ (F : Fit b) (small : t ≤ 8796093022208) where
    bias_near : Ranged n
    bias_near = rw e (ranged b F.canon.steady F.within h.unit h.slot S.unit S.slot S.present)

    pub bias_room : (t ≤ n.bias) × (n.bias + t < 18446744073709551616)
    bias_room = let r = bias_near in (omega arith, omega arith)

    pub value_small : value_by n.state n.bias t < 9223372036854775808
    value_small = let r = bias_near in omega (arith, value_most n.state n.bias t)

  pub value_seen : t ≡ sum_up 8 (interface_at b) h.unit → off 1152921504606846976 (value_by n.state n.bias t) ≡ worth (node_named (view b) h)
  value_seen q = rw (e, q) (sym (ap worth (seen_node b h S).1))
