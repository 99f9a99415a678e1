-- What a handle that names a blossom reaches on words that fit: its slot, its circle and the members in it. Assumes nothing.
use Rattle.std.specs.Prelude.{Option}
use Prim.Native.Nat.{ℕ, zero, suc, ◌+◌, ◌*◌, ◌<◌, ◌≤◌}
use mathlib.Core.Path.{◌≡◌, refl, ap, ◌∙◌}
use mathlib.Core.Bool.{not}
use mathlib.Core.List.{List}
use native.Mathlib.Omega.{arith}
use lib.ListN.{length, get_or}
use Rattle.kinds.specs.declared.Class.TheVariants.{Blossom}
use Rattle.bench_words.specs.Store.{node_at, interface_at}
use Rattle.bench_words.specs.declared.Node.{Node}
use Rattle.ledger_spec.specs.Bench.{Handle, Bench}
use Rattle.ledger_spec.specs.Bench as plain
use Rattle.ledger_spec.specs.Look as look
use Rattle.ledger_spec.specs.Tests.{first, is_some}
use Rattle.ledger_spec.specs.Refuse.{expand_tests}
use Rattle.ledger_spec.specs.Deeds.{members}
use Rattle.ledger_spec.specs.Knit.{nodes}
use Rattle.ledger_spec.proofs.Knit.{some_eq}
use Rattle.ledger_spec.proofs.Passed.{has_of}
use Rattle.ledger_spec.proofs.Accepted.{Named, expand_passed, members_of}
use Rattle.bench_views.specs.View.{view, sum_up, circle_of, follow}
use Rattle.bench_views.specs.Canon.{walk}
use Rattle.bench_views.specs.Fit.{Fit}
use Rattle.bench_views.proofs.Views.{view_slot}
use Rattle.bench_views.proofs.Rings.{ringed, slot_blossom}
use Rattle.deed_nodes.proofs.Needs.{Stands, stands, stands_blossom}
use Rattle.deed_nodes.proofs.Keeps.{walk_in}
use Rattle.outcome_notices.specs.Lists.{Ring}

-- what an accepted expand names
pub ring_of : (b : Bench) (u : ℕ) (h : Handle) → first (expand_tests b u h) ≡ 0 → Ring b h
ring_of b u h e = let P = expand_passed b u h e in record { node = P.named.node; ms = P.ms; named = P.named.is; ring = P.ring }

length_follow : (n : ℕ) (A : ℕ → Node) (k : ℕ) → length (follow n A k) ≡ n
unfolding follow
length_follow zero A k = refl
length_follow (suc n) A k = ap suc (length_follow n A (A k).next)

module _ (b : List ℕ) (h : Handle) (F : Fit b) (R : Ring (view b) h) where
  abbrev k : ℕ
  k = h.unit * 64 + h.slot

  named : Named (view b) (look.top (view b) h.unit) h
  named = let p = has_of (view b) h (ap (λ (o : Option plain.Node). not (is_some o)) R.named) in record { node = p.0; has = p.1; is = p.2; near = refl }

  stood : Stands b h
  stood = stands b F h named

  class : (node_at b k).class ≡ Blossom
  class = stands_blossom stood R.named R.ring

  pub low : k < 512
  low = stood.low

  pub few : (node_at b k).count ≤ 64
  few =
      let B = slot_blossom (node_at b k) (sum_up 8 (interface_at b) h.unit) (circle_of (node_at b) k) class in
      let c = F.circle h.unit h.slot B.node (circle_of (node_at b) k) (view_slot (get_or b 0 0) (interface_at b) (node_at b) h.unit h.slot stood.unit stood.slot ∙ B.shown) B.class in
      omega (arith, c.1, length_follow (node_at b k).count (node_at b) (node_at b k).first)

  pub members_low : (i : ℕ) → i < (node_at b k).count → walk i (node_at b) (node_at b k).first < 512
  members_low i l =
      let p = walk i (node_at b) (node_at b k).first in
      let g = ringed b F.sewn h.unit h.slot stood.unit stood.slot class p (walk_in (node_at b k).count i (node_at b) (node_at b k).first l) in
      omega (arith, g.unit)

  pub members_seen : members (look.node_named (view b) h) ≡ nodes (circle_of (node_at b) k)
  members_seen =
      let B = slot_blossom (node_at b k) (sum_up 8 (interface_at b) h.unit) (circle_of (node_at b) k) class in
      let n : stood.node ≡ B.node = some_eq stood.seen B.shown in
      members_of (view b) h stood.node stood.named (circle_of (node_at b) k) (ap (λ (x : plain.Node). x.class) n ∙ B.class)
