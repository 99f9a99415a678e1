-- Set state: one node without a parent gets another state and keeps its value; its links stay as they were, so every circle does. Assumes nothing.
use Rattle.std.specs.Prelude.{None}
use Prim.Native.Nat.{ℕ, ◌+◌, ◌*◌, ◌<◌}
use mathlib.Core.Path.{◌≡◌, refl, ap, sym, ◌∙◌}
use mathlib.Core.Logic.{◌≢◌, by_cases}
use mathlib.Core.List.{List}
use native.Mathlib.Decide.{ℕ_discrete}
use native.Mathlib.Omega.{arith}
use lib.ListN.{get_or}
use Rattle.kinds.specs.declared.GrowState.{GrowState}
use Rattle.bench_words.specs.Store.{node_at, interface_at, store_node, set_speed}
use Rattle.bench_words.proofs.Laws.{Good, good_node, good_interface}
use Rattle.bench_words.specs.declared.Node.{Node}
use Rattle.bench_words.specs.declared.Interface.{Interface}
use Rattle.ledger_spec.specs.Bench.{Handle}
use Rattle.ledger_spec.specs.Change.{mark}
use Rattle.ledger_spec.specs.Named.{state_named}
use Rattle.bench_views.specs.Records.{rate_of}
use Rattle.bench_views.specs.View.{view_in, view, sum_up, circle_of}
use Rattle.bench_views.specs.Fit.{Fit, Done}
use Rattle.bench_views.proofs.Sums.{sum_up_le}
use Rattle.bench_views.proofs.Circles.{Same, same_eq, circle_same}
use Rattle.deed_nodes.specs.Steps.{no_seat, remarked, paced}
use Rattle.deed_nodes.proofs.Puts.{value_low, mark_in}
use Rattle.deed_nodes.proofs.Needs.{Settable}
use Rattle.deed_nodes.proofs.Stores.{put_next, put_unit_here, put_unit_there, put_unit, put_node_here, put_node_there, put_map, put_steady, put_coded}
use Rattle.deed_nodes.proofs.Keeps.{Sim, sim_self, canon_like, halves_kept}

module _ (b : List ℕ) (u : ℕ) (h : Handle) (g : GrowState) (s : ℕ) (F : Fit b) (S : Settable b u h) where
  abbrev k₀ : ℕ
  k₀ = h.unit * 64 + h.slot

  abbrev n₀ : Node
  n₀ = node_at b k₀

  abbrev t₀ : ℕ
  t₀ = sum_up 8 (interface_at b) h.unit

  abbrev n₁ : Node
  n₁ = remarked n₀ t₀ g no_seat

  abbrev b₁ : List ℕ
  b₁ = paced (store_node b k₀ n₁) u s

  good₁ : Good n₁
  good₁ =
      let G = good_node b k₀ in
      record { serial = G.serial; class = G.class; parent = tt; left = (omega arith, omega arith, omega arith); right = (omega arith, omega arith, omega arith) }

  node_here : node_at b₁ k₀ ≡ n₁
  node_here = put_node_here b k₀ n₁ u s F.canon.steady S.stands.low S.root.low good₁

  node_there : (j : ℕ) → j ≢ k₀ → node_at b₁ j ≡ node_at b j
  node_there = put_node_there b k₀ n₁ u s F.canon.steady S.stands.low S.root.low good₁

  part : {X : Type 0} (φ : Interface → X) → ((x : Interface) (z : ℕ) → φ (set_speed x z) ≡ φ x) → (v : ℕ) → v < 8 → φ (interface_at b₁ v) ≡ φ (interface_at b v)
  part = put_unit b k₀ n₁ u s F.canon.steady S.stands.low S.root.low good₁

  -- a node without a parent has no links to lose
  sim : (j : ℕ) → Sim (node_at b₁ j) (node_at b j)
  sim j = by_cases (ℕ_discrete j k₀)
      (λ (e : j ≡ k₀).
      let a = F.canon.alone k₀ S.stands.low S.free in
      rw (e, node_here)
      (record { class = refl; parent = sym S.free; place = sym a.place; next = sym a.next; left = sym a.left; right = sym a.right; first = refl; count = refl }))
      (λ (ne : j ≡ k₀ → ⊥). sim_self (node_there j ne))

  same : (j : ℕ) → Same (node_at b₁ j) (node_at b j)
  same j = by_cases (ℕ_discrete j k₀)
      (λ (e : j ≡ k₀).
      let a = F.canon.alone k₀ S.stands.low S.free in
      rw (e, node_here) (record { serial = refl; next = sym a.next; left = sym a.left; right = sym a.right }))
      (λ (ne : j ≡ k₀ → ⊥). same_eq (node_there j ne))

  circles : (j : ℕ) → circle_of (node_at b₁) j ≡ circle_of (node_at b) j
  circles j = circle_same (node_at b) (node_at b₁) j (sim j).count (sim j).first (λ p i. same p)

  module _ (speed : s + rate_of n₀.state ≡ (interface_at b u).speed + rate_of g) where
    seen : view b₁ ≡ mark (view b) h (state_named g) None
    seen =
        let st = F.canon.steady in
        ap (λ (m : ℕ). view_in m (interface_at b₁) (node_at b₁)) (put_next b k₀ n₁ u s st S.stands.low S.root.low good₁)
        ∙ mark_in (get_or b 0 0) (interface_at b) (interface_at b₁) (node_at b) (node_at b₁) h.unit h.slot u s (λ v lv. good_interface b v) st.slots
        S.stands.unit S.stands.slot S.root.low S.under
        (put_unit_here b k₀ n₁ u s st S.stands.low S.root.low good₁) (put_unit_there b k₀ n₁ u s st S.stands.low S.root.low good₁)
        node_there (λ v r lv lr e. circles (v * 64 + r)) g no_seat h.serial node_here S.stands.shows.present
        (value_low n₀.state n₀.bias t₀ S.stands.ranged.least (omega (arith, sum_up_le b st 8 h.unit S.stands.unit))) speed

    pub set_done : Done b₁ (mark (view b) h (state_named g) None)
    set_done =
        let C = F.canon in
        let hv = halves_kept b b₁ C (part (λ x. x.left) (λ x z. refl)) (part (λ x. x.right) (λ x z. refl)) in
        record {
          canon = canon_like b b₁ C (put_steady b k₀ n₁ u s C.steady S.stands.low S.root.low good₁) (put_coded b k₀ n₁ u s C.steady S.stands.low S.root.low good₁ C.coded)
              (part (λ x. x.marks.plain) (λ x z. refl)) (part (λ x. x.used) (λ x z. refl)) hv.0 hv.1 (put_map b k₀ n₁ u s C.steady S.stands.low S.root.low good₁) sim
              (λ k e. node_there k (λ q. S.stands.shows.present (ap (λ (j : ℕ). (node_at b j).class) (sym q) ∙ e)));
          seen = seen;
        }
