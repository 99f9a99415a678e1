-- What the calls of a function's body come to, over plain variables: each follows by putting the callees' results in. Assumes nothing.
use Rattle.std.specs.Prelude.{None}
use Prim.Native.Nat.{ℕ, suc, max, ◌+◌, ◌-◌, ◌*◌, ◌<◌, ◌≤◌}
use mathlib.Core.Path.{◌≡◌, refl}
use mathlib.Core.Bool.{true}
use mathlib.Core.List.{List}
use native.Mathlib.Numerals.{add-one}
use native.Mathlib.Omega.{arith}
use lib.ListN.{get_or, set}
use Rattle.kinds.specs.declared.GrowState.{GrowState}
use Rattle.kinds.specs.declared.Handle.{Handle as Packed}
use Rattle.kinds.specs.declared.Vertex.{Vertex}
use Rattle.slot_map.specs.Slots.{put}
use Rattle.bench_words.specs.Store.{node_at, interface_at, store_node, store_interface, map_at, store_map, set_speed}
use Rattle.bench_words.specs.declared.Node.{Node}
use Rattle.bench_words.specs.declared.Interface.{Interface}
use Rattle.ledger_spec.specs.Look.{free_slot}
use Rattle.ledger_spec.specs.Change.{mark}
use Rattle.ledger_spec.specs.Deeds.{new_handle, add_defect}
use Rattle.ledger_spec.specs.Named.{state_named, handle_named}
use Rattle.ledger_spec.specs.Tests.{first}
use Rattle.ledger_spec.specs.Refuse.{defect_tests, state_tests}
use Rattle.bench_views.specs.Records.{with_used, rate_of, Steady, Ranged}
use Rattle.bench_views.specs.View.{lag_of, sum_up, view}
use Rattle.bench_views.specs.Canon.{Canon}
use Rattle.bench_views.specs.Fit.{Fit, Done}
use Rattle.bench_views.proofs.Sums.{lag_le}
use Rattle.bench_trees.specs.Climb.{Climbs}
use Rattle.deed_nodes.specs.Steps.{no_seat, remarked, defect_node, paced, pushed}
use Rattle.deed_nodes.specs.declared.Seat.{Seat}
use Rattle.deed_nodes.proofs.Puts.{rate_small}
use Rattle.deed_nodes.proofs.Needs.{open_paced, settable, pushable}
use Rattle.deed_nodes.proofs.Setting.{set_done}
use Rattle.deed_nodes.proofs.Adding.{new_handle_lem, defect_added}

pub pace_by : (b : List ℕ) (u s : ℕ) (U : Interface) {b' : List ℕ} → U ≡ interface_at b u → b' ≡ store_interface b u (set_speed U s) → b' ≡ paced b u s
unfolding paced
pace_by b u s U e e' = simp (e', e)

pub push_by : (b : List ℕ) (u k : ℕ) (n : Node) (s : ℕ) (U : Interface) {x m w y : ℕ} {b₁ b₂ b₃ b₄ : List ℕ} → U ≡ interface_at b u → x ≡ get_or b 0 0 → m ≡ map_at b u → y ≡ max U.used (suc k) → b₁ ≡ store_node b (u * 64 + k) n
    → b₂ ≡ store_interface b₁ u (with_used U y s) → w ≡ put m k true → b₃ ≡ store_map b₂ u w → b₄ ≡ set b₃ 0 (x + 1) → b₄ ≡ pushed b u k n s
unfolding pushed
push_by b u k n s U eU ex em ey e₁ e₂ ew e₃ e₄ = simp (e₄, e₃, e₂, e₁, ew, em, ex, ey, eU, add-one)

pub ranged_of : {n m : Node} → n ≡ m → Ranged m → Ranged n
ranged_of e r = rw e r

-- ---- set state
module _ (b : List ℕ) (u : ℕ) (h : Packed) (g : GrowState) (F : Fit b) (t : first (state_tests (view b) u (handle_named h)) ≡ 0) where
  pub record Reach : Type 0 where
    pub top : u < 8
    pub home : h.unit < 8
    pub slot : h.slot < 64
    pub steady : Steady b
    pub ranged : Ranged (node_at b (h.unit * 64 + h.slot))
    pub slow : 512 ≤ (interface_at b u).speed
    pub fast : (interface_at b u).speed ≤ 1536

  pub set_reach : Reach
  set_reach =
      let S = settable b u (handle_named h) F t in
      let P = open_paced b F u S.root in
      let ls = S.stands.slot in
      record {
        top = S.root.low;
        home = S.stands.unit;
        slot = omega (arith, F.canon.steady.slots h.unit S.stands.unit);
        steady = F.canon.steady;
        ranged = S.stands.ranged;
        slow = P.slow;
        fast = P.fast;
      }

  pub set_by : (n : Node) (U : Interface) (m : Node) {w top gain loss : ℕ} {seat : Seat} {b₁ b₂ : List ℕ} → Climbs b h.unit top w → n ≡ node_at b (h.unit * 64 + h.slot) → U ≡ interface_at b u → seat ≡ no_seat
      → m ≡ remarked n w g seat → b₁ ≡ store_node b (h.unit * 64 + h.slot) m → gain ≡ rate_of g → loss ≡ rate_of n.state → b₂ ≡ paced b₁ u (U.speed + gain - loss)
      → Done b₂ (mark (view b) (handle_named h) (state_named g) None)
  set_by n U m {b₂ = b₂} ec en eU es em e₁ eg el e₂ =
      let N = node_at b (h.unit * 64 + h.slot) in
      let sp = (interface_at b u).speed + rate_of g - rate_of N.state in
      let R = set_reach in
      let slow = R.slow in
      let q : b₂ ≡ paced (store_node b (h.unit * 64 + h.slot) (remarked N (sum_up 8 (interface_at b) h.unit) g no_seat)) u sp = simp (e₂, e₁, em, es, eg, el, en, eU, ec.total) in
      rw q (set_done b u (handle_named h) g sp F (settable b u (handle_named h) F t) (omega (arith, rate_small N.state)))

-- ---- add defect
module _ (b : List ℕ) (u : ℕ) (v : Vertex) (F : Fit b) (t : first (defect_tests (view b) u) ≡ 0) where
  pub record Space : Type 0 where
    pub top : u < 8
    pub canon : Canon b
    pub room : free_slot (view b) u < 64
    pub next : get_or b 0 0 < 4294967296
    pub short : lag_of (interface_at b u) ≤ 1099511627776
    pub fast : (interface_at b u).speed ≤ 1536

  pub defect_space : Space
  defect_space =
      let P = pushable b u F t in
      record { top = P.root.low; canon = F.canon; room = P.slot.room; next = P.next; short = omega (arith, F.canon.steady.progress u P.root.low, lag_le (interface_at b u)); fast = (open_paced b F u P.root).fast }

  pub defect_by : (U : Interface) {k x w : ℕ} {n : Node} {b' : List ℕ} → v.0 < 4294967296 → U ≡ interface_at b u → k ≡ free_slot (view b) u → x ≡ get_or b 0 0 → w ≡ lag_of U → n ≡ defect_node x v w → b' ≡ pushed b u k n (U.speed + 1)
      → Done b' (add_defect (view b) u v.0) × (handle_named (record { unit = u; slot = k; serial = record { 0 = x } }) ≡ new_handle (view b) u)
  defect_by U {k} {x} {b' = b'} fits eU ek ex ew en e' =
      let P = pushable b u F t in
      let q : b' ≡ pushed b u (free_slot (view b) u) (defect_node (get_or b 0 0) v (lag_of (interface_at b u))) ((interface_at b u).speed + 1) = simp (e', en, ek, ex, ew, eU) in
      (rw q (defect_added b u v F P fits), new_handle_lem b u (record { unit = u; slot = k; serial = record { 0 = x } }) refl ek ex)
