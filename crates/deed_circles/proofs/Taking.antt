-- The loop that takes members in, turn by turn, and the bench that it shows: each turn stores one node, and the speed and the size are kept aside.
-- Members had no parent, so none is in a circle of the bench as it was, and every circle stays. Assumes nothing.
use Rattle.std.specs.Prelude.{Some}
use Prim.Native.Nat.{ℕ, zero, suc, ◌+◌, ◌-◌, ◌*◌, ◌/◌, ◌%◌, ◌<◌, ◌≤◌}
use mathlib.Core.Path.{◌≡◌, refl, ap, ap₂, sym, ◌∙◌, subst}
use mathlib.Core.Logic.{◌≢◌, by_cases}
use mathlib.Core.List.{List, ◌∷◌}
use native.Mathlib.Decide.{ℕ_discrete}
use native.Mathlib.Omega.{arith}
use lib.ListN.{length, get_or, drop, drop_of_length-le}
use lib.Seq.{drop-cons}
use Rattle.kinds.specs.declared.GrowState.TheVariants.{Stay}
use Rattle.kinds.specs.declared.Class.TheVariants.{Blossom}
use Rattle.kinds.specs.declared.Handle.{Handle as Packed}
use Rattle.bench_words.specs.Store.{node_at, interface_at, store_node, map_at}
use Rattle.bench_words.proofs.Laws.{Good, GoodHandle, good_node, good_handle, good_interface, load_same, load_other, store_node_interface}
use Rattle.bench_words.proofs.Maps.{store_node_map}
use Rattle.bench_words.specs.declared.Node.{Node}
use Rattle.bench_words.specs.declared.Interface.{Interface}
use Rattle.ledger_spec.specs.Bench.{Handle, stays}
use Rattle.ledger_spec.specs.Look as look
use Rattle.ledger_spec.specs.Look.{free_slot}
use Rattle.ledger_spec.specs.Change.{mark_all}
use Rattle.ledger_spec.specs.Deeds.{sizes, size_of}
use Rattle.ledger_spec.specs.Named.{handle_named, parent_named}
use Rattle.ledger_spec.proofs.Knit.{none_some}
use Rattle.bench_views.specs.Records.{Steady, Ranged, rate_of}
use Rattle.bench_views.specs.View.{view, view_in, lag_of, sum_up, circle_of}
use Rattle.bench_views.specs.Canon.{Coded}
use Rattle.bench_views.specs.Fit.{Fit}
use Rattle.bench_views.proofs.Sums.{sum_up_le, sum_up_same}
use Rattle.bench_views.proofs.Circles.{same_eq, circle_same}
use Rattle.bench_views.proofs.Rings.{Ringed, ringed}
use Rattle.bench_views.proofs.Codes.{coded_node}
use Rattle.deed_raises.proofs.Kept.{node_steady}
use Rattle.deed_nodes.specs.Steps.{remarked}
use Rattle.deed_nodes.proofs.Puts.{value_low, rate_small}
use Rattle.deed_nodes.proofs.Needs.{open_paced}
use Rattle.deed_nodes.proofs.Stores.{node_next}
use Rattle.bench_views.specs.Given.{hand_given}
use Rattle.deed_circles.specs.Given.{hands_given, spot_at}
use Rattle.deed_circles.specs.Members.{seat_of, taken_node}
use Rattle.deed_circles.proofs.Givens.{Ringable, given_fine}
use Rattle.deed_circles.proofs.Rounds.{pacing, pacing_self, turned, turn_here, turn_else, turn_off, turn_head, turn_coming, turns_view}

-- ---- after i members: the nodes, the speed, the size
abbrev pub taking : List ℕ → List ℕ → List ℕ → Packed → ℕ → ℕ → Node
taking b ms ts q = turned (spot_at ms) (λ i. sum_up 8 (interface_at b) (spot_at ms i / 64)) Stay (seat_of ms ts q) (node_at b)

unfoldable pub speed_to : List ℕ → ℕ → List ℕ → List ℕ → Packed → ℕ → ℕ
speed_to b u ms ts q zero = (interface_at b u).speed
speed_to b u ms ts q (suc i) = speed_to b u ms ts q i + 1 - rate_of (taking b ms ts q i (spot_at ms i)).state

unfoldable pub size_to : List ℕ → List ℕ → List ℕ → Packed → ℕ → ℕ
size_to b ms ts q zero = 0
size_to b ms ts q (suc i) = size_to b ms ts q i + (taking b ms ts q i (spot_at ms i)).size

-- words that hold them
pub record Taking (b : List ℕ) (u : ℕ) (ms ts : List ℕ) (q : Packed) (b₁ : List ℕ) (size speed i : ℕ) : Type 0 where
  pub within : i ≤ length ms
  pub steady : Steady b₁
  pub coded : Coded b₁
  pub next : get_or b₁ 0 0 ≡ get_or b 0 0
  pub interfaces : (v : ℕ) → v < 8 → interface_at b₁ v ≡ interface_at b v
  pub maps : (v : ℕ) → v < 8 → map_at b₁ v ≡ map_at b v
  pub nodes : (k : ℕ) → node_at b₁ k ≡ taking b ms ts q i k
  pub paced : speed ≡ speed_to b u ms ts q i
  pub sized : size ≡ size_to b ms ts q i

pub taking_begins : (b : List ℕ) (u : ℕ) (ms ts : List ℕ) (q : Packed) (U : Interface) → Fit b → U ≡ interface_at b u → Taking b u ms ts q b 0 U.speed 0
unfolding speed_to size_to turned
taking_begins b u ms ts q U F e =
    record {
      within = omega arith;
      steady = F.canon.steady;
      coded = F.canon.coded;
      next = refl;
      interfaces = λ v l. refl;
      maps = λ v l. refl;
      nodes = λ k. refl;
      paced = ap (λ (x : Interface). x.speed) e;
      sized = refl;
    }

module _ (b : List ℕ) (u : ℕ) (ms ts : List ℕ) (F : Fit b) (R : Ringable b u ms ts) where
  -- the new blossom's handle
  abbrev pub q₀ : Packed
  q₀ = record { unit = u; slot = free_slot (view b) u; serial = record { 0 = get_or b 0 0 } }

  abbrev T₀ : ℕ → ℕ
  T₀ i = sum_up 8 (interface_at b) (spot_at ms i / 64)

  abbrev to : ℕ → ℕ → Node
  to = taking b ms ts q₀

  good_q : GoodHandle q₀
  good_q = (R.root.low, R.slot.room, R.next)

  home : (i : ℕ) → i < length ms → spot_at ms i / 64 ≡ get_or ms i 0 % 8
  home i l = omega arith

  place : (i : ℕ) → i < length ms → spot_at ms i % 64 ≡ get_or ms i 0 / 8 % 64
  place i l = omega arith

  coming : (i : ℕ) → i < length ms → to i (spot_at ms i) ≡ node_at b (spot_at ms i)
  coming i l = turn_coming (spot_at ms) T₀ Stay (seat_of ms ts q₀) (node_at b) (length ms) R.apart i i (omega arith) l

  -- the speed moves by at most one a member
  speed_range : (i : ℕ) → i ≤ length ms → ((interface_at b u).speed ≤ speed_to b u ms ts q₀ i + i) × (speed_to b u ms ts q₀ i ≤ (interface_at b u).speed + i)
  unfolding speed_to
  speed_range zero l = (omega arith, omega arith)
  speed_range (suc i) l =
      let h = speed_range i (omega arith) in
      let low = (open_paced b F u R.root).slow in
      let m = R.many in
      let s = rate_small (to i (spot_at ms i)).state in
      (omega arith, omega arith)

  size_range : (i : ℕ) → i ≤ length ms → size_to b ms ts q₀ i ≤ i * 512
  unfolding size_to
  size_range zero l = omega arith
  size_range (suc i) l = omega (arith, size_range i (omega arith), ap (λ (n : Node). n.size) (coming i (omega arith)), (R.stands i (omega arith)).size)

  pub taking_range : (b₁ : List ℕ) (size speed i : ℕ) → Taking b u ms ts q₀ b₁ size speed i → (448 ≤ speed) × (speed ≤ 1600) × (size ≤ 32768)
  taking_range b₁ size speed i G =
      let h = speed_range i G.within in
      let z = size_range i G.within in
      let P = open_paced b F u R.root in
      let low = P.slow in
      let high = P.fast in
      let m = R.many in
      let e = G.paced in
      let d = G.sized in
      let w = G.within in
      (omega arith, omega arith, omega arith)

  speed_step : (i : ℕ) → i < length ms → speed_to b u ms ts q₀ (suc i) + rate_of (node_at b (spot_at ms i)).state ≡ speed_to b u ms ts q₀ i + 1
  unfolding speed_to
  speed_step i l =
      let h = speed_range i (omega arith) in
      let low = (open_paced b F u R.root).slow in
      let m = R.many in
      let s = rate_small (node_at b (spot_at ms i)).state in
      rw (coming i l) (omega arith)

  -- ---- one turn
  module _ (b₁ : List ℕ) (size speed i : ℕ) (G : Taking b u ms ts q₀ b₁ size speed i) (l : i < length ms) where
    node_now : node_at b₁ (spot_at ms i) ≡ node_at b (spot_at ms i)
    node_now = G.nodes (spot_at ms i) ∙ coming i l

    pub turn_ranged : Ranged (node_at b₁ (spot_at ms i))
    turn_ranged = subst Ranged (sym node_now) (R.stands i l).ranged

    pub turn_size : (node_at b₁ (spot_at ms i)).size ≤ 512
    turn_size = omega (arith, ap (λ (n : Node). n.size) node_now, (R.stands i l).size)

    pub turn_turns : (b₂ : List ℕ) (z r : ℕ) → b₂ ≡ store_node b₁ (spot_at ms i) (taken_node (interface_at b₁) (node_at b₁) (spot_at ms i) (seat_of ms ts q₀ i))
        → z ≡ (node_at b₁ (spot_at ms i)).size → r ≡ rate_of (node_at b₁ (spot_at ms i)).state → Taking b u ms ts q₀ b₂ (size + z) (speed + 1 - r) (suc i)
    unfolding speed_to size_to
    turn_turns b₂ z r e ez er =
        let k = spot_at ms i in
        let x = taken_node (interface_at b₁) (node_at b₁) k (seat_of ms ts q₀ i) in
        let lk : k < 512 = omega arith in
        let old = good_node b₁ k in
        let good : Good x = record { serial = old.serial; class = old.class; parent = good_q; left = good_handle _; right = good_handle _ } in
        let len = G.steady.len in
        let sum : sum_up 8 (interface_at b₁) (k / 64) ≡ T₀ i =
        sum_up_same (interface_at b) (interface_at b₁) (λ v lv. good_interface b v) (λ v lv. ap (λ (f : Interface). f.parent) (G.interfaces v lv)) (λ v lv. ap (λ (f : Interface). lag_of f) (G.interfaces v lv)) 8 (k / 64) (omega arith) in
        rw e
        (record {
          within = l;
          steady = node_steady b₁ k x lk G.steady;
          coded = coded_node b₁ k x len lk good G.coded;
          next = node_next b₁ k x lk good len ∙ G.next;
          interfaces = λ v lv. store_node_interface b₁ k x len lk v lv ∙ G.interfaces v lv;
          maps = λ v lv. store_node_map b₁ k x len lk v lv ∙ G.maps v lv;
          nodes = λ j. by_cases (ℕ_discrete j k)
              (λ (q : j ≡ k).
              ap (node_at (store_node b₁ k x)) q ∙ load_same b₁ k x len lk good ∙ ap₂ (λ (n : Node) (t : ℕ). remarked n t Stay (seat_of ms ts q₀ i)) (G.nodes k) sum
              ∙ sym (turn_here (spot_at ms) T₀ Stay (seat_of ms ts q₀) (node_at b) i j q))
              (λ (ne : j ≡ k → ⊥). load_other b₁ k x len lk j ne ∙ G.nodes j ∙ sym (turn_else (spot_at ms) T₀ Stay (seat_of ms ts q₀) (node_at b) i j ne));
          paced = ap₂ (λ (s w : ℕ). s + 1 - w) G.paced (er ∙ ap (λ (n : Node). rate_of n.state) (G.nodes k));
          sized = ap₂ (λ (s w : ℕ). s + w) G.sized (ez ∙ ap (λ (n : Node). n.size) (G.nodes k));
        })

  -- ---- the circles stay, since members had no parent
  pub loose : (v r p j : ℕ) → j < length ms → Ringed b F.sewn v r p → p ≢ spot_at ms j
  loose v r p j l g e = none_some (ap (λ (x : ℕ). parent_named (node_at b x).parent) e ∙ ap parent_named (R.free j l)) g.parent

  pub circles : (i v r : ℕ) → i ≤ length ms → v < 8 → r < (interface_at b v).used → (to i (v * 64 + r)).class ≡ Blossom → circle_of (to i) (v * 64 + r) ≡ circle_of (node_at b) (v * 64 + r)
  circles i v r l lv lr e =
      let h = turn_head (spot_at ms) T₀ Stay (seat_of ms ts q₀) (node_at b) i (v * 64 + r) in
      circle_same (node_at b) (to i) (v * 64 + r) h.count h.first
      (λ p x. same_eq (turn_off (spot_at ms) T₀ Stay (seat_of ms ts q₀) (node_at b) i p (λ j lj. loose v r p j (omega arith) (ringed b F.sewn v r lv lr (sym h.class ∙ e) p x))))

  -- ---- all members marked
  hand_is : (i : ℕ) → i < length ms → hand_given (get_or ms i 0) ≡ record { unit = spot_at ms i / 64; slot = spot_at ms i % 64; serial = get_or ms i 0 / 8 / 64 % 4294967296 }
  hand_is i l = given_fine (get_or ms i 0) (R.sure i l) ∙ (λ j. record { unit = sym (home i l) j; slot = sym (place i l) j; serial = get_or ms i 0 / 8 / 64 % 4294967296 })

  speed_start : pacing (interface_at b) u (speed_to b u ms ts q₀ 0) ≡ pacing (interface_at b) u (interface_at b u).speed
  unfolding speed_to
  speed_start = refl

  pub taken_view : view_in (get_or b 0 0) (pacing (interface_at b) u (speed_to b u ms ts q₀ (length ms))) (to (length ms)) ≡ mark_all (view b) (hands_given ms) stays (Some (handle_named q₀))
  taken_view =
      let st = F.canon.steady in
      turns_view (spot_at ms) T₀ Stay (seat_of ms ts q₀) (node_at b) (length ms) R.apart (get_or b 0 0) (interface_at b) u (speed_to b u ms ts q₀)
      (λ v lv. good_interface b v) st.slots R.root.low
      (λ i l. rw (home i l) (R.stands i l).unit) (λ i l. rw (home i l, place i l) (R.stands i l).slot) (λ i l. rw (home i l) (R.under i l))
      (λ i l. refl) (λ i l. (R.stands i l).shows.present)
      (λ i l. value_low (node_at b (spot_at ms i)).state (node_at b (spot_at ms i)).bias (T₀ i) (R.stands i l).ranged.least (omega (arith, sum_up_le b st 8 (spot_at ms i / 64) (rw (home i l) (R.stands i l).unit))))
      speed_step circles (Some (handle_named q₀)) (λ i l. refl) (λ i. get_or ms i 0 / 8 / 64 % 4294967296) (λ i. hands_given (drop i ms))
      (λ i l. ap hands_given (drop-cons ms i 0 l) ∙ ap (λ (h : Handle). h ∷ hands_given (drop (suc i) ms)) (hand_is i l))
      (ap hands_given (drop_of_length-le ms {i = length ms} (omega arith)))
      ∙ ap (λ (W : ℕ → Interface). mark_all (view_in (get_or b 0 0) W (node_at b)) (hands_given ms) stays (Some (handle_named q₀))) (speed_start ∙ pacing_self (interface_at b) u)

  -- ---- and their sizes
  size_step : (i : ℕ) → i < length ms → sizes (view b) (hands_given (drop i ms)) ≡ (node_at b (spot_at ms i)).size + sizes (view b) (hands_given (drop (suc i) ms))
  unfolding sizes
  size_step i l =
      let s = R.stands i l in
      ap (λ (x : List ℕ). sizes (view b) (hands_given x)) (drop-cons ms i 0 l)
      ∙ ap (λ (x : ℕ). x + sizes (view b) (hands_given (drop (suc i) ms)))
      (ap (λ (h : Handle). size_of (look.node_named (view b) h)) (given_fine (get_or ms i 0) (R.sure i l)) ∙ ap size_of s.named ∙ s.shows.size)

  size_rest : (i : ℕ) → i ≤ length ms → size_to b ms ts q₀ i + sizes (view b) (hands_given (drop i ms)) ≡ sizes (view b) (hands_given ms)
  unfolding size_to
  size_rest zero l = omega arith
  size_rest (suc i) l = omega (arith, size_rest i (omega arith), size_step i l, ap (λ (n : Node). n.size) (coming i l))

  none_left : sizes (view b) (hands_given (drop (length ms) ms)) ≡ 0
  unfolding sizes
  none_left = ap (λ (x : List ℕ). sizes (view b) (hands_given x)) (drop_of_length-le ms {i = length ms} (omega arith))

  pub taken_size : size_to b ms ts q₀ (length ms) ≡ sizes (view b) (hands_given ms)
  taken_size = omega (arith, size_rest (length ms) (omega arith), none_left)
