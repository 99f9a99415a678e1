-- What the calls of a function's body come to, over plain variables: each follows by putting the callees' results in. Assumes nothing.
use Prim.Native.Nat.{ℕ, suc, ◌+◌, ◌-◌, ◌*◌, ◌/◌, ◌<◌, ◌≤◌}
use mathlib.Core.Path.{◌≡◌, refl, ap, sym, ◌∙◌, subst}
use mathlib.Core.Bool.{false}
use mathlib.Core.List.{List}
use native.Mathlib.Numerals.{add-one}
use native.Mathlib.Omega.{arith}
use borrow.Author.Tests.{eq-eqb, ne_eqb, lt-ltb, le-ltb}
use lib.ListN.{length, get_or}
use Rattle.kinds.specs.declared.GrowState.TheVariants.{Grow as Growing, Stay}
use Rattle.kinds.specs.declared.Handle.{Handle as Packed}
use Rattle.bench_words.specs.Codec.{handle_of}
use Rattle.slot_map.specs.Slots.{put}
use Rattle.bench_words.specs.Store.{node_at, interface_at, store_node, map_at, store_map}
use Rattle.bench_words.proofs.Laws.{good_interface}
use Rattle.bench_words.specs.declared.Node.{Node}
use Rattle.bench_words.specs.declared.Interface.{Interface}
use Rattle.ledger_spec.specs.Look.{free_slot}
use Rattle.ledger_spec.specs.Tests.{first}
use Rattle.ledger_spec.specs.Refuse.{blossom_tests, expand_tests}
use Rattle.ledger_spec.specs.Deeds.{new_handle, add_blossom, remove_blossom}
use Rattle.ledger_spec.specs.Named.{handle_named}
use Rattle.ledger_spec.proofs.Passed.{Open}
use Rattle.bench_views.specs.Records.{Steady, Ranged, rate_of, no_node}
use Rattle.bench_views.specs.View.{lag_of, sum_up, view}
use Rattle.bench_views.specs.Fit.{Fit, Done}
use Rattle.deed_nodes.specs.Steps.{no_seat, remarked, paced, pushed}
use Rattle.deed_nodes.specs.declared.Seat.{Seat}
use Rattle.deed_nodes.proofs.Puts.{rate_small}
use Rattle.bench_views.proofs.Sums.{sum_up_le, sum_up_same}
use Rattle.deed_nodes.proofs.Needs.{open_paced, open_total}
use Rattle.deed_nodes.proofs.Adding.{new_handle_lem}
use Rattle.deed_circles.specs.Given.{hands_given, pairs_given, spot_of, spot_at, next_spot, touch_word}
use Rattle.deed_circles.specs.Members.{seat_of, taken_node, freed_node, blossom_node}
use Rattle.deed_circles.proofs.Givens.{Ringable, ringable}
use Rattle.deed_circles.proofs.Taking.{Taking, taking_begins, taking_range, q₀, speed_to, size_to, turn_ranged, turn_size, turn_turns}
use Rattle.deed_circles.proofs.Blossoming.{blossomed}
use Rattle.deed_circles.proofs.Freeing.{Expandable, expandable, Freeing, free_can, free_turns, few}
use Rattle.deed_circles.proofs.Gone.{s₁}
use Rattle.deed_circles.proofs.Expanding.{expanded}

-- ---- a member's seat
pub next_some : (ms : List ℕ) (i r : ℕ) → i + 1 < length ms → r ≡ spot_of (get_or ms (i + 1) 0) → r ≡ next_spot ms i
unfolding next_spot
next_some ms i r l e = rw (lt-ltb (i + 1) (length ms) l) e

pub next_none : (ms : List ℕ) (i : ℕ) → length ms ≤ i + 1 → 0 ≡ next_spot ms i
unfolding next_spot
next_none ms i l = rw (le-ltb (i + 1) (length ms) l)

pub touch_none : (ms ts : List ℕ) (i d : ℕ) (r : Packed) → length ts ≡ 0 → r ≡ handle_of (get_or ms i 0) → r ≡ handle_of (touch_word ms ts i d)
unfolding touch_word
touch_none ms ts i d r l e = rw (eq-eqb (length ts) 0 l) e

pub touch_some : (ms ts : List ℕ) (i d : ℕ) (r : Packed) → (length ts ≡ 0 → ⊥) → r ≡ handle_of (get_or ts (i * 2 + d) 0) → r ≡ handle_of (touch_word ms ts i d)
unfolding touch_word
touch_some ms ts i d r l e = rw (ne_eqb (length ts) 0 l) e

-- ---- T, worked out once for the interface that the call is on
pub total_here : (b : List ℕ) {home unit t : ℕ} → Steady b → home < 8 → t ≡ sum_up 8 (interface_at b) unit → home ≡ unit → (t ≡ sum_up 8 (interface_at b) home) × (t ≤ 8796093022208)
total_here b {home} st l e q =
    let x = e ∙ ap (sum_up 8 (interface_at b)) (sym q) in
    (x, omega (arith, x, sum_up_le b st 8 home l))

-- it stays while members are taken in or let out
total_stays : (b b₁ : List ℕ) {u t : ℕ} {f : Interface} → Fit b → Open (view b) u → ((v : ℕ) → v < 8 → interface_at b₁ v ≡ interface_at b v) → f ≡ interface_at b u → t ≡ lag_of f → t ≡ sum_up 8 (interface_at b₁) u
total_stays b b₁ {u} F o same ef et =
    et ∙ ap lag_of ef ∙ sym (open_total b F u o)
    ∙ sym (sum_up_same (interface_at b) (interface_at b₁) (λ v l. good_interface b v) (λ v l. ap (λ (f : Interface). f.parent) (same v l)) (λ v l. ap lag_of (same v l)) 8 u o.low)

-- ---- a member taken in
pub ranged_at : (b : List ℕ) (n : Node) {k j : ℕ} → n ≡ node_at b k → k ≡ j → Ranged (node_at b j) → Ranged n
ranged_at b n e q r = rw (e, q) r

pub take_by : (b : List ℕ) (w : ℕ) (s : Seat) (n m : Node) {k t rate : ℕ} {b' : List ℕ} → k ≡ spot_of w → t ≡ sum_up 8 (interface_at b) (k / 64) → n ≡ node_at b k → m ≡ remarked n t Stay s
    → b' ≡ store_node b k m → rate ≡ rate_of n.state → rate ≤ 2
    → (b' ≡ store_node b (spot_of w) (taken_node (interface_at b) (node_at b) (spot_of w) s)) × (n.size ≡ (node_at b (spot_of w)).size) × (rate ≡ rate_of (node_at b (spot_of w)).state) × (rate ≤ 2)
take_by b w s n m ek ec en em e' er le =
    let here = en ∙ ap (node_at b) ek in
    (simp (e', em, ec, en, ek), ap (λ (x : Node). x.size) here, er ∙ ap (λ (x : Node). rate_of x.state) here, le)

taking_at : {b : List ℕ} {u : ℕ} {ms ts : List ℕ} {q : Packed} {b₁ : List ℕ} {size speed i size' speed' i' : ℕ} → Taking b u ms ts q b₁ size speed i → size ≡ size' → speed ≡ speed' → i ≡ i'
    → Taking b u ms ts q b₁ size' speed' i'
taking_at G x y z = rw (← x, ← y, ← z) G

-- ---- the loop over the members
pub record Looping (b : List ℕ) (u : ℕ) (ms ts : List ℕ) (q : Packed) (b₁ : List ℕ) (size speed i : ℕ) : Type 0 where
  pub fit : Fit b
  pub ring : Ringable b u ms ts
  pub mine : q ≡ q₀ b u ms ts fit ring
  pub taking : Taking b u ms ts (q₀ b u ms ts fit ring) b₁ size speed i

pub loop_begins : (b : List ℕ) (u : ℕ) (ms ts : List ℕ) (f : Interface) {s x : ℕ} → Fit b → first (blossom_tests (view b) u (hands_given ms) (pairs_given ts)) ≡ 0 → f ≡ interface_at b u → s ≡ free_slot (view b) u → x ≡ get_or b 0 0
    → Looping b u ms ts (record { unit = u; slot = s; serial = record { 0 = x } }) b 0 f.speed 0
loop_begins b u ms ts f F t ef es ex =
    let R = ringable b u ms ts F t in
    record { fit = F; ring = R; mine = λ j. record { unit = u; slot = es j; serial = record { 0 = ex j } }; taking = taking_begins b u ms ts (q₀ b u ms ts F R) f F ef }

module _ {b : List ℕ} {u : ℕ} {ms ts : List ℕ} {q : Packed} {b₁ : List ℕ} {size speed i : ℕ} (L : Looping b u ms ts q b₁ size speed i) where
  pub loop_range : (448 ≤ speed) × (speed ≤ 1600) × (size ≤ 32768)
  loop_range = taking_range b u ms ts L.fit L.ring b₁ size speed i L.taking

  pub loop_steady : Steady b₁
  loop_steady = L.taking.steady

  pub loop_total : (f : Interface) {t : ℕ} → f ≡ interface_at b u → t ≡ lag_of f → t ≡ sum_up 8 (interface_at b₁) u
  loop_total f = total_stays b b₁ L.fit L.ring.root L.taking.interfaces

  pub loop_ranged : i < length ms → Ranged (node_at b₁ (spot_at ms i))
  loop_ranged l = turn_ranged b u ms ts L.fit L.ring b₁ size speed i L.taking l

  pub loop_size : (z : ℕ) → i < length ms → z ≡ (node_at b₁ (spot_at ms i)).size → z ≤ 512
  loop_size z l e = omega (arith, e, turn_size b u ms ts L.fit L.ring b₁ size speed i L.taking l)

  pub loop_turns : (b₂ : List ℕ) (z r : ℕ) {s : Seat} → i < length ms → s ≡ seat_of ms ts q i → b₂ ≡ store_node b₁ (spot_at ms i) (taken_node (interface_at b₁) (node_at b₁) (spot_at ms i) s)
      → z ≡ (node_at b₁ (spot_at ms i)).size → r ≡ rate_of (node_at b₁ (spot_at ms i)).state → Looping b u ms ts q b₂ (size + z) (speed + 1 - r) (i + 1)
  loop_turns b₂ z r l es e ez er =
      let Q = q₀ b u ms ts L.fit L.ring in
      rw (add-one i)
      (record {
        fit = L.fit;
        ring = L.ring;
        mine = L.mine;
        taking = turn_turns b u ms ts L.fit L.ring b₁ size speed i L.taking l b₂ z r
            (e ∙ ap (λ (s : Seat). store_node b₁ (spot_at ms i) (taken_node (interface_at b₁) (node_at b₁) (spot_at ms i) s)) (es ∙ ap (λ (x : Packed). seat_of ms ts x i) L.mine)) ez er;
      })

  pub loop_ready : (s : ℕ) → s ≡ free_slot (view b) u → (s < 64) × (get_or b₁ 0 0 < 4294967296)
  loop_ready s es = (rw es L.ring.slot.room, rw L.taking.next L.ring.next)

  pub loop_ends : (f : Interface) {s x k y : ℕ} {n : Node} {b' : List ℕ} → i ≡ length ms → f ≡ interface_at b u → s ≡ free_slot (view b) u → x ≡ get_or b 0 0 → k ≡ spot_of (get_or ms 0 0) → y ≡ lag_of f → n ≡ blossom_node x k (length ms) size y
      → b' ≡ pushed b₁ u s n (speed + 1) → Done b' (add_blossom (view b) u (hands_given ms) (pairs_given ts)) × (handle_named q ≡ new_handle (view b) u)
  loop_ends f {s} {x} {k} {b' = b'} all ef es ex ek ey en e' =
      let F = L.fit in
      let R = L.ring in
      let Q = q₀ b u ms ts F R in
      let G = L.taking in
      let z : size ≡ size_to b ms ts Q (length ms) = G.sized ∙ ap (size_to b ms ts Q) all in
      let p : speed ≡ speed_to b u ms ts Q (length ms) = G.paced ∙ ap (speed_to b u ms ts Q) all in
      let e : b' ≡ pushed b₁ u (free_slot (view b) u) (blossom_node (get_or b 0 0) (spot_at ms 0) (length ms) (size_to b ms ts Q (length ms)) (lag_of (interface_at b u))) (speed_to b u ms ts Q (length ms) + 1) = simp (e', en, ey, es, ex, ek, ef, z, p) in
      let G' : Taking b u ms ts Q b₁ (size_to b ms ts Q (length ms)) (speed_to b u ms ts Q (length ms)) (length ms) = taking_at G z p all in
      (rw e (blossomed b u ms ts F R b₁ G'), ap handle_named L.mine ∙ new_handle_lem b u Q refl refl refl)

-- ---- a member let out
pub release_by : (b : List ℕ) (at : ℕ) (n m : Node) {t : ℕ} {s : Seat} {b' : List ℕ} → t ≡ sum_up 8 (interface_at b) (at / 64) → n ≡ node_at b at → s ≡ no_seat → m ≡ remarked n t Growing s → b' ≡ store_node b at m
    → (b' ≡ store_node b at (freed_node (interface_at b) (node_at b) at)) × (n.next ≡ (node_at b at).next)
release_by b at n m ec en es em e' = (simp (e', em, es, ec, en), ap (λ (x : Node). x.next) en)

freeing_at : {b : List ℕ} {f : ℕ} {b₁ : List ℕ} {p i f' i' : ℕ} → Freeing b f b₁ p i → f ≡ f' → i ≡ i' → Freeing b f' b₁ p i'
freeing_at G x y = rw (← x, ← y) G

-- ---- the loop that lets them out
module _ (b : List ℕ) (t : ℕ) (h : Packed) (F : Fit b) (p : first (expand_tests (view b) t (handle_named h)) ≡ 0) where
  abbrev X₀ : Expandable b t (handle_named h)
  X₀ = expandable b t (handle_named h) F p

  pub record Reach : Type 0 where
    pub top : t < 8
    pub home : h.unit < 8
    pub slot : h.slot < 64
    pub slow : 512 ≤ (interface_at b t).speed
    pub fast : (interface_at b t).speed ≤ 1536
    pub few : (node_at b (h.unit * 64 + h.slot)).count ≤ 64

  pub expand_reach : Reach
  expand_reach =
      let P = open_paced b F t X₀.root in
      let ls = X₀.stands.slot in
      record {
        top = X₀.root.low;
        home = X₀.stands.unit;
        slot = omega (arith, F.canon.steady.slots h.unit X₀.stands.unit);
        slow = P.slow;
        fast = P.fast;
        few = few b t (handle_named h) F X₀;
      }

  module _ (n : Node) (en : n ≡ node_at b (h.unit * 64 + h.slot)) where
    pub expand_can : {b₁ : List ℕ} {at i x : ℕ} {f : Interface} → Freeing b n.first b₁ at i → i < n.count → f ≡ interface_at b t → x ≡ lag_of f
        → (at < 512) × Steady b₁ × Ranged (node_at b₁ at) × (x ≡ sum_up 8 (interface_at b₁) t)
    expand_can {b₁} {at} {i} G l ef ex =
        let r = free_can b t (handle_named h) F X₀ b₁ at i (subst (λ (x : ℕ). Freeing b x b₁ at i) (ap (λ (x : Node). x.first) en) G) (subst (λ (x : ℕ). i < x) (ap (λ (x : Node). x.count) en) l) in
        (r.0, r.1, r.2, total_stays b b₁ F X₀.root G.interfaces ef ex)

    pub expand_turns : {b₁ : List ℕ} {at i : ℕ} (b₂ : List ℕ) (p' : ℕ) → Freeing b n.first b₁ at i → i < n.count → b₂ ≡ store_node b₁ at (freed_node (interface_at b₁) (node_at b₁) at) → p' ≡ (node_at b₁ at).next
        → Freeing b n.first b₂ p' (i + 1)
    expand_turns {b₁} {at} {i} b₂ p' G l e ep =
        rw (add-one i)
        (subst (λ (x : ℕ). Freeing b x b₂ p' (suc i)) (sym (ap (λ (x : Node). x.first) en))
        (free_turns b t (handle_named h) F X₀ b₁ at i (subst (λ (x : ℕ). Freeing b x b₁ at i) (ap (λ (x : Node). x.first) en) G) (subst (λ (x : ℕ). i < x) (ap (λ (x : Node). x.count) en) l) b₂ p' e ep))

    pub expand_ends : (f : Interface) {b₁ b₂ b₃ b₄ : List ℕ} {at i loss : ℕ} {e : Node} → Freeing b n.first b₁ at i → i ≡ n.count → f ≡ interface_at b t → loss ≡ rate_of n.state → e ≡ no_node
        → b₂ ≡ store_node b₁ (h.unit * 64 + h.slot) e → b₃ ≡ paced b₂ t (f.speed + 1 + n.count - loss) → b₄ ≡ store_map b₃ h.unit (put (map_at b₃ h.unit) h.slot false) → Done b₄ (remove_blossom (view b) (handle_named h))
    expand_ends f {b₁} {b₂} {b₃} {b₄} {at} {i} G n-is ef el ee e₂ e₃ e₄ =
        let k = h.unit * 64 + h.slot in
        let r = rate_small (node_at b k).state in
        let slow = expand_reach.slow in
        let s : (interface_at b t).speed + 1 + (node_at b k).count - rate_of (node_at b k).state ≡ s₁ b t (handle_named h) F X₀ + (node_at b k).count = omega arith in
        let q : b₃ ≡ paced (store_node b₁ k no_node) t ((interface_at b t).speed + 1 + (node_at b k).count - rate_of (node_at b k).state) = simp (e₃, e₂, ee, el, ef, en) in
        let G' : Freeing b (node_at b k).first b₁ at (node_at b k).count = freeing_at G (ap (λ (x : Node). x.first) en) (n-is ∙ ap (λ (x : Node). x.count) en) in
        rw (e₄, q, s) (expanded b t (handle_named h) F X₀ b₁ at G')
