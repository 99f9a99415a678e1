-- The bench that the loop shows: the blossom's slot empty, and then its members let out, each a step of the ledger's own. Assumes nothing.
use Rattle.std.specs.Prelude.{None, Some}
use Prim.Native.Nat.{ℕ, suc, ◌+◌, ◌-◌, ◌*◌, ◌/◌, ◌<◌, ◌≤◌}
use mathlib.Core.Path.{◌≡◌, refl, ap, ap₂, sym, ◌∙◌}
use mathlib.Core.Logic.{◌≢◌}
use mathlib.Core.List.{List, [], ◌∷◌}
use native.Mathlib.Omega.{arith}
use lib.IntN.{ℤ, pos, ◌-ℤ◌, ◌+ℤ◌}
use lib.ListN.{get_or}
use Rattle.kinds.specs.declared.GrowState.TheVariants.{Grow as Growing, Stay}
use Rattle.kinds.specs.declared.Class.TheVariants.{Blossom}
use Rattle.bench_words.specs.Store.{node_at, interface_at}
use Rattle.bench_words.proofs.Laws.{good_interface}
use Rattle.bench_words.specs.declared.Node.{Node}
use Rattle.ledger_spec.specs.Bench.{Handle, grows, blossom, Member}
use Rattle.ledger_spec.specs.Bench as plain
use Rattle.ledger_spec.specs.Look as look
use Rattle.ledger_spec.specs.Change.{place, mark_all}
use Rattle.ledger_spec.specs.Deeds.{members, remove_blossom}
use Rattle.ledger_spec.specs.Knit.{nodes}
use Rattle.ledger_spec.proofs.Knit.{some_eq}
use Rattle.bench_views.specs.Records.{rate_of, no_node}
use Rattle.bench_views.specs.View.{off, view, view_in, sum_up, slot_seen, circle_of, follow, handle_at}
use Rattle.bench_views.specs.Canon.{walk}
use Rattle.bench_views.specs.Fit.{Fit}
use Rattle.bench_views.proofs.Offsets.{rates}
use Rattle.bench_views.proofs.Sums.{sum_up_le}
use Rattle.bench_views.proofs.Rings.{ring_near, slot_blossom}
use Rattle.deed_raises.proofs.Kept.{climb_in}
use Rattle.deed_nodes.specs.Steps.{no_seat}
use Rattle.deed_nodes.proofs.Puts.{value_low, rate_small, slot_share, speed_turns, put_in}
use Rattle.deed_nodes.proofs.Needs.{open_paced}
use Rattle.deed_nodes.proofs.Keeps.{not_blossom}
use Rattle.deed_circles.proofs.Rounds.{instead, instead_here, instead_else, pacing, pacing_here, pacing_else, turned, turn_off, turn_head, turns_view}
use Rattle.deed_circles.proofs.Freeing.{Expandable, k₁, f₁, m₁, at₁, T₁, lu, ls, member, apart, member_ranged, still, not_top, ring_kept}

module _ (b : List ℕ) (t : ℕ) (h : Handle) (F : Fit b) (X : Expandable b t h) where
  abbrev k : ℕ
  k = k₁ b t h F X

  abbrev f : ℕ
  f = f₁ b t h F X

  abbrev m : ℕ
  m = m₁ b t h F X

  abbrev at : ℕ → ℕ
  at = at₁ b t h F X

  abbrev T : ℕ → ℕ
  T = T₁ b t h F X

  -- ---- the blossom gone
  abbrev pub A₁ : ℕ → Node
  A₁ = instead (node_at b) k no_node

  abbrev pub s₁ : ℕ
  s₁ = (interface_at b t).speed + 1 - rate_of (node_at b k).state

  pub gone_here : A₁ k ≡ no_node
  gone_here = instead_here (node_at b) k no_node k refl

  pub gone_else : (p : ℕ) → p ≢ k → A₁ p ≡ node_at b p
  gone_else p ne = instead_else (node_at b) k no_node p ne

  gone_member : (i : ℕ) → i < m → A₁ (at i) ≡ node_at b (at i)
  gone_member i l = gone_else (at i) (not_top b t h F X h.unit h.slot (at i) (member b t h F X i l))

  -- a blossom that is left is another one
  other : (B : ℕ → Node) (j : ℕ) → (B j).class ≡ (A₁ j).class → (B j).class ≡ Blossom → j ≢ k
  other B j same e q = not_blossom (ap (λ (x : ℕ). (A₁ x).class) q ∙ ap (λ (n : Node). n.class) gone_here) (sym same ∙ e)

  gone_circles : (v r : ℕ) → v < 8 → r < (interface_at b v).used → (A₁ (v * 64 + r)).class ≡ Blossom → circle_of A₁ (v * 64 + r) ≡ circle_of (node_at b) (v * 64 + r)
  gone_circles v r lv lr e =
      let ne = other A₁ (v * 64 + r) refl e in
      let same = gone_else (v * 64 + r) ne in
      ring_kept b t h F X A₁ (λ p q off. gone_else p q) v r lv lr ne (ap (λ (n : Node). n.class) (sym same) ∙ e) (ap (λ (n : Node). n.count) same) (ap (λ (n : Node). n.first) same)

  no_slot : (u : ℕ) (ms : List Member) → slot_seen no_node u ms ≡ None
  unfolding slot_seen
  no_slot u ms = refl

  slow : rate_of (node_at b k).state ≤ (interface_at b t).speed + 1
  slow =
      let p = (open_paced b F t X.root).slow in
      let r = rate_small (node_at b k).state in
      omega arith

  gone_view : view_in (get_or b 0 0) (pacing (interface_at b) t s₁) A₁ ≡ place (view b) h.unit h.slot None
  gone_view =
      let l = slow in
      put_in (get_or b 0 0) (interface_at b) (pacing (interface_at b) t s₁) (node_at b) A₁ h.unit h.slot t s₁ (λ v lv. good_interface b v) F.canon.steady.slots (lu b t h F X) (ls b t h F X) X.root.low X.under
      (pacing_here (interface_at b) t s₁) (λ v lv ne. pacing_else (interface_at b) t s₁ v ne) gone_else gone_circles None
      (speed_turns (interface_at b t).speed s₁ 1 (rate_of (node_at b k).state) (omega arith)
      ∙ ap (λ (z : ℤ). off 1024 (interface_at b t).speed +ℤ z)
      (rates Stay (node_at b k).state ∙ ap (λ (z : ℤ). pos 0 -ℤ z) (sym (slot_share (node_at b k) (sum_up 8 (interface_at b) h.unit) (circle_of (node_at b) k) X.stands.shows.present))))
      (ap (λ (n : Node). slot_seen n (sum_up 8 (interface_at b) h.unit) (circle_of A₁ k)) gone_here ∙ no_slot (sum_up 8 (interface_at b) h.unit) (circle_of A₁ k))

  -- ---- and its members let out
  abbrev pub to₁ : ℕ → ℕ → Node
  to₁ = turned at T Growing (λ i. no_seat) A₁

  turn_circles : (i v r : ℕ) → i ≤ m → v < 8 → r < (interface_at b v).used → (to₁ i (v * 64 + r)).class ≡ Blossom → circle_of (to₁ i) (v * 64 + r) ≡ circle_of A₁ (v * 64 + r)
  turn_circles i v r l lv lr e =
      let hd = turn_head at T Growing (λ j. no_seat) A₁ i (v * 64 + r) in
      let ne = other (to₁ i) (v * 64 + r) hd.class e in
      let same = gone_else (v * 64 + r) ne in
      let was : (A₁ (v * 64 + r)).class ≡ Blossom = sym hd.class ∙ e in
      ring_kept b t h F X (to₁ i) (λ p q off. turn_off at T Growing (λ j. no_seat) A₁ i p (λ j lj. off j (omega arith)) ∙ gone_else p q) v r lv lr ne
      (ap (λ (n : Node). n.class) (sym same) ∙ was) (hd.count ∙ ap (λ (n : Node). n.count) same) (hd.first ∙ ap (λ (n : Node). n.first) same)
      ∙ sym (gone_circles v r lv lr was)

  follow_more : (i : ℕ) → i < m → nodes (follow (m - i) (node_at b) (at i)) ≡ handle_at (node_at b) (at i) ∷ nodes (follow (m - suc i) (node_at b) (at (suc i)))
  unfolding follow walk
  follow_more i l =
      let e : m - i ≡ suc (m - suc i) = omega arith in
      ap (λ (x : ℕ). nodes (follow x (node_at b) (at i))) e

  follow_end : nodes (follow (m - m) (node_at b) (at m)) ≡ []
  unfolding follow
  follow_end =
      let e : m - m ≡ 0 = omega arith in
      ap (λ (x : ℕ). nodes (follow x (node_at b) (at m))) e

  all_of : (l : List Handle) → nodes (follow (m - 0) (node_at b) (at 0)) ≡ l → nodes (circle_of (node_at b) k) ≡ l
  unfolding walk
  all_of l e =
      let z : m ≡ m - 0 = omega arith in
      ap (λ (x : ℕ). nodes (follow x (node_at b) f)) z ∙ e

  members_seen : members (look.node_named (view b) h) ≡ nodes (circle_of (node_at b) k)
  members_seen =
      let B = slot_blossom (node_at b k) (sum_up 8 (interface_at b) h.unit) (circle_of (node_at b) k) X.class in
      let n : X.stands.node ≡ B.node = some_eq X.stands.seen B.shown in
      ap members X.stands.named ∙ of_class X.stands.node (circle_of (node_at b) k) (ap (λ (x : plain.Node). x.class) n ∙ B.class)
    where
      of_class : (n : plain.Node) (ms : List Member) → n.class ≡ blossom ms → members (Some n) ≡ nodes ms
      of_class n ms e = rw e

  pub freed_view : view_in (get_or b 0 0) (pacing (interface_at b) t (s₁ + m)) (to₁ m) ≡ remove_blossom (view b) h
  unfolding remove_blossom
  freed_view =
      let st = F.canon.steady in
      let z : s₁ + 0 ≡ s₁ = omega arith in
      turns_view at T Growing (λ i. no_seat) A₁ m (apart b t h F X) (get_or b 0 0) (interface_at b) t (λ i. s₁ + i) (λ v lv. good_interface b v) st.slots X.root.low
      (λ i l. (member b t h F X i l).unit) (λ i l. (member b t h F X i l).slot)
      (λ i l. climb_in (get_or b 0 0) (get_or b 0 0) (interface_at b) (interface_at b) (node_at b) A₁ (λ v lv. refl) 8 (at i / 64) ∙ ring_near b F.sewn h.unit h.slot (at i) (lu b t h F X) (ls b t h F X) X.class (member b t h F X i l) ∙ X.under)
      (λ i l. refl) (λ i l. rw (gone_member i l) (member b t h F X i l).present)
      (λ i l. rw (gone_member i l) (value_low (node_at b (at i)).state (node_at b (at i)).bias (T i) (member_ranged b t h F X i l).least (omega (arith, sum_up_le b st 8 (at i / 64) (member b t h F X i l).unit))))
      (λ i l. rw (gone_member i l, still b t h F X i l) (omega arith))
      turn_circles None (λ i l. refl) (λ i. (node_at b (at i)).serial.0) (λ i. nodes (follow (m - i) (node_at b) (at i))) follow_more follow_end
      ∙ ap₂ (λ (s : ℕ) (l : List Handle). mark_all (view_in (get_or b 0 0) (pacing (interface_at b) t s) A₁) l grows None) z (sym (all_of (nodes (follow (m - 0) (node_at b) (at 0))) refl))
      ∙ ap₂ (λ (B : plain.Bench) (l : List Handle). mark_all B l grows None) gone_view (sym members_seen)
