-- Canonical words stay canonical: where no class and no link changes; and for each blossom whose members are as they were, its circle and the seats
-- in it. A walk along such a circle meets the same nodes, since each of them names the same next one. Assumes nothing.
use Prim.Native.Nat.{ℕ, zero, suc, ◌+◌, ◌*◌, ◌/◌, ◌%◌, ◌<◌, ◌≤◌}
use mathlib.Core.Path.{◌≡◌, refl, ap, ap₂, sym, ◌∙◌, subst}
use mathlib.Core.List.{List}
use native.Mathlib.Decide.{dec_lt}
use native.Mathlib.Omega.{arith}
use Rattle.bench_words.specs.Store.{node_at, interface_at, map_at}
use Rattle.kinds.specs.declared.Class.{Class}
use Rattle.kinds.specs.declared.Class.TheVariants.{Absent, Blossom}
use Rattle.kinds.specs.declared.Handle.{Handle as Packed}
use Rattle.bench_words.specs.declared.Node.{Node}
use Rattle.ledger_spec.specs.Knit.{Sewn}
use Rattle.ledger_spec.specs.Knit.{In, here, there, nodes}
use Rattle.bench_views.specs.View.{handle_at, follow, view}
use Rattle.bench_views.specs.Records.{Steady}
use Rattle.bench_views.specs.Canon.{walk, Seated, Coded, Canon}
use Rattle.bench_views.proofs.Rings.{Ringed, ringed}
use Rattle.bench_views.proofs.Maps.{mapped_like}

pub not_blossom : {c : Class} → c ≡ Absent → c ≡ Blossom → ⊥
not_blossom p q = let z : Absent ≡ Blossom = sym p ∙ q in let z2 : ◌≡◌ {A = ℕ} 0 1 = cc in omega arith

-- ---- a walk along a circle meets its members
walk_next : (i : ℕ) (A : ℕ → Node) (k : ℕ) → walk i A (A k).next ≡ walk (suc i) A k
unfolding walk
walk_next zero A k = refl
walk_next (suc i) A k = ap (λ (p : ℕ). (A p).next) (walk_next i A k)

pub walk_in : (n i : ℕ) (A : ℕ → Node) (k : ℕ) → i < n → In (handle_at A (walk i A k)) (nodes (follow n A k))
unfolding follow walk
walk_in zero i A k l = absurd (omega arith)
walk_in (suc n) zero A k l = here refl
walk_in (suc n) (suc i) A k l = there (subst (λ (p : ℕ). In (handle_at A p) (nodes (follow n A (A k).next))) (walk_next i A k) (walk_in n i A (A k).next (omega arith)))

module _ (b : List ℕ) (C : Canon b) where
  -- a present node stands in a used slot
  pub used_slot : (k : ℕ) → k < 512 → ((node_at b k).class ≡ Absent → ⊥) → k % 64 < (interface_at b (k / 64)).used
  used_slot k lk p = go (dec_lt (k % 64) (interface_at b (k / 64)).used)
    where
      back : k / 64 * 64 + k % 64 ≡ k
      back = omega arith

      go : Dec (k % 64 < (interface_at b (k / 64)).used) → k % 64 < (interface_at b (k / 64)).used
      go (yes l) = l
      go (no q) = absurd (p (ap (λ (x : ℕ). (node_at b x).class) (sym back) ∙ ap (λ (n : Node). n.class) (C.past (k / 64) (k % 64) (omega arith) (omega arith) (omega arith))))

  -- the members of the blossom at k
  pub ringed_walk : (S : Sewn (view b)) (k i : ℕ) → k < 512 → (node_at b k).class ≡ Blossom → i < (node_at b k).count → Ringed b S (k / 64) (k % 64) (walk i (node_at b) (node_at b k).first)
  ringed_walk S k i lk e l =
      let back : k ≡ k / 64 * 64 + k % 64 = omega arith in
      let e' : (node_at b (k / 64 * 64 + k % 64)).class ≡ Blossom = ap (λ (x : ℕ). (node_at b x).class) (sym back) ∙ e in
      ringed b S (k / 64) (k % 64) (omega arith) (used_slot k lk (λ a. not_blossom a e)) e' (walk i (node_at b) (node_at b k).first)
      (subst (λ (x : ℕ). In (handle_at (node_at b) (walk i (node_at b) (node_at b k).first)) (nodes (follow (node_at b x).count (node_at b) (node_at b x).first))) back
      (walk_in (node_at b k).count i (node_at b) (node_at b k).first l))

-- ---- a blossom that is left as it was
module _ (b b' : List ℕ) (C : Canon b) where
  pub record Intact (k : ℕ) : Type 0 where
    pub low : k < 512
    pub was : (node_at b k).class ≡ Blossom
    pub class : (node_at b' k).class ≡ Blossom
    pub count : (node_at b' k).count ≡ (node_at b k).count
    pub first : (node_at b' k).first ≡ (node_at b k).first
    pub members : (i : ℕ) → i < (node_at b k).count → node_at b' (walk i (node_at b) (node_at b k).first) ≡ node_at b (walk i (node_at b) (node_at b k).first)

  module _ (k : ℕ) (I : Intact k) where
    intact_walk : (i : ℕ) → i < (node_at b k).count → walk i (node_at b') (node_at b' k).first ≡ walk i (node_at b) (node_at b k).first
    unfolding walk
    intact_walk zero l = I.first
    intact_walk (suc i) l = ap (λ (p : ℕ). (node_at b' p).next) (intact_walk i (omega arith)) ∙ ap (λ (n : Node). n.next) (I.members i (omega arith))

    pub intact_chain : (i : ℕ) → i < (node_at b' k).count → (node_at b' (walk i (node_at b') (node_at b' k).first)).place ≡ i
    intact_chain i l =
        let l0 : i < (node_at b k).count = rw I.count at l in
        ap (λ (p : ℕ). (node_at b' p).place) (intact_walk i l0) ∙ ap (λ (n : Node). n.place) (I.members i l0) ∙ C.chain k i I.low I.was l0

  pub intact_seat : (k : ℕ) (q : Packed) → Seated b k q → Intact (q.unit * 64 + q.slot) → node_at b' k ≡ node_at b k → (interface_at b q.unit).used ≤ (interface_at b' q.unit).used → Seated b' k q
  intact_seat k q s I e more =
      let place = ap (λ (n : Node). n.place) e in
      let ls = s.slot in
      record {
        unit = s.unit;
        slot = omega arith;
        ring = I.class;
        within = omega (arith, s.within, place, I.count);
        seat = ap (λ (i : ℕ). walk i (node_at b') (node_at b' (q.unit * 64 + q.slot)).first) place ∙ intact_walk (q.unit * 64 + q.slot) I (node_at b k).place s.within ∙ s.seat;
        last = λ z. ap (λ (n : Node). n.next) e ∙ s.last (omega (arith, z, place, I.count));
      }

-- ---- the same classes and links everywhere
pub record Sim (x y : Node) : Type 0 where
  pub class : x.class ≡ y.class
  pub parent : x.parent ≡ y.parent
  pub place : x.place ≡ y.place
  pub next : x.next ≡ y.next
  pub left : x.left ≡ y.left
  pub right : x.right ≡ y.right
  pub first : x.first ≡ y.first
  pub count : x.count ≡ y.count

pub sim_self : {x y : Node} → x ≡ y → Sim x y
sim_self e =
    record {
      class = ap (λ (n : Node). n.class) e;
      parent = ap (λ (n : Node). n.parent) e;
      place = ap (λ (n : Node). n.place) e;
      next = ap (λ (n : Node). n.next) e;
      left = ap (λ (n : Node). n.left) e;
      right = ap (λ (n : Node). n.right) e;
      first = ap (λ (n : Node). n.first) e;
      count = ap (λ (n : Node). n.count) e;
    }

-- engines that are as they were
pub modes_kept : (b b' : List ℕ) → Canon b → ((u : ℕ) → u < 8 → (interface_at b' u).marks.plain ≡ (interface_at b u).marks.plain) → (u : ℕ) → u < 8 → (interface_at b' u).marks.plain ≡ (interface_at b' 0).marks.plain
modes_kept b b' C plains u lu = plains u lu ∙ C.modes u lu ∙ sym (plains 0 (omega arith))

module _ (b b' : List ℕ) (C : Canon b) (st : Steady b') (co : Coded b') (plains : (u : ℕ) → u < 8 → (interface_at b' u).marks.plain ≡ (interface_at b u).marks.plain) (used : (u : ℕ) → u < 8 → (interface_at b' u).used ≡ (interface_at b u).used)
    (whole : (u : ℕ) → u < 8 → (interface_at b' u).left ≡ 0 → (interface_at b' u).right ≡ 0) (both : (u : ℕ) → u < 8 → ((interface_at b' u).left ≡ 0 → ⊥) → 0 < (interface_at b' u).right)
    (maps : (u : ℕ) → u < 8 → map_at b' u ≡ map_at b u) (sim : (k : ℕ) → Sim (node_at b' k) (node_at b k)) (keeps : (k : ℕ) → (node_at b k).class ≡ Absent → node_at b' k ≡ node_at b k) where
  walk_same : (i k : ℕ) → walk i (node_at b') k ≡ walk i (node_at b) k
  unfolding walk
  walk_same zero k = refl
  walk_same (suc i) k = ap (λ (p : ℕ). (node_at b' p).next) (walk_same i k) ∙ (sim (walk i (node_at b) k)).next

  seated : (k : ℕ) (q : Packed) → Seated b k q → Seated b' k q
  seated k q s =
      let j = q.unit * 64 + q.slot in
      record {
        unit = s.unit;
        slot = rw (used q.unit s.unit) s.slot;
        ring = (sim j).class ∙ s.ring;
        within = omega (arith, s.within, (sim k).place, (sim j).count);
        seat = walk_same (node_at b' k).place (node_at b' j).first ∙ ap₂ (λ (x y : ℕ). walk x (node_at b) y) (sim k).place (sim j).first ∙ s.seat;
        last = λ e. (sim k).next ∙ s.last (omega (arith, e, (sim k).place, (sim j).count));
      }

  pub canon_like : Canon b'
  canon_like =
      record {
        steady = st;
        coded = co;
        modes = modes_kept b b' C plains;
        whole = whole;
        both = both;
        past = λ u s lu l h.
            let p = C.past u s lu l (omega (arith, h, used u lu)) in
            keeps (u * 64 + s) (ap (λ (n : Node). n.class) p) ∙ p;
        map = mapped_like b b' C.map maps (λ k lk. (sim k).class);
        empty = λ k lk e. let z = sym (sim k).class ∙ e in keeps k z ∙ C.empty k lk z;
        defect = λ k v lk e. let d = C.defect k v lk (sym (sim k).class ∙ e) in ((sim k).first ∙ d.0, (sim k).count ∙ d.1);
        ring = λ k lk e. rw (sim k).count (C.ring k lk (sym (sim k).class ∙ e));
        chain = λ k i lk e l.
            ap (λ (x : ℕ). (node_at b' x).place) (walk_same i (node_at b' k).first ∙ ap (walk i (node_at b)) (sim k).first)
            ∙ (sim (walk i (node_at b) (node_at b k).first)).place ∙ C.chain k i lk (sym (sim k).class ∙ e) (omega (arith, l, (sim k).count));
        alone = λ k lk e.
            let a = C.alone k lk (sym (sim k).parent ∙ e) in
            record { place = (sim k).place ∙ a.place; next = (sim k).next ∙ a.next; left = (sim k).left ∙ a.left; right = (sim k).right ∙ a.right };
        inside = λ k q lk e. seated k q (C.inside k q lk (sym (sim k).parent ∙ e));
      }

-- halves that are as they were
pub halves_kept : (b b' : List ℕ) → Canon b → ((u : ℕ) → u < 8 → (interface_at b' u).left ≡ (interface_at b u).left) → ((u : ℕ) → u < 8 → (interface_at b' u).right ≡ (interface_at b u).right)
    → ((u : ℕ) → u < 8 → (interface_at b' u).left ≡ 0 → (interface_at b' u).right ≡ 0) × ((u : ℕ) → u < 8 → ((interface_at b' u).left ≡ 0 → ⊥) → 0 < (interface_at b' u).right)
halves_kept b b' C lefts rights =
    (λ u lu e. rights u lu ∙ C.whole u lu (sym (lefts u lu) ∙ e), λ u lu ne. rw (rights u lu) (C.both u lu (λ e. ne (lefts u lu ∙ e))))
