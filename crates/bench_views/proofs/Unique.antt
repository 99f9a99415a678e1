-- Canonical words with the same view are the same words. Assumes nothing.
use Rattle.std.specs.Prelude.{None, Option, Some}
use Prim.Native.Nat.{ℕ, zero, suc, ◌+◌, ◌-◌, ◌*◌, ◌/◌, ◌%◌, ◌<◌, ◌≤◌}
use mathlib.Core.Path.{◌≡◌, refl, ap, sym, ◌∙◌, subst}
use mathlib.Core.Logic.{by_cases, ◌⊎◌, inl, inr}
use mathlib.Core.List.{List}
use native.Mathlib.Decide.{ℕ_discrete, dec_lt}
use native.Mathlib.Omega.{arith}
use borrow.Author.Tests.{eq-eqb, ne_eqb}
use lib.IntN.{ℤ, pos, ◌+ℤ◌, -ℤ-+ℤ_cancel}
use lib.ListN.{length, get_or}
use lib.Seq.{ext_get_or}
use Rattle.bench_words.specs.Codec.{marks_word}
use Rattle.bench_words.specs.Store.{node_at, interface_at, map_at, base, ibase, interface_words, node_words}
use Rattle.kinds.specs.declared.GrowState.{GrowState}
use Rattle.kinds.specs.declared.GrowState.TheVariants.{Grow as Growing, Stay, Shrink}
use Rattle.kinds.specs.declared.Class.{Class}
use Rattle.kinds.specs.declared.Class.TheVariants.{Absent, Blossom, Defect}
use Rattle.kinds.specs.declared.Handle.{Handle as Packed}
use Rattle.kinds.specs.declared.Vertex.{Vertex}
use Rattle.bench_words.specs.declared.Node.{Node}
use Rattle.bench_words.specs.declared.Interface.{Interface}
use Rattle.ledger_spec.specs.Bench.{Member, blossom, defect, Bench}
use Rattle.ledger_spec.specs.Bench as plain
use Rattle.ledger_spec.specs.Look.{interface, slot_of}
use Rattle.ledger_spec.proofs.Knit.{none_some}
use Rattle.bench_words.proofs.Laws.{good_interface}
use Rattle.bench_views.specs.View.{lag_of, off, up_seen, halves_seen, value_by, sum_up, follow, circle_of, member_at, slot_seen, node_seen, by_class, interface_in, view}
use Rattle.ledger_spec.specs.Named.{state_named, handle_named, parent_named}
use Rattle.bench_views.specs.Canon.{Within, walk, Seated, Canon}
use Rattle.bench_views.proofs.Sums.{sum_up_le, sum_up_same}
use Rattle.bench_views.proofs.Ranges.{ranged}
use Rattle.bench_views.proofs.Maps.{maps_same}
use Rattle.bench_views.proofs.Views.{interface_in_lem, view_next, view_plain, view_slot, view_count}

-- ---- what is seen decides what is held
pos_inj : {m n : ℕ} → pos m ≡ pos n → m ≡ n
pos_inj e = cc

off_inj : (c m n : ℕ) → off c m ≡ off c n → m ≡ n
unfolding off
off_inj c m n e = pos_inj (sym (-ℤ-+ℤ_cancel (pos m) (pos c)) ∙ ap (λ (z : ℤ). z +ℤ pos c) e ∙ -ℤ-+ℤ_cancel (pos n) (pos c))

up_inj : (p q : Option ℕ) → up_seen p ≡ up_seen q → p ≡ q
up_inj None None e = refl
up_inj None (Some q) e = absurd (let z : ◌≡◌ {A = ℕ} 0 1 = cc in omega arith)
up_inj (Some p) None e = absurd (let z : ◌≡◌ {A = ℕ} 0 1 = cc in omega arith)
up_inj (Some p) (Some q) e = let z : p ≡ q = cc in ap Some z

state_inj : (g h : GrowState) → state_named g ≡ state_named h → g ≡ h
state_inj Growing Growing e = refl
state_inj Growing Stay e = absurd (let z : ◌≡◌ {A = ℕ} 0 1 = cc in omega arith)
state_inj Growing Shrink e = absurd (let z : ◌≡◌ {A = ℕ} 0 1 = cc in omega arith)
state_inj Stay Growing e = absurd (let z : ◌≡◌ {A = ℕ} 0 1 = cc in omega arith)
state_inj Stay Stay e = refl
state_inj Stay Shrink e = absurd (let z : ◌≡◌ {A = ℕ} 0 1 = cc in omega arith)
state_inj Shrink Growing e = absurd (let z : ◌≡◌ {A = ℕ} 0 1 = cc in omega arith)
state_inj Shrink Stay e = absurd (let z : ◌≡◌ {A = ℕ} 0 1 = cc in omega arith)
state_inj Shrink Shrink e = refl

hand_inj : (g h : Packed) → handle_named g ≡ handle_named h → g ≡ h
hand_inj g h e = λ i. record { unit = (e i).unit; slot = (e i).slot; serial = record { 0 = (e i).serial } }

some_inj : {A : Type 0} {x y : A} → Some x ≡ Some y → x ≡ y
some_inj e = cc

link_inj : (p q : Option Packed) → parent_named p ≡ parent_named q → p ≡ q
link_inj None None e = refl
link_inj None (Some q) e = absurd (let z : ◌≡◌ {A = ℕ} 0 1 = cc in omega arith)
link_inj (Some p) None e = absurd (let z : ◌≡◌ {A = ℕ} 0 1 = cc in omega arith)
link_inj (Some p) (Some q) e = ap Some (hand_inj p q (some_inj e))

bias_inj : (g : GrowState) (a b t : ℕ) → t ≤ a → t ≤ b → value_by g a t ≡ value_by g b t → a ≡ b
bias_inj Growing a b t l m e = omega arith
bias_inj Stay a b t l m e = e
bias_inj Shrink a b t l m e = omega arith

halves_some : (l r : ℕ) → (l ≡ 0 → ⊥) → halves_seen l r ≡ Some (l - 1, r - 1)
halves_some l r q = rw (ne_eqb l 0 q)

halves_none : (l r : ℕ) → l ≡ 0 → halves_seen l r ≡ None
halves_none l r q = rw (eq-eqb l 0 q)

left_inj : (l r l' r' : ℕ) → (l ≡ 0 → r ≡ 0) → ((l ≡ 0 → ⊥) → 0 < r) → (l' ≡ 0 → r' ≡ 0) → ((l' ≡ 0 → ⊥) → 0 < r') → halves_seen l r ≡ halves_seen l' r' → (l ≡ l') × (r ≡ r')
left_inj l r l' r' a b c d e = go (ℕ_discrete l 0) (ℕ_discrete l' 0)
  where
    go : Dec (l ≡ 0) → Dec (l' ≡ 0) → (l ≡ l') × (r ≡ r')
    go (yes p) (yes q) = (p ∙ sym q, a p ∙ sym (c q))
    go (yes p) (no q) = absurd (none_some (halves_none l r p) (e ∙ halves_some l' r' q))
    go (no p) (yes q) = absurd (none_some (e ∙ halves_none l' r' q) (halves_some l r p))
    go (no p) (no q) =
        let w : ◌≡◌ {A = ℕ × ℕ} (l - 1, r - 1) (l' - 1, r' - 1) = some_inj (sym (halves_some l r p) ∙ e ∙ halves_some l' r' q) in
        let x : l - 1 ≡ l' - 1 = ap (λ (z : ℕ × ℕ). z.0) w in
        let y : r - 1 ≡ r' - 1 = ap (λ (z : ℕ × ℕ). z.1) w in
        (omega arith, omega (arith, b p, d q))

-- ---- circles
length_follow : (n : ℕ) (A : ℕ → Node) (k : ℕ) → length (follow n A k) ≡ n
unfolding follow
length_follow zero A k = refl
length_follow (suc n) A k = ap suc (length_follow n A (A k).next)

walk_next : (i : ℕ) (A : ℕ → Node) (k : ℕ) → walk i A (A k).next ≡ walk (suc i) A k
unfolding walk
walk_next zero A k = refl
walk_next (suc i) A k = ap (λ (p : ℕ). (A p).next) (walk_next i A k)

walk_at : (n i : ℕ) (A : ℕ → Node) (k : ℕ) (d : Member) → i < n → get_or (follow n A k) i d ≡ member_at A (walk i A k)
unfolding follow walk
walk_at zero i A k d l = absurd (omega arith)
walk_at (suc n) zero A k d l = refl
walk_at (suc n) (suc i) A k d l = walk_at n i A (A k).next d (omega arith) ∙ ap (member_at A) (walk_next i A k)

place_inj : (p q : ℕ) → p / 64 ≡ q / 64 → p % 64 ≡ q % 64 → p ≡ q
place_inj p q a b = omega arith

blossom_inj : {ms ns : List Member} → blossom ms ≡ blossom ns → ms ≡ ns
blossom_inj e = cc

defect_inj : {v w : ℕ} → defect v ≡ defect w → v ≡ w
defect_inj e = cc

-- two circles that are the same: as long, the same places, the same touching handles
module _ (A A' : ℕ → Node) (n k n' k' : ℕ) (e : follow n A k ≡ follow n' A' k') where
  long : n ≡ n'
  long = sym (length_follow n A k) ∙ ap length e ∙ length_follow n' A' k'

  member : (i : ℕ) → i < n → member_at A (walk i A k) ≡ member_at A' (walk i A' k')
  member i l =
      let d : Member = member_at A 0 in
      sym (walk_at n i A k d l) ∙ ap (λ (ms : List Member). get_or ms i d) e ∙ walk_at n' i A' k' d (rw (sym long) l)

  walks : (i : ℕ) → i < n → walk i A k ≡ walk i A' k'
  walks i l = place_inj (walk i A k) (walk i A' k') (ap (λ (m : Member). m.node.unit) (member i l)) (ap (λ (m : Member). m.node.slot) (member i l))

  onward : (i : ℕ) → suc i < n → (A (walk i A k)).next ≡ (A' (walk i A' k')).next
  unfolding walk
  onward i l = walks (suc i) l

-- ---- a slot that is the same holds the same node, but for the links
pub record Alike (n n' : Node) (t : ℕ) (ms ms' : List Member) : Type 0 where
  pub present : n.class ≡ Absent → ⊥
  pub serial : n.serial ≡ n'.serial
  pub class : n.class ≡ n'.class
  pub state : n.state ≡ n'.state
  pub parent : n.parent ≡ n'.parent
  pub value : value_by n.state n.bias t ≡ value_by n'.state n'.bias t
  pub size : n.size ≡ n'.size
  pub ring : n.class ≡ Blossom → ms ≡ ms'

alike : (n n' : Node) (t : ℕ) (ms ms' : List Member) (c c' : plain.Class) → (n.class ≡ Absent → ⊥) → n.class ≡ n'.class → node_seen n t c ≡ node_seen n' t c' → (n.class ≡ Blossom → ms ≡ ms') → Alike n n' t ms ms'
alike n n' t ms ms' c c' p k e r =
    record {
      present = p;
      serial = λ i. record { 0 = (e i).serial };
      class = k;
      state = state_inj n.state n'.state (ap (λ (m : plain.Node). m.state) e);
      parent = link_inj n.parent n'.parent (ap (λ (m : plain.Node). m.parent) e);
      value = off_inj 1152921504606846976 _ _ (ap (λ (m : plain.Node). m.value) e);
      size = ap (λ (m : plain.Node). m.size) e;
      ring = r;
    }

not_absent_b : {c : Class} → c ≡ Blossom → c ≡ Absent → ⊥
not_absent_b p q = let z : Absent ≡ Blossom = sym q ∙ p in let z2 : ◌≡◌ {A = ℕ} 0 1 = cc in omega arith

not_absent_d : {c : Class} {v : Vertex} → c ≡ Defect v → c ≡ Absent → ⊥
not_absent_d {v = v} p q = let z : Absent ≡ Defect v = sym q ∙ p in let z2 : ◌≡◌ {A = ℕ} 0 1 = cc in omega arith

not_both : {c : Class} {v : Vertex} → c ≡ Defect v → c ≡ Blossom → ⊥
not_both {v = v} p q = let z : Blossom ≡ Defect v = sym q ∙ p in let z2 : ◌≡◌ {A = ℕ} 0 1 = cc in omega arith

defect_blossom : {v : ℕ} {ms : List Member} → defect v ≡ blossom ms → ⊥
defect_blossom {v} {ms} e = let z : ◌≡◌ {A = ℕ} 0 1 = cc in omega arith

seen_inj : (n n' : Node) (t : ℕ) (ms ms' : List Member) → slot_seen n t ms ≡ slot_seen n' t ms' → ((n.class ≡ Absent) × (n'.class ≡ Absent)) ⊎ Alike n n' t ms ms'
unfolding slot_seen
seen_inj n n' t ms ms' e = go n.class refl n'.class refl
  where
    S : Node → List Member → (c : Class) → Option plain.Node
    S m l c = by_class c None (Some (node_seen m t (blossom l))) (λ v. Some (node_seen m t (defect v.0)))

    eq : (c : Class) → n.class ≡ c → (c' : Class) → n'.class ≡ c' → S n ms c ≡ S n' ms' c'
    eq c p c' p' = sym (ap (S n ms) p) ∙ e ∙ ap (S n' ms') p'

    go : (c : Class) → n.class ≡ c → (c' : Class) → n'.class ≡ c' → ((n.class ≡ Absent) × (n'.class ≡ Absent)) ⊎ Alike n n' t ms ms'
    go Absent p Absent p' = inl (p, p')
    go Absent p Blossom p' = absurd (none_some refl (eq Absent p Blossom p'))
    go Absent p (Defect v') p' = absurd (none_some refl (eq Absent p (Defect v') p'))
    go Blossom p Absent p' = absurd (none_some refl (sym (eq Blossom p Absent p')))
    go Blossom p Blossom p' =
        let h = some_inj (eq Blossom p Blossom p') in
        inr (alike n n' t ms ms' (blossom ms) (blossom ms') (not_absent_b p) (p ∙ sym p') h (λ z. blossom_inj (ap (λ (m : plain.Node). m.class) h)))
    go Blossom p (Defect v') p' = absurd (defect_blossom (sym (ap (λ (m : plain.Node). m.class) (some_inj (eq Blossom p (Defect v') p')))))
    go (Defect v) p Absent p' = absurd (none_some refl (sym (eq (Defect v) p Absent p')))
    go (Defect v) p Blossom p' = absurd (defect_blossom (ap (λ (m : plain.Node). m.class) (some_inj (eq (Defect v) p Blossom p'))))
    go (Defect v) p (Defect v') p' =
        let h = some_inj (eq (Defect v) p (Defect v') p') in
        let k : v.0 ≡ v'.0 = defect_inj (ap (λ (m : plain.Node). m.class) h) in
        inr (alike n n' t ms ms' (defect v.0) (defect v'.0) (not_absent_d p) (p ∙ (λ i. Defect (record { 0 = k i })) ∙ sym p') h (λ z. absurd (not_both p z)))

module _ (b b' : List ℕ) (C : Canon b) (C' : Canon b') (near : Within (view b)) (e : view b ≡ view b') where
  interfaces : (v : ℕ) → v < 8 → {X : Type 0} (φ : plain.Interface → X) → φ (interface (view b) v) ≡ φ (interface (view b') v)
  interfaces v lv φ = ap (λ (B : Bench). φ (interface B v)) e

  fields : (v : ℕ) → v < 8 → {X : Type 0} (φ : plain.Interface → X) → φ (interface_in (interface_at b) (node_at b) v) ≡ φ (interface_in (interface_at b') (node_at b') v)
  fields v lv φ = sym (ap φ (interface_in_lem (get_or b 0 0) (interface_at b) (node_at b) v lv)) ∙ interfaces v lv φ ∙ ap φ (interface_in_lem (get_or b' 0 0) (interface_at b') (node_at b') v lv)

  engines : (interface_at b 0).marks.plain ≡ (interface_at b' 0).marks.plain
  engines = sym (view_plain (get_or b 0 0) (interface_at b) (node_at b)) ∙ ap (λ (B : Bench). B.plain) e ∙ view_plain (get_or b' 0 0) (interface_at b') (node_at b')

  interface_same : (v : ℕ) → v < 8 → interface_at b v ≡ interface_at b' v
  interface_same v lv =
      let us : (interface_at b v).used ≡ (interface_at b' v).used = sym (view_count (get_or b 0 0) (interface_at b) (node_at b) v lv) ∙ interfaces v lv (λ f. length f.slots) ∙ view_count (get_or b' 0 0) (interface_at b') (node_at b') v lv in
      let pr : (interface_at b v).progress ≡ (interface_at b' v).progress = pos_inj (fields v lv (λ f. f.progress)) in
      let su : (interface_at b v).sum ≡ (interface_at b' v).sum = off_inj 4611686018427387904 _ _ (fields v lv (λ f. f.sum)) in
      let sp : (interface_at b v).speed ≡ (interface_at b' v).speed = off_inj 1024 _ _ (fields v lv (λ f. f.speed)) in
      let pa : (interface_at b v).parent ≡ (interface_at b' v).parent = up_inj _ _ (fields v lv (λ f. f.parent)) in
      let ha = left_inj (interface_at b v).left (interface_at b v).right (interface_at b' v).left (interface_at b' v).right (C.whole v lv) (C.both v lv) (C'.whole v lv) (C'.both v lv) (fields v lv (λ f. f.halves)) in
      let fi : (interface_at b v).marks.fills ≡ (interface_at b' v).marks.fills = fields v lv (λ f. f.marks.fills) in
      let fl : (interface_at b v).marks.floored ≡ (interface_at b' v).marks.floored = fields v lv (λ f. f.marks.floored) in
      let en : (interface_at b v).marks.plain ≡ (interface_at b' v).marks.plain = C.modes v lv ∙ engines ∙ sym (C'.modes v lv) in
      λ i. record { used = us i; progress = pr i; sum = su i; speed = sp i; parent = pa i; left = ha.0 i; right = ha.1 i; marks = record { fills = fi i; floored = fl i; plain = en i } }

  sum_same : (v : ℕ) → v < 8 → sum_up 8 (interface_at b) v ≡ sum_up 8 (interface_at b') v
  sum_same v lv = sum_up_same (interface_at b') (interface_at b) (λ w lw. good_interface b' w) (λ w lw. ap (λ (x : Interface). x.parent) (interface_same w lw)) (λ w lw. ap (λ (x : Interface). lag_of x) (interface_same w lw)) 8 v lv

  slot_same : (v s : ℕ) → v < 8 → s < (interface_at b v).used → slot_seen (node_at b (v * 64 + s)) (sum_up 8 (interface_at b) v) (circle_of (node_at b) (v * 64 + s)) ≡ slot_seen (node_at b' (v * 64 + s)) (sum_up 8 (interface_at b) v) (circle_of (node_at b') (v * 64 + s))
  slot_same v s lv ls =
      sym (view_slot (get_or b 0 0) (interface_at b) (node_at b) v s lv ls) ∙ ap (λ (B : Bench). slot_of B v s) e
      ∙ view_slot (get_or b' 0 0) (interface_at b') (node_at b') v s lv (subst (λ (x : Interface). s < x.used) (interface_same v lv) ls)
      ∙ ap (λ (t : ℕ). slot_seen (node_at b' (v * 64 + s)) t (circle_of (node_at b') (v * 64 + s))) (sym (sum_same v lv))

  rings_same : (v s : ℕ) → v < 8 → s < (interface_at b v).used → (node_at b (v * 64 + s)).class ≡ Blossom → circle_of (node_at b) (v * 64 + s) ≡ circle_of (node_at b') (v * 64 + s)
  rings_same v s lv ls k = go (seen_inj (node_at b (v * 64 + s)) (node_at b' (v * 64 + s)) (sum_up 8 (interface_at b) v) (circle_of (node_at b) (v * 64 + s)) (circle_of (node_at b') (v * 64 + s)) (slot_same v s lv ls))
    where
      go : (((node_at b (v * 64 + s)).class ≡ Absent) × ((node_at b' (v * 64 + s)).class ≡ Absent)) ⊎ Alike (node_at b (v * 64 + s)) (node_at b' (v * 64 + s)) (sum_up 8 (interface_at b) v) (circle_of (node_at b) (v * 64 + s)) (circle_of (node_at b') (v * 64 + s)) → circle_of (node_at b) (v * 64 + s) ≡ circle_of (node_at b') (v * 64 + s)
      go (inl w) = absurd (not_absent_b k w.0)
      go (inr w) = w.ring k

  pub record Links (k : ℕ) : Type 0 where
    pub place : (node_at b k).place ≡ (node_at b' k).place
    pub next : (node_at b k).next ≡ (node_at b' k).next
    pub left : (node_at b k).left ≡ (node_at b' k).left
    pub right : (node_at b k).right ≡ (node_at b' k).right

  links_free : (k : ℕ) → k < 512 → (node_at b k).parent ≡ None → (node_at b' k).parent ≡ None → Links k
  links_free k lk p p' =
      let x = C.alone k lk p in
      let y = C'.alone k lk p' in
      record { place = x.place ∙ sym y.place; next = x.next ∙ sym y.next; left = x.left ∙ sym y.left; right = x.right ∙ sym y.right }

  links_ring : (k : ℕ) (q : Packed) → k < 512 → (node_at b k).parent ≡ Some q → (node_at b' k).parent ≡ Some q → Links k
  links_ring k q lk p p' =
      record {
        place = at;
        next = by_cases (ℕ_discrete ((node_at b k).place + 1) (A j).count)
            (λ (z : (node_at b k).place + 1 ≡ (A j).count). S.last z ∙ sym (S'.last (ap (λ (x : ℕ). x + 1) (sym at) ∙ z ∙ wide)))
            (λ (z : (node_at b k).place + 1 ≡ (A j).count → ⊥).
            ap (λ (x : ℕ). (A x).next) (sym S.seat) ∙ onward A A' (A j).count (A j).first (A' j).count (A' j).first R (node_at b k).place (omega (arith, S.within, z)) ∙ ap (λ (x : ℕ). (A' x).next) there);
        left = hand_inj _ _ (ap (λ (m : Member). m.touch.0) same);
        right = hand_inj _ _ (ap (λ (m : Member). m.touch.1) same);
      }
    where
      A : ℕ → Node
      A = node_at b

      A' : ℕ → Node
      A' = node_at b'

      j : ℕ
      j = q.unit * 64 + q.slot

      S : Seated b k q
      S = C.inside k q lk p

      S' : Seated b' k q
      S' = C'.inside k q lk p'

      R : circle_of A j ≡ circle_of A' j
      R = rings_same q.unit q.slot S.unit S.slot S.ring

      wide : (A j).count ≡ (A' j).count
      wide = long A A' (A j).count (A j).first (A' j).count (A' j).first R

      lj : j < 512
      lj = omega (arith, S.unit, S.slot, C.steady.slots q.unit S.unit)

      in' : (A' k).place < (A j).count
      in' = omega (arith, S'.within, wide)

      at : (A k).place ≡ (A' k).place
      at = ap (λ (x : ℕ). (A x).place) (sym (walks A A' (A j).count (A j).first (A' j).count (A' j).first R (A' k).place in' ∙ S'.seat)) ∙ C.chain j (A' k).place lj S.ring in'

      there : walk (A k).place A' (A' j).first ≡ k
      there = sym (walks A A' (A j).count (A j).first (A' j).count (A' j).first R (A k).place S.within) ∙ S.seat

      same : member_at A k ≡ member_at A' k
      same = ap (member_at A) (sym S.seat) ∙ member A A' (A j).count (A j).first (A' j).count (A' j).first R (A k).place S.within ∙ ap (member_at A') there

  links : (k : ℕ) → k < 512 → (p : Option Packed) → (node_at b k).parent ≡ p → (node_at b' k).parent ≡ p → Links k
  links k lk None p p' = links_free k lk p p'
  links k lk (Some q) p p' = links_ring k q lk p p'

  heads : (v s : ℕ) → v < 8 → s < (interface_at b v).used → v * 64 + s < 512 → (c : Class) → (node_at b (v * 64 + s)).class ≡ c → (node_at b' (v * 64 + s)).class ≡ c → (c ≡ Absent → ⊥)
      → ((node_at b (v * 64 + s)).first ≡ (node_at b' (v * 64 + s)).first) × ((node_at b (v * 64 + s)).count ≡ (node_at b' (v * 64 + s)).count)
  unfolding walk
  heads v s lv ls lk Absent p p' z = absurd (z refl)
  heads v s lv ls lk (Defect w) p p' z =
      let x = C.defect (v * 64 + s) w lk p in
      let y = C'.defect (v * 64 + s) w lk p' in
      (x.0 ∙ sym y.0, x.1 ∙ sym y.1)
  heads v s lv ls lk Blossom p p' z =
      let k = v * 64 + s in
      let r = rings_same v s lv ls p in
      (walks (node_at b) (node_at b') (node_at b k).count (node_at b k).first (node_at b' k).count (node_at b' k).first r 0 (C.ring k lk p), long (node_at b) (node_at b') (node_at b k).count (node_at b k).first (node_at b' k).count (node_at b' k).first r)

  slot_node : (v s : ℕ) → v < 8 → s < 64 → node_at b (v * 64 + s) ≡ node_at b' (v * 64 + s)
  slot_node v s lv l64 = go (dec_lt s (interface_at b v).used)
    where
      k : ℕ
      k = v * 64 + s

      lk : k < 512
      lk = omega arith

      t : ℕ
      t = sum_up 8 (interface_at b) v

      held : Alike (node_at b k) (node_at b' k) t (circle_of (node_at b) k) (circle_of (node_at b') k) → s < (interface_at b v).used → node_at b k ≡ node_at b' k
      held w ls =
          let here' : (node_at b' k).class ≡ Absent → ⊥ = λ z. w.present (w.class ∙ z) in
          let tl : t ≤ 8796093022208 = omega (arith, sum_up_le b C.steady 8 v lv) in
          let x = ranged b C.steady near v s lv ls w.present in
          let y = ranged b' C'.steady (subst Within e near) v s lv (subst (λ (x : Interface). s < x.used) (interface_same v lv) ls) here' in
          let bi : (node_at b k).bias ≡ (node_at b' k).bias = bias_inj (node_at b k).state (node_at b k).bias (node_at b' k).bias t (omega (arith, x.least)) (omega (arith, y.least)) (w.value ∙ ap (λ (g : GrowState). value_by g (node_at b' k).bias t) (sym w.state)) in
          let h = heads v s lv ls lk (node_at b k).class refl (sym w.class) w.present in
          let li = links k lk (node_at b k).parent refl (sym w.parent) in
          λ i. record {
            serial = w.serial i;
            class = w.class i;
            state = w.state i;
            parent = w.parent i;
            place = li.place i;
            next = li.next i;
            left = li.left i;
            right = li.right i;
            bias = bi i;
            size = w.size i;
            first = h.0 i;
            count = h.1 i;
          }

      either : (((node_at b k).class ≡ Absent) × ((node_at b' k).class ≡ Absent)) ⊎ Alike (node_at b k) (node_at b' k) t (circle_of (node_at b) k) (circle_of (node_at b') k) → s < (interface_at b v).used → node_at b k ≡ node_at b' k
      either (inl w) ls = C.empty k lk w.0 ∙ sym (C'.empty k lk w.1)
      either (inr w) ls = held w ls

      go : Dec (s < (interface_at b v).used) → node_at b k ≡ node_at b' k
      go (yes ls) = either (seen_inj (node_at b k) (node_at b' k) t (circle_of (node_at b) k) (circle_of (node_at b') k) (slot_same v s lv ls)) ls
      go (no q) = C.past v s lv l64 (omega (arith, q)) ∙ sym (C'.past v s lv l64 (omega (arith, q, ap (λ (x : Interface). x.used) (interface_same v lv))))

  node_same : (k : ℕ) → k < 512 → node_at b k ≡ node_at b' k
  node_same k l =
      let z : k / 64 * 64 + k % 64 ≡ k = omega arith in
      subst (λ (x : ℕ). node_at b x ≡ node_at b' x) z (slot_node (k / 64) (k % 64) (omega arith) (omega arith))

  interface_word : (m : ℕ) → 0 < m → m ≤ 128 → ((m - 1) % 16 < 7) → get_or b m 0 ≡ get_or b' m 0
  interface_word m z l h =
      let u = (m - 1) / 16 in
      let j = (m - 1) % 16 in
      let lu : u < 8 = omega arith in
      let lj : j < 7 = omega arith in
      let q : ibase u + (1 + j) ≡ m = omega arith in
      subst (λ (x : ℕ). get_or b x 0 ≡ get_or b' x 0) q
      (C.coded.units u lu j lj ∙ ap (λ (x : Interface). get_or (interface_words x) j 0) (interface_same u lu) ∙ sym (C'.coded.units u lu j lj))

  map_word : (m : ℕ) → 0 < m → m ≤ 128 → (m - 1) % 16 ≡ 7 → get_or b m 0 ≡ get_or b' m 0
  unfolding map_at
  map_word m z l h =
      let u = (m - 1) / 16 in
      let lu : u < 8 = omega arith in
      let q : ibase u + 8 ≡ m = omega arith in
      subst (λ (x : ℕ). get_or b x 0 ≡ get_or b' x 0) q
      (C.map u lu ∙ maps_same (node_at b) (node_at b') u (λ s ls. ap (λ (n : Node). n.class) (sym (slot_node u s lu ls))) ∙ sym (C'.map u lu))

  marks_word_lem : (m : ℕ) → 0 < m → m ≤ 128 → (m - 1) % 16 ≡ 8 → get_or b m 0 ≡ get_or b' m 0
  marks_word_lem m z l h =
      let u = (m - 1) / 16 in
      let lu : u < 8 = omega arith in
      let q : ibase u + 9 ≡ m = omega arith in
      subst (λ (x : ℕ). get_or b x 0 ≡ get_or b' x 0) q (C.coded.marks u lu ∙ ap (λ (x : Interface). marks_word x.marks) (interface_same u lu) ∙ sym (C'.coded.marks u lu))

  node_word_lem : (m : ℕ) → 128 < m → m < 6273 → get_or b m 0 ≡ get_or b' m 0
  node_word_lem m l h =
      let k = (m - 129) / 12 in
      let j = (m - 129) % 12 in
      let lk : k < 512 = omega arith in
      let lj : j < 12 = omega arith in
      let q : base k + (1 + j) ≡ m = omega arith in
      subst (λ (x : ℕ). get_or b x 0 ≡ get_or b' x 0) q
      (C.coded.nodes k lk j lj ∙ ap (λ (x : Node). get_or (node_words x) j 0) (node_same k lk) ∙ sym (C'.coded.nodes k lk j lj))

  low_word : (m : ℕ) → m ≤ 128 → Dec (m ≡ 0) → Dec ((m - 1) % 16 < 7) → Dec ((m - 1) % 16 ≡ 7) → Dec ((m - 1) % 16 ≡ 8) → get_or b m 0 ≡ get_or b' m 0
  low_word m l (yes z) r s t = rw z (sym (view_next (get_or b 0 0) (interface_at b) (node_at b)) ∙ ap (λ (B : Bench). B.next) e ∙ view_next (get_or b' 0 0) (interface_at b') (node_at b'))
  low_word m l (no z) (yes r) s t = interface_word m (omega (arith, z)) l r
  low_word m l (no z) (no r) (yes s) t = map_word m (omega (arith, z)) l s
  low_word m l (no z) (no r) (no s) (yes t) = marks_word_lem m (omega (arith, z)) l t
  low_word m l (no z) (no r) (no s) (no t) = C.coded.spare m (omega (arith, z)) l (omega (arith, r, s, t)) ∙ sym (C'.coded.spare m (omega (arith, z)) l (omega (arith, r, s, t)))

  -- no second answer in words
  pub words_same : b ≡ b'
  words_same = ext_get_or 0 b b' (C.steady.len ∙ sym C'.steady.len)
      (λ m l. by_cases (dec_lt m 129)
      (λ (h : m < 129). low_word m (omega arith) (ℕ_discrete m 0) (dec_lt ((m - 1) % 16) 7) (ℕ_discrete ((m - 1) % 16) 7) (ℕ_discrete ((m - 1) % 16) 8))
      (λ (h : m < 129 → ⊥). node_word_lem m (omega arith) (omega (arith, C.steady.len))))
