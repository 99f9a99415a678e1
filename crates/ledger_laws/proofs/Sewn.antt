-- Every call keeps a bench sewn: serials different and below the next, member and parent linked both ways and once, in one tree, the member staying
-- and older. Each is the law of `Knit` that fits, read by what stands where after the call. Assumes nothing.
use Rattle.std.specs.Prelude.{None, Option, Some}
use Prim.Native.Nat.{ℕ, suc, ◌≤◌, ◌<◌}
use mathlib.Core.Path.{◌≡◌, refl, sym, ◌∙◌, ap, ap₂, subst, fun_ext}
use mathlib.Core.List.{List, [], ◌∷◌}
use native.Mathlib.Omega.{arith}
use native.Mathlib.Decide.{ℕ_discrete}
use lib.ListN.{get_or, length}
use lib.IntN.{ℤ}
use Rattle.ledger_spec.specs.Bench.{Handle, State, Node, Marking, Interface, Bench, set_up}
use Rattle.ledger_spec.specs.Look.{free_slot, slot_of, node_named, top}
use Rattle.ledger_spec.specs.Change.{mark, restate, with_node}
use Rattle.ledger_spec.specs.Deeds.{add_defect, add_blossom, remove_blossom, circle, members, grow_by, grow_slot, join, wipe, choose}
use Rattle.ledger_spec.specs.Frame.{Frame}
use Rattle.ledger_spec.specs.Knit.{At, mk, nodes, In, Down, Knit, Sewn}
use Rattle.ledger_spec.proofs.Lists.{not_in_nil}
use Rattle.ledger_spec.proofs.Knit.{some_eq, none_some, class_apart, blossom_eq}
use Rattle.ledger_spec.proofs.Tops.{climb_none}
use Rattle.ledger_spec.proofs.Passed.{Fusable}
use Rattle.ledger_spec.proofs.Accepted.{DefectPassed, BlossomPassed, ExpandPassed, StatePassed}
use Rattle.ledger_spec.proofs.Readings.{mark_at, mark_off, mark_next}
use Rattle.ledger_spec.proofs.DeedReadings.{bare, defect_node, defect_at, defect_off, defect_next, blossom_node, blossom_at, blossom_member, blossom_off, blossom_next, expand_at, expand_member, expand_off, expand_next}
use Rattle.ledger_spec.proofs.TreeReadings.{joins, grow_next, grow_top, grow_at, grow_off, join_slots, join_next, join_together, wipe_next, wipe_under, wipe_else, wipe_top_else, choose_field, choose_next}
use Rattle.ledger_laws.proofs.KnitAdd.{knit_add}
use Rattle.ledger_laws.proofs.KnitOther.{knit_remove, Like, knit_like, knit_clear}
use Rattle.ledger_laws.proofs.Quiet.{quiet_top, defect_quiet, blossom_quiet, expand_quiet, mark_quiet, choose_quiet}
use Rattle.ledger_laws.proofs.Paced.{inside}
use Rattle.ledger_laws.proofs.Linked.{all_fresh}

-- the same nodes under the same tops
re_top : {at : At} {n : ℕ} (b b' : Bench) → ((w : ℕ) → top b' w ≡ top b w) → Knit at n (top b) → Knit at n (top b')
re_top {at} {n} b b' e = subst (Knit at n) (sym (fun_ext e))

sewn_at : (b b' : Bench) (n : ℕ) → b'.next ≡ n → 1 ≤ n → Knit (slot_of b') n (top b') → Sewn b'
sewn_at b b' n e h K = record { begun = omega (arith, e, h); knit = subst (λ (m : ℕ). Knit (slot_of b') m (top b')) (sym e) K }

-- ---- defect, blossom
pub defect_sewn : (b : Bench) → Frame b → Sewn b → (u v : ℕ) → DefectPassed b u → Sewn (add_defect b u v)
defect_sewn b F S u v P = sewn_at b b' (suc b.next) (defect_next b u v) (omega arith)
    (re_top b b' (quiet_top b b' (defect_quiet b u v))
    (knit_add (slot_of b) (slot_of b') b.next (top b) u (free_slot b u) (defect_node b v) [] S.knit S.begun (bare b u)
    (defect_at b u v low) refl refl (λ ms r. absurd (class_apart refl r)) (λ h i. absurd (not_in_nil i)) (λ h i. absurd (not_in_nil i))
    (λ w t m off. defect_off b u v low w t off) (λ h i. absurd (not_in_nil i)) (λ h i. absurd (not_in_nil i))))
  where
    b' : Bench
    b' = add_defect b u v

    low : u < length b.interfaces
    low = inside b F P.here.low

pub circle_nodes : (hs : List Handle) (ts : List (Handle × Handle)) → nodes (circle hs ts) ≡ hs
unfolding circle
circle_nodes [] ts = refl
circle_nodes (h ∷ hs) [] = ap {B = List Handle} (λ r. h ∷ r) (circle_nodes hs [])
circle_nodes (h ∷ hs) (t ∷ ts) = ap {B = List Handle} (λ r. h ∷ r) (circle_nodes hs ts)

-- a member's place is not the new one
pub away : (b : Bench) (u : ℕ) (hs : List Handle) (ts : List (Handle × Handle)) → BlossomPassed b u hs ts → (h : Handle) → In h hs → h.unit ≡ u → h.slot ≡ free_slot b u → ⊥
away b u hs ts P h i x y = none_some (bare b u) (ap₂ (slot_of b) (sym x) (sym y) ∙ (P.member h i).has.stands)

pub blossom_sewn : (b : Bench) → Frame b → Sewn b → (u : ℕ) (hs : List Handle) (ts : List (Handle × Handle)) → BlossomPassed b u hs ts → Sewn (add_blossom b u hs ts)
blossom_sewn b F S u hs ts P = sewn_at b b' (suc b.next) (blossom_next b u hs ts) (omega arith)
    (re_top b b' (quiet_top b b' (blossom_quiet b u hs ts))
    (knit_add (slot_of b) (slot_of b') b.next (top b) u (free_slot b u) (blossom_node b hs ts) hs S.knit S.begun (bare b u)
    (blossom_at b u hs ts low) refl refl (λ ms r. ap nodes (blossom_eq r refl) ∙ circle_nodes hs ts) (λ h i. (circle hs ts, refl))
    (λ h i. blossom_member b u hs ts low h i (away b u hs ts P h i)) (blossom_off b u hs ts low)
    (λ h i. record { node = (P.member h i).node; has = (P.member h i).has; free = P.orphan h i; near = (P.member h i).near ∙ sym (climb_none 8 b u P.here.free) })
    P.once))
  where
    b' : Bench
    b' = add_blossom b u hs ts

    low : u < length b.interfaces
    low = inside b F P.here.low

-- ---- expand: no member stands where the blossom does
pub far : (b : Bench) → Sewn b → (u : ℕ) (h : Handle) (P : ExpandPassed b u h) (g : Handle) → In g (members (node_named b h)) → h.unit ≡ g.unit → h.slot ≡ g.slot → ⊥
far b S u h P g i x y = none_some P.orphan (ap (λ (m : Node). m.parent) (some_eq P.named.has.stands (ap₂ (slot_of b) x y ∙ D.has.stands)) ∙ D.parent)
  where
    D : Down (slot_of b) g (mk h.unit h.slot P.named.node)
    D = S.knit.down h.unit h.slot P.named.node P.ms g P.named.has.stands P.ring (subst (In g) P.circle i)

pub expand_sewn : (b : Bench) → Sewn b → (u : ℕ) (h : Handle) → ExpandPassed b u h → Sewn (remove_blossom b h)
expand_sewn b S u h P = sewn_at b b' b.next (expand_next b h) S.begun
    (re_top b b' (quiet_top b b' (expand_quiet b h))
    (knit_remove (slot_of b) (slot_of b') b.next (top b) h.unit h.slot P.named.node P.ms S.knit P.named.has.stands P.ring P.orphan
    (expand_at b h (λ g i x y. far b S u h P g i (sym x) (sym y)))
    (λ g i. expand_member b h g (back g i) (far b S u h P g (back g i)))
    (λ w t m off. expand_off b h w t (λ g i. m g (subst (In g) P.circle i)) (λ x y. off (sym x) (sym y)))))
  where
    b' : Bench
    b' = remove_blossom b h

    back : (g : Handle) → In g (nodes P.ms) → In g (members (node_named b h))
    back g i = subst (In g) (sym P.circle) i

-- ---- set state
self_like : (n : Node) → Like n n
self_like n = record { serial = refl; class = refl; parent = refl; state = λ q z. refl }

pub state_sewn : (b : Bench) → Sewn b → (u : ℕ) (h : Handle) (s : State) → StatePassed b u h → Sewn (mark b h s None)
state_sewn b S u h s P = sewn_at b b' b.next (mark_next b h s None) S.begun
    (knit_like (slot_of b) (slot_of b') b.next (top b) (top b') S.knit came went (λ x w z. tops x ∙ z ∙ sym (tops w)))
  where
    b' : Bench
    b' = mark b h s None

    n₀ : Node
    n₀ = P.named.node

    tops : (w : ℕ) → top b' w ≡ top b w
    tops = quiet_top b b' (mark_quiet b h s None)

    stands : slot_of b h.unit h.slot ≡ Some n₀
    stands = P.named.has.stands

    now : slot_of b' h.unit h.slot ≡ Some (with_node n₀ s None)
    now = mark_at b h s None ∙ ap (λ (o : Option Node). restate o s None) stands

    like : Like n₀ (with_node n₀ s None)
    like = record { serial = refl; class = refl; parent = P.orphan; state = λ q z. absurd (none_some P.orphan z) }

    came : (w v : ℕ) (x : Node) → slot_of b' w v ≡ Some x → (n : Node) × (slot_of b w v ≡ Some n) × Like n x
    came w v x k = go (ℕ_discrete h.unit w) (ℕ_discrete h.slot v)
      where
        same : slot_of b' w v ≡ slot_of b w v → (n : Node) × (slot_of b w v ≡ Some n) × Like n x
        same z = (x, sym z ∙ k, self_like x)

        go : Dec (h.unit ≡ w) → Dec (h.slot ≡ v) → (n : Node) × (slot_of b w v ≡ Some n) × Like n x
        go (yes i) (yes j) = (n₀, ap₂ (slot_of b) (sym i) (sym j) ∙ stands, subst (Like n₀) (some_eq (ap₂ (slot_of b') (sym i) (sym j) ∙ now) k) like)
        go (yes i) (no j) = same (mark_off b h s None w v (λ a c. j c))
        go (no i) j = same (mark_off b h s None w v (λ a c. i a))

    went : (w v : ℕ) (n : Node) → slot_of b w v ≡ Some n → (x : Node) × (slot_of b' w v ≡ Some x) × Like n x
    went w v n k = go (ℕ_discrete h.unit w) (ℕ_discrete h.slot v)
      where
        same : slot_of b' w v ≡ slot_of b w v → (x : Node) × (slot_of b' w v ≡ Some x) × Like n x
        same z = (n, z ∙ k, self_like n)

        go : Dec (h.unit ≡ w) → Dec (h.slot ≡ v) → (x : Node) × (slot_of b' w v ≡ Some x) × Like n x
        go (yes i) (yes j) = (with_node n₀ s None, ap₂ (slot_of b') (sym i) (sym j) ∙ now, subst (λ (m : Node). Like m (with_node n₀ s None)) (some_eq stands (ap₂ (slot_of b) i j ∙ k)) like)
        go (yes i) (no j) = same (mark_off b h s None w v (λ a c. j c))
        go (no i) j = same (mark_off b h s None w v (λ a c. i a))

-- ---- grow
grow_like : (l : ℤ) (n : Node) → (x : Node) × (grow_slot l (Some n) ≡ Some x) × Like n x
unfolding grow_slot
grow_like l n = (_, refl, record { serial = refl; class = refl; parent = refl; state = λ q z. refl })

grow_none : (l : ℤ) (o : Option Node) (x : Node) → grow_slot l o ≡ Some x → (n : Node) × (o ≡ Some n) × Like n x
unfolding grow_slot
grow_none l None x e = absurd (none_some refl e)
grow_none l (Some n) x e = (n, refl, subst (Like n) (some_eq refl e) (record { serial = refl; class = refl; parent = refl; state = λ q z. refl }))

pub grow_sewn : (b : Bench) → Sewn b → (u : ℕ) (l : ℤ) → Sewn (grow_by b u l)
grow_sewn b S u l = sewn_at b b' b.next (grow_next b u l) S.begun
    (knit_like (slot_of b) (slot_of b') b.next (top b) (top b') S.knit came went (λ x w z. grow_top b u l x ∙ z ∙ sym (grow_top b u l w)))
  where
    b' : Bench
    b' = grow_by b u l

    came : (w v : ℕ) (x : Node) → slot_of b' w v ≡ Some x → (n : Node) × (slot_of b w v ≡ Some n) × Like n x
    came w v x k = go (ℕ_discrete (top b w) u)
      where
        go : Dec (top b w ≡ u) → (n : Node) × (slot_of b w v ≡ Some n) × Like n x
        go (yes e) = grow_none l (slot_of b w v) x (sym (grow_at b u l w v e) ∙ k)
        go (no e) = (x, sym (grow_off b u l w v e) ∙ k, self_like x)

    went : (w v : ℕ) (n : Node) → slot_of b w v ≡ Some n → (x : Node) × (slot_of b' w v ≡ Some x) × Like n x
    went w v n k = go (ℕ_discrete (top b w) u)
      where
        go : Dec (top b w ≡ u) → (x : Node) × (slot_of b' w v ≡ Some x) × Like n x
        go (yes e) = let g = grow_like l n in (g.0, grow_at b u l w v e ∙ ap (grow_slot l) k ∙ g.1, g.2)
        go (no e) = (n, grow_off b u l w v e ∙ k, self_like n)

-- ---- fuse
pub fuse_sewn : (b : Bench) → Frame b → Sewn b → (p l r : ℕ) → Fusable b p l r → Sewn (join b p l r)
fuse_sewn b F S p l r f = sewn_at b j b.next (join_next b p l r (joins F f)) S.begun
    (knit_like (slot_of b) (slot_of j) b.next (top b) (top j) S.knit (λ w v x k. (x, sym (slots w v) ∙ k, self_like x)) (λ w v n k. (n, slots w v ∙ k, self_like n)) (join_together b F p l r f))
  where
    j : Bench
    j = join b p l r

    slots : (w v : ℕ) → slot_of j w v ≡ slot_of b w v
    slots w v = ap (λ (s : List (Option Node)). get_or s v None) (join_slots b p l r (joins F f) w)

-- ---- mark
pub choose_slot : (b : Bench) (u : ℕ) (k : Marking) (w v : ℕ) → slot_of (choose b u k) w v ≡ slot_of b w v
choose_slot b u k w v = ap (λ (s : List (Option Node)). get_or s v None) (choose_field b u k (λ f. f.slots) (λ f m. refl) w)

pub choose_sewn : (b : Bench) → Sewn b → (u : ℕ) (k : Marking) → Sewn (choose b u k)
choose_sewn b S u k = sewn_at b c b.next (choose_next b u k) S.begun
    (knit_like (slot_of b) (slot_of c) b.next (top b) (top c) S.knit (λ w v x e. (x, sym (choose_slot b u k w v) ∙ e, self_like x)) (λ w v n e. (n, choose_slot b u k w v ∙ e, self_like n)) (λ x w z. tops x ∙ z ∙ sym (tops w)))
  where
    c : Bench
    c = choose b u k

    tops : (w : ℕ) → top c w ≡ top b w
    tops = quiet_top b c (choose_quiet b u k)

-- ---- clear
pub clear_sewn : (b : Bench) → Frame b → Sewn b → (u : ℕ) → Sewn (wipe b u)
clear_sewn b F S u = sewn_at b (wipe b u) b.next (wipe_next b u) S.begun
    (knit_clear (slot_of b) (slot_of (wipe b u)) b.next (top b) (top (wipe b u)) u S.knit
    (λ w v e. ap (λ (f : Interface). get_or f.slots v None) (wipe_under b u w e)) (λ w v e. ap (λ (f : Interface). get_or f.slots v None) (wipe_else b u w e)) (wipe_top_else b u F))

-- ---- set-up: no nodes
pub opened_empty : (n u s : ℕ) → slot_of (set_up n) u s ≡ None
opened_empty n u s = ap (λ (f : Interface). get_or f.slots s None) (all_fresh 8 u)

pub opened_sewn : (n : ℕ) → 1 ≤ n → Sewn (set_up n)
opened_sewn n h = record {
  begun = h;
  knit = record {
    low = λ u s m e. absurd (none_some (opened_empty n u s) e);
    one = λ u s u' s' m m' e e' k. absurd (none_some (opened_empty n u s) e);
    up = λ u s m q e f. absurd (none_some (opened_empty n u s) e);
    down = λ u s m ms g e r i. absurd (none_some (opened_empty n u s) e);
  };
}
