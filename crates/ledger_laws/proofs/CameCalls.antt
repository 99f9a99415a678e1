-- After each call every node is one that stood before, or the new one: read slot by slot. Assumes nothing.
use Rattle.std.specs.Prelude.{None, Option, Some}
use Prim.Native.Nat.{ℕ, suc, ◌<◌}
use mathlib.Core.Path.{◌≡◌, refl, sym, ◌∙◌, ap, ap₂, subst}
use mathlib.Core.Logic.{◌≢◌, ◌⊎◌, inl, inr}
use mathlib.Core.Bool.{Bool, true, false}
use mathlib.Core.List.{List, [], ◌∷◌}
use native.Mathlib.Omega.{arith}
use native.Mathlib.Decide.{ℕ_discrete}
use lib.Dec.{eqb}
use borrow.Author.Tests.{eq-eqb, ne_eqb}
use lib.ListN.{get_or, length}
use lib.IntN.{ℤ, nat_abs, ◌*ℤ◌}
use Rattle.ledger_spec.specs.Bench.{Handle, State, rate, stays, grows, Member, defect, Node, Marking, Interface, Bench}
use Rattle.ledger_spec.specs.Look.{free_slot, slot_of, node_named, top}
use Rattle.ledger_spec.specs.Change.{mark, restate, with_node}
use Rattle.ledger_spec.specs.Tests.{both}
use Rattle.ledger_spec.specs.Deeds.{new_handle, add_defect, circle, size_of, sizes, add_blossom, members, remove_blossom, grow_slot, grow_by, join, wipe, choose}
use Rattle.ledger_spec.specs.Frame.{Frame}
use Rattle.ledger_spec.specs.Knit.{In, here, there, Has, Sewn}
use Rattle.ledger_spec.specs.Facts.{Touching, Circle, Ring, Sound}
use Rattle.ledger_spec.proofs.Range.{abs_step}
use Rattle.ledger_spec.proofs.Lists.{not_in_nil, in_cases}
use Rattle.ledger_spec.proofs.Knit.{some_eq, none_some, class_apart, blossom_eq, Place, hit, miss, place_in}
use Rattle.ledger_spec.proofs.Passed.{Fusable, has_node}
use Rattle.ledger_spec.proofs.Accepted.{Named, DefectPassed, BlossomPassed, ExpandPassed}
use Rattle.ledger_spec.proofs.Gathered.{held_unit, held_slot}
use Rattle.ledger_spec.proofs.Readings.{mark_at, mark_off}
use Rattle.ledger_spec.proofs.DeedReadings.{bare, defect_node, defect_at, defect_off, blossom_node, blossom_at, blossom_member, blossom_off, blossom_next, expand_at, expand_member, expand_off}
use Rattle.ledger_spec.proofs.TreeReadings.{joins, grow_at, grow_off, join_slots, wipe_under, wipe_else}
use Rattle.ledger_laws.proofs.Paced.{inside}
use Rattle.ledger_laws.proofs.Sewn.{circle_nodes, away, far, choose_slot}
use Rattle.ledger_laws.proofs.Stems.{Stem, New, Came, stem_same, stem_restated, sizes_same}

-- nothing moves
abbrev pub still : ℕ → ℕ
still u = 0

-- ---- defect
defect_ring : (b : Bench) (n : Node) (v : ℕ) → n.class ≡ defect v → n.size ≡ 1 → Ring b n
defect_ring b n v c z = record { single = λ w r. z; circle = λ ms r. absurd (class_apart c r) }

pub defect_came : (b : Bench) → Frame b → (u v : ℕ) → DefectPassed b u → Came b (add_defect b u v) still
defect_came b F u v P w s x e = go (ℕ_discrete w u) (ℕ_discrete s (free_slot b u))
  where
    low : u < length b.interfaces
    low = inside b F P.here.low

    kept : (w ≡ u → s ≡ free_slot b u → ⊥) → Stem b 0 w s x ⊎ New b (add_defect b u v) w s x
    kept off = inl (stem_same b (add_defect b u v) w s x (defect_off b u v low w s off) e)

    go : Dec (w ≡ u) → Dec (s ≡ free_slot b u) → Stem b 0 w s x ⊎ New b (add_defect b u v) w s x
    go (yes p) (yes q) = inr (record {
      bare = ap₂ (slot_of b) p q ∙ bare b u;
      serial = ap (λ (n : Node). n.serial) x_is;
      ring = defect_ring (add_defect b u v) x v (ap (λ (n : Node). n.class) x_is) (ap (λ (n : Node). n.size) x_is);
      value = ap (λ (n : Node). n.value) x_is;
    })
      where
        x_is : x ≡ defect_node b v
        x_is = some_eq e (ap₂ (slot_of (add_defect b u v)) p q ∙ defect_at b u v low)
    go (yes p) (no q) = kept (λ a c. q c)
    go (no p) q = kept (λ a c. p a)

-- ---- blossom
circle_length : (hs : List Handle) (ts : List (Handle × Handle)) → length (circle hs ts) ≡ length hs
unfolding circle
circle_length [] ts = refl
circle_length (h ∷ hs) [] = ap suc (circle_length hs [])
circle_length (h ∷ hs) (t ∷ ts) = ap suc (circle_length hs ts)

-- a member touches by itself or by the handles given for it
circle_touch : (hs : List Handle) (ts : List (Handle × Handle)) (P : Handle → Type 0) → ((h : Handle) → In h hs → P h) → ((h : Handle) → In h (both ts) → P h) → (m : Member) → In m (circle hs ts) → P m.touch.0 × P m.touch.1
unfolding circle both
circle_touch [] ts P p q m i = absurd (not_in_nil i)
circle_touch (h ∷ hs) [] P p q m i = go (in_cases i) (circle_touch hs [] P (λ g j. p g (there j)) q m)
  where
    go : (m ≡ record { node = h; touch = (h, h) }) ⊎ In m (circle hs []) → (In m (circle hs []) → P m.touch.0 × P m.touch.1) → P m.touch.0 × P m.touch.1
    go (inl e) ih = subst (λ (m : Member). P m.touch.0 × P m.touch.1) (sym e) (p h (here refl), p h (here refl))
    go (inr j) ih = ih j
circle_touch (h ∷ hs) (t ∷ ts) P p q m i = go (in_cases i) (circle_touch hs ts P (λ g j. p g (there j)) (λ g j. q g (there (there j))) m)
  where
    go : (m ≡ record { node = h; touch = t }) ⊎ In m (circle hs ts) → (In m (circle hs ts) → P m.touch.0 × P m.touch.1) → P m.touch.0 × P m.touch.1
    go (inl e) ih = subst (λ (m : Member). P m.touch.0 × P m.touch.1) (sym e) (q t.0 (here refl), q t.1 (there (here refl)))
    go (inr j) ih = ih j

-- a present node's handle is in range
pub named_touch : (b : Bench) → Sound b → (h : Handle) (n : Node) → Has (slot_of b) h n → Touching b h
named_touch b S h n H = record {
  unit = omega (arith, held_unit b S.frame h.unit h.slot n H.stands);
  slot = omega (arith, held_slot b S.frame h.unit h.slot n H.stands, S.few h.unit);
  serial = omega (arith, S.sewn.knit.low h.unit h.slot n H.stands, H.serial);
}

module _ (b : Bench) (S : Sound b) (u : ℕ) (hs : List Handle) (ts : List (Handle × Handle)) (P : BlossomPassed b u hs ts) where
  abbrev b' : Bench
  b' = add_blossom b u hs ts

  low : u < length b.interfaces
  low = inside b S.frame P.here.low

  -- a member has its size still
  member_size : (h : Handle) → In h hs → size_of (node_named b' h) ≡ size_of (node_named b h)
  member_size h i = ap size_of (has_node b' h (with_node N.node stays (Some (new_handle b u))) (record { stands = blossom_member b u hs ts low h i (away b u hs ts P h i) ∙ ap (λ (o : Option Node). restate o stays (Some (new_handle b u))) N.has.stands; serial = N.has.serial })) ∙ ap size_of (sym N.is)
    where
      N : Named b u h
      N = P.member h i

  later : (h : Handle) → Touching b h → Touching b' h
  later h T = record { unit = T.unit; slot = T.slot; serial = omega (arith, T.serial, blossom_next b u hs ts) }

  new_circle : Circle b' (blossom_node b hs ts) (circle hs ts)
  new_circle = record {
    least = omega (arith, circle_length hs ts, P.least);
    most = omega (arith, circle_length hs ts, P.most);
    size = sym (ap (sizes b') (circle_nodes hs ts) ∙ sizes_same b b' hs member_size);
    touching = circle_touch hs ts (Touching b') (λ h i. later h (named_touch b S h (P.member h i).node (P.member h i).has)) (λ h i. later h (named_touch b S h (P.touch h i).node (P.touch h i).has));
  }

  new_ring : Ring b' (blossom_node b hs ts)
  new_ring = record { single = λ v r. absurd (class_apart r refl); circle = λ ms r. subst (Circle b' (blossom_node b hs ts)) (blossom_eq refl r) new_circle }

  pub blossom_came : Came b b' still
  blossom_came w s x e = go (place_in hs w s) (ℕ_discrete w u) (ℕ_discrete s (free_slot b u))
    where
      kept : ((h : Handle) → In h hs → h.unit ≡ w → h.slot ≡ s → ⊥) → (w ≡ u → s ≡ free_slot b u → ⊥) → Stem b 0 w s x ⊎ New b b' w s x
      kept m off = inl (stem_same b b' w s x (blossom_off b u hs ts low w s m off) e)

      go : Place hs w s → Dec (w ≡ u) → Dec (s ≡ free_slot b u) → Stem b 0 w s x ⊎ New b b' w s x
      go (hit h i f g) p q = inl (stem_restated b b' w s x stays (Some (new_handle b u))
          (ap₂ (slot_of b') (sym f) (sym g) ∙ blossom_member b u hs ts low h i (away b u hs ts P h i) ∙ ap₂ (λ (y z : ℕ). restate (slot_of b y z) stays (Some (new_handle b u))) f g) e)
      go (miss m) (yes p) (yes q) = inr (record {
        bare = ap₂ (slot_of b) p q ∙ bare b u;
        serial = ap (λ (n : Node). n.serial) x_is;
        ring = subst (Ring b') (sym x_is) new_ring;
        value = ap (λ (n : Node). n.value) x_is;
      })
        where
          x_is : x ≡ blossom_node b hs ts
          x_is = some_eq e (ap₂ (slot_of b') p q ∙ blossom_at b u hs ts low)
      go (miss m) (yes p) (no q) = kept m (λ a c. q c)
      go (miss m) (no p) q = kept m (λ a c. p a)

-- ---- expand
pub expand_came : (b : Bench) → Sewn b → (u : ℕ) (h : Handle) → ExpandPassed b u h → Came b (remove_blossom b h) still
expand_came b S u h P w s x e = go (place_in (members (node_named b h)) w s) (ℕ_discrete h.unit w) (ℕ_discrete h.slot s)
  where
    b'' : Bench
    b'' = remove_blossom b h

    go : Place (members (node_named b h)) w s → Dec (h.unit ≡ w) → Dec (h.slot ≡ s) → Stem b 0 w s x ⊎ New b b'' w s x
    go (hit g i f k) p q = inl (stem_restated b b'' w s x grows None
        (ap₂ (slot_of b'') (sym f) (sym k) ∙ expand_member b h g i (far b S u h P g i) ∙ ap₂ (λ (y z : ℕ). restate (slot_of b y z) grows None) f k) e)
    go (miss m) (yes p) (yes q) = absurd (none_some (expand_at b h (λ g i y z. far b S u h P g i (sym y) (sym z))) (ap₂ (slot_of b'') p q ∙ e))
    go (miss m) (yes p) (no q) = inl (stem_same b b'' w s x (expand_off b h w s m (λ a c. q c)) e)
    go (miss m) (no p) q = inl (stem_same b b'' w s x (expand_off b h w s m (λ a c. p a)) e)

-- ---- set state
pub state_came : (b : Bench) (h : Handle) (t : State) (p : Option Handle) → Came b (mark b h t p) still
state_came b h t p w s x e = go (ℕ_discrete h.unit w) (ℕ_discrete h.slot s)
  where
    go : Dec (h.unit ≡ w) → Dec (h.slot ≡ s) → Stem b 0 w s x ⊎ New b (mark b h t p) w s x
    go (yes i) (yes j) = inl (stem_restated b (mark b h t p) w s x t p (ap₂ (slot_of (mark b h t p)) (sym i) (sym j) ∙ mark_at b h t p ∙ ap₂ (λ (y z : ℕ). restate (slot_of b y z) t p) i j) e)
    go (yes i) (no j) = inl (stem_same b (mark b h t p) w s x (mark_off b h t p w s (λ a c. j c)) e)
    go (no i) j = inl (stem_same b (mark b h t p) w s x (mark_off b h t p w s (λ a c. i a)) e)

-- ---- grow: values of the tree move by the length
moved : ℕ → Bool → ℕ
moved d true = d
moved d false = 0

pub grown : Bench → ℕ → ℤ → ℕ → ℕ
grown b u l w = moved (nat_abs l) (eqb (top b w) u)

pub grown_here : (b : Bench) (u : ℕ) (l : ℤ) (w : ℕ) → top b w ≡ u → grown b u l w ≡ nat_abs l
unfolding grown moved
grown_here b u l w e = ap (moved (nat_abs l)) (eq-eqb (top b w) u e)

pub grown_else : (b : Bench) (u : ℕ) (l : ℤ) (w : ℕ) → top b w ≢ u → grown b u l w ≡ 0
unfolding grown moved
grown_else b u l w e = ap (moved (nat_abs l)) (ne_eqb (top b w) u e)

stem_grown : (b : Bench) (l : ℤ) (u s : ℕ) (x : Node) → grow_slot l (slot_of b u s) ≡ Some x → Stem b (nat_abs l) u s x
unfolding grow_slot
stem_grown b l u s x k = go (slot_of b u s) refl k
  where
    go : (o : Option Node) → slot_of b u s ≡ o → grow_slot l o ≡ Some x → Stem b (nat_abs l) u s x
    go None f z = absurd (none_some refl z)
    go (Some n) f z = let y = some_eq refl z in
        record {
          node = n;
          stood = f;
          serial = ap (λ (m : Node). m.serial) y;
          class = ap (λ (m : Node). m.class) y;
          size = ap (λ (m : Node). m.size) y;
          move = l *ℤ rate n.state;
          small = abs_step l n.state;
          value = sym (ap (λ (m : Node). m.value) y);
        }

pub grow_came : (b : Bench) (u : ℕ) (l : ℤ) → Came b (grow_by b u l) (grown b u l)
grow_came b u l w s x e = go (ℕ_discrete (top b w) u)
  where
    go : Dec (top b w ≡ u) → Stem b (grown b u l w) w s x ⊎ New b (grow_by b u l) w s x
    go (yes p) = inl (subst (λ (d : ℕ). Stem b d w s x) (sym (grown_here b u l w p)) (stem_grown b l w s x (sym (grow_at b u l w s p) ∙ e)))
    go (no p) = inl (subst (λ (d : ℕ). Stem b d w s x) (sym (grown_else b u l w p)) (stem_same b (grow_by b u l) w s x (grow_off b u l w s p) e))

-- ---- fuse, mark, clear
pub fuse_came : (b : Bench) → Frame b → (p l r : ℕ) → Fusable b p l r → Came b (join b p l r) still
fuse_came b F p l r f w s x e = inl (stem_same b (join b p l r) w s x (ap (λ (y : List (Option Node)). get_or y s None) (join_slots b p l r (joins F f) w)) e)

pub choose_came : (b : Bench) (u : ℕ) (k : Marking) → Came b (choose b u k) still
choose_came b u k w s x e = inl (stem_same b (choose b u k) w s x (choose_slot b u k w s) e)

pub clear_came : (b : Bench) (u : ℕ) → Came b (wipe b u) still
clear_came b u w s x e = go (ℕ_discrete (top b w) u)
  where
    go : Dec (top b w ≡ u) → Stem b 0 w s x ⊎ New b (wipe b u) w s x
    go (yes p) = absurd (none_some (ap (λ (f : Interface). get_or f.slots s None) (wipe_under b u w p)) e)
    go (no p) = inl (stem_same b (wipe b u) w s x (ap (λ (f : Interface). get_or f.slots s None) (wipe_else b u w p)) e)
