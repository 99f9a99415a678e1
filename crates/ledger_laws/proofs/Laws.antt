-- Demand 3's laws of what the calls do: growing twice is growing by the sum, and growing two halves and fusing them is fusing and growing. Assumes nothing.
use Rattle.std.specs.Prelude.{None, Option, Some}
use Prim.Native.Nat.{ℕ, ◌<◌}
use mathlib.Core.Path.{◌≡◌, refl, sym, ◌∙◌, ap, ap₂, subst}
use mathlib.Core.Logic.{◌≢◌}
use mathlib.Core.Bool.{Bool, true, false}
use mathlib.Core.List.{List, [], ◌∷◌, map}
use native.Mathlib.Omega.{arith}
use native.Mathlib.Decide.{ℕ_discrete}
use lib.Dec.{eqb}
use lib.ListN.{length}
use lib.Seq.{ext_get_or}
use lib.IntN.{ℤ, ◌+ℤ◌, ◌*ℤ◌, +ℤ_assoc}
use Rattle.ledger_spec.specs.Bench.{Node, rate, Marks, Interface, Bench, fresh, with_progress, with_sum, with_slots}
use Rattle.ledger_spec.specs.Look.{interface, top}
use Rattle.ledger_spec.specs.Deeds.{grow_slot, grow_by, join}
use Rattle.ledger_spec.specs.Account.{Alike}
use Rattle.ledger_spec.specs.Frame.{Frame}
use Rattle.ledger_spec.proofs.Ints.{*ℤ_dist_r, *ℤ_dist_l, swap_mid}
use Rattle.ledger_spec.proofs.Knit.{none_some}
use Rattle.ledger_spec.proofs.Tops.{alone}
use Rattle.ledger_spec.proofs.Passed.{Fusable}
use Rattle.ledger_spec.proofs.TreeReadings.{in_tree, at_top, grow_interface, grow_parent, grow_halves, grow_marks, grow_speed, grow_top, grow_length, grow_next, grow_plain, grow_under, grow_else, grow_sum, grow_sum_else, Joins, joins, join_slots, join_else, join_kept, join_l, join_r, join_p, join_length, join_next, join_top_l, join_top_r, join_top_else}
use Rattle.ledger_laws.proofs.Paced.{inside}

-- ---- growing twice
-- x + a·r + c·r is x + (a + c)·r
twice_more : (x a c r : ℤ) → (x +ℤ a *ℤ r) +ℤ c *ℤ r ≡ x +ℤ (a +ℤ c) *ℤ r
twice_more x a c r = +ℤ_assoc x (a *ℤ r) (c *ℤ r) ∙ ap (λ (z : ℤ). x +ℤ z) (sym (*ℤ_dist_r a c r))

slot_twice : (a c : ℤ) (o : Option Node) → grow_slot c (grow_slot a o) ≡ grow_slot (a +ℤ c) o
unfolding grow_slot
slot_twice a c None = refl
slot_twice a c (Some n) = λ i. Some (record { serial = n.serial; class = n.class; state = n.state; parent = n.parent; value = twice_more n.value a c (rate n.state) i; size = n.size })

slots_twice : (a c : ℤ) (l : List (Option Node)) → map (grow_slot c) (map (grow_slot a) l) ≡ map (grow_slot (a +ℤ c)) l
slots_twice a c [] = refl
slots_twice a c (x ∷ xs) = ap₂ ◌∷◌ (slot_twice a c x) (slots_twice a c xs)

grown_twice : (a c : ℤ) (x y : Bool) (f : Interface) → at_top y c (in_tree x c (at_top y a (in_tree x a f))) ≡ at_top y (a +ℤ c) (in_tree x (a +ℤ c) f)
grown_twice a c true true f = λ i. with_sum (with_progress (with_slots f (slots_twice a c f.slots i)) (+ℤ_assoc f.progress a c i)) (twice_more f.sum a c f.speed i)
grown_twice a c true false f = ap (with_slots f) (slots_twice a c f.slots)
grown_twice a c false true f = λ i. with_sum (with_progress f (+ℤ_assoc f.progress a c i)) (twice_more f.sum a c f.speed i)
grown_twice a c false false f = refl

-- the whole bench, of any bench
pub grow_grow : (b : Bench) (u : ℕ) (a c : ℤ) → grow_by (grow_by b u a) u c ≡ grow_by b u (a +ℤ c)
grow_grow b u a c = λ i. record { next = nexts i; interfaces = ext_get_or fresh (grow_by b₁ u c).interfaces (grow_by b u (a +ℤ c)).interfaces (long ∙ sym (grow_length b u (a +ℤ c))) (λ w h. at w (subst (λ (n : ℕ). w < n) long h)) i; plain = plains i }
  where
    b₁ : Bench
    b₁ = grow_by b u a

    long : length (grow_by b₁ u c).interfaces ≡ length b.interfaces
    long = grow_length b₁ u c ∙ grow_length b u a

    nexts : (grow_by b₁ u c).next ≡ (grow_by b u (a +ℤ c)).next
    nexts = grow_next b₁ u c ∙ grow_next b u a ∙ sym (grow_next b u (a +ℤ c))

    plains : (grow_by b₁ u c).plain ≡ (grow_by b u (a +ℤ c)).plain
    plains = grow_plain b₁ u c ∙ grow_plain b u a ∙ sym (grow_plain b u (a +ℤ c))

    at : (w : ℕ) → w < length b.interfaces → interface (grow_by b₁ u c) w ≡ interface (grow_by b u (a +ℤ c)) w
    at w h = grow_interface b₁ u c w (omega (arith, h, grow_length b u a)) x y (ap (λ (t : ℕ). eqb t u) (grow_top b u a w)) refl
        ∙ ap (λ (f : Interface). at_top y c (in_tree x c f)) (grow_interface b u a w h x y refl refl)
        ∙ grown_twice a c x y (interface b w) ∙ sym (grow_interface b u (a +ℤ c) w h x y refl refl)
      where
        x : Bool
        x = eqb (top b w) u

        y : Bool
        y = eqb w u

-- ---- growing two halves and fusing, or fusing and growing
grown_nil : (a : ℤ) (l : List (Option Node)) → l ≡ [] → map (grow_slot a) l ≡ l
grown_nil a l e = ap (map (grow_slot a)) e ∙ sym e

module _ (b : Bench) (F : Frame b) (p l r : ℕ) (a : ℤ) (f : Fusable b p l r) where
  abbrev b₁ : Bench
  b₁ = grow_by b l a

  abbrev b₂ : Bench
  b₂ = grow_by b₁ r a

  abbrev j : Bench
  j = join b p l r

  J : Joins b p l r
  J = joins F f

  J₂ : Joins b₂ p l r
  J₂ = record { inside = omega (arith, F.eight, f.p<8, grow_length b₁ r a, grow_length b l a); l<p = f.l<p; r<p = f.r<p; l≢r = f.l≢r }

  wide : (w : ℕ) → w < 8 → w < length b.interfaces
  wide w h = inside b F h

  wide₁ : (w : ℕ) → w < 8 → w < length b₁.interfaces
  wide₁ w h = omega (arith, grow_length b l a, wide w h)

  wide_j : (w : ℕ) → w < 8 → w < length j.interfaces
  wide_j w h = omega (arith, join_length b p l r J, wide w h)

  l<8 : l < 8
  l<8 = omega arith

  r<8 : r < 8
  r<8 = omega arith

  parents : (w : ℕ) → (interface b₂ w).parent ≡ (interface b w).parent
  parents w = grow_parent b₁ r a w ∙ grow_parent b l a w

  -- a law of p, of l, of r and of the others is one of each
  four : (P : ℕ → Type 0) → P p → P l → P r → ((w : ℕ) → w ≢ p → w ≢ l → w ≢ r → P w) → (w : ℕ) → P w
  four P at_p at-l at-r at-else w = go (ℕ_discrete w p) (ℕ_discrete w l) (ℕ_discrete w r)
    where
      go : Dec (w ≡ p) → Dec (w ≡ l) → Dec (w ≡ r) → P w
      go (yes x) y z = subst P (sym x) at_p
      go (no x) (yes y) z = subst P (sym y) at-l
      go (no x) (no y) (yes z) = subst P (sym z) at-r
      go (no x) (no y) (no z) = at-else w x y z

  join_parent : (w : ℕ) → (interface (join b₂ p l r) w).parent ≡ (interface j w).parent
  join_parent = four (λ w. (interface (join b₂ p l r) w).parent ≡ (interface j w).parent)
      (ap (λ (f : Interface). f.parent) (join_p b₂ p l r J₂) ∙ sym (ap (λ (f : Interface). f.parent) (join_p b p l r J)))
      (join_l b₂ p l r J₂ ∙ sym (join_l b p l r J)) (join_r b₂ p l r J₂ ∙ sym (join_r b p l r J))
      (λ w x y z. ap (λ (f : Interface). f.parent) (join_else b₂ p l r J₂ w x y z) ∙ parents w ∙ sym (ap (λ (f : Interface). f.parent) (join_else b p l r J w x y z)))

  join_halves : (w : ℕ) → (interface (join b₂ p l r) w).halves ≡ (interface j w).halves
  join_halves w = go (ℕ_discrete w p)
    where
      go : Dec (w ≡ p) → (interface (join b₂ p l r) w).halves ≡ (interface j w).halves
      go (yes x) = subst (λ (m : ℕ). (interface (join b₂ p l r) m).halves ≡ (interface j m).halves) (sym x) (ap (λ (f : Interface). f.halves) (join_p b₂ p l r J₂) ∙ sym (ap (λ (f : Interface). f.halves) (join_p b p l r J)))
      go (no x) = join_kept b₂ p l r J₂ (λ f. f.halves) (λ f q. refl) w x ∙ grow_halves b₁ r a w ∙ grow_halves b l a w ∙ sym (join_kept b p l r J (λ f. f.halves) (λ f q. refl) w x)

  grown_slots : (w : ℕ) → w < 8 → (interface b₂ w).slots ≡ (interface (grow_by j p a) w).slots
  grown_slots w h = go (ℕ_discrete (top b w) l) (ℕ_discrete (top b w) r) (ℕ_discrete (top b w) p)
    where
      keep_j : (interface j w).slots ≡ (interface b w).slots
      keep_j = join_slots b p l r J w

      in_j : top j w ≡ p → (interface (grow_by j p a) w).slots ≡ map (grow_slot a) (interface b w).slots
      in_j e = grow_under j p a w (wide_j w h) e ∙ ap (map (grow_slot a)) keep_j

      plain : top b w ≢ l → top b w ≢ r → (interface b₂ w).slots ≡ (interface b w).slots
      plain x y = grow_else b₁ r a w (wide₁ w h) (λ e. y (sym (grow_top b l a w) ∙ e)) ∙ grow_else b l a w (wide w h) x

      go : Dec (top b w ≡ l) → Dec (top b w ≡ r) → Dec (top b w ≡ p) → (interface b₂ w).slots ≡ (interface (grow_by j p a) w).slots
      go (yes x) y z = grow_else b₁ r a w (wide₁ w h) (λ e. f.l≢r (sym x ∙ sym (grow_top b l a w) ∙ e)) ∙ grow_under b l a w (wide w h) x ∙ sym (in_j (join_top_l b F p l r f w x))
      go (no x) (yes y) z = grow_under b₁ r a w (wide₁ w h) (grow_top b l a w ∙ y) ∙ ap (map (grow_slot a)) (grow_else b l a w (wide w h) x) ∙ sym (in_j (join_top_r b F p l r f w y))
      go (no x) (no y) (yes z) = plain x y ∙ sym (grown_nil a (interface b w).slots (ap (λ (m : ℕ). (interface b m).slots) (alone b F p f.no_halves w z) ∙ f.no_slots)) ∙ sym (in_j (join_top_else b F p l r f w x y ∙ z))
      go (no x) (no y) (no z) = plain x y ∙ sym (grow_else j p a w (wide_j w h) (λ e. z (sym (join_top_else b F p l r f w x y) ∙ e)) ∙ keep_j)

  join_marks : (w : ℕ) → (interface (join b₂ p l r) w).marks ≡ (interface j w).marks
  join_marks w = go (ℕ_discrete w p)
    where
      marks : (w : ℕ) → (interface b₂ w).marks ≡ (interface b w).marks
      marks w = grow_marks b₁ r a w ∙ grow_marks b l a w

      go : Dec (w ≡ p) → (interface (join b₂ p l r) w).marks ≡ (interface j w).marks
      go (yes x) = subst (λ (m : ℕ). (interface (join b₂ p l r) m).marks ≡ (interface j m).marks) (sym x) (ap (λ (f : Interface). f.marks) (join_p b₂ p l r J₂) ∙ ap₂ (λ (x y : Marks). record { floored = x.floored; fills = y.fills }) (marks l) (marks p) ∙ sym (ap (λ (f : Interface). f.marks) (join_p b p l r J)))
      go (no x) = join_kept b₂ p l r J₂ (λ f. f.marks) (λ f q. refl) w x ∙ marks w ∙ sym (join_kept b p l r J (λ f. f.marks) (λ f q. refl) w x)

  speeds : (w : ℕ) → (interface b₂ w).speed ≡ (interface b w).speed
  speeds w = grow_speed b₁ r a w ∙ grow_speed b l a w

  join_speed : (w : ℕ) → (interface (join b₂ p l r) w).speed ≡ (interface j w).speed
  join_speed w = go (ℕ_discrete w p)
    where
      go : Dec (w ≡ p) → (interface (join b₂ p l r) w).speed ≡ (interface j w).speed
      go (yes x) = subst (λ (m : ℕ). (interface (join b₂ p l r) m).speed ≡ (interface j m).speed) (sym x) (ap (λ (f : Interface). f.speed) (join_p b₂ p l r J₂) ∙ ap₂ ◌+ℤ◌ (speeds l) (speeds r) ∙ sym (ap (λ (f : Interface). f.speed) (join_p b p l r J)))
      go (no x) = join_kept b₂ p l r J₂ (λ f. f.speed) (λ f q. refl) w x ∙ speeds w ∙ sym (join_kept b p l r J (λ f. f.speed) (λ f q. refl) w x)

  sum_l : (interface b₂ l).sum ≡ (interface b l).sum +ℤ a *ℤ (interface b l).speed
  sum_l = grow_sum_else b₁ r a l f.l≢r ∙ grow_sum b l a (wide l l<8)

  sum_r : (interface b₂ r).sum ≡ (interface b r).sum +ℤ a *ℤ (interface b r).speed
  sum_r = grow_sum b₁ r a (wide₁ r r<8) ∙ ap₂ (λ (x y : ℤ). x +ℤ a *ℤ y) (grow_sum_else b l a r (λ e. f.l≢r (sym e))) (grow_speed b l a r)

  join_sum : (w : ℕ) → (interface (join b₂ p l r) w).parent ≡ None → (interface (join b₂ p l r) w).sum ≡ (interface (grow_by j p a) w).sum
  join_sum = four (λ w. (interface (join b₂ p l r) w).parent ≡ None → (interface (join b₂ p l r) w).sum ≡ (interface (grow_by j p a) w).sum)
      (λ free. ap (λ (f : Interface). f.sum) (join_p b₂ p l r J₂) ∙ ap₂ ◌+ℤ◌ sum_l sum_r ∙ swap_mid (interface b l).sum (a *ℤ (interface b l).speed) (interface b r).sum (a *ℤ (interface b r).speed)
      ∙ ap (λ (z : ℤ). ((interface b l).sum +ℤ (interface b r).sum) +ℤ z) (sym (*ℤ_dist_l a (interface b l).speed (interface b r).speed))
      ∙ sym (grow_sum j p a (wide_j p f.p<8) ∙ ap₂ (λ (x y : ℤ). x +ℤ a *ℤ y) (ap (λ (f : Interface). f.sum) (join_p b p l r J)) (ap (λ (f : Interface). f.speed) (join_p b p l r J))))
      (λ free. absurd (none_some free (join_l b₂ p l r J₂))) (λ free. absurd (none_some free (join_r b₂ p l r J₂)))
      (λ w x y z free. ap (λ (f : Interface). f.sum) (join_else b₂ p l r J₂ w x y z) ∙ grow_sum_else b₁ r a w z ∙ grow_sum_else b l a w y
      ∙ sym (grow_sum_else j p a w x ∙ ap (λ (f : Interface). f.sum) (join_else b p l r J w x y z)))

  pub grow_fuse : Alike (join (grow_by (grow_by b l a) r a) p l r) (grow_by (join b p l r) p a)
  grow_fuse = record {
    next = join_next b₂ p l r J₂ ∙ grow_next b₁ r a ∙ grow_next b l a ∙ sym (grow_next j p a ∙ join_next b p l r J);
    slots = λ w h. join_slots b₂ p l r J₂ w ∙ grown_slots w h;
    parent = λ w. join_parent w ∙ sym (grow_parent j p a w);
    halves = λ w. join_halves w ∙ sym (grow_halves j p a w);
    marks = λ w. join_marks w ∙ sym (grow_marks j p a w);
    sum = join_sum;
    speed = λ w free. join_speed w ∙ sym (grow_speed j p a w);
  }
