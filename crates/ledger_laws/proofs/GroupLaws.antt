-- The calls on groups: each leaves a sound group sound, and a refused one leaves it as it was; and (P9) for any two entries and any two stops.
-- Assumes nothing.
use Rattle.std.specs.Prelude.{None, Option, Some}
use Prim.Native.Nat.{ℕ, zero, suc, ◌<◌}
use mathlib.Core.Path.{◌≡◌, refl}
use mathlib.Core.Logic.{◌≢◌}
use mathlib.Core.Bool.{Bool, true, false, not, ◌&&◌, false≢true}
use mathlib.Core.List.{List, [], ◌∷◌}
use native.Mathlib.Omega.{arith}
use borrow.Author.Tests.{le-leb}
use Rattle.kinds.specs.Obstacles.{listable, is_stop}
use Rattle.kinds.specs.declared.Entry.{Entry}
use Rattle.kinds.specs.declared.Stop.{Stop}
use Rattle.kinds.specs.declared.Obstacle.{Obstacle}
use Rattle.ledger_spec.specs.Bench.{Bench}
use Rattle.ledger_spec.specs.Tests.{first, any, is_some}
use Rattle.ledger_spec.specs.Reads.{said}
use Rattle.ledger_spec.specs.Sound.{sound}
use Rattle.ledger_spec.specs.Groups.{Group, growth, conflicts, sound_group, all_listable, rising_from, added, extended, last_of, all_but_last, popped}
use Rattle.ledger_spec.specs.GroupCalls.{take_tests, last_in, after_pop, pop, handles_of, stale_code, vertex_of, or_else, add, group_handles, extend}
use Rattle.ledger_spec.proofs.Lists.{both_true}
use Rattle.ledger_laws.proofs.GroupSound.{added_sound, extended_sound, popped_sound}

-- ---- a value, or what stands for it
module _ {A : Type 0} (P : A → Type 0) where
  said_keeps : (n : ℕ) (v z : A) → P v → P z → P (said n v z).1
  unfolding said
  said_keeps zero v z p q = p
  said_keeps (suc n) v z p q = q

said_refused : {A : Type 0} (n : ℕ) (v z : A) → (said n v z).0 ≢ 0 → (said n v z).1 ≡ z
unfolding said
said_refused zero v z q = absurd (q refl)
said_refused (suc n) v z q = refl

-- ---- pop
after_sound : (g : Group) → sound_group g ≡ true → sound_group (after_pop g) ≡ true
after_sound (growth l f) s = s
after_sound (conflicts l t) s = popped_sound l t s

pub pop_sound : (g : Group) → sound_group g ≡ true → sound_group (pop g).1.1 ≡ true
unfolding pop
pop_sound g s = said_keeps (λ (r : Option Obstacle × Group). sound_group r.1 ≡ true) (first (take_tests g)) (last_in g, after_pop g) (None, g) (after_sound g s) s

pub pop_refused : (g : Group) → (pop g).0 ≢ 0 → (pop g).1 ≡ (None, g)
unfolding pop
pop_refused g q = said_refused (first (take_tests g)) (last_in g, after_pop g) (None, g) q

-- ---- add, extend
else_sound : (o : Option Group) (g : Group) → ((q : Group) → o ≡ Some q → sound_group q ≡ true) → sound_group g ≡ true → sound_group (or_else o g) ≡ true
else_sound None g f s = s
else_sound (Some q) g f s = f q refl

module _ (b : Bench) (g : Group) where
  pub add_sound : (o : Obstacle) → sound_group g ≡ true → sound_group (add b g o).1 ≡ true
  unfolding add
  add_sound o s = said_keeps (λ (q : Group). sound_group q ≡ true) _ (or_else (added g o (vertex_of b o)) g) g (else_sound (added g o (vertex_of b o)) g (λ q. added_sound g o (vertex_of b o) q s) s) s

  pub add_refused : (o : Obstacle) → (add b g o).0 ≢ 0 → (add b g o).1 ≡ g
  unfolding add
  add_refused o q = said_refused (first ((not (sound b && sound_group g), 2) ∷ (any (stale_code b) (handles_of o), 8) ∷ (not (is_some (added g o (vertex_of b o))), 20) ∷ [])) (or_else (added g o (vertex_of b o)) g) g q

  pub extend_sound : (h : Group) → sound_group g ≡ true → sound_group h ≡ true → sound_group (extend b g h).1 ≡ true
  unfolding extend
  extend_sound h s t = said_keeps (λ (q : Group). sound_group q ≡ true) _ (or_else (extended g h) g) g (else_sound (extended g h) g (λ q. extended_sound g h q s t) s) s

  pub extend_refused : (h : Group) → (extend b g h).0 ≢ 0 → (extend b g h).1 ≡ g
  unfolding extend
  extend_refused h q = said_refused (first ((not (sound b && (sound_group g && sound_group h)), 2) ∷ (any (stale_code b) (group_handles h), 8) ∷ (not (is_some (extended g h)), 20) ∷ [])) (or_else (extended g h) g) g q

-- ---- (P9) list c, d, stops x, y at rising vertices: pops give d, c, none, and each takes a stop with it
pop_taken : (l : List Entry) (s : List Stop) → sound_group (conflicts l s) ≡ true → pop (conflicts l s) ≡ (0, (last_of l s, popped l s))
unfolding pop said first take_tests
pop_taken l s e = go (sound_group (conflicts l s)) e
  where
    answer : Bool → ℕ × (Option Obstacle × Group)
    answer t = said (first ((not t, 2) ∷ (false, 10) ∷ [])) (last_of l s, popped l s) (None, conflicts l s)

    go : (t : Bool) → t ≡ true → answer t ≡ (0, (last_of l s, popped l s))
    go true f = refl
    go false f = absurd (false≢true f)

module _ (c d : Entry) (x y : Stop) (hc : listable c.obstacle ≡ true) (hd : listable d.obstacle ≡ true)
    (hx : is_stop x.obstacle ≡ true) (hy : is_stop y.obstacle ≡ true) (up : x.vertex.0 < y.vertex.0) where
  both_fine : sound_group (conflicts (c ∷ d ∷ []) (x ∷ y ∷ [])) ≡ true
  unfolding sound_group all_listable rising_from
  both_fine = both_true (both_true hc (both_true hd refl)) (both_true hx (both_true (le-leb 0 x.vertex.0 (omega arith)) (both_true hy (both_true (le-leb (suc x.vertex.0) y.vertex.0 up) refl))))

  one_fine : sound_group (conflicts (c ∷ []) (y ∷ [])) ≡ true
  unfolding sound_group all_listable rising_from
  one_fine = both_true (both_true hc refl) (both_true hy (both_true (le-leb 0 y.vertex.0 (omega arith)) refl))

  pub p9_first : pop (conflicts (c ∷ d ∷ []) (x ∷ y ∷ [])) ≡ (0, (Some d.obstacle, conflicts (c ∷ []) (y ∷ [])))
  unfolding last_of all_but_last
  p9_first = pop_taken (c ∷ d ∷ []) (x ∷ y ∷ []) both_fine

  pub p9_second : pop (conflicts (c ∷ []) (y ∷ [])) ≡ (0, (Some c.obstacle, conflicts [] []))
  unfolding last_of all_but_last
  p9_second = pop_taken (c ∷ []) (y ∷ []) one_fine

pub p9_third : pop (conflicts [] []) ≡ (0, (None, conflicts [] []))
unfolding last_of all_but_last sound_group all_listable rising_from
p9_third = pop_taken [] [] refl
