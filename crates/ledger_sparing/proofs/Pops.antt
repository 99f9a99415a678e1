-- One pop that spares the stops: what it answers by the tests, that a sound group stays sound, and that a refusal leaves the very group. Assumes nothing.
use Rattle.std.specs.Prelude.{None, Option}
use Prim.Native.Nat.{ℕ, zero, suc, ◌<◌}
use mathlib.Core.Path.{◌≡◌, refl, ap}
use mathlib.Core.Logic.{◌≢◌}
use mathlib.Core.Bool.{Bool, true, false, not}
use mathlib.Core.List.{List, [], ◌∷◌}
use native.Mathlib.Omega.{arith}
use lib.IntN.{ℤ}
use lib.ListN.{length, drop}
use Rattle.kinds.specs.declared.Entry.{Entry}
use Rattle.kinds.specs.declared.Stop.{Stop}
use Rattle.kinds.specs.declared.Obstacle.{Obstacle}
use Rattle.ledger_spec.specs.Tests.{first}
use Rattle.ledger_spec.specs.Reads.{said}
use Rattle.ledger_spec.specs.Groups.{Group, growth, conflicts, sound_group, last_of, all_but_last}
use Rattle.ledger_spec.specs.GroupCalls.{is_growth, last_in, take_tests}
use Rattle.ledger_laws.proofs.GroupSound.{Fine, fine_of, of_fine, popped_sound}
use Rattle.ledger_sparing.specs.Sparing.{spared, after_sparing, pop_sparing}

-- conflicts that are sound pass the tests
pub passes : {A : Type 0} (l : List Entry) (s : List Stop) (v z : A) → sound_group (conflicts l s) ≡ true → said (first (take_tests (conflicts l s))) v z ≡ (0, v)
unfolding take_tests first said
passes l s v z e = ap (λ (b : Bool). said (first ((not b, 2) ∷ (false, 10) ∷ [])) v z) e

pub taken : (l : List Entry) (s : List Stop) → sound_group (conflicts l s) ≡ true → pop_sparing (conflicts l s) ≡ (0, (last_of l s, spared l s))
unfolding pop_sparing
taken l s e = passes l s (last_of l s, spared l s) (None, conflicts l s) e

-- and so is every group that they pass
pub sound_where : (g : Group) → (pop_sparing g).0 ≡ 0 → (sound_group g ≡ true) × (is_growth g ≡ false)
unfolding pop_sparing take_tests first said
sound_where g h = go (sound_group g) (is_growth g) h
  where
    go : (a b : Bool) → (said {A = Option Obstacle × Group} (first ((not a, 2) ∷ (b, 10) ∷ [])) (last_in g, after_sparing g) (None, g)).0 ≡ 0 → (a ≡ true) × (b ≡ false)
    go true false e = (refl, refl)
    go true true e = absurd (omega (arith, e))
    go false b e = absurd (omega (arith, e))

-- a growth is KIND, whatever its length
pub kind_refused : (n : ℤ) (f : Bool) → pop_sparing (growth n f) ≡ (10, (None, growth n f))
unfolding pop_sparing take_tests first said sound_group
kind_refused n f = refl

-- the list has an entry
pub spared_list : (l : List Entry) (s : List Stop) → 0 < length l → spared l s ≡ conflicts (all_but_last l) s
unfolding spared
spared_list [] s h = absurd (omega (arith, h))
spared_list (x ∷ l) s h = refl

-- ---- a sound group stays sound: the list as the other pop leaves it, or the stops
module _ (l : List Entry) (s : List Stop) (e : sound_group (conflicts l s) ≡ true) where
  abbrev both : Fine l s
  both = fine_of l s e

  abbrev less : Fine (all_but_last l) (drop 1 s)
  less = fine_of (all_but_last l) (drop 1 s) (popped_sound l s e)

  list_less : sound_group (conflicts (all_but_last l) s) ≡ true
  list_less = of_fine (all_but_last l) s (record { listed = less.listed; stopped = both.stopped; listables = less.listables; rises = both.rises })

  stops_less : sound_group (conflicts l (drop 1 s)) ≡ true
  stops_less = of_fine l (drop 1 s) (record { listed = both.listed; stopped = less.stopped; listables = both.listables; rises = less.rises })

pub spared_sound : (l : List Entry) (s : List Stop) → sound_group (conflicts l s) ≡ true → sound_group (spared l s) ≡ true
unfolding spared
spared_sound [] s e = stops_less [] s e
spared_sound (x ∷ l) s e = list_less (x ∷ l) s e

after_sound : (g : Group) → sound_group g ≡ true → sound_group (after_sparing g) ≡ true
after_sound (growth n f) s = s
after_sound (conflicts l t) s = spared_sound l t s

-- ---- by the number of the tests
module _ (g : Group) where
  abbrev turn : ℕ → ℕ × (Option Obstacle × Group)
  turn n = said n (last_in g, after_sparing g) (None, g)

  pub sparing_sound : sound_group g ≡ true → sound_group (pop_sparing g).1.1 ≡ true
  unfolding pop_sparing said
  sparing_sound s = go (first (take_tests g))
    where
      go : (n : ℕ) → sound_group (turn n).1.1 ≡ true
      go zero = after_sound g s
      go (suc n) = s

  pub sparing_refused : (pop_sparing g).0 ≢ 0 → (pop_sparing g).1 ≡ (None, g)
  unfolding pop_sparing said
  sparing_refused q = go (first (take_tests g)) q
    where
      go : (n : ℕ) → (turn n).0 ≢ 0 → (turn n).1 ≡ (None, g)
      go zero q = absurd (q refl)
      go (suc n) q = refl
