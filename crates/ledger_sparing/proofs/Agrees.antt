-- When the two pops agree: in number and answer always; in the group that they leave exactly where the list or the stops are empty, or the call is refused.
-- Assumes nothing.
use Rattle.std.specs.Prelude.{None, Option}
use Prim.Native.Nat.{ℕ, zero, suc}
use mathlib.Core.Path.{◌≡◌, refl, ap}
use mathlib.Core.Logic.{◌≢◌}
use mathlib.Core.Bool.{true, false, false≢true}
use mathlib.Core.List.{List, [], ◌∷◌}
use native.Mathlib.Omega.{arith}
use lib.ListN.{length, drop}
use Rattle.kinds.specs.declared.Entry.{Entry}
use Rattle.kinds.specs.declared.Stop.{Stop}
use Rattle.kinds.specs.declared.Obstacle.{Obstacle}
use Rattle.ledger_spec.specs.Tests.{first}
use Rattle.ledger_spec.specs.Reads.{said}
use Rattle.ledger_spec.specs.Groups.{Group, growth, conflicts, sound_group, all_but_last}
use Rattle.ledger_spec.specs.GroupCalls.{last_in, take_tests, peek, after_pop, pop}
use Rattle.ledger_sparing.specs.Sparing.{spared, after_sparing, pop_sparing}
use Rattle.ledger_sparing.specs.Drain.{one_empty}
use Rattle.ledger_sparing.proofs.Pops.{passes}

abbrev Turn : Type 0
Turn = ℕ × (Option Obstacle × Group)

-- ---- number and answer are those of the other pop, and of peek
module _ (g : Group) where
  abbrev by : ℕ → Group → Turn
  by n q = said n (last_in g, q) (None, g)

  pub same_answer : ((pop_sparing g).0 ≡ (pop g).0) × ((pop_sparing g).1.0 ≡ (pop g).1.0)
  unfolding pop_sparing pop said
  same_answer = go (first (take_tests g))
    where
      go : (n : ℕ) → ((by n (after_sparing g)).0 ≡ (by n (after_pop g)).0) × ((by n (after_sparing g)).1.0 ≡ (by n (after_pop g)).1.0)
      go zero = (refl, refl)
      go (suc n) = (refl, refl)

  pub peek_serves : ((pop_sparing g).0, (pop_sparing g).1.0) ≡ peek g
  unfolding pop_sparing peek said
  peek_serves = go (first (take_tests g))
    where
      go : (n : ℕ) → ((by n (after_sparing g)).0, (by n (after_sparing g)).1.0) ≡ said n (last_in g) None
      go zero = refl
      go (suc n) = refl

  pub agree_refused : (pop_sparing g).0 ≢ 0 → pop_sparing g ≡ pop g
  unfolding pop_sparing pop said
  agree_refused q = go (first (take_tests g)) q
    where
      go : (n : ℕ) → (by n (after_sparing g)).0 ≢ 0 → by n (after_sparing g) ≡ by n (after_pop g)
      go zero q = absurd (q refl)
      go (suc n) q = refl

-- ---- the group left
same_left : (g : Group) → one_empty g ≡ true → after_sparing g ≡ after_pop g
unfolding one_empty spared all_but_last
same_left (growth n f) e = refl
same_left (conflicts [] s) e = refl
same_left (conflicts (x ∷ l) []) e = refl
same_left (conflicts (x ∷ l) (y ∷ s)) e = absurd (false≢true e)

pub agree_where : (g : Group) → one_empty g ≡ true → pop_sparing g ≡ pop g
unfolding pop_sparing pop
agree_where g e = ap (by g (first (take_tests g))) (same_left g e)

-- how many stops are pending: one more where the list was there, so that the groups differ
abbrev pending : Turn → ℕ
pending (n, (o, growth l f)) = 0
pending (n, (o, conflicts l s)) = length s

module _ (x : Entry) (l : List Entry) (y : Stop) (s : List Stop) (e : sound_group (conflicts (x ∷ l) (y ∷ s)) ≡ true) where
  abbrev both : Group
  both = conflicts (x ∷ l) (y ∷ s)

  kept : pending (pop_sparing both) ≡ length (y ∷ s)
  unfolding pop_sparing spared
  kept = ap pending (passes (x ∷ l) (y ∷ s) (last_in both, after_sparing both) (None, both) e)

  gone : pending (pop both) ≡ length s
  unfolding pop
  gone = ap pending (passes (x ∷ l) (y ∷ s) (last_in both, after_pop both) (None, both) e)

pub agree_only : (g : Group) → sound_group g ≡ true → pop_sparing g ≡ pop g → one_empty g ≡ true
unfolding one_empty
agree_only (growth n f) e h = refl
agree_only (conflicts [] s) e h = refl
agree_only (conflicts (x ∷ l) []) e h = refl
agree_only (conflicts (x ∷ l) (y ∷ s)) e h = absurd (omega (arith, kept x l y s e, gone x l y s e, ap pending h))
