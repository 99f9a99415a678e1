-- No second answer: two results that meet a contract are one, since the contract is an equation for the whole result. Number and group of a result are
-- what the ledger answers, and a refused call hands back the very group. Assumes nothing.
use Prim.Native.Nat.{ℕ, zero, suc}
use mathlib.Core.Path.{◌≡◌, refl, sym, ap, ◌∙◌, subst}
use mathlib.Core.Bool.{Bool, true, false}
use mathlib.Core.List.{List}
use Rattle.kinds.specs.declared.Obstacle.{Obstacle}
use Rattle.ledger_spec.specs.Reads.{said}
use Rattle.ledger_spec.specs.Groups.{Group}
use Rattle.ledger_spec.specs.GroupCalls.{add, extend}
use Rattle.bench_views.specs.View.{view}
use Rattle.sound_bench.specs.Sound.{sound_words}
use Rattle.sound_lent.specs.Verdict.{asked}
use Rattle.sound_lent.proofs.Asking.{asked_by}
use Rattle.groups.specs.View.{group_of}
use Rattle.groups.specs.declared.Group.{Group as Code}
use Rattle.groups.proofs.View.{view_laid}
use Rattle.group_adds.specs.declared.Changed.{Changed}
use Rattle.group_extends.specs.Extends.{whole_of}
use Rattle.group_calls.specs.Whole.{whole_by, whole}

-- ---- what a whole answer shows
abbrev pub shown : Changed → ℕ × Group
shown r = (r.number, group_of r.group)

module _ (g h : Code) where
  said_shows : (n : ℕ) (v : Group) → shown (whole (said n v (group_of g)) g h) ≡ said n v (group_of g)
  unfolding said whole_by
  said_shows zero v = ap (λ (q : Group). (0, q)) (view_laid v h)
  said_shows (suc k) v = refl

  abbrev Shows : ℕ × Group → Type 0
  Shows a = shown (whole a g h) ≡ a

  broken_shows : Shows (2, group_of g)
  unfolding whole_by
  broken_shows = refl

  asked_shows : (b : List ℕ) (n : ℕ) (v : Group) → Shows (asked b (group_of g) (said n v (group_of g)))
  asked_shows b n v = go (sound_words b) refl
    where
      go : (s : Bool) → sound_words b ≡ s → Shows (asked b (group_of g) (said n v (group_of g)))
      go true e = subst Shows (sym (asked_by b (group_of g) (said n v (group_of g)) true e)) (said_shows n v)
      go false e = subst Shows (sym (asked_by b (group_of g) (said n v (group_of g)) false e)) broken_shows

  whole_refused : (n : ℕ) (q : Group) → ((whole_by n q g h).number ≡ 0 → ⊥) → (whole_by n q g h).group ≡ g
  unfolding whole_by
  whole_refused zero q e = absurd (e refl)
  whole_refused (suc k) q e = refl

-- ---- of the two calls
module _ (b : List ℕ) (g : Code) where
  module _ (o : Obstacle) where
    abbrev add_on : ℕ × Group
    add_on = asked b (group_of g) (add (view b) (group_of g) o)

    pub only_add : (r s : Changed) → r ≡ whole add_on g g → s ≡ whole add_on g g → r ≡ s
    only_add r s p q = p ∙ sym q

    pub add_shows : (r : Changed) → r ≡ whole add_on g g → shown r ≡ add_on
    unfolding add
    add_shows r p = ap shown p ∙ asked_shows g g b _ _

    pub add_refused : (r : Changed) → r ≡ whole add_on g g → (r.number ≡ 0 → ⊥) → r.group ≡ g
    add_refused r p e = ap (λ (x : Changed). x.group) p ∙ whole_refused g g add_on.0 add_on.1 (λ z. e (ap (λ (x : Changed). x.number) p ∙ z))

  module _ (h : Code) where
    abbrev extend_on : ℕ × Group
    extend_on = asked b (group_of g) (extend (view b) (group_of g) (group_of h))

    pub only_extend : (r s : Changed) → r ≡ whole extend_on g (whole_of g h) → s ≡ whole extend_on g (whole_of g h) → r ≡ s
    only_extend r s p q = p ∙ sym q

    pub extend_shows : (r : Changed) → r ≡ whole extend_on g (whole_of g h) → shown r ≡ extend_on
    unfolding extend
    extend_shows r p = ap shown p ∙ asked_shows g (whole_of g h) b _ _

    pub extend_refused : (r : Changed) → r ≡ whole extend_on g (whole_of g h) → (r.number ≡ 0 → ⊥) → r.group ≡ g
    extend_refused r p e = ap (λ (x : Changed). x.group) p ∙ whole_refused g (whole_of g h) extend_on.0 extend_on.1 (λ z. e (ap (λ (x : Changed). x.number) p ∙ z))
