-- THEOREM, one for each call: where the words lent and the group by value say the same group, the call in place and the call by value answer the same, and
-- the words after the one and the group of the other say the same group again. A result by value is one that meets the call's contract. Assumes nothing.
use Prim.Native.Nat.{ℕ}
use mathlib.Core.Path.{◌≡◌, sym, ap, ◌∙◌}
use mathlib.Core.Bool.{Bool, true}
use mathlib.Core.List.{List}
use Rattle.ledger_spec.specs.Groups.{Group}
use Rattle.ledger_spec.specs.GroupCalls.{is_empty, is_active, growth_of, peek, pop, add, extend}
use Rattle.ledger_sparing.specs.Sparing.{pop_sparing}
use Rattle.bench_views.specs.View.{view}
use Rattle.sound_bench.specs.Sound.{sound_words}
use Rattle.sound_lent.specs.Verdict.{asked}
use Rattle.sound_lent.proofs.Asking.{asked_by}
use Rattle.groups.specs.View.{group_of}
use Rattle.groups.specs.Shown.{empty_of, shown_told, shown_asked}
use Rattle.groups.specs.declared.Group.{Group as Code}
use Rattle.groups.specs.declared.Told.{Told}
use Rattle.groups.specs.declared.Asked.{Asked}
use Rattle.group_takes.specs.Takes.{shown_peeked, shown_popped}
use Rattle.group_takes.specs.declared.Peeked.{Peeked}
use Rattle.group_takes.specs.declared.Popped.{Popped}
use Rattle.group_adds.specs.declared.Changed.{Changed}
use Rattle.group_extends.specs.Extends.{whole_of}
use Rattle.group_calls.specs.Whole.{whole}
use Rattle.group_calls.proofs.One.{add_shows, extend_shows}
use Rattle.group_lent.specs.Forms.{obstacle_of}
use Rattle.group_lent.specs.Place.{group_in}
use Rattle.group_lent.specs.declared.Five.{Five}
use Rattle.group_lent_takes.specs.After.{top_five}
use Rattle.group_lent_takes.specs.Made.{maybe_seen, Emptied}
use Rattle.group_lent_calls.specs.Calls as calls

pub empty_same : (ws after : List ℕ) → Emptied ws after → group_in after ≡ group_of empty_of
empty_same ws after E = E.seen

module _ (g : Code) (ws : List ℕ) (same : group_of g ≡ group_in ws) where
  -- ---- reads: the same number and value
  pub is_empty_same : (q : Told) (t : Bool) → shown_told q ≡ is_empty (group_of g) → (0, t) ≡ is_empty (group_in ws) → shown_told q ≡ (0, t)
  is_empty_same q t e d = e ∙ ap is_empty same ∙ sym d

  pub is_active_same : (q : Told) (t : Bool) → shown_told q ≡ is_active (group_of g) → (0, t) ≡ is_active (group_in ws) → shown_told q ≡ (0, t)
  is_active_same q t e d = e ∙ ap is_active same ∙ sym d

  pub growth_same : (q r : Asked) → shown_asked q ≡ growth_of (group_of g) → shown_asked r ≡ growth_of (group_in ws) → shown_asked q ≡ shown_asked r
  growth_same q r e d = e ∙ ap growth_of same ∙ sym d

  pub peek_same : (q : Peeked) (r : ℕ) (os : List ℕ) → shown_peeked q ≡ peek (group_of g) → calls.Peeked ws r os → shown_peeked q ≡ (r, maybe_seen (top_five ws))
  peek_same q r os e P = e ∙ ap peek same ∙ sym P.seen

  -- ---- changes: the same number, obstacle and group
  pub pop_same : (q : Popped) (r : ℕ) (os after : List ℕ) → shown_popped q ≡ pop (group_of g) → calls.Popped ws r os after → shown_popped q ≡ (r, (maybe_seen (top_five ws), group_in after))
  pop_same q r os after e P = e ∙ ap pop same ∙ sym P.seen

  pub sparing_same : (q : Popped) (r : ℕ) (os after : List ℕ) → shown_popped q ≡ pop_sparing (group_of g) → calls.Spared ws r os after → shown_popped q ≡ (r, (maybe_seen (top_five ws), group_in after))
  sparing_same q r os after e P = e ∙ ap pop_sparing same ∙ sym P.seen

  module _ (b : List ℕ) (sound : sound_words b ≡ true) (q : Changed) (r : ℕ) (after : List ℕ) where
    pub add_same : (f : Five) → q ≡ whole (asked b (group_of g) (add (view b) (group_of g) (obstacle_of f))) g g → calls.Added b ws f r after → (q.number ≡ r) × (group_of q.group ≡ group_in after)
    add_same f e A =
        let o = obstacle_of f in
        let x = add_shows b g o q e ∙ asked_by b (group_of g) (add (view b) (group_of g) o) true sound ∙ ap (λ (p : Group). add (view b) p o) same in
        (ap (λ (p : ℕ × Group). p.0) x ∙ sym A.number, ap (λ (p : ℕ × Group). p.1) x ∙ sym A.seen)

    pub extend_same : (h : Code) (vs : List ℕ) → group_of h ≡ group_in vs → q ≡ whole (asked b (group_of g) (extend (view b) (group_of g) (group_of h))) g (whole_of g h) → calls.Extended b ws vs r after
        → (q.number ≡ r) × (group_of q.group ≡ group_in after)
    extend_same h vs other e E =
        let x = extend_shows b g h q e ∙ asked_by b (group_of g) (extend (view b) (group_of g) (group_of h)) true sound ∙ (λ i. extend (view b) (same i) (other i)) in
        (ap (λ (p : ℕ × Group). p.0) x ∙ sym E.number, ap (λ (p : ℕ × Group). p.1) x ∙ sym E.seen)
