-- What the pop that spares the stops answers and leaves of a group by value: the other pop's where the list is empty, the very group where it is refused, and
-- else the group with one entry fewer. Assumes nothing.
use Rattle.std.specs.Prelude.{Option}
use Prim.Native.Nat.{ℕ, zero, suc, ◌-◌, ◌≤◌, ◌<◌}
use mathlib.Core.Path.{◌≡◌, refl, sym, ap, ap₂, ◌∙◌}
use mathlib.Core.Logic.{◌≢◌}
use mathlib.Core.Bool.{true, false, true≢false}
use mathlib.Core.List.{List}
use native.Mathlib.Omega.{arith}
use lib.ListN.{length}
use Rattle.kinds.specs.declared.Entry.{Entry}
use Rattle.kinds.specs.declared.Obstacle.{Obstacle}
use Rattle.ledger_spec.specs.Groups.{Group, conflicts, sound_group, last_of, all_but_last}
use Rattle.ledger_spec.specs.GroupCalls.{is_growth, peek, pop}
use Rattle.ledger_sparing.specs.Sparing.{pop_sparing}
use Rattle.ledger_sparing.specs.Drain.{one_empty}
use Rattle.ledger_sparing.proofs.Pops.{taken, sound_where, spared_list, sparing_refused}
use Rattle.ledger_sparing.proofs.Agrees.{peek_serves, agree_where}
use Rattle.groups.specs.View.{list_of, stops_of, viewed, group_of, over, laid, counted, no_entry}
use Rattle.groups.specs.declared.Kind.{Kind}
use Rattle.groups.specs.declared.Kind.TheVariants.{Growth, Conflicts}
use Rattle.groups.specs.declared.Group.{Group as Code}
use Rattle.groups.proofs.View.{same, view_laid, view_conflicts, list_is, stops_over, listed_is, stopped_is, sound_counts}
use Rattle.group_takes.specs.Takes.{after}
use Rattle.group_takes.proofs.Tops.{front_over, front_long}

abbrev Turn : Type 0
Turn = ℕ × (Option Obstacle × Group)

module _ (g : Code) where
  -- a call's number, answer and group
  abbrev pub Spares : ℕ → Option Obstacle → Code → Type 0
  Spares n o r = ((n, (o, group_of r)) ≡ pop_sparing (group_of g)) × (r ≡ after (pop_sparing (group_of g)).0 (pop_sparing (group_of g)).1.1 g)

  abbrev leaves : Turn → Code
  leaves t = after t.0 t.1.1 g

  -- ---- no list
  by_kind : (k : Kind) → g.listed ≡ 0 → one_empty (viewed k g) ≡ true
  unfolding one_empty counted
  by_kind (Growth l f) e = refl
  by_kind Conflicts e = ap (λ (n : ℕ). one_empty (conflicts (counted no_entry n g.list) (stops_of g))) e

  pub spares_none : (n : ℕ) (o : Option Obstacle) (r : Code) → g.listed ≡ 0 → (n, (o, group_of r)) ≡ pop (group_of g) → r ≡ after (pop (group_of g)).0 (pop (group_of g)).1.1 g → Spares n o r
  spares_none n o r e p q =
      let a : pop_sparing (group_of g) ≡ pop (group_of g) = agree_where (group_of g) (by_kind g.kind e) in
      (p ∙ sym a, q ∙ sym (ap leaves a))

  -- ---- a refusal leaves the very group; what is no growth is conflicts
  as_it_was : (n : ℕ) (q : Group) → n ≢ 0 → after n q g ≡ g
  unfolding after
  as_it_was zero q h = absurd (h refl)
  as_it_was (suc n) q h = refl

  kind_is : (k : Kind) → is_growth (viewed k g) ≡ false → k ≡ Conflicts
  kind_is (Growth l f) e = absurd (true≢false e)
  kind_is Conflicts e = refl

  -- ---- what peek answered
  module _ (n : ℕ) (o : Option Obstacle) (p : (n, o) ≡ peek (group_of g)) where
    numbered : n ≡ (pop_sparing (group_of g)).0
    numbered = ap (λ (t : ℕ × Option Obstacle). t.0) (p ∙ sym (peek_serves (group_of g)))

    answered : o ≡ (pop_sparing (group_of g)).1.0
    answered = ap (λ (t : ℕ × Option Obstacle). t.1) (p ∙ sym (peek_serves (group_of g)))

    pub spares_refused : n ≢ 0 → Spares n o g
    spares_refused h =
        let r = sparing_refused (group_of g) (λ z. h (numbered ∙ z)) in
        let q : group_of g ≡ (pop_sparing (group_of g)).1.1 = sym (ap (λ (x : Option Obstacle × Group). x.1) r) in
        ((λ i. (numbered i, (answered i, q i))), sym (ap (λ (k : ℕ). after k (pop_sparing (group_of g)).1.1 g) (sym numbered) ∙ as_it_was n (pop_sparing (group_of g)).1.1 h))

    -- one entry fewer
    module _ (h : n ≡ 0) (i : 0 < g.listed) (j : 128 ≤ length g.list) (k : 128 ≤ length g.stops) where
      passed : (sound_group (group_of g) ≡ true) × (is_growth (group_of g) ≡ false)
      passed = sound_where (group_of g) (sym numbered ∙ h)

      lists : g.kind ≡ Conflicts
      lists = kind_is g.kind passed.1

      counts : (g.listed ≤ 128) × (g.stopped ≤ 128)
      counts = sound_counts g lists passed.0

      within : g.listed ≤ length g.list
      within = omega (arith, counts.0)

      abbrev left : Group
      left = conflicts (all_but_last (list_of g)) (stops_of g)

      turn : pop_sparing (group_of g) ≡ (0, (last_of (list_of g) (stops_of g), left))
      turn = ap pop_sparing (view_conflicts g lists) ∙ taken (list_of g) (stops_of g) (ap sound_group (sym (view_conflicts g lists)) ∙ passed.0)
          ∙ ap (λ (q : Group). (0, (last_of (list_of g) (stops_of g), q))) (spared_list (list_of g) (stops_of g) (omega (arith, i, listed_is g)))

      abbrev fewer : ℕ → Code
      fewer m = record { kind = g.kind; list = g.list; stops = g.stops; listed = m; stopped = g.stopped }

      bytes : (m : ℕ) → m ≡ g.listed - 1 → fewer m ≡ laid left g
      bytes m e =
          same (fewer m) (laid left g) lists
          (front_over g.listed g.list within ∙ ap (λ (l : List Entry). over (all_but_last l) g.list) (sym (list_is g within)))
          (sym (stops_over g (omega (arith, counts.1))))
          (e ∙ front_long g.listed g.list within ∙ ap (λ (l : List Entry). length (all_but_last l)) (sym (list_is g within)))
          (sym (stopped_is g))

      pub spares_list : (m : ℕ) → m ≡ g.listed - 1 → Spares 0 o (record { kind = g.kind; list = g.list; stops = g.stops; listed = m; stopped = g.stopped })
      unfolding after
      spares_list m e = (
        ap₂ (λ (a : Option Obstacle) (q : Group). (0, (a, q))) (answered ∙ ap (λ (t : Turn). t.1.0) turn) (ap group_of (bytes m e) ∙ view_laid left g) ∙ sym turn,
        bytes m e ∙ sym (ap leaves turn),
      )
