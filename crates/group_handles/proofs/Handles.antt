-- Whether any node of a group has a property, as its entries and then its stops say it, each by the nodes of its obstacle. Assumes nothing.
use Prim.Native.Nat.{◌≤◌}
use mathlib.Core.Path.{◌≡◌, refl, sym, ap, ap₂, ◌∙◌}
use mathlib.Core.Bool.{Bool, true, false, ◌||◌}
use mathlib.Core.List.{List, [], ◌∷◌, ◌++◌}
use lib.IntN.{ℤ}
use lib.ListN.{length, take}
use Rattle.std.specs.List.{list_any}
use Rattle.kinds.specs.declared.Handle.{Handle}
use Rattle.kinds.specs.declared.Entry.{Entry}
use Rattle.kinds.specs.declared.Stop.{Stop}
use Rattle.ledger_spec.specs.Tests.{any}
use Rattle.ledger_spec.specs.GroupCalls.{handles_of, list_handles, stop_handles, group_handles}
use Rattle.groups.specs.View.{list_of, stops_of, group_of}
use Rattle.groups.specs.declared.Kind.TheVariants.{Growth, Conflicts}
use Rattle.groups.specs.declared.Group.{Group as Code}
use Rattle.groups.proofs.View.{view_growth, view_conflicts, list_is, stops_is}

module _ (p : Handle → Bool) where
  or_assoc : (a b c : Bool) → ((a || b) || c) ≡ (a || (b || c))
  or_assoc true b c = refl
  or_assoc false b c = refl

  pub any_append : (xs ys : List Handle) → any p (xs ++ ys) ≡ (any p xs || any p ys)
  unfolding any
  any_append [] ys = refl
  any_append (x ∷ xs) ys = ap (λ (b : Bool). p x || b) (any_append xs ys) ∙ sym (or_assoc (p x) (any p xs) (any p ys))

  -- ---- entries and stops, each for itself
  pub entries_by_any : (l : List Entry) → list_any (λ e. any p (handles_of e.obstacle)) l ≡ any p (list_handles l)
  unfolding any list_handles
  entries_by_any [] = refl
  entries_by_any (e ∷ l) = rw (entries_by_any l) (sym (any_append (handles_of e.obstacle) (list_handles l)))

  pub stops_by_any : (l : List Stop) → list_any (λ s. any p (handles_of s.obstacle)) l ≡ any p (stop_handles l)
  unfolding any stop_handles
  stops_by_any [] = refl
  stops_by_any (s ∷ l) = rw (stops_by_any l) (sym (any_append (handles_of s.obstacle) (stop_handles l)))

  -- ---- of a group: a growth names none, conflicts their entries' and their stops'
  module _ (g : Code) where
    pub growth_names : (l : ℤ) (f : Bool) → g.kind ≡ Growth l f → any p (group_handles (group_of g)) ≡ false
    unfolding any
    growth_names l f k = ap (λ q. any p (group_handles q)) (view_growth g l f k)

    pub conflicts_name : g.kind ≡ Conflicts → g.listed ≤ length g.list → g.stopped ≤ length g.stops →
        any p (group_handles (group_of g)) ≡ (any p (list_handles (take g.listed g.list)) || any p (stop_handles (take g.stopped g.stops)))
    conflicts_name k h i = ap (λ q. any p (group_handles q)) (view_conflicts g k) ∙ any_append (list_handles (list_of g)) (stop_handles (stops_of g))
        ∙ ap₂ (λ (l : List Entry) (s : List Stop). any p (list_handles l) || any p (stop_handles s)) (list_is g h) (stops_is g i)
