-- A ledger's group that is laid into a group by value is its view, and a group by value is its own view laid into it, as long as its counts lie
-- within the arrays, as those of a sound one do. Assumes nothing.
use Prim.Native.Nat.{ℕ, ◌≤◌, ◌<◌}
use mathlib.Core.Path.{◌≡◌, refl, sym, ap, ap₂, ◌∙◌}
use mathlib.Core.Bool.{Bool, true, false, ◌&&◌, false≢true}
use mathlib.Core.List.{List}
use native.Mathlib.Omega.{arith}
use borrow.Author.Tests.{leb-true, le-leb, lt-leb}
use lib.Dec.{leb}
use lib.IntN.{ℤ}
use lib.ListN.{length, take, drop}
use Rattle.kinds.specs.declared.Entry.{Entry}
use Rattle.kinds.specs.declared.Stop.{Stop}
use Rattle.ledger_spec.specs.Groups.{Group, growth, conflicts, all_listable, rising_from, sound_group}
use Rattle.groups.specs.View.{no_entry, no_stop, list_of, stops_of, viewed, group_of, over, laid}
use Rattle.groups.specs.declared.Kind.{Kind}
use Rattle.groups.specs.declared.Kind.TheVariants.{Growth, Conflicts}
use Rattle.groups.specs.declared.Group.{Group as Code}
use Rattle.groups.proofs.Lists.{counted_long, counted_take, counted_over, over_same}

pub same : (g h : Code) → g.kind ≡ h.kind → g.list ≡ h.list → g.stops ≡ h.stops → g.listed ≡ h.listed → g.stopped ≡ h.stopped → g ≡ h
same g h a b c d e = λ i. record { kind = a i; list = b i; stops = c i; listed = d i; stopped = e i }

pub view_laid : (q : Group) (g : Code) → group_of (laid q g) ≡ q
view_laid (growth l f) g = refl
view_laid (conflicts l s) g = ap₂ conflicts (counted_over no_entry l (drop (length l) g.list)) (counted_over no_stop s (drop (length s) g.stops))

-- ---- a group whose counts lie within its arrays
module _ (g : Code) where
  pub list_is : g.listed ≤ length g.list → list_of g ≡ take g.listed g.list
  list_is h = counted_take no_entry g.listed g.list h

  pub stops_is : g.stopped ≤ length g.stops → stops_of g ≡ take g.stopped g.stops
  stops_is h = counted_take no_stop g.stopped g.stops h

  pub listed_is : length (list_of g) ≡ g.listed
  listed_is = counted_long no_entry g.listed g.list

  pub stopped_is : length (stops_of g) ≡ g.stopped
  stopped_is = counted_long no_stop g.stopped g.stops

  pub list_over : g.listed ≤ length g.list → over (list_of g) g.list ≡ g.list
  list_over h = ap (λ (l : List Entry). over l g.list) (list_is h) ∙ over_same g.listed g.list h

  pub stops_over : g.stopped ≤ length g.stops → over (stops_of g) g.stops ≡ g.stops
  stops_over h = ap (λ (l : List Stop). over l g.stops) (stops_is h) ∙ over_same g.stopped g.stops h

  view_is : (k : Kind) → g.kind ≡ k → group_of g ≡ viewed k g
  view_is k e = ap (λ (i : Kind). viewed i g) e

  pub view_growth : (l : ℤ) (f : Bool) → g.kind ≡ Growth l f → group_of g ≡ growth l f
  view_growth l f e = view_is (Growth l f) e

  pub view_conflicts : g.kind ≡ Conflicts → group_of g ≡ conflicts (list_of g) (stops_of g)
  view_conflicts e = view_is Conflicts e

  pub laid_same : g.kind ≡ Conflicts → g.listed ≤ length g.list → g.stopped ≤ length g.stops → laid (conflicts (list_of g) (stops_of g)) g ≡ g
  laid_same e h k = same (laid (conflicts (list_of g) (stops_of g)) g) g (sym e) (list_over h) (stops_over k) listed_is stopped_is

-- ---- the rules of a sound group, by the counts
pub sound_growth : (g : Code) (l : ℤ) (f : Bool) → g.kind ≡ Growth l f → true ≡ sound_group (group_of g)
unfolding sound_group
sound_growth g l f e = sym (ap sound_group (view_growth g l f e))

module _ (g : Code) (e : g.kind ≡ Conflicts) where
  sound_is : sound_group (group_of g) ≡ (leb g.listed 128 && (leb g.stopped 128 && (all_listable (list_of g) && rising_from 0 (stops_of g))))
  unfolding sound_group
  sound_is = ap sound_group (view_conflicts g e)
      ∙ ap₂ (λ (n m : ℕ). leb n 128 && (leb m 128 && (all_listable (list_of g) && rising_from 0 (stops_of g)))) (listed_is g) (stopped_is g)

  pub long_list : 128 < g.listed → false ≡ sound_group (group_of g)
  long_list h = sym (sound_is ∙ rw (lt-leb _ _ h))

  pub long_stops : g.listed ≤ 128 → 128 < g.stopped → false ≡ sound_group (group_of g)
  long_stops h k = sym (sound_is ∙ rw (le-leb _ _ h, lt-leb _ _ k))

  module _ (h : g.listed ≤ 128) (k : g.stopped ≤ 128) (m : 128 ≤ length g.list) (n : 128 ≤ length g.stops) where
    by_tests : sound_group (group_of g) ≡ (all_listable (take g.listed g.list) && rising_from 0 (take g.stopped g.stops))
    by_tests = sound_is ∙ rw (le-leb _ _ h, le-leb _ _ k)
        (ap₂ (λ (l : List Entry) (s : List Stop). all_listable l && rising_from 0 s) (list_is g (omega arith)) (stops_is g (omega arith)))

    pub bad_list : all_listable (take g.listed g.list) ≡ false → false ≡ sound_group (group_of g)
    bad_list t = sym (by_tests ∙ ap (λ (b : Bool). b && rising_from 0 (take g.stopped g.stops)) t)

    pub good_list : all_listable (take g.listed g.list) ≡ true → rising_from 0 (take g.stopped g.stops) ≡ sound_group (group_of g)
    good_list t = sym (by_tests ∙ ap (λ (b : Bool). b && rising_from 0 (take g.stopped g.stops)) t)

  -- the counts of a sound one
  pub sound_counts : sound_group (group_of g) ≡ true → (g.listed ≤ 128) × (g.stopped ≤ 128)
  sound_counts s = go (leb g.listed 128) (leb g.stopped 128) refl refl (sym sound_is ∙ s)
    where
      go : (a b : Bool) → leb g.listed 128 ≡ a → leb g.stopped 128 ≡ b → (a && (b && (all_listable (list_of g) && rising_from 0 (stops_of g)))) ≡ true → (g.listed ≤ 128) × (g.stopped ≤ 128)
      go true true p q t = (leb-true _ _ p, leb-true _ _ q)
      go true false p q t = absurd (false≢true t)
      go false b p q t = absurd (false≢true t)
