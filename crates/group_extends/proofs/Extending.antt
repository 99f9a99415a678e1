-- What an extend answers, by the two kinds. Assumes nothing.
use Rattle.std.specs.Prelude.{Some}
use Prim.Native.Nat.{◌≤◌}
use mathlib.Core.Path.{◌≡◌, refl, sym, ap, ◌∙◌}
use mathlib.Core.Bool.{Bool, true, false, ◌&&◌, false≢true}
use lib.Dec.{leb}
use lib.IntN.{ℤ}
use lib.ListN.{length}
use Rattle.ledger_spec.specs.Groups.{Group, growth, conflicts, sound_group, all_listable, rising_from, grouped, room_for, and_then, add_stops, extended}
use Rattle.groups.specs.View.{list_of, stops_of, group_of, laid}
use Rattle.groups.specs.declared.Kind.{Kind}
use Rattle.groups.specs.declared.Kind.TheVariants.{Growth, Conflicts}
use Rattle.groups.specs.declared.Group.{Group as Code}
use Rattle.groups.proofs.View.{view_growth, view_conflicts, laid_same}
use Rattle.group_adds.specs.Adds.{changed}
use Rattle.group_adds.specs.declared.Changed.{Changed}
use Rattle.group_adds.proofs.Rooms.{done, changed_some}
use Rattle.group_extends.specs.Extends.{append_list, least_of, whole_by, whole_of}

-- the stops of a sound group rise
and_right : (a b : Bool) → (a && b) ≡ true → b ≡ true
and_right true b e = e
and_right false b e = absurd (false≢true e)

pub sound_rising : (g : Code) → g.kind ≡ Conflicts → sound_group (group_of g) ≡ true → rising_from 0 (stops_of g) ≡ true
unfolding sound_group
sound_rising g k s =
    let t : (leb (length (list_of g)) 128 && (leb (length (stops_of g)) 128 && (all_listable (list_of g) && rising_from 0 (stops_of g)))) ≡ true = sym (ap sound_group (view_conflicts g k)) ∙ s in
    and_right (all_listable (list_of g)) (rising_from 0 (stops_of g)) (and_right (leb (length (stops_of g)) 128) (all_listable (list_of g) && rising_from 0 (stops_of g)) (and_right (leb (length (list_of g)) 128) (leb (length (stops_of g)) 128 && (all_listable (list_of g) && rising_from 0 (stops_of g))) t))

module _ (g h : Code) where
  by_kinds : (p q : Group) (k l : Kind) → group_of g ≡ p → group_of h ≡ q → g.kind ≡ k → h.kind ≡ l → changed (extended (group_of g) (group_of h)) (whole_of g h) ≡ changed (extended p q) (whole_by k l g h)
  by_kinds p q k l a b c d = λ i. changed (extended (a i) (b i)) (whole_by (c i) (d i) g h)

  -- a growth by a growth
  pub two_growths : (a : ℤ) (f : Bool) (b : ℤ) (i : Bool) → g.kind ≡ Growth a f → h.kind ≡ Growth b i → (c : ℤ) (j : Bool) (r : Code) → growth c j ≡ least_of a f b i → r ≡ laid (growth c j) g → done r ≡ changed (extended (group_of g) (group_of h)) (whole_of g h)
  unfolding extended
  two_growths a f b i k l c j r e m =
      ap done (m ∙ ap (λ (q : Group). laid q g) e)
      ∙ sym (by_kinds (growth a f) (growth b i) (Growth a f) (Growth b i) (view_growth g a f k) (view_growth h b i l) k l ∙ changed_some (Some (least_of a f b i)) (least_of a f b i) g refl)

  -- a growth by conflicts: the other group whole
  pub takes_whole : (a : ℤ) (f : Bool) → g.kind ≡ Growth a f → h.kind ≡ Conflicts → h.listed ≤ length h.list → h.stopped ≤ length h.stops → done h ≡ changed (extended (group_of g) (group_of h)) (whole_of g h)
  unfolding extended
  takes_whole a f k l m n =
      ap done (sym (laid_same h l m n))
      ∙ sym (by_kinds (growth a f) (conflicts (list_of h) (stops_of h)) (Growth a f) Conflicts (view_growth g a f k) (view_conflicts h l) k l ∙ changed_some (Some (conflicts (list_of h) (stops_of h))) (conflicts (list_of h) (stops_of h)) h refl)

  -- conflicts by a growth: no effect
  pub unmoved : (b : ℤ) (i : Bool) → g.kind ≡ Conflicts → h.kind ≡ Growth b i → g.listed ≤ length g.list → g.stopped ≤ length g.stops → done g ≡ changed (extended (group_of g) (group_of h)) (whole_of g h)
  unfolding extended
  unmoved b i k l m n =
      ap done (sym (laid_same g k m n))
      ∙ sym (by_kinds (conflicts (list_of g) (stops_of g)) (growth b i) Conflicts (Growth b i) (view_conflicts g k) (view_growth h b i l) k l ∙ changed_some (Some (conflicts (list_of g) (stops_of g))) (conflicts (list_of g) (stops_of g)) g refl)

  -- conflicts by conflicts
  pub two_conflicts : g.kind ≡ Conflicts → h.kind ≡ Conflicts → (r : Changed) → r ≡ changed (grouped (and_then (room_for (append_list g h) (stops_of g)) (add_stops (stops_of h)))) g → r ≡ changed (extended (group_of g) (group_of h)) (whole_of g h)
  unfolding extended
  two_conflicts k l r e = e ∙ sym (by_kinds (conflicts (list_of g) (stops_of g)) (conflicts (list_of h) (stops_of h)) Conflicts Conflicts (view_conflicts g k) (view_conflicts h l) k l)
