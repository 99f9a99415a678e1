-- The other's list laid after the own one: its front is the two lists, what lies past them is as it was, and there is room or not. Assumes nothing.
use Rattle.std.specs.Prelude.{Option}
use Prim.Native.Nat.{ℕ, ◌+◌, ◌-◌, ◌≤◌, ◌<◌}
use mathlib.Core.Path.{◌≡◌, sym, ap, ap₂, ◌∙◌}
use mathlib.Core.List.{List, ◌++◌, append_assoc}
use native.Mathlib.Omega.{arith}
use lib.ListN.{length, take, drop, length-append}
use lib.Seq.{take_at, drop_at}
use Rattle.kinds.specs.declared.Entry.{Entry}
use Rattle.kinds.specs.declared.Stop.{Stop}
use Rattle.ledger_spec.specs.Groups.{Lists, grouped, room_for, and_then, add_stops}
use Rattle.groups.specs.View.{list_of, stops_of}
use Rattle.groups.specs.declared.Group.{Group as Code}
use Rattle.groups.proofs.View.{list_is, stops_is, listed_is, stopped_is}
use Rattle.group_adds.specs.Adds.{changed}
use Rattle.group_adds.specs.declared.Changed.{Changed}
use Rattle.group_adds.proofs.Rooms.{full, room_yes, room_list, answers_room}
use Rattle.group_runs.specs.Runs.{laid_at}
use Rattle.group_extends.specs.Extends.{append_list}

module _ (g h : Code) (gl : g.listed ≤ length g.list) (hl : h.listed ≤ length h.list) where
  both_are : append_list g h ≡ take g.listed g.list ++ take h.listed h.list
  both_are = ap₂ ◌++◌ (list_is g gl) (list_is h hl)

  both_long : length (append_list g h) ≡ g.listed + h.listed
  both_long = omega (arith, length-append (list_of g) (list_of h), listed_is g, listed_is h)

  -- the array that the run leaves
  array_is : laid_at g.listed g.list 0 h.listed h.list ≡ append_list g h ++ drop (g.listed + h.listed) g.list
  array_is = let z : g.listed + (h.listed - 0) ≡ g.listed + h.listed = omega arith in
      sym (append_assoc (take g.listed g.list) (take h.listed h.list) (drop (g.listed + (h.listed - 0)) g.list))
      ∙ ap₂ (λ (l : List Entry) (n : ℕ). l ++ drop n g.list) (sym both_are) z

  pub front_both : (l : List Entry) → l ≡ laid_at g.listed g.list 0 h.listed h.list → take (g.listed + h.listed) l ≡ append_list g h
  front_both l e = ap (take (g.listed + h.listed)) (e ∙ array_is) ∙ take_at (append_list g h) (drop (g.listed + h.listed) g.list) (g.listed + h.listed) both_long

  pub past_both : (l : List Entry) → l ≡ laid_at g.listed g.list 0 h.listed h.list → drop (g.listed + h.listed) l ≡ drop (g.listed + h.listed) g.list
  past_both l e = ap (drop (g.listed + h.listed)) (e ∙ array_is) ∙ drop_at (append_list g h) (drop (g.listed + h.listed) g.list) (g.listed + h.listed) both_long

  abbrev answer : Option Lists
  answer = and_then (room_for (append_list g h) (stops_of g)) (add_stops (stops_of h))

  pub too_long : 128 < g.listed + h.listed → full g ≡ changed (grouped answer) g
  too_long k = answers_room answer g (ap (λ (o : Option Lists). and_then o (add_stops (stops_of h))) (room_list (append_list g h) (stops_of g) (omega (arith, k, both_long))))

  pub goes_on : (l : List Entry) (r : Changed) → l ≡ laid_at g.listed g.list 0 h.listed h.list → g.listed + h.listed ≤ 128 → g.stopped ≤ 128 → h.stopped ≤ length h.stops →
      r ≡ changed (grouped (add_stops (take h.stopped h.stops) (take (g.listed + h.listed) l) (stops_of g))) g → r ≡ changed (grouped answer) g
  goes_on l r e k m n f =
      f ∙ ap₂ (λ (t : List Stop) (i : List Entry). changed (grouped (add_stops t i (stops_of g))) g) (sym (stops_is h n)) (front_both l e)
      ∙ sym (ap (λ (o : Option Lists). changed (grouped (and_then o (add_stops (stops_of h)))) g) (room_yes (append_list g h) (stops_of g) (omega (arith, k, both_long)) (omega (arith, m, stopped_is g))))
