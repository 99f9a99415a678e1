-- The bytes that the code writes, as lists laid into the group: an entry pushed, a stop put in, replaced or taken out, and a lone entry or stop.
-- Assumes nothing.
use Prim.Native.Nat.{ℕ, suc, ◌+◌, ◌-◌, ◌≤◌, ◌<◌}
use mathlib.Core.Path.{◌≡◌, refl, sym, ap, ◌∙◌}
use mathlib.Core.List.{List, [], ◌∷◌, ◌++◌}
use native.Mathlib.Omega.{arith}
use lib.ListN.{length, take, drop, set, length-append, length-set, take-append-drop}
use lib.Seq.{length-take-le, set_split, append_snoc, take-set-lt, drop-set-lt}
use Rattle.kinds.specs.declared.Entry.{Entry}
use Rattle.kinds.specs.declared.Stop.{Stop}
use Rattle.ledger_spec.specs.Groups.{conflicts}
use Rattle.groups.specs.View.{list_of, stops_of, over, laid}
use Rattle.groups.specs.declared.Kind.TheVariants.{Conflicts}
use Rattle.groups.specs.declared.Group.{Group as Code}
use Rattle.groups.proofs.Lay.{cut_long, put_long}
use Rattle.groups.proofs.View.{same, list_is, stops_is, listed_is, stopped_is, list_over, stops_over}
use Rattle.group_stops.specs.Places.{inserted_at, after_at, removed_at, spot_of}
use Rattle.group_stops.specs.declared.Spot.{Spot}

-- a group of conflicts whose arrays have room for what counts
pub record Fits (g : Code) : Type 0 where
  pub kind : g.kind ≡ Conflicts
  pub few : g.listed ≤ 128
  pub short : g.stopped ≤ 128
  pub list : 128 ≤ length g.list
  pub stops : 128 ≤ length g.stops

-- ---- over an array
module _ {A : Type 0} where
  pub push_over : (l : List A) (n : ℕ) (e : A) → n < length l → set l n e ≡ over (take n l ++ e ∷ []) l
  push_over l n e h =
      let t : length (take n l) ≡ n = length-take-le n l (omega arith) in
      let u : length (take n l ++ e ∷ []) ≡ suc n = omega (arith, length-append (take n l) (e ∷ [])) in
      set_split l n e h ∙ sym (rw u (append_snoc (take n l) e (drop (suc n) l)))

  pub set_over : (n p : ℕ) (s : List A) (x : A) → p < n → n ≤ length s → set s p x ≡ over (take p (take n s) ++ x ∷ drop (suc p) (take n s)) s
  set_over n p s x h k =
      let t : length (take n s) ≡ n = length-take-le n s k in
      let u : length (take n (set s p x)) ≡ n = length-take-le n (set s p x) (omega (arith, length-set s p x)) in
      sym (ap (λ (r : List A). over r s) (sym (set_split (take n s) p x (omega arith)) ∙ sym (take-set-lt n s p x h))
      ∙ ap (λ (k : ℕ). take n (set s p x) ++ drop k s) u
      ∙ ap (λ (r : List A). take n (set s p x) ++ r) (sym (drop-set-lt n s p x h))
      ∙ take-append-drop n (set s p x))

  pub swap_long : (p : ℕ) (s : List A) (x : A) → p < length s → length (take p s ++ x ∷ drop (suc p) s) ≡ length s
  swap_long p s x h = ap length (sym (set_split s p x h)) ∙ length-set s p x

module _ (g : Code) (h : Fits g) where
  few_in : g.listed ≤ length g.list
  few_in = omega (arith, h.few, h.list)

  short_in : g.stopped ≤ length g.stops
  short_in = omega (arith, h.short, h.stops)

  pub at_stops : (v : ℕ) (t : Spot) → t ≡ spot_of 0 v (take g.stopped g.stops) → spot_of 0 v (stops_of g) ≡ t
  at_stops v t e = ap (spot_of 0 v) (stops_is g short_in) ∙ sym e

  pub pushed_long : (e : Entry) → length (list_of g ++ e ∷ []) ≡ g.listed + 1
  pushed_long e = omega (arith, length-append (list_of g) (e ∷ []), listed_is g)

  pub put_in_long : (p : ℕ) (x : Stop) → p ≤ g.stopped → length (inserted_at p x (stops_of g)) ≡ g.stopped + 1
  put_in_long p x k = let e = stopped_is g in omega (arith, put_long (stops_of g) p x (omega (arith, e)), e)

  pub taken_long : (p : ℕ) → p < g.stopped → length (removed_at p (stops_of g)) ≡ g.stopped - 1
  taken_long p k = let e = stopped_is g in omega (arith, cut_long (stops_of g) p (omega (arith, e)), e)

  push_list : (e : Entry) → g.listed < 128 → set g.list g.listed e ≡ over (list_of g ++ e ∷ []) g.list
  push_list e k = push_over g.list g.listed e (omega (arith, h.list)) ∙ ap (λ (l : List Entry). over (l ++ e ∷ []) g.list) (sym (list_is g few_in))

  -- an entry is pushed
  pub pushed : (e : Entry) → g.listed < 128 → record { kind = g.kind; list = set g.list g.listed e; stops = g.stops; listed = g.listed + 1; stopped = g.stopped } ≡ laid (conflicts (list_of g ++ e ∷ []) (stops_of g)) g
  pushed e k = same _ _ h.kind (push_list e k) (sym (stops_over g short_in)) (sym (pushed_long e)) (sym (stopped_is g))

  -- a stop comes in
  pub put_in : (p : ℕ) (x : Stop) (t : List Stop) → p ≤ g.stopped → t ≡ over (inserted_at p x (take g.stopped g.stops)) g.stops → record { kind = Conflicts; list = g.list; stops = t; listed = g.listed; stopped = g.stopped + 1 } ≡ laid (conflicts (list_of g) (inserted_at p x (stops_of g))) g
  put_in p x t k e = same _ _ refl (sym (list_over g few_in)) (e ∙ ap (λ (s : List Stop). over (inserted_at p x s) g.stops) (sym (stops_is g short_in))) (sym (listed_is g)) (sym (put_in_long p x k))

  -- a stop takes another's place
  pub replaced : (p : ℕ) (x : Stop) → p < g.stopped → record { kind = g.kind; list = g.list; stops = set g.stops p x; listed = g.listed; stopped = g.stopped } ≡ laid (conflicts (list_of g) (take p (stops_of g) ++ x ∷ after_at p (stops_of g))) g
  replaced p x k = same _ _ h.kind (sym (list_over g few_in))
      (set_over g.stopped p g.stops x k short_in ∙ ap (λ (s : List Stop). over (take p s ++ x ∷ drop (suc p) s) g.stops) (sym (stops_is g short_in)))
      (sym (listed_is g)) (sym (swap_long p (stops_of g) x (omega (arith, stopped_is g)) ∙ stopped_is g))

  -- a stop goes, and an entry is pushed
  pub moved : (p : ℕ) (e : Entry) (t : List Stop) → g.listed < 128 → p < g.stopped → t ≡ over (removed_at p (take g.stopped g.stops)) g.stops → record { kind = Conflicts; list = set g.list g.listed e; stops = t; listed = g.listed + 1; stopped = g.stopped - 1 } ≡ laid (conflicts (list_of g ++ e ∷ []) (removed_at p (stops_of g))) g
  moved p e t k m f = same _ _ refl (push_list e k) (f ∙ ap (λ (s : List Stop). over (removed_at p s) g.stops) (sym (stops_is g short_in))) (sym (pushed_long e)) (sym (taken_long p m))

-- ---- a lone one
pub lone_entry : (e : Entry) (g : Code) → 0 < length g.list → record { kind = Conflicts; list = set g.list 0 e; stops = g.stops; listed = 1; stopped = 0 } ≡ laid (conflicts (e ∷ []) []) g
lone_entry e g h = same _ _ refl (set_split g.list 0 e h) refl refl refl

pub lone_stop : (s : Stop) (g : Code) → 0 < length g.stops → record { kind = Conflicts; list = g.list; stops = set g.stops 0 s; listed = 0; stopped = 1 } ≡ laid (conflicts [] (s ∷ [])) g
lone_stop s g h = same _ _ refl refl (set_split g.stops 0 s h) refl refl
