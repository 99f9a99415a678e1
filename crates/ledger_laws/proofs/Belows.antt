-- BELOW after a growth: growing by c leaves a tree that is refused by s exactly where it was refused by c + s. Assumes nothing.
use Rattle.std.specs.Prelude.{Option}
use Prim.Native.Nat.{ℕ, ◌<◌}
use mathlib.Core.Path.{◌≡◌, refl, sym, ◌∙◌, ap, ap₂}
use mathlib.Core.Logic.{◌≢◌, by_cases}
use mathlib.Core.Bool.{Bool, false, ◌&&◌, ◌||◌}
use mathlib.Core.List.{List, [], ◌∷◌, map}
use native.Mathlib.Decide.{ℕ_discrete}
use native.Mathlib.Omega.{arith}
use lib.Dec.{eqb}
use borrow.Author.Tests.{ne_eqb}
use lib.IntN.{ℤ, pos, ◌+ℤ◌}
use lib.Signed.{lt_z}
use Rattle.ledger_spec.specs.Bench.{Node, Marks, Bench}
use Rattle.ledger_spec.specs.Look.{interface, top}
use Rattle.ledger_spec.specs.Tests.{any, sinks, below}
use Rattle.ledger_spec.specs.Deeds.{grow_slot, grow_by}
use Rattle.ledger_spec.specs.SoundTree.{units}
use Rattle.ledger_spec.specs.Frame.{Frame}
use Rattle.ledger_spec.specs.Knit.{In, here, there}
use Rattle.ledger_spec.proofs.Gathered.{units_in}
use Rattle.ledger_spec.proofs.TreeReadings.{grow_marks, grow_top, grow_under}
use Rattle.ledger_laws.proofs.Sinks.{sinks_grown}

any_same : {A : Type 0} (p q : A → Bool) (xs : List A) → ((x : A) → In x xs → p x ≡ q x) → any p xs ≡ any q xs
unfolding any
any_same p q [] h = refl
any_same p q (x ∷ xs) h = ap₂ ◌||◌ (h x (here refl)) (any_same p q xs (λ y i. h y (there i)))

any_map : (p q : Option Node → Bool) (f : Option Node → Option Node) → ((o : Option Node) → p (f o) ≡ q o) → (xs : List (Option Node)) → any p (map f xs) ≡ any q xs
unfolding any
any_map p q f h [] = refl
any_map p q f h (x ∷ xs) = ap₂ ◌||◌ (h x) (any_map p q f h xs)

module _ (b : Bench) (F : Frame b) (u : ℕ) (c s : ℤ) (hc : lt_z c (pos 0) ≡ false) (hs : lt_z s (pos 0) ≡ false) where
  abbrev b' : Bench
  b' = grow_by b u c

  abbrev sunk : Bench → ℤ → ℕ → Bool
  sunk d l w = eqb (top d w) u && any (sinks l) (interface d w).slots

  tree_same : (w : ℕ) → w < 8 → sunk b' s w ≡ sunk b (c +ℤ s) w
  tree_same w h = ap (λ (t : ℕ). eqb t u && any (sinks s) (interface b' w).slots) (grow_top b u c w) ∙ by_cases (ℕ_discrete (top b w) u)
      (λ (e : top b w ≡ u). ap (λ (x : Bool). eqb (top b w) u && x) (ap (any (sinks s)) (grow_under b u c w (omega (arith, h, F.eight)) e) ∙ any_map (sinks s) (sinks (c +ℤ s)) (grow_slot c) (sinks_grown c s hc hs) (interface b w).slots))
      (λ (e : top b w ≢ u). ap (λ (t : Bool). t && any (sinks s) (interface b' w).slots) (ne_eqb (top b w) u e) ∙ sym (ap (λ (t : Bool). t && any (sinks (c +ℤ s)) (interface b w).slots) (ne_eqb (top b w) u e)))

  pub below_grown : below b' u s ≡ below b u (c +ℤ s)
  unfolding below
  below_grown = ap₂ ◌&&◌ (ap (λ (m : Marks). m.floored) (grow_marks b u c u)) (any_same (sunk b' s) (sunk b (c +ℤ s)) units (λ w i. tree_same w (units_in w i)))
