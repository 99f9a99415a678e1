-- The number of fuse: its five tests, read off the interfaces' words. Assumes nothing.
use Rattle.std.specs.Prelude.{None, Some}
use Prim.Native.Nat.{ℕ, suc, ◌-◌, ◌<◌}
use mathlib.Core.Path.{◌≡◌, refl, ap, ap₂, sym, ◌∙◌}
use mathlib.Core.Bool.{Bool, true, false, ◌||◌, not}
use mathlib.Core.List.{List, [], ◌∷◌}
use lib.Dec.{eqb, leb}
use lib.IntN.{nat_abs}
use lib.ListN.{length, get_or}
use Rattle.bench_words.specs.Codec.{pick}
use Rattle.bench_words.specs.Store.{node_at, interface_at}
use Rattle.bench_words.specs.declared.Interface.{Interface}
use Rattle.ledger_spec.specs.Bench.{Bench}
use Rattle.ledger_spec.specs.Bench as plain
use Rattle.ledger_spec.specs.Look.{interface}
use Rattle.ledger_spec.specs.Tests.{first, is_some, empty, outside, child, used, floored, same, late}
use Rattle.ledger_spec.specs.Refuse.{fuse_tests}
use Rattle.ledger_spec.proofs.Lists.{or_false}
use Rattle.bench_views.specs.View.{view, up_seen, halves_seen, interface_in}
use Rattle.bench_views.proofs.Views.{interface_in_lem, view_count}
use borrow.Author.Tests.{leb-false, ne_eqb}
use native.Mathlib.Omega.{arith}
use Rattle.read_sound.proofs.Numbers.{first_yes, first_no, first_none}

-- ---- one interface
empty_counts : {A : Type 0} (l : List A) → empty l ≡ eqb (length l) 0
empty_counts [] = refl
empty_counts (x ∷ xs) = sym (ne_eqb (suc (length xs)) 0 (λ e. omega arith))

halves_given : (l r : ℕ) → is_some (halves_seen l r) ≡ not (eqb l 0)
halves_given l r = go (eqb l 0)
  where
    go : (c : Bool) → is_some {A = ℕ × ℕ} (pick c None (Some (l - 1, r - 1))) ≡ not c
    go true = refl
    go false = refl

module _ (b : List ℕ) (u : ℕ) (low : u < 8) (f : Interface) (i : f ≡ interface_at b u) where
  seen : {X : Type 0} (φ : plain.Interface → X) → φ (interface (view b) u) ≡ φ (interface_in (interface_at b) (node_at b) u)
  seen φ = ap φ (interface_in_lem (get_or b 0 0) (interface_at b) (node_at b) u low)

  pub child_is : child (view b) u ≡ is_some (up_seen f.parent)
  child_is = seen (λ (x : plain.Interface). is_some x.parent) ∙ ap (λ (x : Interface). is_some (up_seen x.parent)) (sym i)

  pub floored_is : floored (view b) u ≡ f.marks.floored
  floored_is = seen (λ (x : plain.Interface). x.marks.floored) ∙ ap (λ (x : Interface). x.marks.floored) (sym i)

  slots_are : not (empty (interface (view b) u).slots) ≡ not (eqb f.used 0)
  slots_are = ap not (empty_counts (interface (view b) u).slots ∙ ap (λ (k : ℕ). eqb k 0) (view_count (get_or b 0 0) (interface_at b) (node_at b) u low ∙ ap (λ (x : Interface). x.used) (sym i)))

  fused_is : is_some (interface (view b) u).halves ≡ not (eqb f.left 0)
  fused_is = seen (λ (x : plain.Interface). is_some x.halves) ∙ halves_given (interface_at b u).left (interface_at b u).right ∙ ap (λ (x : Interface). not (eqb x.left 0)) (sym i)

  pub used_is : used (interface (view b) u) ≡ (not (eqb f.used 0) || (not (eqb f.progress 0) || not (eqb f.left 0)))
  used_is =
      ap₂ ◌||◌ slots_are
      (ap₂ ◌||◌ (seen (λ (x : plain.Interface). not (eqb (nat_abs x.progress) 0)) ∙ ap (λ (x : Interface). not (eqb x.progress 0)) (sym i))
      fused_is)

  pub late_is : late (interface (view b) u) ≡ (not (eqb f.used 0) || not (eqb f.left 0))
  late_is = ap₂ ◌||◌ slots_are fused_is

-- ---- the five tests
module _ (B : Bench) (p l r : ℕ) where
  pub fuse_low : (o : Bool) → o ≡ (outside p || (outside l || outside r)) → o ≡ false → (p < 8) × (l < 8) × (r < 8)
  fuse_low o e t =
      let q = or_false (outside p) (outside l || outside r) (sym e ∙ t) in
      let s = or_false (outside l) (outside r) q.1 in
      (leb-false 8 p q.0, leb-false 8 l s.0, leb-false 8 r s.1)

  module _ (o : Bool) (e : o ≡ (outside p || (outside l || outside r))) where
    pub fuse_out : o ≡ true → 3 ≡ first (fuse_tests B p l r)
    unfolding fuse_tests
    fuse_out t = sym (first_yes (outside p || (outside l || outside r)) 3 _ (sym e ∙ t))

    module _ (t : o ≡ false) (c : Bool) (e₂ : c ≡ (child B p || (child B l || child B r))) where
      rest : List (Bool × ℕ)
      rest = (eqb l r || (leb p l || leb p r), 16) ∷ (used (interface B p), 17) ∷ (not (same (floored B l) (floored B r)), 26) ∷ []

      inside : first (fuse_tests B p l r) ≡ first ((child B p || (child B l || child B r), 4) ∷ rest)
      unfolding fuse_tests rest
      inside = first_no (outside p || (outside l || outside r)) 3 ((child B p || (child B l || child B r), 4) ∷ rest) (sym e ∙ t)

      pub fuse_child : c ≡ true → 4 ≡ first (fuse_tests B p l r)
      fuse_child t₂ = sym (inside ∙ first_yes (child B p || (child B l || child B r)) 4 rest (sym e₂ ∙ t₂))

      module _ (t₂ : c ≡ false) (d : Bool) (e₃ : d ≡ (eqb l r || (leb p l || leb p r))) where
        tops : first (fuse_tests B p l r) ≡ first rest
        tops = inside ∙ first_no (child B p || (child B l || child B r)) 4 rest (sym e₂ ∙ t₂)

        pub fuse_order : d ≡ true → 16 ≡ first (fuse_tests B p l r)
        unfolding rest
        fuse_order t₃ = sym (tops ∙ first_yes (eqb l r || (leb p l || leb p r)) 16 ((used (interface B p), 17) ∷ (not (same (floored B l) (floored B r)), 26) ∷ []) (sym e₃ ∙ t₃))

        module _ (t₃ : d ≡ false) (w : Bool) (e₄ : w ≡ used (interface B p)) where
          below : first (fuse_tests B p l r) ≡ first ((used (interface B p), 17) ∷ (not (same (floored B l) (floored B r)), 26) ∷ [])
          unfolding rest
          below = tops ∙ first_no (eqb l r || (leb p l || leb p r)) 16 ((used (interface B p), 17) ∷ (not (same (floored B l) (floored B r)), 26) ∷ []) (sym e₃ ∙ t₃)

          pub fuse_used : w ≡ true → 17 ≡ first (fuse_tests B p l r)
          fuse_used t₄ = sym (below ∙ first_yes (used (interface B p)) 17 ((not (same (floored B l) (floored B r)), 26) ∷ []) (sym e₄ ∙ t₄))

          module _ (t₄ : w ≡ false) (v : Bool) (e₅ : v ≡ not (same (floored B l) (floored B r))) where
            last : first (fuse_tests B p l r) ≡ first ((not (same (floored B l) (floored B r)), 26) ∷ [])
            last = below ∙ first_no (used (interface B p)) 17 ((not (same (floored B l) (floored B r)), 26) ∷ []) (sym e₄ ∙ t₄)

            pub fuse_mixed : v ≡ true → 26 ≡ first (fuse_tests B p l r)
            fuse_mixed t₅ = sym (last ∙ first_yes (not (same (floored B l) (floored B r))) 26 [] (sym e₅ ∙ t₅))

            pub fuse_fine : v ≡ false → 0 ≡ first (fuse_tests B p l r)
            fuse_fine t₅ = sym (last ∙ first_no (not (same (floored B l) (floored B r))) 26 [] (sym e₅ ∙ t₅) ∙ first_none)
