-- Steps that are all accepted: their lengths add up to the whole, a growth by the whole is tested last, and a longer recording says the same. Assumes nothing.
use Rattle.std.specs.Prelude.{Option}
use Prim.Native.Nat.{ℕ, zero, suc, ◌+◌}
use mathlib.Core.Path.{◌≡◌, refl, sym, ◌∙◌, ap, ap₂, subst}
use mathlib.Core.Bool.{Bool, true, false, true≢false}
use mathlib.Core.List.{List, [], ◌∷◌}
use native.Mathlib.Omega.{arith}
use borrow.Author.Tests.{le-ltb, ltb-false}
use lib.ListN.{length, take}
use lib.IntN.{ℤ, pos, negsuc, ◌+ℤ◌, ◌-ℤ◌, +ℤ_assoc, +ℤ_idr}
use lib.Signed.{lt_z}
use Rattle.ledger_spec.specs.Numbers.{SHORT}
use Rattle.ledger_spec.specs.Tests.{first}
use Rattle.ledger_spec.specs.Account.{total}
use Rattle.ledger_spec.specs.Groups.{Group}
use Rattle.ledger_spec.proofs.Ints.{add_diff}
use Rattle.recorded_spec.specs.Recorded.{group_tests, growth_in, step_by, or_else}
use Rattle.recorded_spec.specs.Sums.{Sums, refused, further, sums}
use Rattle.recorded_spec.proofs.Lengths.{group_grows, Stepped, stepped}

pub nothing_left : (z : ℤ) → lt_z z (pos 0) ≡ false → lt_z (pos 0) z ≡ false → z ≡ pos 0
nothing_left (pos n) h k = ap pos (omega (arith, ltb-false 0 n k))
nothing_left (negsuc n) h k = absurd (true≢false h)

pub first_zero : (x y : ℕ) → or_else x y ≡ 0 → (x ≡ 0) × (y ≡ 0)
first_zero zero y e = (refl, e)
first_zero (suc x) y e = absurd (omega (arith, e))

-- an accepted step: it and the rest were accepted
further_zero : (n : ℕ) (l : ℤ) (s : Sums) → (further n l s).number ≡ 0 → (n ≡ 0) × (s.number ≡ 0) × (further n l s ≡ record { number = s.number; lengths = l ∷ s.lengths })
further_zero zero l s e = (refl, e, refl)
further_zero (suc n) l s e = absurd (omega (arith, e))

module _ (test : ℤ → ℕ) where
  -- what an accepted list of steps comes to
  pub record Through (done left : ℤ) (gs : List (Option Group)) (s : Sums) : Type 0 where
    pub adds : total s.lengths ≡ left
    pub tested : lt_z (pos 0) left ≡ true → test (done +ℤ left) ≡ 0
    pub taken : sums test done left (take (length s.lengths) gs) ≡ s

  abbrev Goes : ℤ → ℤ → List (Option Group) → Type 0
  Goes done left gs = lt_z left (pos 0) ≡ false → (sums test done left gs).number ≡ 0 → Through done left gs (sums test done left gs)

  ended : (done left : ℤ) (gs : List (Option Group)) → lt_z left (pos 0) ≡ false → lt_z (pos 0) left ≡ false → sums test done left [] ≡ refused 0 → Through done left gs (refused 0)
  unfolding total
  ended done left gs h k e = record { adds = sym (nothing_left left h k); tested = λ q. absurd (true≢false (sym q ∙ k)); taken = e }

  none_now : (done left : ℤ) → lt_z (pos 0) left ≡ false → sums test done left [] ≡ refused 0
  unfolding sums
  none_now done left k = ap (λ (t : Bool). elim t [ true ↦ refused SHORT | false ↦ refused 0 ]) k

  module _ (done left : ℤ) (g : Option Group) (gs : List (Option Group)) where
    l : ℤ
    l = step_by left g

    on : ℕ
    on = or_else (first (group_tests g)) (test (done +ℤ l))

    again : List (Option Group) → Sums
    again hs = sums test (done +ℤ l) (left -ℤ l) hs

    step_on : (hs : List (Option Group)) → lt_z (pos 0) left ≡ true → sums test done left (g ∷ hs) ≡ further on l (again hs)
    unfolding sums on again l
    step_on hs k = ap (λ (t : Bool). elim t [ true ↦ further on l (again hs) | false ↦ refused 0 ]) k

    step_off : (hs : List (Option Group)) → lt_z (pos 0) left ≡ false → sums test done left (g ∷ hs) ≡ refused 0
    unfolding sums on again l
    step_off hs k = ap (λ (t : Bool). elim t [ true ↦ further on l (again hs) | false ↦ refused 0 ]) k

    -- one step and the rest
    onward : lt_z (pos 0) left ≡ true → on ≡ 0 → (lt_z (left -ℤ l) (pos 0) ≡ false → Through (done +ℤ l) (left -ℤ l) gs (again gs)) → (again gs).number ≡ 0
        → Through done left (g ∷ gs) (record { number = (again gs).number; lengths = l ∷ (again gs).lengths })
    unfolding total on l again
    onward k z ih e = record {
      adds = ap (λ (x : ℤ). l +ℤ x) t.adds ∙ add_diff l left;
      tested = λ _. last (lt_z (pos 0) (left -ℤ l)) refl;
      taken = step_on (take (length (again gs).lengths) gs) k ∙ ap₂ (λ (n : ℕ) (x : Sums). further n l x) z t.taken;
    }
      where
        s : Stepped left (growth_in g)
        s = stepped left (growth_in g) k (group_grows g (first_zero (first (group_tests g)) (test (done +ℤ l)) z).0)

        forth : lt_z (left -ℤ l) (pos 0) ≡ false
        forth = ap (λ (x : ℤ). lt_z x (pos 0)) s.leaves ∙ le-ltb s.rest 0 (omega arith)

        t : Through (done +ℤ l) (left -ℤ l) gs (again gs)
        t = ih forth

        whole : (done +ℤ l) +ℤ (left -ℤ l) ≡ done +ℤ left
        whole = +ℤ_assoc done l (left -ℤ l) ∙ ap (λ (x : ℤ). done +ℤ x) (add_diff l left)

        last : (c : Bool) → lt_z (pos 0) (left -ℤ l) ≡ c → test (done +ℤ left) ≡ 0
        last true q = subst (λ (x : ℤ). test x ≡ 0) whole (t.tested q)
        last false q = subst (λ (x : ℤ). test x ≡ 0) (sym (+ℤ_idr (done +ℤ l)) ∙ ap (λ (x : ℤ). (done +ℤ l) +ℤ x) (sym (nothing_left (left -ℤ l) forth q)) ∙ whole)
            (first_zero (first (group_tests g)) (test (done +ℤ l)) z).1

  none_yet : (done left : ℤ) → lt_z (pos 0) left ≡ true → sums test done left [] ≡ refused SHORT
  unfolding sums
  none_yet done left k = ap (λ (t : Bool). elim t [ true ↦ refused SHORT | false ↦ refused 0 ]) k

  pub through : (done left : ℤ) (gs : List (Option Group)) → Goes done left gs
  unfolding l again
  through done left [] h = go (lt_z (pos 0) left) refl
    where
      go : (t : Bool) → lt_z (pos 0) left ≡ t → (sums test done left []).number ≡ 0 → Through done left [] (sums test done left [])
      go true k e = absurd (omega (arith, ap (λ (s : Sums). s.number) (sym (none_yet done left k)) ∙ e))
      go false k e = subst (Through done left []) (sym (none_now done left k)) (ended done left [] h k (none_now done left k))
  through done left (g ∷ gs) h = go (lt_z (pos 0) left) refl (λ q. through (done +ℤ step_by left g) (left -ℤ step_by left g) gs q)
    where
      go : (t : Bool) → lt_z (pos 0) left ≡ t → Goes (done +ℤ step_by left g) (left -ℤ step_by left g) gs → (sums test done left (g ∷ gs)).number ≡ 0 → Through done left (g ∷ gs) (sums test done left (g ∷ gs))
      go true k ih e = subst (Through done left (g ∷ gs)) (sym (step_on done left g gs gs k ∙ f.2)) (onward done left g gs k f.0 (λ q. ih q f.1) f.1)
        where
          f : (on done left g gs ≡ 0) × ((again done left g gs gs).number ≡ 0) × (further (on done left g gs) (step_by left g) (again done left g gs gs) ≡ record { number = (again done left g gs gs).number; lengths = step_by left g ∷ (again done left g gs gs).lengths })
          f = further_zero (on done left g gs) (step_by left g) (again done left g gs gs) (ap (λ (s : Sums). s.number) (sym (step_on done left g gs gs k)) ∙ e)
      go false k ih e = subst (Through done left (g ∷ gs)) (sym (step_off done left g gs gs k)) (ended done left (g ∷ gs) h k (none_now done left k))
