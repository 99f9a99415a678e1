-- Ask 13: what a patch sees on a bench that it shares is what it sees alone; so two runs with the same calls of the patch show it the same. Assumes nothing.
use Prim.Native.Nat.{ℕ, zero, suc, ◌≤◌, ◌<◌, ◌^◌}
use mathlib.Core.Path.{◌≡◌, refl, sym, ◌∙◌, ap, ap₂, subst}
use mathlib.Core.Logic.{◌≢◌}
use mathlib.Core.Bool.{Bool}
use mathlib.Core.List.{List, [], ◌∷◌}
use native.Mathlib.Omega.{arith}
use borrow.Author.Tests.{ne_eqb}
use Rattle.ledger_spec.specs.Bench.{Bench, Interface, set_up}
use Rattle.ledger_spec.specs.Tests.{first}
use Rattle.ledger_spec.specs.Calls.{nobody, settle, set_up_call}
use Rattle.ledger_spec.specs.Answers.{answer}
use Rattle.ledger_spec.specs.Facts.{Sound}
use Rattle.ledger_spec.proofs.Lists.{not_in_nil, all_in}
use Rattle.ledger_spec.proofs.Knit.{none_some}
use Rattle.ledger_laws.proofs.Linked.{all_fresh}
use Rattle.ledger_laws.proofs.Always.{begun_sound}
use Rattle.patch_laws.specs.Patch.{Patch, Apart, mine, Within, units_named, units_of}
use Rattle.patch_laws.specs.Runs.{Side, answer_to, after, seen, Step, theirs, ours, asked, sees, opened, own}
use Rattle.patch_laws.specs.Statement.{read_of, AllFit, Unworn, TwoPatches}
use Rattle.patch_laws.proofs.Renamed.{Renaming, re_face}
use Rattle.patch_laws.proofs.Faces.{Faces, Closed}
use Rattle.patch_laws.proofs.Alike.{Each}
use Rattle.patch_laws.proofs.Rising.{shifted, rising_shift}
use Rattle.patch_laws.proofs.Links.{Link, theirs_link, ours_link, ours_seen}
use Rattle.patch_laws.proofs.Told.{told_same}

-- ---- at set-up no interface names anything
module _ (p : Patch) (m n : ℕ) where
  opened_faces : (R : Renaming) → Faces p R (set_up m) (set_up n)
  opened_faces R = record { long = refl; face = λ w k. all_fresh 8 w ∙ ap (re_face R) (sym (all_fresh 8 w)) }

  opened_closed : Closed p (set_up m)
  opened_closed = record {
    up = λ w q k e. absurd (none_some (ap (λ (f : Interface). f.parent) (all_fresh 8 w)) e);
    left = λ w l r k e. absurd (none_some (ap (λ (f : Interface). f.halves) (all_fresh 8 w)) e);
    right = λ w l r k e. absurd (none_some (ap (λ (f : Interface). f.halves) (all_fresh 8 w)) e);
  }

-- set-up from 0 is refused, and leaves the bench of set-up from 1
pub first_serial : ℕ → ℕ
first_serial zero = 1
first_serial (suc n) = suc n

opened_is : (n : ℕ) → (set_up_call n).bench ≡ set_up (first_serial n)
unfolding set_up_call settle first_serial first
opened_is zero = refl
opened_is (suc n) = ap (λ (c : Bool). (settle (first ((c, 15) ∷ [])) (set_up 1) (set_up (suc n)) nobody).bench) (ne_eqb (suc n) 0 (λ e. omega arith))

pub opened_one : (set_up_call 1).bench ≡ set_up 1
unfolding first_serial
opened_one = opened_is 1

some_serial : (n : ℕ) → 1 ≤ first_serial n
unfolding first_serial
some_serial zero = omega arith
some_serial (suc n) = omega arith

pub opened_link : (p : Patch) (n : ℕ) → n < 2 ^ 32 → Link p (shifted (λ i. i) 1 (first_serial n)) (opened 1) (opened n)
unfolding first_serial
opened_link p n h = subst (λ (b : Bench). Link p (shifted (λ i. i) 1 (first_serial n)) (opened 1) (record { bench = b; table = [] })) (sym (opened_is n))
    (subst (λ (s : Bench). Link p (shifted (λ i. i) 1 (first_serial n)) (record { bench = s; table = [] }) (record { bench = set_up (first_serial n); table = [] })) (sym (opened_is 1)) (record {
      sound₀ = subst Sound (opened_is 1) (begun_sound 1 (omega arith));
      sound = subst Sound (opened_is n) (begun_sound n h);
      closed = opened_closed p 1 1;
      held = opened_faces p 1 1 _;
      faces = opened_faces p 1 (first_serial n) _;
      rising = rising_shift (λ i. i) 1 (first_serial n) 1 (some_serial n) (omega arith) (record { origin = refl; order = λ i j x. x; tail = λ i x. omega arith });
      table = refl;
      places = λ x i. absurd (not_in_nil i);
      old = λ x i. absurd (not_in_nil i);
    }))

pub each : (p : Patch) (us : List ℕ) → Within p us → Each p us
each p us w u i = all_in (mine p) us w i

-- ---- a run, step by step
module _ (a p : Patch) (apart : Apart a p) where
  pub alone : (ρ : ℕ → ℕ) (k₀ k : Side) → Link p ρ k₀ k → (xs : List Step) → AllFit a p xs → Unworn (sees k xs) → sees k xs ≡ sees k₀ (own xs)
  unfolding sees own
  alone ρ k₀ k L [] fit w = refl
  alone ρ k₀ k L (theirs c ∷ xs) fit w = alone (shifted ρ k₀.bench.next (answer k.bench c).bench.next) k₀ (record { bench = (answer k.bench c).bench; table = k.table }) (theirs_link a p apart ρ k₀ k L c (each a (units_named c) fit.0)) xs fit.1 w
  alone ρ k₀ k L (ours c ∷ xs) fit w = let q : (answer_to k c).number ≢ 15 = unfold seen in w.0 in
      ap₂ ◌∷◌ (ours_seen p ρ k₀ k L c (each p (units_of c) fit.0) q)
      (alone ρ (after k₀ c) (after k c) (ours_link p ρ k₀ k L c (each p (units_of c) fit.0) q) xs fit.1 w.1)
  alone ρ k₀ k L (asked r ∷ xs) fit w = ap₂ ◌∷◌ (told_same p ρ k₀ k L r (each p (read_of r) fit.0)) (alone ρ k₀ k L xs fit.1 w.1)

-- what the patch sees is what it sees alone, from set-up with serial 1
pub as_alone : (a p : Patch) → Apart a p → (n : ℕ) → n < 2 ^ 32 → (xs : List Step) → AllFit a p xs → Unworn (sees (opened n) xs) → sees (opened n) xs ≡ sees (opened 1) (own xs)
as_alone a p apart n h xs fit w = alone a p apart _ (opened 1) (opened n) (opened_link p n h) xs fit w

pub two_patches : TwoPatches
two_patches a p apart m n hm hn xs ys fx fy e wx wy = as_alone a p apart m hm xs fx wx ∙ ap (sees (opened 1)) e ∙ sym (as_alone a p apart n hn ys fy wy)
