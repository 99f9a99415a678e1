-- What holds whenever a pass is about to take the next group. Assumes nothing.
use Prim.Native.Nat.{ℕ, zero, suc, ◌+◌, ◌-◌, ◌≤◌, ◌<◌}
use mathlib.Core.Path.{◌≡◌, refl, sym, ◌∙◌, ap, subst}
use mathlib.Core.List.{List, ◌∷◌, map}
use native.Mathlib.Omega.{arith}
use native.Mathlib.Numerals.{add-one}
use lib.ListN.{length, set, length-set}
use lib.Seq.{sets}
use lib.IntN.{ℤ, pos, nat_abs}
use Rattle.recorded_spec.specs.Sums.{Sums, refused, sums}
use Rattle.recorded_groups.specs.Recording.{recording_of}
use Rattle.recorded_steps.specs.declared.Step.{Step}
use Rattle.recorded_steps.specs.Passes.{StepAs, steps_of, Ready}
use Rattle.recorded_steps.proofs.Passing.{rest, rest_start, rest_end, rest_stop, rest_step, by_low, further_no, further_yes}

module _ (f : ℤ → ℕ) (ws : List ℕ) (L : ℕ) where
  abbrev pub whole : Sums
  whole = sums f (pos 0) (pos L) (recording_of ws)

  pub record Reached (at taken done : ℕ) : Type 0 where
    pub in_words : at ≤ length ws
    pub few : taken ≤ at
    pub low : done ≤ L
    pub number : whole.number ≡ (rest f ws L at done).number
    pub lengths : whole.number ≡ 0 → length whole.lengths ≡ taken + length (rest f ws L at done).lengths

  pub reached_start : Reached 0 0 0
  reached_start = record {
    in_words = omega arith;
    few = omega arith;
    low = omega arith;
    number = ap (λ (s : Sums). s.number) (sym (rest_start f ws L));
    lengths = λ z. ap (λ (s : Sums). length s.lengths) (sym (rest_start f ws L)) ∙ omega arith;
  }

  pub reached_end : (at taken done : ℕ) → Reached at taken done → L ≤ done → (whole.number ≡ 0) × (length whole.lengths ≡ taken)
  reached_end at taken done R h = (z, R.lengths z ∙ ap (λ (s : Sums). taken + length s.lengths) (rest_end f ws L at done h) ∙ omega arith)
    where
      z : whole.number ≡ 0
      z = R.number ∙ ap (λ (s : Sums). s.number) (rest_end f ws L at done h)

  module _ (at taken done : ℕ) (R : Reached at taken done) (more : done < L) (r : Step) (S : StepAs ws at (L - done) r) where
    pub reached_stop : (r.number ≡ 0 → ⊥) → whole.number ≡ r.number
    reached_stop h = R.number ∙ ap (λ (s : Sums). s.number) (rest_stop f ws L at done R.in_words more r S h)

    module _ (z : r.number ≡ 0) where
      pub reached_past : (f (pos (done + r.by)) ≡ 0 → ⊥) → whole.number ≡ f (pos (done + r.by))
      reached_past h = R.number ∙ ap (λ (s : Sums). s.number) (rest_step f ws L at done R.in_words more r S z) ∙ further_no (f (pos (done + r.by))) (pos r.by) (rest f ws L (at + 1413) (done + r.by)) h

      taken_step : f (pos (done + r.by)) ≡ 0 → rest f ws L at done ≡ record { number = (rest f ws L (at + 1413) (done + r.by)).number; lengths = pos r.by ∷ (rest f ws L (at + 1413) (done + r.by)).lengths }
      taken_step e = rest_step f ws L at done R.in_words more r S z ∙ further_yes (f (pos (done + r.by))) (pos r.by) (rest f ws L (at + 1413) (done + r.by)) e

      pub reached_next : f (pos (done + r.by)) ≡ 0 → Reached r.end (taken + 1) (done + r.by)
      reached_next e = subst (λ (p : ℕ). Reached p (taken + 1) (done + r.by)) (sym (S.end z).0) (record {
        in_words = omega (arith, S.end z);
        few = omega (arith, R.few);
        low = omega (arith, by_low f ws L at done R.in_words more r S z);
        number = R.number ∙ ap (λ (s : Sums). s.number) (taken_step e);
        lengths = λ q. R.lengths q ∙ ap (λ (s : Sums). taken + length s.lengths) (taken_step e) ∙ omega arith;
      })

      -- the rest's first length is this step's
      pub first_length : f (pos (done + r.by)) ≡ 0 → (rest f ws L at done).lengths ≡ pos r.by ∷ (rest f ws L r.end (done + r.by)).lengths
      first_length e = ap (λ (s : Sums). s.lengths) (taken_step e) ∙ ap (λ (p : ℕ). pos r.by ∷ (rest f ws L p (done + r.by)).lengths) (sym (S.end z).0)

-- ---- the pass that writes
module _ (ws : List ℕ) (L : ℕ) (out₀ : List ℕ) where
  abbrev any : ℤ → ℕ
  any t = 0

  pub record Writing (out : List ℕ) (at i done : ℕ) : Type 0 where
    pub reached : Reached any ws L at i done
    pub wrote : sets out i (map nat_abs (rest any ws L at done).lengths) ≡ sets out₀ 0 (map nat_abs (steps_of ws L).lengths)
    pub long : length out ≡ length out₀

  pub writing_start : Writing out₀ 0 0 0
  writing_start = record { reached = reached_start any ws L; wrote = ap (λ (s : Sums). sets out₀ 0 (map nat_abs s.lengths)) (rest_start any ws L); long = refl }

  module _ (out : List ℕ) (at i done : ℕ) (W : Writing out at i done) where
    pub writing_end : L ≤ done → out ≡ sets out₀ 0 (map nat_abs (steps_of ws L).lengths)
    writing_end h = ap (λ (s : Sums). sets out i (map nat_abs s.lengths)) (sym (rest_end any ws L at done h)) ∙ W.wrote

    module _ (P : Ready ws L out₀) (more : done < L) (r : Step) (S : StepAs ws at (L - done) r) where
      -- the steps have passed, so this one does
      pub goes_on : r.number ≡ 0
      goes_on = go r.number refl
        where
          go : (n : ℕ) → r.number ≡ n → r.number ≡ 0
          go zero e = e
          go (suc n) e = absurd (omega (arith, sym e ∙ sym (reached_stop any ws L at i done W.reached more r S (λ z. omega (arith, sym e ∙ z))) ∙ P.accepted))

      abbrev next : Reached any ws L r.end (i + 1) (done + r.by)
      next = reached_next any ws L at i done W.reached more r S goes_on refl

      pub writing_room : i < length out
      writing_room = omega (arith, W.long, P.room, next.lengths P.accepted)

      pub writing_next : Writing (set out i r.by) r.end (i + 1) (done + r.by)
      writing_next = record {
        reached = next;
        wrote = ap (λ (n : ℕ). sets (set out i r.by) n (map nat_abs (rest any ws L r.end (done + r.by)).lengths)) (add-one i)
            ∙ ap (λ (l : List ℤ). sets out i (map nat_abs l)) (sym (first_length any ws L at i done W.reached more r S goes_on refl)) ∙ W.wrote;
        long = length-set out i r.by ∙ W.long;
      }
