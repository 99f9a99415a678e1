-- The words of a position, and what follows them. Assumes nothing.
use Rattle.std.specs.Prelude.{Option}
use Prim.Native.Nat.{ℕ, zero, suc, ◌+◌, ◌-◌, ◌≤◌, ◌<◌}
use mathlib.Core.Path.{◌≡◌, refl, sym, ◌∙◌, ap}
use mathlib.Core.List.{List, [], ◌∷◌}
use native.Mathlib.Omega.{arith}
use lib.ListN.{length, take, drop, length-take, length-drop}
use lib.Seq.{drop-drop}
use Rattle.ledger_spec.specs.Tests.{first}
use Rattle.ledger_spec.specs.Groups.{Group}
use Rattle.recorded_spec.specs.Recorded.{group_tests}
use Rattle.recorded_groups.specs.Recording.{played, recording_in, recording_of}
use Rattle.recorded_groups.proofs.Positions.{stuck_number, played_short}
use Rattle.recorded_steps.specs.Passes.{window}

pub short_window : (ws : List ℕ) (at : ℕ) → length ws - at < 1413 → first (group_tests (played (window ws at))) ≡ 2
short_window ws at h = stuck_number (played (window ws at)) (played_short (window ws at) (λ e. omega (arith, length-take 1413 (drop at ws), length-drop at ws)))

-- ---- as much fuel as there are words is enough
in_nil : (k : ℕ) → recording_in k [] ≡ []
unfolding recording_in
in_nil zero = refl
in_nil (suc k) = refl

step_on : (k : ℕ) → ((m : ℕ) (s : List ℕ) → length s ≤ k → length s ≤ m → recording_in k s ≡ recording_in m s)
    → (m : ℕ) (s : List ℕ) → length s ≤ suc k → length s ≤ m → recording_in (suc k) s ≡ recording_in m s
unfolding recording_in
step_on k ih m [] h j = sym (in_nil m)
step_on k ih zero (w ∷ s) h j = absurd (omega arith)
step_on k ih (suc m) (w ∷ s) h j = ap (λ (gs : List (Option Group)). played (take 1413 (w ∷ s)) ∷ gs)
    (ih m (drop 1413 (w ∷ s)) (omega (arith, length-drop 1413 (w ∷ s))) (omega (arith, length-drop 1413 (w ∷ s))))

nil_of : (s : List ℕ) → length s ≡ 0 → s ≡ []
nil_of [] z = refl
nil_of (w ∷ s) z = absurd (omega (arith, z))

enough : (k m : ℕ) (s : List ℕ) → length s ≤ k → length s ≤ m → recording_in k s ≡ recording_in m s
enough zero m s h j = ap (recording_in 0) e ∙ in_nil 0 ∙ sym (in_nil m) ∙ ap (recording_in m) (sym e)
  where
    e : s ≡ []
    e = nil_of s (omega arith)
enough (suc k) m s h j = step_on k (λ m' s' h' j'. enough k m' s' h' j') m s h j

some_left : (s : List ℕ) → 0 < length s → recording_of s ≡ played (take 1413 s) ∷ recording_of (drop 1413 s)
unfolding recording_of recording_in
some_left [] h = absurd (omega arith)
some_left (w ∷ s) h = ap (λ (gs : List (Option Group)). played (take 1413 (w ∷ s)) ∷ gs)
    (enough (length s) (length (drop 1413 (w ∷ s))) (drop 1413 (w ∷ s)) (omega (arith, length-drop 1413 (w ∷ s))) (omega arith))

-- the position at `at`, and those after it
pub next_group : (ws : List ℕ) (at : ℕ) → at < length ws → recording_of (drop at ws) ≡ played (window ws at) ∷ recording_of (drop (at + 1413) ws)
next_group ws at h = some_left (drop at ws) (omega (arith, length-drop at ws)) ∙ ap (λ (s : List ℕ). played (window ws at) ∷ recording_of s) (drop-drop 1413 at ws)

pub no_group : (ws : List ℕ) (at : ℕ) → length ws ≡ at → recording_of (drop at ws) ≡ []
unfolding recording_of
no_group ws at e = ap recording_of (nil_of (drop at ws) (omega (arith, length-drop at ws))) ∙ in_nil 0

pub width : (at : ℕ) → (at + 1413) - at ≡ 1413
width at = omega arith
