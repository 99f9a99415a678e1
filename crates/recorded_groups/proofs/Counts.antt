-- How many groups a recording has: as many as cover its words. Assumes nothing.
use Prim.Native.Nat.{ℕ, zero, suc, ◌+◌, ◌-◌, ◌*◌, ◌≤◌, ◌<◌}
use mathlib.Core.Path.{◌≡◌, subst}
use mathlib.Core.List.{List, [], ◌∷◌}
use native.Mathlib.Omega.{arith}
use lib.ListN.{length, drop, length-drop}
use Rattle.recorded_groups.specs.Recording.{recording_in, recording_of}

-- q groups cover n words, and fewer do not
pub record Covers (n q : ℕ) : Type 0 where
  pub over : n ≤ q * 1413
  pub close : q * 1413 < n + 1413

covers_on : (n q : ℕ) → 1 ≤ n → Covers (n - 1413) q → Covers n (suc q)
covers_on n q h c = record { over = omega (arith, c.over); close = omega (arith, c.close) }

in_covers : (k : ℕ) (ws : List ℕ) → length ws ≤ k → Covers (length ws) (length (recording_in k ws))
unfolding recording_in
in_covers zero ws h = record { over = omega arith; close = omega arith }
in_covers (suc k) [] h = record { over = omega arith; close = omega arith }
in_covers (suc k) (w ∷ ws) h = covers_on (length (w ∷ ws)) (length (recording_in k (drop 1413 (w ∷ ws)))) (omega arith)
    (subst (λ (m : ℕ). Covers m (length (recording_in k (drop 1413 (w ∷ ws))))) (length-drop 1413 (w ∷ ws)) (in_covers k (drop 1413 (w ∷ ws)) (omega (arith, length-drop 1413 (w ∷ ws)))))

pub counted : (ws : List ℕ) → Covers (length ws) (length (recording_of ws))
unfolding recording_of
counted ws = in_covers (length ws) ws (omega arith)

pub covers_once : (n p q : ℕ) → Covers n p → Covers n q → p ≡ q
covers_once n p q c d = omega (arith, c.over, c.close, d.over, d.close)
