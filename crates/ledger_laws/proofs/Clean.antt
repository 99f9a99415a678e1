-- What a verdict means: 0 exactly where the sum is the total of present values, every defect vertex is single, and every touching handle passes the
-- Rust's weak test; after calls from set-up 5 exactly where the last two hold and what went does not add up to 0. Assumes nothing.
use Rattle.std.specs.Prelude.{None}
use Prim.Native.Nat.{ℕ, zero, suc, ◌<◌}
use mathlib.Core.Path.{◌≡◌, refl, ap}
use mathlib.Core.Logic.{◌≢◌}
use mathlib.Core.List.{List, []}
use native.Mathlib.Omega.{arith}
use lib.IntN.{pos, nat_abs, ◌-ℤ◌}
use Rattle.ledger_spec.specs.Bench.{Bench}
use Rattle.ledger_spec.specs.Look.{interface}
use Rattle.ledger_spec.specs.Tests.{any}
use Rattle.ledger_spec.specs.Calls.{Call}
use Rattle.ledger_spec.specs.Reads.{slots_of}
use Rattle.ledger_spec.specs.Check.{total_of, verdict}
use Rattle.ledger_spec.specs.Book.{turns, new_book}
use Rattle.ledger_spec.proofs.Ints.{zero_diff, diff_zero}
use Rattle.ledger_laws.proofs.Five.{found, verdict_found, verdict_zero, verdict_five, five_only, went, five, five_went}
use Rattle.ledger_laws.specs.Clean.{Ordered, Clean}
use Rattle.ledger_laws.proofs.Rings.{ring_weak, weak_ring}
use Rattle.ledger_laws.proofs.Walked.{Tidy, walk_tidy, tidy_walk}

module _ (b : Bench) (u : ℕ) where
  -- ---- the walk finds nothing exactly there
  pub found_ordered : (found b u).0 ≡ 0 → Ordered b u
  found_ordered z =
      let T : Tidy b (slots_of b u) [] = walk_tidy b (slots_of b u) (slots_of b u) [] 0 z in
      record { single = T.single; touching = λ t n ms m i e c j. ring_weak b ms (T.rings t i n ms e c) m j }

  pub ordered_found : Ordered b u → (found b u).0 ≡ 0
  unfolding any
  ordered_found O = tidy_walk b (slots_of b u) (slots_of b u) [] 0
      (record { fresh = λ i v e. refl; single = O.single; rings = λ t i n ms e c. weak_ring b ms (λ m j. O.touching t n ms m i e c j) })

  -- ---- verdict 0
  pub zero_clean : (verdict b u).0 ≡ 0 → Clean b u
  zero_clean z = go (found b u).0 refl
    where
      summed : (found b u).0 ≡ 0 → (k : ℕ) → nat_abs ((interface b u).sum -ℤ total_of (slots_of b u)) ≡ k → (interface b u).sum ≡ total_of (slots_of b u)
      summed f zero e = zero_diff (interface b u).sum (total_of (slots_of b u)) e
      summed f (suc k) e = absurd (omega (arith, z, ap (λ (w : ℕ × ℕ). w.0) (verdict_five b u f (λ s. omega (arith, e, diff_zero (interface b u).sum (total_of (slots_of b u)) s)))))

      go : (k : ℕ) → (found b u).0 ≡ k → Clean b u
      go zero f = record { sum = summed f (nat_abs ((interface b u).sum -ℤ total_of (slots_of b u))) refl; ordered = found_ordered f }
      go (suc k) f = absurd (omega (arith, z, f, ap (λ (w : ℕ × ℕ). w.0) (verdict_found b u k f)))

  pub clean_zero : Clean b u → verdict b u ≡ (0, 0)
  clean_zero C = verdict_zero b u (ordered_found C.ordered) C.sum

-- ---- verdict 5, after calls from set-up
module _ (n : ℕ) (cs : List Call) (i : ℕ) (h : i < 8) (free : (interface (turns (new_book n) cs).bench i).parent ≡ None) where
  abbrev b : Bench
  b = (turns (new_book n) cs).bench

  pub five_means : (verdict b i).0 ≡ 5 → Ordered b i × (went n cs i h free ≢ pos 0)
  five_means e = (found_ordered b i (five_only b i e).0, five_went n cs i h free e)

  pub five_comes : Ordered b i → went n cs i h free ≢ pos 0 → verdict b i ≡ (5, 0)
  five_comes O q = five n cs i h free (ordered_found b i O) q
