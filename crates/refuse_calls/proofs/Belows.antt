-- The number of grow after the length's own: BELOW by the least value that shrinks. Assumes nothing.
use Prim.Native.Nat.{ℕ, ◌<◌, ◌≤◌}
use mathlib.Core.Path.{◌≡◌, sym, ◌∙◌, ap, subst}
use mathlib.Core.Logic.{◌≢◌}
use mathlib.Core.Bool.{false}
use mathlib.Core.List.{List, [], ◌∷◌}
use borrow.Author.Tests.{lt-ltb, le-ltb}
use lib.IntN.{ℤ, pos, ◌+ℤ◌}
use lib.Signed.{lt_z}
use mir.Syntax.{w64}
use mir.Val.{SFits}
use mir.Facts.{to_z-of_z}
use Rattle.ledger_spec.specs.Look.{interface}
use Rattle.ledger_spec.specs.Tests.{first, below}
use Rattle.ledger_spec.specs.Refuse.{grow_tests}
use Rattle.ledger_spec.proofs.Lists.{or_false}
use Rattle.ledger_spec.proofs.Passed.{Failed, passed, Open, open_of}
use Rattle.bench_views.specs.View.{view}
use Rattle.bench_floors.specs.Least.{Least}
use Rattle.read_sound.proofs.Numbers.{first_yes, first_no, first_none}
use Rattle.refuse_calls.specs.Length.{length_tests}
use Rattle.refuse_calls.proofs.Firsts.{refused_by, decided_by}
use Rattle.refuse_calls.proofs.Lengths.{again}

-- the length's number is asked of the length read again from 64 bits
pub length_said : (b : List ℕ) (u : ℕ) {l : ℤ} {n : ℕ} → SFits w64 l → n ≡ first (length_tests (view b) u (again l)) → n ≡ first (length_tests (view b) u l)
length_said b u {n = n} f e = subst (λ (x : ℤ). n ≡ first (length_tests (view b) u x)) (to_z-of_z f) e

module _ (b : List ℕ) (u : ℕ) (l : ℤ) (n : ℕ) (e : n ≡ first (length_tests (view b) u l)) where
  pub grow_early : n ≢ 0 → n ≡ first (grow_tests (view b) u l)
  unfolding grow_tests
  grow_early q = refused_by (length_tests (view b) u l) ((below (view b) u l, 25) ∷ []) n e q

  module _ (z : n ≡ 0) where
    all_failed : Failed (length_tests (view b) u l)
    all_failed = passed (length_tests (view b) u l) tt (sym e ∙ z)

    pub here : Open (view b) u
    here = open_of (view b) u all_failed.0 all_failed.1.0

    pub onward : lt_z l (pos 0) ≡ false
    onward = (or_false (lt_z l (pos 0)) (lt_z (pos 1099511627776) ((interface (view b) u).progress +ℤ l)) all_failed.1.1.0).0

    rest : (k : ℕ) → k ≡ first ((below (view b) u l, 25) ∷ []) → k ≡ first (grow_tests (view b) u l)
    unfolding grow_tests
    rest k r = decided_by (length_tests (view b) u l) ((below (view b) u l, 25) ∷ []) all_failed k r

    module _ (low : ℕ) (L : Least b u low) (x : ℕ) (p : l ≡ pos x) (s : x < 9223372036854775808) where
      pub grow_below : low < x → 25 ≡ first (grow_tests (view b) u l)
      grow_below h = rest 25 (sym (first_yes (below (view b) u l) 25 [] (ap (below (view b) u) p ∙ L.is x s ∙ lt-ltb low x h)))

      pub grow_above : x ≤ low → 0 ≡ first (grow_tests (view b) u l)
      grow_above h = rest 0 (sym (first_no (below (view b) u l) 25 [] (ap (below (view b) u) p ∙ L.is x s ∙ le-ltb low x h) ∙ first_none))
