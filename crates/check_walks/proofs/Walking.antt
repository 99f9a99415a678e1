-- At each turn the walk along the slots left, from the vertices met, is the whole walk. Assumes nothing.
use Rattle.std.specs.Prelude.{None}
use Prim.Native.Nat.{ℕ, suc, ◌+◌, ◌<◌, ◌≤◌}
use mathlib.Core.Path.{◌≡◌, refl, ap, sym, ◌∙◌}
use mathlib.Core.Bool.{Bool, true, false}
use mathlib.Core.List.{List, [], ◌∷◌}
use native.Mathlib.Numerals.{add-one}
use native.Mathlib.Omega.{arith}
use lib.ListN.{drop, get_or, replicate, drop_of_length-le}
use lib.Seq.{drop-cons}
use Rattle.ledger_spec.specs.Bench.{Bench}
use Rattle.ledger_spec.specs.Reads.{slots_of}
use Rattle.ledger_laws.specs.Clean.{Entry}
use Rattle.ledger_laws.proofs.Steps.{walk_none, strict_none}
use Rattle.bench_views.specs.View.{view}
use Rattle.check_places.specs.Places.{Places}
use Rattle.check_seen.specs.Met.{known, Keeps}
use Rattle.check_seen.proofs.Looking.{fresh}
use Rattle.check_walks.specs.declared.Step.{Step}
use Rattle.check_walks.specs.Walks.{walk_by, Steps}

by_none : (s : Bool) (b : Bench) (whole : List Entry) (seen : List ℕ) (k : ℕ) → walk_by s b whole [] seen k ≡ (0, 0)
unfolding walk_by
by_none true b whole seen k = strict_none b whole
by_none false b whole seen k = walk_none b whole seen k

pub record Walking (b : List ℕ) (unit : ℕ) (s : Bool) (k n : ℕ) (met : List ℕ) : Type 0 where
  pub keeps : Keeps met n
  pub few : n ≤ k
  pub whole : walk_by s (view b) (slots_of (view b) unit) (drop k (slots_of (view b) unit)) (known met n) k ≡ walk_by s (view b) (slots_of (view b) unit) (slots_of (view b) unit) [] 0

pub walking_starts : (b : List ℕ) (unit : ℕ) (s : Bool) → Walking b unit s 0 0 (replicate 2048 0)
unfolding known
walking_starts b unit s = record { keeps = fresh; few = omega arith; whole = refl }

module _ (b : List ℕ) (unit : ℕ) (s : Bool) (ps : List ℕ) (count : ℕ) (P : Places b unit ps count) (k n : ℕ) (met : List ℕ) (W : Walking b unit s k n met) where
  pub walking_ends : count ≤ k → (0, 0) ≡ walk_by s (view b) (slots_of (view b) unit) (slots_of (view b) unit) [] 0
  walking_ends l = sym (by_none s (view b) (slots_of (view b) unit) (known met n) k)
      ∙ sym (ap (λ (ts : List Entry). walk_by s (view b) (slots_of (view b) unit) ts (known met n) k) (drop_of_length-le (slots_of (view b) unit) {i = k} (omega (arith, P.count)))) ∙ W.whole

  module _ (l : k < count) (met' : List ℕ) (r : Step) (T : Steps b unit s k met n met' r) where
    opened : walk_by s (view b) (slots_of (view b) unit) (get_or (slots_of (view b) unit) k (0, 0, None) ∷ drop (suc k) (slots_of (view b) unit)) (known met n) k ≡ walk_by s (view b) (slots_of (view b) unit) (slots_of (view b) unit) [] 0
    opened = sym (ap (λ (ts : List Entry). walk_by s (view b) (slots_of (view b) unit) ts (known met n) k) (drop-cons (slots_of (view b) unit) k (0, 0, None) (omega (arith, P.count)))) ∙ W.whole

    pub walking_found : (r.verdict ≡ 0 → ⊥) → (r.verdict, r.index.0) ≡ walk_by s (view b) (slots_of (view b) unit) (slots_of (view b) unit) [] 0
    walking_found z = sym (T.found z (drop (suc k) (slots_of (view b) unit))) ∙ opened

    pub walking_on : r.verdict ≡ 0 → Walking b unit s (k + 1) r.count met'
    walking_on z = record {
      keeps = T.kept z;
      few = omega (arith, T.few, W.few);
      whole = ap (λ (j : ℕ). walk_by s (view b) (slots_of (view b) unit) (drop j (slots_of (view b) unit)) (known met' r.count) j) (add-one k)
          ∙ sym (T.on z (drop (suc k) (slots_of (view b) unit))) ∙ opened;
    }
