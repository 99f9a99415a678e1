-- The check's walk and the strict one, by a flag: what one slot does to it, and what it finds. Assumes nothing.
use Rattle.std.specs.Prelude.{ℕ, suc, ◌+◌, ◌≤◌, ◌≡◌, Bool, true, false, List, [], ◌∷◌, get_or, None}
use Rattle.ledger_spec.specs.Bench.{Bench}
use Rattle.ledger_spec.specs.Reads.{slots_of}
use Rattle.ledger_spec.specs.Named.{handle_named}
use Rattle.ledger_spec.specs.Check.{index_in, finding, strict_finding}
use Rattle.ledger_laws.specs.Clean.{Entry}
use Rattle.bench_views.specs.View.{view}
use Rattle.check_circles.specs.declared.Finding.{Finding}
use Rattle.check_circles.specs.Found.{Circled}
use Rattle.check_seen.specs.Met.{known, Keeps}
use Rattle.check_walks.specs.declared.Judged.{Judged}
use Rattle.check_walks.specs.declared.Step.{Step}

unfoldable pub walk_by : Bool → Bench → List Entry → List Entry → List ℕ → ℕ → ℕ × ℕ
walk_by true b whole ts seen k = strict_finding b whole ts
walk_by false b whole ts seen k = finding b whole ts seen k

-- the circle at position p: what it has for a finding, and the index of that
pub record Ringed (b : List ℕ) (unit p : ℕ) (s : Bool) (r : Judged) : Type 0 where
  pub finding : Finding
  pub circled : Circled b p s finding
  pub verdict : r.verdict ≡ finding.verdict
  pub index : (finding.verdict ≡ 0 → ⊥) → r.index.0 ≡ index_in (slots_of (view b) unit) 0 (handle_named finding.node)

-- the slot at index k, with the first n vertices met: a finding, or the walk goes on behind it
pub record Steps (b : List ℕ) (unit : ℕ) (s : Bool) (k : ℕ) (met : List ℕ) (n : ℕ) (met' : List ℕ) (r : Step) : Type 0 where
  pub few : r.count ≤ n + 1
  pub kept : r.verdict ≡ 0 → Keeps met' r.count
  pub on : r.verdict ≡ 0 → (ts : List Entry) → walk_by s (view b) (slots_of (view b) unit) (get_or (slots_of (view b) unit) k (0, 0, None) ∷ ts) (known met n) k ≡ walk_by s (view b) (slots_of (view b) unit) ts (known met' r.count) (suc k)
  pub found : (r.verdict ≡ 0 → ⊥) → (ts : List Entry) → walk_by s (view b) (slots_of (view b) unit) (get_or (slots_of (view b) unit) k (0, 0, None) ∷ ts) (known met n) k ≡ (r.verdict, r.index.0)

abbrev pub Walks : List ℕ → ℕ → Bool → Judged → Type 0
Walks b unit s r = (r.verdict, r.index.0) ≡ walk_by s (view b) (slots_of (view b) unit) (slots_of (view b) unit) [] 0
