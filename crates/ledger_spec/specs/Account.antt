-- Demand 3: what it is for the stored sums and speeds to be right, and for two benches to be alike. Assumes nothing.
use Rattle.std.specs.Prelude.{ℕ, zero, suc, ◌<◌, ◌≡◌, Bool, true, false, List, [], ◌∷◌, eqb, ℤ, pos, ◌+ℤ◌, None, Option}
use Rattle.ledger_spec.specs.Bench.{Node, Bench}
use Rattle.ledger_spec.specs.Look.{interface, top}
use Rattle.ledger_spec.specs.Change.{share, worth}
use Rattle.ledger_spec.specs.Book.{Book}

unfoldable pub Σ : ℕ → (ℕ → ℤ) → ℤ
Σ zero f = pos 0
Σ (suc n) f = Σ n f +ℤ f n

-- x where the test holds, and else 0
unfoldable pub gate : Bool → ℤ → ℤ
gate true x = x
gate false x = pos 0

unfoldable pub slot_sum : (Option Node → ℤ) → List (Option Node) → ℤ
slot_sum φ [] = pos 0
slot_sum φ (x ∷ xs) = φ x +ℤ slot_sum φ xs

unfoldable pub total : List ℤ → ℤ
total [] = pos 0
total (x ∷ xs) = x +ℤ total xs

-- the sum of v over the interfaces of i's tree
abbrev pub tree_sum : (ℕ → ℕ) → (ℕ → ℤ) → ℕ → ℤ
tree_sum tp v i = Σ 8 (λ u. gate (eqb (tp u) i) (v u))

abbrev pub values_at : Book → ℕ → ℤ
values_at k u = slot_sum worth (interface k.bench u).slots +ℤ total (k.gone u)

abbrev pub rates_in : Bench → ℕ → ℤ
rates_in b u = slot_sum share (interface b u).slots

abbrev pub rates_at : Book → ℕ → ℤ
rates_at k u = rates_in k.bench u

-- The stored sum and speed of each interface without a parent are those of the nodes in its tree
pub record Right (k : Book) (i : ℕ) : Type 0 where
  pub sum : (interface k.bench i).sum ≡ tree_sum (top k.bench) (values_at k) i
  pub speed : (interface k.bench i).speed ≡ tree_sum (top k.bench) (rates_at k) i

-- Two benches with the same nodes, links, marks and serials, and for each interface without a parent the same sum and speed
pub record Alike (b c : Bench) : Type 0 where
  pub next : b.next ≡ c.next
  pub slots : (w : ℕ) → w < 8 → (interface b w).slots ≡ (interface c w).slots
  pub parent : (w : ℕ) → (interface b w).parent ≡ (interface c w).parent
  pub halves : (w : ℕ) → (interface b w).halves ≡ (interface c w).halves
  pub marks : (w : ℕ) → (interface b w).marks ≡ (interface c w).marks
  pub sum : (w : ℕ) → (interface b w).parent ≡ None → (interface b w).sum ≡ (interface c w).sum
  pub speed : (w : ℕ) → (interface b w).parent ≡ None → (interface b w).speed ≡ (interface c w).speed
