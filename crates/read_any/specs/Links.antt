-- What the read of the outermost blossom says of the links that it followed. Assumes nothing.
use Rattle.std.specs.Prelude.{ℕ, ◌≤◌, ◌≡◌, false, None}
use Rattle.ledger_spec.specs.Bench.{Handle, Bench}
use Rattle.ledger_spec.specs.Look.{node_named, top}
use Rattle.ledger_spec.specs.Tests.{stale}
use Rattle.ledger_spec.specs.Walk.{parent_in}
use Rattle.ledger_spec.specs.Chain.{Chain, blossoms_in}
use Rattle.ledger_spec.specs.Named.{handle_named}
use Rattle.read_sound.specs.declared.Ancestor.{Ancestor}

-- so many parent links lead from a present node h to t, by the one chain there is; they are no more than the present blossoms of the whole fused tree
-- that h stands in, and none exactly where h has no parent
pub record Followed (b : Bench) (h t : Handle) (links : ℕ) : Type 0 where
  pub present : stale b h ≡ false
  pub chain : Chain b h links t
  pub only : (k : ℕ) (g : Handle) → Chain b h k g → (k ≡ links) × (g ≡ t)
  pub few : links ≤ blossoms_in b (top b h.unit)
  pub free : parent_in (node_named b h) ≡ None → links ≡ 0
  pub bare : links ≡ 0 → parent_in (node_named b h) ≡ None

-- an answer of the read: accepted, its links are the chain's; refused, 0
pub record Walked (b : Bench) (h : Handle) (r : Ancestor) : Type 0 where
  pub accepted : r.number ≡ 0 → Followed b h (handle_named r.node) r.links
  pub refused : (r.number ≡ 0 → ⊥) → r.links ≡ 0
