-- The chain of parents above a node, and how many blossoms stand in a tree: what the walk to the outermost blossom is measured by. Assumes nothing.
use Rattle.std.specs.Prelude.{ℕ, suc, ◌≡◌, Bool, true, false, None, Option, Some}
use Rattle.ledger_spec.specs.Bench.{Handle, defect, blossom, Node, Bench}
use Rattle.ledger_spec.specs.Look.{node_named}
use Rattle.ledger_spec.specs.Reads.{slots_of}
use Rattle.ledger_spec.specs.Walk.{parent_in}
use Rattle.ledger_spec.specs.SoundTree.{tally}

-- from h, so many links up, to t, which has no parent
pub data Chain (b : Bench) : Handle → ℕ → Handle → Type 0 where
  end : {h : Handle} → parent_in (node_named b h) ≡ None → Chain b h 0 h
  link : {h : Handle} {k : ℕ} {t : Handle} (p : Handle) → parent_in (node_named b h) ≡ Some p → Chain b p k t → Chain b h (suc k) t

-- a slot that holds a blossom
unfoldable pub is_blossom : Option Node → Bool
is_blossom None = false
is_blossom (Some n) = elim n.class [ defect v ↦ false | blossom ms ↦ true ]

-- the present blossoms of u's tree
unfoldable pub blossoms_in : Bench → ℕ → ℕ
blossoms_in b u = tally (λ (t : ℕ × ℕ × Option Node). is_blossom t.2) (slots_of b u)
