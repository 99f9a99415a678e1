-- The two longer lists of notices, of a blossom made and of one expanded, and what the second asks of the bench. Assumes nothing.
use Rattle.std.specs.Prelude.{◌≡◌, List, [], ◌∷◌, ◌++◌, map, Some}
use Rattle.ledger_spec.specs.Bench.{Handle, Member, Node, Bench, grows, stays, blossom}
use Rattle.ledger_spec.specs.Look.{node_named}
use Rattle.ledger_spec.specs.Deeds.{members}
use Rattle.ledger_spec.specs.Notices.{Notice, state_set, shrink_prepared, blossom_added, blossom_removed}

-- each member stays, its circle is prepared to shrink, the blossom is added
abbrev pub blossom_made : List Handle → Handle → List Notice
blossom_made hs q = map (λ (h : Handle). state_set h stays) hs ++ (shrink_prepared hs ∷ blossom_added q ∷ [])

-- the blossom is removed, and each member grows
abbrev pub blossom_gone : Bench → Handle → List Notice
blossom_gone b h = blossom_removed h ∷ map (λ (g : Handle). state_set g grows) (members (node_named b h))

-- h names a blossom that is present
pub record Ring (b : Bench) (h : Handle) : Type 0 where
  pub node : Node
  pub ms : List Member
  pub named : node_named b h ≡ Some node
  pub ring : node.class ≡ blossom ms
