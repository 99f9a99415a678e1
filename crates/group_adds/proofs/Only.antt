-- No second answer of an add, and what it says in the ledger's terms: ROOM where the ledger adds nothing, and else the ledger's group. Assumes nothing.
use Rattle.std.specs.Prelude.{None, Option, Some}
use mathlib.Core.Path.{◌≡◌, refl, sym, ◌∙◌}
use mathlib.Core.Bool.{cond}
use Rattle.kinds.specs.declared.Obstacle.{Obstacle}
use Rattle.kinds.specs.declared.Vertex.{Vertex}
use Rattle.ledger_spec.specs.Tests.{is_some}
use Rattle.ledger_spec.specs.Groups.{Group, added}
use Rattle.ledger_spec.specs.GroupCalls.{or_else}
use Rattle.groups.specs.View.{group_of}
use Rattle.groups.specs.declared.Group.{Group as Code}
use Rattle.groups.proofs.View.{view_laid}
use Rattle.group_adds.specs.Adds.{changed}
use Rattle.group_adds.specs.declared.Changed.{Changed}

module _ (g : Code) where
  pub changed_number : (o : Option Group) → (changed o g).number ≡ cond (is_some o) 0 20
  unfolding changed
  changed_number None = refl
  changed_number (Some q) = refl

  pub changed_view : (o : Option Group) → group_of (changed o g).group ≡ or_else o (group_of g)
  unfolding changed
  changed_view None = refl
  changed_view (Some q) = view_laid q g

pub only_add : (g : Code) (o : Obstacle) (v : Vertex) (r s : Changed) → r ≡ changed (added (group_of g) o v.0) g → s ≡ changed (added (group_of g) o v.0) g → r ≡ s
only_add g o v r s p q = p ∙ sym q
