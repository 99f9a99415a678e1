-- No second answer of an extend, and what it says in the ledger's terms: ROOM and the own group where the ledger has no room, else the ledger's group.
-- Assumes nothing.
use mathlib.Core.Path.{◌≡◌, refl, sym, ◌∙◌}
use mathlib.Core.Bool.{cond}
use Rattle.ledger_spec.specs.Tests.{is_some}
use Rattle.ledger_spec.specs.Groups.{extended}
use Rattle.ledger_spec.specs.GroupCalls.{or_else}
use Rattle.groups.specs.View.{viewed, group_of}
use Rattle.groups.specs.declared.Kind.{Kind}
use Rattle.groups.specs.declared.Kind.TheVariants.{Growth, Conflicts}
use Rattle.groups.specs.declared.Group.{Group as Code}
use Rattle.group_adds.specs.Adds.{changed}
use Rattle.group_adds.specs.declared.Changed.{Changed}
use Rattle.group_adds.proofs.Only.{changed_number, changed_view}
use Rattle.group_extends.specs.Extends.{whole_by, whole_of}

pub extend_number : (g h : Code) → (changed (extended (group_of g) (group_of h)) (whole_of g h)).number ≡ cond (is_some (extended (group_of g) (group_of h))) 0 20
extend_number g h = changed_number (whole_of g h) (extended (group_of g) (group_of h))

-- there is no room only where conflicts are extended by conflicts, and then the bytes are the own group's
else_same : (g h : Code) (k l : Kind) → or_else (extended (viewed k g) (viewed l h)) (group_of (whole_by k l g h)) ≡ or_else (extended (viewed k g) (viewed l h)) (group_of g)
unfolding extended
else_same g h (Growth a f) (Growth b i) = refl
else_same g h (Growth a f) Conflicts = refl
else_same g h Conflicts (Growth b i) = refl
else_same g h Conflicts Conflicts = refl

pub extend_view : (g h : Code) → group_of (changed (extended (group_of g) (group_of h)) (whole_of g h)).group ≡ or_else (extended (group_of g) (group_of h)) (group_of g)
extend_view g h = changed_view (whole_of g h) (extended (group_of g) (group_of h)) ∙ else_same g h g.kind h.kind

pub only_extend : (g h : Code) (r s : Changed) → r ≡ changed (extended (group_of g) (group_of h)) (whole_of g h) → s ≡ changed (extended (group_of g) (group_of h)) (whole_of g h) → r ≡ s
only_extend g h r s p q = p ∙ sym q
