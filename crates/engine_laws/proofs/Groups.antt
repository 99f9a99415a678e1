-- THEOREM. The two calls on groups that are lent a bench, add and extend, answer the same in either engine. Assumes nothing.
use mathlib.Core.Path.{◌≡◌, refl}
use mathlib.Core.Bool.{Bool, not, ◌&&◌}
use mathlib.Core.List.{[], ◌∷◌}
use Rattle.kinds.specs.declared.Obstacle.{Obstacle}
use Rattle.kinds.specs.declared.Obstacle.TheVariants.{NonZeroGrow, Conflicting, TouchingVirtual, BlossomNeedExpand, VertexShrinkStop}
use Rattle.ledger_spec.specs.Numbers.{BROKEN, STALE, ROOM}
use Rattle.ledger_spec.specs.Bench.{Bench}
use Rattle.ledger_spec.specs.Look.{node_named}
use Rattle.ledger_spec.specs.Tests.{first, any, is_some}
use Rattle.ledger_spec.specs.Reads.{said}
use Rattle.ledger_spec.specs.Named.{handle_named}
use Rattle.ledger_spec.specs.Groups.{Group, sound_group, added, extended}
use Rattle.ledger_spec.specs.GroupCalls.{handles_of, group_handles, stale_code, vertex_of, or_else, add, extend}
use Rattle.engine_laws.specs.Engines.{in_engine}
use Rattle.engine_laws.proofs.Walks.{first_in}
use Rattle.engine_laws.proofs.Sound.{sound_engine}

module _ (m : Bool) (b : Bench) where
  vertex_in : (o : Obstacle) → vertex_of (in_engine m b) o ≡ vertex_of b o
  vertex_in (NonZeroGrow n f) = refl
  vertex_in (Conflicting p q) = refl
  vertex_in (TouchingVirtual p v x) = refl
  vertex_in (BlossomNeedExpand h) = refl
  vertex_in (VertexShrinkStop h p) = λ i. (first_in m b (handle_named h) i).1

  pub add_engine : (g : Group) (o : Obstacle) → add (in_engine m b) g o ≡ add b g o
  unfolding add node_named
  add_engine g o = λ i.
      said
      (first ((not (sound_engine m b i && sound_group g), BROKEN) ∷ (any (stale_code b) (handles_of o), STALE) ∷ (not (is_some (added g o (vertex_in o i))), ROOM) ∷ []))
      (or_else (added g o (vertex_in o i)) g)
      g

  pub extend_engine : (g h : Group) → extend (in_engine m b) g h ≡ extend b g h
  unfolding extend node_named
  extend_engine g h = λ i.
      said
      (first ((not (sound_engine m b i && (sound_group g && sound_group h)), BROKEN) ∷ (any (stale_code b) (group_handles h), STALE) ∷ (not (is_some (extended g h)), ROOM) ∷ []))
      (or_else (extended g h) g)
      g
