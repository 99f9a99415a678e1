-- Looking into a bench finds the same in either engine: tops, trees, nodes, slots. Assumes nothing.
use Rattle.std.specs.Prelude.{None, Some}
use Prim.Native.Nat.{ℕ, zero, suc, ◌+◌}
use mathlib.Core.Path.{◌≡◌, refl, ap, ◌∙◌}
use mathlib.Core.Bool.{Bool}
use mathlib.Core.List.{List, [], ◌∷◌, ◌++◌}
use Rattle.ledger_spec.specs.Bench.{Handle, Bench}
use Rattle.ledger_spec.specs.Look.{interface, free_slot, node_named, climb, top, tree}
use Rattle.ledger_spec.specs.Deeds.{size_of, sizes}
use Rattle.ledger_spec.specs.Reads.{slots_from, gather, slots_of}
use Rattle.engine_laws.specs.Engines.{in_engine}

module _ (m : Bool) (b : Bench) where
  climb_in : (k u : ℕ) → climb k (in_engine m b) u ≡ climb k b u
  unfolding climb
  climb_in zero u = refl
  climb_in (suc k) u = λ i. elim (interface b u).parent [ None ↦ u | Some p ↦ climb_in k p i ]

  pub top_in : (u : ℕ) → top (in_engine m b) u ≡ top b u
  top_in u = climb_in 8 u

  pub tree_in : (k u : ℕ) → tree k (in_engine m b) u ≡ tree k b u
  unfolding tree
  tree_in zero u = refl
  tree_in (suc k) u = λ i. elim (interface b u).halves [ None ↦ u ∷ [] | Some lr ↦ (tree_in k lr.0 i ++ tree_in k lr.1 i) ++ (u ∷ []) ]

  pub free_in : (u : ℕ) → free_slot (in_engine m b) u ≡ free_slot b u
  unfolding free_slot
  free_in u = refl

  pub node_in : (h : Handle) → node_named (in_engine m b) h ≡ node_named b h
  unfolding node_named
  node_in h = refl

  pub sizes_in : (hs : List Handle) → sizes (in_engine m b) hs ≡ sizes b hs
  unfolding sizes
  sizes_in [] = refl
  sizes_in (h ∷ hs) = λ i. size_of (node_in h i) + sizes_in hs i

  pub gather_in : (us : List ℕ) → gather (in_engine m b) us ≡ gather b us
  unfolding gather
  gather_in [] = refl
  gather_in (u ∷ us) = λ i. slots_from u 0 (interface b u).slots ++ gather_in us i

  pub slots_in : (u : ℕ) → slots_of (in_engine m b) u ≡ slots_of b u
  slots_in u = gather_in (tree 8 (in_engine m b) u) ∙ ap (gather b) (tree_in 8 u)
