-- Walks from a node go the same way in either engine, and so do their reads. Assumes nothing.
use Rattle.std.specs.Prelude.{None, Some}
use Prim.Native.Nat.{ℕ, zero, suc}
use mathlib.Core.Path.{◌≡◌, refl}
use mathlib.Core.Bool.{Bool}
use mathlib.Core.List.{List, [], ◌∷◌, ◌++◌}
use lib.ListN.{length, get_or, drop}
use Rattle.ledger_spec.specs.Bench.{Handle, defect, blossom, Bench}
use Rattle.ledger_spec.specs.Look.{node_named}
use Rattle.ledger_spec.specs.Tests.{first}
use Rattle.ledger_spec.specs.Calls.{nobody}
use Rattle.ledger_spec.specs.Reads.{said, node_tests}
use Rattle.ledger_spec.specs.Walk.{parent_in, outer_from, links_from, below_from, outermost, each, vertices_from, vertices_of, outer_of, below_tests, below_of, first_vertex, size_tests, vertices_into}
use Rattle.engine_laws.specs.Engines.{in_engine}

module _ (m : Bool) (b : Bench) where
  outer_from_lem : (k : ℕ) (h : Handle) → outer_from k (in_engine m b) h ≡ outer_from k b h
  unfolding outer_from node_named
  outer_from_lem zero h = refl
  outer_from_lem (suc k) h = λ i. elim (parent_in (node_named b h)) [ None ↦ h | Some p ↦ outer_from_lem k p i ]

  links_from_lem : (k : ℕ) (h : Handle) → links_from k (in_engine m b) h ≡ links_from k b h
  unfolding links_from node_named
  links_from_lem zero h = refl
  links_from_lem (suc k) h = λ i. elim (parent_in (node_named b h)) [ None ↦ 0 | Some p ↦ suc (links_from_lem k p i) ]

  below_from_lem : (k : ℕ) (g h : Handle) → below_from k (in_engine m b) g h ≡ below_from k b g h
  unfolding below_from node_named
  below_from_lem zero g h = refl
  below_from_lem (suc k) g h = λ i. elim (parent_in (node_named b h)) [ None ↦ g | Some p ↦ below_from_lem k h p i ]

  vertices_from_lem : (k : ℕ) (h : Handle) → vertices_from k (in_engine m b) h ≡ vertices_from k b h
  unfolding vertices_from node_named
  vertices_from_lem zero h = refl
  vertices_from_lem (suc k) h = λ i.
      elim (node_named b h) [ None ↦ [] | Some n ↦ elim n.class [ defect v ↦ v ∷ [] | blossom ms ↦ each (λ g. vertices_from_lem k g i) ms ] ]

  pub outermost_in : (h : Handle) → outermost (in_engine m b) h ≡ outermost b h
  outermost_in h = outer_from_lem 512 h

  pub vertices_in : (h : Handle) → vertices_of (in_engine m b) h ≡ vertices_of b h
  vertices_in h = vertices_from_lem h.serial h

  -- ---- the reads
  pub node_tests_lem : (h : Handle) → node_tests (in_engine m b) h ≡ node_tests b h
  unfolding node_tests node_named
  node_tests_lem h = refl

  pub outer_in : (h : Handle) → outer_of (in_engine m b) h ≡ outer_of b h
  unfolding outer_of
  outer_in h = λ i. said (first (node_tests_lem h i)) (outermost_in h i, links_from_lem 512 h i) (nobody, 0)

  below_tests_lem : (h : Handle) → below_tests (in_engine m b) h ≡ below_tests b h
  unfolding below_tests node_named
  below_tests_lem h = refl

  pub below_in : (h : Handle) → below_of (in_engine m b) h ≡ below_of b h
  unfolding below_of
  below_in h = λ i. said (first (below_tests_lem h i)) (below_from_lem 512 h h i) nobody

  pub first_in : (h : Handle) → first_vertex (in_engine m b) h ≡ first_vertex b h
  unfolding first_vertex
  first_in h = λ i. said (first (node_tests_lem h i)) (get_or (vertices_in h i) 0 0) 0

  size_tests_lem : (h : Handle) (out : List ℕ) → size_tests (in_engine m b) h out ≡ size_tests b h out
  unfolding size_tests node_named
  size_tests_lem h out = refl

  pub vertices_into_lem : (h : Handle) (out : List ℕ) → vertices_into (in_engine m b) h out ≡ vertices_into b h out
  unfolding vertices_into
  vertices_into_lem h out = λ i. said (first (size_tests_lem h out i)) (length (vertices_in h i), vertices_in h i ++ drop (length (vertices_in h i)) out) (0, out)
