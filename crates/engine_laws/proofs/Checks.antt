-- Both checks find the same in either engine: verdict and index. Assumes nothing.
use Rattle.std.specs.Prelude.{None, Option, Some}
use Prim.Native.Nat.{ℕ, zero, suc}
use mathlib.Core.Path.{◌≡◌, refl, ◌∙◌}
use mathlib.Core.Bool.{Bool, true, false, ◌||◌, ◌&&◌}
use mathlib.Core.List.{List, [], ◌∷◌}
use lib.Dec.{eqb}
use lib.IntN.{◌-ℤ◌, nat_abs}
use Rattle.ledger_spec.specs.Bench.{Handle, Member, defect, blossom, Node, Bench}
use Rattle.ledger_spec.specs.Look.{interface, node_named, same_handle}
use Rattle.ledger_spec.specs.Tests.{first, any, stale, is_defect}
use Rattle.ledger_spec.specs.Reads.{said, slots_of}
use Rattle.ledger_spec.specs.Walk.{parent_in}
use Rattle.ledger_spec.specs.Check.{index_in, member_verdict, circle_verdict, finding, total_of, verdict, arrives, is_under, strict_member, strict_circle, strict_finding, strict_verdict, check_of, strict_of}
use Rattle.engine_laws.specs.Engines.{in_engine}
use Rattle.engine_laws.proofs.Looks.{slots_in}
use Rattle.engine_laws.proofs.Tests.{unit_tests_lem}
use Rattle.engine_laws.proofs.Walks.{outermost_in}

abbrev Slots : Type 0
Slots = List (ℕ × ℕ × Option Node)

module _ (m : Bool) (b : Bench) where
  -- ---- the check
  member_in : (x : Member) → member_verdict (in_engine m b) x ≡ member_verdict b x
  unfolding member_verdict node_named
  member_in x = λ i. elim (is_defect (node_named b x.node)) [
    | true ↦ elim (same_handle x.touch.0 x.node && same_handle x.touch.1 x.node) [ true ↦ 0 | false ↦ 2 ]
    | false ↦ elim (stale b x.touch.0 || stale b x.touch.1) [
      | true ↦ 4
      | false ↦ elim (same_handle (outermost_in m b x.touch.0 i) (outermost_in m b x.node i) && same_handle (outermost_in m b x.touch.1 i) (outermost_in m b x.node i))
          [ true ↦ 0 | false ↦ 3 ]
    ]
  ]

  circle_in : (ms : List Member) → circle_verdict (in_engine m b) ms ≡ circle_verdict b ms
  unfolding circle_verdict
  circle_in [] = refl
  circle_in (x ∷ ms) = λ i. elim (member_in x i) [ zero ↦ circle_in ms i | suc k ↦ (suc k, x.node) ]

  finding_in : (whole ts : Slots) (seen : List ℕ) (k : ℕ) → finding (in_engine m b) whole ts seen k ≡ finding b whole ts seen k
  unfolding finding
  finding_in whole [] seen k = refl
  finding_in whole (t ∷ ts) seen k = λ i. elim t.2 [
    | None ↦ finding_in whole ts seen (suc k) i
    | Some n ↦ elim n.class [
      | defect v ↦ elim (any (eqb v) seen) [ true ↦ (1, k) | false ↦ finding_in whole ts (v ∷ seen) (suc k) i ]
      | blossom ms ↦ elim (circle_in ms i).0 [ zero ↦ finding_in whole ts seen (suc k) i | suc w ↦ (suc w, index_in whole 0 (circle_in ms i).1) ]
    ]
  ]

  found_in : (u : ℕ) → finding (in_engine m b) (slots_of (in_engine m b) u) (slots_of (in_engine m b) u) [] 0 ≡ finding b (slots_of b u) (slots_of b u) [] 0
  found_in u = (λ i. finding (in_engine m b) (slots_in m b u i) (slots_in m b u i) [] 0) ∙ finding_in (slots_of b u) (slots_of b u) [] 0

  pub verdict_in : (u : ℕ) → verdict (in_engine m b) u ≡ verdict b u
  unfolding verdict
  verdict_in u = λ i.
      elim (found_in u i).0 [ suc k ↦ found_in u i | zero ↦ elim (eqb (nat_abs ((interface b u).sum -ℤ total_of (slots_in m b u i))) 0) [ true ↦ (0, 0) | false ↦ (5, 0) ] ]

  -- ---- the strict check
  arrives_in : (k : ℕ) (t g : Handle) → arrives k (in_engine m b) t g ≡ arrives k b t g
  unfolding arrives node_named
  arrives_in zero t g = refl
  arrives_in (suc k) t g = λ i. same_handle t g || elim (parent_in (node_named b t)) [ None ↦ false | Some p ↦ arrives_in k p g i ]

  under_in : (t g : Handle) → is_under (in_engine m b) t g ≡ is_under b t g
  unfolding is_under
  under_in t g = arrives_in 512 t g

  strict_member_lem : (x : Member) → strict_member (in_engine m b) x ≡ strict_member b x
  unfolding strict_member node_named
  strict_member_lem x = λ i. elim (is_defect (node_named b x.node)) [ true ↦ true | false ↦ under_in x.touch.0 x.node i && under_in x.touch.1 x.node i ]

  strict_circle_lem : (ms : List Member) → strict_circle (in_engine m b) ms ≡ strict_circle b ms
  unfolding strict_circle
  strict_circle_lem [] = refl
  strict_circle_lem (x ∷ ms) = λ i. elim (strict_member_lem x i) [ true ↦ strict_circle_lem ms i | false ↦ Some x.node ]

  strict_finding_lem : (whole ts : Slots) → strict_finding (in_engine m b) whole ts ≡ strict_finding b whole ts
  unfolding strict_finding
  strict_finding_lem whole [] = refl
  strict_finding_lem whole (t ∷ ts) = λ i. elim t.2 [
    | None ↦ strict_finding_lem whole ts i
    | Some n ↦ elim n.class [
      | defect v ↦ strict_finding_lem whole ts i
      | blossom ms ↦ elim (strict_circle_lem ms i) [ None ↦ strict_finding_lem whole ts i | Some h ↦ (6, index_in whole 0 h) ]
    ]
  ]

  strict_found : (u : ℕ) → strict_finding (in_engine m b) (slots_of (in_engine m b) u) (slots_of (in_engine m b) u) ≡ strict_finding b (slots_of b u) (slots_of b u)
  strict_found u = (λ i. strict_finding (in_engine m b) (slots_in m b u i) (slots_in m b u i)) ∙ strict_finding_lem (slots_of b u) (slots_of b u)

  pub strict_verdict_lem : (u : ℕ) → strict_verdict (in_engine m b) u ≡ strict_verdict b u
  unfolding strict_verdict
  strict_verdict_lem u = λ i. elim (verdict_in u i).0 [ zero ↦ strict_found u i | suc k ↦ verdict_in u i ]

  -- ---- the two reads
  pub check_in : (u : ℕ) → check_of (in_engine m b) u ≡ check_of b u
  unfolding check_of
  check_in u = λ i. said (first (unit_tests_lem m b u i)) (verdict_in u i) (0, 0)

  pub strict_in : (u : ℕ) → strict_of (in_engine m b) u ≡ strict_of b u
  unfolding strict_of
  strict_in u = λ i. said (first (unit_tests_lem m b u i)) (strict_verdict_lem u i) (0, 0)
