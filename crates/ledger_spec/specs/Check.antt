-- The check and the strict check: a verdict and an index. Present nodes by index, members in circle order, the first finding wins. Assumes nothing.
use Rattle.std.specs.Prelude.{ℕ, zero, suc, Bool, true, false, ◌||◌, ◌&&◌, List, [], ◌∷◌, eqb, ℤ, pos, ◌+ℤ◌, ◌-ℤ◌, nat_abs, None, Option, Some}
use Rattle.ledger_spec.specs.Bench.{Handle, Member, defect, blossom, Node, Bench}
use Rattle.ledger_spec.specs.Look.{interface, node_named, same_handle}
use Rattle.ledger_spec.specs.Change.{worth}
use Rattle.ledger_spec.specs.Tests.{first, any, stale, is_defect}
use Rattle.ledger_spec.specs.Refuse.{unit_tests}
use Rattle.ledger_spec.specs.Reads.{said, slots_of}
use Rattle.ledger_spec.specs.Walk.{parent_in, outermost}

-- the index of a place in a list of slots
unfoldable pub index_in : List (ℕ × ℕ × Option Node) → ℕ → Handle → ℕ
index_in [] k h = 0
index_in (t ∷ ts) k h = elim (eqb t.0 h.unit && eqb t.1 h.slot) [ true ↦ k | false ↦ index_in ts (suc k) h ]

-- of a member: 2 if a defect does not touch by itself; of a blossom 4 if what it touches by is gone, else 3 if that is not in its outermost blossom
unfoldable pub member_verdict : Bench → Member → ℕ
member_verdict b m = elim (is_defect (node_named b m.node)) [
  | true ↦ elim (same_handle m.touch.0 m.node && same_handle m.touch.1 m.node) [ true ↦ 0 | false ↦ 2 ]
  | false ↦ elim (stale b m.touch.0 || stale b m.touch.1) [
    | true ↦ 4
    | false ↦ elim (same_handle (outermost b m.touch.0) (outermost b m.node) && same_handle (outermost b m.touch.1) (outermost b m.node))
        [ true ↦ 0 | false ↦ 3 ]
  ]
]

unfoldable pub circle_verdict : Bench → List Member → ℕ × Handle
circle_verdict b [] = (0, record { unit = 0; slot = 0; serial = 0 })
circle_verdict b (m ∷ ms) = elim (member_verdict b m) [ zero ↦ circle_verdict b ms | suc k ↦ (suc k, m.node) ]

-- along the slots that are left: the vertices seen before, the index reached
unfoldable pub finding : Bench → List (ℕ × ℕ × Option Node) → List (ℕ × ℕ × Option Node) → List ℕ → ℕ → ℕ × ℕ
finding b whole [] seen k = (0, 0)
finding b whole (t ∷ ts) seen k = elim t.2 [
  | None ↦ finding b whole ts seen (suc k)
  | Some n ↦ elim n.class [
    | defect v ↦ elim (any (eqb v) seen) [ true ↦ (1, k) | false ↦ finding b whole ts (v ∷ seen) (suc k) ]
    | blossom ms ↦ let c : ℕ × Handle = circle_verdict b ms in
        elim c.0 [ zero ↦ finding b whole ts seen (suc k) | suc w ↦ (suc w, index_in whole 0 c.1) ]
  ]
]

unfoldable pub total_of : List (ℕ × ℕ × Option Node) → ℤ
total_of [] = pos 0
total_of (t ∷ ts) = worth t.2 +ℤ total_of ts

unfoldable pub verdict : Bench → ℕ → ℕ × ℕ
verdict b u = let w : ℕ × ℕ = finding b (slots_of b u) (slots_of b u) [] 0 in
    elim w.0 [ suc k ↦ w | zero ↦ elim (eqb (nat_abs ((interface b u).sum -ℤ total_of (slots_of b u))) 0) [ true ↦ (0, 0) | false ↦ (5, 0) ] ]

-- ---- the strict check: as above if not 0; else 6, if a blossom member touches by a node that is not under it

-- whether t is m, or following its parents arrives at m, within so many links
unfoldable pub arrives : ℕ → Bench → Handle → Handle → Bool
arrives zero b t m = same_handle t m
arrives (suc k) b t m = same_handle t m || elim (parent_in (node_named b t)) [ None ↦ false | Some p ↦ arrives k b p m ]

-- a bench has 512 slots
unfoldable pub is_under : Bench → Handle → Handle → Bool
is_under b t m = arrives 512 b t m

unfoldable pub strict_member : Bench → Member → Bool
strict_member b m = elim (is_defect (node_named b m.node)) [ true ↦ true | false ↦ is_under b m.touch.0 m.node && is_under b m.touch.1 m.node ]

unfoldable pub strict_circle : Bench → List Member → Option Handle
strict_circle b [] = None
strict_circle b (m ∷ ms) = elim (strict_member b m) [ true ↦ strict_circle b ms | false ↦ Some m.node ]

unfoldable pub strict_finding : Bench → List (ℕ × ℕ × Option Node) → List (ℕ × ℕ × Option Node) → ℕ × ℕ
strict_finding b whole [] = (0, 0)
strict_finding b whole (t ∷ ts) = elim t.2 [
  | None ↦ strict_finding b whole ts
  | Some n ↦ elim n.class [
    | defect v ↦ strict_finding b whole ts
    | blossom ms ↦ elim (strict_circle b ms) [ None ↦ strict_finding b whole ts | Some h ↦ (6, index_in whole 0 h) ]
  ]
]

unfoldable pub strict_verdict : Bench → ℕ → ℕ × ℕ
strict_verdict b u = let w : ℕ × ℕ = verdict b u in elim w.0 [ zero ↦ strict_finding b (slots_of b u) (slots_of b u) | suc k ↦ w ]

-- ---- the two reads: number, verdict, index
unfoldable pub check_of : Bench → ℕ → ℕ × (ℕ × ℕ)
check_of b u = said (first (unit_tests b u)) (verdict b u) (0, 0)

unfoldable pub strict_of : Bench → ℕ → ℕ × (ℕ × ℕ)
strict_of b u = said (first (unit_tests b u)) (strict_verdict b u) (0, 0)
