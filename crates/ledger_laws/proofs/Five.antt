-- The check's verdict 5: it comes exactly where the walk finds nothing and the sum is not the total of values; after calls from set-up, where what
-- went from the tree does not add up to 0. Assumes nothing.
use Rattle.std.specs.Prelude.{None, Option, Some}
use Prim.Native.Nat.{ℕ, zero, suc, ◌≤◌, ◌<◌}
use mathlib.Core.Path.{◌≡◌, refl, ap}
use mathlib.Core.Logic.{◌≢◌}
use mathlib.Core.Bool.{Bool, true, false, ◌&&◌, ◌||◌}
use mathlib.Core.List.{List, [], ◌∷◌}
use native.Mathlib.Omega.{arith}
use lib.Dec.{eqb}
use borrow.Author.Tests.{eq-eqb, ne_eqb}
use lib.IntN.{ℤ, pos, nat_abs, ◌-ℤ◌}
use Rattle.ledger_spec.specs.Bench.{Handle, Member, Class, defect, blossom, Node, Bench}
use Rattle.ledger_spec.specs.Look.{interface, node_named, tree, same_handle}
use Rattle.ledger_spec.specs.Tests.{any, stale, is_defect}
use Rattle.ledger_spec.specs.Calls.{Call}
use Rattle.ledger_spec.specs.Reads.{slots_of}
use Rattle.ledger_spec.specs.Walk.{outermost}
use Rattle.ledger_spec.specs.Check.{index_in, member_verdict, circle_verdict, finding, total_of, verdict}
use Rattle.ledger_spec.specs.Book.{turns, new_book}
use Rattle.ledger_spec.specs.Account.{total}
use Rattle.ledger_spec.proofs.Ints.{zero_diff, diff_zero}
use Rattle.ledger_spec.proofs.Trees.{along}
use Rattle.ledger_laws.proofs.Turns.{total_agrees, agrees_total}

-- ---- the walk's own verdicts are at most 4
module _ (b : Bench) where
  member_small : (m : Member) → member_verdict b m ≤ 4
  unfolding member_verdict
  member_small m = go (is_defect (node_named b m.node)) (same_handle m.touch.0 m.node && same_handle m.touch.1 m.node) (stale b m.touch.0 || stale b m.touch.1)
      (same_handle (outermost b m.touch.0) (outermost b m.node) && same_handle (outermost b m.touch.1) (outermost b m.node))
    where
      pick : Bool → Bool → Bool → Bool → ℕ
      pick x y z w = elim x [
        | true ↦ elim y [ true ↦ 0 | false ↦ 2 ]
        | false ↦ elim z [
          | true ↦ 4
          | false ↦ elim w [ true ↦ 0 | false ↦ 3 ]
        ]
      ]

      go : (x y z w : Bool) → pick x y z w ≤ 4
      go true true z w = omega arith
      go true false z w = omega arith
      go false y true w = omega arith
      go false y false true = omega arith
      go false y false false = omega arith

  circle_small : (ms : List Member) → (circle_verdict b ms).0 ≤ 4
  unfolding circle_verdict
  circle_small [] = omega arith
  circle_small (m ∷ ms) = go (member_verdict b m) (member_small m) (circle_small ms)
    where
      pick : ℕ → ℕ × Handle
      pick k = elim k [ zero ↦ circle_verdict b ms | suc k ↦ (suc k, m.node) ]

      go : (k : ℕ) → k ≤ 4 → (circle_verdict b ms).0 ≤ 4 → (pick k).0 ≤ 4
      go zero h ih = ih
      go (suc k) h ih = h

  abbrev Entry : Type 0
  Entry = ℕ × ℕ × Option Node

  pub walk_small : (whole ts : List Entry) (seen : List ℕ) (k : ℕ) → (finding b whole ts seen k).0 ≤ 4
  unfolding finding
  walk_small whole [] seen k = omega arith
  walk_small whole (t ∷ ts) seen k = go t.2 (λ s j. walk_small whole ts s j)
    where
      ringed : ℕ × Handle → ℕ × ℕ
      ringed c = elim c.0 [ zero ↦ finding b whole ts seen (suc k) | suc w ↦ (suc w, index_in whole 0 c.1) ]

      once : ℕ → Bool → ℕ × ℕ
      once v x = elim x [ true ↦ (1, k) | false ↦ finding b whole ts (v ∷ seen) (suc k) ]

      of : Class → ℕ × ℕ
      of c = elim c [ defect v ↦ once v (any (eqb v) seen) | blossom ms ↦ ringed (circle_verdict b ms) ]

      pick : Option Node → ℕ × ℕ
      pick o = elim o [ None ↦ finding b whole ts seen (suc k) | Some n ↦ of n.class ]

      ring : (c : ℕ × Handle) → c.0 ≤ 4 → (finding b whole ts seen (suc k)).0 ≤ 4 → (ringed c).0 ≤ 4
      ring c h ih = by c.0 h
        where
          at : ℕ → ℕ × ℕ
          at j = elim j [ zero ↦ finding b whole ts seen (suc k) | suc w ↦ (suc w, index_in whole 0 c.1) ]

          by : (j : ℕ) → j ≤ 4 → (at j).0 ≤ 4
          by zero x = ih
          by (suc j) x = x

      seen_once : (v : ℕ) (x : Bool) → (finding b whole ts (v ∷ seen) (suc k)).0 ≤ 4 → (once v x).0 ≤ 4
      seen_once v true ih = omega arith
      seen_once v false ih = ih

      class : (c : Class) → ((s : List ℕ) (j : ℕ) → (finding b whole ts s j).0 ≤ 4) → (of c).0 ≤ 4
      class (defect v) ih = seen_once v (any (eqb v) seen) (ih (v ∷ seen) (suc k))
      class (blossom ms) ih = ring (circle_verdict b ms) (circle_small ms) (ih seen (suc k))

      go : (o : Option Node) → ((s : List ℕ) (j : ℕ) → (finding b whole ts s j).0 ≤ 4) → (pick o).0 ≤ 4
      go None ih = ih seen (suc k)
      go (Some n) ih = class n.class ih

-- ---- the verdict by its cases
module _ (b : Bench) (u : ℕ) where
  -- what the walk along the tree finds
  abbrev pub found : ℕ × ℕ
  found = finding b (slots_of b u) (slots_of b u) [] 0

  pub verdict_found : (k : ℕ) → found.0 ≡ suc k → verdict b u ≡ found
  unfolding verdict
  verdict_found k e = ap pick e
    where
      pick : ℕ → ℕ × ℕ
      pick j = elim j [ suc m ↦ found | zero ↦ elim (eqb (nat_abs ((interface b u).sum -ℤ total_of (slots_of b u))) 0) [ true ↦ (0, 0) | false ↦ (5, 0) ] ]

  pub verdict_zero : found.0 ≡ 0 → (interface b u).sum ≡ total_of (slots_of b u) → verdict b u ≡ (0, 0)
  unfolding verdict
  verdict_zero e s = go (eq-eqb (nat_abs ((interface b u).sum -ℤ total_of (slots_of b u))) 0 (diff_zero (interface b u).sum (total_of (slots_of b u)) s))
    where
      go : eqb (nat_abs ((interface b u).sum -ℤ total_of (slots_of b u))) 0 ≡ true → verdict b u ≡ (0, 0)
      go t = rw (e, t, verdict)

  pub verdict_five : found.0 ≡ 0 → (interface b u).sum ≢ total_of (slots_of b u) → verdict b u ≡ (5, 0)
  unfolding verdict
  verdict_five e s = go (ne_eqb (nat_abs ((interface b u).sum -ℤ total_of (slots_of b u))) 0 (λ z. s (zero_diff (interface b u).sum (total_of (slots_of b u)) z)))
    where
      go : eqb (nat_abs ((interface b u).sum -ℤ total_of (slots_of b u))) 0 ≡ false → verdict b u ≡ (5, 0)
      go t = rw (e, t, verdict)

  -- 5 comes only so
  pub five_only : (verdict b u).0 ≡ 5 → (found.0 ≡ 0) × ((interface b u).sum ≢ total_of (slots_of b u))
  five_only e = go found.0 refl
    where
      go : (k : ℕ) → found.0 ≡ k → (found.0 ≡ 0) × ((interface b u).sum ≢ total_of (slots_of b u))
      go zero f = (f, λ s. omega (arith, e, ap (λ (w : ℕ × ℕ). w.0) (verdict_zero f s)))
      go (suc k) f = absurd (omega (arith, e, ap (λ (w : ℕ × ℕ). w.0) (verdict_found k f), walk_small b (slots_of b u) (slots_of b u) [] 0))

-- ---- after calls from set-up: exactly where what went from the tree does not add up to 0
module _ (n : ℕ) (cs : List Call) (i : ℕ) (h : i < 8) (free : (interface (turns (new_book n) cs).bench i).parent ≡ None) where
  abbrev pub went : ℤ
  went = along (λ u. total ((turns (new_book n) cs).gone u)) (tree 8 (turns (new_book n) cs).bench i)

  pub five : (found (turns (new_book n) cs).bench i).0 ≡ 0 → went ≢ pos 0 → verdict (turns (new_book n) cs).bench i ≡ (5, 0)
  five e q = verdict_five (turns (new_book n) cs).bench i e (λ s. q (agrees_total n cs i h free s))

  pub not_five : (found (turns (new_book n) cs).bench i).0 ≡ 0 → went ≡ pos 0 → verdict (turns (new_book n) cs).bench i ≡ (0, 0)
  not_five e q = verdict_zero (turns (new_book n) cs).bench i e (total_agrees n cs i h free q)

  pub five_went : (verdict (turns (new_book n) cs).bench i).0 ≡ 5 → went ≢ pos 0
  five_went e q = (five_only (turns (new_book n) cs).bench i e).1 (total_agrees n cs i h free q)
