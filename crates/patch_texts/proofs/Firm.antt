-- A serial has one place for good: after any calls, a node with the serial of a handle that was given out stands where the handle says. Assumes nothing.
use Rattle.std.specs.Prelude.{None, Option, Some}
use Prim.Native.Nat.{ℕ, ◌<◌}
use mathlib.Core.Path.{◌≡◌, refl, sym, ◌∙◌, ap}
use mathlib.Core.List.{List, [], ◌∷◌}
use native.Mathlib.Omega.{arith}
use Rattle.ledger_spec.specs.Bench.{Handle, Node, Bench}
use Rattle.ledger_spec.specs.Look.{slot_of, node_named}
use Rattle.ledger_spec.specs.Deeds.{new_handle}
use Rattle.ledger_spec.specs.Calls.{Call, Defect, Blossom}
use Rattle.ledger_spec.specs.Answers.{answer}
use Rattle.ledger_spec.specs.Book.{turn, turns}
use Rattle.ledger_spec.specs.Knit.{Has}
use Rattle.ledger_spec.specs.Facts.{Sound}
use Rattle.ledger_spec.proofs.Passed.{node_has}
use Rattle.ledger_spec.proofs.Accepted.{defect_passed, blossom_passed}
use Rattle.ledger_spec.proofs.DeedReadings.{defect_node, blossom_node, defect_at, blossom_at, defect_next, blossom_next}
use Rattle.ledger_laws.proofs.Answered.{tests_of, deed_of, node_of, zero_tests, zero_bench, zero_node}
use Rattle.ledger_laws.proofs.Always.{answered_sound}
use Rattle.ledger_laws.proofs.Never.{never_again}

abbrev pub at : ℕ → ℕ → Handle → Handle
at u s h = record { unit = u; slot = s; serial = h.serial }

-- no other place has a node with the handle's serial
abbrev pub Firm : Bench → Handle → Type 0
Firm b h = (u s : ℕ) → ((u ≡ h.unit) × (s ≡ h.slot) → ⊥) → node_named b (at u s h) ≡ None

pub firm_kept : (b : Bench) (c : Call) (h : Handle) → h.serial < b.next → Firm b h → Firm (answer b c).bench h
unfolding turns turn
firm_kept b c h l f u s q = never_again (record { bench = b; gone = λ w. [] }) (c ∷ []) (at u s h) l (f u s q)

-- where a node stands with the handle's serial, no other does
stands_firm : (b : Bench) → Sound b → (h : Handle) (n : Node) → slot_of b h.unit h.slot ≡ Some n → n.serial ≡ h.serial → Firm b h
stands_firm b S h n e k u s q = go (node_named b (at u s h)) refl
  where
    go : (o : Option Node) → node_named b (at u s h) ≡ o → node_named b (at u s h) ≡ None
    go None z = z
    go (Some x) z = let H : Has (slot_of b) (at u s h) x = node_has b (at u s h) x z in
        absurd (q (S.sewn.knit.one u s h.unit h.slot x n H.stands e (H.serial ∙ sym k)))

-- ---- what a creating call hands out
pub record New (b : Bench) (a : Bench) (h : Handle) : Type 0 where
  pub firm : Firm a h
  pub old : h.serial < a.next

module _ (b : Bench) (S : Sound b) where
  pub defect_new : (u v : ℕ) → (answer b (Defect u v)).number ≡ 0 → New b (answer b (Defect u v)).bench (answer b (Defect u v)).node
  unfolding tests_of deed_of node_of
  defect_new u v z = record {
    firm = stands_firm (answer b c).bench (answered_sound b S c) (answer b c).node (defect_node b v) stands (ap (λ (h : Handle). h.serial) (sym node));
    old = omega (arith, ap (λ (h : Handle). h.serial) node, ap (λ (d : Bench). d.next) (zero_bench b c z), defect_next b u v);
  }
    where
      c : Call
      c = Defect u v

      node : (answer b c).node ≡ new_handle b u
      node = zero_node b c z

      low : u < 8
      low = (defect_passed b u (zero_tests b c z)).here.low

      stands : slot_of (answer b c).bench (answer b c).node.unit (answer b c).node.slot ≡ Some (defect_node b v)
      stands = (λ i. slot_of (zero_bench b c z i) (node i).unit (node i).slot) ∙ defect_at b u v (omega (arith, low, S.frame.eight))

  pub blossom_new : (u : ℕ) (hs : List Handle) (ts : List (Handle × Handle)) → (answer b (Blossom u hs ts)).number ≡ 0
      → New b (answer b (Blossom u hs ts)).bench (answer b (Blossom u hs ts)).node
  unfolding tests_of deed_of node_of
  blossom_new u hs ts z = record {
    firm = stands_firm (answer b c).bench (answered_sound b S c) (answer b c).node (blossom_node b hs ts) stands (ap (λ (h : Handle). h.serial) (sym node));
    old = omega (arith, ap (λ (h : Handle). h.serial) node, ap (λ (d : Bench). d.next) (zero_bench b c z), blossom_next b u hs ts);
  }
    where
      c : Call
      c = Blossom u hs ts

      node : (answer b c).node ≡ new_handle b u
      node = zero_node b c z

      low : u < 8
      low = (blossom_passed b u hs ts (zero_tests b c z)).here.low

      stands : slot_of (answer b c).bench (answer b c).node.unit (answer b c).node.slot ≡ Some (blossom_node b hs ts)
      stands = (λ i. slot_of (zero_bench b c z i) (node i).unit (node i).slot) ∙ blossom_at b u hs ts (omega (arith, low, S.frame.eight))
