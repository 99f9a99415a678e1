-- Where a new node stands: in its interface's lowest empty slot where that fills, else in the slot after the used ones. Older handles of that slot name
-- no node; the used count is that of the highest slot filled; an interface that fills is FULL exactly where 64 of its nodes are present. Assumes nothing.
use Rattle.std.specs.Prelude.{None}
use Prim.Native.Nat.{ℕ, suc, ◌<◌, max}
use mathlib.Core.Path.{◌≡◌, refl, sym, ◌∙◌, ap, ap₂, subst}
use mathlib.Core.Logic.{◌≢◌}
use mathlib.Core.Bool.{Bool, true, false, ◌&&◌, ◌||◌, not, true≢false}
use mathlib.Core.List.{List, [], ◌∷◌, ◌++◌}
use native.Mathlib.Omega.{arith}
use lib.Dec.{eqb, ltb}
use borrow.Author.Tests.{leb-true, le-leb, lt-leb}
use lib.ListN.{length}
use Rattle.ledger_spec.specs.Numbers.{FULL}
use Rattle.ledger_spec.specs.Bench.{Handle, Bench}
use Rattle.ledger_spec.specs.Look.{interface, free_slot, slot_of, if_serial, node_named}
use Rattle.ledger_spec.specs.Tests.{first, any, is_some, empty, outside, child, stale, foreign, has_parent, twice, both, full, worn}
use Rattle.ledger_spec.specs.Refuse.{defect_tests, blossom_tests}
use Rattle.ledger_spec.specs.Deeds.{new_handle}
use Rattle.ledger_spec.specs.Sound.{sound}
use Rattle.ledger_spec.specs.Calls.{Call, Defect, Blossom, Expand, SetState, Grow, Fuse, Clear, Mark}
use Rattle.ledger_spec.specs.Answers.{answer}
use Rattle.ledger_spec.proofs.Passed.{Open, serial_none}
use Rattle.ledger_spec.proofs.Says.{says}
use Rattle.ledger_spec.proofs.Slots.{gap_lowest, free_fills, free_plain, present, full_present, present_full}
use Rattle.ledger_spec.proofs.DeedReadings.{bare}
use Rattle.ledger_laws.proofs.Answered.{tests_of, answer_number, number_broken}
use Rattle.ledger_laws.proofs.Made.{makes}
use Rattle.ledger_laws.proofs.Never.{never_once}
use Rattle.ledger_laws.proofs.Effects.{defect_leaves, blossom_leaves}

-- ---- the node that an accepted call made
record Standing (b : Bench) (c : Call) : Type 0 where
  u : ℕ
  handle : (answer b c).node ≡ new_handle b u
  count : length (interface (answer b c).bench u).slots ≡ max (length (interface b u).slots) (suc (free_slot b u))

standing : (b : Bench) (c : Call) → makes c ≡ true → (answer b c).number ≡ 0 → Standing b c
standing b (Defect u v) m z = let L = defect_leaves b u v z in record { u = u; handle = L.handle; count = L.count }
standing b (Blossom u hs ts) m z = let L = blossom_leaves b u hs ts z in record { u = u; handle = L.handle; count = L.count }
standing b (Expand u h) m z = absurd (true≢false (sym m))
standing b (SetState u h s) m z = absurd (true≢false (sym m))
standing b (Grow u l) m z = absurd (true≢false (sym m))
standing b (Fuse p l r) m z = absurd (true≢false (sym m))
standing b (Clear u) m z = absurd (true≢false (sym m))
standing b (Mark u k) m z = absurd (true≢false (sym m))

none_there : (b : Bench) (g : Handle) → slot_of b g.unit g.slot ≡ None → node_named b g ≡ None
unfolding node_named
none_there b g e = ap (if_serial g.serial) e ∙ serial_none g.serial

-- the slot of h held nothing, and each lower one of its interface holds a node
pub record Lowest (b : Bench) (h : Handle) : Type 0 where
  pub empty : slot_of b h.unit h.slot ≡ None
  pub lower : (s : ℕ) → s < h.slot → is_some (slot_of b h.unit s) ≡ true

module _ (b : Bench) (c : Call) (m : makes c ≡ true) (z : (answer b c).number ≡ 0) where
  abbrev h : Handle
  h = (answer b c).node

  abbrev S : Standing b c
  S = standing b c m z

  unit_is : h.unit ≡ S.u
  unit_is = ap (λ (g : Handle). g.unit) S.handle

  slot_is : h.slot ≡ free_slot b S.u
  slot_is = ap (λ (g : Handle). g.slot) S.handle

  pub made_lowest : (interface b h.unit).marks.fills ≡ true → Lowest b h
  made_lowest f = subst (Lowest b) (sym S.handle) (record {
    empty = bare b S.u;
    lower = λ s l. gap_lowest (interface b S.u).slots s (omega (arith, l, free_fills b S.u (ap (λ (w : ℕ). (interface b w).marks.fills) (sym unit_is) ∙ f)));
  })

  pub made_next : (interface b h.unit).marks.fills ≡ false → h.slot ≡ length (interface b h.unit).slots
  made_next f = slot_is ∙ free_plain b S.u (ap (λ (w : ℕ). (interface b w).marks.fills) (sym unit_is) ∙ f) ∙ ap (λ (w : ℕ). length (interface b w).slots) (sym unit_is)

  -- the used count: the highest slot filled since the last clear, and one
  pub made_count : length (interface (answer b c).bench h.unit).slots ≡ max (length (interface b h.unit).slots) (suc h.slot)
  made_count = ap (λ (w : ℕ). length (interface (answer b c).bench w).slots) unit_is ∙ S.count
      ∙ ap₂ (λ (w s : ℕ). max (length (interface b w).slots) (suc s)) (sym unit_is) (sym slot_is)

  -- an older handle of the slot names no node, and by `never_again` none ever after
  pub filled_stale : (g : Handle) → g.unit ≡ h.unit → g.slot ≡ h.slot → g.serial < b.next → node_named (answer b c).bench g ≡ None
  filled_stale g x y l = never_once b c g l (none_there b g (ap₂ (slot_of b) (x ∙ unit_is) (y ∙ slot_is) ∙ bare b S.u))

-- ---- FULL
skip : (t : Bool) (k : ℕ) (ts : List (Bool × ℕ)) (n : ℕ) → k ≢ n → first ((t, k) ∷ ts) ≡ n → first ts ≡ n
unfolding first
skip true k ts n q e = absurd (q e)
skip false k ts n q e = e

hit : (t w : Bool) → first ((t, 14) ∷ (w, 15) ∷ []) ≡ 14 → t ≡ true
unfolding first
hit true w e = refl
hit false true e = absurd (omega (arith, e))
hit false false e = absurd (omega (arith, e))

third : (o k t w : Bool) → o ≡ false → k ≡ false → t ≡ true → first ((o, 3) ∷ (k, 4) ∷ (t, 14) ∷ (w, 15) ∷ []) ≡ 14
unfolding first
third true k t w p q r = absurd (true≢false p)
third false true t w p q r = absurd (true≢false q)
third false false true w p q r = refl
third false false false w p q r = absurd (true≢false (sym r))

module _ (b : Bench) where
  heard : (c : Call) → (answer b c).number ≡ FULL → sound b ≡ true
  heard c e = go (sound b) refl
    where
      go : (s : Bool) → sound b ≡ s → sound b ≡ true
      go true q = q
      go false q = absurd (omega (arith, e, number_broken b c q))

  counted : (u : ℕ) → sound b ≡ true → (interface b u).marks.fills ≡ true → full b u ≡ true → present (interface b u).slots ≡ 64
  counted u s f e = full_present b u f ((says b s).few u) (leb-true 64 (free_slot b u) e)

  pub defect_full : (u v : ℕ) → (interface b u).marks.fills ≡ true → (answer b (Defect u v)).number ≡ FULL → present (interface b u).slots ≡ 64
  unfolding tests_of defect_tests
  defect_full u v f e = counted u s f (hit (full b u) (worn b) (skip (child b u) 4 _ 14 (λ x. omega (arith, x)) (skip (outside u) 3 _ 14 (λ x. omega (arith, x)) (sym (answer_number b (Defect u v) s) ∙ e))))
    where
      s : sound b ≡ true
      s = heard (Defect u v) e

  pub blossom_full : (u : ℕ) (hs : List Handle) (ts : List (Handle × Handle)) → (interface b u).marks.fills ≡ true → (answer b (Blossom u hs ts)).number ≡ FULL → present (interface b u).slots ≡ 64
  unfolding tests_of blossom_tests
  blossom_full u hs ts f e = counted u s f (hit (full b u) (worn b)
      (skip (twice hs) 13 _ 14 (λ x. omega (arith, x)) (skip (any (λ h. has_parent (node_named b h)) hs) 11 _ 14 (λ x. omega (arith, x))
      (skip (any (foreign b u) (hs ++ both ts)) 9 _ 14 (λ x. omega (arith, x)) (skip (any (stale b) (hs ++ both ts)) 8 _ 14 (λ x. omega (arith, x))
      (skip (not (empty ts) && not (eqb (length ts) (length hs))) 7 _ 14 (λ x. omega (arith, x)) (skip (empty hs || ltb 64 (length hs)) 6 _ 14 (λ x. omega (arith, x))
      (skip (child b u) 4 _ 14 (λ x. omega (arith, x)) (skip (outside u) 3 _ 14 (λ x. omega (arith, x)) (sym (answer_number b (Blossom u hs ts) s) ∙ e))))))))))
    where
      s : sound b ≡ true
      s = heard (Blossom u hs ts) e

  -- the other way round: a defect is refused with FULL, and no blossom is made
  pub full_defect : (u v : ℕ) → sound b ≡ true → Open b u → (interface b u).marks.fills ≡ true → present (interface b u).slots ≡ 64 → (answer b (Defect u v)).number ≡ FULL
  unfolding tests_of defect_tests
  full_defect u v s O f e = answer_number b (Defect u v) s ∙ third (outside u) (child b u) (full b u) (worn b) (lt-leb 8 u O.low) (ap is_some O.free) (le-leb 64 (free_slot b u) (present_full b u f ((says b s).few u) e))
