-- A serial is never used again: the next serial never falls, every node after a call stood before it or has the serial that was next, and so a handle
-- that names no node any more never names one again, clears included. Assumes nothing.
use Rattle.std.specs.Prelude.{None, Option, Some}
use Prim.Native.Nat.{ℕ, zero, suc, ◌≤◌, ◌<◌}
use mathlib.Core.Path.{◌≡◌, refl, sym, ◌∙◌, ap, subst}
use mathlib.Core.Logic.{◌≢◌, ◌⊎◌, inl, inr}
use mathlib.Core.Bool.{Bool, true, false, ◌&&◌, true≢false}
use mathlib.Core.List.{List, [], ◌∷◌, ◌++◌}
use native.Mathlib.Omega.{arith}
use lib.Dec.{eqb}
use borrow.Author.Tests.{eqb-true}
use Rattle.ledger_spec.specs.Bench.{Handle, Node, Bench}
use Rattle.ledger_spec.specs.Look.{slot_of, node_named}
use Rattle.ledger_spec.specs.Tests.{first}
use Rattle.ledger_spec.specs.Calls.{Call, Defect, Blossom, Expand, SetState, Grow, Fuse, Clear, Mark}
use Rattle.ledger_spec.specs.Answers.{answer}
use Rattle.ledger_spec.specs.Book.{Book, turn, turns}
use Rattle.ledger_spec.specs.Knit.{In, Has}
use Rattle.ledger_spec.specs.Facts.{Sound}
use Rattle.ledger_spec.proofs.Lists.{not_in_nil, in_cases}
use Rattle.ledger_spec.proofs.Knit.{none_some}
use Rattle.ledger_spec.proofs.Says.{says}
use Rattle.ledger_spec.proofs.Passed.{node_has, has_node, fusable}
use Rattle.ledger_spec.proofs.Accepted.{defect_passed, blossom_passed, expand_passed}
use Rattle.ledger_spec.proofs.Readings.{mark_next}
use Rattle.ledger_spec.proofs.DeedReadings.{defect_next, blossom_next, expand_next}
use Rattle.ledger_spec.proofs.TreeReadings.{joins, grow_next, join_next, wipe_next, choose_next}
use Rattle.ledger_laws.proofs.Stems.{Stem, New, Came}
use Rattle.ledger_laws.proofs.CameCalls.{still, grown, defect_came, blossom_came, expand_came, state_came, grow_came, fuse_came, choose_came, clear_came}
use Rattle.ledger_laws.proofs.Answered.{tests_of, deed_of, node_of, zero_sound, zero_tests, zero_bench, zero_node, refused_bench}
use Rattle.ledger_laws.proofs.Made.{makes, made_of, made, Different}

-- ---- the next serial
next_deed : (b : Bench) → Sound b → (c : Call) → first (tests_of b c) ≡ 0 → b.next ≤ (deed_of b c).next
unfolding deed_of tests_of
next_deed b S (Defect u v) e = omega (arith, defect_next b u v)
next_deed b S (Blossom u hs ts) e = omega (arith, blossom_next b u hs ts)
next_deed b S (Expand u h) e = omega (arith, expand_next b h)
next_deed b S (SetState u h t) e = omega (arith, mark_next b h t None)
next_deed b S (Grow u l) e = omega (arith, grow_next b u l)
next_deed b S (Fuse q l r) e = omega (arith, join_next b q l r (joins S.frame (fusable b q l r e)))
next_deed b S (Clear u) e = omega (arith, wipe_next b u)
next_deed b S (Mark u k) e = omega (arith, choose_next b u k)

-- what holds of the bench as it was and of what an accepted call does, holds of the bench after any call
after : (P : Bench → Type 0) (b : Bench) (c : Call) → P b → (Sound b → first (tests_of b c) ≡ 0 → P (deed_of b c)) → P (answer b c).bench
after P b c p f = go (answer b c).number refl
  where
    go : (n : ℕ) → (answer b c).number ≡ n → P (answer b c).bench
    go zero e = subst P (sym (zero_bench b c e)) (f (says b (zero_sound b c e)) (zero_tests b c e))
    go (suc n) e = subst P (sym (refused_bench b c (λ z. omega (arith, e, z)))) p

pub next_grows : (b : Bench) (c : Call) → b.next ≤ (answer b c).bench.next
next_grows b c = after (λ (d : Bench). b.next ≤ d.next) b c (omega arith) (λ S e. next_deed b S c e)

pub next_never_falls : (k : Book) (cs : List Call) → k.bench.next ≤ (turns k cs).bench.next
unfolding turns turn
next_never_falls k [] = omega arith
next_never_falls k (c ∷ cs) = omega (arith, next_grows k.bench c, next_never_falls (turn k c) cs)

-- ---- where the nodes after a call come from
abbrev Born : Bench → Bench → Type 0
Born b b' = (u s : ℕ) (x : Node) → slot_of b' u s ≡ Some x → (x.serial ≡ b.next) ⊎ ((n : Node) × (slot_of b u s ≡ Some n) × (n.serial ≡ x.serial))

from_came : (b b' : Bench) (d : ℕ → ℕ) → Came b b' d → Born b b'
from_came b b' d C u s x e = go (C u s x e)
  where
    go : Stem b (d u) u s x ⊎ New b b' u s x → (x.serial ≡ b.next) ⊎ ((n : Node) × (slot_of b u s ≡ Some n) × (n.serial ≡ x.serial))
    go (inl t) = inr (t.node, t.stood, t.serial)
    go (inr t) = inl t.serial

deed_born : (b : Bench) → Sound b → (c : Call) → first (tests_of b c) ≡ 0 → Born b (deed_of b c)
unfolding deed_of tests_of
deed_born b S (Defect u v) e = from_came b (deed_of b (Defect u v)) still (defect_came b S.frame u v (defect_passed b u e))
deed_born b S (Blossom u hs ts) e = from_came b (deed_of b (Blossom u hs ts)) still (blossom_came b S u hs ts (blossom_passed b u hs ts e))
deed_born b S (Expand u h) e = from_came b (deed_of b (Expand u h)) still (expand_came b S.sewn u h (expand_passed b u h e))
deed_born b S (SetState u h t) e = from_came b (deed_of b (SetState u h t)) still (state_came b h t None)
deed_born b S (Grow u l) e = from_came b (deed_of b (Grow u l)) (grown b u l) (grow_came b u l)
deed_born b S (Fuse p l r) e = from_came b (deed_of b (Fuse p l r)) still (fuse_came b S.frame p l r (fusable b p l r e))
deed_born b S (Clear u) e = from_came b (deed_of b (Clear u)) still (clear_came b u)
deed_born b S (Mark u k) e = from_came b (deed_of b (Mark u k)) still (choose_came b u k)

-- ---- a handle that names no node any more
still_none : (b b' : Bench) → Born b b' → (h : Handle) → h.serial < b.next → node_named b h ≡ None → node_named b' h ≡ None
still_none b b' B h l e = go (node_named b' h) refl
  where
    go : (o : Option Node) → node_named b' h ≡ o → node_named b' h ≡ None
    go None z = z
    go (Some x) z = absurd (was (B h.unit h.slot x H.stands))
      where
        H : Has (slot_of b') h x
        H = node_has b' h x z

        was : (x.serial ≡ b.next) ⊎ ((n : Node) × (slot_of b h.unit h.slot ≡ Some n) × (n.serial ≡ x.serial)) → ⊥
        was (inl p) = omega (arith, p, l, H.serial)
        was (inr r) = none_some e (has_node b h r.0 (record { stands = r.1; serial = r.2 ∙ H.serial }))

pub never_once : (b : Bench) (c : Call) (h : Handle) → h.serial < b.next → node_named b h ≡ None → node_named (answer b c).bench h ≡ None
never_once b c h l e = after (λ (d : Bench). node_named d h ≡ None) b c e (λ S z. still_none b (deed_of b c) (deed_born b S c z) h l e)

-- a handle of a serial that was given out, naming no present node, names none after any calls
pub never_again : (k : Book) (cs : List Call) (h : Handle) → h.serial < k.bench.next → node_named k.bench h ≡ None → node_named (turns k cs).bench h ≡ None
unfolding turns turn
never_again k [] h l e = e
never_again k (c ∷ cs) h l e = never_again (turn k c) cs h (omega (arith, l, next_grows k.bench c)) (never_once k.bench c h l e)

-- a handle that named a node once and names none later, names none ever after
pub gone_for_ever : (k : Book) → Sound k.bench → (cs ds : List Call) (h : Handle) (n : Node) → node_named k.bench h ≡ Some n → node_named (turns k cs).bench h ≡ None
    → node_named (turns (turns k cs) ds).bench h ≡ None
gone_for_ever k S cs ds h n e f = never_again (turns k cs) ds h (omega (arith, l, next_never_falls k cs)) f
  where
    H : Has (slot_of k.bench) h n
    H = node_has k.bench h n e

    l : h.serial < k.bench.next
    l = omega (arith, S.sewn.knit.low h.unit h.slot n H.stands, H.serial)

-- ---- the handles that were made
data Making (b : Bench) (c : Call) : List Handle → Type 0 where
  one : (h : Handle) → h.serial ≡ b.next → (answer b c).bench.next ≡ suc b.next → Making b c (h ∷ [])
  nought : Making b c []

new_made : (b : Bench) (c : Call) → makes c ≡ true → (answer b c).number ≡ 0 → ((answer b c).node.serial ≡ b.next) × ((answer b c).bench.next ≡ suc b.next)
unfolding node_of deed_of
new_made b (Defect u v) m e = (ap (λ (h : Handle). h.serial) (zero_node b (Defect u v) e), ap (λ (d : Bench). d.next) (zero_bench b (Defect u v) e) ∙ defect_next b u v)
new_made b (Blossom u hs ts) m e = (ap (λ (h : Handle). h.serial) (zero_node b (Blossom u hs ts) e), ap (λ (d : Bench). d.next) (zero_bench b (Blossom u hs ts) e) ∙ blossom_next b u hs ts)
new_made b (Expand u h) m e = absurd (true≢false (sym m))
new_made b (SetState u h t) m e = absurd (true≢false (sym m))
new_made b (Grow u l) m e = absurd (true≢false (sym m))
new_made b (Fuse p l r) m e = absurd (true≢false (sym m))
new_made b (Clear u) m e = absurd (true≢false (sym m))
new_made b (Mark u k) m e = absurd (true≢false (sym m))

making : (b : Bench) (c : Call) → Making b c (made_of c (answer b c).number (answer b c).node)
unfolding made_of
making b c = go (makes c) (eqb (answer b c).number 0) refl refl
  where
    pick : Bool → List Handle
    pick t = elim t [ true ↦ (answer b c).node ∷ [] | false ↦ [] ]

    go : (m z : Bool) → makes c ≡ m → eqb (answer b c).number 0 ≡ z → Making b c (pick (m && z))
    go true true p q = let t = new_made b c p (eqb-true (answer b c).number 0 q) in one (answer b c).node t.0 t.1
    go true false p q = nought
    go false z p q = nought

-- from the next serial on, and below the next serial afterwards
pub made_within : (k : Book) (cs : List Call) (h : Handle) → In h (made k cs) → (k.bench.next ≤ h.serial) × (h.serial < (turns k cs).bench.next)
unfolding made turns turn
made_within k [] h i = absurd (not_in_nil i)
made_within k (c ∷ cs) h i = go (making k.bench c) i (made_within (turn k c) cs h)
  where
    b' : Bench
    b' = (answer k.bench c).bench

    end : ℕ
    end = (turns (turn k c) cs).bench.next

    go : {l : List Handle} → Making k.bench c l → In h (l ++ made (turn k c) cs) → (In h (made (turn k c) cs) → (b'.next ≤ h.serial) × (h.serial < end)) → (k.bench.next ≤ h.serial) × (h.serial < end)
    go (one g p q) j ih = here_or (in_cases j)
      where
        here_or : (h ≡ g) ⊎ In h (made (turn k c) cs) → (k.bench.next ≤ h.serial) × (h.serial < end)
        here_or (inl e) = let s : h.serial ≡ k.bench.next = ap (λ (x : Handle). x.serial) e ∙ p in (omega (arith, s), omega (arith, s, q, next_never_falls (turn k c) cs))
        here_or (inr r) = let w = ih r in (omega (arith, w.0, next_grows k.bench c), w.1)
    go nought j ih = let w = ih j in (omega (arith, w.0, next_grows k.bench c), w.1)

-- all different
pub made_different : (k : Book) (cs : List Call) → Different (made k cs)
unfolding made turn
made_different k [] = tt
made_different k (c ∷ cs) = go (making k.bench c) (made_different (turn k c) cs)
  where
    go : {l : List Handle} → Making k.bench c l → Different (made (turn k c) cs) → Different (l ++ made (turn k c) cs)
    go (one g p q) d = (λ h i e. omega (arith, (made_within (turn k c) cs h i).0, e, p, q), d)
    go nought d = d
