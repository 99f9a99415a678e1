-- Every call keeps a sound bench sound, so that from set-up no call ever meets BROKEN. Assumes nothing.
use Rattle.std.specs.Prelude.{Some}
use Prim.Native.Nat.{ℕ, zero, suc, ◌≤◌, ◌<◌, ◌^◌}
use mathlib.Core.Path.{◌≡◌, refl, sym, ◌∙◌, ap, subst}
use mathlib.Core.Logic.{◌≢◌}
use mathlib.Core.Bool.{Bool, true, false, ◌&&◌, true≢false}
use mathlib.Core.List.{List, [], ◌∷◌}
use native.Mathlib.Omega.{arith}
use lib.Dec.{ltb}
use borrow.Author.Tests.{ltb-true}
use lib.IntN.{pos}
use lib.Signed.{le_z}
use Rattle.ledger_spec.specs.Bench.{Node, Bench, set_up}
use Rattle.ledger_spec.specs.Tests.{first, floored}
use Rattle.ledger_spec.specs.Refuse.{set_up_no, unit_tests, defect_tests, blossom_tests, expand_tests, state_tests, grow_tests, fuse_tests, mark_tests}
use Rattle.ledger_spec.specs.Calls.{nobody, settle, set_up_call, Call, Defect, Blossom, Expand, SetState, Grow, Fuse, Clear, Mark, perform}
use Rattle.ledger_spec.specs.Sound.{sound, afloat}
use Rattle.ledger_spec.specs.Look.{slot_of}
use Rattle.ledger_spec.specs.Answers.{answer}
use Rattle.ledger_spec.specs.Book.{Book, turn, turns, new_book}
use Rattle.ledger_spec.specs.Facts.{Sound}
use Rattle.ledger_spec.proofs.Lists.{and_true}
use Rattle.ledger_spec.proofs.Passed.{fusable}
use Rattle.ledger_spec.proofs.Accepted.{defect_passed, blossom_passed, expand_passed, state_passed, grow_passed, mark_passed}
use Rattle.ledger_spec.proofs.Says.{says}
use Rattle.ledger_spec.proofs.Holds.{holds}
use Rattle.ledger_laws.proofs.SoundCalls.{defect_sound, blossom_sound, expand_sound, state_sound, grow_sound, fuse_sound, choose_sound, clear_sound, opened_sound}
use Rattle.ledger_laws.proofs.Answered.{tests_of, deed_of, node_of, perform_is, answer_number, zero_tests, zero_bench, refused_bench}

-- ---- an accepted call, any call, any answer
pub deed_sound : (b : Bench) → Sound b → (c : Call) → first (tests_of b c) ≡ 0 → Sound (deed_of b c)
unfolding tests_of deed_of
deed_sound b S (Defect u v) e = defect_sound b S u v (defect_passed b u e)
deed_sound b S (Blossom u hs ts) e = blossom_sound b S u hs ts (blossom_passed b u hs ts e)
deed_sound b S (Expand u h) e = expand_sound b S u h (expand_passed b u h e)
deed_sound b S (SetState u h s) e = state_sound b S u h s (state_passed b u h e)
deed_sound b S (Grow u l) e = grow_sound b S u l (grow_passed b u l e)
deed_sound b S (Fuse p l r) e = fuse_sound b S p l r (fusable b p l r e)
deed_sound b S (Clear u) e = clear_sound b S u
deed_sound b S (Mark u k) e = choose_sound b S u k (mark_passed b u e)

settled_sound : (n : ℕ) (b b' : Bench) (c : Call) → (n ≡ 0 → Sound b') → Sound b → Sound (settle n b b' (node_of b c)).bench
unfolding settle
settled_sound zero b b' c f S = f refl
settled_sound (suc n) b b' c f S = S

pub performed_sound : (b : Bench) → Sound b → (c : Call) → Sound (perform b c).bench
performed_sound b S c = subst (λ r. Sound r.bench) (sym (perform_is b c)) (settled_sound (first (tests_of b c)) b (deed_of b c) c (deed_sound b S c) S)

pub perform_sound : (b : Bench) (c : Call) → sound b ≡ true → sound (perform b c).bench ≡ true
perform_sound b c e = holds (perform b c).bench (performed_sound b (says b e) c)

pub answered_sound : (b : Bench) → Sound b → (c : Call) → Sound (answer b c).bench
answered_sound b S c = go (answer b c).number refl
  where
    go : (n : ℕ) → (answer b c).number ≡ n → Sound (answer b c).bench
    go zero e = subst Sound (sym (zero_bench b c e)) (deed_sound b S c (zero_tests b c e))
    go (suc n) e = subst Sound (sym (refused_bench b c (λ z. omega (arith, e, z)))) S

pub answer_sound : (b : Bench) (c : Call) → sound b ≡ true → sound (answer b c).bench ≡ true
answer_sound b c e = holds (answer b c).bench (answered_sound b (says b e) c)

-- ---- from set-up, whose first serial has 32 bits
from_one : (n : ℕ) → set_up_no n ≡ 0 → 1 ≤ n
unfolding first
from_one zero e = absurd (omega arith)
from_one (suc n) e = omega arith

pub begun_sound : (n : ℕ) → n < 2 ^ 32 → Sound (new_book n).bench
unfolding set_up_call settle
begun_sound n h = go (set_up_no n) refl
  where
    bench : ℕ → Bench
    bench k = (settle k (set_up 1) (set_up n) nobody).bench

    go : (k : ℕ) → set_up_no n ≡ k → Sound (bench k)
    go zero e = opened_sound n (from_one n e) (omega arith)
    go (suc k) e = opened_sound 1 (omega arith) (omega arith)

pub turn_sound : (k : Book) (c : Call) → Sound k.bench → Sound (turn k c).bench
unfolding turn
turn_sound k c S = answered_sound k.bench S c

pub turns_sound : (k : Book) (cs : List Call) → Sound k.bench → Sound (turns k cs).bench
unfolding turns
turns_sound k [] S = S
turns_sound k (c ∷ cs) S = turns_sound (turn k c) cs (turn_sound k c S)

pub always_sound : (n : ℕ) → n < 2 ^ 32 → (cs : List Call) → sound (turns (new_book n) cs).bench ≡ true
always_sound n h cs = holds (turns (new_book n) cs).bench (turns_sound (new_book n) cs (begun_sound n h))

-- 2 is no number of a call's own tests
abbrev high : List (Bool × ℕ) → Bool
high [] = true
high (t ∷ ts) = ltb 2 t.1 && high ts

not_two : (ts : List (Bool × ℕ)) → high ts ≡ true → first ts ≢ 2
unfolding first
not_two [] h e = omega arith
not_two (t ∷ ts) h e = go t.0 e (not_two ts (and_true (ltb 2 t.1) (high ts) h).1)
  where
    won : Bool → ℕ
    won c = elim c [ true ↦ t.1 | false ↦ first ts ]

    go : (c : Bool) → won c ≡ 2 → first ts ≢ 2 → ⊥
    go true e ih = omega (arith, e, ltb-true 2 t.1 (and_true (ltb 2 t.1) (high ts) h).0)
    go false e ih = ih e

pub tests_above : (b : Bench) (c : Call) → first (tests_of b c) ≢ 2
unfolding tests_of defect_tests blossom_tests expand_tests state_tests grow_tests fuse_tests unit_tests mark_tests
tests_above b (Defect u v) = not_two (defect_tests b u) refl
tests_above b (Blossom u hs ts) = not_two (blossom_tests b u hs ts) refl
tests_above b (Expand u h) = not_two (expand_tests b u h) refl
tests_above b (SetState u h s) = not_two (state_tests b u h) refl
tests_above b (Grow u l) = not_two (grow_tests b u l) refl
tests_above b (Fuse p l r) = not_two (fuse_tests b p l r) refl
tests_above b (Clear u) = not_two (unit_tests b u) refl
tests_above b (Mark u k) = not_two (mark_tests b u) refl

-- so BROKEN comes exactly where the bench is not sound
pub broken_only : (b : Bench) (c : Call) → (answer b c).number ≡ 2 → sound b ≡ false
broken_only b c e = go (sound b) refl
  where
    go : (s : Bool) → sound b ≡ s → sound b ≡ false
    go true f = absurd (tests_above b c (sym (answer_number b c f) ∙ e))
    go false f = f

pub never_broken : (n : ℕ) → n < 2 ^ 32 → (cs : List Call) (c : Call) → (answer (turns (new_book n) cs).bench c).number ≢ 2
never_broken n h cs c e = true≢false (sym (always_sound n h cs) ∙ broken_only (turns (new_book n) cs).bench c e)

-- in a floored interface no present node has a negative value, after any calls from set-up
pub never_below : (n : ℕ) → n < 2 ^ 32 → (cs : List Call) (u s : ℕ) (m : Node) → floored (turns (new_book n) cs).bench u ≡ true → slot_of (turns (new_book n) cs).bench u s ≡ Some m → le_z (pos 0) m.value ≡ true
never_below n h cs u s m f e = ap afloat (sym e) ∙ (turns_sound (new_book n) cs (begun_sound n h)).floors.values u s f
