-- Reads and text lines: a refused read has no value, and on a sound bench neither a read nor a line ever answers BROKEN; lines keep the bench sound.
-- Assumes nothing.
use Rattle.std.specs.Prelude.{None, Some}
use Prim.Native.Nat.{ℕ, zero, suc, ◌<◌, ◌^◌}
use mathlib.Core.Path.{◌≡◌, refl, sym, ◌∙◌, ap}
use mathlib.Core.Logic.{◌≢◌}
use mathlib.Core.Bool.{Bool, true, false, ◌||◌, true≢false}
use mathlib.Core.List.{List, [], ◌∷◌, map}
use native.Mathlib.Omega.{arith}
use lib.Dec.{eqb}
use lib.IntN.{ℤ, pos}
use Rattle.ledger_spec.specs.Bench.{Bench, set_up}
use Rattle.ledger_spec.specs.Look.{interface}
use Rattle.ledger_spec.specs.Tests.{first, outside, child}
use Rattle.ledger_spec.specs.Refuse.{unit_tests}
use Rattle.ledger_spec.specs.Calls.{Call, Defect, Blossom, Expand, SetState, Grow, Fuse, Clear}
use Rattle.ledger_spec.specs.Reads.{said}
use Rattle.ledger_spec.specs.Check.{verdict, check_of}
use Rattle.ledger_spec.specs.Sound.{sound}
use Rattle.ledger_spec.specs.Answers.{answer, ask}
use Rattle.ledger_spec.specs.Book.{turns, new_book}
use Rattle.ledger_spec.specs.Operations.{D, B, E, S, G, F, C, K}
use Rattle.ledger_spec.specs.Grammar.{Line}
use Rattle.ledger_spec.specs.Lines.{named, shown, calls, checks, says}
use Rattle.ledger_spec.specs.Program.{after_lines}
use Rattle.ledger_spec.specs.Facts.{Sound}
use Rattle.ledger_spec.proofs.Holds.{holds}
use Rattle.ledger_laws.proofs.SoundCalls.{opened_sound}
use Rattle.ledger_laws.proofs.Answered.{tests_of}
use Rattle.ledger_laws.proofs.Always.{answered_sound, always_sound, broken_only, tests_above}

-- ---- reads
module _ {A : Type 0} (b : Bench) (z : A) where
  pub ask_true : (r : ℕ × A) → sound b ≡ true → ask b z r ≡ r
  unfolding ask
  ask_true r e = rw (e, ask)

  pub ask_false : (r : ℕ × A) → sound b ≡ false → ask b z r ≡ (2, z)
  unfolding ask
  ask_false r e = rw (e, ask)

  said_refused : (n : ℕ) (v : A) → (said n v z).0 ≢ 0 → (said n v z).1 ≡ z
  unfolding said
  said_refused zero v q = absurd (q refl)
  said_refused (suc n) v q = refl

  -- a refused read has no value
  pub ask_refused : (n : ℕ) (v : A) → (ask b z (said n v z)).0 ≢ 0 → (ask b z (said n v z)).1 ≡ z
  ask_refused n v q = go (sound b) refl
    where
      go : (s : Bool) → sound b ≡ s → (ask b z (said n v z)).1 ≡ z
      go true e = ap (λ (r : ℕ × A). r.1) (ask_true (said n v z) e) ∙ said_refused n v (λ k. q (ap (λ (r : ℕ × A). r.0) (ask_true (said n v z) e) ∙ k))
      go false e = ap (λ (r : ℕ × A). r.1) (ask_false (said n v z) e)

-- after any calls from set-up a read answers what it reads
pub ask_always : {A : Type 0} (n : ℕ) → n < 2 ^ 32 → (cs : List Call) (z : A) (r : ℕ × A) → ask (turns (new_book n) cs).bench z r ≡ r
ask_always n h cs z r = ask_true (turns (new_book n) cs).bench z r (always_sound n h cs)

-- ---- lines
pub line_sound : (b : Bench) (l : Line) → Sound b → Sound (says b l).bench
unfolding says calls checks
line_sound b (Some (D u v)) T = answered_sound b T (Defect u v)
line_sound b (Some (B u ks)) T = answered_sound b T (Blossom u (map (named b) ks) [])
line_sound b (Some (E u k)) T = answered_sound b T (Expand u (named b k))
line_sound b (Some (S u k s)) T = answered_sound b T (SetState u (named b k) s)
line_sound b (Some (G u l)) T = answered_sound b T (Grow u l)
line_sound b (Some (F p l r)) T = answered_sound b T (Fuse p l r)
line_sound b (Some (C u)) T = answered_sound b T (Clear u)
line_sound b (Some (K u)) T = T
line_sound b None T = T

pub lines_sound : (b : Bench) (ls : List Line) → Sound b → Sound (after_lines b ls)
unfolding after_lines
lines_sound b [] T = T
lines_sound b (l ∷ ls) T = lines_sound (says b l).bench ls (line_sound b l T)

-- the program's bench, whatever it was given
pub program_sound : (ls : List Line) → Sound (after_lines (set_up 1) ls)
program_sound ls = lines_sound (set_up 1) ls (opened_sound 1 (omega arith) (omega arith))

shown_number : (n k : ℕ) (b : Bench) (u : ℕ) → (shown n k b u).0 ≡ n
unfolding shown
shown_number n k b u = go (eqb n 3 || (outside u || child b u))
  where
    pick : Bool → ℕ × ℕ × ℤ × ℤ
    pick c = elim c [ true ↦ (n, k, pos 0, pos 0) | false ↦ (n, k, (interface b u).speed, (interface b u).sum) ]

    go : (c : Bool) → (pick c).0 ≡ n
    go true = refl
    go false = refl

call_not_two : (b : Bench) (u : ℕ) (c : Call) → Sound b → (calls b u c).numbers.0 ≢ 2
unfolding calls
call_not_two b u c T e = true≢false (sym (holds b T) ∙ broken_only b c (sym (shown_number (answer b c).number (answer b c).node.serial (answer b c).bench u) ∙ e))

said_number : {A : Type 0} (n : ℕ) (v z : A) → (said n v z).0 ≡ n
unfolding said
said_number zero v z = refl
said_number (suc n) v z = refl

unit_not_two : (b : Bench) (u : ℕ) → first (unit_tests b u) ≢ 2
unfolding tests_of
unit_not_two b u = tests_above b (Clear u)

check_not_two : (b : Bench) (u : ℕ) → Sound b → (checks b u).numbers.0 ≢ 2
unfolding checks check_of
check_not_two b u T e = unit_not_two b u (sym (shown_number (ask b (0, 0) (check_of b u)).0 (ask b (0, 0) (check_of b u)).1.0 b u
    ∙ ap (λ (r : ℕ × (ℕ × ℕ)). r.0) (ask_true b (0, 0) (check_of b u) (holds b T)) ∙ said_number (first (unit_tests b u)) (verdict b u) (0, 0)) ∙ e)

pub line_not_broken : (b : Bench) (l : Line) → Sound b → (says b l).numbers.0 ≢ 2
unfolding says
line_not_broken b (Some (D u v)) T = call_not_two b u (Defect u v) T
line_not_broken b (Some (B u ks)) T = call_not_two b u (Blossom u (map (named b) ks) []) T
line_not_broken b (Some (E u k)) T = call_not_two b u (Expand u (named b k)) T
line_not_broken b (Some (S u k s)) T = call_not_two b u (SetState u (named b k) s) T
line_not_broken b (Some (G u l)) T = call_not_two b u (Grow u l) T
line_not_broken b (Some (F p l r)) T = call_not_two b p (Fuse p l r) T
line_not_broken b (Some (C u)) T = call_not_two b u (Clear u) T
line_not_broken b (Some (K u)) T = check_not_two b u T
line_not_broken b None T = λ e. omega (arith, e)
