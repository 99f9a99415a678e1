-- The theorem speaks of bytes that can be typed: an input of the watched patch alone, and one where the other patch's lines stand between. Its serials
-- differ, the rest of its answers does not. Assumes nothing.
use Rattle.std.specs.Prelude.{Some}
use Prim.Native.Nat.{ℕ, zero, suc}
use mathlib.Core.Path.{◌≡◌, refl, sym, ◌∙◌, ap}
use mathlib.Core.Bool.{Bool, false}
use mathlib.Core.List.{List, [], ◌∷◌, map}
use native.Mathlib.Omega.{arith}
use lib.Dec.{eqb, ltb}
use lib.ListN.{length, get_or, drop, replicate}
use lib.IntN.{pos}
use borrow.Author.Tests.{ltb-true, eqb-false}
use Rattle.ledger_spec.specs.Bench.{set_up}
use Rattle.ledger_spec.specs.SoundTree.{all}
use Rattle.ledger_spec.specs.Operations.{D, B, E, G, F, C, K}
use Rattle.ledger_spec.specs.Grammar.{Line, wrong}
use Rattle.ledger_spec.specs.Bytes.{bytes}
use Rattle.ledger_spec.specs.Program.{lines_of, answers}
use Rattle.ledger_spec.specs.Opened.{run}
use Rattle.patch_laws.specs.Patch.{Patch, Apart, mine}
use Rattle.patch_texts.specs.Page.{spelled, number_from, Read, after, read_of, Step, theirs, ours, reads, lines, own, own_of, opened}
use Rattle.patch_texts.specs.Inputs.{AllFit, Unworn, but_serial}
use Rattle.patch_texts.proofs.Texts.{two_inputs}

-- interfaces below 3 are the other's, the rest the watched patch's
other : Patch
other u = ltb u 3

watched : Patch
watched u = ltb 2 u

disjoint : Apart other watched
unfolding other watched
disjoint u x y = omega (arith, ltb-true u 3 x, ltb-true 2 u y)

pub alone : List Step
alone = ours (Some (D 3 8)) ∷ ours (Some (D 3 9)) ∷ ours (Some (G 3 (pos 2))) ∷ ours (Some (B 3 (0 ∷ 1 ∷ []))) ∷ ours (Some (E 3 2)) ∷ ours (Some (K 3)) ∷ ours (Some (E 3 2)) ∷ ours (Some (D 9 1)) ∷ ours wrong ∷ []

pub shared : List Step
shared = theirs (Some (D 0 7)) ∷ ours (Some (D 3 8)) ∷ theirs (Some (D 1 7)) ∷ ours (Some (D 3 9)) ∷ theirs (Some (F 2 0 1)) ∷ theirs (Some (E 2 2)) ∷ ours (Some (G 3 (pos 2))) ∷ ours (Some (B 3 (0 ∷ 1 ∷ []))) ∷ theirs wrong ∷ ours (Some (E 3 2)) ∷ theirs (Some (C 2)) ∷ ours (Some (K 3))
    ∷ theirs (Some (K 2)) ∷ ours (Some (E 3 2)) ∷ ours (Some (D 9 1)) ∷ ours wrong ∷ []

pub alone_input : List ℕ
alone_input = bytes "D 3 8\nD 3 9\nG 3 2\nB 3 1 2\nE 3 3\nK 3\nE 3 3\nD 9 1\nX\n"

pub shared_input : List ℕ
shared_input = bytes "D 0 7\nD 3 8\nD 1 7\nD 3 9\nF 2 0 1\nE 2 2\nG 3 2\nB 3 2 4\n?\nE 3 5\nC 2\nK 3\nK 2\nE 3 5\nD 9 1\nX\n"

abbrev alone_typed : List Line
alone_typed = Some (D 3 8) ∷ Some (D 3 9) ∷ Some (G 3 (pos 2)) ∷ Some (B 3 (1 ∷ 2 ∷ [])) ∷ Some (E 3 3) ∷ Some (K 3) ∷ Some (E 3 3) ∷ Some (D 9 1) ∷ wrong ∷ []

abbrev shared_typed : List Line
shared_typed = Some (D 0 7) ∷ Some (D 3 8) ∷ Some (D 1 7) ∷ Some (D 3 9) ∷ Some (F 2 0 1) ∷ Some (E 2 2) ∷ Some (G 3 (pos 2)) ∷ Some (B 3 (2 ∷ 4 ∷ [])) ∷ wrong ∷ Some (E 3 5) ∷ Some (C 2) ∷ Some (K 3) ∷ Some (K 2) ∷ Some (E 3 5) ∷ Some (D 9 1) ∷ wrong ∷ []

alone_said : lines_of alone_input ≡ alone_typed
unfolding run alone_input
alone_said = refl

shared_said : lines_of shared_input ≡ shared_typed
unfolding run shared_input
shared_said = refl

alone_lines : lines (opened 1) alone ≡ alone_typed
unfolding run spelled after lines alone
alone_lines = refl

shared_lines : lines (opened 1) shared ≡ shared_typed
unfolding run spelled after lines shared
shared_lines = refl

alone_unworn : map (λ (r : Read). eqb r.0 15) (reads (opened 1) alone) ≡ replicate 9 false
unfolding run spelled number_from after read_of reads alone
alone_unworn = refl

shared_unworn : map (λ (r : Read). eqb r.0 15) (reads (opened 1) shared) ≡ replicate 9 false
unfolding run spelled number_from after read_of reads shared
shared_unworn = refl

unworn : (rs : List Read) (n : ℕ) → map (λ (r : Read). eqb r.0 15) rs ≡ replicate n false → Unworn rs
unworn [] n e = tt
unworn (r ∷ rs) zero e = absurd (nil_cons (sym e))
  where
    nil_cons : {x : Bool} {xs : List Bool} → [] ≡ x ∷ xs → ⊥
    nil_cons z = omega (arith, ap length z)
unworn (r ∷ rs) (suc n) e = (λ z. eqb-false r.0 15 (ap (λ l. get_or l 0 false) e) z, unworn rs n (ap (drop 1) e))

fits_shared : AllFit other watched shared
unfolding all mine other watched shared
fits_shared = (refl, (refl, (refl, (refl, (refl, (refl, (refl, (refl, (refl, (refl, (refl, (refl, (refl, (refl, (refl, (refl, tt))))))))))))))))

fits_alone : AllFit other watched alone
unfolding all mine other watched alone
fits_alone = (refl, (refl, (refl, (refl, (refl, (refl, (refl, (refl, (refl, tt)))))))))

same_steps : own shared ≡ own alone
unfolding own alone shared
same_steps = refl

pub same : map but_serial (own_of shared (answers (set_up 1) (lines_of shared_input))) ≡ map but_serial (own_of alone (answers (set_up 1) (lines_of alone_input)))
same = two_inputs other watched disjoint shared alone fits_shared fits_alone same_steps (unworn (reads (opened 1) shared) 9 shared_unworn) (unworn (reads (opened 1) alone) 9 alone_unworn)
    shared_input alone_input (shared_said ∙ sym shared_lines) (alone_said ∙ sym alone_lines)

-- the answers themselves, whole: the serials are others
pub printed : (own_of alone (answers (set_up 1) (lines_of alone_input)) ≡ (0, 1, pos 1, pos 0) ∷ (0, 2, pos 2, pos 0) ∷ (0, 0, pos 2, pos 4) ∷ (0, 3, pos 1, pos 4) ∷ (0, 3, pos 2, pos 4) ∷ (0, 0, pos 2, pos 4) ∷ (8, 0, pos 2, pos 4) ∷ (3, 0, pos 0, pos 0) ∷ (1, 0, pos 0, pos 0) ∷ [])
    × (own_of shared (answers (set_up 1) (lines_of shared_input)) ≡ (0, 2, pos 1, pos 0) ∷ (0, 4, pos 2, pos 0) ∷ (0, 0, pos 2, pos 4) ∷ (0, 5, pos 1, pos 4) ∷ (0, 5, pos 2, pos 4) ∷ (0, 0, pos 2, pos 4) ∷ (8, 0, pos 2, pos 4) ∷ (3, 0, pos 0, pos 0) ∷ (1, 0, pos 0, pos 0) ∷ [])
unfolding run own_of alone shared alone_input shared_input
printed = (refl, refl)
