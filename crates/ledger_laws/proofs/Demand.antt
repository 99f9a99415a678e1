-- Demand 3's laws, said of the calls, on any bench: what is accepted, and the bench that it leaves. Assumes nothing.
use Prim.Native.Nat.{ℕ}
use mathlib.Core.Path.{◌≡◌, sym, ◌∙◌, ap, subst}
use mathlib.Core.Bool.{false}
use lib.IntN.{ℤ, pos, ◌+ℤ◌}
use lib.Signed.{lt_z}
use Rattle.ledger_spec.specs.Bench.{Bench}
use Rattle.ledger_spec.specs.Deeds.{grow_by, join}
use Rattle.ledger_spec.specs.Calls.{Grow, Fuse}
use Rattle.ledger_spec.specs.Answers.{answer}
use Rattle.ledger_spec.specs.Account.{Alike}
use Rattle.ledger_spec.specs.Facts.{Sound}
use Rattle.ledger_spec.proofs.Says.{says}
use Rattle.ledger_spec.proofs.Holds.{holds}
use Rattle.ledger_spec.proofs.Passed.{Fusable, fusable, fusable_tests}
use Rattle.ledger_spec.proofs.Accepted.{GrowPassed, grow_passed}
use Rattle.ledger_laws.proofs.SoundCalls.{grow_sound, fuse_sound}
use Rattle.ledger_laws.proofs.Answered.{tests_of, deed_of, answer_number, zero_sound, zero_tests, zero_bench}
use Rattle.ledger_laws.proofs.Laws.{grow_grow, grow_fuse}
use Rattle.ledger_laws.proofs.GrowCalls.{grow_tests_lem, whole_accepted, parts_accepted, fusable_before, grow_after}

-- ---- an accepted growth, an accepted fuse: the facts, the bench, and back
module _ (b : Bench) where
  pub grew : (u : ℕ) (l : ℤ) → (answer b (Grow u l)).number ≡ 0 → Sound b × GrowPassed b u l × ((answer b (Grow u l)).bench ≡ grow_by b u l)
  unfolding tests_of deed_of
  grew u l z = (says b (zero_sound b (Grow u l) z), grow_passed b u l (zero_tests b (Grow u l) z), zero_bench b (Grow u l) z)

  pub grows_now : (u : ℕ) (l : ℤ) → Sound b → GrowPassed b u l → (answer b (Grow u l)).number ≡ 0
  unfolding tests_of
  grows_now u l S P = answer_number b (Grow u l) (holds b S) ∙ grow_tests_lem b u l P

  pub fused : (p l r : ℕ) → (answer b (Fuse p l r)).number ≡ 0 → Sound b × Fusable b p l r × ((answer b (Fuse p l r)).bench ≡ join b p l r)
  unfolding tests_of deed_of
  fused p l r z = (says b (zero_sound b (Fuse p l r) z), fusable b p l r (zero_tests b (Fuse p l r) z), zero_bench b (Fuse p l r) z)

  pub fuses_now : (p l r : ℕ) → Sound b → Fusable b p l r → (answer b (Fuse p l r)).number ≡ 0
  unfolding tests_of
  fuses_now p l r S f = answer_number b (Fuse p l r) (holds b S) ∙ fusable_tests b p l r f

-- ---- growing by a and then by c, both accepted: growing by a + c is accepted and leaves the same bench
pub grow_called : (b : Bench) (u : ℕ) (a c : ℤ) → (answer b (Grow u a)).number ≡ 0 → (answer (answer b (Grow u a)).bench (Grow u c)).number ≡ 0
    → ((answer b (Grow u (a +ℤ c))).number ≡ 0) × ((answer (answer b (Grow u a)).bench (Grow u c)).bench ≡ (answer b (Grow u (a +ℤ c))).bench)
grow_called b u a c x y = (z, second.2 ∙ ap (λ (d : Bench). grow_by d u c) first_is.2 ∙ grow_grow b u a c ∙ sym (grew b u (a +ℤ c) z).2)
  where
    first_is : Sound b × GrowPassed b u a × ((answer b (Grow u a)).bench ≡ grow_by b u a)
    first_is = grew b u a x

    second : Sound (answer b (Grow u a)).bench × GrowPassed (answer b (Grow u a)).bench u c × ((answer (answer b (Grow u a)).bench (Grow u c)).bench ≡ grow_by (answer b (Grow u a)).bench u c)
    second = grew (answer b (Grow u a)).bench u c y

    z : (answer b (Grow u (a +ℤ c))).number ≡ 0
    z = grows_now b u (a +ℤ c) first_is.0 (whole_accepted b first_is.0.frame u a c first_is.1 (subst (λ (d : Bench). GrowPassed d u c) first_is.2 second.1))

-- growing by a + c, accepted, with neither negative: growing by a and then by c is accepted too
pub parts_called : (b : Bench) (u : ℕ) (a c : ℤ) → lt_z a (pos 0) ≡ false → lt_z c (pos 0) ≡ false → (answer b (Grow u (a +ℤ c))).number ≡ 0
    → ((answer b (Grow u a)).number ≡ 0) × ((answer (answer b (Grow u a)).bench (Grow u c)).number ≡ 0)
parts_called b u a c ha hc z = (x, subst (λ (d : Bench). (answer d (Grow u c)).number ≡ 0) (sym (grew b u a x).2) (grows_now (grow_by b u a) u c (grow_sound b S u a parts.0) parts.1))
  where
    S : Sound b
    S = (grew b u (a +ℤ c) z).0

    parts : GrowPassed b u a × GrowPassed (grow_by b u a) u c
    parts = parts_accepted b S.frame u a c ha hc (grew b u (a +ℤ c) z).1

    x : (answer b (Grow u a)).number ≡ 0
    x = grows_now b u a S parts.0

-- ---- growing two halves by one length and fusing, all accepted: so are fusing and growing, and the benches are alike
module _ (b : Bench) (p l r : ℕ) (a : ℤ) where
  abbrev pub grown_left : Bench
  grown_left = (answer b (Grow l a)).bench

  abbrev pub grown_both : Bench
  grown_both = (answer grown_left (Grow r a)).bench

  abbrev pub fused_first : Bench
  fused_first = (answer b (Fuse p l r)).bench

  module _ (x : (answer b (Grow l a)).number ≡ 0) (y : (answer grown_left (Grow r a)).number ≡ 0) (z : (answer grown_both (Fuse p l r)).number ≡ 0) where
    S : Sound b
    S = (grew b l a x).0

    both_is : grown_both ≡ grow_by (grow_by b l a) r a
    both_is = (grew grown_left r a y).2 ∙ ap (λ (d : Bench). grow_by d r a) (grew b l a x).2

    f : Fusable b p l r
    f = fusable_before b p l r a (subst (λ (d : Bench). Fusable d p l r) both_is (fused grown_both p l r z).1)

    pub fuse_too : (answer b (Fuse p l r)).number ≡ 0
    fuse_too = fuses_now b p l r S f

    pub grow_too : (answer fused_first (Grow p a)).number ≡ 0
    grow_too = subst (λ (d : Bench). (answer d (Grow p a)).number ≡ 0) (sym (fused b p l r fuse_too).2)
        (grows_now (join b p l r) p a (fuse_sound b S p l r f) (grow_after b p l r a S.frame f (S.forward l) (grew b l a x).1 (subst (λ (d : Bench). GrowPassed d r a) (grew b l a x).2 (grew grown_left r a y).1)))

    pub fuse_called : Alike (answer grown_both (Fuse p l r)).bench (answer fused_first (Grow p a)).bench
    fuse_called = subst (λ (d : Bench). Alike d (answer fused_first (Grow p a)).bench) (sym ((fused grown_both p l r z).2 ∙ ap (λ (d : Bench). join d p l r) both_is))
        (subst (λ (d : Bench). Alike (join (grow_by (grow_by b l a) r a) p l r) d) (sym ((grew fused_first p a grow_too).2 ∙ ap (λ (d : Bench). grow_by d p a) (fused b p l r fuse_too).2)) (grow_fuse b S.frame p l r a f))
