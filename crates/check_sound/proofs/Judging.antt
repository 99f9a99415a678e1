-- The verdict by its parts: what the walk finds, else what the sum says, else what the strict walk finds. Assumes nothing.
use Prim.Native.Nat.{ℕ, zero, suc}
use mathlib.Core.Path.{◌≡◌, refl, ap, sym, ◌∙◌}
use mathlib.Core.Bool.{Bool, true, false}
use mathlib.Core.List.{List, []}
use lib.IntN.{ℤ, pos, nat_abs, ◌+ℤ◌, -ℤ-+ℤ_cancel}
use Rattle.bench_words.specs.declared.Interface.{Interface}
use Rattle.ledger_spec.specs.Bench.{Bench}
use Rattle.ledger_spec.specs.Look.{interface}
use Rattle.ledger_spec.specs.Reads.{slots_of}
use Rattle.ledger_spec.specs.Check.{strict_finding, total_of, verdict, strict_verdict, check_of, strict_of}
use Rattle.ledger_laws.proofs.Five.{found, verdict_found, verdict_zero, verdict_five}
use Rattle.bench_views.specs.View.{off, view}
use Rattle.check_walks.specs.Walks.{walk_by}
use Rattle.check_sound.specs.Judged.{verdict_by, judged_by}

-- ---- numbers that stand c higher
off_inj : (c m n : ℕ) → off c m ≡ off c n → m ≡ n
unfolding off
off_inj c m n e = ap nat_abs (sym (-ℤ-+ℤ_cancel (pos m) (pos c)) ∙ ap (λ (z : ℤ). z +ℤ pos c) e ∙ -ℤ-+ℤ_cancel (pos n) (pos c))

-- ---- the verdict of either check
plain_walk : (b : Bench) (u : ℕ) → walk_by false b (slots_of b u) (slots_of b u) [] 0 ≡ found b u
unfolding walk_by
plain_walk b u = refl

strict_walk : (b : Bench) (u : ℕ) → walk_by true b (slots_of b u) (slots_of b u) [] 0 ≡ strict_finding b (slots_of b u) (slots_of b u)
unfolding walk_by
strict_walk b u = refl

-- a verdict that is not 0 is the strict check's too
either : (s : Bool) (b : Bench) (u k : ℕ) → (verdict b u).0 ≡ suc k → verdict_by s b u ≡ verdict b u
unfolding verdict_by strict_verdict
either true b u k e = ap pick e
  where
    pick : ℕ → ℕ × ℕ
    pick j = elim j [ zero ↦ strict_finding b (slots_of b u) (slots_of b u) | suc i ↦ verdict b u ]
either false b u k e = refl

after_zero : (b : Bench) (u : ℕ) → (verdict b u).0 ≡ 0 → strict_verdict b u ≡ strict_finding b (slots_of b u) (slots_of b u)
unfolding strict_verdict
after_zero b u e = rw (e, strict_verdict)

module _ (b : Bench) (u : ℕ) (s : Bool) (w i : ℕ) (W : (w, i) ≡ walk_by false b (slots_of b u) (slots_of b u) [] 0) where
  walked : found b u ≡ (w, i)
  walked = sym (W ∙ plain_walk b u)

  pub judge_found : (w ≡ 0 → ⊥) → (w, i) ≡ verdict_by s b u
  judge_found z = go w refl
    where
      go : (k : ℕ) → w ≡ k → (w, i) ≡ verdict_by s b u
      go zero e = absurd (z e)
      go (suc k) e =
          let f : (found b u).0 ≡ suc k = ap (λ (r : ℕ × ℕ). r.0) walked ∙ e in
          let v : verdict b u ≡ found b u = verdict_found b u k f in
          sym (either s b u k (ap (λ (r : ℕ × ℕ). r.0) v ∙ f) ∙ v ∙ walked)

  module _ (z : w ≡ 0) where
    nothing : (found b u).0 ≡ 0
    nothing = ap (λ (r : ℕ × ℕ). r.0) walked ∙ z

    pub judge_five : ((interface b u).sum ≡ total_of (slots_of b u) → ⊥) → (5, 0) ≡ verdict_by s b u
    judge_five q = let v : verdict b u ≡ (5, 0) = verdict_five b u nothing q in sym (either s b u 4 (ap (λ (r : ℕ × ℕ). r.0) v) ∙ v)

    module _ (q : (interface b u).sum ≡ total_of (slots_of b u)) where
      clean : verdict b u ≡ (0, 0)
      clean = verdict_zero b u nothing q

      pub judge_zero : s ≡ false → (0, 0) ≡ verdict_by s b u
      unfolding verdict_by
      judge_zero f = sym (ap (λ (t : Bool). verdict_by t b u) f ∙ clean)

      pub judge_strict : s ≡ true → (x : ℕ × ℕ) → x ≡ walk_by true b (slots_of b u) (slots_of b u) [] 0 → x ≡ verdict_by s b u
      unfolding verdict_by
      judge_strict t x X = X ∙ strict_walk b u ∙ sym (after_zero b u (ap (λ (r : ℕ × ℕ). r.0) clean)) ∙ sym (ap (λ (t : Bool). verdict_by t b u) t)

-- ---- the stored sum and the total, as words
module _ (b : List ℕ) (u total : ℕ) (f : Interface) (x : off 4611686018427387904 f.sum ≡ (interface (view b) u).sum) (t : off 4611686018427387904 total ≡ total_of (slots_of (view b) u)) where
  pub sum_agrees : total ≡ f.sum → (interface (view b) u).sum ≡ total_of (slots_of (view b) u)
  sum_agrees e = sym x ∙ ap (off 4611686018427387904) (sym e) ∙ t

  pub sum_differs : (total ≡ f.sum → ⊥) → (interface (view b) u).sum ≡ total_of (slots_of (view b) u) → ⊥
  sum_differs n e = n (off_inj 4611686018427387904 total f.sum (t ∙ sym e ∙ sym x))

-- ---- the two reads
pub plain_is : (b : Bench) (u : ℕ) → judged_by false b u ≡ check_of b u
unfolding verdict_by check_of
plain_is b u = refl

pub strict_is : (b : Bench) (u : ℕ) → judged_by true b u ≡ strict_of b u
unfolding verdict_by strict_of
strict_is b u = refl
