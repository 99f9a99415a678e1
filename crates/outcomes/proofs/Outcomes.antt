-- What every outcome has, whatever the call and the verdict: of sound words it leaves sound words; they show the answer's bench, accepted or refused; two
-- outcomes of one call on the same words are one. Assumes nothing.
use Prim.Native.Nat.{ℕ}
use mathlib.Core.Path.{◌≡◌, refl, sym, ◌∙◌, ap, subst}
use mathlib.Core.Logic.{◌≢◌, by_cases}
use mathlib.Core.Bool.{Bool, true, false}
use mathlib.Core.List.{List}
use native.Mathlib.Decide.{ℕ_discrete}
use native.Mathlib.Omega.{arith}
use Rattle.ledger_spec.specs.Bench.{Handle}
use Rattle.ledger_spec.specs.Tests.{first}
use Rattle.ledger_spec.specs.Calls.{Call}
use Rattle.ledger_spec.specs.Answers.{Answer as Plain, broken, answer}
use Rattle.ledger_laws.proofs.Answered.{tests_of, node_of, zero_tests, zero_node, refused_bench}
use Rattle.bench_views.specs.View.{view}
use Rattle.bench_views.specs.Fit.{SoundWords}
use Rattle.bench_views.proofs.Unique.{words_same}
use Rattle.bench_views.proofs.Fits.{fit_of}
use Rattle.outcomes.specs.Outcome.{answer_on, Outcome}

-- sound words of one bench are the same words
pub sound_words_same : {b b' : List ℕ} → SoundWords b → SoundWords b' → view b ≡ view b' → b ≡ b'
sound_words_same {b} {b'} x y e = words_same b b' x.canon y.canon (fit_of b x).within e

-- a refusal leaves the bench, on any words
kept : (s : Bool) (b : List ℕ) (c : Call) → (answer_on s b c).number ≢ 0 → (answer_on s b c).bench ≡ view b
unfolding broken
kept true b c q = refused_bench (view b) c q
kept false b c q = refl

module _ {s : Bool} {b : List ℕ} {c : Call} {n : ℕ} {b' : List ℕ} where
  pub sound_after : SoundWords b → Outcome s b c n b' → SoundWords b'
  sound_after W O = by_cases (ℕ_discrete n 0) O.words (λ (q : n ≡ 0 → ⊥). subst SoundWords (sym (O.refused q)) W)

  pub seen_after : Outcome s b c n b' → view b' ≡ (answer_on s b c).bench
  seen_after O = by_cases (ℕ_discrete n 0) O.seen (λ (q : n ≡ 0 → ⊥). ap view (O.refused q) ∙ sym (kept s b c (λ z. q (O.number ∙ z))))

  -- the same number, the same verdict, the same call, said otherwise
  pub numbered : {m : ℕ} → m ≡ n → Outcome s b c n b' → Outcome s b c m b'
  numbered e O = subst (λ (k : ℕ). Outcome s b c k b') (sym e) O

  pub judged : {t : Bool} → s ≡ t → Outcome s b c n b' → Outcome t b c n b'
  judged e O = subst (λ (t : Bool). Outcome t b c n b') e O

  pub named_as : {d : Call} → c ≡ d → Outcome s b c n b' → Outcome s b d n b'
  named_as e O = subst (λ (x : Call). Outcome s b x n b') e O

  -- a refusal; and BROKEN, on words that hold no sound bench
  pub stays : n ≢ 0 → n ≡ (answer_on s b c).number → b' ≡ b → Outcome s b c n b'
  stays q e same = record { number = e; words = λ z. absurd (q z); seen = λ z. absurd (q z); refused = λ _. same }

  pub broke : s ≡ false → n ≡ 2 → b' ≡ b → Outcome s b c n b'
  unfolding broken
  broke e k same = stays (λ z. omega (arith, k, z)) (k ∙ sym (ap (λ (t : Bool). (answer_on t b c).number) e)) same

  -- no second one
  pub outcome_once : {m : ℕ} {b'' : List ℕ} → Outcome s b c n b' → Outcome s b c m b'' → (n ≡ m) × (b' ≡ b'')
  outcome_once {m} x y = (
    one,
    by_cases (ℕ_discrete n 0)
        (λ (z : n ≡ 0). let w : m ≡ 0 = sym one ∙ z in sound_words_same (x.words z) (y.words w) (x.seen z ∙ sym (y.seen w)))
        (λ (q : n ≡ 0 → ⊥). x.refused q ∙ sym (y.refused (λ w. q (one ∙ w)))),
  )
    where
      one : n ≡ m
      one = x.number ∙ sym y.number

-- ---- accepted on sound words: every test failed, and the answer's node is the call's
module _ {b : List ℕ} {c : Call} {n : ℕ} {b' : List ℕ} (O : Outcome true b c n b') (z : n ≡ 0) where
  pub zero_is : (answer (view b) c).number ≡ 0
  zero_is = sym O.number ∙ z

  pub tests_are : first (tests_of (view b) c) ≡ 0
  tests_are = zero_tests (view b) c zero_is

  pub node_made : {h : Handle} → h ≡ (answer (view b) c).node → h ≡ node_of (view b) c
  node_made e = e ∙ zero_node (view b) c zero_is

-- ---- with a part of the answer: its node, its value, the words that it writes
module _ {A : Type 0} {s : Bool} {b : List ℕ} {c : Call} {n : ℕ} {b' : List ℕ} {x : A} where
  pub judged_with : (f : Plain → A) {t : Bool} → s ≡ t → Outcome s b c n b' × (x ≡ f (answer_on s b c)) → Outcome t b c n b' × (x ≡ f (answer_on t b c))
  judged_with f e O = subst (λ (t : Bool). Outcome t b c n b' × (x ≡ f (answer_on t b c))) e O

  pub once_with : {z : A} {m : ℕ} {b'' : List ℕ} {y : A} → Outcome s b c n b' × (x ≡ z) → Outcome s b c m b'' × (y ≡ z) → (n ≡ m) × ((x ≡ y) × (b' ≡ b''))
  once_with p q = let o = outcome_once p.0 q.0 in (o.0, (p.1 ∙ sym q.1, o.1))
