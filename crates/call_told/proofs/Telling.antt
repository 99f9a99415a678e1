-- A call's answer with its notices, from the call's own: a refusal has none, an accepted call those that the ledger tells. Assumes nothing.
use Prim.Native.Nat.{ℕ, zero, suc, ◌≤◌}
use mathlib.Core.Path.{◌≡◌, refl, sym, ◌∙◌, ap, subst}
use mathlib.Core.Logic.{◌≢◌}
use mathlib.Core.Bool.{true}
use mathlib.Core.List.{List, []}
use native.Mathlib.Omega.{arith}
use lib.ListN.{length, length-map}
use lib.IntN.{ℤ}
use mir.Syntax.{w64}
use mir.Val.{SFits}
use mir.Facts.{to_z-of_z}
use Rattle.kinds.specs.declared.Handle.{Handle}
use Rattle.ledger_spec.specs.Bench as plain
use Rattle.ledger_spec.specs.Tests.{first}
use Rattle.ledger_spec.specs.Refuse.{expand_tests}
use Rattle.ledger_spec.specs.Calls.{Call, Blossom, Grow}
use Rattle.ledger_spec.specs.Calls as calls
use Rattle.ledger_spec.specs.Notices.{tells}
use Rattle.ledger_spec.specs.Answers.{answer}
use Rattle.ledger_spec.specs.Named.{handle_named}
use Rattle.ledger_spec.proofs.Accepted.{BlossomPassed, blossom_passed, ExpandPassed, expand_passed}
use Rattle.ledger_laws.proofs.Answered.{tests_of, node_of, answer_number, zero_notices, zero_node}
use Rattle.ledger_laws.proofs.Answered as laws
use Rattle.bench_views.specs.Given.{hand_given}
use Rattle.deed_circles.specs.Given.{hands_given}
use Rattle.bench_views.specs.View.{view}
use Rattle.bench_views.specs.Fit.{SoundWords, Fit}
use Rattle.bench_views.proofs.Fits.{fit_of}
use Rattle.outcomes.specs.Outcome.{Outcome}
use Rattle.outcomes.proofs.Outcomes.{numbered, zero_is}
use Rattle.outcomes.proofs.Answers as answers
use Rattle.refuse_calls.proofs.Lengths.{again}
use Rattle.outcome_notices.specs.declared.Notices.{Notices}
use Rattle.outcome_notices.specs.Laid.{packed, laid}
use Rattle.outcome_notices.specs.Lists.{Ring}
use Rattle.call_told.specs.declared.Answer.{Answer}
use Rattle.call_told.specs.Shown.{shown, refused_by}
use Rattle.call_told.specs.Told.{Told}

-- ---- the two ends of a call
module _ {b : List ℕ} {c : Call} {n : ℕ} {b' : List ℕ} (O : Outcome true b c n b') where
  is_told : {r : Answer} → r ≡ shown (answer (view b) c) → Told b c r b'
  is_told e = (numbered (ap (λ (x : Answer). x.number) e ∙ sym O.number) O, e)

  pub stops : n ≢ 0 → {r : Answer} → r ≡ refused_by n → Told b c r b'
  stops q e = is_told (e ∙ ap refused_by O.number ∙ sym (ap shown (laws.refused (view b) c (λ z. q (O.number ∙ z)))))

  pub goes : n ≡ 0 → {h : Handle} → handle_named h ≡ (answer (view b) c).node → {k : ℕ} → k ≡ 0 → {ns : Notices} → ns ≡ laid (tells (view b) c)
      → Told b c (record { number = k; node = h; notices = ns }) b'
  goes z m y e = is_told (λ i. record {
    number = (y ∙ sym (zero_is O z)) i;
    node = packed (m i);
    notices = (e ∙ ap laid (sym (zero_notices (view b) c (zero_is O z)))) i;
  })

  -- no node and nothing told, accepted or not
  pub bare : node_of (view b) c ≡ calls.nobody → tells (view b) c ≡ [] → {r : Answer} → r ≡ refused_by n → Told b c r b'
  bare x y {r} e = go n refl
    where
      go : (k : ℕ) → n ≡ k → Told b c r b'
      go zero z = is_told (e ∙ λ i. record {
        number = O.number i;
        node = packed (sym (zero_node (view b) c (zero_is O z) ∙ x) i);
        notices = laid (sym (zero_notices (view b) c (zero_is O z) ∙ y) i);
      })
      go (suc k) z = stops (λ q. omega (arith, q, z)) e

-- ---- a call whose number was asked before
module _ {b : List ℕ} (W : SoundWords b) (c : Call) {k : ℕ} (e : k ≡ first (tests_of (view b) c)) where
  pub stops_early : k ≢ 0 → {r : Answer} → r ≡ refused_by k → Told b c r b
  stops_early q f = stops (answers.refused b c W b k q e refl).0 q f

  pub zero_again : k ≡ 0 → {n : ℕ} {b' : List ℕ} → Outcome true b c n b' → n ≡ 0
  zero_again z O = O.number ∙ answer_number (view b) c W.sound ∙ sym e ∙ z

-- ---- what a circle has to be before it is told
pub few_members : (b : List ℕ) (u : ℕ) (ms : List ℕ) (ts : List (plain.Handle × plain.Handle)) → first (tests_of (view b) (Blossom u (hands_given ms) ts)) ≡ 0 → length ms ≤ 64
unfolding tests_of
few_members b u ms ts e = let P : BlossomPassed (view b) u (hands_given ms) ts = blossom_passed (view b) u (hands_given ms) ts e in omega (arith, P.most, length-map ms hand_given)

pub ring_of : (b : List ℕ) → SoundWords b → (u : ℕ) (h : plain.Handle) (n : ℕ) → n ≡ first (expand_tests (view b) u h) → n ≡ 0 → Fit b × Ring (view b) h
ring_of b W u h n e z = let P : ExpandPassed (view b) u h = expand_passed (view b) u h (sym e ∙ z) in
    (fit_of b W, record { node = P.named.node; ms = P.ms; named = P.named.is; ring = P.ring })

-- the length is read again from 64 bits
pub grow_told : {b : List ℕ} {u : ℕ} {l : ℤ} {r : Answer} {b' : List ℕ} → SFits w64 l → Told b (Grow u (again l)) r b' → Told b (Grow u l) r b'
grow_told {b} {u} {r = r} {b'} f T = subst (λ (x : ℤ). Told b (Grow u x) r b') (to_z-of_z f) T
