-- Every call here ends in one of two ways: its number is not 0 and nothing is done, or the work is done. Assumes nothing.
use Prim.Native.Nat.{ℕ}
use mathlib.Core.Path.{◌≡◌, sym, ◌∙◌, subst}
use mathlib.Core.Logic.{◌≢◌}
use mathlib.Core.List.{List}
use lib.IntN.{ℤ, pos, nat_abs}
use mir.Syntax.{w64}
use mir.Val.{SFits}
use mir.Facts.{to_z-of_z}
use Rattle.kinds.specs.Names.{no_code}
use Rattle.kinds.specs.declared.Handle.{Handle}
use Rattle.ledger_spec.specs.Tests.{first}
use Rattle.ledger_spec.specs.Refuse.{grow_tests}
use Rattle.ledger_spec.specs.Deeds.{grow_by}
use Rattle.ledger_spec.specs.Calls.{Call}
use Rattle.ledger_spec.specs.Named.{handle_named}
use Rattle.ledger_spec.proofs.Accepted.{grow_passed}
use Rattle.ledger_laws.proofs.Answered.{tests_of, deed_of, node_of}
use Rattle.bench_views.specs.View.{view}
use Rattle.bench_views.specs.Fit.{SoundWords, Fit, Done}
use Rattle.bench_views.proofs.Fits.{fit_of}
use Rattle.outcomes.specs.declared.Made.{Made}
use Rattle.outcomes.specs.Refused.{refused_by}
use Rattle.outcomes.specs.Answered.{Answered}
use Rattle.outcomes.proofs.Answers.{did, refused}
use Rattle.refuse_calls.proofs.Lengths.{again, Forward, forward_of}

module _ (b : List ℕ) (W : SoundWords b) (c : Call) (n : ℕ) (e : n ≡ first (tests_of (view b) c)) (b' : List ℕ) where
  pub stops : n ≢ 0 → b' ≡ b → (m : Made) → m ≡ refused_by n → Answered b c m.number m.node b'
  stops q same m r = subst (λ (x : Made). Answered b c x.number x.node b') (sym r) (refused b c W b' n q e same)

  pub goes : n ≡ 0 → Done b' (deed_of (view b) c) → (h : Handle) → handle_named h ≡ node_of (view b) c → Answered b c 0 h b'
  goes z D h k = did b c W b' h (sym e ∙ z) D k

  pub goes_bare : n ≡ 0 → Done b' (deed_of (view b) c) → handle_named no_code ≡ node_of (view b) c → (m : Made) → m ≡ refused_by 0 → Answered b c m.number m.node b'
  goes_bare z D k m r = subst (λ (x : Made). Answered b c x.number x.node b') (sym r) (goes z D no_code k)

pub fits : (b : List ℕ) → SoundWords b → (m n : ℕ) → n ≡ m → n ≡ 0 → Fit b × (m ≡ 0)
fits b W m n e z = (fit_of b W, sym e ∙ z)

-- ---- a length that may be grown is the unsigned number that it is; the number is asked of the length read again from 64 bits
pub grow_said : (b : List ℕ) (u : ℕ) {l : ℤ} {n : ℕ} → SFits w64 l → n ≡ first (grow_tests (view b) u (again l)) → n ≡ first (grow_tests (view b) u l)
grow_said b u {n = n} f e = subst (λ (x : ℤ). n ≡ first (grow_tests (view b) u x)) (to_z-of_z f) e

module _ (b : List ℕ) (W : SoundWords b) (u : ℕ) (l : ℤ) (f : SFits w64 l) (n : ℕ) (e : n ≡ first (grow_tests (view b) u l)) (z : n ≡ 0) where
  pub grows_on : Forward l (again l)
  grows_on = forward_of l f (grow_passed (view b) u l (sym e ∙ z)).forward

  pub grows_fit : Fit b × (first (grow_tests (view b) u (pos (nat_abs (again l)))) ≡ 0)
  grows_fit = (fit_of b W, subst (λ (x : ℤ). first (grow_tests (view b) u x) ≡ 0) grows_on.is (sym e ∙ z))

  pub grows_done : (b' : List ℕ) → Done b' (grow_by (view b) u (pos (nat_abs (again l)))) → Done b' (grow_by (view b) u l)
  grows_done b' D = subst (λ (x : ℤ). Done b' (grow_by (view b) u x)) (sym grows_on.is) D
