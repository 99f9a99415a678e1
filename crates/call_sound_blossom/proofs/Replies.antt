-- The number and the work give the plain ledger's own reply. Assumes nothing.
use Prim.Native.Nat.{ℕ}
use mathlib.Core.Path.{◌≡◌, refl, sym, ◌∙◌, subst}
use mathlib.Core.Logic.{◌≢◌}
use mathlib.Core.List.{List}
use Rattle.kinds.specs.declared.Handle.{Handle}
use Rattle.ledger_spec.specs.Tests.{first}
use Rattle.ledger_spec.specs.Refuse.{blossom_tests}
use Rattle.ledger_spec.specs.Deeds.{new_handle, add_blossom}
use Rattle.ledger_spec.specs.Calls.{Call, Blossom}
use Rattle.ledger_spec.specs.Named.{handle_named}
use Rattle.ledger_laws.proofs.Answered.{tests_of, deed_of, node_of}
use Rattle.bench_views.specs.View.{view}
use Rattle.bench_views.specs.Fit.{SoundWords, Done}
use Rattle.deed_circles.specs.Given.{hands_given, pairs_given}
use Rattle.outcomes.specs.declared.Made.{Made}
use Rattle.outcomes.specs.Answered.{Answered}
use Rattle.outcomes.specs.Refused.{refused_by}
use Rattle.outcomes.proofs.Answers.{did, refused}

module _ (b : List ℕ) (W : SoundWords b) (u : ℕ) (ms ts : List ℕ) (n : ℕ) (e : n ≡ first (blossom_tests (view b) u (hands_given ms) (pairs_given ts))) where
  abbrev call : Call
  call = Blossom u (hands_given ms) (pairs_given ts)

  pub reply_refused : n ≢ 0 → (r : Made) → r ≡ refused_by n → Answered b call r.number r.node b
  unfolding tests_of
  reply_refused q r f = subst (λ (x : Made). Answered b call x.number x.node b) (sym f) (refused b call W b n q e refl)

  pub reply_done : n ≡ 0 → (b' : List ℕ) (h : Handle) → Done b' (add_blossom (view b) u (hands_given ms) (pairs_given ts)) → handle_named h ≡ new_handle (view b) u → Answered b call 0 h b'
  unfolding tests_of deed_of node_of
  reply_done z b' h D f = did b call W b' h (sym e ∙ z) D f
