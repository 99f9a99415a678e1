-- What a call on sound words answers, and the words after it: the plain ledger's own answer. Assumes nothing.
use Rattle.std.specs.Prelude.{ℕ, ◌≡◌, true, List}
use Rattle.kinds.specs.declared.Handle.{Handle}
use Rattle.ledger_spec.specs.Calls.{Call}
use Rattle.ledger_spec.specs.Answers.{answer}
use Rattle.ledger_spec.specs.Named.{handle_named}
use Rattle.bench_views.specs.View.{view}
use Rattle.outcomes.specs.Outcome.{Outcome}

-- the number n, the node h and the words b' are what call c on words b comes to
abbrev pub Answered : List ℕ → Call → ℕ → Handle → List ℕ → Type 0
Answered b c n h b' = Outcome true b c n b' × (handle_named h ≡ (answer (view b) c).node)
