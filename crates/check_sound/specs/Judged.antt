-- What a check's answer says, in the ledger's terms, plainly or strictly by a flag. Assumes nothing.
use Rattle.std.specs.Prelude.{ℕ, ◌≡◌, Bool, true, false, List}
use Rattle.ledger_spec.specs.Bench.{Bench}
use Rattle.ledger_spec.specs.Tests.{first}
use Rattle.ledger_spec.specs.Refuse.{unit_tests}
use Rattle.ledger_spec.specs.Reads.{said}
use Rattle.ledger_spec.specs.Check.{verdict, strict_verdict}
use Rattle.bench_views.specs.View.{view}
use Rattle.check_walks.specs.declared.Judged.{Judged}
use Rattle.check_sound.specs.declared.Checked.{Checked}

abbrev pub shown_check : Checked → ℕ × (ℕ × ℕ)
shown_check r = (r.number, (r.verdict, r.index.0))

unfoldable pub verdict_by : Bool → Bench → ℕ → ℕ × ℕ
verdict_by true b u = strict_verdict b u
verdict_by false b u = verdict b u

abbrev pub judged_by : Bool → Bench → ℕ → ℕ × (ℕ × ℕ)
judged_by s b u = said (first (unit_tests b u)) (verdict_by s b u) (0, 0)

abbrev pub Judges : List ℕ → ℕ → Bool → Judged → Type 0
Judges b unit s r = (r.verdict, r.index.0) ≡ verdict_by s (view b) unit
