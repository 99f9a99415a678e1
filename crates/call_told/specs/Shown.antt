-- The plain ledger's answer as the value that the code gives. Assumes nothing.
use Rattle.std.specs.Prelude.{ℕ, []}
use Rattle.kinds.specs.Names.{no_code}
use Rattle.ledger_spec.specs.Answers.{Answer as Plain}
use Rattle.outcome_notices.specs.Laid.{packed, laid}
use Rattle.call_told.specs.declared.Answer.{Answer}

abbrev pub shown : Plain → Answer
shown a = record { number = a.number; node = packed a.node; notices = laid a.notices }

-- neither a node nor a notice
abbrev pub refused_by : ℕ → Answer
refused_by n = record { number = n; node = no_code; notices = laid [] }
