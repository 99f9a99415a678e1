-- The same bench in an engine, and what leaves a bench with that bench in the engine. Assumes nothing.
use Rattle.std.specs.Prelude.{Bool}
use Rattle.ledger_spec.specs.Bench.{Bench}
use Rattle.ledger_spec.specs.Calls.{Reply}
use Rattle.ledger_spec.specs.Answers.{Answer}
use Rattle.ledger_spec.specs.Lines.{LineAnswer}
use Rattle.ledger_spec.specs.Book.{Book}
use Rattle.recorded_spec.specs.Recorded.{Steps}

-- all of a bench but its engine
abbrev pub in_engine : Bool → Bench → Bench
in_engine m b = record { next = b.next; interfaces = b.interfaces; plain = m }

-- a call's number and node; with its notices; a line's four numbers; what went; a growth's steps
abbrev pub reply_in : Bool → Reply → Reply
reply_in m r = record { number = r.number; bench = in_engine m r.bench; node = r.node }

abbrev pub answer_in : Bool → Answer → Answer
answer_in m a = record { number = a.number; node = a.node; notices = a.notices; bench = in_engine m a.bench }

abbrev pub line_in : Bool → LineAnswer → LineAnswer
line_in m a = record { numbers = a.numbers; bench = in_engine m a.bench }

abbrev pub book_in : Bool → Book → Book
book_in m k = record { bench = in_engine m k.bench; gone = k.gone }

abbrev pub steps_in : Bool → Steps → Steps
steps_in m s = record { number = s.number; lengths = s.lengths; bench = in_engine m s.bench }
