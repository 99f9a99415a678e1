-- The slices keep their lengths and the bench stays sound. Assumes nothing.
use Rattle.text_console.proofs.Serving.{Serving}
use Rattle.text_console.proofs.serve.Given as goal

abbrev pub invariant-loop : goal.invariant-loop
invariant-loop g l =
    Serving l.initial.piece l.initial.buf l.initial.serials l.initial.out l.b l.piece l.buf l.held l.serials l.out
