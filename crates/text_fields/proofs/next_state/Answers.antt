-- A state is a signed number that is 1, 0 or -1. Assumes nothing.
use Rattle.std.specs.Prelude.{None, Some}
use mathlib.Core.Path.{◌≡◌}
use mir.Syntax.{w64}
use mir.Val.{SFits}
use mir.Facts.{to_z-of_z}
use Rattle.text_fields.specs.Places.{from}
use Rattle.text_fields.proofs.States.{state_some, state_none}
use borrow.Author.Rules.{rules}
use Rattle.text_fields.proofs.next_state.Goals as goal

pub returns-in_err-z : goal.returns-in_err-z
returns-in_err-z c =
    let q : c.next_length.result ≡ None = search rules in
    let w : c.from_residual.result ≡ None = search rules in
    rw w (state_none c.args.s.now (from c.args.s.now c.args.place) c.next_length.result c.next_length.ensures q)

pub returns : goal.returns
returns c =
    let q : c.next_length.result ≡ Some (c.in_ok-z.z, c.in_ok-z.e) = search rules in
    let ok : SFits w64 c.in_ok-z.z = search rules in
    state_some c.args.s.now (from c.args.s.now c.args.place) c.next_length.result c.next_length.ensures _ _ c.state_at.result q (rw (to_z-of_z {w = w64} ok) at c.state_at.ensures)
