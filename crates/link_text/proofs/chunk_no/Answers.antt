-- The two tests in turn. Assumes nothing.
use native.Mathlib.Omega.{arith}
use Rattle.link_text.proofs.Lending.{much_held, small, enough}
use Rattle.link_text.proofs.chunk_no.Goals as goal

pub returns-then-held-gt-HELD : goal.returns-then-held-gt-HELD
returns-then-held-gt-HELD c = let a = c.args in much_held a.held a.bytes a.room c.if-held-gt-HELD.true

pub returns-then-room-bytes : goal.returns-then-room-bytes
returns-then-room-bytes c = let a = c.args in small a.held a.bytes a.room (omega (arith, c.if-held-gt-HELD.false)) c.if-room-bytes.true

pub returns : goal.returns
returns c = let a = c.args in enough a.held a.bytes a.room (omega (arith, c.if-held-gt-HELD.false)) (omega (arith, c.if-room-bytes.false))
