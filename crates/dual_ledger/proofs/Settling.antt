-- One call said in two ways: numbers with a sign are read again from their bits. Assumes nothing.
use Prim.Native.Nat.{ℕ}
use mathlib.Core.Path.{◌≡◌, ap, ◌∙◌}
use lib.IntN.{ℤ}
use mir.Syntax.{w8, w64}
use mir.Val.{SFits, to_z, of_z}
use mir.Facts.{to_z-of_z}
use Rattle.ledger_spec.specs.Bench as plain
use Rattle.ledger_spec.specs.Calls.{SetState, Grow}
use Rattle.link_answers.specs.Forms.{state_given}

pub same_state : (u : ℕ) {h g : plain.Handle} {s : plain.State} {z : ℤ} → h ≡ g → SFits w8 z → s ≡ state_given (to_z w8 (of_z w8 z)) → SetState u h s ≡ SetState u g (state_given z)
same_state u {z = z} e f k = let t = k ∙ ap state_given (to_z-of_z f) in λ i. SetState u (e i) (t i)

pub same_length : (u : ℕ) {l : ℤ} → SFits w64 l → Grow u (to_z w64 (of_z w64 l)) ≡ Grow u l
same_length u f = ap (Grow u) (to_z-of_z f)
