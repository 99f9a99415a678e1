-- No value below zero, of the stored words: after any run of the public calls from set-up. Assumes nothing.
use Rattle.std.specs.Prelude.{Some}
use Prim.Native.Nat.{ℕ}
use mathlib.Core.Path.{◌≡◌, sym, ◌∙◌, ap}
use mathlib.Core.Bool.{true}
use mathlib.Core.List.{List}
use lib.IntN.{pos}
use lib.Signed.{le_z}
use Rattle.ledger_spec.specs.Bench.{Node}
use Rattle.ledger_spec.specs.Look.{slot_of}
use Rattle.ledger_spec.specs.Tests.{floored}
use Rattle.ledger_spec.specs.Sound.{afloat}
use Rattle.ledger_spec.specs.Calls.{Call}
use Rattle.ledger_spec.proofs.Says.{says}
use Rattle.bench_views.specs.View.{view}
use Rattle.call_set_up.specs.Opened.{Opened}
use Rattle.call_told.specs.declared.Answer.{Answer}
use Rattle.run_laws.specs.Ran.{Ran}
use Rattle.run_laws.proofs.Running.{from_set_up}

module _ {n : ℕ} {b : List ℕ} (O : Opened n b) {cs : List Call} {rs : List Answer} {b' : List ℕ} (R : Ran b cs rs b') where
  -- a present node of a floored interface
  pub words_afloat : (u s : ℕ) (m : Node) → floored (view b') u ≡ true → slot_of (view b') u s ≡ Some m → le_z (pos 0) m.value ≡ true
  words_afloat u s m f e = ap afloat (sym e) ∙ (says (view b') (from_set_up O R).words.sound).floors.values u s f
