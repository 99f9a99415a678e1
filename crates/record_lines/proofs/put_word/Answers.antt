-- The number is read, and then written. Assumes nothing.
use native.Mathlib.Omega.{arith}
use Prim.Native.Nat.{ℕ}
use mathlib.Core.Path.{ap}
use mathlib.Core.List.{◌∷◌}
use lib.ListN.{length}
use Rattle.ledger_spec.specs.Decimals.{decimal}
use Rattle.text_decimals.proofs.Writes.{same_text}
use borrow.Author.Rules.{rules}
use Rattle.record_lines.proofs.put_word.Goals as goal

pub put_field-requires : goal.put_field-requires
put_field-requires c = omega (arith, c.requires.0, ap (λ (k : ℕ). length (decimal k)) c.four_at-n.ensures.0)

pub returns : goal.returns
returns c =
    same_text c.args.out.now c.args.at _ _ _ _ (ap (λ (k : ℕ). 32 ∷ decimal k) c.four_at-n.ensures.0) c.put_field.ensures
