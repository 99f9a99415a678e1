-- A length below 0 is a minus and its size. Assumes nothing.
use native.Mathlib.Omega.{arith}
use mathlib.Core.Path.{sym, ap}
use mathlib.Core.List.{List, ◌∷◌}
use Prim.Native.Nat.{ℕ}
use lib.ListN.{length}
use Rattle.text_decimals.proofs.Writes.{same_text}
use Rattle.record_measures.proofs.Counts.{above}
use borrow.Author.Rules.{rules}
use Rattle.record_lines.proofs.put_length.Goals as goal

pub put_field-requires : goal.put_field-requires
put_field-requires c = omega (arith, c.requires, ap length (above c.args.n c.if-n-lt9223372036854775808.true))

pub returns-then-n-lt9223372036854775808 : goal.returns-then-n-lt9223372036854775808
returns-then-n-lt9223372036854775808 c =
    same_text c.args.out.now c.args.at _ _ _ _ (ap (λ (l : List ℕ). 32 ∷ l) (sym (above c.args.n c.if-n-lt9223372036854775808.true))) c.put_field.ensures

pub put_below-requires : goal.put_below-requires
put_below-requires c = omega (arith, c.requires, ap length c.size_below-m.ensures)

pub returns : goal.returns
returns c =
    same_text c.args.out.now c.args.at _ _ _ _ (ap (λ (l : List ℕ). 32 ∷ l) (sym c.size_below-m.ensures)) c.put_below.ensures
