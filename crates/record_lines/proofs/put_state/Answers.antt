-- -1 for 255, and any other byte as it is. Assumes nothing.
use native.Mathlib.Omega.{arith}
use mathlib.Core.Path.{sym, ap}
use mathlib.Core.List.{List, ◌∷◌}
use Prim.Native.Nat.{ℕ}
use lib.ListN.{length}
use Rattle.text_decimals.proofs.Writes.{same_text}
use borrow.Author.Rules.{rules}
use Rattle.record_lines.proofs.Pieces.{state_minus, state_plain}
use Rattle.record_lines.proofs.put_state.Goals as goal

pub put_below-requires : goal.put_below-requires
put_below-requires c = omega (arith, c.requires, ap length (state_minus c.args.n c.if-n-eq255.true))

pub returns-then-n-eq255 : goal.returns-then-n-eq255
returns-then-n-eq255 c =
    same_text c.args.out.now c.args.at _ _ _ _ (ap (λ (l : List ℕ). 32 ∷ l) (sym (state_minus c.args.n c.if-n-eq255.true))) c.put_below.ensures

pub put_field-requires : goal.put_field-requires
put_field-requires c = omega (arith, c.requires, ap length (state_plain c.args.n c.if-n-eq255.false))

pub returns : goal.returns
returns c =
    same_text c.args.out.now c.args.at _ _ _ _ (ap (λ (l : List ℕ). 32 ∷ l) (sym (state_plain c.args.n c.if-n-eq255.false))) c.put_field.ensures
