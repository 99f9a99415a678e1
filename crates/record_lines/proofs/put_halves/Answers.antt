-- One field after the other. Assumes nothing.
use native.Mathlib.Omega.{arith}
use mathlib.Core.Path.{sym, ap}
use mathlib.Core.List.{◌∷◌}
use lib.ListN.{length, length-append}
use Rattle.ledger_spec.specs.Decimals.{decimal}
use Rattle.text_decimals.proofs.Writes.{chain, same_text}
use borrow.Author.Rules.{rules}
use Rattle.record_lines.proofs.Pieces.{tail_two}
use Rattle.record_lines.proofs.put_halves.Goals as goal

pub put_field-p-requires : goal.put_field-p-requires
put_field-p-requires c =
    let a = c.args in
    let f = decimal a.left in
    let g = decimal a.right in
    omega (arith, c.requires, ap length (tail_two f g), length-append (32 ∷ f) (32 ∷ g))

pub put_field-requires : goal.put_field-requires
put_field-requires c =
    let f = decimal c.args.left in
    let g = decimal c.args.right in
    omega (arith, c.requires, ap length (tail_two f g), length-append (32 ∷ f) (32 ∷ g), c.put_field-p.ensures.next, c.put_field-p.auto.out)

pub returns : goal.returns
returns c =
    let f = decimal c.args.left in
    let g = decimal c.args.right in
    same_text c.args.out.now c.args.at _ _ _ _ (sym (tail_two f g)) (chain c.args.out.now c.args.at (32 ∷ f) _ _ (32 ∷ g) _ _ c.put_field-p.ensures c.put_field.ensures)
