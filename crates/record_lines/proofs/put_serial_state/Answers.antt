-- One field after the other. Assumes nothing.
use native.Mathlib.Omega.{arith}
use mathlib.Core.Path.{sym, ap}
use mathlib.Core.List.{◌∷◌}
use lib.ListN.{length, length-append}
use Rattle.ledger_spec.specs.Decimals.{decimal}
use Rattle.text_decimals.proofs.Writes.{chain, same_text}
use Rattle.record_lines.specs.Lines.{state_text}
use borrow.Author.Rules.{rules}
use Rattle.record_lines.proofs.Pieces.{tail_two}
use Rattle.record_lines.proofs.put_serial_state.Goals as goal

pub put_field-p-requires : goal.put_field-p-requires
put_field-p-requires c =
    let a = c.args in
    let f = decimal a.serial in
    let g = state_text a.state in
    omega (arith, c.requires, ap length (tail_two f g), length-append (32 ∷ f) (32 ∷ g))

pub put_state-requires : goal.put_state-requires
put_state-requires c =
    let f = decimal c.args.serial in
    let g = state_text c.args.state in
    omega (arith, c.requires, ap length (tail_two f g), length-append (32 ∷ f) (32 ∷ g), c.put_field-p.ensures.next, c.put_field-p.auto.out)

pub returns : goal.returns
returns c =
    let f = decimal c.args.serial in
    let g = state_text c.args.state in
    same_text c.args.out.now c.args.at _ _ _ _ (sym (tail_two f g)) (chain c.args.out.now c.args.at (32 ∷ f) _ _ (32 ∷ g) _ _ c.put_field-p.ensures c.put_state.ensures)
