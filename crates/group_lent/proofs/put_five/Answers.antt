-- The words are written one after the other, as the definition has it. Assumes nothing.
use Prim.Native.Nat.{suc, ◌+◌}
use mathlib.Core.Path.{◌≡◌}
use native.Mathlib.Omega.{arith}
use Rattle.group_lent.proofs.put_five.Goals as goal

pub returns : goal.returns
returns c =
    let at = c.args.at in
    let e : at + 1 ≡ suc at = omega arith in
    let f : at + 2 ≡ suc (suc at) = omega arith in
    let g : at + 3 ≡ suc (suc (suc at)) = omega arith in
    let h : at + 4 ≡ suc (suc (suc (suc at))) = omega arith in
    rw (e, f, g, h)
