-- The words are copied into the part that they take; where there are none, nothing changes. Assumes nothing.
use Rattle.std.proofs.Common.{◌≡◌, arith}
use Rattle.group_lent_extends.proofs.Copies.{copied_none, copied_part}
use Rattle.group_lent_extends.proofs.copy.Goals as goal

pub returns-then-k-eq0 : goal.returns-then-k-eq0
returns-then-k-eq0 c =
    let e : c.args.k ≡ 0 = omega arith in
    rw e (copied_none c.args.w.now c.args.at c.args.other.now c.args.from)

pub returns : goal.returns
returns c = copied_part c.args.w.now c.args.at c.args.other.now c.args.from c.args.k (omega arith) (omega arith) _ c.copy_from_slice.ensures.after
