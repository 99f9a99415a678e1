-- The head, the count, and then the members. Assumes nothing.
use native.Mathlib.Omega.{arith}
use mathlib.Core.List.{◌++◌, map}
use lib.ListN.{take}
use Rattle.text_decimals.proofs.Writes.{chain}
use Rattle.record_spec.specs.Numbers.{bytes}
use Rattle.record_spec.specs.Operations.{itself}
use Rattle.record_spec.specs.Records.{member_fields, spelled}
use Rattle.record_spec.proofs.Numbers.{length_bytes}
use Rattle.record_puts.specs.Puts.{head_of}
use Rattle.record_puts.proofs.Putting.{head_long}
use borrow.Author.Rules.{rules}
use Rattle.record_puts.proofs.put_blossom.Goals as goal

pub put_two-q-requires : goal.put_two-q-requires
put_two-q-requires c =
    omega (arith, c.put_head-p.ensures.next, c.put_head-p.auto.out, head_long 66 c.args.unit, c.requires.0)

pub put_members-requires : goal.put_members-requires
put_members-requires c =
    (omega (arith, c.put_head-p.ensures.next, c.put_head-p.auto.out, head_long 66 c.args.unit, c.put_two-q.ensures.next, c.put_two-q.auto.out, length_bytes 2 c.args.count, c.requires.0), c.requires.1)

pub returns : goal.returns
returns c =
    let ms = spelled (member_fields (map itself (take c.args.count c.args.serials.now))) in
    chain c.args.out.now c.args.at (head_of 66 c.args.unit ++ bytes 2 c.args.count) _ _ ms _ _ (chain c.args.out.now c.args.at (head_of 66 c.args.unit) _ _ (bytes 2 c.args.count) _ _ c.put_head-p.ensures c.put_two-q.ensures) c.put_members.ensures
