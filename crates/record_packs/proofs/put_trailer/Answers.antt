-- Four numbers, one after the other. Assumes nothing.
use native.Mathlib.Omega.{arith}
use Prim.Native.Nat.{◌+◌, ◌*◌}
use mathlib.Core.List.{◌++◌}
use Rattle.text_decimals.proofs.Writes.{chain, same_text}
use Rattle.record_spec.specs.Numbers.{bytes}
use Rattle.record_spec.specs.Files.{mark}
use Rattle.record_spec.proofs.Numbers.{length_bytes}
use Rattle.record_packs.proofs.Moving.{trailer_parts}
use borrow.Author.Rules.{rules}
use Rattle.record_packs.proofs.put_trailer.Goals as goal

pub put_four-q-requires : goal.put_four-q-requires
put_four-q-requires c =
    omega (arith, c.put_four-p.ensures.next, c.put_four-p.auto.out, length_bytes 4 c.args.start, c.requires.0)

pub put_four-r-requires : goal.put_four-r-requires
put_four-r-requires c =
    omega (arith, c.put_four-p.ensures.next, c.put_four-p.auto.out, length_bytes 4 c.args.start, c.put_four-q.ensures.next, c.put_four-q.auto.out, length_bytes 4 c.args.count, c.requires.0)

pub put_four-requires : goal.put_four-requires
put_four-requires c =
    omega (arith, c.put_four-p.ensures.next, c.put_four-p.auto.out, length_bytes 4 c.args.start, c.put_four-q.ensures.next, c.put_four-q.auto.out, length_bytes 4 c.args.count, c.put_four-r.ensures.next, c.put_four-r.auto.out, length_bytes 4 (c.args.start + 4 * c.args.count), c.requires.0)

pub returns : goal.returns
returns c =
    let one = bytes 4 c.args.start in
    let two = bytes 4 c.args.count in
    let three = bytes 4 (c.args.start + 4 * c.args.count) in
    let x = chain c.args.out.now c.args.at one _ _ two _ _ c.put_four-p.ensures c.put_four-q.ensures in
    let y = chain c.args.out.now c.args.at (one ++ two) _ _ three _ _ x c.put_four-r.ensures in
    same_text c.args.out.now c.args.at _ _ _ _ (trailer_parts c.args.start c.args.count) (chain c.args.out.now c.args.at ((one ++ two) ++ three) _ _ (bytes 4 mark) _ _ y c.put_four.ensures)
