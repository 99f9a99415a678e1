-- The match goes as the definition does. Assumes nothing.
use native.Mathlib.Omega.{arith}
use Prim.Native.Nat.{ℕ}
use mathlib.Core.Path.{sym, ap}
use mathlib.Core.List.{List}
use lib.ListN.{length}
use lib.Seq.{sets}
use Rattle.text_decimals.proofs.Writes.{same_text}
use Rattle.record_lines.specs.Lines.{tail}
use borrow.Author.Rules.{rules}
use Rattle.record_lines.proofs.Pieces.{fields-D, fields-B, fields-E, fields-S, fields-G, fields-F, fields_none, text-D, text-E, text-B, text-S, text-G, text-F}
use Rattle.record_lines.proofs.put_fields.Goals as goal

pub put_word-requires : goal.put_word-requires
put_word-requires c =
    let a = c.args in
    let e = c.in-68.is in
    (omega (arith, c.requires.0, ap length (text-D a.letter a.t.now a.q e)), omega (arith, c.requires.1, (fields-D a.letter a.t.now a.q e).1))

pub put_word-requires-in-69 : goal.put_word-requires-in-69
put_word-requires-in-69 c =
    let a = c.args in
    let e = c.in-69.is in
    (omega (arith, c.requires.0, ap length (text-E a.letter a.t.now a.q e)), omega (arith, c.requires.1, (fields-E a.letter a.t.now a.q e).1))

pub two_at-n-requires : goal.two_at-n-requires
two_at-n-requires c = let a = c.args in omega (arith, c.requires.1, (fields-B a.letter a.t.now a.q c.in-66.is).1)

pub put_serials-requires : goal.put_serials-requires
put_serials-requires c =
    let a = c.args in
    let e = c.in-66.is in
    let n = c.two_at-n in
    (omega (arith, c.requires.0, ap length (text-B a.letter a.t.now a.q e n.result n.ensures.0)), omega (arith, c.requires.1, (fields-B a.letter a.t.now a.q e).1, n.ensures.0))

pub four_at-n-requires : goal.four_at-n-requires
four_at-n-requires c = let a = c.args in omega (arith, c.requires.1, (fields-S a.letter a.t.now a.q c.in-83.is).1)

pub byte_at-g-requires : goal.byte_at-g-requires
byte_at-g-requires c = let a = c.args in omega (arith, c.requires.1, (fields-S a.letter a.t.now a.q c.in-83.is).1)

pub put_serial_state-requires : goal.put_serial_state-requires
put_serial_state-requires c =
    omega (arith, c.requires.0, ap length (text-S c.args.letter c.args.t.now c.args.q c.in-83.is c.four_at-n.result c.byte_at-g.result c.four_at-n.ensures.0 c.byte_at-g.ensures.0))

pub eight_at-n-requires : goal.eight_at-n-requires
eight_at-n-requires c = let a = c.args in omega (arith, c.requires.1, (fields-G a.letter a.t.now a.q c.in-71.is).1)

pub put_length-requires : goal.put_length-requires
put_length-requires c =
    let a = c.args in
    omega (arith, c.requires.0, ap length (text-G a.letter a.t.now a.q c.in-71.is c.eight_at-n.result c.eight_at-n.ensures.0))

pub byte_at-left-requires : goal.byte_at-left-requires
byte_at-left-requires c = let a = c.args in omega (arith, c.requires.1, (fields-F a.letter a.t.now a.q c.in-70.is).1)

pub byte_at-right-requires : goal.byte_at-right-requires
byte_at-right-requires c = let a = c.args in omega (arith, c.requires.1, (fields-F a.letter a.t.now a.q c.in-70.is).1)

pub put_halves-requires : goal.put_halves-requires
put_halves-requires c =
    omega (arith, c.requires.0, ap length (text-F c.args.letter c.args.t.now c.args.q c.in-70.is c.byte_at-left.result c.byte_at-right.result c.byte_at-left.ensures.0 c.byte_at-right.ensures.0))

pub returns-in-68 : goal.returns-in-68
returns-in-68 c =
    let a = c.args in
    same_text a.out.now a.at _ _ _ _ (text-D a.letter a.t.now a.q c.in-68.is) c.put_word.ensures

pub returns-in-69 : goal.returns-in-69
returns-in-69 c =
    let a = c.args in
    same_text a.out.now a.at _ _ _ _ (text-E a.letter a.t.now a.q c.in-69.is) c.put_word-in-69.ensures

pub returns-in-66 : goal.returns-in-66
returns-in-66 c =
    let a = c.args in
    same_text a.out.now a.at _ _ _ _ (text-B a.letter a.t.now a.q c.in-66.is c.two_at-n.result c.two_at-n.ensures.0) c.put_serials.ensures

pub returns-in-83 : goal.returns-in-83
returns-in-83 c =
    same_text c.args.out.now c.args.at _ _ _ _ (text-S c.args.letter c.args.t.now c.args.q c.in-83.is c.four_at-n.result c.byte_at-g.result c.four_at-n.ensures.0 c.byte_at-g.ensures.0) c.put_serial_state.ensures

pub returns-in-71 : goal.returns-in-71
returns-in-71 c =
    let a = c.args in
    same_text a.out.now a.at _ _ _ _ (text-G a.letter a.t.now a.q c.in-71.is c.eight_at-n.result c.eight_at-n.ensures.0) c.put_length.ensures

pub returns-in-70 : goal.returns-in-70
returns-in-70 c =
    same_text c.args.out.now c.args.at _ _ _ _ (text-F c.args.letter c.args.t.now c.args.q c.in-70.is c.byte_at-left.result c.byte_at-right.result c.byte_at-left.ensures.0 c.byte_at-right.ensures.0) c.put_halves.ensures

pub returns-in_default : goal.returns-in_default
unfolding tail
returns-in_default c =
    let a = c.args in
    let m = c.in_default.in_default-own.rest in
    let e = ap tail (fields_none a.letter a.t.now a.q m.0.0.0.0.0.1 m.0.0.0.1 m.0.0.0.0.1 m.0.0.1 m.0.1 m.1).0 in
    record { next = omega (arith, ap length e); stands = ap (λ (l : List ℕ). sets a.out.now a.at l) (sym e) }
