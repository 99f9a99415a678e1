-- Each arm writes the record of its line. Assumes nothing.
use native.Mathlib.Omega.{arith}
use mathlib.Core.Path.{◌≡◌, refl, sym, ◌∙◌, ap}
use mathlib.Core.List.{◌++◌}
use lib.IntN.{ℤ}
use lib.ListN.{length, take}
use lib.Seq.{length-take-le}
use mir.Syntax.{w64}
use mir.Val.{SFits}
use mir.Facts.{to_z-of_z}
use Rattle.ledger_spec.specs.Named.{state_named}
use Rattle.text_lines.specs.declared.Line.{Line}
use Rattle.text_lines.specs.declared.Line.TheVariants.{Defect, Blossom, Expand, SetState, Grow, Fuse, Clear, Check, Wrong}
use Rattle.text_decimals.proofs.Writes.{same_text}
use Rattle.record_spec.specs.Numbers.{bytes, complement}
use Rattle.record_puts.specs.Puts.{record_by, head_of, count_by}
use Rattle.record_puts.proofs.Putting.{long-D, long-E, long-S, long-G, long-F, long-C, long-K, long-B, four-D, four-E, parts-S, parts-G, parts-F, head-C, head-K, parts-B}
use borrow.Author.Rules.{rules}
use Rattle.record_puts.proofs.put_record.Goals as goal

pub put_four_after-requires : goal.put_four_after-requires
put_four_after-requires c =
    let q : c.args.line ≡ Defect c.in-Defect.unit c.in-Defect.vertex = cc in
    omega (arith, c.requires.room, ap (λ (x : Line). length (record_by x c.args.serials.now)) q, long-D c.in-Defect.unit c.in-Defect.vertex.0)

pub put_blossom-requires : goal.put_blossom-requires
put_blossom-requires c =
    let q : c.args.line ≡ Blossom c.in-Blossom.unit c.in-Blossom.count = cc in
    let k = length-take-le c.in-Blossom.count c.args.serials.now (omega (arith, c.requires.stored, ap count_by q)) in
    (omega (arith, c.requires.room, ap (λ (x : Line). length (record_by x c.args.serials.now)) q, long-B c.in-Blossom.unit (take c.in-Blossom.count c.args.serials.now), k), omega (arith, c.requires.stored, ap count_by q))

pub put_four_after-requires-in-Expand : goal.put_four_after-requires-in-Expand
put_four_after-requires-in-Expand c =
    let q : c.args.line ≡ Expand c.in-Expand.unit c.in-Expand.serial = cc in
    omega (arith, c.requires.room, ap (λ (x : Line). length (record_by x c.args.serials.now)) q, long-E c.in-Expand.unit c.in-Expand.serial.0)

pub put_state-requires : goal.put_state-requires
put_state-requires c =
    let q : c.args.line ≡ SetState c.in-SetState.unit c.in-SetState.serial c.in-SetState.state = cc in
    omega (arith, c.requires.room, ap (λ (x : Line). length (record_by x c.args.serials.now)) q, long-S c.in-SetState.unit c.in-SetState.serial.0 (state_named c.in-SetState.state))

pub put_length-requires : goal.put_length-requires
put_length-requires c =
    let q : c.args.line ≡ Grow c.in-Grow.unit c.in-Grow.length = cc in
    omega (arith, c.requires.room, ap (λ (x : Line). length (record_by x c.args.serials.now)) q, long-G c.in-Grow.unit c.in-Grow.length)

pub put_fuse-requires : goal.put_fuse-requires
put_fuse-requires c =
    let q : c.args.line ≡ Fuse c.in-Fuse.parent c.in-Fuse.left c.in-Fuse.right = cc in
    omega (arith, c.requires.room, ap (λ (x : Line). length (record_by x c.args.serials.now)) q, long-F c.in-Fuse.parent c.in-Fuse.left c.in-Fuse.right)

pub put_head-requires : goal.put_head-requires
put_head-requires c =
    let q : c.args.line ≡ Clear c.in-Clear.unit = cc in
    omega (arith, c.requires.room, ap (λ (x : Line). length (record_by x c.args.serials.now)) q, long-C c.in-Clear.unit)

pub put_head-requires-in-Check : goal.put_head-requires-in-Check
put_head-requires-in-Check c =
    let q : c.args.line ≡ Check c.in-Check.unit = cc in
    omega (arith, c.requires.room, ap (λ (x : Line). length (record_by x c.args.serials.now)) q, long-K c.in-Check.unit)

pub returns-in-Defect : goal.returns-in-Defect
returns-in-Defect c =
    let q : c.args.line ≡ Defect c.in-Defect.unit c.in-Defect.vertex = cc in
    same_text c.args.out.now c.args.at _ _ _ _ (four-D c.in-Defect.unit c.in-Defect.vertex.0 ∙ sym (ap (λ (x : Line). record_by x c.args.serials.now) q)) c.put_four_after.ensures

pub returns-in-Blossom : goal.returns-in-Blossom
returns-in-Blossom c =
    let q : c.args.line ≡ Blossom c.in-Blossom.unit c.in-Blossom.count = cc in
    let k = length-take-le c.in-Blossom.count c.args.serials.now (omega (arith, c.requires.stored, ap count_by q)) in
    same_text c.args.out.now c.args.at _ _ _ _ (parts-B c.in-Blossom.unit c.in-Blossom.count (take c.in-Blossom.count c.args.serials.now) k ∙ sym (ap (λ (x : Line). record_by x c.args.serials.now) q)) c.put_blossom.ensures

pub returns-in-Expand : goal.returns-in-Expand
returns-in-Expand c =
    let q : c.args.line ≡ Expand c.in-Expand.unit c.in-Expand.serial = cc in
    same_text c.args.out.now c.args.at _ _ _ _ (four-E c.in-Expand.unit c.in-Expand.serial.0 ∙ sym (ap (λ (x : Line). record_by x c.args.serials.now) q)) c.put_four_after-in-Expand.ensures

pub returns-in-SetState : goal.returns-in-SetState
returns-in-SetState c =
    let q : c.args.line ≡ SetState c.in-SetState.unit c.in-SetState.serial c.in-SetState.state = cc in
    same_text c.args.out.now c.args.at _ _ _ _ (parts-S c.in-SetState.unit c.in-SetState.serial.0 (state_named c.in-SetState.state) ∙ sym (ap (λ (x : Line). record_by x c.args.serials.now) q)) c.put_state.ensures

pub returns-in-Grow : goal.returns-in-Grow
returns-in-Grow c =
    let q : c.args.line ≡ Grow c.in-Grow.unit c.in-Grow.length = cc in
    let ok : SFits w64 c.in-Grow.length = search rules in
    same_text c.args.out.now c.args.at _ _ _ _ (ap (λ (y : ℤ). head_of 71 c.in-Grow.unit ++ bytes 8 (complement y)) (to_z-of_z {w = w64} ok) ∙ parts-G c.in-Grow.unit c.in-Grow.length ∙ sym (ap (λ (x : Line). record_by x c.args.serials.now) q)) c.put_length.ensures

pub returns-in-Fuse : goal.returns-in-Fuse
returns-in-Fuse c =
    let q : c.args.line ≡ Fuse c.in-Fuse.parent c.in-Fuse.left c.in-Fuse.right = cc in
    same_text c.args.out.now c.args.at _ _ _ _ (parts-F c.in-Fuse.parent c.in-Fuse.left c.in-Fuse.right ∙ sym (ap (λ (x : Line). record_by x c.args.serials.now) q)) c.put_fuse.ensures

pub returns-in-Clear : goal.returns-in-Clear
returns-in-Clear c =
    let q : c.args.line ≡ Clear c.in-Clear.unit = cc in
    same_text c.args.out.now c.args.at _ _ _ _ (head-C c.in-Clear.unit ∙ sym (ap (λ (x : Line). record_by x c.args.serials.now) q)) c.put_head.ensures

pub returns-in-Check : goal.returns-in-Check
returns-in-Check c =
    let q : c.args.line ≡ Check c.in-Check.unit = cc in
    same_text c.args.out.now c.args.at _ _ _ _ (head-K c.in-Check.unit ∙ sym (ap (λ (x : Line). record_by x c.args.serials.now) q)) c.put_head-in-Check.ensures

pub returns-in-Wrong : goal.returns-in-Wrong
returns-in-Wrong c =
    let q : c.args.line ≡ Wrong = cc in
    same_text c.args.out.now c.args.at _ _ _ _ (sym (ap (λ (x : Line). record_by x c.args.serials.now) q)) (record { next = omega arith; stands = refl })
