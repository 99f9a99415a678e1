-- Each line in turn. Assumes nothing.
use mathlib.Core.Path.{◌≡◌, sym, ◌∙◌, ap}
use mir.Syntax.{w64}
use mir.Val.{SFits}
use mir.Facts.{to_z-of_z}
use Prim.Native.Nat.{ℕ}
use Rattle.text_lines.specs.declared.Line.TheVariants.{Defect, Blossom, Expand, SetState, Grow, Fuse, Clear, Check, Wrong}
use Rattle.record_spec.specs.Numbers.{complement}
use Rattle.record_gets.specs.Gets.{front_of}
use borrow.Author.Rules.{rules}
use Rattle.record_gets.proofs.words.front_of.Goals as goal

pub returns-in-Defect : goal.returns-in-Defect
returns-in-Defect c =
    let q : c.args.line ≡ Defect c.in-Defect.unit c.in-Defect.vertex = cc in
    c.three.ensures ∙ sym (ap front_of q)

pub returns-in-Blossom : goal.returns-in-Blossom
returns-in-Blossom c =
    let q : c.args.line ≡ Blossom c.in-Blossom.unit c.in-Blossom.count = cc in
    c.three-in-Blossom.ensures ∙ sym (ap front_of q)

pub returns-in-Expand : goal.returns-in-Expand
returns-in-Expand c =
    let q : c.args.line ≡ Expand c.in-Expand.unit c.in-Expand.serial = cc in
    c.three-in-Expand.ensures ∙ sym (ap front_of q)

pub returns-in-SetState : goal.returns-in-SetState
returns-in-SetState c =
    let q : c.args.line ≡ SetState c.in-SetState.unit c.in-SetState.serial c.in-SetState.state = cc in
    c.four.ensures ∙ ap (λ (n : ℕ). record { many = 4; letter = 83; unit = c.in-SetState.unit; third = c.in-SetState.serial.0; fourth = n; members = 0 }) c.state_word.ensures ∙ sym (ap front_of q)

pub returns-in-Grow : goal.returns-in-Grow
returns-in-Grow c =
    let ok : SFits w64 c.in-Grow.length = search rules in
    let q : c.args.line ≡ Grow c.in-Grow.unit c.in-Grow.length = cc in
    c.three-in-Grow.ensures ∙ ap (λ (n : ℕ). record { many = 3; letter = 71; unit = c.in-Grow.unit; third = n; fourth = 0; members = 0 }) (c.complement_of.ensures ∙ ap complement (to_z-of_z {w = w64} ok)) ∙ sym (ap front_of q)

pub returns-in-Fuse : goal.returns-in-Fuse
returns-in-Fuse c =
    let q : c.args.line ≡ Fuse c.in-Fuse.parent c.in-Fuse.left c.in-Fuse.right = cc in
    c.four-in-Fuse.ensures ∙ sym (ap front_of q)

pub returns-in-Clear : goal.returns-in-Clear
returns-in-Clear c = let q : c.args.line ≡ Clear c.in-Clear.unit = cc in c.two.ensures ∙ sym (ap front_of q)

pub returns-in-Check : goal.returns-in-Check
returns-in-Check c = let q : c.args.line ≡ Check c.in-Check.unit = cc in c.two-in-Check.ensures ∙ sym (ap front_of q)

pub returns-in-Wrong : goal.returns-in-Wrong
returns-in-Wrong c = let q : c.args.line ≡ Wrong = cc in c.two-in-Wrong.ensures ∙ sym (ap front_of q)
