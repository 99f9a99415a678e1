-- Each arm does what its line says. Assumes nothing.
use Rattle.std.specs.Prelude.{Some}
use mathlib.Core.Path.{◌≡◌, subst}
use borrow.Author.Rules.{rules}
use lib.IntN.{ℤ}
use mir.Syntax.{w64}
use mir.Val.{SFits}
use mir.Facts.{to_z-of_z}
use Rattle.ledger_spec.specs.Operations.{G}
use Rattle.text_lines.specs.declared.Line.TheVariants.{Defect, Blossom, Expand, SetState, Grow, Fuse, Clear, Check, Wrong}
use Rattle.text_calls.specs.Turned.{Turned}
use Rattle.text_calls.proofs.Turning.{turned_wrong}
use Rattle.text_calls.proofs.Reading.{turned_as, turned_serials}
use Rattle.text_calls.proofs.turn.Goals as goal

pub returns-in-Defect : goal.returns-in-Defect
returns-in-Defect c l before same is =
    let s = c.args in
    let q : s.line ≡ Defect c.in-Defect.unit c.in-Defect.vertex = cc in
    turned_as s.b.now c.defect.result _ l before s.serials.now s.line is _ q c.defect.ensures

pub returns-in-Blossom : goal.returns-in-Blossom
returns-in-Blossom c l before same is =
    let a = c.args in
    let q : a.line ≡ Blossom c.in-Blossom.unit c.in-Blossom.count = cc in
    turned_serials a.b.now c.blossom.result _ l before a.serials.now a.line is _ _ q c.requires.1 same c.blossom.ensures

pub returns-in-Expand : goal.returns-in-Expand
returns-in-Expand c l before same is =
    let s = c.args in
    let q : s.line ≡ Expand c.in-Expand.unit c.in-Expand.serial = cc in
    turned_as s.b.now c.expand.result _ l before s.serials.now s.line is _ q c.expand.ensures

pub returns-in-SetState : goal.returns-in-SetState
returns-in-SetState c l before same is =
    let s = c.args in
    let q : s.line ≡ SetState c.in-SetState.unit c.in-SetState.serial c.in-SetState.state = cc in
    turned_as s.b.now c.set_state.result _ l before s.serials.now s.line is _ q c.set_state.ensures

pub returns-in-Grow : goal.returns-in-Grow
returns-in-Grow c l before same is =
    let s = c.args in
    let u = c.in-Grow.unit in
    let z = c.in-Grow.length in
    let q : s.line ≡ Grow u z = cc in
    let ok : SFits w64 z = search rules in
    turned_as s.b.now c.grow.result c.grow.new.b l before s.serials.now s.line is (Grow u z) q
    (subst (λ (y : ℤ). Turned s.b.now (Some (G u y)) c.grow.result c.grow.new.b) (to_z-of_z {w = w64} ok) c.grow.ensures)

pub returns-in-Fuse : goal.returns-in-Fuse
returns-in-Fuse c l before same is =
    let s = c.args in
    let q : s.line ≡ Fuse c.in-Fuse.parent c.in-Fuse.left c.in-Fuse.right = cc in
    turned_as s.b.now c.fuse.result _ l before s.serials.now s.line is _ q c.fuse.ensures

pub returns-in-Clear : goal.returns-in-Clear
returns-in-Clear c l before same is =
    let s = c.args in
    let q : s.line ≡ Clear c.in-Clear.unit = cc in
    turned_as s.b.now c.clear.result _ l before s.serials.now s.line is _ q c.clear.ensures

pub returns-in-Check : goal.returns-in-Check
returns-in-Check c l before same is =
    let s = c.args in
    let q : s.line ≡ Check c.in-Check.unit = cc in
    turned_as s.b.now c.check.result _ l before s.serials.now s.line is _ q c.check.ensures

pub returns-in-Wrong : goal.returns-in-Wrong
returns-in-Wrong c l before same is =
    let a = c.args in
    let q : a.line ≡ Wrong = cc in
    turned_as a.b.now c.silent.result _ l before a.serials.now a.line is Wrong q (turned_wrong a.b.now c.requires.0 c.silent.result c.silent.ensures)
