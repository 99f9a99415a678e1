-- A member is present: a defect by its own handle, a blossom by both touching ones. Assumes nothing.
use mathlib.Core.Path.{◌≡◌, ap₂, ◌∙◌}
use Rattle.kinds.specs.declared.Class.TheVariants.{Absent, Blossom, Defect}
use Rattle.ledger_spec.specs.Named.{handle_named}
use Rattle.bench_vertices.proofs.Circling.{never}
use Rattle.check_circles.specs.Found.{larger}
use Rattle.check_circles.proofs.Standing.{stands_defect, stands_ring}
use Rattle.check_circles.proofs.member_verdict.Goals as goal

pub returns-in-Absent : goal.returns-in-Absent
returns-in-Absent c =
    let n = c.load_node-n in
    let q : n.result.class ≡ Absent = cc in
    absurd (never c.args.b.now c.requires.fit c.args.k c.requires.placed n.result n.ensures q)

pub returns-in-Defect : goal.returns-in-Defect
returns-in-Defect c =
    let n = c.load_node-n in
    let v = c.in-Defect.field-0 in
    let q : n.result.class ≡ Defect v = cc in
    c.own_verdict.ensures ∙ stands_defect c.args.b.now c.requires.fit c.args.k c.requires.placed n.result n.ensures c.args.strict v q

pub returns-in-Blossom : goal.returns-in-Blossom
returns-in-Blossom c =
    let n = c.load_node-n in
    let q : n.result.class ≡ Blossom = cc in
    c.larger_of.ensures ∙ ap₂ larger c.touch-x.ensures c.touch-y.ensures
    ∙ stands_ring c.args.b.now c.requires.fit c.args.k c.requires.placed n.result n.ensures c.args.strict q (handle_named c.args.outer) c.requires.outer_value
