-- The circle's own finding, and its index where there is one. Assumes nothing.
use mathlib.Core.Path.{refl, sym}
use Rattle.check_walks.proofs.look_circle.Goals as goal

pub returns-then-f-eq0 : goal.returns-then-f-eq0
returns-then-f-eq0 c =
    let f = c.circle_verdict-f in
    (record { finding = f.result; circled = f.ensures; verdict = sym c.if-f-eq0.true; index = λ z. absurd (z c.if-f-eq0.true) }, c.note.ensures)

pub index_of-requires : goal.index_of-requires
index_of-requires c = record { fit = c.requires.fit; unit_bound = c.requires.unit_bound; unit_value = c.requires.unit_value; stands = c.circle_verdict-f.ensures.stands c.if-f-eq0.false }

pub returns : goal.returns
returns c =
    (record { finding = c.circle_verdict-f.result; circled = c.circle_verdict-f.ensures; verdict = refl; index = λ z. c.index_of.ensures }, c.note.ensures)
