-- The match goes by the letter as the grammar does; only B touches the lent slice. Assumes nothing.
use Rattle.text_fields.specs.Places.{from}
use Rattle.text_lines.proofs.Whole.{rest-D, rest-B, rest-E, rest-S, rest-G, rest-F, rest-C, rest-K, rest_else}
use borrow.Author.Rules.{rules}
use Rattle.text_lines.proofs.rest_of.Goals as goal

pub returns-in-68 : goal.returns-in-68
returns-in-68 c = let a = c.args in rest-D a.letter a.unit (from a.s.now a.place) a.serials.now c.defect.result c.in-68.is c.defect.ensures

pub returns-in-66 : goal.returns-in-66
returns-in-66 c = let a = c.args in rest-B a.letter a.unit (from a.s.now a.place) a.serials.now c.blossom.result c.in-66.is _ c.blossom.ensures

pub returns-in-69 : goal.returns-in-69
returns-in-69 c = let a = c.args in rest-E a.letter a.unit (from a.s.now a.place) a.serials.now c.expand.result c.in-69.is c.expand.ensures

pub returns-in-83 : goal.returns-in-83
returns-in-83 c = let a = c.args in rest-S a.letter a.unit (from a.s.now a.place) a.serials.now c.set_state.result c.in-83.is c.set_state.ensures

pub returns-in-71 : goal.returns-in-71
returns-in-71 c = let a = c.args in rest-G a.letter a.unit (from a.s.now a.place) a.serials.now c.grow.result c.in-71.is c.grow.ensures

pub returns-in-70 : goal.returns-in-70
returns-in-70 c = let a = c.args in rest-F a.letter a.unit (from a.s.now a.place) a.serials.now c.fuse.result c.in-70.is c.fuse.ensures

pub returns-in-67 : goal.returns-in-67
returns-in-67 c = let a = c.args in rest-C a.letter a.unit (from a.s.now a.place) a.serials.now c.clear.result c.in-67.is c.clear.ensures

pub returns-in-75 : goal.returns-in-75
returns-in-75 c = let a = c.args in rest-K a.letter a.unit (from a.s.now a.place) a.serials.now c.check.result c.in-75.is c.check.ensures

pub returns-in_default : goal.returns-in_default
returns-in_default c =
    let a = c.args in
    let m = c.in_default.in_default-own.rest in
    rest_else a.letter a.unit (from a.s.now a.place) a.serials.now
    m.0.0.0.0.0.0.0.1 m.0.0.0.0.0.0.1 m.0.0.0.0.0.1 m.0.0.0.0.1 m.0.0.0.1 m.0.0.1 m.0.1 m.1
