-- By the letter, as the definition goes. Assumes nothing.
use native.Mathlib.Omega.{arith}
use mathlib.Core.Path.{◌∙◌, refl}
use Prim.Native.Nat.{◌+◌}
use lib.ListN.{drop, get_or}
use Rattle.record_measures.proofs.Rests.{rest_none}
use Rattle.record_measures.proofs.Measuring.{none_short, letter_is, letter_none}
use borrow.Author.Rules.{rules}
use Rattle.record_measures.proofs.measure.Goals as goal

pub returns-then-t-lt2 : goal.returns-then-t-lt2
returns-then-t-lt2 c = c.nothing.ensures ∙ none_short c.args.t.now c.args.p (omega (arith, c.if-t-lt2.true))

pub returns-then-t-p : goal.returns-then-t-p
returns-then-t-p c = c.nothing-then-t-p.ensures ∙ none_short c.args.t.now c.args.p (omega (arith, c.if-t-p.true, c.if-t-lt2.false))

pub returns-in-68 : goal.returns-in-68
returns-in-68 c =
    let a = c.args in
    letter_is a.t.now a.p 68 c.byte_at-unit.result c.defect.result (omega (arith, c.if-t-p.false, c.if-t-lt2.false)) c.in-68.is c.byte_at-unit.ensures.0 c.defect.ensures

pub returns-in-66 : goal.returns-in-66
returns-in-66 c =
    let a = c.args in
    letter_is a.t.now a.p 66 c.byte_at-unit.result c.blossom.result (omega (arith, c.if-t-p.false, c.if-t-lt2.false)) c.in-66.is c.byte_at-unit.ensures.0 c.blossom.ensures

pub returns-in-69 : goal.returns-in-69
returns-in-69 c =
    let a = c.args in
    letter_is a.t.now a.p 69 c.byte_at-unit.result c.expand.result (omega (arith, c.if-t-p.false, c.if-t-lt2.false)) c.in-69.is c.byte_at-unit.ensures.0 c.expand.ensures

pub returns-in-83 : goal.returns-in-83
returns-in-83 c =
    let a = c.args in
    letter_is a.t.now a.p 83 c.byte_at-unit.result c.set_state.result (omega (arith, c.if-t-p.false, c.if-t-lt2.false)) c.in-83.is c.byte_at-unit.ensures.0 c.set_state.ensures

pub returns-in-71 : goal.returns-in-71
returns-in-71 c =
    let a = c.args in
    letter_is a.t.now a.p 71 c.byte_at-unit.result c.grow.result (omega (arith, c.if-t-p.false, c.if-t-lt2.false)) c.in-71.is c.byte_at-unit.ensures.0 c.grow.ensures

pub returns-in-70 : goal.returns-in-70
returns-in-70 c =
    let a = c.args in
    letter_is a.t.now a.p 70 c.byte_at-unit.result c.fuse.result (omega (arith, c.if-t-p.false, c.if-t-lt2.false)) c.in-70.is c.byte_at-unit.ensures.0 c.fuse.ensures

pub returns-in-67 : goal.returns-in-67
returns-in-67 c =
    let a = c.args in
    letter_is a.t.now a.p 67 c.byte_at-unit.result c.unit_alone.result (omega (arith, c.if-t-p.false, c.if-t-lt2.false)) c.in-67.is c.byte_at-unit.ensures.0 (c.unit_alone.ensures (drop (a.p + 2) a.t.now)).0

pub returns-in-75 : goal.returns-in-75
returns-in-75 c =
    let a = c.args in
    letter_is a.t.now a.p 75 c.byte_at-unit.result c.unit_alone-in-75.result (omega (arith, c.if-t-p.false, c.if-t-lt2.false)) c.in-75.is c.byte_at-unit.ensures.0 (c.unit_alone-in-75.ensures (drop (a.p + 2) a.t.now)).1

pub returns-in_default : goal.returns-in_default
returns-in_default c =
    let a = c.args in
    let m = c.in_default.in_default-own.rest in
    let l = get_or a.t.now a.p 0 in
    c.nothing-in_default.ensures ∙ letter_none a.t.now a.p l c.byte_at-unit.result (omega (arith, c.if-t-p.false, c.if-t-lt2.false)) refl c.byte_at-unit.ensures.0 (rest_none l c.byte_at-unit.result (drop (a.p + 2) a.t.now) m.0.0.0.0.0.0.0.1 m.0.0.0.0.0.0.1 m.0.0.0.0.0.1 m.0.0.0.0.1 m.0.0.0.1 m.0.0.1 m.0.1 m.1)
