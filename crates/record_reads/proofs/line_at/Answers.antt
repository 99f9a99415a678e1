-- By the letter, as the definition goes. Assumes nothing.
use native.Mathlib.Omega.{arith}
use mathlib.Core.Path.{refl}
use lib.ListN.{get_or}
use Rattle.record_reads.proofs.Reading as rec
use Rattle.record_reads.proofs.line_at.Goals as goal

pub bounds-s-p : goal.bounds-s-p
bounds-s-p c = let a = c.args in omega (arith, rec.two a.s.now a.p c.requires)

pub overflow_add-unit : goal.overflow_add-unit
overflow_add-unit c = let a = c.args in omega (arith, rec.two a.s.now a.p c.requires)

pub bounds-s-p-2 : goal.bounds-s-p-2
bounds-s-p-2 c = let a = c.args in omega (arith, rec.two a.s.now a.p c.requires)

pub overflow_add-q : goal.overflow_add-q
overflow_add-q c = let a = c.args in omega (arith, rec.two a.s.now a.p c.requires)

pub defect-requires : goal.defect-requires
defect-requires c = let a = c.args in rec.room-D a.s.now a.p c.requires c.in-68.is

pub blossom-requires : goal.blossom-requires
blossom-requires c = let a = c.args in rec.count-B a.s.now a.p c.requires c.in-66.is

pub expand-requires : goal.expand-requires
expand-requires c = let a = c.args in rec.room-E a.s.now a.p c.requires c.in-69.is

pub set_state-requires : goal.set_state-requires
set_state-requires c = let a = c.args in rec.room-S a.s.now a.p c.requires c.in-83.is

pub grow-requires : goal.grow-requires
grow-requires c = let a = c.args in rec.room-G a.s.now a.p c.requires c.in-71.is

pub fuse-requires : goal.fuse-requires
fuse-requires c = let a = c.args in rec.room-F a.s.now a.p c.requires c.in-70.is

pub returns-in-68 : goal.returns-in-68
returns-in-68 c = let a = c.args in rec.line_is a.s.now a.p c.requires c.defect.result _ (rec.op-D a.s.now a.p c.requires c.in-68.is) c.defect.ensures

pub returns-in-66 : goal.returns-in-66
returns-in-66 c = let a = c.args in rec.line_is a.s.now a.p c.requires c.blossom.result _ (rec.op-B a.s.now a.p c.requires c.in-66.is) c.blossom.ensures

pub returns-in-69 : goal.returns-in-69
returns-in-69 c = let a = c.args in rec.line_is a.s.now a.p c.requires c.expand.result _ (rec.op-E a.s.now a.p c.requires c.in-69.is) c.expand.ensures

pub returns-in-83 : goal.returns-in-83
returns-in-83 c = let a = c.args in rec.line-S a.s.now a.p c.requires c.set_state.result c.in-83.is c.set_state.ensures

pub returns-in-71 : goal.returns-in-71
returns-in-71 c = let a = c.args in rec.line_is a.s.now a.p c.requires c.grow.result _ (rec.op-G a.s.now a.p c.requires c.in-71.is) c.grow.ensures

pub returns-in-70 : goal.returns-in-70
returns-in-70 c = let a = c.args in rec.line_is a.s.now a.p c.requires c.fuse.result _ (rec.op-F a.s.now a.p c.requires c.in-70.is) c.fuse.ensures

pub returns-in-67 : goal.returns-in-67
returns-in-67 c = let a = c.args in rec.line_is a.s.now a.p c.requires _ _ (rec.op-C a.s.now a.p c.requires c.in-67.is) refl

pub returns-in-75 : goal.returns-in-75
returns-in-75 c = let a = c.args in rec.line_is a.s.now a.p c.requires _ _ (rec.op-K a.s.now a.p c.requires c.in-75.is) refl

pub returns-in_default : goal.returns-in_default
returns-in_default c = let a = c.args in let m = c.in_default.in_default-own.rest in absurd (rec.no_letter a.s.now a.p c.requires (get_or a.s.now a.p 0) refl m.0.0.0.0.0.0.0.1 m.0.0.0.0.0.0.1 m.0.0.0.0.0.1 m.0.0.0.0.1 m.0.0.0.1 m.0.0.1 m.0.1 m.1)
