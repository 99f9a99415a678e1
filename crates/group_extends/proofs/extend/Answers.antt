-- `extend` goes by the two kinds. Assumes nothing.
use mathlib.Core.Path.{ap, ap₂, ◌∙◌}
use native.Mathlib.Omega.{arith}
use borrow.Author.Rules.{rules}
use lib.IntN.{ℤ}
use mir.Syntax.{w64}
use mir.Val.{SFits}
use mir.Facts.{to_z-of_z}
use Rattle.ledger_spec.specs.Groups.{growth}
use Rattle.groups.proofs.View.{sound_counts}
use Rattle.group_extends.specs.Extends.{least_of}
use Rattle.group_extends.proofs.Extending.{sound_rising, two_growths, takes_whole, unmoved, two_conflicts}
use Rattle.group_extends.proofs.extend.Goals as goal

pub extend_conflicts-requires : goal.extend_conflicts-requires
extend_conflicts-requires c =
    let p = sound_counts c.args.g c.in-Conflicts.is c.requires.g_value in
    let q = sound_counts c.args.h c.in-Conflicts-other-2.is c.requires.h_value in record { listed_bound = p; listed_bound_2 = (q.0, (q.1, sound_rising c.args.h c.in-Conflicts-other-2.is c.requires.h_value)) }

pub returns-in-Growth-other : goal.returns-in-Growth-other
returns-in-Growth-other c =
    let p = c.smaller_pair-least in
    let a = c.in-Growth.a in
    let f = c.in-Growth.f in
    let b = c.in-Growth-other.b in
    let i = c.in-Growth-other.i in
    let fa : SFits w64 c.in-Growth.a = search rules in
    let fb : SFits w64 c.in-Growth-other.b = search rules in
    let fr : SFits w64 c.smaller_pair-least.result.length = search rules in
    two_growths c.args.g c.args.h a f b i c.in-Growth.is c.in-Growth-other.is _ p.result.flag c.grown-group.result
    (ap (λ (z : ℤ). growth z p.result.flag) (to_z-of_z {w = w64} fr) ∙ p.ensures ∙ ap₂ (λ (x y : ℤ). least_of x f y i) (to_z-of_z {w = w64} fa) (to_z-of_z {w = w64} fb)) c.grown-group.ensures

pub returns-in-Conflicts-other : goal.returns-in-Conflicts-other
returns-in-Conflicts-other c =
    let l = (c.well_formed.1.0.1.1.1.0.1.0.1) in
    let w = (c.well_formed.1.0.1.1.1.1.0.1.0.1) in
    let q = sound_counts c.args.h c.in-Conflicts-other.is c.requires.h_value in
    takes_whole c.args.g c.args.h c.in-Growth.a c.in-Growth.f c.in-Growth.is c.in-Conflicts-other.is (omega (arith, l, q.0)) (omega (arith, w, q.1))

pub returns-in-Growth-other-2 : goal.returns-in-Growth-other-2
returns-in-Growth-other-2 c =
    let l = (c.well_formed.0.1.1.1.0.1.0.1) in
    let w = (c.well_formed.0.1.1.1.1.0.1.0.1) in
    let q = sound_counts c.args.g c.in-Conflicts.is c.requires.g_value in
    unmoved c.args.g c.args.h _ _ c.in-Conflicts.is c.in-Growth-other-2.is (omega (arith, l, q.0)) (omega (arith, w, q.1))

pub returns-in-Conflicts-other-2 : goal.returns-in-Conflicts-other-2
returns-in-Conflicts-other-2 c =
    two_conflicts c.args.g c.args.h c.in-Conflicts.is c.in-Conflicts-other-2.is c.extend_conflicts.result c.extend_conflicts.ensures
