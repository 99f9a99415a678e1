-- `met` goes by what the two stops come to. Assumes nothing.
use mathlib.Core.Path.{◌≡◌, sym, ◌∙◌}
use native.Mathlib.Omega.{arith}
use borrow.Author.Rules.{rules}
use lib.ListN.{length, length-map}
use Rattle.kinds.specs.Obstacles.{pair_of}
use Rattle.group_adds.proofs.Bytes.{Fits}
use Rattle.group_adds.proofs.Adding.{met_keep, met_replace, met_join}
use Rattle.group_adds.proofs.met.Goals as goal

pub offset_bounds-r-p : goal.offset_bounds-r-p
offset_bounds-r-p c =
    omega (arith, c.requires.kind_value.1.1, c.requires.p_lt_stopped.0)

pub bounds-r-p : goal.bounds-r-p
bounds-r-p c =
    omega (arith, c.requires.kind_value.1.1, c.requires.p_lt_stopped.0)

pub returns-in-Keep : goal.returns-in-Keep
returns-in-Keep c =
    met_keep c.args.g ((let l = (c.well_formed.0.1.1.1.0.1.0.1) in let w = (c.well_formed.0.1.1.1.1.0.1.0.1) in record { kind = c.requires.kind_value.0; few = c.requires.kind_value.1.0; short = c.requires.kind_value.1.1; list = omega (arith, l); stops = omega (arith, w) })) c.args.p c.args.x c.args.y c.requires.p_lt_stopped.0 c.requires.p_lt_stopped.1 (pair_of c.args.x.obstacle) (pair_of c.args.y.obstacle) (sym c.meeting_of.ensures ∙ c.in-Keep.is)

pub returns-in-Replace : goal.returns-in-Replace
returns-in-Replace c =
    met_replace c.args.g ((let l = (c.well_formed.0.1.1.1.0.1.0.1) in let w = (c.well_formed.0.1.1.1.1.0.1.0.1) in record { kind = c.requires.kind_value.0; few = c.requires.kind_value.1.0; short = c.requires.kind_value.1.1; list = omega (arith, l); stops = omega (arith, w) })) c.args.p c.args.x c.args.y c.requires.p_lt_stopped.0 c.requires.p_lt_stopped.1 (pair_of c.args.x.obstacle) (pair_of c.args.y.obstacle) (sym c.meeting_of.ensures ∙ c.in-Replace.is)

pub returns-in-Join : goal.returns-in-Join
returns-in-Join c =
    met_join c.args.g ((let l = (c.well_formed.0.1.1.1.0.1.0.1) in let w = (c.well_formed.0.1.1.1.1.0.1.0.1) in record { kind = c.requires.kind_value.0; few = c.requires.kind_value.1.0; short = c.requires.kind_value.1.1; list = omega (arith, l); stops = omega (arith, w) })) c.args.p c.args.x c.args.y c.requires.p_lt_stopped.0 c.requires.p_lt_stopped.1 (pair_of c.args.x.obstacle) (pair_of c.args.y.obstacle) _ _ _ (sym c.meeting_of.ensures ∙ c.in-Join.is) c.moved.ensures
