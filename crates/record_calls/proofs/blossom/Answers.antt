-- Laid, named, and the call made. Assumes nothing.
use native.Mathlib.Omega.{arith}
use mathlib.Core.Path.{sym, ◌∙◌}
use lib.Seq.{length-take-le}
use Rattle.outcomes.proofs.Outcomes.{sound_after}
use Rattle.text_calls.proofs.Members.{few_low}
use Rattle.record_reads.proofs.Reading.{count-B, room-B}
use Rattle.record_calls.proofs.Doing.{done_blossom}
use borrow.Author.Rules.{rules}
use Rattle.record_calls.proofs.blossom.Goals as goal

pub overflow_add-unit : goal.overflow_add-unit
overflow_add-unit c = let a = c.args in let R = c.requires.1.0 in let l = c.requires.1.1.0 in omega (arith, count-B a.s.now a.p R l)

pub bounds-s-p : goal.bounds-s-p
bounds-s-p c = let a = c.args in let R = c.requires.1.0 in let l = c.requires.1.1.0 in omega (arith, count-B a.s.now a.p R l)

pub overflow_add-p : goal.overflow_add-p
overflow_add-p c = let a = c.args in let R = c.requires.1.0 in let l = c.requires.1.1.0 in omega (arith, count-B a.s.now a.p R l)

pub two_at-count-requires : goal.two_at-count-requires
two_at-count-requires c = let a = c.args in let R = c.requires.1.0 in let l = c.requires.1.1.0 in omega (arith, count-B a.s.now a.p R l)

pub overflow_add-p-2 : goal.overflow_add-p-2
overflow_add-p-2 c = let a = c.args in let R = c.requires.1.0 in let l = c.requires.1.1.0 in omega (arith, count-B a.s.now a.p R l)

pub lay-requires : goal.lay-requires
lay-requires c =
    let a = c.args in
    let R = c.requires.1.0 in
    let l = c.requires.1.1.0 in
    let f = c.few-n in
    (omega (arith, room-B a.s.now a.p R l, c.two_at-count.ensures.0, few_low _ _ f.ensures), (omega (arith, f.ensures.most, c.requires.1.1.1.0), omega (arith, f.ensures.most, c.requires.1.1.1.1)))

pub slice_bounds-create_blossom-end : goal.slice_bounds-create_blossom-end
slice_bounds-create_blossom-end c =
    let f = c.few-n in
    let l = c.lay in
    let n = c.name in
    omega (arith, f.ensures.most, l.ensures.long, n.ensures.long, c.requires.1.1.1.0)

pub slice_bounds-create_blossom-end-2 : goal.slice_bounds-create_blossom-end-2
slice_bounds-create_blossom-end-2 c =
    let f = c.few-n in
    let l = c.lay in
    let n = c.name in
    sym (length-take-le _ _ (omega (arith, f.ensures.most, l.ensures.long, n.ensures.long, c.requires.1.1.1.0)))

pub slice_bounds-create_blossom-end-3 : goal.slice_bounds-create_blossom-end-3
slice_bounds-create_blossom-end-3 c =
    let f = c.few-n in
    let l = c.lay in
    omega (arith, f.ensures.most, l.ensures.wide, c.name-2.ensures.long, c.requires.1.1.1.1)

pub slice_bounds-create_blossom-end-4 : goal.slice_bounds-create_blossom-end-4
slice_bounds-create_blossom-end-4 c =
    let f = c.few-n in
    let l = c.lay in
    sym (length-take-le _ _ (omega (arith, f.ensures.most, l.ensures.wide, c.name-2.ensures.long, c.requires.1.1.1.1)))

pub tell-requires : goal.tell-requires
tell-requires c =
    sound_after c.requires.0 c.create_blossom-made.ensures.0

pub shape_of-members : goal.shape_of-members
shape_of-members c =
    let n = c.name in
    let l = c.lay in
    n.ensures.long ∙ l.ensures.long

pub shape_of-touching : goal.shape_of-touching
shape_of-touching c =
    let m = c.name-2 in
    let l = c.lay in
    m.ensures.long ∙ l.ensures.wide

pub returns : goal.returns
returns c =
    let t = c.two_at-count in
    let f = c.few-n in
    let l = c.lay in
    let n = c.name in
    let m = c.name-2 in
    let a = c.args in
    done_blossom a.b.now c.requires.0 a.s.now a.p c.requires.1.0 c.requires.1.1.0 t.result f.result t.ensures.0 f.ensures
    a.members.now a.touching.now _ _ _ _ c.requires.1.1.1.0 c.requires.1.1.1.1 l.ensures n.ensures m.ensures
    _ _ _ c.create_blossom-made.ensures c.tell.result c.tell.ensures
