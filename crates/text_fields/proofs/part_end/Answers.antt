-- The first mark ends the part, and with no mark the end of the bytes. Assumes nothing.
use Rattle.std.proofs.Common.{◌≡◌, ◌∙◌, drop, length-drop, arith, rules, tests}
use Rattle.std.proofs.lemmas.Iterator.{IsFirst-from_position, YieldsList-from_slice}
use Rattle.std.proofs.lemmas.List.{take_all}
use Rattle.std.proofs.option.Match.{if_some, if_none}
use Rattle.text_fields.proofs.Ends.{ends_at, ends_out}
use Rattle.text_fields.proofs.part_end.Goals as goal

pub returns-in-Some : goal.returns-in-Some
returns-in-Some c =
    let m = c.args.mark in
    let t = drop c.args.start c.args.s.now in
    let ys = YieldsList-from_slice t (c.iter.ensures.rest ∙ take_all _ t (omega (arith, length-drop c.args.start c.args.s.now))) in
    let first = IsFirst-from_position _ _ _ (λ x. x ≡ m) (λ x. x ≡ m → ⊥) c.position.ensures.ran ys (λ x q k. search (rules, tests))
    (λ x q k. search (rules, tests)) in
    let f = if_some _ _ _ c.in-Some.is first in
    ends_at m c.args.s.now c.args.start c.requires _ f.0 (f.1 0) (λ k l. f.2 k 0 (omega arith) l)

pub returns-in-None : goal.returns-in-None
returns-in-None c =
    let m = c.args.mark in
    let t = drop c.args.start c.args.s.now in
    let ys = YieldsList-from_slice t (c.iter.ensures.rest ∙ take_all _ t (omega (arith, length-drop c.args.start c.args.s.now))) in
    let first = IsFirst-from_position _ _ _ (λ x. x ≡ m) (λ x. x ≡ m → ⊥) c.position.ensures.ran ys (λ x q k. search (rules, tests))
    (λ x q k. search (rules, tests)) in
    let f = if_none _ _ c.in-None.is first in
    ends_out m c.args.s.now c.args.start c.requires (λ k l. f k 0 (omega arith) l)
