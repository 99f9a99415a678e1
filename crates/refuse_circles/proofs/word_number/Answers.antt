-- Each way out is one of the laws of marking, at what was found on the way. Assumes nothing.
use Rattle.std.specs.Prelude.{None, Some}
use Rattle.std.proofs.Common.{rules}
use mathlib.Core.Path.{◌≡◌, sym, ◌∙◌}
use native.Mathlib.Omega.{arith}
use Rattle.bench_views.specs.Given.{hand_given}
use Rattle.refuse_circles.proofs.Marking.{word_at, word_none, mark_stale, mark_foreign, mark_inside, mark_free}
use Rattle.refuse_circles.proofs.word_number.Goals as goal

pub is_far-requires : goal.is_far-requires
is_far-requires c =
    let k = c.in-Some.k in
    let q : c.find_word.result ≡ Some k = cc in
    let H = word_at c.args.b.now c.args.w c.find_word.result c.find_word.ensures k q in
    (c.requires.0.steady, omega (arith, H.low), c.requires.1)

pub returns-then-is_far : goal.returns-then-is_far
returns-then-is_far c =
    let k = c.in-Some.k in
    let h = hand_given c.args.w in
    let q : c.find_word.result ≡ Some k = cc in
    let H = word_at c.args.b.now c.args.w c.find_word.result c.find_word.ensures k q in
    mark_foreign c.args.b.now c.args.unit h k H c.is_far.result c.is_far.ensures c.if-is_far.true

pub load_node-n-requires : goal.load_node-n-requires
load_node-n-requires c =
    let k = c.in-Some.k in
    let q : c.find_word.result ≡ Some k = cc in
    (word_at c.args.b.now c.args.w c.find_word.result c.find_word.ensures k q).low

pub returns-in_default : goal.returns-in_default
returns-in_default c =
    let q : c.find_word.result ≡ None = search rules in
    mark_stale c.args.b.now c.args.unit (hand_given c.args.w) (word_none c.args.b.now c.args.w c.find_word.result c.find_word.ensures q)

pub returns-then-is_some : goal.returns-then-is_some
returns-then-is_some c =
    let k = c.in-Some.k in
    let q : c.find_word.result ≡ Some k = cc in
    let H = word_at c.args.b.now c.args.w c.find_word.result c.find_word.ensures k q in
    let p = sym c.is_some.ensures ∙ c.if-is_some.true in
    mark_inside c.args.b.now c.args.unit (hand_given c.args.w) k H c.is_far.result c.is_far.ensures c.if-is_far.false c.load_node-n.result c.load_node-n.ensures p

pub returns : goal.returns
returns c =
    let k = c.in-Some.k in
    let q : c.find_word.result ≡ Some k = cc in
    let H = word_at c.args.b.now c.args.w c.find_word.result c.find_word.ensures k q in
    let p = sym c.is_some.ensures ∙ c.if-is_some.false in
    mark_free c.args.b.now c.args.unit (hand_given c.args.w) k H c.is_far.result c.is_far.ensures c.if-is_far.false c.load_node-n.result c.load_node-n.ensures p
