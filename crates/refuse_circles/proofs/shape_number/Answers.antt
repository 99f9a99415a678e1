-- Each way out is one of the laws of the shape, by the lists' lengths. Assumes nothing.
use native.Mathlib.Omega.{arith}
use lib.ListN.{length-map}
use Rattle.bench_views.specs.Given.{hand_given}
use Rattle.deed_circles.specs.Given.{hands_given, pairs_given}
use Rattle.refuse_circles.proofs.Shape.{pairs_length, shape_none, shape_many, shape_bare, shape_unpaired, shape_paired}
use Rattle.refuse_circles.proofs.shape_number.Goals as goal

pub returns-then-n-eq0 : goal.returns-then-n-eq0
returns-then-n-eq0 c = let a = c.args in shape_none (hands_given a.members.now) (pairs_given a.touching.now) (omega (arith, length-map a.members.now hand_given))

pub returns-then-n-gt64 : goal.returns-then-n-gt64
returns-then-n-gt64 c = let a = c.args in
    shape_many (hands_given a.members.now) (pairs_given a.touching.now) (λ z. omega (arith, length-map a.members.now hand_given)) (omega (arith, length-map a.members.now hand_given))

pub returns-then-m-eq0 : goal.returns-then-m-eq0
returns-then-m-eq0 c = let a = c.args in
    shape_bare (hands_given a.members.now) (pairs_given a.touching.now) (λ z. omega (arith, length-map a.members.now hand_given)) (omega (arith, length-map a.members.now hand_given)) (omega (arith, pairs_length a.touching.now))

pub returns-then-m-n : goal.returns-then-m-n
returns-then-m-n c = let a = c.args in
    shape_unpaired (hands_given a.members.now) (pairs_given a.touching.now) (λ z. omega (arith, length-map a.members.now hand_given)) (omega (arith, length-map a.members.now hand_given)) (λ z. omega (arith, pairs_length a.touching.now))
    (λ z. c.if-m-n.true (omega (arith, pairs_length a.touching.now, length-map a.members.now hand_given)))

pub returns : goal.returns
returns c = let a = c.args in
    shape_paired (hands_given a.members.now) (pairs_given a.touching.now) (λ z. omega (arith, length-map a.members.now hand_given)) (omega (arith, length-map a.members.now hand_given)) (λ z. omega (arith, pairs_length a.touching.now))
    (omega (arith, pairs_length a.touching.now, length-map a.members.now hand_given))
