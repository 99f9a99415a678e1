-- What is answered and what is left make the whole run. Assumes nothing.
use native.Mathlib.Omega.{arith}
use Prim.Native.Nat.{◌+◌, ◌-◌}
use mathlib.Core.Path.{◌≡◌, refl, sym, ◌∙◌, subst}
use mathlib.Core.List.{List}
use lib.IntN.{ℤ}
use lib.ListN.{length}
use borrow.Author.Rules.{rules}
use Rattle.record_runs.proofs.Running.{AllRunning, running, listed_at, recorded_at, sound_now, still_long, turn, finish}
use borrow.Author.Rules.{rules}
use Rattle.record_runs.proofs.go.Goals as goal

pub loop-i-init : goal.loop-i-init
loop-i-init c = let a = c.args in ((λ ops e. running a.b.now ops a.answers.now c.requires.0), (search rules, search rules))

pub place_in-p-requires : goal.place_in-p-requires
place_in-p-requires c =
    let a = c.args in
    let v = c.loop-i in
    let y = c.requires.1 in
    listed_at a.file.now a.list a.count (length a.answers.now) y v.i c.loop-i-test.true

pub perform-r-requires : goal.perform-r-requires
perform-r-requires c =
    let a = c.args in
    let v = c.loop-i in
    let y = c.requires.1 in
    (sound_now a.file.now a.list a.count (length a.answers.now) y a.b.now a.answers.now refl v.b v.answers v.i v.invariant.0, (recorded_at a.file.now a.list a.count (length a.answers.now) y v.i c.place_in-p.result c.place_in-p.ensures, (omega (arith, v.invariant.1.0), omega (arith, v.invariant.1.1))))

pub overflow_mul-i : goal.overflow_mul-i
overflow_mul-i c =
    let a = c.args in
    let y = c.requires.1 in
    omega (arith, y.fits, c.loop-i-test.true, still_long a.file.now a.list a.count (length a.answers.now) y a.b.now a.answers.now refl c.loop-i.b c.loop-i.answers c.loop-i.i c.loop-i.invariant.0)

pub put-requires : goal.put-requires
put-requires c =
    let a = c.args in
    let y = c.requires.1 in
    omega (arith, y.fits, c.loop-i-test.true, still_long a.file.now a.list a.count (length a.answers.now) y a.b.now a.answers.now refl c.loop-i.b c.loop-i.answers c.loop-i.i c.loop-i.invariant.0)

pub loop-i-preserved : goal.loop-i-preserved
loop-i-preserved c =
    let a = c.args in
    let y = c.requires.1 in (
      subst (λ (x : List ℤ). AllRunning a.b.now a.file.now a.answers.now c.perform-r.new.b x (c.loop-i.i + 1)) (sym c.put.ensures)
          (turn a.file.now a.list a.count (length a.answers.now) y a.b.now a.answers.now refl c.loop-i.b c.loop-i.answers c.loop-i.i c.loop-i.invariant.0 c.loop-i-test.true c.place_in-p.result c.place_in-p.ensures c.perform-r.result c.perform-r.new.b c.perform-r.ensures),
      (c.perform-r.auto.members ∙ c.loop-i.invariant.1.0, c.perform-r.auto.touching ∙ c.loop-i.invariant.1.1),
    )

pub shape_of-answers : goal.shape_of-answers
shape_of-answers c =
    let a = c.args in
    let v = c.loop-i in
    let y = c.requires.1 in
    still_long a.file.now a.list a.count (length a.answers.now) y a.b.now a.answers.now refl v.b v.answers v.i v.invariant.0

pub returns : goal.returns
returns c =
    let a = c.args in
    let v = c.loop-i in
    let y = c.requires.1 in
    finish a.file.now a.list a.count (length a.answers.now) y a.b.now a.answers.now refl v.b v.answers v.i v.invariant.0 c.loop-i-test.false
