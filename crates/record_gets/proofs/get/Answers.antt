-- Found, read, and then written. Assumes nothing.
use native.Mathlib.Omega.{arith}
use Rattle.record_files.proofs.Slices.{bytes_from}
use Rattle.record_gets.proofs.Getting.{not_found, recorded, members_room, fronted, no_space, got}
use borrow.Author.Rules.{rules}
use Rattle.record_gets.proofs.get.Goals as goal

pub returns-then-f-ne0 : goal.returns-then-f-ne0
returns-then-f-ne0 c =
    let a = c.args in
    let f = c.find-f in
    not_found a.file.now a.k a.out.now f.result f.ensures c.if-f-ne0.true

pub line_at-requires : goal.line_at-requires
line_at-requires c =
    let a = c.args in
    let f = c.find-f in
    recorded a.file.now a.k f.result.place (f.ensures.found c.if-f-ne0.false)

pub overflow_mul-size : goal.overflow_mul-size
overflow_mul-size c =
    let s = c.args.file.now in
    let p = c.find-f.result.place in
    let h = c.find-f.ensures.found c.if-f-ne0.false in
    let b = bytes_from s p c.type_inv.file in
    let l = c.line_at in
    let w = c.front_of-front in
    omega (arith, members_room s c.args.k p b h l.result l.ensures w.result w.ensures, c.well_formed)

pub overflow_add-size : goal.overflow_add-size
overflow_add-size c =
    let s = c.args.file.now in
    let p = c.find-f.result.place in
    let h = c.find-f.ensures.found c.if-f-ne0.false in
    let b = bytes_from s p c.type_inv.file in
    let l = c.line_at in
    let w = c.front_of-front in
    omega (arith, members_room s c.args.k p b h l.result l.ensures w.result w.ensures, (fronted s c.args.k p b h l.result l.ensures w.result w.ensures).1, c.well_formed)

pub returns-then-out-size : goal.returns-then-out-size
returns-then-out-size c =
    let s = c.args.file.now in
    let p = c.find-f.result.place in
    let h = c.find-f.ensures.found c.if-f-ne0.false in
    let b = bytes_from s p c.type_inv.file in
    let w = c.front_of-front in
    no_space s c.args.k p b h c.line_at.result c.line_at.ensures w.result w.ensures c.args.out.now c.if-out-size.true

pub put_front-requires : goal.put_front-requires
put_front-requires c =
    let s = c.args.file.now in
    let p = c.find-f.result.place in
    let h = c.find-f.ensures.found c.if-f-ne0.false in
    let b = bytes_from s p c.type_inv.file in
    let r = fronted s c.args.k p b h c.line_at.result c.line_at.ensures c.front_of-front.result c.front_of-front.ensures in
    (r.0, (r.1, omega (arith, c.if-out-size.false)))

pub overflow_add-p : goal.overflow_add-p
overflow_add-p c =
    let s = c.args.file.now in
    let p = c.find-f.result.place in
    let h = c.find-f.ensures.found c.if-f-ne0.false in
    let b = bytes_from s p c.type_inv.file in
    omega (arith, members_room s c.args.k p b h c.line_at.result c.line_at.ensures c.front_of-front.result c.front_of-front.ensures, c.well_formed)

pub put_members-requires : goal.put_members-requires
put_members-requires c =
    let s = c.args.file.now in
    let p = c.find-f.result.place in
    let h = c.find-f.ensures.found c.if-f-ne0.false in
    let b = bytes_from s p c.type_inv.file in
    (members_room s c.args.k p b h c.line_at.result c.line_at.ensures c.front_of-front.result c.front_of-front.ensures, omega (arith, c.if-out-size.false, c.put_front.auto.out))

pub returns : goal.returns
returns c =
    let s = c.args.file.now in
    let p = c.find-f.result.place in
    let h = c.find-f.ensures.found c.if-f-ne0.false in
    let b = bytes_from s p c.type_inv.file in
    got s c.args.k p b h c.line_at.result c.line_at.ensures c.front_of-front.result c.front_of-front.ensures c.args.out.now c.if-out-size.false _ _ c.put_front.ensures c.put_members.ensures
