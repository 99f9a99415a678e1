-- A node at the hint with the serial is the one with it, since serials are all different; else the scan says which is, or that none is. Assumes nothing.
use Rattle.std.specs.Prelude.{Some}
use mathlib.Core.Path.{◌≡◌, ap}
use Rattle.ledger_spec.specs.Bench.{Handle}
use Rattle.ledger_spec.specs.Named.{handle_named}
use Rattle.bench_links.proofs.Finding.{found_at}
use Rattle.bench_serials.proofs.Scanning.{held_at, seeks_one, seeks_all}
use Rattle.bench_serials.proofs.look.Goals as goal

pub returns-in-Some : goal.returns-in-Some
returns-in-Some c =
    let k = c.in-Some.p in
    let q : c.find.result ≡ Some k = cc in
    let h = handle_named c.handle_at.result in
    seeks_one c.args.b.now c.args.serial.0 c.requires.fit k
    (held_at c.args.b.now c.args.serial.0 h k (ap (λ (x : Handle). x.serial) c.handle_at.ensures) (found_at c.args.b.now h c.find.ensures k q))

pub returns : goal.returns
returns c = seeks_all c.args.b.now c.args.serial.0 c.requires.fit c.scan.result c.scan.ensures
