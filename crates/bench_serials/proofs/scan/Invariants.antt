-- A serial not given out yet is in no slot; else the interfaces passed do not have it, and past the eighth there is none. Assumes nothing.
use Rattle.bench_serials.proofs.Scanning.{Clear}
use Rattle.bench_serials.proofs.scan.Given as goal

abbrev pub invariant-loop-u : goal.invariant-loop-u
invariant-loop-u l = Clear l.b l.serial.0 l.u
