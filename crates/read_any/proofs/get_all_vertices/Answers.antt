-- The verdict on the words decides: BROKEN, or the read on sound words, which alone writes to the slice. Assumes nothing.
use Prim.Native.Nat.{ℕ}
use mathlib.Core.Path.{ap, ◌∙◌}
use borrow.Author.Rules.{rules}
use Rattle.sound_lent.proofs.Asking.{no_bench, a_bench, fits}
use mathlib.Core.Bool.{not}
use Rattle.read_any.proofs.get_all_vertices.Goals as goal

pub returns-then-not-is_bench : goal.returns-then-not-is_bench
returns-then-not-is_bench c = ap (λ (x : ℕ × ℕ). (x.0, (x.1, c.args.out.now))) c.no_count.ensures ∙ no_bench _ _ _ c.is_bench.ensures (ap not c.if-not-is_bench.true)

pub get_all_vertices-requires : goal.get_all_vertices-requires
get_all_vertices-requires c = fits c.is_bench.ensures (ap not c.if-not-is_bench.false)

pub returns : goal.returns
returns c =
    a_bench _ _ _ c.is_bench.ensures (ap not c.if-not-is_bench.false) c.get_all_vertices.ensures
