-- The verdict on the words and the test of the group, in turn. Assumes nothing.
use mathlib.Core.Path.{ap, sym, ◌∙◌}
use mathlib.Core.Bool.{Bool, ◌&&◌}
use Rattle.ledger_spec.specs.Groups.{sound_group}
use Rattle.groups.specs.View.{group_of}
use Rattle.group_calls.proofs.is_ready.Goals as goal

pub returns-then-is_bench : goal.returns-then-is_bench
returns-then-is_bench c = record {
  bench = c.is_bench.result;
  verdict = c.is_bench.ensures;
  both = c.group_is_sound.ensures ∙ sym (ap (λ (s : Bool). s && sound_group (group_of c.args.g)) c.if-is_bench.true);
}

pub returns-else-is_bench : goal.returns-else-is_bench
returns-else-is_bench c = record {
  bench = c.is_bench.result;
  verdict = c.is_bench.ensures;
  both = c.if-is_bench.false ∙ sym (ap (λ (s : Bool). s && sound_group (group_of c.args.g)) c.if-is_bench.false);
}
