-- A growth names no node; conflicts name their entries' and their stops'. Assumes nothing.
use mathlib.Core.Path.{◌≡◌, sym, ◌∙◌}
use mathlib.Core.Bool.{true, ◌||◌}
use mathlib.Core.List.{List}
use native.Mathlib.Omega.{arith}
use Prim.Native.Nat.{ℕ}
use lib.ListN.{length, take}
use Rattle.ledger_spec.specs.Tests.{any}
use Rattle.ledger_spec.specs.Groups.{sound_group}
use Rattle.ledger_spec.specs.GroupCalls.{stale_code, list_handles, stop_handles, group_handles}
use Rattle.bench_views.specs.View.{view}
use Rattle.groups.specs.View.{group_of}
use Rattle.groups.specs.declared.Group.{Group as Code}
use Rattle.groups.specs.declared.Kind.TheVariants.{Conflicts}
use Rattle.groups.proofs.View.{sound_counts}
use Rattle.group_handles.proofs.Handles.{growth_names, conflicts_name}
use Rattle.group_calls.proofs.Turns.{or_yes, or_no}
use Rattle.group_calls.proofs.presence.group_gone.Goals as goal

-- what conflicts name, in two parts
names : (b : List ℕ) (g : Code) → g.kind ≡ Conflicts → sound_group (group_of g) ≡ true → length g.list ≡ 128 → length g.stops ≡ 128 →
    any (stale_code (view b)) (group_handles (group_of g)) ≡
    (any (stale_code (view b)) (list_handles (take g.listed g.list)) || any (stale_code (view b)) (stop_handles (take g.stopped g.stops)))
names b g k s l w =
    let q = sound_counts g k s in
    conflicts_name (stale_code (view b)) g k (omega (arith, l, q.0)) (omega (arith, w, q.1))

pub list_gone-requires : goal.list_gone-requires
list_gone-requires c = record { canon = c.requires.canon; n_bound = (sound_counts c.args.g c.in-Conflicts.is c.requires.g_value).0 }

pub stops_gone-requires : goal.stops_gone-requires
stops_gone-requires c = record { canon = c.requires.canon; n_bound = (sound_counts c.args.g c.in-Conflicts.is c.requires.g_value).1 }

pub returns-in-Growth : goal.returns-in-Growth
returns-in-Growth c = sym (growth_names (stale_code (view c.args.b.now)) c.args.g _ _ c.in-Growth.is)

pub returns-then-list_gone : goal.returns-then-list_gone
returns-then-list_gone c =
    c.if-list_gone.true ∙ or_yes _ (sym c.list_gone.ensures ∙ c.if-list_gone.true)
    ∙ sym (names c.args.b.now c.args.g c.in-Conflicts.is c.requires.g_value (omega arith) (omega arith))

pub returns-else-list_gone : goal.returns-else-list_gone
returns-else-list_gone c =
    c.stops_gone.ensures ∙ or_no _ (sym c.list_gone.ensures ∙ c.if-list_gone.false)
    ∙ sym (names c.args.b.now c.args.g c.in-Conflicts.is c.requires.g_value (omega arith) (omega arith))
