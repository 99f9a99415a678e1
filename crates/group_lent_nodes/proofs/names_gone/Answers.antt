-- The nodes that the words name are looked up in turn, by the words' kind. Assumes nothing.
use mathlib.Core.Path.{sym, ap, ◌∙◌}
use mathlib.Core.List.{[], ◌∷◌}
use Rattle.ledger_spec.specs.Tests.{any}
use Rattle.bench_words.specs.Codec.{hand_of}
use Rattle.ledger_spec.specs.GroupCalls.{stale_code}
use Rattle.bench_views.specs.View.{view}
use Rattle.group_lent_nodes.proofs.Named.{names_none, names_one, names_two, names_three, names_four}
use Rattle.group_lent_nodes.proofs.Turns.{none_has, one_has, front_has, back_has, first_has, rest_has}
use Rattle.group_lent_nodes.proofs.names_gone.Goals as goal

pub returns-then-f-eq1 : goal.returns-then-f-eq1
returns-then-f-eq1 c = none_has (stale_code (view c.args.b.now)) _ (names_none c.args.f c.if-f-eq1.true)

pub returns-then-two_gone : goal.returns-then-two_gone
returns-then-two_gone c =
    let f = c.args.f in
    front_has (stale_code (view c.args.b.now)) _ (hand_of f.a ∷ hand_of f.b ∷ []) (hand_of f.c ∷ hand_of f.d ∷ [])
    (names_four f c.if-f-eq2.true) _ c.two_gone.ensures c.if-two_gone.true

pub returns-else-two_gone : goal.returns-else-two_gone
returns-else-two_gone c =
    let f = c.args.f in
    back_has (stale_code (view c.args.b.now)) _ (hand_of f.a ∷ hand_of f.b ∷ []) (hand_of f.c ∷ hand_of f.d ∷ [])
    (names_four f c.if-f-eq2.true) _ c.two_gone.ensures c.if-two_gone.false _ c.two_gone-else-two_gone.ensures

pub returns-then-f-eq3 : goal.returns-then-f-eq3
returns-then-f-eq3 c = c.two_gone-then-f-eq3.ensures ∙ ap (any (stale_code (view c.args.b.now))) (sym (names_two c.args.f c.if-f-eq3.true))

pub returns-then-is_gone : goal.returns-then-is_gone
returns-then-is_gone c =
    first_has (stale_code (view c.args.b.now)) _ _ _ (names_three c.args.f c.if-f-eq6.true) _ c.is_gone.ensures c.if-is_gone.true

pub returns-else-is_gone : goal.returns-else-is_gone
returns-else-is_gone c =
    rest_has (stale_code (view c.args.b.now)) _ _ _ (names_three c.args.f c.if-f-eq6.true) _ c.is_gone.ensures c.if-is_gone.false
    _ c.two_gone-else-is_gone.ensures

pub returns : goal.returns
returns c =
    one_has (stale_code (view c.args.b.now)) _ _ _
    (names_one c.args.f c.requires.f_value c.if-f-eq1.false c.if-f-eq2.false c.if-f-eq3.false c.if-f-eq6.false) c.is_gone-2.ensures
