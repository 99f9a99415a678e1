-- Each stop is asked for itself. Assumes nothing.
use Rattle.std.proofs.Common.{◌+◌, ◌*◌, ◌∙◌, refl, rules, arith}
use borrow.Author.Tests.{tests}
use Rattle.std.proofs.lemmas.Iterator.{serves_from_Range, YieldsList-from_range}
use Rattle.std.proofs.lemmas.Iterator.Search.{any_from_yields_List}
use Rattle.ledger_spec.specs.Tests.{any}
use Rattle.ledger_spec.specs.GroupCalls.{stale_code, handles_of}
use Rattle.bench_views.specs.View.{view}
use Rattle.group_lent.specs.Forms.{five_at, obstacle_of}
use Rattle.group_lent.specs.Place.{stopped}
use Rattle.group_lent_nodes.proofs.Turns.{stops_by_any, stop_is}
use Rattle.group_lent_nodes.proofs.stops_gone.Goals as goal

pub any-requires-clause-callable : goal.any-requires-clause-callable
any-requires-clause-callable c =
    serves_from_Range (λ x q k. search (rules, tests)) (λ i low high. (
      λ _ _ _ _ _. omega (arith, c.requires.listing.fewer),
      λ _ _ _ _ _. omega (arith, c.requires.listing.fewer),
      λ _ _ _ _ _. omega (arith, c.requires.listing.fewer),
      λ _ _ _ _ _ _. omega (arith, c.requires.listing.fewer),
      λ _ _ _ _ _ f _. (c.requires.canon, rw f.ensures (stop_is c.args.w.now c.requires.listing i high)),
    ))

pub returns : goal.returns
returns c =
    let w = c.args.w.now in
    let gone = stale_code (view c.args.b.now) in
    any_from_yields_List (λ i. any gone (handles_of (obstacle_of (five_at w (645 + i * 6 + 1))))) _ _ c.any.result c.any.ensures.ran
    (YieldsList-from_range 0 (stopped w) (stopped w) refl (omega arith)) (λ x b q k. search (rules, tests))
    ∙ stops_by_any gone w 0 (stopped w)
