-- No second answer: two results that meet the contract are one, the group byte for byte. Assumes nothing.
use mathlib.Core.Path.{◌≡◌, sym, ◌∙◌}
use Rattle.ledger_sparing.specs.Sparing.{pop_sparing}
use Rattle.groups.specs.View.{group_of}
use Rattle.groups.specs.declared.Group.{Group as Code}
use Rattle.group_takes.specs.Takes.{shown_popped, after}
use Rattle.group_takes.specs.declared.Popped.{Popped}

module _ (g : Code) where
  abbrev left : Code
  left = after (pop_sparing (group_of g)).0 (pop_sparing (group_of g)).1.1 g

  pub only_pop_sparing_stops : (r s : Popped) → shown_popped r ≡ pop_sparing (group_of g) → r.group ≡ left → shown_popped s ≡ pop_sparing (group_of g) → s.group ≡ left → r ≡ s
  only_pop_sparing_stops r s p a q b = λ i. record {
    number = ((p ∙ sym q) i).0;
    obstacle = ((p ∙ sym q) i).1.0;
    group = (a ∙ sym b) i;
  }
