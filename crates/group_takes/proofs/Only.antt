-- No second answer: two results that meet a function's contract are one, since the contract shows each field of the result, and the group byte for
-- byte. Assumes nothing.
use mathlib.Core.Path.{◌≡◌, sym, ◌∙◌}
use Rattle.ledger_spec.specs.GroupCalls.{peek, pop}
use Rattle.groups.specs.View.{group_of}
use Rattle.groups.specs.declared.Group.{Group as Code}
use Rattle.group_takes.specs.Takes.{shown_peeked, shown_popped, after}
use Rattle.group_takes.specs.declared.Peeked.{Peeked}
use Rattle.group_takes.specs.declared.Popped.{Popped}

module _ (g : Code) where
  pub only_peek : (r s : Peeked) → shown_peeked r ≡ peek (group_of g) → shown_peeked s ≡ peek (group_of g) → r ≡ s
  only_peek r s p q = λ i. record { number = ((p ∙ sym q) i).0; obstacle = ((p ∙ sym q) i).1 }

  abbrev left : Code
  left = after (pop (group_of g)).0 (pop (group_of g)).1.1 g

  pub only_pop : (r s : Popped) → shown_popped r ≡ pop (group_of g) → r.group ≡ left → shown_popped s ≡ pop (group_of g) → s.group ≡ left → r ≡ s
  only_pop r s p a q b = λ i. record {
    number = ((p ∙ sym q) i).0;
    obstacle = ((p ∙ sym q) i).1.0;
    group = (a ∙ sym b) i;
  }
