-- The top's words are written. Assumes nothing.
use mathlib.Core.Path.{sym, ap, ◌∙◌}
use borrow.Author.Rules.{rules}
use Rattle.group_lent.specs.Forms.{five_words}
use Rattle.group_lent.specs.declared.Five.{Five}
use Rattle.group_lent_takes.specs.Made.{maybe_seen}
use Rattle.group_lent_calls.proofs.peek.Goals as goal

pub returns : goal.returns
returns c =
    let p = c.peek-top in
    record {
      seen = ap (λ (f : Five). (p.result.number, maybe_seen f)) (sym p.ensures.top) ∙ p.ensures.seen;
      obstacle = c.put_in.ensures ∙ ap five_words p.ensures.top;
    }
