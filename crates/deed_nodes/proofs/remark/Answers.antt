-- T is at most the bias, so the value is at least T, and the bias for the new state is found from it. Assumes nothing.
use borrow.Author.Rules.{rules}
use Rattle.deed_nodes.proofs.Puts.{value_low, value_high}
use Rattle.deed_nodes.proofs.remark.Goals as goal

pub biased-bias-requires : goal.biased-bias-requires
biased-bias-requires c =
    let a = c.args in
    rw c.valued-value.ensures
    (value_low a.n.state a.n.bias a.t c.requires.0.least c.requires.1, value_high a.n.state a.n.bias a.t c.requires.0.most c.requires.1)

pub returns : goal.returns
returns c = rw (c.biased-bias.ensures, c.valued-value.ensures)
