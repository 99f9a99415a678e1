-- The read below answers; its number and its values as words are handed on. Assumes nothing.
use borrow.Author.Rules.{rules}
use Rattle.dual_ledger.proofs.Handing.{weighed}
use Rattle.dual_ledger.proofs.open_reads.dual_ledger_sum_grow_speed.Goals as goal

pub returns : goal.returns
returns c = weighed c.sum_grow_speed-a.result (search (rules, c.struct_told-1.given)) c.sum_grow_speed-a.ensures c.signed_word.ensures
