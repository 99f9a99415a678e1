-- The call below answers; its number, its node as a word and the words are handed on. Assumes nothing.
use borrow.Author.Rules.{rules}
use mathlib.Core.Path.{◌∙◌, ap}
use Rattle.link_answers.specs.Forms.{node_word}
use Rattle.dual_ledger.proofs.trusted_calls.dual_ledger_trusted_create_defect_node.Goals as goal

pub returns : goal.returns
returns c = let A = c.create_defect_node-made.ensures in record { settled = A.0; node_after = c.node_word.ensures ∙ ap node_word A.1 }
