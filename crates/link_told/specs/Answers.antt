-- The answer of a call that tells notices, written over 199 words of the caller's: the node, how many notices and how many members of the circle, the
-- notices two words each, and from word 135 on the circle. Every other word stays as it was. Assumes nothing.
use Rattle.std.specs.Prelude.{ℕ, List, [], ◌∷◌, map, length}
use Rattle.std.proofs.lemmas.List.Edits.{sets}
use Rattle.ledger_spec.specs.Bench.{Handle, State, grows, stays, shrinks}
use Rattle.ledger_spec.specs.Notices.{Notice, defect_added, state_set, shrink_prepared, blossom_added, blossom_removed, grown}
use Rattle.ledger_spec.specs.Answers.{Answer}
use Rattle.outcome_notices.specs.Laid.{circle_in}
use Rattle.link_answers.specs.Forms.{node_word, signed_word}

abbrev pub state_kind : State → ℕ
state_kind stays = 2
state_kind grows = 3
state_kind shrinks = 4

-- a notice's kind
abbrev pub kind_word : Notice → ℕ
kind_word (defect_added h) = 1
kind_word (state_set h s) = state_kind s
kind_word (shrink_prepared hs) = 5
kind_word (blossom_added h) = 6
kind_word (blossom_removed h) = 7
kind_word (grown l) = 8

-- and what it is of: a node or a length
abbrev pub what_word : Notice → ℕ
what_word (defect_added h) = node_word h
what_word (state_set h s) = node_word h
what_word (shrink_prepared hs) = 0
what_word (blossom_added h) = node_word h
what_word (blossom_removed h) = node_word h
what_word (grown l) = signed_word l

abbrev pub told_words : List Notice → List ℕ
told_words [] = []
told_words (n ∷ ns) = kind_word n ∷ what_word n ∷ told_words ns

-- the words that stand first: node, counts, notices
abbrev pub front_words : Handle → List Notice → List ℕ
front_words h ns = node_word h ∷ length ns ∷ length (circle_in ns) ∷ told_words ns

-- a node and notices, written over ws
unfoldable pub said_over : List ℕ → Handle → List Notice → List ℕ
said_over ws h ns = sets (sets ws 0 (front_words h ns)) 135 (map node_word (circle_in ns))

-- an answer, written over ws
abbrev pub answer_over : List ℕ → Answer → List ℕ
answer_over ws a = said_over ws a.node a.notices
