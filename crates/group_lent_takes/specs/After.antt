-- The words after each call, as words stored into the words before it: every other word is as it was. Assumes nothing.
use Rattle.std.specs.Prelude.{ℕ, zero, suc, ◌+◌, ◌-◌, ◌*◌, List, [], ◌∷◌, eqb, ltb, set}
use Rattle.std.proofs.lemmas.List.Edits.{sets}
use Rattle.std.specs.Int.Signed.{lt_z}
use Rattle.bench_words.specs.Codec.{pick}
use Rattle.group_lent.specs.Forms.{length_of, five, five_words, five_at}
use Rattle.group_lent.specs.declared.Five.{Five}
use Rattle.group_lent.specs.Moves.{slid}
use Rattle.group_lent.specs.Place.{kind_in, length_in, flag_in, listed, stopped}

abbrev pub empty_words : List ℕ → List ℕ
empty_words ws = sets ws 0 (1 ∷ 9223372036854775807 ∷ 0 ∷ [])

-- ---- add of a growth

abbrev pub least_word : ℕ → ℕ → ℕ
least_word a b = pick (lt_z (length_of b) (length_of a)) b a

abbrev pub either_word : ℕ → ℕ → ℕ
either_word a b = pick (eqb b 1) 1 a

unfoldable pub grown_words : List ℕ → Five → List ℕ
grown_words ws f = pick (eqb (kind_in ws) 1) (set (set ws 1 (least_word (length_in ws) f.a)) 2 (either_word (flag_in ws) f.b)) ws

-- ---- add of what is listed

-- conflicts with n entries and m stops
abbrev pub head_words : ℕ → ℕ → List ℕ
head_words n m = 2 ∷ 0 ∷ 0 ∷ n ∷ m ∷ []

-- the one entry f; entry n is f and the last
abbrev pub one_listed : List ℕ → Five → List ℕ
one_listed ws f = sets (sets ws 5 (five_words f)) 0 (head_words 1 0)

abbrev pub one_more : List ℕ → Five → List ℕ
one_more ws f = set (sets ws (5 + listed ws * 5) (five_words f)) 3 (listed ws + 1)

unfoldable pub listed_words : List ℕ → Five → List ℕ
listed_words ws f = pick (eqb (kind_in ws) 1) (one_listed ws f) (pick (ltb (listed ws) 128) (one_more ws f) ws)

-- ---- peek and pop

-- the words of the last entry, else of the first stop, else five zeros
unfoldable pub top_by : ℕ → ℕ → List ℕ → Five
top_by (suc n) m ws = five_at ws (5 + n * 5)
top_by zero (suc m) ws = five_at ws 646
top_by zero zero ws = five 0 0 0 0 0

unfoldable pub top_five : List ℕ → Five
top_five ws = pick (eqb (kind_in ws) 1) (five 0 0 0 0 0) (top_by (listed ws) (stopped ws) ws)

unfoldable pub popped_words : List ℕ → List ℕ
popped_words ws = pick (eqb (kind_in ws) 1) ws (set (set (slid ws 645 ((stopped ws - 1) * 6)) 3 (listed ws - 1)) 4 (stopped ws - 1))
