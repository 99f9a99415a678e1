-- An obstacle's five words, as include/dual_ledger.h has them: which five words are an obstacle's, and which one they say. In them every word of 2^41
-- and more is one and the same handle, which names no node. Assumes nothing.
use Rattle.std.specs.Prelude.{None, Some, ℕ, ◌+◌, ◌-◌, ◌%◌, Bool, true, false, ◌&&◌, ◌||◌, List, [], ◌∷◌, eqb, leb, ltb, ℤ, pos, negsuc, get_or}
use Rattle.kinds.specs.Names.{no_code}
use Rattle.kinds.specs.declared.Pair.{Pair}
use Rattle.kinds.specs.declared.Obstacle.{Obstacle}
use Rattle.kinds.specs.declared.Obstacle.TheVariants.{NonZeroGrow, Conflicting, TouchingVirtual, BlossomNeedExpand, VertexShrinkStop}
use Rattle.bench_words.specs.Codec.{past_handles, pick, hand_of}
use Rattle.group_lent.specs.declared.Five.{Five}

-- ---- single words

-- a signed length as C has it when it casts an int64_t to a uint64_t: below 0 it is 2^64 more
abbrev pub length_of : ℕ → ℤ
length_of w = pick (ltb w 9223372036854775808) (pos w) (negsuc (18446744073709551615 - w))

-- two words of the same handle
abbrev pub same_hand : ℕ → ℕ → Bool
same_hand a b = eqb a b || (leb past_handles a && leb past_handles b)

abbrev pub pair_of : ℕ → ℕ → Pair
pair_of a b = record { node = hand_of a; touching = hand_of b }

-- ---- five words

abbrev pub five : ℕ → ℕ → ℕ → ℕ → ℕ → Five
five k a b c d = record { kind = k; a = a; b = b; c = c; d = d }

abbrev pub five_words : Five → List ℕ
five_words f = f.kind ∷ f.a ∷ f.b ∷ f.c ∷ f.d ∷ []

abbrev pub is_zero : ℕ → Bool
is_zero w = eqb w 0

abbrev pub by_kind {ℓ} : {A : Type ℓ} → ℕ → A → A → A → A → A → A → A → A
by_kind k grow conflict virtual expand stop pair other =
    pick (eqb k 1) grow
    (pick (eqb k 2) conflict
    (pick (eqb k 3) virtual
    (pick (eqb k 4) expand
    (pick (eqb k 5) stop
    (pick (eqb k 6) pair other)))))

-- the words are those of an obstacle: no other kind, a flag 0 or 1, a vertex below 2^32, 0 where nothing is said; any word is a handle
unfoldable pub is_form : Five → Bool
is_form f =
    by_kind f.kind
    (leb f.b 1 && (is_zero f.c && is_zero f.d))
    true
    (ltb f.c 4294967296 && leb f.d 1)
    (is_zero f.b && (is_zero f.c && is_zero f.d))
    (is_zero f.b && (is_zero f.c && is_zero f.d))
    (is_zero f.d)
    false

-- what they say; only where they are an obstacle's does it count
unfoldable pub obstacle_of : Five → Obstacle
obstacle_of f =
    by_kind f.kind
    (NonZeroGrow (length_of f.a) (eqb f.b 1))
    (Conflicting (pair_of f.a f.b) (pair_of f.c f.d))
    (TouchingVirtual (pair_of f.a f.b) (record { 0 = f.c % 4294967296 }) (eqb f.d 1))
    (BlossomNeedExpand (hand_of f.a))
    (VertexShrinkStop (hand_of f.a) None)
    (VertexShrinkStop (hand_of f.a) (Some (pair_of f.b f.c)))
    (BlossomNeedExpand no_code)

-- the five words from place m on
unfoldable pub five_at : List ℕ → ℕ → Five
five_at ws m = five (get_or ws m 0) (get_or ws (m + 1) 0) (get_or ws (m + 2) 0) (get_or ws (m + 3) 0) (get_or ws (m + 4) 0)
