-- No second answer, by name, for each exported function (include/dual_ledger.h): two results that meet its contract are one, with every word that it wrote.
-- Where the contract is an equation with a definition, by its form; else by the theorem of its form: Once, here, of group_lent_any, and of link_text for
-- chunks and the input's end; the exported text lines stand in OnlyText. Assumes nothing.
use Rattle.std.specs.Prelude.{None}
use Prim.Native.Nat.{ℕ}
use mathlib.Core.Path.{◌≡◌, sym, ◌∙◌}
use mathlib.Core.Bool.{Bool, false}
use mathlib.Core.List.{List}
use lib.IntN.{ℤ}
use Rattle.ledger_spec.specs.Bench.{Handle, State, filling, floor}
use Rattle.ledger_spec.specs.Calls.{Call, Defect, Blossom, Expand, SetState, Grow, Fuse, Clear, Mark}
use Rattle.ledger_spec.specs.Reads.{sum_of, speed_of, count_of, fills_of, floored_of, handle_at_index, value_of, belongs}
use Rattle.ledger_spec.specs.Walk.{outer_of, below_of, first_vertex, vertices_into}
use Rattle.ledger_spec.specs.Check.{check_of, strict_of}
use Rattle.ledger_spec.specs.GroupCalls.{is_empty, is_active, growth_of}
use Rattle.ledger_spec.specs.Answers.{sum_read, speed_read, count_read, fills_read, floored_read, index_read, belongs_read, value_read, outer_read, below_read, first_read, vertices_read, check_read, strict_read}
use Rattle.bench_views.specs.View.{view}
use Rattle.sound_bench.specs.Sound.{sound_words}
use Rattle.sound_lent.specs.Verdict.{Verdict, read_words}
use Rattle.link_answers.specs.Forms.{node_word, indexed, flag_word, signed_word, outer_words, length_words, worded}
use Rattle.read_present.specs.Present.{present_of, next_of, present_read, next_read}
use Rattle.group_lent.specs.Place.{group_in}
use Rattle.group_lent_takes.specs.Made.{Emptied}
use Rattle.group_lent_sound.specs.Test.{sound_in}
use Rattle.group_lent_any.specs.Any.{asked_of}
use Rattle.dual_ledger.specs.Linked.{Settled, node_of, ToldBy, Left, CalledBy}
use Rattle.dual_ledger.specs.Nexts.{next_words}
use Rattle.dual_ledger.proofs.Once.{settled_once, told_once, left_once, called_once}

-- what is equal to z is one
abbrev pub Only : {A : Type 0} → A → Type 0
Only {A} z = (x y : A) → x ≡ z → y ≡ z → x ≡ y

one : {A : Type 0} (z : A) → Only z
one z x y p q = p ∙ sym q

-- ---- the tests
module _ (b : List ℕ) where
  pub only_is_sound : Only (flag_word (sound_words b))
  only_is_sound = one (flag_word (sound_words b))

  -- of crate sound_bench, and of sound_lent
  pub only_sound_test : Only (sound_words b)
  only_sound_test = one (sound_words b)

  pub only_is_bench : (s t : Bool) → Verdict b s → Verdict b t → s ≡ t
  only_is_bench s t x y = x.is ∙ sym y.is

  pub only_group_is_sound : Only (flag_word (sound_in b))
  only_group_is_sound = one (flag_word (sound_in b))

-- ---- the calls, on words b: on any words, with notices; on any words, without; on sound words, with notices; on sound words, without
module _ (b : List ℕ) where
  abbrev pub CalledOnce : Call → Type 0
  CalledOnce c = (n m : ℕ) (ws ws' ws'' b' b'' : List ℕ) → CalledBy b c n ws ws' b' → CalledBy b c m ws ws'' b'' → (n ≡ m) × ((ws' ≡ ws'') × (b' ≡ b''))

  abbrev pub LeftOnce : Call → Type 0
  LeftOnce c = (n m : ℕ) (b' b'' : List ℕ) → Left b c n b' → Left b c m b'' → (n ≡ m) × (b' ≡ b'')

  abbrev pub ToldOnce : Call → Type 0
  ToldOnce c = (n m : ℕ) (ws ws' ws'' b' b'' : List ℕ) → ToldBy b c n ws ws' b' → ToldBy b c m ws ws'' b'' → (n ≡ m) × ((ws' ≡ ws'') × (b' ≡ b''))

  abbrev pub SettledOnce : Call → Type 0
  SettledOnce c = (n m : ℕ) (b' b'' : List ℕ) → Settled b c n b' → Settled b c m b'' → (n ≡ m) × (b' ≡ b'')

  called : (c : Call) → CalledOnce c
  called c n m ws ws' ws'' b' b'' x y = called_once ws x y

  left : (c : Call) → LeftOnce c
  left c n m b' b'' x y = left_once x y

  told : (c : Call) → ToldOnce c
  told c n m ws ws' ws'' b' b'' x y = told_once ws x y

  settled : (c : Call) → SettledOnce c
  settled c n m b' b'' x y = settled_once x y

  module _ (u : ℕ) where
    pub only_create_defect_node : (v : ℕ) → CalledOnce (Defect u v)
    only_create_defect_node v = called (Defect u v)

    pub only_create_blossom : (hs : List Handle) (ts : List (Handle × Handle)) → CalledOnce (Blossom u hs ts)
    only_create_blossom hs ts = called (Blossom u hs ts)

    pub only_expand_blossom : (h : Handle) → CalledOnce (Expand u h)
    only_expand_blossom h = called (Expand u h)

    pub only_set_grow_state : (h : Handle) (s : State) → CalledOnce (SetState u h s)
    only_set_grow_state h s = called (SetState u h s)

    pub only_grow : (l : ℤ) → CalledOnce (Grow u l)
    only_grow l = called (Grow u l)

    pub only_fuse : (l r : ℕ) → LeftOnce (Fuse u l r)
    only_fuse l r = left (Fuse u l r)

    pub only_clear : LeftOnce (Clear u)
    only_clear = left (Clear u)

    pub only_mark_filling : LeftOnce (Mark u filling)
    only_mark_filling = left (Mark u filling)

    pub only_mark_floored : LeftOnce (Mark u floor)
    only_mark_floored = left (Mark u floor)

    pub only_told_create_defect_node : (v : ℕ) → ToldOnce (Defect u v)
    only_told_create_defect_node v = told (Defect u v)

    pub only_told_create_blossom : (hs : List Handle) (ts : List (Handle × Handle)) → ToldOnce (Blossom u hs ts)
    only_told_create_blossom hs ts = told (Blossom u hs ts)

    pub only_told_expand_blossom : (h : Handle) → ToldOnce (Expand u h)
    only_told_expand_blossom h = told (Expand u h)

    pub only_told_set_grow_state : (h : Handle) (s : State) → ToldOnce (SetState u h s)
    only_told_set_grow_state h s = told (SetState u h s)

    pub only_told_grow : (l : ℤ) → ToldOnce (Grow u l)
    only_told_grow l = told (Grow u l)

    pub only_trusted_create_defect_node : (v : ℕ) → SettledOnce (Defect u v) × Only (node_of b (Defect u v))
    only_trusted_create_defect_node v = (settled (Defect u v), one (node_of b (Defect u v)))

    pub only_trusted_create_blossom : (hs : List Handle) (ts : List (Handle × Handle)) → SettledOnce (Blossom u hs ts) × Only (node_of b (Blossom u hs ts))
    only_trusted_create_blossom hs ts = (settled (Blossom u hs ts), one (node_of b (Blossom u hs ts)))

    pub only_trusted_expand_blossom : (h : Handle) → SettledOnce (Expand u h)
    only_trusted_expand_blossom h = settled (Expand u h)

    pub only_trusted_set_grow_state : (h : Handle) (s : State) → SettledOnce (SetState u h s)
    only_trusted_set_grow_state h s = settled (SetState u h s)

    pub only_trusted_grow : (l : ℤ) → SettledOnce (Grow u l)
    only_trusted_grow l = settled (Grow u l)

    pub only_trusted_fuse : (l r : ℕ) → SettledOnce (Fuse u l r)
    only_trusted_fuse l r = settled (Fuse u l r)

    pub only_trusted_clear : SettledOnce (Clear u)
    only_trusted_clear = settled (Clear u)

    pub only_trusted_mark_filling : SettledOnce (Mark u filling)
    only_trusted_mark_filling = settled (Mark u filling)

    pub only_trusted_mark_floored : SettledOnce (Mark u floor)
    only_trusted_mark_floored = settled (Mark u floor)

-- ---- the reads of an interface: on any words, on sound ones
module _ (b : List ℕ) (u : ℕ) where
  pub only_sum_dual_variables : Only (worded signed_word (read_words b (sum_read (view b) u)))
  only_sum_dual_variables = one (worded signed_word (read_words b (sum_read (view b) u)))

  pub only_trusted_sum_dual_variables : Only (worded signed_word (sum_of (view b) u))
  only_trusted_sum_dual_variables = one (worded signed_word (sum_of (view b) u))

  pub only_sum_grow_speed : Only (worded signed_word (read_words b (speed_read (view b) u)))
  only_sum_grow_speed = one (worded signed_word (read_words b (speed_read (view b) u)))

  pub only_trusted_sum_grow_speed : Only (worded signed_word (speed_of (view b) u))
  only_trusted_sum_grow_speed = one (worded signed_word (speed_of (view b) u))

  pub only_nodes_count : Only (read_words b (count_read (view b) u))
  only_nodes_count = one (read_words b (count_read (view b) u))

  pub only_trusted_nodes_count : Only (count_of (view b) u)
  only_trusted_nodes_count = one (count_of (view b) u)

  pub only_is_filling : Only (worded flag_word (read_words b (fills_read (view b) u)))
  only_is_filling = one (worded flag_word (read_words b (fills_read (view b) u)))

  pub only_trusted_is_filling : Only (worded flag_word (fills_of (view b) u))
  only_trusted_is_filling = one (worded flag_word (fills_of (view b) u))

  pub only_is_floored : Only (worded flag_word (read_words b (floored_read (view b) u)))
  only_is_floored = one (worded flag_word (read_words b (floored_read (view b) u)))

  pub only_trusted_is_floored : Only (worded flag_word (floored_of (view b) u))
  only_trusted_is_floored = one (worded flag_word (floored_of (view b) u))

  pub only_get_node : (k : ℕ) → Only (indexed (read_words b (index_read (view b) u k)))
  only_get_node k = one (indexed (read_words b (index_read (view b) u k)))

  pub only_trusted_get_node : (k : ℕ) → Only (indexed (handle_at_index (view b) u k))
  only_trusted_get_node k = one (indexed (handle_at_index (view b) u k))

  pub only_present_count : Only (read_words b (present_read (view b) u))
  only_present_count = one (read_words b (present_read (view b) u))

  pub only_trusted_present_count : Only (present_of (view b) u)
  only_trusted_present_count = one (present_of (view b) u)

  pub only_next_present : (k : ℕ) → Only (next_words (read_words b (next_read (view b) u k)))
  only_next_present k = one (next_words (read_words b (next_read (view b) u k)))

  pub only_trusted_next_present : (k : ℕ) → Only (next_words (next_of (view b) u k))
  only_trusted_next_present k = one (next_words (next_of (view b) u k))

  pub only_check_ptr_belonging : (h : Handle) → Only (worded flag_word (read_words b (belongs_read (view b) u h)))
  only_check_ptr_belonging h = one (worded flag_word (read_words b (belongs_read (view b) u h)))

  pub only_trusted_check_ptr_belonging : (h : Handle) → Only (worded flag_word (belongs (view b) u h))
  only_trusted_check_ptr_belonging h = one (worded flag_word (belongs (view b) u h))

  pub only_sanity_check : Only (read_words b (check_read (view b) u))
  only_sanity_check = one (read_words b (check_read (view b) u))

  pub only_trusted_sanity_check : Only (check_of (view b) u)
  only_trusted_sanity_check = one (check_of (view b) u)

  pub only_strict_check : Only (read_words b (strict_read (view b) u))
  only_strict_check = one (read_words b (strict_read (view b) u))

  pub only_trusted_strict_check : Only (strict_of (view b) u)
  only_trusted_strict_check = one (strict_of (view b) u)

-- ---- the reads of a node
module _ (b : List ℕ) (h : Handle) where
  pub only_get_dual_variable : Only (worded signed_word (read_words b (value_read (view b) h)))
  only_get_dual_variable = one (worded signed_word (read_words b (value_read (view b) h)))

  pub only_trusted_get_dual_variable : Only (worded signed_word (value_of (view b) h))
  only_trusted_get_dual_variable = one (worded signed_word (value_of (view b) h))

  pub only_get_ancestor_blossom : Only (worded outer_words (read_words b (outer_read (view b) h)))
  only_get_ancestor_blossom = one (worded outer_words (read_words b (outer_read (view b) h)))

  pub only_trusted_get_ancestor_blossom : Only (worded outer_words (outer_of (view b) h))
  only_trusted_get_ancestor_blossom = one (worded outer_words (outer_of (view b) h))

  pub only_get_secondary_ancestor_blossom : Only (worded node_word (read_words b (below_read (view b) h)))
  only_get_secondary_ancestor_blossom = one (worded node_word (read_words b (below_read (view b) h)))

  pub only_trusted_get_secondary_ancestor_blossom : Only (worded node_word (below_of (view b) h))
  only_trusted_get_secondary_ancestor_blossom = one (worded node_word (below_of (view b) h))

  pub only_get_representative_vertex : Only (read_words b (first_read (view b) h))
  only_get_representative_vertex = one (read_words b (first_read (view b) h))

  pub only_trusted_get_representative_vertex : Only (first_vertex (view b) h)
  only_trusted_get_representative_vertex = one (first_vertex (view b) h)

  -- the count and the whole slice
  pub only_get_all_vertices : (out : List ℕ) → Only (read_words b (vertices_read (view b) h out))
  only_get_all_vertices out = one (read_words b (vertices_read (view b) h out))

  pub only_trusted_get_all_vertices : (out : List ℕ) → Only (vertices_into (view b) h out)
  only_trusted_get_all_vertices out = one (vertices_into (view b) h out)

-- ---- groups: what is asked, and the empty one; the others in group_lent_any (Once)
module _ (ws : List ℕ) where
  pub only_empty_group : (after later : List ℕ) → Emptied ws after → Emptied ws later → after ≡ later
  only_empty_group after later x y = x.words ∙ sym y.words

  pub only_group_is_empty : Only (worded flag_word (asked_of ws false is_empty))
  only_group_is_empty = one (worded flag_word (asked_of ws false is_empty))

  pub only_trusted_group_is_empty : Only (worded flag_word (is_empty (group_in ws)))
  only_trusted_group_is_empty = one (worded flag_word (is_empty (group_in ws)))

  pub only_group_is_active : Only (worded flag_word (asked_of ws false is_active))
  only_group_is_active = one (worded flag_word (asked_of ws false is_active))

  pub only_trusted_group_is_active : Only (worded flag_word (is_active (group_in ws)))
  only_trusted_group_is_active = one (worded flag_word (is_active (group_in ws)))

  pub only_group_get_none_zero_growth : Only (worded length_words (asked_of ws None growth_of))
  only_group_get_none_zero_growth = one (worded length_words (asked_of ws None growth_of))

  pub only_trusted_group_get_none_zero_growth : Only (worded length_words (growth_of (group_in ws)))
  only_trusted_group_get_none_zero_growth = one (worded length_words (growth_of (group_in ws)))
