-- A group in words, looked at in place: which group the words say, and which words hold a sound one. Only what counts is looked at: of a growth
-- the first three words, of conflicts the head and the entries and stops below the counts. Every other word may be anything. Assumes nothing.
use Rattle.std.specs.Prelude.{ℕ, zero, suc, ◌≤◌, ◌<◌, ◌≡◌, true, ◌⊎◌, List, [], ◌∷◌, eqb, length, get_or}
use Rattle.kinds.specs.declared.Entry.{Entry}
use Rattle.kinds.specs.declared.Stop.{Stop}
use Rattle.bench_words.specs.Codec.{pick}
use Rattle.ledger_spec.specs.Groups.{Group, growth, conflicts, sound_group}
use Rattle.group_lent.specs.Forms.{length_of}
use Rattle.group_lent.specs.Groups.{entry_form, entry_at, stop_form, stop_at}

-- f at i, i + 1, .., n of them
unfoldable pub run : {A : Type 0} → (ℕ → A) → ℕ → ℕ → List A
run f i zero = []
run f i (suc n) = f i ∷ run f (suc i) n

-- ---- the head

abbrev pub kind_in : List ℕ → ℕ
kind_in ws = get_or ws 0 0

abbrev pub length_in : List ℕ → ℕ
length_in ws = get_or ws 1 0

abbrev pub flag_in : List ℕ → ℕ
flag_in ws = get_or ws 2 0

abbrev pub listed : List ℕ → ℕ
listed ws = get_or ws 3 0

abbrev pub stopped : List ℕ → ℕ
stopped ws = get_or ws 4 0

-- ---- the group

abbrev pub list_in : List ℕ → List Entry
list_in ws = run (entry_at ws) 0 (listed ws)

abbrev pub stops_in : List ℕ → List Stop
stops_in ws = run (stop_at ws) 0 (stopped ws)

unfoldable pub group_in : List ℕ → Group
group_in ws = pick (eqb (kind_in ws) 1) (growth (length_of (length_in ws)) (eqb (flag_in ws) 1)) (conflicts (list_in ws) (stops_in ws))

-- ---- a sound one

pub record Growing (ws : List ℕ) : Type 0 where
  pub kind : kind_in ws ≡ 1
  pub flag : flag_in ws ≤ 1

pub record Listing (ws : List ℕ) : Type 0 where
  pub kind : kind_in ws ≡ 2
  pub plain : length_in ws ≡ 0
  pub blank : flag_in ws ≡ 0
  pub few : listed ws ≤ 128
  pub fewer : stopped ws ≤ 128
  pub list : (i : ℕ) → i < listed ws → entry_form ws i ≡ true
  pub stops : (i : ℕ) → i < stopped ws → stop_form ws i ≡ true
  pub sound : sound_group (conflicts (list_in ws) (stops_in ws)) ≡ true

pub record SoundGroup (ws : List ℕ) : Type 0 where
  pub long : length ws ≡ 1413
  pub either : Growing ws ⊎ Listing ws
