-- What words say, by windows of them: entries and stops that read the same, and the group of a head. Assumes nothing.
use Prim.Native.Nat.{ℕ, suc, ◌+◌, ◌*◌, ◌<◌, ◌≤◌}
use mathlib.Core.Path.{◌≡◌, refl, ap, ◌∙◌}
use mathlib.Core.Bool.{true}
use mathlib.Core.Logic.{◌⊎◌, inl, inr}
use mathlib.Core.List.{List}
use native.Mathlib.Omega.{arith}
use lib.Dec.{eqb}
use lib.ListN.{length, get_or}
use lib.Seq.{sets}
use Rattle.ledger_spec.specs.Groups.{Group, growth, conflicts, sound_group}
use Rattle.group_lent.specs.Forms.{length_of, five, five_words, five_at}
use Rattle.group_lent.specs.Groups.{entry_form, entry_at, stop_read, stop_form, stop_at}
use Rattle.group_lent.specs.declared.Five.{Five}
use Rattle.group_lent.specs.Groups.{ReadStop}
use Rattle.group_lent.specs.Place.{kind_in, length_in, flag_in, listed, stopped, list_in, stops_in, group_in, Growing, Listing, SoundGroup}
use Rattle.group_lent.proofs.Stores.{sets_out, sets_in}

-- the k words of ws' from m' on are those of ws from m on
abbrev pub Reads : List ℕ → ℕ → List ℕ → ℕ → ℕ → Type 0
Reads ws m ws' m' k = (x j j' : ℕ) → x < k → j ≡ m + x → j' ≡ m' + x → get_or ws' j' 0 ≡ get_or ws j 0

-- a window that no store of a run touches
pub out_reads : (ws : List ℕ) (i : ℕ) (xs : List ℕ) (m k : ℕ) → (i < m + k → i + length xs ≤ m) → Reads ws m (sets ws i xs) m k
out_reads ws i xs m k d = λ x j j' h e e'. let z : j' ≡ j = omega arith in rw z (sets_out ws i xs j (λ l. omega (arith, d (omega arith))))

pub then_reads : (u v w : List ℕ) (l m n k : ℕ) → Reads u l v m k → Reads v m w n k → Reads u l w n k
then_reads u v w l m n k r s = λ x j j' h e e'. s x (m + x) j' h refl e' ∙ r x j (m + x) h e refl

module _ (ws : List ℕ) (m : ℕ) (ws' : List ℕ) (m' : ℕ) where
  pub five_reads : Reads ws m ws' m' 5 → five_at ws' m' ≡ five_at ws m
  unfolding five_at
  five_reads r =
      let a = r 0 m m' (omega arith) (omega arith) (omega arith) in
      let b = r 1 (m + 1) (m' + 1) (omega arith) refl refl in
      let c = r 2 (m + 2) (m' + 2) (omega arith) refl refl in
      let d = r 3 (m + 3) (m' + 3) (omega arith) refl refl in
      let e = r 4 (m + 4) (m' + 4) (omega arith) refl refl in
      λ i. five (a i) (b i) (c i) (d i) (e i)

module _ (ws : List ℕ) (m : ℕ) (ws' : List ℕ) (m' : ℕ) where
  pub stop_reads : Reads ws m ws' m' 6 → stop_read ws' m' ≡ stop_read ws m
  unfolding stop_read
  stop_reads r =
      rw (
        r 0 m m' (omega arith) (omega arith) (omega arith),
        five_reads ws (m + 1) ws' (m' + 1) (λ x j j' h e e'. r (suc x) j j' (omega arith) (omega arith) (omega arith)),
      )

-- the words of one place
pub one_read : (u v : List ℕ) (j : ℕ) → Reads u j v j 1 → get_or v j 0 ≡ get_or u j 0
one_read u v j r = r 0 j j (omega arith) (omega arith) (omega arith)

-- five words just stored
pub five_put : (ws : List ℕ) (m : ℕ) (f : Five) → m + 5 ≤ length ws → five_at (sets ws m (five_words f)) m ≡ f
unfolding five_at
five_put ws m f h =
    let at : (k j : ℕ) → j ≡ m + k → k < 5 → get_or (sets ws m (five_words f)) j 0 ≡ get_or (five_words f) k 0 = λ k j e l. sets_in ws m (five_words f) k j e l h in
    let a = at 0 m (omega arith) (omega arith) in
    let b = at 1 (m + 1) refl (omega arith) in
    let c = at 2 (m + 2) refl (omega arith) in
    let d = at 3 (m + 3) refl (omega arith) in
    let e = at 4 (m + 4) refl (omega arith) in
    λ i. five (a i) (b i) (c i) (d i) (e i)

-- ---- entry i and stop i

module _ (ws ws' : List ℕ) (i : ℕ) where
  pub entry_same : Reads ws (5 + i * 5) ws' (5 + i * 5) 5 → entry_at ws' i ≡ entry_at ws i
  unfolding entry_at
  entry_same r = rw (five_reads ws (5 + i * 5) ws' (5 + i * 5) r)

  pub entry_form_lem : Reads ws (5 + i * 5) ws' (5 + i * 5) 5 → entry_form ws i ≡ true → entry_form ws' i ≡ true
  unfolding entry_form
  entry_form_lem r e = rw (five_reads ws (5 + i * 5) ws' (5 + i * 5) r) e

module _ (ws ws' : List ℕ) (i k : ℕ) where
  pub stop_same : Reads ws (645 + i * 6) ws' (645 + k * 6) 6 → stop_at ws' k ≡ stop_at ws i
  unfolding stop_at
  stop_same r = ap (λ (s : ReadStop). s.stop) (stop_reads ws (645 + i * 6) ws' (645 + k * 6) r)

  pub stop_form_lem : Reads ws (645 + i * 6) ws' (645 + k * 6) 6 → stop_form ws i ≡ true → stop_form ws' k ≡ true
  unfolding stop_form
  stop_form_lem r e = ap (λ (s : ReadStop). s.ok) (stop_reads ws (645 + i * 6) ws' (645 + k * 6) r) ∙ e

-- ---- the group

module _ (ws : List ℕ) where
  pub seen_growth : kind_in ws ≡ 1 → group_in ws ≡ growth (length_of (length_in ws)) (eqb (flag_in ws) 1)
  unfolding group_in
  seen_growth e = rw e

  pub seen_conflicts : kind_in ws ≡ 2 → group_in ws ≡ conflicts (list_in ws) (stops_in ws)
  unfolding group_in
  seen_conflicts e = rw e

  pub sound_in : SoundGroup ws → sound_group (group_in ws) ≡ true
  unfolding sound_group
  sound_in s = go s.either
    where
      go : Growing ws ⊎ Listing ws → sound_group (group_in ws) ≡ true
      go (inl g) = ap sound_group (seen_growth g.kind)
      go (inr l) = ap sound_group (seen_conflicts l.kind) ∙ l.sound

  pub is_growing : SoundGroup ws → kind_in ws ≡ 1 → Growing ws
  is_growing s e = go s.either
    where
      go : Growing ws ⊎ Listing ws → Growing ws
      go (inl g) = g
      go (inr l) = absurd (omega (arith, l.kind, e))

  pub is_listing : SoundGroup ws → (kind_in ws ≡ 1 → ⊥) → Listing ws
  is_listing s n = go s.either
    where
      go : Growing ws ⊎ Listing ws → Listing ws
      go (inl g) = absurd (n g.kind)
      go (inr l) = l

-- words that say sound conflicts, the ledger's q
pub to_listing : (ws : List ℕ) (q : Group) → length ws ≡ 1413 → kind_in ws ≡ 2 → length_in ws ≡ 0 → flag_in ws ≡ 0 → listed ws ≤ 128 → stopped ws ≤ 128
    → ((i : ℕ) → i < listed ws → entry_form ws i ≡ true) → ((i : ℕ) → i < stopped ws → stop_form ws i ≡ true) → conflicts (list_in ws) (stops_in ws) ≡ q → sound_group q ≡ true → SoundGroup ws
to_listing ws q long k a b n m es ss e s =
    record { long = long; either = inr (record { kind = k; plain = a; blank = b; few = n; fewer = m; list = es; stops = ss; sound = ap sound_group e ∙ s }) }
