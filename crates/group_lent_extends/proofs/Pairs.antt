-- A growth extended by a growth: the two words are the ledger's smaller pair. Assumes nothing.
use Prim.Native.Nat.{ℕ, ◌≤◌}
use mathlib.Core.Path.{◌≡◌, refl, sym, ap, ap₂, ◌∙◌}
use mathlib.Core.Bool.{Bool, true, false, cond, ◌&&◌}
use mathlib.Core.Logic.{inl}
use mathlib.Core.List.{List, [], ◌∷◌}
use native.Mathlib.Omega.{arith}
use lib.Dec.{eqb}
use lib.IntN.{ℤ}
use lib.ListN.{length}
use lib.Seq.{sets, length-sets}
use lib.Signed.{lt_z}
use Rattle.bench_words.specs.Codec.{pick}
use Rattle.ledger_spec.specs.Groups.{growth, largest, eq_z, smaller_pair}
use Rattle.group_lent.specs.Forms.{length_of}
use Rattle.group_lent.specs.Place.{kind_in, length_in, flag_in, group_in, Growing, SoundGroup}
use Rattle.group_lent.proofs.Stores.{sets_out, sets_in}
use Rattle.group_lent.proofs.Seen.{seen_growth}
use Rattle.group_lent_takes.proofs.Asking.{largest_word}
use Rattle.group_lent_extends.specs.Extends.{length_after, flag_after, paired_words}

both_is : (f h : ℕ) → eqb (pick (eqb f 1) h 0) 1 ≡ (eqb f 1 && eqb h 1)
both_is f h = go (eqb f 1)
  where
    go : (t : Bool) → eqb (pick t h 0) 1 ≡ (t && eqb h 1)
    go true = refl
    go false = refl

pub pair_is : (a f b h : ℕ) → growth (length_of (length_after a b)) (eqb (flag_after a f b h) 1) ≡ cond (eq_z (length_of b) largest) (growth (length_of a) (eqb f 1)) (smaller_pair (length_of a) (eqb f 1) (length_of b) (eqb h 1))
unfolding length_after flag_after smaller_pair
pair_is a f b h =
    go (eqb b 9223372036854775807) (lt_z (length_of b) (length_of a)) (lt_z (length_of a) (length_of b))
    ∙ sym (ap (λ (t : Bool). cond t (growth (length_of a) (eqb f 1)) (smaller_pair (length_of a) (eqb f 1) (length_of b) (eqb h 1))) (largest_word b))
  where
    go : (p q r : Bool) → growth (length_of (pick p a (pick q b a))) (eqb (pick p f (pick q h (pick r f (pick (eqb f 1) h 0)))) 1)
        ≡ cond p (growth (length_of a) (eqb f 1)) (cond q (growth (length_of b) (eqb h 1)) (cond r (growth (length_of a) (eqb f 1)) (growth (length_of a) (eqb f 1 && eqb h 1))))
    go true q r = refl
    go false true r = refl
    go false false true = refl
    go false false false = ap (growth (length_of a)) (both_is f h)

flag_low : (a f b h : ℕ) → f ≤ 1 → h ≤ 1 → flag_after a f b h ≤ 1
unfolding flag_after
flag_low a f b h p q = go (eqb b 9223372036854775807) (lt_z (length_of b) (length_of a)) (lt_z (length_of a) (length_of b)) (eqb f 1)
  where
    go : (s t u v : Bool) → pick s f (pick t h (pick u f (pick v h 0))) ≤ 1
    go true t u v = p
    go false true u v = q
    go false false true v = p
    go false false false true = q
    go false false false false = omega arith

module _ (ws vs : List ℕ) (long : length ws ≡ 1413) (g : Growing ws) (o : Growing vs) where
  abbrev l : ℕ
  l = length_after (length_in ws) (length_in vs)

  abbrev h : ℕ
  h = flag_after (length_in ws) (flag_in ws) (length_in vs) (flag_in vs)

  abbrev after : List ℕ
  after = sets ws 1 (l ∷ h ∷ [])

  kind_after : kind_in after ≡ 1
  kind_after = sets_out ws 1 (l ∷ h ∷ []) 0 (λ i. absurd (omega arith)) ∙ g.kind

  length_is : length_in after ≡ l
  length_is = sets_in ws 1 (l ∷ h ∷ []) 0 1 refl (omega arith) (omega arith)

  flag_is : flag_in after ≡ h
  flag_is = sets_in ws 1 (l ∷ h ∷ []) 1 2 refl (omega arith) (omega arith)

  pub paired_seen : group_in (paired_words ws vs) ≡ cond (eq_z (length_of (length_in vs)) largest) (growth (length_of (length_in ws)) (eqb (flag_in ws) 1)) (smaller_pair (length_of (length_in ws)) (eqb (flag_in ws) 1) (length_of (length_in vs)) (eqb (flag_in vs) 1))
  paired_seen =
      seen_growth after kind_after
      ∙ ap₂ growth (ap length_of length_is) (ap (λ (w : ℕ). eqb w 1) flag_is)
      ∙ pair_is (length_in ws) (flag_in ws) (length_in vs) (flag_in vs)

  pub paired_sound : SoundGroup (paired_words ws vs)
  paired_sound = record {
    long = length-sets ws 1 (l ∷ h ∷ []) ∙ long;
    either = inl (record { kind = kind_after; flag = rw flag_is (flag_low (length_in ws) (flag_in ws) (length_in vs) (flag_in vs) g.flag o.flag) });
  }

-- ---- each way through the code

module _ (a b : ℕ) (x y : ℤ) (p : x ≡ length_of a) (q : y ≡ length_of b) where
  pub less_is : (t : Bool) → lt_z y x ≡ t → lt_z (length_of b) (length_of a) ≡ t
  less_is t e = sym (λ i. lt_z (q i) (p i)) ∙ e

  pub more_is : (t : Bool) → lt_z x y ≡ t → lt_z (length_of a) (length_of b) ≡ t
  more_is t e = sym (λ i. lt_z (p i) (q i)) ∙ e
