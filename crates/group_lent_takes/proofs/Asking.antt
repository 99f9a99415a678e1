-- The three questions, answered by the first three words. Assumes nothing.
use Rattle.std.specs.Prelude.{None, Some}
use Prim.Native.Nat.{ℕ, ◌<◌}
use mathlib.Core.Path.{◌≡◌, refl, sym, ap, ap₂, ◌∙◌}
use mathlib.Core.Bool.{Bool, true, false, not, cond, ◌&&◌, ◌||◌}
use mathlib.Core.Logic.{◌⊎◌, inl, inr}
use mathlib.Core.List.{List, [], ◌∷◌}
use native.Mathlib.Omega.{arith}
use borrow.Author.Tests.{ltb-false, ne_eqb, eq-eqb}
use lib.Dec.{eqb, ltb}
use lib.IntN.{ℤ}
use lib.ListN.{length, get_or}
use lib.Seq.{length-sets}
use Rattle.ledger_spec.specs.Groups.{growth, conflicts, largest, eq_z}
use Rattle.ledger_spec.specs.GroupCalls.{is_empty, is_active, growth_of}
use Rattle.groups.proofs.Asking.{empty_is, active_is, growth_largest, growth_is}
use Rattle.group_lent.specs.Forms.{length_of}
use Rattle.group_lent.specs.Place.{kind_in, length_in, flag_in, list_in, stops_in, group_in, Growing, Listing, SoundGroup}
use Rattle.group_lent_takes.specs.After.{empty_words}
use Rattle.group_lent_takes.specs.Made.{Emptied}
use Rattle.group_lent.proofs.Stores.{sets_in}
use Rattle.group_lent.proofs.Seen.{seen_growth, seen_conflicts, sound_in, is_listing}

-- a word is that of the largest weight
pub largest_word : (w : ℕ) → eq_z (length_of w) largest ≡ eqb w 9223372036854775807
largest_word w = go (ltb w 9223372036854775808) refl
  where
    go : (b : Bool) → ltb w 9223372036854775808 ≡ b → eq_z (length_of w) largest ≡ eqb w 9223372036854775807
    go true t = rw t
    go false t = rw t (sym (ne_eqb w 9223372036854775807 (λ e. omega (arith, ltb-false w 9223372036854775808 t))))

module _ (ws : List ℕ) (s : SoundGroup ws) where
  pub empty_in : (0, eqb (kind_in ws) 1 && eqb (length_in ws) 9223372036854775807) ≡ is_empty (group_in ws)
  empty_in = go s.either
    where
      go : Growing ws ⊎ Listing ws → (0, eqb (kind_in ws) 1 && eqb (length_in ws) 9223372036854775807) ≡ is_empty (group_in ws)
      go (inl g) =
          empty_is (group_in ws) (growth (length_of (length_in ws)) (eqb (flag_in ws) 1)) (sound_in ws s) (seen_growth ws g.kind) _
          (rw g.kind (sym (largest_word (length_in ws))))
      go (inr l) = empty_is (group_in ws) (conflicts (list_in ws) (stops_in ws)) (sound_in ws s) (seen_conflicts ws l.kind) _ (rw l.kind)

  pub active_in : (0, not (eqb (kind_in ws) 1) || (not (eqb (length_in ws) 9223372036854775807) || eqb (flag_in ws) 1)) ≡ is_active (group_in ws)
  active_in = go s.either
    where
      cases : (b f : Bool) → (not b || f) ≡ cond b f true
      cases true f = refl
      cases false f = refl

      go : Growing ws ⊎ Listing ws → (0, not (eqb (kind_in ws) 1) || (not (eqb (length_in ws) 9223372036854775807) || eqb (flag_in ws) 1)) ≡ is_active (group_in ws)
      go (inl g) =
          active_is (group_in ws) (growth (length_of (length_in ws)) (eqb (flag_in ws) 1)) (sound_in ws s) (seen_growth ws g.kind) _
          (rw g.kind (cases (eqb (length_in ws) 9223372036854775807) (eqb (flag_in ws) 1) ∙ ap (λ (b : Bool). cond b (eqb (flag_in ws) 1) true) (sym (largest_word (length_in ws)))))
      go (inr l) = active_is (group_in ws) (conflicts (list_in ws) (stops_in ws)) (sound_in ws s) (seen_conflicts ws l.kind) _ (rw l.kind)

  pub growth_none : (kind_in ws ≡ 1 → ⊥) → (0, None) ≡ growth_of (group_in ws)
  growth_none n = let l = is_listing ws s n in growth_is (group_in ws) (conflicts (list_in ws) (stops_in ws)) (sound_in ws s) (seen_conflicts ws l.kind) refl _ refl

  module _ (k : kind_in ws ≡ 1) where
    pub growth_nothing : length_in ws ≡ 9223372036854775807 → (21, None) ≡ growth_of (group_in ws)
    growth_nothing e =
        growth_largest (group_in ws) (growth (length_of (length_in ws)) (eqb (flag_in ws) 1)) (sound_in ws s) (seen_growth ws k)
        (largest_word (length_in ws) ∙ eq-eqb (length_in ws) 9223372036854775807 e)

    pub growth_some : (length_in ws ≡ 9223372036854775807 → ⊥) → (z : ℤ) → z ≡ length_of (length_in ws) → (0, Some z) ≡ growth_of (group_in ws)
    growth_some n z e =
        growth_is (group_in ws) (growth (length_of (length_in ws)) (eqb (flag_in ws) 1)) (sound_in ws s) (seen_growth ws k)
        (largest_word (length_in ws) ∙ ne_eqb (length_in ws) 9223372036854775807 n) _ (ap Some e)

-- ---- the empty group, from any words

pub emptied : (ws : List ℕ) → length ws ≡ 1413 → Emptied ws (empty_words ws)
emptied ws long =
    let xs : List ℕ = 1 ∷ 9223372036854775807 ∷ 0 ∷ [] in
    let at : (k : ℕ) → k < 3 → get_or (empty_words ws) k 0 ≡ get_or xs k 0 = λ k h. sets_in ws 0 xs k k (omega arith) h (omega arith) in
    let kind = at 0 (omega arith) in
    record {
      words = refl;
      seen = seen_growth (empty_words ws) kind ∙ ap₂ growth (ap length_of (at 1 (omega arith))) (ap (λ (w : ℕ). eqb w 1) (at 2 (omega arith)));
      sound = record { long = length-sets ws 0 xs ∙ long; either = inl (record { kind = kind; flag = omega (arith, at 2 (omega arith)) }) };
    }
