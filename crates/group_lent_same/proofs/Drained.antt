-- THEOREM, of the exported pop that spares the stops: any run of it on words that hold a sound group answers as the ledger's pops do; so conflicts come out
-- whole, the list from its end, then the stops by rising vertex, each once, and then none for ever. Assumes nothing.
use Rattle.std.specs.Prelude.{Option}
use Prim.Native.Nat.{ℕ, ◌+◌}
use mathlib.Core.Path.{◌≡◌, refl, sym, ap, ap₂, ◌∙◌}
use mathlib.Core.Bool.{Bool, true, false, false≢true}
use mathlib.Core.List.{List, [], ◌∷◌, ◌++◌}
use native.Mathlib.Omega.{arith}
use lib.ListN.{length}
use Rattle.kinds.specs.declared.Obstacle.{Obstacle}
use Rattle.bench_words.specs.Codec.{pick}
use Rattle.ledger_spec.specs.Groups.{Group, conflicts}
use Rattle.ledger_sparing.specs.Drain.{answers, left, entries_of, given_out, nothings}
use Rattle.ledger_sparing.proofs.Drains.{drained}
use Rattle.group_lent.specs.Forms.{five_words, five_at}
use Rattle.group_lent.specs.Groups.{entry_at, stop_at}
use Rattle.group_lent.specs.Place.{kind_in, listed, stopped, list_in, stops_in, group_in, Listing, SoundGroup}
use Rattle.group_lent.proofs.Stores.{run_long}
use Rattle.group_lent.proofs.Seen.{seen_conflicts, is_listing}
use Rattle.group_lent_takes.specs.After.{top_five}
use Rattle.group_lent_takes.specs.Made.{maybe_seen}
use Rattle.group_lent_sound.specs.Test.{sound_in}
use Rattle.group_lent_sound.proofs.Sound.{of_sound}
use Rattle.group_lent_calls.specs.Calls.{Spared}
use Rattle.group_lent_any.specs.Any.{SparedAny, no_obstacle}
use Rattle.group_lent_same.specs.Drawn.{Reply, Drawn, stop, next, shown_replies}

-- words that hold a sound group are not BROKEN
picked : (b : Bool) (X Y : Type 0) → b ≡ true → pick b X Y → X
picked true X Y e x = x
picked false X Y e y = absurd (false≢true e)

on_sound : (ws : List ℕ) (n : ℕ) (os after : List ℕ) → SoundGroup ws → SparedAny ws n os after → Spared ws n os after
on_sound ws n os after s x = picked (sound_in ws) (Spared ws n os after) ((n ≡ 2) × ((os ≡ no_obstacle) × (after ≡ ws))) (of_sound ws s) x

-- five words say the obstacle that was on top
told : (ws os : List ℕ) → os ≡ five_words (top_five ws) → maybe_seen (five_at os 0) ≡ maybe_seen (top_five ws)
unfolding five_at
told ws os e = ap (λ (w : List ℕ). maybe_seen (five_at w 0)) e

pub record Follows (ws : List ℕ) (rs : List Reply) (after : List ℕ) : Type 0 where
  pub replies : shown_replies rs ≡ answers (length rs) (group_in ws)
  pub seen : group_in after ≡ left (length rs) (group_in ws)
  pub sound : SoundGroup after

abbrev Turn : Type 0
Turn = ℕ × (Option Obstacle × Group)

pub follows : {ws after : List ℕ} {rs : List Reply} → Drawn ws rs after → SoundGroup ws → Follows ws rs after
unfolding shown_replies answers left
follows stop s = record { replies = refl; seen = refl; sound = s }
follows (next {ws = ws} {mid = mid} {n = n} {os = os} {rs = rs} x D) s =
    let P : Spared ws n os mid = on_sound ws n os mid s x in
    let F = follows D P.sound in
    record {
      replies = (λ i. (n, told ws os P.obstacle i) ∷ F.replies i) ∙ ap (λ (t : Turn). (t.0, t.1.0) ∷ answers (length rs) t.1.1) P.seen;
      seen = F.seen ∙ ap (λ (t : Turn). left (length rs) t.1.1) P.seen;
      sound = F.sound;
    }

pub drained_in_place : {ws after : List ℕ} {rs : List Reply} → Drawn ws rs after → SoundGroup ws → kind_in ws ≡ 2 → (k : ℕ) → length rs ≡ listed ws + stopped ws + k
    → (shown_replies rs ≡ given_out (entries_of (list_in ws) (stops_in ws)) ++ nothings k) × (group_in after ≡ conflicts [] [])
drained_in_place {ws = ws} {rs = rs} D s c k n =
    let F = follows D s in
    let l : Listing ws = is_listing ws s (λ e. absurd (omega (arith, c, e))) in
    let m : length rs ≡ length (list_in ws) + length (stops_in ws) + k =
    n ∙ sym (ap₂ (λ (a b : ℕ). a + b + k) (run_long (entry_at ws) 0 (listed ws)) (run_long (stop_at ws) 0 (stopped ws))) in
    let d = drained (list_in ws) (stops_in ws) l.sound k in (
      F.replies ∙ ap₂ answers m (seen_conflicts ws c) ∙ d.0,
      F.seen ∙ ap₂ left m (seen_conflicts ws c) ∙ d.1,
    )
