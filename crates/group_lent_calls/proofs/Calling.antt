-- What the calls hand out and leave, by the tests that led there. Assumes nothing.
use Rattle.std.specs.Prelude.{None, Option, Some}
use Prim.Native.Nat.{ℕ}
use mathlib.Core.Path.{◌≡◌, refl, sym, ap, ap₂, ◌∙◌}
use mathlib.Core.Bool.{Bool, true, false, not, ◌&&◌}
use mathlib.Core.List.{List, [], ◌∷◌}
use Rattle.bench_words.specs.Codec.{pick}
use Rattle.ledger_spec.specs.Tests.{first, any, is_some}
use Rattle.ledger_spec.specs.Reads.{said}
use Rattle.ledger_spec.specs.Sound.{sound}
use Rattle.ledger_spec.specs.Groups.{Group, sound_group, added, extended}
use Rattle.ledger_spec.specs.GroupCalls.{handles_of, group_handles, stale_code, vertex_of, or_else, add, extend}
use Rattle.bench_views.specs.View.{view}
use Rattle.bench_views.specs.Fit.{SoundWords}
use Rattle.group_lent.specs.Forms.{five_words, obstacle_of}
use Rattle.group_lent.specs.Place.{group_in, SoundGroup}
use Rattle.group_lent.specs.declared.Five.{Five}
use Rattle.group_lent.proofs.Seen.{sound_in}
use Rattle.group_lent_takes.specs.Made as made
use Rattle.group_lent_takes.specs.Made.{maybe_seen}
use Rattle.group_lent_takes.specs.declared.Top.{Top}
use Rattle.group_lent_takes.specs.After.{grown_words}
use Rattle.group_lent_spares.specs.Spares as spares
use Rattle.group_lent_stops.specs.Stops.{added_words}
use Rattle.group_lent_stops.proofs.Branches.{add_growth}
use Rattle.group_lent_nodes.proofs.Named.{names_none}
use Rattle.group_lent_nodes.proofs.Turns.{none_has}
use Rattle.group_lent_extends.specs.Extends as extends
use Rattle.group_lent_calls.specs.Calls.{Popped, Spared, added_by, Added, extended_by, Extended}

-- by the three tests: x of BROKEN, y of STALE, and whether there is a group a
abbrev said_by : Bool → Bool → Option Group → Group → ℕ × Group
said_by x y a z = said (first ((x, 2) ∷ (y, 8) ∷ (not (is_some a), 20) ∷ [])) (or_else a z) z

module _ (x y : Bool) (a : Option Group) (z : Group) where
  stale_said : x ≡ false → y ≡ true → said_by x y a z ≡ (8, z)
  unfolding said first
  stale_said e f = ap₂ (λ (t u : Bool). said_by t u a z) e f

  goes_said : x ≡ false → y ≡ false → said_by x y a z ≡ (pick (is_some a) 0 20, or_else a z)
  unfolding said first
  goes_said e f = ap₂ (λ (t u : Bool). said_by t u a z) e f ∙ by a
    where
      by : (o : Option Group) → said_by false false o z ≡ (pick (is_some o) 0 20, or_else o z)
      by None = refl
      by (Some q) = refl

-- ---- the obstacle's words are handed out
pub pop_given : (ws : List ℕ) (t : Top) (os after : List ℕ) → made.Popped ws t after → os ≡ five_words t.obstacle → Popped ws t.number os after
pop_given ws t os after P e = record {
  seen = ap (λ (f : Five). (t.number, (maybe_seen f, group_in after))) (sym P.top) ∙ P.seen;
  obstacle = e ∙ ap five_words P.top;
  words = P.words;
  sound = P.sound;
  refused = P.refused;
}

pub spared_given : (ws : List ℕ) (t : Top) (os after : List ℕ) → spares.Spared ws t after → os ≡ five_words t.obstacle → Spared ws t.number os after
spared_given ws t os after P e = record {
  seen = ap (λ (f : Five). (t.number, (maybe_seen f, group_in after))) (sym P.top) ∙ P.seen;
  obstacle = e ∙ ap five_words P.top;
  words = P.words;
  sound = P.sound;
  refused = P.refused;
}

module _ (b ws : List ℕ) (S : SoundWords b) (G : SoundGroup ws) where
  -- ---- add
  module _ (f : Five) where
    abbrev missing : Bool
    missing = any (stale_code (view b)) (handles_of (obstacle_of f))

    abbrev answer : Option Group
    answer = added (group_in ws) (obstacle_of f) (vertex_of (view b) (obstacle_of f))

    fine : not (sound (view b) && sound_group (group_in ws)) ≡ false
    fine = ap₂ (λ (p q : Bool). not (p && q)) S.sound (sound_in ws G)

    pub add_stale : (t : Bool) → t ≡ missing → t ≡ true → Added b ws f 8 ws
    unfolding add added_by
    add_stale t e d =
        let q = stale_said (not (sound (view b) && sound_group (group_in ws))) missing answer (group_in ws) fine (sym e ∙ d) in
        record {
          number = sym (ap (λ (r : ℕ × Group). r.0) q);
          seen = sym (ap (λ (r : ℕ × Group). r.1) q);
          words = rw (sym e ∙ d);
          sound = G;
          refused = λ n. refl;
        }

    pub add_goes : (t : Bool) → t ≡ missing → t ≡ false → (v : ℕ) → v ≡ vertex_of (view b) (obstacle_of f) → (r : ℕ) (after : List ℕ) → made.Added f v ws (added_words ws f v) r after → Added b ws f r after
    unfolding add added_by
    add_goes t e d v w r after A =
        let q = goes_said (not (sound (view b) && sound_group (group_in ws))) missing answer (group_in ws) fine (sym e ∙ d) in
        let same : added (group_in ws) (obstacle_of f) v ≡ answer = ap (added (group_in ws) (obstacle_of f)) w in
        record {
          number = A.number ∙ ap (λ (o : Option Group). pick (is_some o) 0 20) same ∙ sym (ap (λ (r : ℕ × Group). r.0) q);
          seen = A.seen ∙ ap (λ (o : Option Group). or_else o (group_in ws)) same ∙ sym (ap (λ (r : ℕ × Group). r.1) q);
          words = A.words ∙ ap (added_words ws f) w ∙ rw (sym e ∙ d);
          sound = A.sound;
          refused = A.refused;
        }

    -- a growth names no node
    pub add_grows : f.kind ≡ 1 → (r : ℕ) (after : List ℕ) → ((v : ℕ) → made.Added f v ws (grown_words ws f) r after) → Added b ws f r after
    add_grows e r after A =
        let v = vertex_of (view b) (obstacle_of f) in
        add_goes false (none_has (stale_code (view b)) (handles_of (obstacle_of f)) (names_none f e)) refl v refl r after (add_growth ws f v r after e (A v))

  -- ---- extend
  module _ (vs : List ℕ) (H : SoundGroup vs) where
    abbrev absent : Bool
    absent = any (stale_code (view b)) (group_handles (group_in vs))

    abbrev reply : Option Group
    reply = extended (group_in ws) (group_in vs)

    all_fine : not (sound (view b) && (sound_group (group_in ws) && sound_group (group_in vs))) ≡ false
    all_fine = ap₂ (λ (p q : Bool). not (p && q)) S.sound (ap₂ (λ (p q : Bool). p && q) (sound_in ws G) (sound_in vs H))

    pub extend_stale : (t : Bool) → t ≡ absent → t ≡ true → Extended b ws vs 8 ws
    unfolding extend extended_by
    extend_stale t e d =
        let q = stale_said (not (sound (view b) && (sound_group (group_in ws) && sound_group (group_in vs)))) absent reply (group_in ws) all_fine (sym e ∙ d) in
        record {
          number = sym (ap (λ (r : ℕ × Group). r.0) q);
          seen = sym (ap (λ (r : ℕ × Group). r.1) q);
          words = rw (sym e ∙ d);
          sound = G;
          refused = λ n. refl;
        }

    pub extend_goes : (t : Bool) → t ≡ absent → t ≡ false → (r : ℕ) (after : List ℕ) → extends.Extended ws vs r after → Extended b ws vs r after
    unfolding extend extended_by
    extend_goes t e d r after E =
        let q = goes_said (not (sound (view b) && (sound_group (group_in ws) && sound_group (group_in vs)))) absent reply (group_in ws) all_fine (sym e ∙ d) in
        record {
          number = E.number ∙ sym (ap (λ (r : ℕ × Group). r.0) q);
          seen = E.seen ∙ sym (ap (λ (r : ℕ × Group). r.1) q);
          words = E.words ∙ rw (sym e ∙ d);
          sound = E.sound;
          refused = E.refused;
        }
