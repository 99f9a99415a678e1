-- The answer of add and extend by the tests that led to it: BROKEN, STALE and ROOM with the very group, else the ledger's group. Assumes nothing.
use Rattle.std.specs.Prelude.{None, Option, Some}
use Prim.Native.Nat.{ℕ}
use mathlib.Core.Path.{◌≡◌, refl, sym, ap, ap₂, ◌∙◌}
use mathlib.Core.Bool.{Bool, true, false, false≢true, not, ◌&&◌}
use mathlib.Core.List.{List, [], ◌∷◌}
use borrow.Author.Tests.{not-true, not-false}
use Rattle.kinds.specs.declared.Obstacle.{Obstacle}
use Rattle.ledger_spec.specs.Tests.{first, any, is_some}
use Rattle.ledger_spec.specs.Reads.{said}
use Rattle.ledger_spec.specs.Sound.{sound}
use Rattle.ledger_spec.specs.Groups.{Group, sound_group, added, extended}
use Rattle.ledger_spec.specs.GroupCalls.{handles_of, group_handles, stale_code, vertex_of, or_else, add, extend}
use Rattle.bench_views.specs.View.{view}
use Rattle.bench_views.specs.Fit.{Fit}
use Rattle.bench_views.proofs.Fits.{fit_of}
use Rattle.groups.specs.View.{viewed, group_of}
use Rattle.groups.specs.declared.Kind.{Kind}
use Rattle.groups.specs.declared.Kind.TheVariants.{Growth, Conflicts}
use Rattle.groups.specs.declared.Group.{Group as Code}
use Rattle.sound_lent.specs.Verdict.{Verdict, asked}
use Rattle.sound_lent.proofs.Asking.{no_bench, a_bench}
use Rattle.group_adds.specs.Adds.{changed}
use Rattle.group_adds.specs.declared.Changed.{Changed}
use Rattle.group_extends.specs.Extends.{whole_by as kept_by, whole_of}
use Rattle.group_calls.specs.Ready.{Ready}
use Rattle.group_calls.specs.Whole.{whole_by, whole}

abbrev refusal : ℕ → Code → Changed
refusal n g = record { number = n; group = g }

-- ---- by the three tests: x of BROKEN, y of STALE, and whether there is a group a
abbrev said_by : Bool → Bool → Option Group → Group → ℕ × Group
said_by x y a z = said (first ((x, 2) ∷ (y, 8) ∷ (not (is_some a), 20) ∷ [])) (or_else a z) z

module _ (x y : Bool) (a : Option Group) (z : Group) (g h : Code) where
  broken : x ≡ true → refusal 2 g ≡ whole (said_by x y a z) g h
  unfolding said first whole_by
  broken e = sym (ap (λ (t : Bool). whole (said_by t y a z) g h) e)

  stale : x ≡ false → y ≡ true → refusal 8 g ≡ whole (said_by x y a z) g h
  unfolding said first whole_by
  stale e f = sym (ap₂ (λ (t u : Bool). whole (said_by t u a z) g h) e f)

  passed : x ≡ false → y ≡ false → whole (said_by false false a z) g h ≡ whole (said_by x y a z) g h
  passed e f = sym (ap₂ (λ (t u : Bool). whole (said_by t u a z) g h) e f)

-- ROOM where there is no group
room : (a : Option Group) (z : Group) (g : Code) → changed a g ≡ whole (said_by false false a z) g g
unfolding said first whole_by changed
room None z g = refl
room (Some q) z g = refl

-- ROOM only where conflicts are extended by conflicts, whose bytes are the own group's
room_of : (z : Group) (g h : Code) (k l : Kind) → changed (extended (viewed k g) (viewed l h)) (kept_by k l g h) ≡ whole (said_by false false (extended (viewed k g) (viewed l h)) z) g (kept_by k l g h)
unfolding said first whole_by changed extended
room_of z g h (Growth a f) (Growth b i) = refl
room_of z g h (Growth a f) Conflicts = refl
room_of z g h Conflicts (Growth b i) = refl
room_of z g h Conflicts Conflicts = room (extended (viewed Conflicts g) (viewed Conflicts h)) z g

-- ---- with the verdict s on the words
module _ (b : List ℕ) {s : Bool} (v : Verdict b s) where
  module _ (p : ℕ × Group) (g h : Code) where
    -- words that hold no sound bench
    no_words : not s ≡ true → refusal 2 g ≡ whole (asked b (group_of g) p) g h
    unfolding whole_by
    no_words t = ap (λ (a : ℕ × Group). whole a g h) (no_bench b (group_of g) p v t)

    on_words : not s ≡ false → whole p g h ≡ whole (asked b (group_of g) p) g h
    on_words t = ap (λ (a : ℕ × Group). whole a g h) (a_bench b (group_of g) p v t refl)

  module _ (t : not s ≡ false) where
    pub fit : Fit b
    fit = fit_of b (v.says (not-false s t))

    is_sound : sound (view b) ≡ true
    is_sound = (v.says (not-false s t)).sound

    -- ---- add
    module _ (g : Code) (o : Obstacle) where
      abbrev unfit : Bool
      unfit = not (sound (view b) && sound_group (group_of g))

      abbrev missing : Bool
      missing = any (stale_code (view b)) (handles_of o)

      abbrev after : Option Group
      after = added (group_of g) o (vertex_of (view b) o)

      abbrev answer : Changed
      answer = whole (asked b (group_of g) (add (view b) (group_of g) o)) g g

      unfit_is : {x : Bool} → sound_group (group_of g) ≡ x → unfit ≡ not x
      unfit_is e = ap₂ (λ (p q : Bool). not (p && q)) is_sound e

      by_tests : {r : Changed} → r ≡ whole (said_by unfit missing after (group_of g)) g g → r ≡ answer
      unfolding add
      by_tests e = e ∙ on_words (add (view b) (group_of g) o) g g t

      add_broken : sound_group (group_of g) ≡ false → refusal 2 g ≡ answer
      add_broken e = by_tests (broken unfit missing after (group_of g) g g (unfit_is e))

      module _ (e : sound_group (group_of g) ≡ true) where
        pub add_stale : missing ≡ true → refusal 8 g ≡ answer
        add_stale f = by_tests (stale unfit missing after (group_of g) g g (unfit_is e) f)

        pub add_goes : missing ≡ false → (v : ℕ) → v ≡ vertex_of (view b) o → (r : Changed) → r ≡ changed (added (group_of g) o v) g → r ≡ answer
        add_goes f v w r m = by_tests (m ∙ ap (λ (k : ℕ). changed (added (group_of g) o k) g) w ∙ room after (group_of g) g ∙ passed unfit missing after (group_of g) g g (unfit_is e) f)

    -- ---- extend
    module _ (g h : Code) where
      abbrev unfit' : Bool
      unfit' = not (sound (view b) && (sound_group (group_of g) && sound_group (group_of h)))

      abbrev missing' : Bool
      missing' = any (stale_code (view b)) (group_handles (group_of h))

      abbrev after' : Option Group
      after' = extended (group_of g) (group_of h)

      abbrev answer' : Changed
      answer' = whole (asked b (group_of g) (extend (view b) (group_of g) (group_of h))) g (whole_of g h)

      unfit'_is : {x y : Bool} → sound_group (group_of g) ≡ x → sound_group (group_of h) ≡ y → unfit' ≡ not (x && y)
      unfit'_is e f = ap₂ (λ (p q : Bool). not (p && q)) is_sound (ap₂ (λ (p q : Bool). p && q) e f)

      by_tests' : {r : Changed} → r ≡ whole (said_by unfit' missing' after' (group_of g)) g (whole_of g h) → r ≡ answer'
      unfolding extend
      by_tests' e = e ∙ on_words (extend (view b) (group_of g) (group_of h)) g (whole_of g h) t

      own_broken : sound_group (group_of g) ≡ false → refusal 2 g ≡ answer'
      own_broken e = by_tests' (broken unfit' missing' after' (group_of g) g (whole_of g h) (unfit'_is e refl))

      module _ (e : sound_group (group_of g) ≡ true) where
        pub other_broken : sound_group (group_of h) ≡ false → refusal 2 g ≡ answer'
        other_broken f = by_tests' (broken unfit' missing' after' (group_of g) g (whole_of g h) (unfit'_is e f))

        module _ (f : sound_group (group_of h) ≡ true) where
          pub extend_stale : missing' ≡ true → refusal 8 g ≡ answer'
          extend_stale n = by_tests' (stale unfit' missing' after' (group_of g) g (whole_of g h) (unfit'_is e f) n)

          pub extend_goes : missing' ≡ false → (r : Changed) → r ≡ changed after' (whole_of g h) → r ≡ answer'
          extend_goes n r m = by_tests' (m ∙ room_of (group_of g) g h g.kind h.kind ∙ passed unfit' missing' after' (group_of g) g (whole_of g h) (unfit'_is e f) n)

-- ---- by the test that both calls begin with
module _ (b : List ℕ) (g : Code) {r : Bool} (R : Ready b (group_of g) r) where
  module _ (e : not r ≡ true) where
    pub add_unready : (o : Obstacle) → refusal 2 g ≡ whole (asked b (group_of g) (add (view b) (group_of g) o)) g g
    add_unready o = go R.bench R.verdict R.both
      where
        go : (s : Bool) → Verdict b s → r ≡ (s && sound_group (group_of g)) → refusal 2 g ≡ whole (asked b (group_of g) (add (view b) (group_of g) o)) g g
        go false v x = no_words b v (add (view b) (group_of g) o) g g refl
        go true v x = add_broken b v refl g o (sym x ∙ not-true r e)

    pub extend_unready : (h : Code) → refusal 2 g ≡ whole (asked b (group_of g) (extend (view b) (group_of g) (group_of h))) g (whole_of g h)
    extend_unready h = go R.bench R.verdict R.both
      where
        go : (s : Bool) → Verdict b s → r ≡ (s && sound_group (group_of g)) → refusal 2 g ≡ whole (asked b (group_of g) (extend (view b) (group_of g) (group_of h))) g (whole_of g h)
        go false v x = no_words b v (extend (view b) (group_of g) (group_of h)) g (whole_of g h) refl
        go true v x = own_broken b v refl g h (sym x ∙ not-true r e)

  module _ (e : not r ≡ false) where
    both : (R.bench ≡ true) × (sound_group (group_of g) ≡ true)
    both = go R.bench R.both
      where
        go : (s : Bool) → r ≡ (s && sound_group (group_of g)) → (s ≡ true) × (sound_group (group_of g) ≡ true)
        go false x = absurd (false≢true (sym x ∙ not-false r e))
        go true x = (refl, sym x ∙ not-false r e)

    pub on_bench : not R.bench ≡ false
    on_bench = ap not both.0

    pub own_sound : sound_group (group_of g) ≡ true
    own_sound = both.1
