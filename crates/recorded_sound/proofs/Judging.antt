-- The verdict, case by case: refused with nothing taken, or accepted with the recording's own lengths. Assumes nothing.
use Prim.Native.Nat.{ℕ, ◌-◌, ◌≤◌, ◌<◌}
use mathlib.Core.Path.{◌≡◌, refl, sym, ◌∙◌, ap, subst}
use mathlib.Core.Bool.{true, false}
use mathlib.Core.List.{List, map}
use native.Mathlib.Omega.{arith}
use lib.ListN.{length, get_or}
use lib.IntN.{ℤ, pos, nat_abs}
use lib.Signed.{lt_z}
use lib.Seq.{sets}
use borrow.Author.Tests.{le-ltb}
use Rattle.bench_words.specs.Store.{node_at, interface_at}
use Rattle.bench_words.specs.declared.Interface.{Interface}
use Rattle.ledger_spec.specs.Bench as plain
use Rattle.ledger_spec.specs.Look.{interface}
use Rattle.ledger_spec.specs.Tests.{first}
use Rattle.ledger_spec.specs.Refuse.{unit_tests, grow_tests}
use Rattle.ledger_spec.specs.Calls.{Grow}
use Rattle.ledger_spec.specs.Answers.{answer}
use Rattle.ledger_spec.specs.Deeds.{grow_by}
use Rattle.ledger_spec.specs.Sound.{sound}
use Rattle.ledger_spec.proofs.Holds.{holds}
use Rattle.ledger_spec.proofs.Passed.{Open}
use Rattle.ledger_spec.proofs.Accepted.{clear_passed}
use Rattle.ledger_laws.proofs.Answered.{tests_of, deed_of, answer_number, zero_bench}
use Rattle.bench_views.specs.View.{view}
use Rattle.bench_views.specs.Fit.{Fit, SoundWords}
use Rattle.outcomes.specs.Outcome.{Outcome}
use Rattle.bench_views.proofs.Views.{interface_in_lem}
use Rattle.bench_floors.specs.Least.{Least}
use Rattle.recorded_spec.specs.Recorded.{Steps, stopped}
use Rattle.recorded_spec.specs.Sums.{Sums, sums}
use Rattle.recorded_spec.proofs.Tests.{sums_few}
use Rattle.recorded_spec.proofs.Answers.{refused-unit, refused-back, refused-step, refused-small, accepted-all}
use Rattle.recorded_groups.specs.Recording.{recording_of}
use Rattle.recorded_steps.specs.declared.Passed.{Passed}
use Rattle.recorded_steps.specs.Passes.{limit_no, PassedAs, steps_of, Ready}
use Rattle.recorded_steps.proofs.Limits.{limits}
use Rattle.recorded_sound.specs.Answers.{recorded_on, JudgedAs, RecordedAs}

module _ (b : List ℕ) (F : Fit b) (u : ℕ) (l : ℤ) (ws : List ℕ) (room : ℕ) where
  abbrev whole : Steps
  whole = recorded_on b u l ws room

  sounds : sound (view b) ≡ true
  sounds = holds (view b) F.facts

  pub refuses : (n : ℕ) (r : Passed) → whole ≡ stopped n (view b) → (n ≡ 0 → ⊥) → r.number ≡ n → r.taken ≡ 0 → JudgedAs b u l ws room r
  refuses n r e h p q = record {
    number = p ∙ ap (λ (s : Steps). s.number) (sym e);
    taken = q ∙ ap (λ (s : Steps). length s.lengths) (sym e);
    went = λ z. absurd (h (sym p ∙ z));
    stays = λ _. e ∙ ap (λ (k : ℕ). stopped k (view b)) (sym p);
  }

  pub by_unit : (n : ℕ) → n ≡ first (unit_tests (view b) u) → (n ≡ 0 → ⊥) → whole ≡ stopped n (view b)
  by_unit n e h = refused-unit (view b) sounds u l (recording_of ws) room n (sym e) h

  module _ (n : ℕ) (e : n ≡ first (unit_tests (view b) u)) (z : n ≡ 0) where
    open_tests : first (unit_tests (view b) u) ≡ 0
    open_tests = sym e ∙ z

    pub here : Open (view b) u
    here = clear_passed (view b) u open_tests

    pub by_length : lt_z l (pos 0) ≡ true → whole ≡ stopped 5 (view b)
    by_length h = refused-back (view b) sounds u l (recording_of ws) room open_tests h

    -- the progress off the words
    pub progress_low : (interface_at b u).progress ≤ 1099511627776
    progress_low = F.canon.steady.progress u here.low

    module _ (f : Interface) (i : f ≡ interface_at b u) (floor : ℕ) (L : Least b u floor) (x : ℕ) (is : l ≡ pos x) (ahead : lt_z l (pos 0) ≡ false)
        (p : Passed) (P : PassedAs (sums (limit_no (1099511627776 - f.progress) floor) (pos 0) (pos x) (recording_of ws)) p) where
      test : ℤ → ℕ
      test = limit_no (1099511627776 - f.progress) floor

      progress_is : (interface (view b) u).progress ≡ pos f.progress
      progress_is = ap (λ (g : plain.Interface). g.progress) (interface_in_lem (get_or b 0 0) (interface_at b) (node_at b) u here.low) ∙ ap (λ (g : Interface). pos g.progress) (sym i)

      low : f.progress ≤ 1099511627776
      low = subst (λ (g : Interface). g.progress ≤ 1099511627776) (sym i) progress_low

      same : (m : ℕ) → first (grow_tests (view b) u (pos m)) ≡ test (pos m)
      unfolding test
      same m = limits (view b) u here f.progress progress_is low floor L.is m

      tested : Sums
      tested = sums test (pos 0) l (recording_of ws)

      Q : PassedAs tested p
      unfolding tested test
      Q = subst (λ (y : ℤ). PassedAs (sums (limit_no (1099511627776 - f.progress) floor) (pos 0) y (recording_of ws)) p) (sym is) P

      pub by_step : (p.number ≡ 0 → ⊥) → JudgedAs b u l ws room p
      unfolding tested
      by_step h = refuses p.number p (refused-step (view b) sounds u l (recording_of ws) room open_tests ahead test same p.number (sym Q.number) h) h refl (Q.none_taken h)

      pub by_room : p.number ≡ 0 → room < length (recording_of ws) → whole ≡ stopped 19 (view b)
      unfolding tested
      by_room h r = refused-small (view b) sounds u l (recording_of ws) room open_tests ahead test same (sym Q.number ∙ h) r

      pub by_all : p.number ≡ 0 → length (recording_of ws) ≤ room → JudgedAs b u l ws room p
      unfolding tested tests_of deed_of
      by_all h r = record {
        number = h ∙ ap (λ (s : Steps). s.number) (sym all.0);
        taken = Q.taken h ∙ ap (λ (s : Steps). length s.lengths) (sym all.0);
        went = λ _. record {
          forward = is ∙ ap pos size;
          ready = ap (λ (s : Sums). s.number) steps ∙ sym Q.number ∙ h;
          lengths = ap (λ (s : Steps). s.lengths) all.0 ∙ ap (λ (s : Sums). s.lengths) (sym steps);
          fits = omega (arith, sums_few (λ t. 0) (recording_of ws) (pos 0) (pos (nat_abs l)));
          accepted = taken_whole;
          bench = ap (λ (s : Steps). s.bench) all.0 ∙ sym (zero_bench (view b) (Grow u l) taken_whole);
        };
        stays = λ q. absurd (q h);
      }
        where
          all : (whole ≡ record { number = 0; lengths = tested.lengths; bench = grow_by (view b) u l }) × (first (grow_tests (view b) u l) ≡ 0) × (sums (λ t. 0) (pos 0) l (recording_of ws) ≡ tested)
          all = accepted-all (view b) sounds u l (recording_of ws) room open_tests ahead test same (sym Q.number ∙ h) r

          taken_whole : (answer (view b) (Grow u l)).number ≡ 0
          taken_whole = answer_number (view b) (Grow u l) sounds ∙ all.1

          size : x ≡ nat_abs l
          size = ap nat_abs (sym is)

          steps : steps_of ws (nat_abs l) ≡ tested
          steps = ap (λ (y : ℤ). sums (λ t. 0) (pos 0) y (recording_of ws)) (ap pos (sym size) ∙ sym is) ∙ all.2

-- ---- the whole call, from the verdict
module _ (b : List ℕ) (u : ℕ) (l : ℤ) (ws out : List ℕ) (r : Passed) (J : JudgedAs b u l ws (length out) r) where
  pub all_refused : SoundWords b → (r.number ≡ 0 → ⊥) → RecordedAs b u l ws out r b out
  all_refused W h = record {
    number = J.number;
    taken = J.taken;
    lengths = ap (λ (s : Steps). sets out 0 (map nat_abs s.lengths)) (sym (J.stays h));
    words = W;
    seen = ap (λ (s : Steps). s.bench) (sym (J.stays h));
    refused = λ _. refl;
  }

  module _ (z : r.number ≡ 0) where
    pub ahead : lt_z l (pos 0) ≡ false
    ahead = ap (λ (x : ℤ). lt_z x (pos 0)) (J.went z).forward ∙ le-ltb (nat_abs l) 0 (omega arith)

    pub ready : Ready ws (nat_abs l) out
    ready = record { accepted = (J.went z).ready; room = (J.went z).fits }

    pub all_done : (n : ℕ) (b' out' : List ℕ) → Outcome true b (Grow u l) n b' → out' ≡ sets out 0 (map nat_abs (steps_of ws (nat_abs l)).lengths) → RecordedAs b u l ws out r b' out'
    all_done n b' out' O e =
        let k : n ≡ 0 = O.number ∙ (J.went z).accepted in
        record {
          number = J.number;
          taken = J.taken;
          lengths = e ∙ ap (λ (x : List ℤ). sets out 0 (map nat_abs x)) (sym (J.went z).lengths);
          words = O.words k;
          seen = O.seen k ∙ sym (J.went z).bench;
          refused = λ q. absurd (q z);
        }
