-- What a patch sees of such a run over stored words is what it sees of the plain ledger; so two runs show it the same. Assumes nothing.
use Prim.Native.Nat.{ℕ}
use mathlib.Core.Path.{◌≡◌, refl, sym, ◌∙◌, ap, ap₂, subst}
use mathlib.Core.List.{List, [], ◌∷◌}
use Rattle.ledger_spec.specs.Answers.{answer}
use Rattle.bench_views.specs.View.{view}
use Rattle.bench_views.specs.Fit.{SoundWords}
use Rattle.run_laws.proofs.Running.{says, shows, stays_sound}
use Rattle.recorded_steps.specs.declared.Passed.{Passed}
use Rattle.recorded_sound.specs.Answers.{RecordedAs}
use Rattle.recorded_any.proofs.Verdicts.{any_sound}
use Rattle.patch_laws.specs.Patch.{Table}
use Rattle.patch_laws.specs.Runs.{Seen, Side, after, seen, told, sees, opened}
use Rattle.patch_runs.specs.Woven.{table_after, seen_of}
use Rattle.patch_runs.specs.Woven as woven
use Rattle.patch_runs.proofs.Words.{as_plain}
use Rattle.patch_recorded.specs.Plays.{grown, after_growth}
use Rattle.patch_played.specs.Played.{Lent, Turn, Sight, saw, wrote, Grew, Played, stop, other, call, read, other_growth, own_growth, AllFresh, TwoPlayed}
use Rattle.patch_played.proofs.Sights.{plainly, writes, sights, as_alone}

-- the first of a list
first_of : Seen → List Seen → Seen
first_of z [] = z
first_of z (x ∷ xs) = x

-- a growth over a recording on sound words: what it leaves, and what it shows
module _ {b : List ℕ} (W : SoundWords b) {g : Lent} {r : Passed} {b' s : List ℕ} (G : Grew b g r b' s) (t : Table) where
  A : RecordedAs b g.unit g.by g.groups g.slice r b' s
  A = any_sound b g.unit g.by g.groups g.slice W G.meets

  left_sound : SoundWords b'
  left_sound = A.words

  left : record { bench = view b'; table = t } ≡ after_growth (record { bench = view b; table = t }) (plainly g)
  left = ap (λ x. record { bench = x; table = t }) A.seen

  shown : wrote r.number r.taken s ≡ writes g (grown (record { bench = view b; table = t }) (plainly g)).number (grown (record { bench = view b; table = t }) (plainly g)).lengths
  shown = λ i. wrote (A.number i) (A.taken i) (A.lengths i)

pub as_seen : {b : List ℕ} {t : Table} {xs : List Turn} {ys : List Sight} → Played b t xs ys → SoundWords b → (k : Side) → record { bench = view b; table = t } ≡ k → ys ≡ sights k xs
unfolding sights after sees first_of
as_seen stop W k e = refl
as_seen (other {c = c} x R) W k e = as_seen R (stays_sound W x) (record { bench = (answer k.bench c).bench; table = k.table }) (λ i. record { bench = (shows W x ∙ ap (λ (j : Side). (answer j.bench c).bench) e) i; table = (e i).table })
as_seen (call {b} {b'} {t = t} {c = c} {r = r} x R) W k e = ap₂ ◌∷◌ (ap saw here) (as_seen R (stays_sound W x) (after k c) next)
  where
    here : seen_of (table_after t c r) r ≡ seen k c
    here = ap (first_of (seen k c)) (as_plain (woven.call x woven.stop) W k e)

    next : record { bench = view b'; table = table_after t c r } ≡ after k c
    next = (λ i. record { bench = shows W x i; table = ap (table_after t c) (says W x) i }) ∙ ap (λ (j : Side). after j c) e
as_seen (read {b = b} {t = t} {q = q} R) W k e = ap₂ ◌∷◌ (ap saw (ap (first_of (told k q)) (as_plain (woven.read {b = b} {t = t} {q = q} woven.stop) W k e))) (as_seen R W k e)
as_seen (other_growth {t = t} {g = g} G R) W k e = as_seen R (left_sound W G t) (after_growth k (plainly g)) (left W G t ∙ ap (λ (j : Side). after_growth j (plainly g)) e)
as_seen (own_growth {t = t} {g = g} G R) W k e = ap₂ ◌∷◌ (shown W G t ∙ ap (λ (j : Side). writes g (grown j (plainly g)).number (grown j (plainly g)).lengths) e) (as_seen R (left_sound W G t) (after_growth k (plainly g)) (left W G t ∙ ap (λ (j : Side). after_growth j (plainly g)) e))

pub two_played : TwoPlayed
two_played a p apart m n hm hn b d O P xs ys zs ws R Q fx fy e wx wy =
    let x : zs ≡ sights (opened m) xs = as_seen R O.words (opened m) (λ i. record { bench = O.seen i; table = [] }) in
    let y : ws ≡ sights (opened n) ys = as_seen Q P.words (opened n) (λ i. record { bench = P.seen i; table = [] }) in
    x ∙ as_alone a p apart m hm xs fx (subst AllFresh x wx) ∙ ap (sights (opened 1)) e ∙ sym (as_alone a p apart n hn ys fy (subst AllFresh y wy)) ∙ sym y
