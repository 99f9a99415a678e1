-- What a patch sees of a run over stored words is what it sees of the plain ledger; so two runs show it the same. Assumes nothing.
use Prim.Native.Nat.{ℕ, zero, suc}
use mathlib.Core.Path.{◌≡◌, refl, sym, ◌∙◌, ap, ap₂, subst}
use mathlib.Core.List.{List, [], ◌∷◌, map}
use native.Mathlib.Omega.{arith}
use Rattle.ledger_spec.specs.Bench.{Bench}
use Rattle.ledger_spec.specs.Calls.{Call}
use Rattle.ledger_spec.specs.Notices.{Notice}
use Rattle.ledger_spec.specs.Answers.{Read as Asking, answer, read as plain_read}
use Rattle.ledger_laws.proofs.Answered.{zero_notices, refused_notices}
use Rattle.ledger_laws.proofs.Asked.{ask_true}
use Rattle.bench_words.specs.Codec.{pick}
use Rattle.bench_views.specs.View.{view}
use Rattle.bench_views.specs.Fit.{SoundWords}
use Rattle.sound_bench.specs.Sound.{sound_words}
use Rattle.sound_bench.proofs.Theorem.{sound_holds}
use Rattle.sound_lent.specs.Verdict.{asked as asked_words, read_words}
use Rattle.outcome_notices.specs.Laid.{laid, notices_of}
use Rattle.outcome_notices.proofs.Back.{told_back}
use Rattle.call_told.specs.Told.{Called}
use Rattle.run_laws.proofs.Running.{says, shows, stays_sound}
use Rattle.patch_laws.specs.Patch.{Table, written, name_of}
use Rattle.patch_laws.specs.Runs.{Read, Seen, answered, heard, after, seen, read_by, Side, told, Step, sees, opened, own}
use Rattle.patch_laws.specs.Statement.{Unworn}
use Rattle.patch_laws.proofs.Patches.{two_patches}
use Rattle.patch_runs.specs.Woven.{table_after, seen_of, read_seen, Woven, stop, other, call, read, TwoRuns}

-- the notices of an answer come back from the value that stands for them
notices_back : (b : Bench) (c : Call) → notices_of (laid (answer b c).notices) ≡ (answer b c).notices
unfolding notices_of laid
notices_back b c = go (answer b c).number refl
  where
    go : (n : ℕ) → (answer b c).number ≡ n → notices_of (laid (answer b c).notices) ≡ (answer b c).notices
    go zero e = ap (λ (ns : List Notice). notices_of (laid ns)) (zero_notices b c e) ∙ told_back b c ∙ sym (zero_notices b c e)
    go (suc n) e = let q = refused_notices b c (λ z. omega (arith, e, z)) in ap (λ (ns : List Notice). notices_of (laid ns)) q ∙ sym q

-- on sound words every read is the plain ledger's
read_same : {b : List ℕ} → SoundWords b → (t : Table) (q : Read) → read_seen b t q ≡ told (record { bench = view b; table = t }) q
unfolding asked_words
read_same {b} W t q = λ i. read_by (λ A x. same A x i) (view b) t q
  where
    same : (A : Type 0) (x : Asking A) → read_words b x ≡ plain_read (view b) x
    same A x = ap (λ c. pick c x.own (2, x.zero)) (sound_holds b W) ∙ sym (ask_true (view b) x.zero x.own W.sound)

pub as_plain : {b : List ℕ} {t : Table} {xs : List Step} {ys : List Seen} → Woven b t xs ys → SoundWords b → (k : Side) → record { bench = view b; table = t } ≡ k → ys ≡ sees k xs
unfolding sees after seen
as_plain stop W k e = refl
as_plain (other {c = c} x R) W k e = as_plain R (stays_sound W x) (record { bench = (answer k.bench c).bench; table = k.table }) (λ i. record { bench = (shows W x ∙ ap (λ (j : Side). (answer j.bench c).bench) e) i; table = (e i).table })
as_plain (call {b} {b'} {t = t} {c = c} {r = r} x R) W k e = ap₂ ◌∷◌ here (as_plain R (stays_sound W x) (after k c) next)
  where
    k₀ : Side
    k₀ = record { bench = view b; table = t }

    table : table_after t c r ≡ (after k₀ c).table
    table = ap (table_after t c) (says W x)

    next : record { bench = view b'; table = table_after t c r } ≡ after k c
    next = (λ i. record { bench = shows W x i; table = table i }) ∙ ap (λ (j : Side). after j c) e

    here : seen_of (table_after t c r) r ≡ seen k c
    here = ap₂ seen_of table (says W x) ∙ ap (λ (ns : List Notice). answered (answer (view b) (written t c)).number (name_of (after k₀ c).table (answer (view b) (written t c)).node) (map (heard (after k₀ c).table) ns)) (notices_back (view b) (written t c)) ∙ ap (λ (j : Side). seen j c) e
as_plain (read {t = t} {q = q} R) W k e = ap₂ ◌∷◌ (read_same W t q ∙ ap (λ (j : Side). told j q) e) (as_plain R W k e)

pub two_runs : TwoRuns
two_runs a p apart m n hm hn b d O P xs ys zs ws R Q fx fy e wx wy =
    let x : zs ≡ sees (opened m) xs = as_plain R O.words (opened m) (λ i. record { bench = O.seen i; table = [] }) in
    let y : ws ≡ sees (opened n) ys = as_plain Q P.words (opened n) (λ i. record { bench = P.seen i; table = [] }) in
    x ∙ two_patches a p apart m n hm hn xs ys fx fy e (subst Unworn x wx) (subst Unworn y wy) ∙ sym y
