-- THEOREM. Two runs of the same public calls from set-up, whatever they are, one in the plain engine and one in the lazy, from any first serial: all that they
-- give back is equal, the benches left differ in the engine alone, and every question is answered the same. Assumes nothing.
use Prim.Native.Nat.{ℕ}
use mathlib.Core.Path.{◌≡◌, refl, ap, ap₂}
use mathlib.Core.Bool.{Bool, true, false}
use mathlib.Core.List.{List, ◌∷◌}
use Rattle.engine_runs.specs.Session.{Step, Seen, called, grown, ran, told, Session, stop, calls, grows, files, asks}
use Rattle.call_set_up.specs.Opened.{OpenedIn}
use Rattle.engine_runs.specs.Alike.{Twins, Alike}
use Rattle.engine_runs.proofs.Asks.{asked_alike}
use Rattle.engine_runs.proofs.Runs.{called_alike, called_twins, opened_twins}
use Rattle.engine_runs.proofs.Recorded.{recorded_alike, recorded_twins}
use Rattle.engine_runs.proofs.Files.{files_alike}

-- one more thing given back in front
before : {m : Bool} {x y : Seen} {xs ys : List Seen} {p l : List ℕ} → x ≡ y → Alike m xs ys p l → Alike m (x ∷ xs) (y ∷ ys) p l
before e F = record { answers = ap₂ ◌∷◌ e F.answers; words = F.words; asking = F.asking }

pub sessions_run : {m : Bool} {p l p' l' : List ℕ} {xs : List Step} {ys zs : List Seen} → Twins m p l → Session p xs ys p' → Session l xs zs l' → Alike m ys zs p' l'
sessions_run T stop stop = record { answers = refl; words = T; asking = asked_alike T }
sessions_run T (calls x R) (calls y S) = before (ap called (called_alike T x y)) (sessions_run (called_twins T x y) R S)
sessions_run T (grows x R) (grows y S) = before (ap₂ grown (recorded_alike T x y).0 (recorded_alike T x y).1) (sessions_run (recorded_twins T x y) R S)
sessions_run T (files {b' = p₁} {bytes = f} {room = o} {room' = o₁} {r = r} x R) (files {b' = l₁} {room' = o₂} {r = s} y S) =
    let F = files_alike T f o r s p₁ l₁ o₁ o₂ x y in before (ap₂ ran F.same F.slices) (sessions_run F.words R S)
sessions_run T (asks {q = q} R) (asks S) = before (ap (told q) (asked_alike T q)) (sessions_run T R S)

-- ---- from set-up
module _ {n : ℕ} {p l : List ℕ} (P : OpenedIn true n p) (L : OpenedIn false n l) {xs : List Step} {ys zs : List Seen} {p' l' : List ℕ} (R : Session p xs ys p') (S : Session l xs zs l') where
  pub engines_alike : Alike true ys zs p' l'
  engines_alike = sessions_run (opened_twins P L) R S
