-- One record of those that a list of starts says, and how many there are. Assumes nothing.
use Rattle.std.specs.Prelude.{None, Option, Some}
use Rattle.std.proofs.lemmas.Option.{same_Some, none-some}
use Prim.Native.Nat.{ℕ, zero, suc, ◌+◌, ◌≤◌, ◌<◌}
use native.Mathlib.Omega.{arith}
use native.Mathlib.Decide.{dec_lt, ℕ_discrete}
use mathlib.Core.Path.{◌≡◌, refl, sym, ◌∙◌, ap}
use mathlib.Core.List.{List, [], ◌∷◌}
use lib.ListN.{length, take, drop, length-append, length-drop}
use lib.Seq.{drop-drop, drop-length}
use Rattle.record_spec.specs.Numbers.{Bytes}
use Rattle.record_spec.specs.Operations.{Op}
use Rattle.record_spec.specs.Records.{bytes_of}
use Rattle.record_spec.specs.Reader.{record_in}
use Rattle.record_spec.specs.Files.{records_of, records_in}
use Rattle.record_spec.proofs.Files.{onto}
use Rattle.record_spec.proofs.Places.{record_ends, loop_step, loop_astray, loop_bad, loop_end, loop_more}

-- ---- bytes of a part

pub take_bytes : (n : ℕ) (s : List ℕ) → Bytes s → Bytes (take n s)
take_bytes zero s h = tt
take_bytes (suc n) [] h = tt
take_bytes (suc n) (b ∷ s) h = (h.0, take_bytes n s h.1)

pub drop_bytes : (n : ℕ) (s : List ℕ) → Bytes s → Bytes (drop n s)
drop_bytes zero s h = h
drop_bytes (suc n) [] h = tt
drop_bytes (suc n) (b ∷ s) h = drop_bytes n s h.1

-- ---- the first record

pub record Step (t : List ℕ) (p a : ℕ) (places : List ℕ) (rest : List Op) : Type 0 where
  pub op : Op
  pub more : List Op
  pub place : a ≡ p
  pub read : record_in (drop p t) ≡ Some (op, drop (p + length (bytes_of op)) t)
  pub fits : p + length (bytes_of op) ≤ length t
  pub first : rest ≡ op ∷ more
  pub after : records_in (p + length (bytes_of op)) places (drop (p + length (bytes_of op)) t) ≡ Some more

pub step : (t : List ℕ) (p a : ℕ) (places : List ℕ) (rest : List Op) → Bytes t → p ≤ length t → records_in p (a ∷ places) (drop p t) ≡ Some rest → Step t p a places rest
unfolding onto
step t p a places rest h l e = go (ℕ_discrete a p)
  where
    here : (op : Op) → a ≡ p → record_in (drop p t) ≡ Some (op, drop (p + length (bytes_of op)) t) → p + length (bytes_of op) ≤ length t
        → (o : Option (List Op)) → records_in (p + length (bytes_of op)) places (drop (p + length (bytes_of op)) t) ≡ o → onto op o ≡ Some rest → Step t p a places rest
    here op q r f None x y = absurd (none-some rest y)
    here op q r f (Some more) x y = record { op = op; more = more; place = q; read = r; fits = f; first = sym (same_Some (op ∷ more) rest y); after = x }

    found : a ≡ p → records_in p (p ∷ places) (drop p t) ≡ Some rest → (o : Option (Op × List ℕ)) → record_in (drop p t) ≡ o → Step t p a places rest
    found q r None x = absurd (none-some rest (sym (sym r ∙ loop_bad t p places x)))
    found q r (Some z) x =
        let b = record_ends (drop p t) z.0 z.1 (drop_bytes p t h) x in
        let k = length (bytes_of z.0) in
        let f : z.1 ≡ drop (p + k) t = b.0 ∙ drop-drop k p t in
        let y : record_in (drop p t) ≡ Some (z.0, drop (p + k) t) = x ∙ ap (λ (v : List ℕ). Some (z.0, v)) f in
        here z.0 q y (omega (arith, b.1, length-drop p t)) (records_in (p + k) places (drop (p + k) t)) refl (sym (loop_step t p places z.0 y) ∙ r)

    go : Dec (a ≡ p) → Step t p a places rest
    go (yes q) = found q (ap (λ (x : ℕ). records_in p (x ∷ places) (drop p t)) (sym q) ∙ e) (record_in (drop p t)) refl
    go (no q) = absurd (none-some rest (sym (sym e ∙ loop_astray t p places a q)))

-- ---- all of them

pub counts : (places : List ℕ) (t : List ℕ) (p : ℕ) (ops : List Op) → Bytes t → p ≤ length t → records_in p places (drop p t) ≡ Some ops
    → (length places ≡ length ops) × (p + length (records_of ops) ≡ length t)
unfolding records_of
counts [] t p ops h l e = go (dec_lt p (length t))
  where
    go : Dec (p < length t) → (0 ≡ length ops) × (p + length (records_of ops) ≡ length t)
    go (yes m) = absurd (none-some ops (sym (sym e ∙ loop_more p (drop p t) (omega (arith, length-drop p t)))))
    go (no m) =
        let q : p ≡ length t = omega arith in
        let d : drop p t ≡ [] = ap (λ (k : ℕ). drop k t) q ∙ drop-length t in
        let o : [] ≡ ops = same_Some [] ops (sym (loop_end p) ∙ sym (ap (records_in p []) d) ∙ e) in
        (ap length o, omega (arith, ap (λ (x : List Op). length (records_of x)) o, q))
counts (a ∷ places) t p ops h l e =
    let x = step t p a places ops h l e in
    let y = counts places t (p + length (bytes_of x.op)) x.more h x.fits x.after in (
      ap suc y.0 ∙ sym (ap length x.first),
      omega (arith, y.1, ap (λ (z : List Op). length (records_of z)) x.first, length-append (bytes_of x.op) (records_of x.more)),
    )
