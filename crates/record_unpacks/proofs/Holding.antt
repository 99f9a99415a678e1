-- What a file that was scanned holds, and what the move answers. Assumes nothing.
use Rattle.std.specs.Prelude.{None, Option, Some}
use Rattle.std.proofs.lemmas.Option.{none-some}
use Prim.Native.Nat.{ℕ, zero, suc, ◌+◌, ◌-◌, ◌*◌, ◌≤◌, ◌<◌}
use native.Mathlib.Omega.{arith}
use native.Mathlib.Decide.{dec_lt}
use mathlib.Core.Path.{◌≡◌, refl, sym, ◌∙◌, ap, subst}
use mathlib.Core.Bool.{Bool, true, false, true≢false}
use mathlib.Core.List.{List}
use lib.ListN.{length, take}
use lib.Seq.{sets, length-take-le}
use Rattle.ledger_spec.specs.Numbers.{SMALL, SELF, FILE}
use Rattle.record_spec.specs.Numbers.{Bytes}
use Rattle.record_spec.specs.Operations.{Op}
use Rattle.record_spec.specs.Files.{records_of, records_in, fitting, file_ops}
use Rattle.record_spec.specs.Moves.{text_of, all_self, refused, to_text}
use Rattle.record_spec.specs.Places.{at, fours_at}
use Rattle.record_spec.proofs.Files.{fitting_true}
use Rattle.record_spec.proofs.Places.{file_short, file_unfit, file_walk}
use Rattle.record_spec.proofs.Moves.{accepted, room, no_room, text_none, text_self, text_some}
use Rattle.record_files.specs.declared.Scanned.{Scanned}
use Rattle.record_files.specs.Scans.{scanned_of}
use Rattle.record_packs.specs.Packs.{MovedAs}
use Rattle.record_packs.proofs.Stores.{sets_front}
use Rattle.record_unpacks.specs.Unpacks.{Ready, Filled}
use Rattle.record_unpacks.proofs.Steps.{take_bytes, counts}

fours_many : (n : ℕ) (s : List ℕ) (p : ℕ) → length (fours_at n s p) ≡ n
unfolding fours_at
fours_many zero s p = refl
fours_many (suc n) s p = ap suc (fours_many n s (p + 4))

-- ---- the list and the records stand where the scan says

pub record Walked (s : List ℕ) (ops : List Op) : Type 0 where
  pub inside : length (records_of ops) + 4 * length ops ≤ length s
  pub records : records_in 0 (fours_at (length ops) s (length (records_of ops))) (take (length (records_of ops)) s) ≡ Some ops

pub walked : (s : List ℕ) (ops : List Op) → Bytes s → file_ops s ≡ Some ops → Walked s ops
walked s ops h e = go (dec_lt (length s) 16)
  where
    fits : (n : ℕ) → length s ≡ n + 16 → (b : Bool) → fitting (length s) (at 4 s n) (at 4 s (n + 4)) (at 4 s (n + 8)) (at 4 s (n + 12)) ≡ b → Walked s ops
    fits n l false q = absurd (none-some ops (sym (sym e ∙ file_unfit s n l q)))
    fits n l true q =
        let f = fitting_true (length s) (at 4 s n) (at 4 s (n + 4)) (at 4 s (n + 8)) (at 4 s (n + 12)) q in
        let a = at 4 s n in
        let k = at 4 s (n + 4) in
        let w : records_in 0 (fours_at k s a) (take a s) ≡ Some ops = sym (file_walk s n l q) ∙ e in
        let c = counts (fours_at k s a) (take a s) 0 ops (take_bytes a s h) (omega arith) w in
        let i : a ≤ length s = omega (arith, f.lists, f.ends) in
        let x : k ≡ length ops = sym (fours_many k s a) ∙ c.0 in
        let y : a ≡ length (records_of ops) = omega (arith, c.1, length-take-le a s i) in
        record {
          inside = omega (arith, f.lists, f.ends, x, y);
          records = sym (λ z. records_in 0 (fours_at (x z) s (y z)) (take (y z) s)) ∙ w;
        }

    go : Dec (length s < 16) → Walked s ops
    go (yes l) = absurd (none-some ops (sym (sym e ∙ file_short s l)))
    go (no l) = fits (length s - 16) (omega arith) (fitting (length s) (at 4 s (length s - 16)) (at 4 s (length s - 16 + 4)) (at 4 s (length s - 16 + 8)) (at 4 s (length s - 16 + 12))) refl

-- ---- what was scanned

pub record Holds (s : List ℕ) (w : Scanned) : Type 0 where
  pub ops : List Op
  pub said : file_ops s ≡ Some ops
  pub count : w.count ≡ length ops
  pub start : w.start ≡ length (records_of ops)
  pub text : w.text ≡ length (text_of ops)
  pub own : w.own ≡ all_self ops

module _ (s : List ℕ) (w : Scanned) (is : w ≡ scanned_of (file_ops s)) where
  pub holds : w.whole ≡ true → Holds s w
  holds t = go (file_ops s) refl
    where
      go : (o : Option (List Op)) → file_ops s ≡ o → Holds s w
      go None e = absurd (true≢false (sym t ∙ ap (λ (x : Scanned). x.whole) (is ∙ ap scanned_of e)))
      go (Some ops) e =
          let q = is ∙ ap scanned_of e in
          record {
            ops = ops;
            said = e;
            count = ap (λ (x : Scanned). x.count) q;
            start = ap (λ (x : Scanned). x.start) q;
            text = ap (λ (x : Scanned). x.text) q;
            own = ap (λ (x : Scanned). x.own) q;
          }

  pub no_file : (out : List ℕ) → w.whole ≡ false → MovedAs (to_text s out) out (record { number = FILE; size = 0 })
  no_file out t = subst (λ m. MovedAs m out (record { number = FILE; size = 0 })) (sym (go (file_ops s) refl)) (record { number = refl; size = refl; output = refl })
    where
      go : (o : Option (List Op)) → file_ops s ≡ o → to_text s out ≡ refused FILE out
      go None e = text_none s out e
      go (Some ops) e = absurd (true≢false (sym (ap (λ (x : Scanned). x.whole) (is ∙ ap scanned_of e)) ∙ t))

-- ---- the answers

module _ (s : List ℕ) (w : Scanned) (m : Holds s w) where
  pub not_own : (out : List ℕ) → w.own ≡ false → MovedAs (to_text s out) out (record { number = SELF; size = 0 })
  not_own out e = rw (text_self s out m.ops m.said (sym m.own ∙ e)) (record { number = refl; size = refl; output = refl })

  module _ (own : w.own ≡ true) where
    all_own : all_self m.ops ≡ true
    all_own = sym m.own ∙ own

    pub too_small : (out : List ℕ) → length out < w.text → MovedAs (to_text s out) out (record { number = SMALL; size = 0 })
    too_small out h =
        let e : to_text s out ≡ refused SMALL out = text_some s out m.ops m.said all_own ∙ no_room (text_of m.ops) out (omega (arith, m.text, h)) in
        rw e (record { number = refl; size = refl; output = refl })

    module _ (bytes : Bytes s) where
      pub start_inside : w.start + 4 * w.count ≤ length s
      start_inside = omega (arith, (walked s m.ops bytes m.said).inside, m.start, m.count)

      records_are : records_in 0 (fours_at w.count s w.start) (take w.start s) ≡ Some m.ops
      records_are = (λ i. records_in 0 (fours_at (m.count i) s (m.start i)) (take (m.start i) s)) ∙ (walked s m.ops bytes m.said).records

      pub ready : (out : List ℕ) → w.text ≤ length out → Ready (records_in 0 (fours_at w.count s w.start) (take w.start s)) (length out)
      ready out h = subst (λ (o : Option (List Op)). Ready o (length out)) (sym records_are) (omega (arith, h, m.text))

      pub moved : (out out' : List ℕ) → w.text ≤ length out → Filled (records_in 0 (fours_at w.count s w.start) (take w.start s)) out out'
          → MovedAs (to_text s out) out' (record { number = 0; size = w.text })
      moved out out' h f =
          let t = text_of m.ops in
          let l : length t ≤ length out = omega (arith, h, m.text) in
          let e : to_text s out ≡ accepted t out = text_some s out m.ops m.said all_own ∙ room t out l in
          let a : out' ≡ sets out 0 t = subst (λ (o : Option (List Op)). Filled o out out') records_are f in
          rw e (record { number = refl; size = m.text; output = a ∙ sets_front t out l })
