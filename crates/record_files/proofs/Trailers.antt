-- What the trailer's numbers say of the slice, and the file from them on. Assumes nothing.
use Prim.Native.Nat.{ℕ, ◌+◌, ◌-◌, ◌*◌, ◌≤◌, ◌<◌}
use native.Mathlib.Omega.{arith}
use native.Mathlib.Decide.{dec_lt}
use mathlib.Core.Path.{◌≡◌, refl, sym, ◌∙◌, ap}
use mathlib.Core.Bool.{Bool, true, false, true≢false}
use mathlib.Core.List.{List}
use lib.ListN.{length, take}
use borrow.Author.Tests.{lt-ltb, le-ltb}
use Rattle.record_spec.specs.Reader.{pick}
use Rattle.record_spec.specs.Files.{records_in, fitting, file_ops}
use Rattle.record_spec.specs.Places.{at, fours_at}
use Rattle.record_spec.proofs.Files.{fitting_true}
use Rattle.record_spec.proofs.Places.{file_short, file_unfit, file_walk}
use Rattle.record_files.specs.declared.Trailer.{Trailer}
use Rattle.record_files.specs.Scans.{not_file, scanned_of, fits_at, no_trailer, trailer_at, trailer_of}

-- ---- the trailer

pub too_short : (s : List ℕ) → length s < 16 → no_trailer ≡ trailer_of s
too_short s h = rw (lt-ltb (length s) 16 h) refl

at_end : (s : List ℕ) (n : ℕ) → length s ≡ n + 16 → trailer_of s ≡ trailer_at s n
at_end s n h =
    let e : length s - 16 ≡ n = omega (arith, h) in
    ap (λ (b : Bool). pick b no_trailer (trailer_at s (length s - 16))) (le-ltb (length s) 16 (omega (arith, h))) ∙ ap (trailer_at s) e

-- four numbers were read
module _ (s : List ℕ) (n : ℕ) (long : length s ≡ n + 16) (start count before letters : ℕ)
    (a : start ≡ at 4 s n) (b : count ≡ at 4 s (n + 4)) (c : before ≡ at 4 s (n + 8)) (d : letters ≡ at 4 s (n + 12)) where
  same_fits : (x : Bool) → fitting (length s) start count before letters ≡ x → fits_at s n ≡ x
  same_fits x e = (λ i. fitting (length s) (sym a i) (sym b i) (sym c i) (sym d i)) ∙ e

  pub unfit : fitting (length s) start count before letters ≡ false → no_trailer ≡ trailer_of s
  unfit e = sym (at_end s n long ∙ ap (λ (x : Bool). pick x (record { fits = true; start = at 4 s n; count = at 4 s (n + 4) }) no_trailer) (same_fits false e))

  pub fit : fitting (length s) start count before letters ≡ true → ◌≡◌ {A = Trailer} (record { fits = true; start = start; count = count }) (trailer_of s)
  fit e =
      (λ i. record { fits = true; start = a i; count = b i })
      ∙ sym (at_end s n long ∙ ap (λ (x : Bool). pick x (record { fits = true; start = at 4 s n; count = at 4 s (n + 4) }) no_trailer) (same_fits true e))

-- ---- what was read of it

pub record Trailed (s : List ℕ) (r : Trailer) : Type 0 where
  pub place : ℕ
  pub long : length s ≡ place + 16
  pub fits : fits_at s place ≡ true
  pub start : r.start ≡ at 4 s place
  pub count : r.count ≡ at 4 s (place + 4)
  pub room : r.start + 4 * r.count + 16 ≤ length s
  pub few : r.count < 4294967296

module _ (s : List ℕ) (r : Trailer) (is : r ≡ trailer_of s) where
  pub trailed : r.fits ≡ true → Trailed s r
  trailed t = go (dec_lt (length s) 16)
    where
      fits : (n : ℕ) → length s ≡ n + 16 → (b : Bool) → fits_at s n ≡ b → Trailed s r
      fits n l false e = absurd (true≢false (sym t ∙ ap (λ (x : Trailer). x.fits) (is ∙ at_end s n l ∙ ap (λ (x : Bool). pick x (record { fits = true; start = at 4 s n; count = at 4 s (n + 4) }) no_trailer) e)))
      fits n l true e =
          let q = is ∙ at_end s n l ∙ ap (λ (x : Bool). pick x (record { fits = true; start = at 4 s n; count = at 4 s (n + 4) }) no_trailer) e in
          let f = fitting_true (length s) (at 4 s n) (at 4 s (n + 4)) (at 4 s (n + 8)) (at 4 s (n + 12)) e in
          let a : r.start ≡ at 4 s n = ap (λ (x : Trailer). x.start) q in
          let c : r.count ≡ at 4 s (n + 4) = ap (λ (x : Trailer). x.count) q in
          record {
            place = n;
            long = l;
            fits = e;
            start = a;
            count = c;
            room = omega (arith, a, c, f.lists, f.ends, l);
            few = omega (arith, c, f.lists, f.ends, f.small);
          }

      go : Dec (length s < 16) → Trailed s r
      go (yes l) = absurd (true≢false (sym t ∙ ap (λ (x : Trailer). x.fits) (is ∙ sym (too_short s l))))
      go (no l) = fits (length s - 16) (omega arith) (fits_at s (length s - 16)) refl

  -- there is none, or it does not fit
  pub untrailed : r.fits ≡ false → (P : Type 0) → (length s < 16 → P) → ((n : ℕ) → length s ≡ n + 16 → fits_at s n ≡ false → P) → P
  untrailed t P short other = go (dec_lt (length s) 16)
    where
      fits : (n : ℕ) → length s ≡ n + 16 → (b : Bool) → fits_at s n ≡ b → P
      fits n l false e = other n l e
      fits n l true e =
          absurd (true≢false (sym (ap (λ (x : Trailer). x.fits) (is ∙ at_end s n l ∙ ap (λ (x : Bool). pick x (record { fits = true; start = at 4 s n; count = at 4 s (n + 4) }) no_trailer) e)) ∙ t))

      go : Dec (length s < 16) → P
      go (yes l) = short l
      go (no l) = fits (length s - 16) (omega arith) (fits_at s (length s - 16)) refl

  -- ---- the file

  pub no_file : r.fits ≡ false → not_file ≡ scanned_of (file_ops s)
  no_file t = untrailed t (not_file ≡ scanned_of (file_ops s)) (λ l. sym (ap scanned_of (file_short s l))) (λ n l e. sym (ap scanned_of (file_unfit s n l e)))

  pub file_there : (t : r.fits ≡ true) → scanned_of (records_in 0 (fours_at r.count s r.start) (take r.start s)) ≡ scanned_of (file_ops s)
  file_there t =
      let x = trailed t in
      (λ i. scanned_of (records_in 0 (fours_at (x.count i) s (x.start i)) (take (x.start i) s)))
      ∙ sym (ap scanned_of (file_walk s x.place x.long x.fits))
