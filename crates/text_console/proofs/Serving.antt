-- From piece to piece: what a session needs holds, and no slice changes its length. Assumes nothing.
use Prim.Native.Nat.{ℕ, ◌*◌, ◌≤◌}
use mathlib.Core.Path.{◌≡◌, refl, ◌∙◌, ap}
use mathlib.Core.Bool.{Bool, true, false}
use mathlib.Core.List.{List}
use native.Mathlib.Omega.{arith}
use lib.ListN.{length, replicate, length-replicate}
use Rattle.bench_views.specs.Fit.{SoundWords}
use Rattle.text_sessions.specs.Session.{Started, NextDone}
use Rattle.text_console.specs.Serving.{Ready, held_by, Served}
use Rattle.text_console.specs.declared.Next.{Next}
use Rattle.text_console.specs.declared.Next.TheVariants.{More}

pub record Serving (piece₀ buf₀ serials₀ out₀ b piece buf : List ℕ) (held : ℕ) (serials out : List ℕ) : Type 0 where
  pub ready : Ready b piece buf held serials out
  pub end : 57 ≤ length out
  pub same_piece : length piece ≡ length piece₀
  pub same_buf : length buf ≡ length buf₀
  pub same_serials : length serials ≡ length serials₀
  pub same_out : length out ≡ length out₀

pub serving_start : (b piece buf serials out : List ℕ) → Ready b piece buf 0 serials out → 57 ≤ length out → Serving piece buf serials out b piece buf 0 serials out
serving_start b piece buf serials out r e = record { ready = r; end = e; same_piece = refl; same_buf = refl; same_serials = refl; same_out = refl }

pub serving_on : (piece₀ buf₀ serials₀ out₀ b piece buf : List ℕ) (held : ℕ) (serials out : List ℕ) → Serving piece₀ buf₀ serials₀ out₀ b piece buf held serials out
    → (b' piece' buf' serials' out' : List ℕ) (r : Next) → Served b' r → (h : ℕ) (f : Bool) → r ≡ More h f
    → length piece' ≡ length piece → length buf' ≡ length buf → length serials' ≡ length serials → length out' ≡ length out
    → Serving piece₀ buf₀ serials₀ out₀ b' piece' buf' h serials' out'
serving_on piece₀ buf₀ serials₀ out₀ b piece buf held serials out s b' piece' buf' serials' out' r v h f e p q k o =
    let y = s.ready in
    record {
      ready = record {
        words = v.words;
        buffer = q ∙ y.buffer;
        short = omega (arith, v.short, ap held_by e);
        serial = omega (arith, y.serial, k);
        room = omega (arith, y.room, p, o);
      };
      end = omega (arith, s.end, o);
      same_piece = p ∙ s.same_piece;
      same_buf = q ∙ s.same_buf;
      same_serials = k ∙ s.same_serials;
      same_out = o ∙ s.same_out;
    }

-- ---- a piece answered, whether or not the first line is past

pub piece_done : (opens : Bool) (b chunk p out b' buf' out' : List ℕ) (held wrote : ℕ) → NextDone opens b chunk p out b' buf' out' held wrote
    → SoundWords b' × (held ≤ 1024) × (wrote ≤ 57 * length chunk)
piece_done opens b chunk p out b' buf' out' held wrote d = go opens refl
  where
    go : (x : Bool) → opens ≡ x → SoundWords b' × (held ≤ 1024) × (wrote ≤ 57 * length chunk)
    go true e = let y = d.first e in (y.words, y.answered.short, y.few)
    go false e = let y = d.later e in (y.words, y.answered.short, y.few)

-- ---- the slices that the program works in

pub zeros : (n : ℕ) → length {A = ℕ} (replicate n 0) ≡ n
zeros n = length-replicate n 0

pub ready_first : (b : List ℕ) → Started b → (piece buf serials out : List ℕ) → length piece ≡ 4096 → length buf ≡ 1024 → length serials ≡ 65 → length out ≡ 233472
    → Ready b piece buf 0 serials out × (57 ≤ length out)
ready_first b s piece buf serials out p q k o =
    (record { words = s.words; buffer = q; short = omega arith; serial = omega arith; room = omega arith }, omega arith)
