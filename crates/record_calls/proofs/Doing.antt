-- What the code does at a place is what the record there says: a blossom by its first 65 members, any other letter as its line. Assumes nothing.
use Rattle.std.specs.Prelude.{Option, Some}
use Prim.Native.Nat.{ℕ, ◌+◌, ◌*◌, ◌≤◌, ◌<◌}
use native.Mathlib.Omega.{arith}
use native.Mathlib.Decide.{dec_lt}
use mathlib.Core.Path.{◌≡◌, refl, sym, ◌∙◌, ap, subst}
use mathlib.Core.Logic.{by_cases}
use mathlib.Core.List.{List, [], map}
use lib.ListN.{length, take, drop, get_or, length-map}
use lib.Seq.{sets, length-take-le, get_or-take, get_or-drop}
use Rattle.kinds.specs.declared.Handle.{Handle}
use Rattle.ledger_spec.specs.Bench.{Bench}
use Rattle.ledger_spec.specs.Calls.{Blossom, perform}
use Rattle.ledger_spec.specs.Operations.{D, B, E, S, G, F, C, K}
use Rattle.ledger_spec.specs.Grammar.{Line as Said}
use Rattle.ledger_spec.specs.Lines.{LineAnswer, shown, says}
use Rattle.bench_views.specs.View.{view}
use Rattle.bench_views.specs.Fit.{SoundWords}
use Rattle.bench_views.specs.Given.{hand_given}
use Rattle.outcomes.specs.Answered.{Answered}
use Rattle.deed_circles.specs.Given.{hands_given, pairs_given}
use Rattle.text_lines.specs.declared.Line.{Line}
use Rattle.text_lines.specs.Shown.{serials_in, ReadAs}
use Rattle.text_lines.specs.Texts.{letter_of}
use Rattle.text_members.specs.Names.{AllNamed}
use Rattle.text_members.proofs.Circles.{Alike, alike}
use Rattle.text_numbers.specs.declared.Reply.{Reply}
use Rattle.text_numbers.specs.Numbers.{numbers_of}
use Rattle.text_calls.specs.Turned.{Gave, Turned, Few}
use Rattle.text_calls.proofs.Turning.{gave}
use Rattle.record_spec.specs.Numbers.{Bytes}
use Rattle.record_spec.specs.Operations.{Member, Op, serial_of, line_said}
use Rattle.record_spec.specs.Records.{bytes_of}
use Rattle.record_spec.specs.Reader.{record_in}
use Rattle.record_spec.specs.Places.{at}
use Rattle.record_spec.proofs.Records.{record_only}
use Rattle.record_measures.specs.Measures.{members_at}
use Rattle.record_measures.proofs.Members.{members_many}
use Rattle.record_reads.specs.Reads.{Recorded, line_found}
use Rattle.record_reads.proofs.Reading.{op-B}
use Rattle.record_says.specs.Says.{member_named, pair_named, says_op}
use Rattle.record_calls.specs.Done.{DoneAt, touches, Laid}
use Rattle.record_calls.proofs.Circles.{same_given, many_given}

-- ---- an answer, of the record that stands there

pub done_at : (b s : List ℕ) (p : ℕ) (R : Recorded s p) (r : Reply) (b' : List ℕ) → Gave (says_op (view b) R.op) r b' → DoneAt b (record_in (drop p s)) r b'
done_at b s p R r b' g = subst (λ (o : Option (Op × List ℕ)). DoneAt b o r b') (sym R.read) g

-- ---- a blossom

front_alike : (b : Bench) (n : ℕ) (ks ws : List ℕ) → n ≤ length ks → AllNamed b n ks ws → Alike b (take n ks) (take n ws)
front_alike b n ks ws l a =
    let p : length (take n ks) ≡ n = length-take-le n ks l in
    let q : length (take n ws) ≡ n = length-take-le n ws (omega (arith, a.long)) in
    alike b (take n ks) (take n ws) (q ∙ sym p) (λ i m. let h : i < n = omega arith in rw (get_or-take, get_or-take) (a.each i h))

module _ (b : Bench) (u : ℕ) (s : List ℕ) (q count n : ℕ) (few : Few count n) (m₀ t₀ m₁ t₁ m₂ t₂ : List ℕ)
    (room : 65 ≤ length m₀) (wide : 130 ≤ length t₀) (laid : Laid (members_at n s q) n m₀ t₀ m₁ t₁) (ns : AllNamed b n m₁ m₂) (ts : AllNamed b (2 * n) t₁ t₂) where
  fits : n ≤ length m₂
  fits = omega (arith, few.most, laid.long, ns.long)

  fits_two : 2 * n ≤ length t₂
  fits_two = omega (arith, few.most, laid.wide, ts.long)

  pub same_call : perform b (Blossom u (hands_given (take n m₂)) (pairs_given (take (2 * n) t₂)))
      ≡ perform b (Blossom u (map (member_named b) (members_at count s q)) (map (pair_named b) (members_at count s q)))
  same_call = by_cases (dec_lt 64 count) large small
    where
      ms : List Member
      ms = members_at count s q

      large : 64 < count → perform b (Blossom u (hands_given (take n m₂)) (pairs_given (take (2 * n) t₂))) ≡ perform b (Blossom u (map (member_named b) ms) (map (pair_named b) ms))
      large l =
          many_given b u (hands_given (take n m₂)) (map (member_named b) ms) (pairs_given (take (2 * n) t₂)) (map (pair_named b) ms)
          (omega (arith, length-map (take n m₂) hand_given, length-take-le n m₂ fits, few.many l))
          (omega (arith, length-map ms (member_named b), members_many count s q))

      small : (64 < count → ⊥) → perform b (Blossom u (hands_given (take n m₂)) (pairs_given (take (2 * n) t₂))) ≡ perform b (Blossom u (map (member_named b) ms) (map (pair_named b) ms))
      small l =
          let e : n ≡ count = few.all (omega arith) in
          let f : length ms ≡ n = members_many count s q ∙ sym e in
          let same : members_at n s q ≡ ms = ap (λ (k : ℕ). members_at k s q) e in
          same_given b u ms (take n m₂) (take (2 * n) t₂) (length-take-le n m₂ fits ∙ sym f)
          (length-take-le (2 * n) t₂ fits_two ∙ ap (λ (k : ℕ). 2 * k) (sym f))
          (subst (λ (l : List ℕ). Alike b l (take n m₂)) (laid.serials ∙ ap (map serial_of) same) (front_alike b n m₁ m₂ (omega (arith, few.most, laid.long)) ns))
          (subst (λ (l : List ℕ). Alike b l (take (2 * n) t₂)) (laid.pairs ∙ ap touches same) (front_alike b (2 * n) t₁ t₂ (omega (arith, few.most, laid.wide)) ts))

pub done_blossom : (b : List ℕ) → SoundWords b → (s : List ℕ) (p : ℕ) (R : Recorded s p) → get_or s p 0 ≡ 66 → (count n : ℕ) → count ≡ at 2 s (p + 2) → Few count n
    → (m₀ t₀ m₁ t₁ m₂ t₂ : List ℕ) → 65 ≤ length m₀ → 130 ≤ length t₀ → Laid (members_at n s (p + 4)) n m₀ t₀ m₁ t₁ → AllNamed (view b) n m₁ m₂ → AllNamed (view b) (2 * n) t₁ t₂
    → (k : ℕ) (h : Handle) (b' : List ℕ) → Answered b (Blossom (get_or s (p + 1) 0) (hands_given (take n m₂)) (pairs_given (take (2 * n) t₂))) k h b'
    → (r : Reply) → numbers_of r ≡ shown k h.serial.0 (view b') (get_or s (p + 1) 0) → DoneAt b (record_in (drop p s)) r b'
unfolding says_op
done_blossom b W s p R e count n c few m₀ t₀ m₁ t₁ m₂ t₂ room wide laid ns ts k h b' A r t =
    let u = get_or s (p + 1) 0 in
    let four : p + 2 + 2 ≡ p + 4 = omega arith in
    let o : R.op ≡ B u (members_at count s (p + 4)) = op-B s p R e ∙ (λ i. B u (members_at (sym c i) s (four i))) in
    let ms = members_at count s (p + 4) in
    done_at b s p R r b' (subst (λ (x : Op). Gave (says_op (view b) x) r b') (sym o)
    (gave b W (says_op (view b) (B u ms)) u (Blossom u (map (member_named (view b)) ms) (map (pair_named (view b)) ms)) refl
    (Blossom u (hands_given (take n m₂)) (pairs_given (take (2 * n) t₂)))
    (same_call (view b) u s (p + 4) count n few m₀ t₀ m₁ t₁ m₂ t₂ room wide laid ns ts) k h b' A r t))

-- ---- any other letter

blossom_letter : (s : List ℕ) (p u : ℕ) (ms : List Member) (r : List ℕ) → Bytes (drop p s) → record_in (drop p s) ≡ Some (B u ms, r) → get_or s p 0 ≡ 66
unfolding bytes_of letter_of
blossom_letter s p u ms r h e =
    let zero : p ≡ p + 0 = omega arith in
    ap (λ (q : ℕ). get_or s q 0) zero ∙ sym (get_or-drop p s 0 0) ∙ ap (λ (l : List ℕ). get_or l 0 0) (record_only (drop p s) (B u ms) r h e).are

record AsLine (b : Bench) (op : Op) : Type 0 where
  none_stored : serials_in (line_said op) ≡ []
  same : says_op b op ≡ says b (line_said op)

as_line : (b : Bench) (s : List ℕ) (p : ℕ) → Bytes (drop p s) → (get_or s p 0 ≡ 66 → ⊥) → (op : Op) (r : List ℕ) → record_in (drop p s) ≡ Some (op, r) → AsLine b op
unfolding says_op says
as_line b s p h n (D u v) r e = record { none_stored = refl; same = refl }
as_line b s p h n (B u ms) r e = absurd (n (blossom_letter s p u ms r h e))
as_line b s p h n (E u k) r e = record { none_stored = refl; same = refl }
as_line b s p h n (S u k g) r e = record { none_stored = refl; same = refl }
as_line b s p h n (G u l) r e = record { none_stored = refl; same = refl }
as_line b s p h n (F q l r) x e = record { none_stored = refl; same = refl }
as_line b s p h n (C u) r e = record { none_stored = refl; same = refl }
as_line b s p h n (K u) r e = record { none_stored = refl; same = refl }

pub done_line : (b s : List ℕ) (p : ℕ) (R : Recorded s p) → Bytes (drop p s) → (get_or s p 0 ≡ 66 → ⊥) → (line : Line) → line ≡ line_found (record_in (drop p s))
    → (serials : List ℕ) (r : Reply) (b' : List ℕ)
    → ((l : Said) (before : List ℕ) → length before ≡ length serials → ReadAs l before serials line → Turned b l r b') → DoneAt b (record_in (drop p s)) r b'
done_line b s p R h n line e serials r b' turned =
    let x = as_line (view b) s p h n R.op R.after R.read in
    done_at b s p R r b' (subst (λ (a : LineAnswer). Gave a r b') (sym x.same)
    (turned (line_said R.op) serials refl (record { line = e ∙ ap line_found R.read; stored = ap (sets serials 0) (sym x.none_stored) })))
