-- A blossom's serials: counting goes on from the place reached, storing has the rest to come. Assumes nothing.
use Rattle.std.proofs.lemmas.Option.{same_Some, none-some}
use Rattle.std.specs.Prelude.{None, Option, Some}
use Prim.Native.Nat.{ℕ, suc, ◌+◌, ◌≤◌, ◌<◌}
use native.Mathlib.Omega.{arith}
use native.Mathlib.Numerals.{add-one}
use native.Mathlib.Nat.{zero-add, add-zero}
use mathlib.Core.Path.{◌≡◌, refl, sym, ◌∙◌, ap}
use mathlib.Core.List.{List, [], ◌∷◌}
use lib.ListN.{length, set, length-set}
use lib.Seq.{sets}
use Rattle.ledger_spec.specs.Grammar.{Line as Said, wrong, Fields, a_serial, step, all_serials, gathered, some_serials}
use Rattle.text_fields.specs.Places.{from, next_of, NumberIs}
use Rattle.text_fields.proofs.Ends.{from_more, from_none}
use Rattle.text_fields.proofs.Steps.{step_some, step_none, step_empty}
use Rattle.text_lines.specs.declared.Line.{Line}
use Rattle.text_lines.specs.declared.Line.TheVariants.{Blossom, Wrong}
use Rattle.text_lines.specs.Counts.{counted}
use Rattle.text_lines.specs.Shown.{line_shown, serials_in, ReadAs}
use Rattle.text_lines.proofs.Follow.{got_further}

-- ---- one serial, and those after it

abbrev pub before : ℕ → Option (List ℕ) → Option (List ℕ)
before n None = None
before n (Some ns) = Some (n ∷ ns)

pub serials_none : all_serials [] ≡ Some []
unfolding all_serials
serials_none = refl

pub serials_bad : (f : List ℕ) (fs : Fields) → a_serial f ≡ None → all_serials (f ∷ fs) ≡ None
unfolding all_serials
serials_bad f fs e = rw (e, all_serials)

pub serials_cons : (f : List ℕ) (fs : Fields) (n : ℕ) → a_serial f ≡ Some n → all_serials (f ∷ fs) ≡ before n (all_serials fs)
unfolding all_serials
serials_cons f fs n e = rw (e, all_serials) (go (all_serials fs))
  where
    go : (o : Option (List ℕ)) → elim o as (λ (o : Option (List ℕ)). Option (List ℕ)) [ None ↦ None | Some ns ↦ Some (n ∷ ns) ] ≡ before n o
    go None = refl
    go (Some ns) = refl

pair_left : Option (ℕ × Fields) → ℕ
pair_left None = 0
pair_left (Some p) = p.0

pair_right : Option (ℕ × Fields) → Fields
pair_right None = []
pair_right (Some p) = p.1

serials_step : (fs gs : Fields) (n : ℕ) → Some (n, gs) ≡ step a_serial fs → all_serials fs ≡ before n (all_serials gs)
unfolding pair_left pair_right
serials_step [] gs n e = absurd (none-some (n, gs) (sym (e ∙ step_empty a_serial)))
serials_step (f ∷ fs) gs n e = go (a_serial f) refl
  where
    go : (o : Option ℕ) → a_serial f ≡ o → all_serials (f ∷ fs) ≡ before n (all_serials gs)
    go None p = absurd (none-some (n, gs) (sym (e ∙ step_none a_serial f fs p)))
    go (Some m) p =
        let y : ◌≡◌ {A = Option (ℕ × Fields)} (Some (m, fs)) (Some (n, gs)) = sym (e ∙ step_some a_serial f fs m p) in
        serials_cons f fs m p ∙ (λ i. before (ap pair_left y i) (all_serials (ap pair_right y i)))

serials_stop : (f : List ℕ) (fs : Fields) → None ≡ step a_serial (f ∷ fs) → all_serials (f ∷ fs) ≡ None
serials_stop f fs e = go (a_serial f) refl
  where
    go : (o : Option ℕ) → a_serial f ≡ o → all_serials (f ∷ fs) ≡ None
    go None p = serials_bad f fs p
    go (Some m) p = absurd (none-some (m, fs) (e ∙ step_some a_serial f fs m p))

-- ---- from a place of the line

at_end : (s : List ℕ) (e : ℕ) → length s ≤ e → all_serials (from s e) ≡ Some []
at_end s e h = ap all_serials (from_none 32 s e h) ∙ serials_none

module _ (s : List ℕ) (e : ℕ) (r : Option (ℕ × ℕ)) (is : NumberIs s e 1 4294967295 r) where
  at_got : (v z : ℕ) → r ≡ Some (v, z) → all_serials (from s e) ≡ before v (all_serials (from s z))
  at_got v z h = serials_step (from s e) (from s z) v (sym (ap (next_of s) h) ∙ is.read)

  at_missed : e < length s → r ≡ None → all_serials (from s e) ≡ None
  at_missed l h = rw (from_more 32 s e l) (serials_stop _ _ (rw (from_more 32 s e l) at (sym (ap (next_of s) h) ∙ is.read)))

-- ---- counting

abbrev more : ℕ → Option (List ℕ) → Option ℕ
more n None = None
more n (Some ns) = Some (n + length ns)

pub record Counting (s : List ℕ) (start e n : ℕ) : Type 0 where
  pub few : n ≤ e
  pub same : counted (all_serials (from s start)) ≡ more n (all_serials (from s e))

more_zero : (o : Option (List ℕ)) → counted o ≡ more 0 o
more_zero None = refl
more_zero (Some ns) = simp zero-add

more_one : (n v : ℕ) (o : Option (List ℕ)) → more n (before v o) ≡ more (n + 1) o
more_one n v None = refl
more_one n v (Some ns) = ap Some (shift n (length ns))
  where
    shift : (a k : ℕ) → a + suc k ≡ a + 1 + k
    shift a k = omega arith

pub count_start : (s : List ℕ) (e : ℕ) → Counting s e e 0
count_start s e = record { few = omega arith; same = more_zero (all_serials (from s e)) }

module _ (s : List ℕ) (start e n : ℕ) (g : Counting s start e n) where
  pub count_turn : (r : Option (ℕ × ℕ)) → NumberIs s e 1 4294967295 r → (v z : ℕ) → r ≡ Some (v, z) → Counting s start z (n + 1)
  count_turn r is v z h =
      let i = got_further s e 1 4294967295 r is v z h in
      record { few = omega (arith, g.few, i.0); same = g.same ∙ ap (more n) (at_got s e r is v z h) ∙ more_one n v (all_serials (from s z)) }

  pub count_bad : (r : Option (ℕ × ℕ)) → NumberIs s e 1 4294967295 r → e < length s → r ≡ None → None ≡ counted (all_serials (from s start))
  count_bad r is l h = sym (g.same ∙ ap (more n) (at_missed s e r is l h))

  pub count_end : length s ≤ e → Some n ≡ counted (all_serials (from s start))
  count_end l = sym (g.same ∙ ap (more n) (at_end s e l) ∙ ap Some (add-zero n))

-- ---- storing

pub record Storing (s out₀ : List ℕ) (start e n : ℕ) (out : List ℕ) : Type 0 where
  pub long : length out ≡ length out₀
  pub few : n ≤ e
  pub to_come : (ns : List ℕ) → all_serials (from s start) ≡ Some ns → (ms : List ℕ) × (all_serials (from s e) ≡ Some ms) × (sets out n ms ≡ sets out₀ 0 ns)

pub store_start : (s out : List ℕ) (e : ℕ) → Storing s out e e 0 out
store_start s out e = record { long = refl; few = omega arith; to_come = λ ns h. (ns, h, refl) }

pub before_some : (v : ℕ) (o : Option (List ℕ)) (ms : List ℕ) → before v o ≡ Some ms → (ks : List ℕ) × (o ≡ Some ks) × (ms ≡ v ∷ ks)
before_some v None ms h = absurd (none-some ms h)
before_some v (Some ks) ms h = (ks, refl, sym (same_Some (v ∷ ks) ms h))

module _ (s out₀ : List ℕ) (start e n : ℕ) (out : List ℕ) (g : Storing s out₀ start e n out) where
  pub store_turn : (r : Option (ℕ × ℕ)) → NumberIs s e 1 4294967295 r → (v z : ℕ) → r ≡ Some (v, z) → (out' : List ℕ) → out' ≡ set out n v → Storing s out₀ start z (n + 1) out'
  store_turn r is v z h out' o =
      let i = got_further s e 1 4294967295 r is v z h in
      record {
        long = ap length o ∙ length-set out n v ∙ g.long;
        few = omega (arith, g.few, i.0);
        to_come = λ ns t.
            let w = g.to_come ns t in
            let k = before_some v (all_serials (from s z)) w.0 (sym (at_got s e r is v z h) ∙ w.1) in
            (k.0, k.1, rw (o, add-one) (sym (ap (sets out n) k.2) ∙ w.2));
      }

  pub store_bad : (r : Option (ℕ × ℕ)) → NumberIs s e 1 4294967295 r → e < length s → r ≡ None → (ns : List ℕ) → all_serials (from s start) ≡ Some ns → out ≡ sets out₀ 0 ns
  store_bad r is l h ns t = let w = g.to_come ns t in absurd (none-some w.0 (sym (sym w.1 ∙ at_missed s e r is l h)))

  pub store_end : length s ≤ e → (ns : List ℕ) → all_serials (from s start) ≡ Some ns → out ≡ sets out₀ 0 ns
  store_end l ns t =
      let w = g.to_come ns t in
      ap (sets out n) (same_Some [] w.0 (sym (at_end s e l) ∙ w.1)) ∙ w.2

-- ---- the line

pub read_as : (m l : Said) (out out' : List ℕ) (r : Line) → l ≡ m → ReadAs m out out' r → ReadAs l out out' r
read_as m l out out' r e p = record { line = p.line ∙ ap line_shown (sym e); stored = p.stored ∙ ap (λ (k : Said). sets out 0 (serials_in k)) (sym e) }

pub read_wrong : (l : Said) (out : List ℕ) → l ≡ wrong → ReadAs l out out Wrong
read_wrong l out e = read_as wrong l out out Wrong e (record { line = refl; stored = refl })

some_more : (s : List ℕ) (u e : ℕ) → e < length s → some_serials u (from s e) ≡ gathered u (all_serials (from s e))
some_more s u e h = rw (from_more 32 s e h)

counted_none : (o : Option (List ℕ)) → None ≡ counted o → o ≡ None
counted_none None h = refl
counted_none (Some ns) h = absurd (let z : ◌≡◌ {A = ℕ} 0 1 = cc in omega arith)

counted_all : (o : Option (List ℕ)) (k : ℕ) → Some k ≡ counted o → (ns : List ℕ) × (o ≡ Some ns) × (k ≡ length ns)
counted_all None k h = absurd (let z : ◌≡◌ {A = ℕ} 0 1 = cc in omega arith)
counted_all (Some ns) k h = (ns, refl, cc)

pub blossom_end : (s out : List ℕ) (u e : ℕ) → length s ≤ e → ReadAs (some_serials u (from s e)) out out Wrong
blossom_end s out u e l = read_wrong (some_serials u (from s e)) out (ap (some_serials u) (from_none 32 s e l))

module _ (s out : List ℕ) (u e : ℕ) (k : Option ℕ) (l : e < length s) (q : k ≡ counted (all_serials (from s e))) where
  pub blossom_bad : k ≡ None → ReadAs (some_serials u (from s e)) out out Wrong
  blossom_bad h = read_wrong (some_serials u (from s e)) out (some_more s u e l ∙ ap (gathered u) (counted_none (all_serials (from s e)) (sym h ∙ q)))

  pub blossom_good : (out' : List ℕ) (n : ℕ) → k ≡ Some n → ((ns : List ℕ) → all_serials (from s e) ≡ Some ns → out' ≡ sets out 0 ns) → ReadAs (some_serials u (from s e)) out out' (Blossom u n)
  blossom_good out' n h o =
      let w = counted_all (all_serials (from s e)) n (sym h ∙ q) in
      read_as (gathered u (Some w.0)) (some_serials u (from s e)) out out' (Blossom u n) (some_more s u e l ∙ ap (gathered u) w.1)
      (record { line = ap (Blossom u) w.2; stored = o w.0 w.1 })
