-- An operation's words: those before the members and the members'; and writing them piece by piece. Assumes nothing.
use Rattle.std.specs.Prelude.{Some}
use Prim.Native.Nat.{ℕ, zero, suc, ◌+◌, ◌-◌, ◌*◌, ◌≤◌, ◌<◌}
use native.Mathlib.Omega.{arith}
use mathlib.Core.Path.{◌≡◌, refl, sym, ◌∙◌, ap}
use mathlib.Core.List.{List, [], ◌∷◌, ◌++◌, map}
use lib.ListN.{length, take, drop, get_or, set, length-append}
use lib.Seq.{sets, length-sets, get_or-drop}
use Rattle.ledger_spec.specs.Bench.{grows, stays, shrinks}
use Rattle.ledger_spec.specs.Operations.{D, B, E, S, G, F, C, K}
use Rattle.text_lines.specs.Texts.{letter_of}
use Rattle.record_spec.specs.Numbers.{Bytes}
use Rattle.record_spec.specs.Operations.{Member, Op, serial_of}
use Rattle.record_spec.specs.Records.{bytes_of}
use Rattle.record_spec.specs.Reader.{record_in}
use Rattle.record_spec.specs.Places.{at}
use Rattle.record_spec.proofs.Records.{record_only}
use Rattle.record_measures.specs.Measures.{members_at}
use Rattle.record_measures.proofs.Members.{members_many}
use Rattle.record_reads.specs.Reads.{Recorded, line_of_record}
use Rattle.record_reads.proofs.Reading.{room-B, op-B}
use Rattle.record_gets.specs.Words.{member_words, words_of}
use Rattle.record_gets.specs.declared.words.Front.{Front}
use Rattle.record_gets.specs.Gets.{front_of, front_words}

-- ---- an operation's words in two parts

abbrev pub members_of : Op → List Member
members_of (D u v) = []
members_of (B u ms) = ms
members_of (E u k) = []
members_of (S u k g) = []
members_of (G u l) = []
members_of (F p l r) = []
members_of (C u) = []
members_of (K u) = []

abbrev pub front : Op → Front
front op = front_of (line_of_record op)

map_many : (ms : List Member) → length (map serial_of ms) ≡ length ms
map_many [] = refl
map_many (m ∷ ms) = ap suc (map_many ms)

pub members_count : (op : Op) → (front op).members ≡ length (members_of op)
members_count (D u v) = refl
members_count (B u ms) = map_many ms
members_count (E u k) = refl
members_count (S u k g) = refl
members_count (G u l) = refl
members_count (F p l r) = refl
members_count (C u) = refl
members_count (K u) = refl

pub two_parts : (op : Op) → words_of op ≡ front_words (front op) ++ member_words (members_of op)
unfolding words_of member_words
two_parts (D u v) = refl
two_parts (B u ms) = ap (λ (n : ℕ). 66 ∷ u ∷ n ∷ member_words ms) (sym (map_many ms))
two_parts (E u k) = refl
two_parts (S u k grows) = refl
two_parts (S u k stays) = refl
two_parts (S u k shrinks) = refl
two_parts (G u l) = refl
two_parts (F p l r) = refl
two_parts (C u) = refl
two_parts (K u) = refl

-- two to four words before the members
pub record Few (f : Front) : Type 0 where
  pub least : 2 ≤ f.many
  pub most : f.many ≤ 4
  pub are : length (front_words f) ≡ f.many

few_of : (n a b c d m : ℕ) → 2 ≤ n → n ≤ 4 → length (take n (a ∷ b ∷ c ∷ d ∷ [])) ≡ n → Few (record { many = n; letter = a; unit = b; third = c; fourth = d; members = m })
few_of n a b c d m x y z = record { least = x; most = y; are = z }

pub few : (op : Op) → Few (front op)
few (D u v) = few_of _ _ _ _ _ _ (omega arith) (omega arith) refl
few (B u ms) = few_of _ _ _ _ _ _ (omega arith) (omega arith) refl
few (E u k) = few_of _ _ _ _ _ _ (omega arith) (omega arith) refl
few (S u k g) = few_of _ _ _ _ _ _ (omega arith) (omega arith) refl
few (G u l) = few_of _ _ _ _ _ _ (omega arith) (omega arith) refl
few (F p l r) = few_of _ _ _ _ _ _ (omega arith) (omega arith) refl
few (C u) = few_of _ _ _ _ _ _ (omega arith) (omega arith) refl
few (K u) = few_of _ _ _ _ _ _ (omega arith) (omega arith) refl

member_many : (ms : List Member) → length (member_words ms) ≡ 3 * length ms
unfolding member_words
member_many [] = refl
member_many (m ∷ ms) = let e = member_many ms in omega (arith, e)

pub words_many : (op : Op) → length (words_of op) ≡ (front op).many + 3 * (front op).members
words_many op =
    omega (arith, ap length (two_parts op), length-append (front_words (front op)) (member_words (members_of op)), (few op).are, member_many (members_of op), members_count op)

-- ---- the members stand after the count

module _ (s : List ℕ) (p : ℕ) (h : Bytes (drop p s)) where
  pub record Standing (op : Op) : Type 0 where
    pub are : members_of op ≡ members_at (front op).members s (p + 4)
    pub room : p + 4 + 12 * (front op).members ≤ length s

  none_there : (op : Op) → p + 4 ≤ length s → members_of op ≡ [] → (front op).members ≡ 0 → Standing op
  unfolding members_at
  none_there op l e f = record { are = e ∙ sym (ap (λ (n : ℕ). members_at n s (p + 4)) f); room = omega (arith, f, l) }

  pub standing : (op : Op) (r : List ℕ) → record_in (drop p s) ≡ Some (op, r) → p + 4 ≤ length s → Standing op
  unfolding bytes_of letter_of
  standing (D u v) r e l = none_there (D u v) l refl refl
  standing (B u ms) r e l =
      let z : p ≡ p + 0 = omega arith in
      let four : p + 2 + 2 ≡ p + 4 = omega arith in
      let R : Recorded s p = record { op = B u ms; after = r; read = e } in
      let b : get_or s p 0 ≡ 66 = ap (λ (q : ℕ). get_or s q 0) z ∙ sym (get_or-drop p s 0 0) ∙ ap (λ (x : List ℕ). get_or x 0 0) (record_only (drop p s) (B u ms) r h e).are in
      let m : ms ≡ members_at (at 2 s (p + 2)) s (p + 4) = ap members_of (op-B s p R b) ∙ ap (members_at (at 2 s (p + 2)) s) four in
      let n : length ms ≡ at 2 s (p + 2) = ap length m ∙ members_many (at 2 s (p + 2)) s (p + 4) in
      let c : (front (B u ms)).members ≡ at 2 s (p + 2) = map_many ms ∙ n in
      record { are = m ∙ sym (ap (λ (j : ℕ). members_at j s (p + 4)) c); room = omega (arith, c, room-B s p R b) }
  standing (E u k) r e l = none_there (E u k) l refl refl
  standing (S u k g) r e l = none_there (S u k g) l refl refl
  standing (G u x) r e l = none_there (G u x) l refl refl
  standing (F q x y) r e l = none_there (F q x y) l refl refl
  standing (C u) r e l = none_there (C u) l refl refl
  standing (K u) r e l = none_there (K u) l refl refl

-- ---- stores

module _ (out : List ℕ) (f : Front) where
  pub front_two : f.many ≡ 2 → set (set out 0 f.letter) 1 f.unit ≡ sets out 0 (front_words f)
  front_two e = ap (λ (n : ℕ). sets out 0 (take n (f.letter ∷ f.unit ∷ f.third ∷ f.fourth ∷ []))) (sym e)

  pub front_three : f.many ≡ 3 → set (set (set out 0 f.letter) 1 f.unit) 2 f.third ≡ sets out 0 (front_words f)
  front_three e = ap (λ (n : ℕ). sets out 0 (take n (f.letter ∷ f.unit ∷ f.third ∷ f.fourth ∷ []))) (sym e)

  pub front_four : f.many ≡ 4 → set (set (set (set out 0 f.letter) 1 f.unit) 2 f.third) 3 f.fourth ≡ sets out 0 (front_words f)
  front_four e = ap (λ (n : ℕ). sets out 0 (take n (f.letter ∷ f.unit ∷ f.third ∷ f.fourth ∷ []))) (sym e)

-- three words from a place on
pub put_three : (out : List ℕ) (i a b c a' b' c' : ℕ) → a ≡ a' → b ≡ b' → c ≡ c' → set (set (set out i a) (i + 1) b) (i + 2) c ≡ sets out i (a' ∷ b' ∷ c' ∷ [])
put_three out i a b c a' b' c' p q r =
    let j : i + 1 ≡ suc i = omega arith in
    let k : i + 2 ≡ suc (suc i) = omega arith in
    λ n. set (set (set out i (p n)) (j n) (q n)) (k n) (r n)

pub sets_both : (a b l : List ℕ) (i : ℕ) → sets (sets l i a) (i + length a) b ≡ sets l i (a ++ b)
sets_both [] b l i = let e : i + 0 ≡ i = omega arith in ap (λ (j : ℕ). sets l j b) e
sets_both (x ∷ a) b l i = let e : i + suc (length a) ≡ suc i + length a = omega arith in ap (λ (j : ℕ). sets (sets (set l i x) (suc i) a) j b) e ∙ sets_both a b (set l i x) (suc i)

-- the first of the members that are left
first_member : (n : ℕ) (s : List ℕ) (p : ℕ) → 0 < n
    → member_words (members_at n s p) ≡ at 4 s p ∷ at 4 s (p + 4) ∷ at 4 s (p + 8) ∷ member_words (members_at (n - 1) s (p + 12))
unfolding member_words members_at
first_member zero s p h = absurd (omega arith)
first_member (suc n) s p h =
    let e : n ≡ suc n - 1 = omega arith in
    ap (λ (k : ℕ). at 4 s p ∷ at 4 s (p + 4) ∷ at 4 s (p + 8) ∷ member_words (members_at k s (p + 12))) e

-- of `count` members from q on, `left` are left from p on, and go to `at`
pub record Putting (s : List ℕ) (q count : ℕ) (out₀ : List ℕ) (place : ℕ) (out : List ℕ) (p to left : ℕ) : Type 0 where
  pub long : length out ≡ length out₀
  pub whole : sets out to (member_words (members_at left s p)) ≡ sets out₀ place (member_words (members_at count s q))

pub putting : (s : List ℕ) (q count : ℕ) (out₀ : List ℕ) (place : ℕ) → Putting s q count out₀ place out₀ q place count
putting s q count out₀ place = record { long = refl; whole = refl }

module _ (s : List ℕ) (q count : ℕ) (out₀ : List ℕ) (place : ℕ) (out : List ℕ) (p to left : ℕ) (w : Putting s q count out₀ place out p to left) where
  pub put_on : 0 < left → (out' : List ℕ) → out' ≡ sets out to (at 4 s p ∷ at 4 s (p + 4) ∷ at 4 s (p + 8) ∷ []) → Putting s q count out₀ place out' (p + 12) (to + 3) (left - 1)
  put_on h out' e =
      let f : to + 3 ≡ suc (suc (suc to)) = omega arith in
      let rest = member_words (members_at (left - 1) s (p + 12)) in
      record {
        long = ap length e ∙ length-sets out to (at 4 s p ∷ at 4 s (p + 4) ∷ at 4 s (p + 8) ∷ []) ∙ w.long;
        whole = (λ i. sets (e i) (f i) rest) ∙ sym (ap (sets out to) (first_member left s p h)) ∙ w.whole;
      }

  pub put_done : left ≤ 0 → out ≡ sets out₀ place (member_words (members_at count s q))
  unfolding member_words members_at
  put_done h = let e : left ≡ 0 = omega arith in sym (ap (λ (n : ℕ). sets out to (member_words (members_at n s p))) e) ∙ w.whole
