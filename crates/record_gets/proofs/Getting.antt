-- What the whole call answers, from where the record stands and what is written. Assumes nothing.
use Prim.Native.Nat.{ℕ, ◌+◌, ◌*◌, ◌≤◌, ◌<◌}
use native.Mathlib.Omega.{arith}
use mathlib.Core.Path.{◌≡◌, refl, sym, ◌∙◌, ap}
use mathlib.Core.List.{List}
use lib.ListN.{length, drop}
use lib.Seq.{sets}
use Rattle.ledger_spec.specs.Numbers.{SMALL}
use Rattle.text_lines.specs.declared.Line.{Line}
use Rattle.record_spec.specs.Numbers.{Bytes}
use Rattle.record_spec.specs.Reader.{record_in}
use Rattle.record_spec.specs.Moves.{Moved as Answer, refused}
use Rattle.record_spec.proofs.Moves.{accepted, room, no_room}
use Rattle.record_measures.specs.Measures.{members_at}
use Rattle.record_packs.specs.Packs.{MovedAs}
use Rattle.record_packs.proofs.Stores.{sets_front}
use Rattle.record_reads.specs.Reads.{Recorded, line_found}
use Rattle.record_gets.specs.declared.Found.{Found}
use Rattle.record_gets.specs.declared.words.Front.{Front}
use Rattle.record_gets.specs.Kth.{Asked, refusal, says, kth_of}
use Rattle.record_gets.specs.Words.{member_words, words_of, words_into, get_into}
use Rattle.record_gets.specs.Gets.{Holds, Finds, front_of, front_words}
use Rattle.record_gets.proofs.Writing.{Standing, front, members_of, two_parts, few, words_many, standing, sets_both}

pub said : (s : List ℕ) (k : ℕ) (out : List ℕ) (a : Asked) → kth_of s k ≡ a → get_into s k out ≡ words_into a out
unfolding get_into
said s k out a e = ap (λ (x : Asked). words_into x out) e

-- an answer that is a definition's
as_is : (m : Answer) (n : ℕ) (out : List ℕ) → m ≡ refused n out → MovedAs m out (record { number = n; size = 0 })
as_is m n out e = rw e (record { number = refl; size = refl; output = refl })

pub not_found : (s : List ℕ) (k : ℕ) (out : List ℕ) (r : Found) → Finds (kth_of s k) s r → (r.number ≡ 0 → ⊥) → MovedAs (get_into s k out) out (record { number = r.number; size = 0 })
not_found s k out r f n = as_is (get_into s k out) r.number out (said s k out (refusal r.number) (f.refused n))

pub recorded : (s : List ℕ) (k : ℕ) (p : ℕ) → Holds (kth_of s k) s p → Recorded s p
recorded s k p h = record { op = h.op; after = h.after; read = h.read }

module _ (s : List ℕ) (k p : ℕ) (b : Bytes (drop p s)) (h : Holds (kth_of s k) s p) (line : Line) (is : line ≡ line_found (record_in (drop p s))) (f : Front) (g : f ≡ front_of line) where
  same : f ≡ front h.op
  same = g ∙ ap front_of (is ∙ ap line_found h.read)

  stood : Standing s p b h.op
  stood = standing s p b h.op h.after h.read h.room

  pub members_room : p + 4 + 12 * f.members ≤ length s
  members_room = omega (arith, stood.room, ap (λ (x : Front). x.members) same)

  pub fronted : (2 ≤ f.many) × (f.many ≤ 4)
  fronted = let e = ap (λ (x : Front). x.many) same in (omega (arith, (few h.op).least, e), omega (arith, (few h.op).most, e))

  many : length (words_of h.op) ≡ f.many + 3 * f.members
  many = omega (arith, words_many h.op, ap (λ (x : Front). x.many) same, ap (λ (x : Front). x.members) same)

  module _ (out : List ℕ) where
    pub no_space : length out < f.many + 3 * f.members → MovedAs (get_into s k out) out (record { number = SMALL; size = 0 })
    no_space l = as_is (get_into s k out) SMALL out (said s k out (says h.op) h.said ∙ no_room (words_of h.op) out (omega (arith, l, many)))

    pub got : f.many + 3 * f.members ≤ length out → (o o' : List ℕ) → o ≡ sets out 0 (front_words f) → o' ≡ sets o f.many (member_words (members_at f.members s (p + 4)))
        → MovedAs (get_into s k out) o' (record { number = 0; size = f.many + 3 * f.members })
    got l o o' x y =
        let ws = words_of h.op in
        let long : length ws ≤ length out = omega (arith, l, many) in
        let e : get_into s k out ≡ accepted ws out = said s k out (says h.op) h.said ∙ room ws out long in
        rw e (record { number = refl; size = sym many; output = y ∙ stored ∙ sets_front ws out long })
      where
        -- the members' words are those of the operation, and go on from the words before them
        stored : sets o f.many (member_words (members_at f.members s (p + 4))) ≡ sets out 0 (words_of h.op)
        stored =
            let fw = front_words (front h.op) in
            let mw = member_words (members_of h.op) in
            let n : f.many ≡ 0 + length fw = omega (arith, (few h.op).are, ap (λ (v : Front). v.many) same) in
            let m : member_words (members_at f.members s (p + 4)) ≡ mw =
            ap (λ (v : Front). member_words (members_at v.members s (p + 4))) same ∙ ap member_words (sym stood.are) in
            let q : o ≡ sets out 0 fw = x ∙ ap (λ (v : Front). sets out 0 (front_words v)) same in
            (λ i. sets (q i) (n i) (m i)) ∙ sets_both fw mw out 0 ∙ ap (sets out 0) (sym (two_parts h.op))
