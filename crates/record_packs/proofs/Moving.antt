-- The file from its three parts, and what the move answers. Assumes nothing.
use Rattle.std.specs.Prelude.{None, Option, Some}
use Prim.Native.Nat.{ℕ, suc, ◌+◌, ◌*◌, ◌≤◌, ◌<◌}
use native.Mathlib.Omega.{arith}
use native.Mathlib.Decide.{dec_le}
use mathlib.Core.Path.{◌≡◌, refl, sym, ◌∙◌, ap, subst}
use mathlib.Core.Bool.{true, false, true≢false}
use mathlib.Core.List.{List, [], ◌∷◌, ◌++◌}
use lib.ListN.{length, drop}
use lib.Seq.{sets}
use Rattle.ledger_spec.specs.Numbers.{SMALL, FILE}
use Rattle.text_decimals.specs.Wrote.{Wrote}
use Rattle.text_decimals.proofs.Writes.{sets_append}
use Rattle.record_spec.specs.Numbers.{bytes, fours}
use Rattle.record_spec.specs.Operations.{Op}
use Rattle.record_spec.specs.Records.{bytes_of}
use Rattle.record_spec.specs.Files.{mark, records_of, starts, trailer, file_of, largest}
use Rattle.record_spec.specs.Moves.{text_ops, refused, to_records}
use Rattle.record_spec.proofs.Numbers.{length_fours}
use Rattle.record_spec.proofs.Files.{length_file}
use Rattle.record_spec.proofs.Moves.{accepted, room, no_room, records_none, records_large, records_some}
use Rattle.record_weights.specs.declared.Weighed.{Weighed}
use Rattle.record_weights.specs.Weights.{weighed_of}
use Rattle.record_weights.proofs.Weighing.{told_fits, told_large}
use Rattle.record_packs.specs.Packs.{Ready, Filled, MovedAs}
use Rattle.record_packs.proofs.Stores.{sets_front}

-- ---- what was weighed

pub record Moves (text : List ℕ) (w : Weighed) : Type 0 where
  pub ops : List Op
  pub said : text_ops text ≡ Some ops
  pub small : length (file_of ops) ≤ largest
  pub count : w.count ≡ length ops
  pub size : w.size ≡ length (records_of ops)

module _ (text : List ℕ) (w : Weighed) (is : w ≡ weighed_of (text_ops text)) where
  pub moves : w.whole ≡ true → Moves text w
  moves t = go (text_ops text) refl
    where
      fits : (ops : List Op) → text_ops text ≡ Some ops → Dec (length (records_of ops) + (4 * length ops + 16) ≤ largest) → Moves text w
      fits ops e (yes h) =
          let q : w ≡ record { whole = true; count = length ops; size = length (records_of ops) } = is ∙ ap weighed_of e ∙ told_fits (length ops) (length (records_of ops)) h in
          record { ops = ops; said = e; small = omega (arith, length_file ops, h); count = ap (λ (x : Weighed). x.count) q; size = ap (λ (x : Weighed). x.size) q }
      fits ops e (no h) = absurd (true≢false (sym t ∙ ap (λ (x : Weighed). x.whole) (is ∙ ap weighed_of e ∙ told_large (length ops) (length (records_of ops)) (omega arith))))

      go : (o : Option (List Op)) → text_ops text ≡ o → Moves text w
      go None e = absurd (true≢false (sym t ∙ ap (λ (x : Weighed). x.whole) (is ∙ ap weighed_of e)))
      go (Some ops) e = fits ops e (dec_le (length (records_of ops) + (4 * length ops + 16)) largest)

  pub moves_not : (out : List ℕ) → w.whole ≡ false → MovedAs (to_records text out) out (record { number = FILE; size = 0 })
  moves_not out t = subst (λ m. MovedAs m out (record { number = FILE; size = 0 })) (sym (go (text_ops text) refl)) (record { number = refl; size = refl; output = refl })
    where
      fits : (ops : List Op) → text_ops text ≡ Some ops → Dec (length (records_of ops) + (4 * length ops + 16) ≤ largest) → to_records text out ≡ refused FILE out
      fits ops e (yes h) = absurd (true≢false (sym (ap (λ (x : Weighed). x.whole) (is ∙ ap weighed_of e ∙ told_fits (length ops) (length (records_of ops)) h)) ∙ t))
      fits ops e (no h) = records_large text out ops e (omega (arith, length_file ops))

      go : (o : Option (List Op)) → text_ops text ≡ o → to_records text out ≡ refused FILE out
      go None e = records_none text out e
      go (Some ops) e = fits ops e (dec_le (length (records_of ops) + (4 * length ops + 16)) largest)

-- ---- the three parts

module _ (text : List ℕ) (w : Weighed) (m : Moves text w) where
  pub sizes : w.size + 4 * w.count + 16 ≤ largest
  sizes = omega (arith, m.small, length_file m.ops, m.count, m.size)

  pub ready : (out : List ℕ) → w.size + 4 * w.count ≤ length out → Ready (text_ops text) w.size (length out)
  ready out h = subst (λ (o : Option (List Op)). Ready o w.size (length out)) (sym m.said) (sym m.size, omega (arith, h, m.count))

  pub too_small : (out : List ℕ) → length out < w.size + 4 * w.count + 16 → MovedAs (to_records text out) out (record { number = SMALL; size = 0 })
  too_small out h =
      let e : to_records text out ≡ refused SMALL out = records_some text out m.ops m.said m.small ∙ no_room (file_of m.ops) out (omega (arith, length_file m.ops, m.count, m.size, h)) in
      rw e (record { number = refl; size = refl; output = refl })

  pub moved : (out out₁ out₂ : List ℕ) (z : ℕ) → w.size + 4 * w.count + 16 ≤ length out → Filled (text_ops text) out w.size out₁
      → Wrote out₁ (w.size + 4 * w.count) (trailer w.size w.count) out₂ z → MovedAs (to_records text out) out₂ (record { number = 0; size = w.size + 4 * w.count + 16 })
  unfolding file_of starts
  moved out out₁ out₂ z h f v =
      let ops = m.ops in
      let R = records_of ops in
      let L = fours (starts 0 ops) in
      let T = trailer (length R) (length ops) in
      let e : to_records text out ≡ accepted (file_of ops) out = records_some text out ops m.said m.small ∙ room (file_of ops) out (omega (arith, length_file ops, m.count, m.size, h)) in
      let a : out₁ ≡ sets (sets out 0 R) w.size L = subst (λ (o : Option (List Op)). Filled o out w.size out₁) m.said f in
      let zero_first : length R ≡ 0 + length R = omega arith in
      let k : w.size + 4 * w.count ≡ length R + length L = omega (arith, m.size, m.count, length_list ops) in
      let s : out₂ ≡ file_of ops ++ drop (length (file_of ops)) out =
      v.stands
      ∙ (λ i. sets (a i) (k i) (trailer (m.size i) (m.count i)))
      ∙ (λ i. sets (sets (sets out 0 R) (m.size i) L) (length R + length L) T)
      ∙ sym (sets_append L T (sets out 0 R) (length R))
      ∙ ap (λ (n : ℕ). sets (sets out 0 R) n (L ++ T)) zero_first
      ∙ sym (sets_append R (L ++ T) out 0)
      ∙ sets_front (file_of ops) out (omega (arith, length_file ops, m.count, m.size, h)) in
      rw e (record { number = refl; size = omega (arith, length_file ops, m.count, m.size); output = s })
    where
      length_list : (l : List Op) → length (fours (starts 0 l)) ≡ 4 * length l
      length_list l = length_fours (starts 0 l) ∙ ap (λ (n : ℕ). 4 * n) (many l 0)
        where
          many : (x : List Op) (from : ℕ) → length (starts from x) ≡ length x
          many [] from = refl
          many (op ∷ x) from = ap suc (many x (from + length (bytes_of op)))

pub trailer_parts : (a n : ℕ) → ((bytes 4 a ++ bytes 4 n) ++ bytes 4 (a + 4 * n)) ++ bytes 4 mark ≡ trailer a n
unfolding trailer fours bytes
trailer_parts a n = refl
