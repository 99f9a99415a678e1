-- A line that is no wrong one is the text of what it says, and says numbers that fit: nothing has two spellings. Assumes nothing.
use Rattle.std.specs.Prelude.{None, Option, Some}
use Rattle.std.proofs.lemmas.Option.{same_Some, none-some}
use Prim.Native.Nat.{ℕ, zero, suc, ◌≤◌}
use native.Mathlib.Omega.{arith}
use native.Mathlib.Decide.{ℕ_discrete, dec_le}
use mathlib.Core.Path.{◌≡◌, refl, sym, ◌∙◌, ap, subst}
use mathlib.Core.List.{List, [], ◌∷◌, map}
use lib.ListN.{length, length-map}
use borrow.Author.Tests.{ne_eqb}
use lib.IntN.{ℤ, pos, negsuc}
use Rattle.text_decimals.proofs.Values.{between_said}
use Rattle.text_decimals.proofs.Back.{only_number, only_signed, integer_fits}
use Rattle.ledger_spec.specs.Bench.{State, grows, stays, shrinks, rate}
use Rattle.ledger_spec.specs.Decimals.{decimal, natural, number_within, integer}
use Rattle.ledger_spec.specs.Fields.{upto, parts_after, cut}
use Rattle.ledger_spec.specs.Operations.{D, E, S, G, F, C, K}
use Rattle.ledger_spec.specs.Grammar.{Line, wrong, Fields, a_unit, a_vertex, a_serial, an_amount, a_state, state_in, letter, follow, then, no_more, all_serials, gathered, some_serials, rest, line_of}
use Rattle.text_fields.proofs.Steps.{step_some, step_none, step_empty}
use Rattle.text_lines.specs.Texts.{spaced, letter_of, fields_of, line_text, Serials, Fit}
use Rattle.text_lines.proofs.Serials.{serials_none, serials_cons, serials_bad, before_some}
use Rattle.text_lines.proofs.Spaces.{spaced_cut}
use Rattle.text_lines.proofs.Whole.{line_long, line_short}

-- ---- one field back

pub record Taken {A : Type 0} (r : List ℕ → Option A) (k : A → Fields → Line) (fs : Fields) (l : Line) : Type 0 where
  field : List ℕ
  others : Fields
  value : A
  are : fs ≡ field ∷ others
  read : r field ≡ Some value
  goes : k value others ≡ l

taken : {A : Type 0} (r : List ℕ → Option A) (k : A → Fields → Line) (fs : Fields) (l : Line) → (l ≡ wrong → ⊥) → then r k fs ≡ l → Taken r k fs l
taken r k [] l n e = absurd (n (sym e ∙ ap (λ (o : Option (_ × Fields)). follow o k) (step_empty r)))
taken r k (f ∷ fs) l n e = go (r f) refl
  where
    go : (o : Option _) → r f ≡ o → Taken r k (f ∷ fs) l
    go None p = absurd (n (sym e ∙ ap (λ (o : Option (_ × Fields)). follow o k) (step_none r f fs p)))
    go (Some a) p = record { field = f; others = fs; value = a; are = refl; read = p; goes = sym (ap (λ (o : Option (_ × Fields)). follow o k) (step_some r f fs a p)) ∙ e }

ends : (m : Line) (fs : Fields) (l : Line) → (l ≡ wrong → ⊥) → no_more m fs ≡ l → (fs ≡ []) × (m ≡ l)
ends m [] l n e = (refl, e)
ends m (f ∷ fs) l n e = absurd (n (sym e))

number_from : (least most : ℕ) (f : List ℕ) (n : ℕ) → number_within least most f ≡ Some n → (f ≡ decimal n) × (least ≤ n) × (n ≤ most)
number_from least most f n e = let w = between_said least most n (natural f) e in (only_number least most f n e, w.1, w.2)

state_from : (o : Option ℤ) (g : State) → state_in o ≡ Some g → o ≡ Some (rate g)
state_from None g e = absurd (none-some g e)
state_from (Some (pos zero)) g e = ap (λ (x : State). Some (rate x)) (same_Some stays g e)
state_from (Some (pos (suc zero))) g e = ap (λ (x : State). Some (rate x)) (same_Some grows g e)
state_from (Some (pos (suc (suc n)))) g e = absurd (none-some g e)
state_from (Some (negsuc zero)) g e = ap (λ (x : State). Some (rate x)) (same_Some shrinks g e)
state_from (Some (negsuc (suc n))) g e = absurd (none-some g e)

serials_from : (fs : Fields) (ns : List ℕ) → all_serials fs ≡ Some ns → (fs ≡ map decimal ns) × Serials ns
serials_from [] ns e = go ns (same_Some [] ns (sym serials_none ∙ e))
  where
    go : (ms : List ℕ) → [] ≡ ms → ([] ≡ map decimal ms) × Serials ms
    go ms p = subst (λ (x : List ℕ). ([] ≡ map decimal x) × Serials x) p (refl, tt)
serials_from (f ∷ fs) ns e = go (a_serial f) refl (serials_from fs)
  where
    go : (o : Option ℕ) → a_serial f ≡ o → ((ms : List ℕ) → all_serials fs ≡ Some ms → (fs ≡ map decimal ms) × Serials ms) → (f ∷ fs ≡ map decimal ns) × Serials ns
    go None p i = absurd (none-some ns (sym (sym e ∙ serials_bad f fs p)))
    go (Some n) p i =
        let k = before_some n (all_serials fs) ns (sym (serials_cons f fs n p) ∙ e) in
        let w = number_from 1 4294967295 f n p in
        let j = i k.0 k.1 in
        subst (λ (x : List ℕ). (f ∷ fs ≡ map decimal x) × Serials x) (sym k.2) ((λ t. w.0 t ∷ j.0 t), ((w.1, w.2), j.1))

letter_from : (f : List ℕ) (c : ℕ) → letter f ≡ Some c → f ≡ c ∷ []
letter_from [] c e = absurd (none-some c e)
letter_from (d ∷ []) c e = ap (λ (x : ℕ). x ∷ []) (same_Some d c e)
letter_from (d ∷ b ∷ f) c e = absurd (none-some c e)

-- ---- the fields after letter and unit

record Spelt (c u : ℕ) (fs : Fields) (l : Line) : Type 0 where
  letters : letter_of l ≡ c ∷ []
  fields : fields_of l ≡ decimal u ∷ fs
  fits : u ≤ 255 → Fit l

module _ (c u : ℕ) (fs : Fields) (l : Line) (command : l ≡ wrong → ⊥) where
  spelt-D : c ≡ 68 → then a_vertex (λ v. no_more (Some (D u v))) fs ≡ l → Spelt c u fs l
  unfolding letter_of fields_of
  spelt-D p e =
      let t = taken a_vertex (λ v. no_more (Some (D u v))) fs l command e in
      let x = ends (Some (D u t.value)) t.others l command t.goes in
      let w = number_from 0 4294967295 t.field t.value t.read in
      subst (λ (m : Line). Spelt c u fs m) x.1 (record {
        letters = ap (λ (d : ℕ). d ∷ []) (sym p);
        fields = ap (λ (r : Fields). decimal u ∷ r) (sym (t.are ∙ (λ i. w.0 i ∷ x.0 i)));
        fits = λ h. (h, w.2);
      })

  spelt-B : c ≡ 66 → some_serials u fs ≡ l → Spelt c u fs l
  unfolding letter_of fields_of
  spelt-B p e = some_go fs refl
    where
      from_serials : (gs : Fields) → fs ≡ gs → (1 ≤ length gs) → (o : Option (List ℕ)) → all_serials gs ≡ o → gathered u o ≡ l → Spelt c u fs l
      from_serials gs q k None r s = absurd (command (sym s))
      from_serials gs q k (Some ns) r s =
          let w = serials_from gs ns r in
          subst (λ (m : Line). Spelt c u fs m) s (record {
            letters = ap (λ (d : ℕ). d ∷ []) (sym p);
            fields = ap (λ (x : Fields). decimal u ∷ x) (sym (q ∙ w.0));
            fits = λ h. (h, omega (arith, k, ap length w.0 ∙ length-map ns decimal), w.1);
          })

      some_go : (gs : Fields) → fs ≡ gs → Spelt c u fs l
      some_go [] q = absurd (command (sym e ∙ ap (some_serials u) q))
      some_go (f ∷ gs) q = from_serials (f ∷ gs) q (omega arith) (all_serials (f ∷ gs)) refl (ap (some_serials u) (sym q) ∙ e)

  spelt-E : c ≡ 69 → then a_serial (λ n. no_more (Some (E u n))) fs ≡ l → Spelt c u fs l
  unfolding letter_of fields_of
  spelt-E p e =
      let t = taken a_serial (λ n. no_more (Some (E u n))) fs l command e in
      let x = ends (Some (E u t.value)) t.others l command t.goes in
      let w = number_from 1 4294967295 t.field t.value t.read in
      subst (λ (m : Line). Spelt c u fs m) x.1 (record {
        letters = ap (λ (d : ℕ). d ∷ []) (sym p);
        fields = ap (λ (r : Fields). decimal u ∷ r) (sym (t.are ∙ (λ i. w.0 i ∷ x.0 i)));
        fits = λ h. (h, (w.1, w.2));
      })

  spelt-S : c ≡ 83 → then a_serial (λ n. then a_state (λ g. no_more (Some (S u n g)))) fs ≡ l → Spelt c u fs l
  unfolding letter_of fields_of
  spelt-S p e =
      let t = taken a_serial (λ n. then a_state (λ g. no_more (Some (S u n g)))) fs l command e in
      let v = taken a_state (λ g. no_more (Some (S u t.value g))) t.others l command t.goes in
      let x = ends (Some (S u t.value v.value)) v.others l command v.goes in
      let w = number_from 1 4294967295 t.field t.value t.read in
      let y = only_signed v.field (rate v.value) (state_from (integer v.field) v.value v.read) in
      subst (λ (m : Line). Spelt c u fs m) x.1 (record {
        letters = ap (λ (d : ℕ). d ∷ []) (sym p);
        fields = ap (λ (r : Fields). decimal u ∷ r) (sym (t.are ∙ (λ i. w.0 i ∷ (v.are ∙ (λ j. y j ∷ x.0 j)) i)));
        fits = λ h. (h, (w.1, w.2));
      })

  spelt-G : c ≡ 71 → then an_amount (λ n. no_more (Some (G u n))) fs ≡ l → Spelt c u fs l
  unfolding letter_of fields_of
  spelt-G p e =
      let t = taken an_amount (λ n. no_more (Some (G u n))) fs l command e in
      let x = ends (Some (G u t.value)) t.others l command t.goes in
      let w = only_signed t.field t.value t.read in
      subst (λ (m : Line). Spelt c u fs m) x.1 (record {
        letters = ap (λ (d : ℕ). d ∷ []) (sym p);
        fields = ap (λ (r : Fields). decimal u ∷ r) (sym (t.are ∙ (λ i. w i ∷ x.0 i)));
        fits = λ h. (h, integer_fits t.field t.value t.read);
      })

  spelt-F : c ≡ 70 → then a_unit (λ a. then a_unit (λ b. no_more (Some (F u a b)))) fs ≡ l → Spelt c u fs l
  unfolding letter_of fields_of
  spelt-F p e =
      let t = taken a_unit (λ a. then a_unit (λ b. no_more (Some (F u a b)))) fs l command e in
      let v = taken a_unit (λ b. no_more (Some (F u t.value b))) t.others l command t.goes in
      let x = ends (Some (F u t.value v.value)) v.others l command v.goes in
      let w = number_from 0 255 t.field t.value t.read in
      let y = number_from 0 255 v.field v.value v.read in
      subst (λ (m : Line). Spelt c u fs m) x.1 (record {
        letters = ap (λ (d : ℕ). d ∷ []) (sym p);
        fields = ap (λ (r : Fields). decimal u ∷ r) (sym (t.are ∙ (λ i. w.0 i ∷ (v.are ∙ (λ j. y.0 j ∷ x.0 j)) i)));
        fits = λ h. (h, w.2, y.2);
      })

  spelt-C : c ≡ 67 → no_more (Some (C u)) fs ≡ l → Spelt c u fs l
  unfolding letter_of fields_of
  spelt-C p e =
      let x = ends (Some (C u)) fs l command e in
      subst (λ (m : Line). Spelt c u fs m) x.1 (record {
        letters = ap (λ (d : ℕ). d ∷ []) (sym p);
        fields = ap (λ (r : Fields). decimal u ∷ r) (sym x.0);
        fits = λ h. h;
      })

  spelt-K : c ≡ 75 → no_more (Some (K u)) fs ≡ l → Spelt c u fs l
  unfolding letter_of fields_of
  spelt-K p e =
      let x = ends (Some (K u)) fs l command e in
      subst (λ (m : Line). Spelt c u fs m) x.1 (record {
        letters = ap (λ (d : ℕ). d ∷ []) (sym p);
        fields = ap (λ (r : Fields). decimal u ∷ r) (sym x.0);
        fits = λ h. h;
      })

  -- the letter says which
  rest_spelt : rest c u fs ≡ l → Spelt c u fs l
  unfolding rest
  rest_spelt e = go-D (ℕ_discrete c 68)
    where
      go-K : (c ≡ 68 → ⊥) → (c ≡ 66 → ⊥) → (c ≡ 69 → ⊥) → (c ≡ 83 → ⊥) → (c ≡ 71 → ⊥) → (c ≡ 70 → ⊥) → (c ≡ 67 → ⊥) → Dec (c ≡ 75) → Spelt c u fs l
      go-K d b x s g f k (yes p) = spelt-K p (rw p at e)
      go-K d b x s g f k (no p) =
          absurd (command (sym (rw (ne_eqb c 68 d, ne_eqb c 66 b, ne_eqb c 69 x, ne_eqb c 83 s, ne_eqb c 71 g, ne_eqb c 70 f, ne_eqb c 67 k, ne_eqb c 75 p) at e)))

      go-C : (c ≡ 68 → ⊥) → (c ≡ 66 → ⊥) → (c ≡ 69 → ⊥) → (c ≡ 83 → ⊥) → (c ≡ 71 → ⊥) → (c ≡ 70 → ⊥) → Dec (c ≡ 67) → Spelt c u fs l
      go-C d b x s g f (yes p) = spelt-C p (rw p at e)
      go-C d b x s g f (no p) = go-K d b x s g f p (ℕ_discrete c 75)

      go-F : (c ≡ 68 → ⊥) → (c ≡ 66 → ⊥) → (c ≡ 69 → ⊥) → (c ≡ 83 → ⊥) → (c ≡ 71 → ⊥) → Dec (c ≡ 70) → Spelt c u fs l
      go-F d b x s g (yes p) = spelt-F p (rw p at e)
      go-F d b x s g (no p) = go-C d b x s g p (ℕ_discrete c 67)

      go-G : (c ≡ 68 → ⊥) → (c ≡ 66 → ⊥) → (c ≡ 69 → ⊥) → (c ≡ 83 → ⊥) → Dec (c ≡ 71) → Spelt c u fs l
      go-G d b x s (yes p) = spelt-G p (rw p at e)
      go-G d b x s (no p) = go-F d b x s p (ℕ_discrete c 70)

      go-S : (c ≡ 68 → ⊥) → (c ≡ 66 → ⊥) → (c ≡ 69 → ⊥) → Dec (c ≡ 83) → Spelt c u fs l
      go-S d b x (yes p) = spelt-S p (rw p at e)
      go-S d b x (no p) = go-G d b x p (ℕ_discrete c 71)

      go-E : (c ≡ 68 → ⊥) → (c ≡ 66 → ⊥) → Dec (c ≡ 69) → Spelt c u fs l
      go-E d b (yes p) = spelt-E p (rw p at e)
      go-E d b (no p) = go-S d b p (ℕ_discrete c 83)

      go-B : (c ≡ 68 → ⊥) → Dec (c ≡ 66) → Spelt c u fs l
      go-B d (yes p) = spelt-B p (rw p at e)
      go-B d (no p) = go-E d p (ℕ_discrete c 69)

      go-D : Dec (c ≡ 68) → Spelt c u fs l
      go-D (yes p) = spelt-D p (rw p at e)
      go-D (no p) = go-B p (ℕ_discrete c 66)

-- ---- the line

pub record Reads (s : List ℕ) (l : Line) : Type 0 where
  pub text : s ≡ line_text l
  pub fit : Fit l
  pub short : length s ≤ 1023

pub line_spelt : (s : List ℕ) (l : Line) → (l ≡ wrong → ⊥) → line_of s ≡ l → Reads s l
line_spelt s l command e = go (dec_le (length s) 1023)
  where
    go : Dec (length s ≤ 1023) → Reads s l
    go (no h) = absurd (command (sym e ∙ line_long s (omega arith)))
    go (yes h) =
        let t = taken letter (λ c. then a_unit (rest c)) (cut 32 s) l command (sym (line_short s h) ∙ e) in
        let v = taken a_unit (rest t.value) t.others l command t.goes in
        let k = rest_spelt t.value v.value v.others l command v.goes in
        let w = number_from 0 255 v.field v.value v.read in
        let a : upto 32 s ≡ t.field = cc in
        let b : parts_after 32 s ≡ t.others = cc in
        record {
          text = sym (spaced_cut s) ∙ (λ i. spaced ((a ∙ letter_from t.field t.value t.read ∙ sym k.letters) i) ((b ∙ v.are ∙ ap (λ (x : List ℕ). x ∷ v.others) w.0 ∙ sym k.fields) i));
          fit = k.fits w.2;
          short = h;
        }
