-- Records and list filled line by line: what is written and what is left make the whole. Assumes nothing.
use Rattle.std.specs.Prelude.{None, Option, Some}
use Rattle.std.proofs.lemmas.Option.{same_Some, none-some}
use Prim.Native.Nat.{ℕ, suc, ◌+◌, ◌-◌, ◌*◌, ◌≤◌, ◌<◌}
use native.Mathlib.Omega.{arith}
use native.Mathlib.Decide.{dec_lt}
use mathlib.Core.Path.{◌≡◌, refl, sym, ◌∙◌, ap}
use mathlib.Core.List.{List, [], ◌∷◌, ◌++◌, map}
use lib.ListN.{length, take, drop, length-append, length-map}
use lib.Seq.{sets}
use Rattle.ledger_spec.specs.Bench.{State, grows, stays, shrinks}
use Rattle.ledger_spec.specs.Named.{state_named}
use Rattle.ledger_spec.specs.Decimals.{decimal}
use Rattle.ledger_spec.specs.Operations.{D, B, E, S, G, F, C, K}
use Rattle.ledger_spec.specs.Grammar.{Line as Said, line_of}
use Rattle.ledger_spec.specs.Program.{lines_of}
use Rattle.text_fields.specs.Places.{Ends}
use Rattle.text_lines.specs.declared.Line.{Line}
use Rattle.text_lines.specs.Shown.{line_shown, serials_in, state_shown, ReadAs}
use Rattle.text_lines.specs.Texts.{letter_of, fields_of}
use Rattle.text_lines.proofs.Told.{count_in, told_count, told_serials}
use Rattle.text_decimals.specs.Wrote.{Wrote}
use Rattle.text_decimals.proofs.Writes.{sets_append}
use Rattle.record_spec.specs.Numbers.{bytes, fours}
use Rattle.record_spec.specs.Operations.{Op, itself, serial_of, op_of_line}
use Rattle.record_spec.specs.Records.{bytes_of}
use Rattle.record_spec.specs.Files.{records_of, starts}
use Rattle.record_spec.specs.Moves.{ops_of, text_ops}
use Rattle.record_spec.proofs.Numbers.{length_bytes}
use Rattle.record_spec.proofs.Texts.{onto, line_only}
use Rattle.record_spec.proofs.Writable.{spaced_long}
use Rattle.record_weights.specs.Weights.{bytes_said}
use Rattle.record_weights.proofs.Newlines.{ops_line, ops_wrong, ops_unended, ops_none}
use Rattle.record_puts.specs.Puts.{record_by, count_by, Enough}
use Rattle.record_packs.specs.Packs.{Ready, Filled}
use Rattle.record_packs.proofs.Stores.{sets_apart}

-- the lines from `from` on are these operations; their records belong at p, their starts at entry
pub record Filling (text out₀ : List ℕ) (start from p entry : ℕ) (out : List ℕ) : Type 0 where
  pub rest : List Op
  pub low : from ≤ length text
  pub left : ops_of (lines_of (drop from text)) ≡ Some rest
  pub long : length out ≡ length out₀
  pub records : p + length (records_of rest) ≡ start
  pub list : start ≤ entry
  pub room : entry + 4 * length rest ≤ length out
  pub stands : (ops : List Op) → text_ops text ≡ Some ops → sets (sets out p (records_of rest)) entry (fours (starts p rest)) ≡ sets (sets out₀ 0 (records_of ops)) start (fours (starts 0 ops))

pub filling : (text out : List ℕ) (start : ℕ) → Ready (text_ops text) start (length out) → Filling text out start 0 0 start out
unfolding text_ops
filling text out start r = go (ops_of (lines_of text)) refl r
  where
    go : (o : Option (List Op)) → ops_of (lines_of text) ≡ o → Ready o start (length out) → Filling text out start 0 0 start out
    go None e r = absurd r
    go (Some ops) e r = record {
      rest = ops;
      low = omega arith;
      left = e;
      long = refl;
      records = omega (arith, r.0);
      list = omega arith;
      room = r.1;
      stands = λ ops' e'. ap (λ (x : List Op). sets (sets out 0 (records_of x)) start (fours (starts 0 x))) (same_Some ops ops' (sym e ∙ e'));
    }

-- ---- a line that was read

-- a line has fewer serials than bytes
few_serials : (f : List ℕ) (op : Op) (l : Said) → line_of f ≡ l → op_of_line l ≡ Some op → length (serials_in l) ≤ 1023
unfolding letter_of fields_of
few_serials f op (Some (D u v)) e q = omega arith
few_serials f op (Some (B u ns)) e q =
    let w = line_only f (B u (map itself ns)) (ap op_of_line e) in
    let a = spaced_long (66 ∷ []) (decimal u ∷ map decimal (map serial_of (map itself ns))) in
    omega (arith, a, w.writable.short, length-map (map serial_of (map itself ns)) decimal, length-map (map itself ns) serial_of, length-map ns itself)
few_serials f op (Some (E u n)) e q = omega arith
few_serials f op (Some (S u n g)) e q = omega arith
few_serials f op (Some (G u l)) e q = omega arith
few_serials f op (Some (F p l r)) e q = omega arith
few_serials f op (Some (C u)) e q = omega arith
few_serials f op (Some (K u)) e q = omega arith
few_serials f op None e q = omega arith

count_same : (r : Line) → count_by r ≡ count_in r
count_same r = refl

named : (g : State) → state_named (state_shown g) ≡ g
named grows = refl
named stays = refl
named shrinks = refl

-- the code's bytes of the line are its record's
record_said : (l : Said) (ns : List ℕ) → take (count_by (line_shown l)) ns ≡ serials_in l → record_by (line_shown l) ns ≡ bytes_said (op_of_line l)
record_said (Some (D u v)) ns e = refl
record_said (Some (B u ks)) ns e = ap (λ (x : List ℕ). bytes_of (B u (map itself x))) e
record_said (Some (E u n)) ns e = refl
record_said (Some (S u n g)) ns e = ap (λ (x : State). bytes_of (S u n x)) (named g)
record_said (Some (G u l)) ns e = refl
record_said (Some (F p l r)) ns e = refl
record_said (Some (C u)) ns e = refl
record_said (Some (K u)) ns e = refl
record_said None ns e = refl

pub record LineRead (f serials : List ℕ) (r : Line) (op : Op) : Type 0 where
  pub bytes : record_by r serials ≡ bytes_of op
  pub stored : count_by r ≤ length serials

pub line_read : (f before after : List ℕ) (r : Line) (op : Op) → ReadAs (line_of f) before after r → length before ≡ 1024 → length after ≡ 1024 → op_of_line (line_of f) ≡ Some op → LineRead f after r op
line_read f before after r op is l m q =
    let n = few_serials f op (line_of f) refl q in
    let k = told_count (line_of f) before after r is in
    let t : take (count_in r) after ≡ serials_in (line_of f) = told_serials (line_of f) before after r is (omega (arith, n, k, l)) in
    let x : record_by r after ≡ record_by (line_shown (line_of f)) after = ap (λ (y : Line). record_by y after) is.line in
    let u : take (count_by (line_shown (line_of f))) after ≡ serials_in (line_of f) = ap (λ (y : Line). take (count_by y) after) (sym is.line) ∙ ap (λ (z : ℕ). take z after) (count_same r) ∙ t in
    record {
      bytes = x ∙ record_said (line_of f) after u ∙ ap bytes_said q;
      stored = omega (arith, n, k, m, count_same r);
    }

-- ---- one line further

module _ (text out₀ : List ℕ) (start from p entry : ℕ) (out : List ℕ) (g : Filling text out₀ start from p entry out) (h : from < length text) (e : ℕ) (ends : Ends 10 text from e) where
  pub record Next : Type 0 where
    pub op : Op
    pub more : List Op
    pub inside : e < length text
    pub said : op_of_line (line_of (take (e - from) (drop from text))) ≡ Some op
    pub after : ops_of (lines_of (drop (e + 1) text)) ≡ Some more
    pub first : g.rest ≡ op ∷ more

  pub next : Next
  unfolding onto
  next = inside (dec_lt e (length text))
    where
      f : List ℕ
      f = take (e - from) (drop from text)

      tail : (h' : e < length text) (op : Op) → op_of_line (line_of f) ≡ Some op → (o : Option (List Op)) → ops_of (lines_of (drop (e + 1) text)) ≡ o → Next
      tail h' op q None r = absurd (none-some g.rest (sym (sym g.left ∙ ops_line text from e ends h' op q ∙ ap (onto op) r)))
      tail h' op q (Some more) r = record {
        op = op;
        more = more;
        inside = h';
        said = q;
        after = r;
        first = same_Some g.rest (op ∷ more) (sym g.left ∙ ops_line text from e ends h' op q ∙ ap (onto op) r);
      }

      said : (h' : e < length text) (o : Option Op) → op_of_line (line_of f) ≡ o → Next
      said h' None q = absurd (none-some g.rest (sym (sym g.left ∙ ops_wrong text from e ends h' q)))
      said h' (Some op) q = tail h' op q (ops_of (lines_of (drop (e + 1) text))) refl

      inside : Dec (e < length text) → Next
      inside (yes l) = said l (op_of_line (line_of f)) refl
      inside (no l) = absurd (none-some g.rest (sym (sym g.left ∙ ops_unended text from e ends h (omega (arith, ends.high)))))

  module _ (n : Next) where
    sizes : length (records_of g.rest) ≡ length (bytes_of n.op) + length (records_of n.more)
    unfolding records_of
    sizes = ap (λ (x : List Op). length (records_of x)) n.first ∙ length-append (bytes_of n.op) (records_of n.more)

    counts : length g.rest ≡ suc (length n.more)
    counts = ap length n.first

    pub enough : (serials : List ℕ) (r : Line) → LineRead (take (e - from) (drop from text)) serials r n.op → Enough out p r serials
    enough serials r x = record { room = omega (arith, ap length x.bytes, sizes, g.records, g.list, g.room); stored = x.stored }

    pub fill_on : (out₁ : List ℕ) (q : ℕ) → Wrote out p (bytes_of n.op) out₁ q → (out₂ : List ℕ) (z : ℕ) → Wrote out₁ entry (bytes 4 p) out₂ z → length out₂ ≡ length out
        → Filling text out₀ start (e + 1) q (entry + 4) out₂
    unfolding records_of starts fours
    fill_on out₁ q w out₂ z v l =
        let b = bytes_of n.op in
        let k : length (bytes 4 p) ≡ 4 = length_bytes 4 p in
        let fit : p + length b + length (records_of n.more) ≡ start = omega (arith, sizes, g.records) in
        record {
          rest = n.more;
          low = omega (arith, n.inside);
          left = n.after;
          long = l ∙ g.long;
          records = omega (arith, w.next, fit);
          list = omega (arith, g.list);
          room = omega (arith, g.room, counts, l);
          stands = λ ops o.
              (λ i. sets (sets (v.stands i) (w.next i) (records_of n.more)) (entry + 4) (fours (starts (w.next i) n.more)))
              ∙ ap (λ (x : List ℕ). sets x (entry + 4) (fours (starts (p + length b) n.more))) (sym (sets_apart (records_of n.more) (bytes 4 p) out₁ (p + length b) entry (omega (arith, fit, g.list))))
              ∙ ap (λ (m : ℕ). sets (sets (sets out₁ (p + length b) (records_of n.more)) entry (bytes 4 p)) m (fours (starts (p + length b) n.more))) (four k)
              ∙ sym (sets_append (bytes 4 p) (fours (starts (p + length b) n.more)) (sets out₁ (p + length b) (records_of n.more)) entry)
              ∙ ap (λ (x : List ℕ). sets (sets x (p + length b) (records_of n.more)) entry (bytes 4 p ++ fours (starts (p + length b) n.more))) w.stands
              ∙ ap (λ (x : List ℕ). sets x entry (bytes 4 p ++ fours (starts (p + length b) n.more))) (sym (sets_append b (records_of n.more) out p))
              ∙ ap (λ (x : List Op). sets (sets out p (records_of x)) entry (fours (starts p x))) (sym n.first)
              ∙ g.stands ops o;
        }
      where
        four : length (bytes 4 p) ≡ 4 → entry + 4 ≡ entry + length (bytes 4 p)
        four k = omega (arith, k)

pub filled : (text out₀ : List ℕ) (start from p entry : ℕ) (out : List ℕ) → Filling text out₀ start from p entry out → length text ≤ from → Filled (text_ops text) out₀ start out
unfolding records_of starts fours
filled text out₀ start from p entry out g h = go (text_ops text) refl
  where
    none_left : g.rest ≡ []
    none_left = same_Some g.rest [] (sym g.left ∙ ops_none text from h g.low)

    go : (o : Option (List Op)) → text_ops text ≡ o → Filled o out₀ start out
    go None e = tt
    go (Some ops) e = ap (λ (x : List Op). sets (sets out p (records_of x)) entry (fours (starts p x))) (sym none_left) ∙ g.stands ops e
