-- A field says n exactly if it is the decimal of n, and a signed number exactly if it is its text: nothing has two spellings. Assumes nothing.
use Rattle.std.specs.Prelude.{None, Option, Some}
use Rattle.std.proofs.lemmas.Option.{same_Some, none-some}
use Prim.Native.Nat.{ℕ, zero, suc, ◌+◌, ◌-◌, ◌*◌, ◌/◌, ◌%◌, ◌≤◌, ◌<◌}
use native.Mathlib.Omega.{arith}
use native.Mathlib.Decide.{dec_lt, ℕ_discrete}
use mathlib.Core.Path.{◌≡◌, refl, sym, ◌∙◌, ap, subst}
use mathlib.Core.List.{List, [], ◌∷◌, ◌++◌, append_assoc, append-nil}
use lib.ListN.{length, get_or, length-append, get_or-append}
use lib.IntN.{ℤ, pos, negsuc, neg_ℤ}
use mir.Syntax.{w64}
use mir.Val.{SFits}
use Rattle.ledger_spec.specs.Decimals.{decimal, signed, after_digits, natural, between, number_within, integer, plus_of, minus_of}
use Rattle.text_decimals.proofs.Values.{Byte, low, digit, high, byte, value_digit, value_low, value_high, value_none, between_some, between_said}
use Rattle.text_decimals.proofs.Fields.{natural_empty, natural_one, natural_zero, natural_more, integer_empty, integer_minus, integer_plus}
use Rattle.text_decimals.proofs.Digits.{decimal_small, decimal_more}
use Rattle.text_decimals.proofs.Signs.{fits_plus, fits_minus}

-- ---- reading a number's decimal gives the number

-- a value, and then more bytes
abbrev onward : Option ℕ → List ℕ → Option ℕ
onward None b = None
onward (Some m) b = after_digits m b

value_append : (a b : List ℕ) (n : ℕ) → after_digits n (a ++ b) ≡ onward (after_digits n a) b
value_append [] b n = ap (λ (v : Option ℕ). onward v b) (sym (value_none n))
value_append (c ∷ a) b n = go (byte c) (value_append a b (n * 10 + (c - 48)))
  where
    go : Byte c → after_digits (n * 10 + (c - 48)) (a ++ b) ≡ onward (after_digits (n * 10 + (c - 48)) a) b → after_digits n (c ∷ (a ++ b)) ≡ onward (after_digits n (c ∷ a)) b
    go (low p) i = value_low n c (a ++ b) p ∙ ap (λ (v : Option ℕ). onward v b) (sym (value_low n c a p))
    go (high p) i = value_high n c (a ++ b) p ∙ ap (λ (v : Option ℕ). onward v b) (sym (value_high n c a p))
    go (digit p q) i = value_digit n c (a ++ b) p q ∙ i ∙ ap (λ (v : Option ℕ). onward v b) (sym (value_digit n c a p q))

one_byte : (n d m : ℕ) → d < 10 → m ≡ n * 10 + d → after_digits n ((48 + d) ∷ []) ≡ Some m
one_byte n d m h e =
    let k : n * 10 + (48 + d - 48) ≡ m = omega arith in
    value_digit n (48 + d) [] (omega arith) (omega arith) ∙ value_none (n * 10 + (48 + d - 48)) ∙ ap Some k

said : (k n : ℕ) → n ≤ k → after_digits 0 (decimal n) ≡ Some n
said zero n h = ap (after_digits 0) (decimal_small n (omega arith)) ∙ one_byte 0 n n (omega arith) (omega arith)
said (suc k) n h = go (dec_lt n 10) (said k (n / 10))
  where
    go : Dec (n < 10) → (n / 10 ≤ k → after_digits 0 (decimal (n / 10)) ≡ Some (n / 10)) → after_digits 0 (decimal n) ≡ Some n
    go (yes l) i = ap (after_digits 0) (decimal_small n l) ∙ one_byte 0 n n l (omega arith)
    go (no l) i =
        let m : 10 ≤ n = omega arith in
        ap (after_digits 0) (decimal_more n m) ∙ value_append (decimal (n / 10)) ((48 + n % 10) ∷ []) 0
        ∙ ap (λ (v : Option ℕ). onward v ((48 + n % 10) ∷ [])) (i (omega arith)) ∙ one_byte (n / 10) (n % 10) n (omega arith) (omega arith)

pub some_digits : (n : ℕ) → 0 < length (decimal n)
some_digits n = go (dec_lt n 10)
  where
    go : Dec (n < 10) → 0 < length (decimal n)
    go (yes l) = omega (arith, ap length (decimal_small n l))
    go (no l) = let m : 10 ≤ n = omega arith in omega (arith, ap length (decimal_more n m), length-append (decimal (n / 10)) ((48 + n % 10) ∷ []))

-- the first digit of a number above 0 is no 0
leads : (k n : ℕ) → n ≤ k → 0 < n → get_or (decimal n) 0 0 ≡ 48 → ⊥
leads zero n h p e = omega arith
leads (suc k) n h p e = go (dec_lt n 10) (leads k (n / 10))
  where
    go : Dec (n < 10) → (n / 10 ≤ k → 0 < n / 10 → get_or (decimal (n / 10)) 0 0 ≡ 48 → ⊥) → ⊥
    go (yes l) i = omega (arith, sym (ap (λ (f : List ℕ). get_or f 0 0) (decimal_small n l)) ∙ e)
    go (no l) i =
        let m : 10 ≤ n = omega arith in
        i (omega arith) (omega arith)
        (sym (ap (λ (f : List ℕ). get_or f 0 0) (decimal_more n m) ∙ get_or-append (decimal (n / 10)) ((48 + n % 10) ∷ []) 0 0 (some_digits (n / 10))) ∙ e)

pub read_back : (n : ℕ) → natural (decimal n) ≡ Some n
read_back n = go (dec_lt n 10)
  where
    go : Dec (n < 10) → natural (decimal n) ≡ Some n
    go (yes l) = natural_one (decimal n) (ap length (decimal_small n l)) ∙ said n n (omega arith)
    go (no l) =
        let m : 10 ≤ n = omega arith in
        let k = ap length (decimal_more n m) ∙ length-append (decimal (n / 10)) ((48 + n % 10) ∷ []) in
        let s = some_digits (n / 10) in
        natural_more (decimal n) (λ h. omega (arith, k, h)) (λ h. omega (arith, k, h, s)) (leads n n (omega arith) (omega arith)) ∙ said n n (omega arith)

pub number_back : (l m n : ℕ) → l ≤ n → n ≤ m → number_within l m (decimal n) ≡ Some n
number_back l m n p q = ap (between l m) (read_back n) ∙ between_some l m n p q

-- ---- and no other field says it

grows_by : (n c : ℕ) → 0 < n → 48 ≤ c → c ≤ 57 → decimal (n * 10 + (c - 48)) ≡ decimal n ++ (c ∷ [])
grows_by n c h p q =
    let m = n * 10 + (c - 48) in
    let a : m / 10 ≡ n = omega arith in
    let b : 48 + m % 10 ≡ c = omega arith in
    decimal_more m (omega arith) ∙ (λ i. decimal (a i) ++ (b i ∷ []))

goes_on : (f : List ℕ) (n m : ℕ) → 0 < n → after_digits n f ≡ Some m → decimal m ≡ decimal n ++ f
goes_on [] n m h e = ap decimal (sym (same_Some n m (sym (value_none n) ∙ e))) ∙ sym (append-nil (decimal n))
goes_on (c ∷ f) n m h e = go (byte c) (goes_on f (n * 10 + (c - 48)) m)
  where
    go : Byte c → (0 < n * 10 + (c - 48) → after_digits (n * 10 + (c - 48)) f ≡ Some m → decimal m ≡ decimal (n * 10 + (c - 48)) ++ f) → decimal m ≡ decimal n ++ (c ∷ f)
    go (low p) i = absurd (none-some m (sym (sym e ∙ value_low n c f p)))
    go (high p) i = absurd (none-some m (sym (sym e ∙ value_high n c f p)))
    go (digit p q) i =
        i (omega arith) (sym (value_digit n c f p q) ∙ e) ∙ ap (λ (l : List ℕ). l ++ f) (grows_by n c h p q) ∙ append_assoc (decimal n) (c ∷ []) f

first_byte : (c : ℕ) (f : List ℕ) (m : ℕ) → after_digits 0 (c ∷ f) ≡ Some m → (48 ≤ c) × (c ≤ 57) × (after_digits (c - 48) f ≡ Some m)
first_byte c f m e = go (byte c)
  where
    go : Byte c → (48 ≤ c) × (c ≤ 57) × (after_digits (c - 48) f ≡ Some m)
    go (low p) = absurd (none-some m (sym (sym e ∙ value_low 0 c f p)))
    go (high p) = absurd (none-some m (sym (sym e ∙ value_high 0 c f p)))
    go (digit p q) = let k : c - 48 ≡ 0 * 10 + (c - 48) = omega arith in (p, q, ap (λ (x : ℕ). after_digits x f) k ∙ sym (value_digit 0 c f p q) ∙ e)

pub only_decimal : (f : List ℕ) (m : ℕ) → natural f ≡ Some m → f ≡ decimal m
only_decimal [] m e = absurd (none-some m (sym (sym e ∙ natural_empty [] refl)))
only_decimal (c ∷ []) m e =
    let w = first_byte c [] m (sym (natural_one (c ∷ []) refl) ∙ e) in
    let z = same_Some (c - 48) m (sym (value_none (c - 48)) ∙ w.2) in
    let k : c ≡ 48 + m = omega (arith, w.0) in
    ap (λ (x : ℕ). x ∷ []) k ∙ sym (decimal_small m (omega (arith, w.1)))
only_decimal (c ∷ d ∷ f) m e = go (ℕ_discrete c 48)
  where
    go : Dec (c ≡ 48) → c ∷ d ∷ f ≡ decimal m
    go (yes p) = absurd (none-some m (sym (sym e ∙ natural_zero (c ∷ d ∷ f) (λ h. omega arith) (λ h. omega arith) p)))
    go (no p) =
        let w = first_byte c (d ∷ f) m (sym (natural_more (c ∷ d ∷ f) (λ h. omega arith) (λ h. omega arith) p) ∙ e) in
        let k : 48 + (c - 48) ≡ c = omega (arith, w.0) in
        sym (goes_on (d ∷ f) (c - 48) m (omega (arith, w.0)) w.2 ∙ ap (λ (l : List ℕ). l ++ (d ∷ f)) (decimal_small (c - 48) (omega (arith, w.1)) ∙ ap (λ (x : ℕ). x ∷ []) k))

pub only_number : (l m : ℕ) (f : List ℕ) (n : ℕ) → number_within l m f ≡ Some n → f ≡ decimal n
only_number l m f n e = only_decimal f n (between_said l m n (natural f) e).0

-- ---- signed numbers

no_sign : (n : ℕ) → get_or (decimal n) 0 0 ≡ 45 → ⊥
no_sign n e = go (decimal n) refl
  where
    go : (l : List ℕ) → decimal n ≡ l → ⊥
    go [] p = omega (arith, some_digits n, ap length p)
    go (c ∷ f) p =
        let k : c ≡ 45 = sym (ap (λ (l : List ℕ). get_or l 0 0) p) ∙ e in
        none-some n (sym (sym (said n n (omega arith)) ∙ ap (after_digits 0) p ∙ value_low 0 c f (omega arith)))

pub signed_back : (z : ℤ) → SFits w64 z → integer (signed z) ≡ Some z
unfolding signed
signed_back (pos n) f =
    let h : n < 9223372036854775808 = f.sfits in
    integer_plus (decimal n) (λ k. omega (arith, k, some_digits n)) (no_sign n) ∙ ap plus_of (number_back 0 9223372036854775807 n (omega arith) (omega arith))
signed_back (negsuc n) f =
    let h : n < 9223372036854775808 = f.sfits in
    integer_minus (45 ∷ decimal (suc n)) (λ k. omega arith) refl ∙ ap minus_of (number_back 1 9223372036854775808 (suc n) (omega arith) (omega arith))

plus_from : (v : Option ℕ) (z : ℤ) → plus_of v ≡ Some z → (n : ℕ) × (v ≡ Some n) × (pos n ≡ z)
plus_from None z e = absurd (none-some z e)
plus_from (Some n) z e = (n, refl, same_Some (pos n) z e)

minus_from : (v : Option ℕ) (z : ℤ) → minus_of v ≡ Some z → (n : ℕ) × (v ≡ Some n) × (neg_ℤ (pos n) ≡ z)
minus_from None z e = absurd (none-some z e)
minus_from (Some n) z e = (n, refl, same_Some (neg_ℤ (pos n)) z e)

signed_minus : (n : ℕ) → 0 < n → signed (neg_ℤ (pos n)) ≡ 45 ∷ decimal n
unfolding signed
signed_minus zero h = absurd (omega arith)
signed_minus (suc n) h = refl

signed_plus : (n : ℕ) → signed (pos n) ≡ decimal n
unfolding signed
signed_plus n = refl

pub only_signed : (f : List ℕ) (z : ℤ) → integer f ≡ Some z → f ≡ signed z
only_signed [] z e = absurd (none-some z (sym (sym e ∙ integer_empty [] refl)))
only_signed (c ∷ f) z e = go (ℕ_discrete c 45)
  where
    go : Dec (c ≡ 45) → c ∷ f ≡ signed z
    go (yes p) =
        let w = minus_from (number_within 1 9223372036854775808 f) z (sym (integer_minus (c ∷ f) (λ h. omega arith) p) ∙ e) in
        let r = between_said 1 9223372036854775808 w.0 (natural f) w.1 in
        (λ i. p i ∷ only_decimal f w.0 r.0 i) ∙ sym (signed_minus w.0 (omega (arith, r.1))) ∙ ap signed w.2
    go (no p) =
        let w = plus_from (number_within 0 9223372036854775807 (c ∷ f)) z (sym (integer_plus (c ∷ f) (λ h. omega arith) p) ∙ e) in
        only_number 0 9223372036854775807 (c ∷ f) w.0 w.1 ∙ sym (signed_plus w.0) ∙ ap signed w.2

-- what a field says as a signed number fits 64 bits
pub integer_fits : (f : List ℕ) (z : ℤ) → integer f ≡ Some z → SFits w64 z
integer_fits [] z e = absurd (none-some z (sym (sym e ∙ integer_empty [] refl)))
integer_fits (c ∷ f) z e = go (ℕ_discrete c 45)
  where
    go : Dec (c ≡ 45) → SFits w64 z
    go (yes p) =
        let w = minus_from (number_within 1 9223372036854775808 f) z (sym (integer_minus (c ∷ f) (λ h. omega arith) p) ∙ e) in
        let r = between_said 1 9223372036854775808 w.0 (natural f) w.1 in
        subst (λ (x : ℤ). SFits w64 x) w.2 (fits_minus w.0 (omega (arith, r.1), r.2))
    go (no p) =
        let w = plus_from (number_within 0 9223372036854775807 (c ∷ f)) z (sym (integer_plus (c ∷ f) (λ h. omega arith) p) ∙ e) in
        let r = between_said 0 9223372036854775807 w.0 (natural (c ∷ f)) w.1 in
        subst (λ (x : ℤ). SFits w64 x) w.2 (fits_plus w.0 (omega (arith, r.2)))
