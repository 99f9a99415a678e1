-- Numbers as text, read and written. A number has one decimal: no leading zeros, a minus only before a nonzero number. Assumes nothing.
use Rattle.std.specs.Prelude.{ℕ, zero, suc, ◌+◌, ◌-◌, ◌*◌, ◌/◌, ◌%◌, true, false, ◌&&◌, List, [], ◌∷◌, ◌++◌, leb, ltb, eqb, ℤ, pos, negsuc, neg_ℤ, None, Option, Some}

-- ---- written

-- the digits of n, which has at most as many as the first number says and one more
unfoldable pub digits : ℕ → ℕ → List ℕ
digits zero n = (48 + n) ∷ []
digits (suc k) n = elim (ltb n 10) [ true ↦ (48 + n) ∷ [] | false ↦ digits k (n / 10) ++ ((48 + n % 10) ∷ []) ]

unfoldable pub decimal : ℕ → List ℕ
decimal n = digits n n

unfoldable pub signed : ℤ → List ℕ
signed (pos n) = decimal n
signed (negsuc n) = 45 ∷ decimal (suc n)

-- ---- read

-- digits after a number n
unfoldable pub after_digits : ℕ → List ℕ → Option ℕ
after_digits n [] = Some n
after_digits n (c ∷ f) = elim (leb 48 c && leb c 57) [ true ↦ after_digits (n * 10 + (c - 48)) f | false ↦ None ]

-- plain decimals without leading zeros
unfoldable pub natural : List ℕ → Option ℕ
natural [] = None
natural (c ∷ []) = after_digits 0 (c ∷ [])
natural (c ∷ d ∷ f) = elim (eqb c 48) [ true ↦ None | false ↦ after_digits 0 (c ∷ d ∷ f) ]

-- in a range, both ends included
unfoldable pub between : ℕ → ℕ → Option ℕ → Option ℕ
between least most None = None
between least most (Some n) = elim (leb least n && leb n most) [ true ↦ Some n | false ↦ None ]

abbrev pub number_within : ℕ → ℕ → List ℕ → Option ℕ
number_within least most f = between least most (natural f)

abbrev pub plus_of : Option ℕ → Option ℤ
plus_of None = None
plus_of (Some n) = Some (pos n)

abbrev pub minus_of : Option ℕ → Option ℤ
minus_of None = None
minus_of (Some n) = Some (neg_ℤ (pos n))

-- any signed 64-bit number; minus only before a nonzero number
unfoldable pub integer : List ℕ → Option ℤ
integer [] = None
integer (c ∷ f) = elim (eqb c 45) [ true ↦ minus_of (number_within 1 9223372036854775808 f) | false ↦ plus_of (number_within 0 9223372036854775807 (c ∷ f)) ]
