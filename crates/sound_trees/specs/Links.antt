-- The tests of an interface: its words, its ranges, its links up and down. Assumes nothing.
use Rattle.std.specs.Prelude.{None, Option, Some, ℕ, ◌+◌, ◌-◌, Bool, true, false, not, ◌&&◌, ◌||◌, List, eqb, leb, ltb}
use Rattle.ledger_spec.specs.Numbers.{progress_limit}
use Rattle.bench_words.specs.Codec.{pick}
use Rattle.bench_words.specs.Store.{interface_at}
use Rattle.bench_words.specs.declared.Interface.{Interface}
use Rattle.bench_words.specs.Coding.{spare_at, link_at, flags_at}

abbrev pub is_under : Option ℕ → ℕ → Bool
is_under None u = false
is_under (Some p) u = eqb p u

-- a parent has a higher number, and u for a half
abbrev pub up_test : (ℕ → Interface) → Option ℕ → ℕ → Bool
up_test U None u = true
up_test U (Some p) u = ltb u p && (eqb (U p).left (u + 1) || eqb (U p).right (u + 1))

-- halves (each with one added) are none, or two different ones of lower numbers whose parent is u
abbrev pub down_test : (ℕ → Interface) → ℕ → ℕ → ℕ → Bool
down_test U l r u = pick (eqb l 0) (eqb r 0) (leb l u && (leb r u && (not (eqb r 0) && (not (eqb l r) && (is_under (U (l - 1)).parent u && is_under (U (r - 1)).parent u)))))

unfoldable pub interface_test : List ℕ → ℕ → Bool
interface_test b u = (spare_at b u && (link_at b u && flags_at b u))
    && ((leb (interface_at b u).used 64 && leb (interface_at b u).progress progress_limit)
    && (up_test (interface_at b) (interface_at b u).parent u && down_test (interface_at b) (interface_at b u).left (interface_at b u).right u))
