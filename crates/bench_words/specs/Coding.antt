-- Tests that words are the code of what is loaded from them (`Coded` of crate bench_views), and that a slot's words are all zero. Assumes nothing.
use Rattle.std.specs.Prelude.{ℕ, ◌+◌, ◌/◌, Bool, ◌&&◌, List, eqb, leb, ltb, get_or}
use Rattle.bench_words.specs.Codec.{past_handles}
use Rattle.bench_words.specs.Store.{base, ibase}

abbrev pub zero_at : List ℕ → ℕ → Bool
zero_at b m = eqb (get_or b m 0) 0

-- the twelve words of slot k
unfoldable pub blank_at : List ℕ → ℕ → Bool
blank_at b k =
    zero_at b (base k + 1)
    && (zero_at b (base k + 2)
    && (zero_at b (base k + 3)
    && (zero_at b (base k + 4)
    && (zero_at b (base k + 5)
    && (zero_at b (base k + 6)
    && (zero_at b (base k + 7)
    && (zero_at b (base k + 8) && (zero_at b (base k + 9) && (zero_at b (base k + 10) && (zero_at b (base k + 11) && zero_at b (base k + 12)))))))))))

-- those words of a node that have a code: serial, class, state, parent, touching handles
unfoldable pub coded_at : List ℕ → ℕ → Bool
coded_at b k =
    ltb (get_or b (base k + 1) 0) 4294967296
    && (ltb (get_or b (base k + 2) 0) 4294967298
    && (leb (get_or b (base k + 3) 0) 2
    && (leb (get_or b (base k + 4) 0) past_handles && (ltb (get_or b (base k + 7) 0) past_handles && ltb (get_or b (base k + 8) 0) past_handles))))

-- the words of interface u that have no meaning yet
unfoldable pub spare_at : List ℕ → ℕ → Bool
spare_at b u =
    zero_at b (ibase u + 10)
    && (zero_at b (ibase u + 11)
    && (zero_at b (ibase u + 12) && (zero_at b (ibase u + 13) && (zero_at b (ibase u + 14) && (zero_at b (ibase u + 15) && zero_at b (ibase u + 16))))))

-- the word of its parent: 0, or the parent's number and one
unfoldable pub link_at : List ℕ → ℕ → Bool
link_at b u = leb (get_or b (ibase u + 5) 0) 8

-- the word of its marks: no bit that is no mark's, and the engine of interface 0
unfoldable pub flags_at : List ℕ → ℕ → Bool
flags_at b u = leb (get_or b (ibase u + 9) 0) 7 && eqb (get_or b (ibase u + 9) 0 / 4) (get_or b 9 0 / 4)
