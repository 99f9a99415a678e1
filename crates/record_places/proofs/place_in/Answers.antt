-- The entry is there, and says it. Assumes nothing.
use native.Mathlib.Omega.{arith}
use Rattle.record_files.proofs.Slices.{bytes_from}
use Rattle.record_places.proofs.Kth.{entry_fits_lem, file_short, listed}
use Rattle.record_places.proofs.place_in.Goals as goal

pub overflow_mul-k : goal.overflow_mul-k
overflow_mul-k c = let a = c.args in omega (arith, entry_fits_lem a.file.now a.list a.k (bytes_from a.file.now 0 c.type_inv.file) c.requires, file_short a.file.now a.list a.k (bytes_from a.file.now 0 c.type_inv.file) c.requires)

pub overflow_add-list : goal.overflow_add-list
overflow_add-list c = let a = c.args in omega (arith, entry_fits_lem a.file.now a.list a.k (bytes_from a.file.now 0 c.type_inv.file) c.requires, file_short a.file.now a.list a.k (bytes_from a.file.now 0 c.type_inv.file) c.requires)

pub four_at-requires : goal.four_at-requires
four_at-requires c = let a = c.args in omega (arith, entry_fits_lem a.file.now a.list a.k (bytes_from a.file.now 0 c.type_inv.file) c.requires, file_short a.file.now a.list a.k (bytes_from a.file.now 0 c.type_inv.file) c.requires)

pub returns : goal.returns
returns c = let a = c.args in listed a.file.now a.list a.k (bytes_from a.file.now 0 c.type_inv.file) c.requires c.four_at.result c.four_at.ensures.0
