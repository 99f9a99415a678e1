-- Entries, stops and head are written. Assumes nothing.
use Prim.Native.Nat.{◌*◌}
use mathlib.Core.Path.{ap, ◌∙◌}
use native.Mathlib.Omega.{arith}
use lib.ListN.{length}
use Rattle.group_lent.specs.Place.{listed}
use Rattle.group_lent_extends.proofs.Copies.{copied_long}
use Rattle.group_lent_extends.proofs.take_over.Goals as goal

pub copy-requires-2 : goal.copy-requires-2
copy-requires-2 c =
    let l = c.requires.listing in
    let d = c.requires.w_len in record { w_len = (ap length c.copy.ensures ∙ copied_long c.args.w.now 5 c.args.other.now 5 (listed c.args.other.now * 5) (omega (arith, l.few)) (omega (arith, l.few)) ∙ d.0, d.1); k_bound = (omega (arith, l.fewer), omega (arith, l.fewer)) }

pub returns : goal.returns
returns c = rw (c.put_five.ensures, c.copy-2.ensures, c.copy.ensures)
