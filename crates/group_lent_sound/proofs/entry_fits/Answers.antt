-- An entry by its five words. Assumes nothing.
use Rattle.group_lent_sound.proofs.Fits.{entry_fits_lem}
use Rattle.group_lent_sound.proofs.entry_fits.Goals as goal

pub returns : goal.returns
returns c = entry_fits_lem c.args.w.now c.args.i _ _ c.five_of-f.ensures c.is_form-ok.ensures
