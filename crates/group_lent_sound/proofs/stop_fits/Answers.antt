-- A stop by its six words. Assumes nothing.
use Rattle.group_lent_sound.proofs.Fits.{stop_fits_lem}
use Rattle.group_lent_sound.proofs.stop_fits.Goals as goal

pub returns : goal.returns
returns c = stop_fits_lem c.args.w.now c.args.least c.args.i _ _ c.five_of-f.ensures c.is_form-ok.ensures
