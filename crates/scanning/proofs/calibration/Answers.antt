use mathlib.Core.Path.{refl}
use Rattle.scanning.specs.FreshLedger.{calibrated}
use Rattle.scanning.proofs.calibration.Goals as goal

pub returns : goal.returns
unfolding calibrated
returns c = refl
