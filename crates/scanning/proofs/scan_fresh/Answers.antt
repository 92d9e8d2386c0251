use mathlib.Core.Path.{◌∙◌}
use Rattle.scanning.specs.FreshLedger.{fresh_scan}
use Rattle.scanning.proofs.scan_fresh.Goals as goal

pub returns : goal.returns
unfolding fresh_scan
returns c = c.scan.ensures.value ∙ rw (c.calibration.ensures, c.open-opened.ensures.ledger_value, c.open-opened.ensures.roll_after)
