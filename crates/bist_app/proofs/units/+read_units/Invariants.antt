use Rattle.bist_app.proofs.Common.{length}
use Rattle.bist_app.proofs.units.+read_units.Given as goal

abbrev pub decreases-read_units : goal.decreases-read_units
decreases-read_units g l = length l.units.now
