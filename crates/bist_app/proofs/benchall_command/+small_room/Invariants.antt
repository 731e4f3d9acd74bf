use Rattle.bist_app.proofs.Common.{length}
use Rattle.bist_app.proofs.benchall_command.+small_room.Given as goal

abbrev pub decreases-small_room : goal.decreases-small_room
decreases-small_room g l = length l.devices.now
