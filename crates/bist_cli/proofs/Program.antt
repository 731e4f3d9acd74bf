-- A run beside boxes that are the program's own one alone.
use Rattle.std.proofs.Common.{◌≡◌, ℕ, [], ◌∷◌, subst}
use Rattle.bist_host.specs.Files.{HostState}
use Rattle.bist_endings.specs.Words.{Words}
use Rattle.bist_app.specs.Shared.{Boxes}
use Rattle.bist_app.specs.Run.{Runs}
use Rattle.bist_cli.specs.Program.{own_box, RunsAlone}

pub runs_alone : (words : Words) (boxes left : Boxes) (old new : HostState) (status : ℕ) → boxes ≡ own_box ∷ []
    → Runs words boxes left old new status → RunsAlone words old new status
runs_alone words boxes left old new status e runs = (left, subst (λ (bs : Boxes). Runs words bs left old new status) e runs)
