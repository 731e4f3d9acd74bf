-- Public. What the program does with the words of its command line.
use Rattle.std.specs.Prelude.{◌≡◌, ℕ, List, [], ◌∷◌, None, map}
use Rattle.bist_host.specs.Files.{HostState}
use Rattle.word_device.specs.Boxes.{Told, TellsChip}
use Rattle.bist_endings.specs.Words.{Words}
use Rattle.bist_app.specs.Shared.{Boxes}
use Rattle.bist_app.specs.Run.{Runs}

-- the program's own box: a memory with room for 65,536 words, which has no shape yet
abbrev pub own_box : Told
own_box = record { room = 65536; shape = None; tells = TellsChip (record { words = []; planted = None; pending = []; idle = 0 }) }

-- a run of the command of the words with that box alone
abbrev pub RunsAlone : Words → HostState → HostState → ℕ → Type 0
RunsAlone words old new status = (left : Boxes) × Runs words (own_box ∷ []) left old new status

-- the same of words with these texts
abbrev pub RunsTexts : List (List ℕ) → HostState → HostState → ℕ → Type 0
RunsTexts texts old new status = (words : Words) × (map (λ w. w.now) words ≡ texts) × RunsAlone words old new status
