-- Trusted. How a decided command ends: its files are written, then its line is said.
use Rattle.std.specs.Prelude.{◌≡◌, ◌<◌, ◌⊎◌, ℕ, List, [], ◌∷◌, length, Option, Result, Ok, Err}
use Rattle.bist_host.specs.Files.{Files, HostState, WritesRose, KeepsOthers, WritesFile, Says, SaysPrefix}
use Rattle.bist_endings.specs.declared.ending.Refusal.{Refusal}
use Rattle.bist_endings.specs.declared.concluding.WriteStop.{WriteStop}
use Rattle.bist_endings.specs.declared.concluding.SayEnd.{SayEnd}
use Rattle.bist_endings.specs.Words.{Words, word}
use Rattle.bist_endings.specs.Ending.{Done, Written, status_of, found_status, refusal_line, write_failed_line, no_memory_line}

-- each output is for a word that is there
abbrev pub NamesWords : Words → List Written → Type 0
NamesWords words [] = Unit {0}
NamesWords words (w ∷ ws) = (w.position < length words) × NamesWords words ws

-- a write stopped at this output: its file is in any state, or nothing was done for want of memory
abbrev pub StopsHere : Words → Written → Option Files → Option Files → WriteStop → Type 0
StopsHere words w old new (WriteStop.Failed p) = (p ≡ w.position) × KeepsOthers old new (word words w.position)
StopsHere words w old new WriteStop.NoMemory = new ≡ old

-- the files after the writes in their order, up to the first that stopped
abbrev pub WritesInOrder : Words → List Written → Option Files → Option Files → Result (Unit {0}) WriteStop → Type 0
WritesInOrder words [] old new (Ok done) = new ≡ old
WritesInOrder words [] old new (Err stop) = ⊥
WritesInOrder words (w ∷ ws) old new (Ok done) =
    (between : Option Files) × WritesFile old between (word words w.position) w.bytes × WritesInOrder words ws between new (Ok done)
WritesInOrder words (w ∷ ws) old new (Err stop) =
    StopsHere words w old new stop
    ⊎ ((between : Option Files) × WritesFile old between (word words w.position) w.bytes × WritesInOrder words ws between new (Err stop))

-- a write failed only where the count of writes rose
abbrev pub HasWriteCause : Type 0 → Result (Unit {0}) WriteStop → Type 0
HasWriteCause rose (Err (WriteStop.Failed p)) = rose
HasWriteCause rose other = Unit {0}

-- what a say answers, and what it leaves
abbrev pub SaysLine : HostState → HostState → List ℕ → SayEnd → Type 0
SaysLine old new line SayEnd.Said = Says old.said new.said line
SaysLine old new line SayEnd.Failed = WritesRose old new × SaysPrefix old.said new.said line
SaysLine old new line SayEnd.NoMemory = new.said ≡ old.said

-- a refusal ends with its status and its line, the line cut short only where the count of writes rose; or memory ran out
abbrev pub RefusalEnds : Refusal → HostState → HostState → ℕ → Type 0
RefusalEnds refusal old new status =
    ((status ≡ status_of refusal) × Says old.said new.said (refusal_line refusal))
    ⊎ (((status ≡ status_of refusal) × WritesRose old new × SaysPrefix old.said new.said (refusal_line refusal))
    ⊎ ((status ≡ 9) × SaysPrefix old.said new.said no_memory_line))

-- what the say of a command's own line leaves, and the status then
abbrev pub SaysDone : Done → HostState → HostState → ℕ → Type 0
SaysDone done old new status =
    ((status ≡ found_status done.found) × Says old.said new.said done.line)
    ⊎ (((status ≡ 8) × WritesRose old new × SaysPrefix old.said new.said done.line)
    ⊎ ((status ≡ 9) × (new.said ≡ old.said)))

-- what is said after the writes
abbrev pub SaysAfterWrites : Done → HostState → HostState → Result (Unit {0}) WriteStop → ℕ → Type 0
SaysAfterWrites done old new (Ok _) status = SaysDone done old new status
SaysAfterWrites done old new (Err (WriteStop.Failed p)) status = (status ≡ 8) × WritesRose old new
    × SaysPrefix old.said new.said (write_failed_line p)
SaysAfterWrites done old new (Err WriteStop.NoMemory) status = (status ≡ 9) × SaysPrefix old.said new.said no_memory_line

-- the writes, and then the say
abbrev pub DoneEnds : Words → Done → HostState → HostState → ℕ → Type 0
DoneEnds words done old new status =
    (stop : Result (Unit {0}) WriteStop) × WritesInOrder words done.outputs old.files new.files stop
    × SaysAfterWrites done old new stop status

-- what stands when the program ends
abbrev pub Ends : Words → Result Done Refusal → HostState → HostState → ℕ → Type 0
Ends words (Ok done) old new status = DoneEnds words done old new status
Ends words (Err refusal) old new status = (new.files ≡ old.files) × RefusalEnds refusal old new status
