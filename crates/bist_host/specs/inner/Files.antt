-- Inner. Which faults a read and a write may answer.
use Rattle.bist_host.specs.declared.host.HostFault.{HostFault}
use Rattle.bist_host.specs.declared.host.HostFault.TheVariants.{WriteFailed, NoMemory}

-- a fault that a read may answer
abbrev pub IsReadFault : HostFault → Type 0
IsReadFault WriteFailed = ⊥
IsReadFault other = Unit {0}

-- a fault that a write may answer
abbrev pub IsWriteFault : HostFault → Type 0
IsWriteFault WriteFailed = Unit {0}
IsWriteFault NoMemory = Unit {0}
IsWriteFault other = ⊥
