-- The words that are seen of a run of any module with the ports of a self-test.
use Rattle.bist_app.proofs.Common.{◌≡◌, ℕ, List, Option, Some, None, refl, sym, subst, ModuleTree, ModulePort, MarchElement, Description, IsMemory, Tells, Seen, option_map, wrong_port, ArePorts}
use Rattle.self_test.proofs.Wrong.{none_exactly}
use Rattle.bench.proofs.OneRun.{AreLow, seen_low}
use Rattle.bist_app.specs.inner.RunsBeside.{AreWords}
use Rattle.bist_app.specs.inner.BenchedBoxes.{EndsRun}
use Rattle.bist_app.specs.declared.benching.RunEnd.{RunEnd}

same_option : (o : Option (List ℕ)) → option_map (λ n. n) o ≡ o
same_option None = refl
same_option (Some n) = refl

-- where none is wrong, the ports are those of a self-test
pub are_ports : (d : Description) (ports : List ModulePort) → wrong_port d ports ≡ None → ArePorts d ports
are_ports d ports h = (none_exactly (λ n. n) d ports (wrong_port d ports) (same_option (wrong_port d ports))).0 h

words_of : (bits : ℕ) (seen : Option Seen) → AreLow bits seen → AreWords bits seen
words_of bits None h = tt
words_of bits (Some seen) h = h

pub words_low : (bits : ℕ) (mo : ModuleTree) (march : List MarchElement) (d : Description) (registers : List ℕ) (tells : Tells) (end : RunEnd) → bits ≡ d.bits
    → IsMemory d → wrong_port d mo.ports ≡ None → EndsRun mo march d registers tells end → AreWords bits end.first
words_low bits mo march d registers tells end same m ports run =
    subst (λ (n : ℕ). AreWords n end.first) (sym same)
    (words_of d.bits end.first (seen_low mo d (are_ports d mo.ports ports) march registers run.now tells run.after end.fail end.done_cycle end.first m run.runs))
