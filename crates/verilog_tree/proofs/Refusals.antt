-- The first break of several.
use Rattle.std.proofs.Common.{◌≡◌, List, ◌∷◌, Option, Some, None, refl}
use Rattle.verilog_tree.specs.declared.fault.TreeFault.{TreeFault}
use Rattle.verilog_tree.specs.declared.fault.TreeFault.TheVariants as T
use Rattle.verilog_tree.specs.Rules.{Break, Tells, first_of}

some_now : (o : Option Break) (b : Break) (os : List (Option Break)) → o ≡ Some b → first_of (o ∷ os) ≡ Some b
some_now o b os e = rw e refl

pub tells_now : (f : TreeFault) (o : Option Break) (os : List (Option Break)) → Tells f o → Tells f (first_of (o ∷ os))
tells_now (T.Unknown n) o os h = some_now o _ os h
tells_now (T.Twice n) o os h = some_now o _ os h
tells_now (T.Width j k) o os h = some_now o _ os h
tells_now (T.TwoBlocks n) o os h = some_now o _ os h
tells_now (T.NotAssignable n) o os h = some_now o _ os h
tells_now (T.SelectRange n) o os h = some_now o _ os h
tells_now (T.Loop ns) o os h = absurd h
tells_now T.NoMemory o os h = tt
tells_now (T.Undriven n) o os h = some_now o _ os h
tells_now (T.Clock n) o os h = some_now o _ os h

pub tells_later : (f : TreeFault) (o : Option Break) (os : List (Option Break)) → o ≡ None → Tells f (first_of os) → Tells f (first_of (o ∷ os))
tells_later f o os e h = rw e h

pub none_more : (o : Option Break) (os : List (Option Break)) → o ≡ None → first_of os ≡ None → first_of (o ∷ os) ≡ None
none_more o os e h = rw e h
