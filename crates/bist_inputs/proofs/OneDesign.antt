-- Over files that are told, a module's input gives one value, or is refused in one way but for the names of a loop.
use Rattle.std.proofs.Common.{◌≡◌, ◌≤◌, ◌∙◌, ◌⊎◌, inl, inr, ℕ, List, Option, Some, None, Result, Ok, Err, refl, sym, ap, subst, arith, decimal, codes, ◌++◌, length}
use Rattle.bist_host.specs.Files.{Files}
use Rattle.verilog_tree.specs.declared.fault.TreeFault.{TreeFault}
use Rattle.verilog_tree.specs.Plain.{ModuleTree}
use Rattle.verilog_tree.specs.Rules.{Break, Unknown, Twice, Width, TwoBlocks, NotAssignable, SelectRange, Undriven, Clock, first_break}
use Rattle.verilog_tree.specs.Grammar.{Style}
use Rattle.verilog_tree.specs.Spells.{Text, all_limits}
use Rattle.verilog_tree.specs.Wires.{IsLoop}
use Rattle.verilog_tree.specs.declared.fault.ReadFault.{ReadFault}
use Rattle.verilog_text.specs.Refusals.{IsFirstIn}
use Rattle.verilog_text.specs.Answering.{Finished}
use Rattle.verilog_text.proofs.Finishing.{finishes}
use Rattle.verilog_text.proofs.Firsts.{first}
use Rattle.verilog_text.proofs.ReadingLaws.{one_text}
use Rattle.verilog_cycle.specs.Seen.{plain_names}
use Rattle.bist_endings.specs.declared.ending.Refusal.{Refusal}
use Rattle.bist_endings.specs.declared.ending.VerilogRefusal.{VerilogRefusal}
use Rattle.bist_endings.specs.Ending.{tree_fault_text}
use Rattle.bist_endings.specs.Words.{Words, word}
use Rattle.bist_endings.specs.OneOutcome.{HasOneOutcome, HasOneValue, SayAlike, TellsLoop}
use Rattle.bist_endings.proofs.OneOutcome.{outcome_value, then_value}
use Rattle.bist_endings.proofs.Settling.{IsTold, NeverUsage, Settles, then_never, told_settles}
use Rattle.bist_inputs.specs.Inputs.{GivesBytes, input_limit}
use Rattle.bist_inputs.specs.Designs.{CanRun, Breaks, GivesTree, GivesRunnable, GivesModule, InputModule}
use Rattle.bist_inputs.proofs.OneInput.{bytes_never, bytes_one}

-- ---- the text

-- two first refusals of a text are one
one_first : (style : Style) (bytes : List ℕ) (f g : ReadFault) → IsFirstIn style bytes f → IsFirstIn style bytes g → f ≡ g
one_first style bytes f g h i = elim (h.1 g i.0) [
  | inl e ↦ sym e
  | inr l ↦ elim (i.1 f h.0) [ inl e ↦ e | inr m ↦ absurd (omega (arith, l, m)) ]
]

-- what is spelled isn't refused
never_refused : (style : Style) (bytes : List ℕ) (mo : ModuleTree) (fault : ReadFault) → Text style all_limits bytes mo → IsFirstIn style bytes fault → ⊥
never_refused style bytes mo fault s f = first style bytes (Finished mo) fault ((finishes style bytes mo).1 s) f.0

tree_one : (style : Style) (bytes : List ℕ) → HasOneOutcome (GivesTree style bytes)
unfolding GivesTree
tree_one style bytes (Ok m) (Ok n) f g r s = ap Ok (one_text all_limits style bytes m n f g)
tree_one style bytes (Ok m) (Err (Refusal.Verilog (VerilogRefusal.Read e))) f g r s = absurd (never_refused style bytes m e f g)
tree_one style bytes (Ok m) (Err Refusal.NoMemory) f g r s = absurd s
tree_one style bytes (Ok m) (Err other) f g r s = absurd g
tree_one style bytes (Err (Refusal.Verilog (VerilogRefusal.Read d))) (Ok n) f g r s = absurd (never_refused style bytes n d g f)
tree_one style bytes (Err (Refusal.Verilog (VerilogRefusal.Read d))) (Err (Refusal.Verilog (VerilogRefusal.Read e))) f g r s =
    ap (λ (x : ReadFault). Err (Refusal.Verilog (VerilogRefusal.Read x))) (one_first style bytes d e f g)
tree_one style bytes (Err (Refusal.Verilog (VerilogRefusal.Read d))) (Err Refusal.NoMemory) f g r s = absurd s
tree_one style bytes (Err (Refusal.Verilog (VerilogRefusal.Read d))) (Err other) f g r s = absurd g
tree_one style bytes (Err Refusal.NoMemory) outcome f g r s = absurd r
tree_one style bytes (Err other) outcome f g r s = absurd f

-- ---- the rules

abbrev break_text : Break → List ℕ
break_text (Unknown n) = codes "N1 " ++ n
break_text (Twice n) = codes "N2 " ++ n
break_text (Width j k) = codes "N3 " ++ decimal j ++ codes " " ++ decimal k
break_text (TwoBlocks n) = codes "N4 " ++ n
break_text (NotAssignable n) = codes "N5 " ++ n
break_text (SelectRange n) = codes "N6 " ++ n
break_text (Undriven n) = codes "N9 " ++ n
break_text (Clock n) = codes "N10 " ++ n

-- the first broken rule, by its text
record TellsBreak (mo : ModuleTree) (fault : TreeFault) : Type 0 where
  broken : Break
  is_first : first_break mo ≡ Some broken
  text : tree_fault_text fault ≡ break_text broken

-- a loop of a module that breaks no rule
record LoopIn (mo : ModuleTree) (fault : TreeFault) : Type 0 where
  legal : first_break mo ≡ None
  names : List (List ℕ)
  is_loop : IsLoop mo names
  tells : TellsLoop (Refusal.Verilog (VerilogRefusal.Tree fault))

told : (mo : ModuleTree) (fault : TreeFault) → Breaks mo fault → TellsBreak mo fault ⊎ LoopIn mo fault
told mo TreeFault.NoMemory h = absurd h
told mo (TreeFault.Unknown n) h = inl (record { broken = Unknown n.bytes; is_first = h; text = refl })
told mo (TreeFault.Twice n) h = inl (record { broken = Twice n.bytes; is_first = h; text = refl })
told mo (TreeFault.Width j k) h = inl (record { broken = Width j k; is_first = h; text = refl })
told mo (TreeFault.TwoBlocks n) h = inl (record { broken = TwoBlocks n.bytes; is_first = h; text = refl })
told mo (TreeFault.NotAssignable n) h = inl (record { broken = NotAssignable n.bytes; is_first = h; text = refl })
told mo (TreeFault.SelectRange n) h = inl (record { broken = SelectRange n.bytes; is_first = h; text = refl })
told mo (TreeFault.Loop ns) h = inr (record { legal = h.0; names = plain_names ns.items; is_loop = h.1; tells = tt })
told mo (TreeFault.Undriven n) h = inl (record { broken = Undriven n.bytes; is_first = h; text = refl })
told mo (TreeFault.Clock n) h = inl (record { broken = Clock n.bytes; is_first = h; text = refl })

same_break : (o : Option Break) (b c : Break) → o ≡ Some b → o ≡ Some c → b ≡ c
same_break o b c h i = cc

some_or_none : (o : Option Break) (b : Break) → o ≡ Some b → o ≡ None → ⊥
some_or_none o b h i = cc

alike : (mo : ModuleTree) (d e : TreeFault) → Breaks mo d → Breaks mo e → SayAlike (Refusal.Verilog (VerilogRefusal.Tree d)) (Refusal.Verilog (VerilogRefusal.Tree e))
alike mo d e h i = by (told mo d h) (told mo e i)
  where
    by : TellsBreak mo d ⊎ LoopIn mo d → TellsBreak mo e ⊎ LoopIn mo e → SayAlike (Refusal.Verilog (VerilogRefusal.Tree d)) (Refusal.Verilog (VerilogRefusal.Tree e))
    by (inl x) (inl y) =
        let same = same_break (first_break mo) x.broken y.broken x.is_first y.is_first in
        inl (ap (λ (t : List ℕ). record { status = 14; line = codes "verilog " ++ t ++ codes "\n" }) (x.text ∙ ap break_text same ∙ sym y.text))
    by (inl x) (inr y) = absurd (some_or_none (first_break mo) x.broken x.is_first y.legal)
    by (inr x) (inl y) = absurd (some_or_none (first_break mo) y.broken y.is_first x.legal)
    by (inr x) (inr y) = inr (x.tells, y.tells)

-- a module that can be run isn't refused
runs_or_breaks : (mo : ModuleTree) (fault : TreeFault) → CanRun mo → Breaks mo fault → ⊥
runs_or_breaks mo fault r h = elim (told mo fault h) [
  | inl x ↦ some_or_none (first_break mo) x.broken x.is_first r.legal
  | inr x ↦ r.loopless x.names x.is_loop
]

runnable_one : (mo : ModuleTree) → HasOneValue (GivesRunnable mo)
unfolding GivesRunnable
runnable_one mo (Ok m) (Ok n) f g r s = f.0 ∙ sym g.0
runnable_one mo (Ok m) (Err (Refusal.Verilog (VerilogRefusal.Tree e))) f g r s = absurd (runs_or_breaks mo e f.1 g)
runnable_one mo (Ok m) (Err Refusal.NoMemory) f g r s = absurd s
runnable_one mo (Ok m) (Err other) f g r s = absurd g
runnable_one mo (Err (Refusal.Verilog (VerilogRefusal.Tree d))) (Ok n) f g r s = absurd (runs_or_breaks mo d g.1 f)
runnable_one mo (Err (Refusal.Verilog (VerilogRefusal.Tree d))) (Err (Refusal.Verilog (VerilogRefusal.Tree e))) f g r s = alike mo d e f g
runnable_one mo (Err (Refusal.Verilog (VerilogRefusal.Tree d))) (Err Refusal.NoMemory) f g r s = absurd s
runnable_one mo (Err (Refusal.Verilog (VerilogRefusal.Tree d))) (Err other) f g r s = absurd g
runnable_one mo (Err Refusal.NoMemory) outcome f g r s = absurd r
runnable_one mo (Err other) outcome f g r s = absurd f

module_one : (style : Style) (bytes : List ℕ) → HasOneValue (GivesModule style bytes)
module_one style bytes = then_value (GivesTree style bytes) GivesRunnable (outcome_value (GivesTree style bytes) (tree_one style bytes)) (λ mo spells. runnable_one mo)

input_module_one : (style : Style) (files : Files) (words : Words) (position : ℕ) → HasOneValue (InputModule style (Some files) words position)
unfolding InputModule
input_module_one style files words position =
    then_value (GivesBytes (Some files) (word words position) position) (GivesModule style)
    (outcome_value (GivesBytes (Some files) (word words position) position) (bytes_one files (word words position) position)) (λ bytes read. module_one style bytes)

-- ---- the words are never refused

tree_never : (style : Style) (bytes : List ℕ) → NeverUsage (GivesTree style bytes)
unfolding GivesTree
tree_never style bytes h = h

runnable_never : (mo : ModuleTree) → NeverUsage (GivesRunnable mo)
unfolding GivesRunnable
runnable_never mo h = h

input_module_never : (style : Style) (files : Option Files) (words : Words) (position : ℕ) → NeverUsage (InputModule style files words position)
unfolding InputModule
input_module_never style files words position =
    then_never (GivesBytes files (word words position) position) (GivesModule style) (bytes_never files (word words position) position) (λ bytes read.
    then_never (GivesTree style bytes) GivesRunnable (tree_never style bytes) (λ mo spells. runnable_never mo))

pub module_settles : {Says : Type 0} (style : Style) (files : Option Files) (words : Words) (position : ℕ) → Settles ModuleTree Says (IsTold files) (InputModule style files words position)
module_settles style files words position =
    told_settles files (λ f. InputModule style f words position) (input_module_never style files words position) (λ f. input_module_one style f words position)

-- ---- what is known of the module

-- a module that is given can be run
never_ok : {A : Type 0} (a : A) (e : Refusal) (r s : Result A Refusal) → r ≡ Ok a → s ≡ Err e → r ≡ s → ⊥
never_ok a e r s x y h = cc

pub input_can_run : (style : Style) (files : Option Files) (words : Words) (position : ℕ) (mo : ModuleTree) → InputModule style files words position (Ok mo) → CanRun mo
unfolding InputModule GivesRunnable
input_can_run style files words position mo (Ok bytes, read, (Ok m, spells, runs)) = subst CanRun (sym runs.0) runs.1
input_can_run style files words position mo (Ok bytes, read, (Err e, spells, is)) = absurd (never_ok mo e (Ok mo) (Err e) refl refl is)
input_can_run style files words position mo (Err e, read, is) = absurd (never_ok mo e (Ok mo) (Err e) refl refl is)

-- the module that was read is the one that the file's bytes spell, and they spell no other
pub record Spelled (style : Style) (files : Files) (name : List ℕ) (mo : ModuleTree) : Type 0 where
  pub bytes : List ℕ
  pub are : files name ≡ Some bytes
  pub fits : length bytes ≤ input_limit
  pub spells : Text style all_limits bytes mo
  pub no_other : (other : ModuleTree) → Text style all_limits bytes other → other ≡ mo

pub input_spells : (style : Style) (files : Files) (words : Words) (position : ℕ) (mo : ModuleTree) → InputModule style (Some files) words position (Ok mo) → Spelled style files (word words position) mo
unfolding InputModule GivesTree GivesRunnable
input_spells style files words position mo (Ok bytes, read, (Ok m, spells, runs)) =
    let is : Text style all_limits bytes mo = subst (Text style all_limits bytes) (sym runs.0) spells in
    record { bytes = bytes; are = read.0; fits = read.1; spells = is; no_other = λ other o. one_text all_limits style bytes other mo o is }
input_spells style files words position mo (Ok bytes, read, (Err e, spells, is)) = absurd (never_ok mo e (Ok mo) (Err e) refl refl is)
input_spells style files words position mo (Err e, read, is) = absurd (never_ok mo e (Ok mo) (Err e) refl refl is)
