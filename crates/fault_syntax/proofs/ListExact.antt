-- A list is read as one list of primitives, or refused in one way.
use Rattle.std.proofs.Common.{◌≡◌, List, [], ◌∷◌, ◌∙◌, Option, Some, None, sym, ap}
use Rattle.fault_core.specs.Primitive.{Primitive}
use Rattle.fault_syntax.specs.declared.words.AllowedNames.TheVariants.{Static}
use Rattle.fault_syntax.specs.Answers.{RefusesAt}
use Rattle.fault_syntax.specs.ListText.{Item, Primitive as OnePrimitive, Named, LineText}
use Rattle.fault_syntax.specs.Parts.{Brings}
use Rattle.fault_syntax.specs.PrimText.{PrimParts}
use Rattle.fault_syntax.proofs.Judging.{stands_one}
use Rattle.fault_syntax.proofs.LineByLine.{IsSettled}
use Rattle.fault_syntax.proofs.OneOutcome.{not_refused, refuses_one}
use Rattle.fault_syntax.proofs.LineExact.{outcome_one}

brings_one : (v : Option Item) (ps qs : List Primitive) → Brings v ps → Brings v qs → ps ≡ qs
brings_one None ps qs h k = h ∙ sym k
brings_one (Some (OnePrimitive text)) ps qs h k = h.3 ∙ ap (λ x. x ∷ []) (stands_one text h.0 k.0 h.1 k.1) ∙ sym k.3
brings_one (Some (Named n)) ps qs h k = h ∙ sym k

written_one : (text other : PrimParts) → Some (OnePrimitive text) ≡ Some (OnePrimitive other) → other ≡ text
written_one text other e = cc

pub settled : IsSettled LineText Brings OnePrimitive RefusesAt
settled = record {
  outcome_one = outcome_one Static;
  brings_one = brings_one;
  not_refused = λ text ps line fault b r. not_refused line text b.0 fault b.1 b.2 r;
  refuses_one = refuses_one;
  written_one = written_one;
}
