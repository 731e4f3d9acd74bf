-- The bytes of the generator's module, read by precedence, are that module.
use Rattle.std.proofs.Common.{◌≡◌, ◌∙◌, ℕ, true, List, Some, Result, Ok, Err, IfOk, sym, ap, subst, arith}
use Rattle.verilog_tree.specs.Plain.{ModuleTree}
use Rattle.verilog_tree.specs.Fits.{fits}
use Rattle.verilog_tree.specs.Spells.{all_limits, FreelySpells}
use Rattle.verilog_text.proofs.Freely.{nothing_else, freely_too}
use Rattle.verilog_emit.specs.Printed.{printed}
use Rattle.verilog_emit.proofs.WrittenModule.{printed_spells}
use Rattle.rtl_layout.specs.Plan.{Plan}
use Rattle.rtl_layout.specs.Shows.{IsPlan}
use Rattle.rtl_layout.specs.Layout as L
use Rattle.rtl_layout.proofs.Text.{all_fits}
use Rattle.rtl_layout.proofs.Few.{operators_few}

module _ (p : Plan) (plan : IsPlan p) where
  fitting : fits (L.self_test p) ≡ true
  fitting = all_fits p plan.ready plan.ready.sized (let l = plan.few_ages in omega arith) plan.element_small plan.oper_small plan.back_small plan.name

  pub reads_itself : FreelySpells (printed (L.self_test p)) (L.self_test p)
  reads_itself = freely_too (Some 256) all_limits (printed (L.self_test p)) (L.self_test p) (operators_few p plan) (printed_spells (L.self_test p) fitting)

  pub reads_no_other : (mo : ModuleTree) → FreelySpells (printed (L.self_test p)) mo → mo ≡ L.self_test p
  reads_no_other mo h = nothing_else (printed (L.self_test p)) (L.self_test p) mo (printed_spells (L.self_test p) fitting) h

-- the text of a module that is made of a plan
pub layout_reads : (text : List ℕ) (mo : ModuleTree) → (p : Plan) × IsPlan p × (mo ≡ L.self_test p) → text ≡ printed mo → FreelySpells text mo × ((other : ModuleTree) → FreelySpells text other → other ≡ mo)
layout_reads text mo (p, plan, same) form =
    let is : text ≡ printed (L.self_test p) = form ∙ ap printed same in (
      subst (λ (x : ModuleTree). FreelySpells text x) (sym same) (subst (λ t. FreelySpells t (L.self_test p)) (sym is) (reads_itself p plan)),
      λ other h. reads_no_other p plan other (subst (λ t. FreelySpells t other) is h) ∙ sym same,
    )

-- two things hold of what a call gives
pub both_ok : {T E : Type 0} (P Q : T → Type 0) (r : Result T E) → IfOk r P → IfOk r Q → IfOk r (λ x. P x × Q x)
both_ok P Q (Ok x) p q = (p, q)
both_ok P Q (Err e) p q = tt
