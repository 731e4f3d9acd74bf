use Rattle.bist_app.proofs.Common.{Ok, Err, ◌∙◌, subst, plain, InputList, InputMemory}
use Rattle.bist_app.specs.InWord.{LeavesInWord}
use Rattle.bist_app.proofs.Refusing.{passed_on}
use Rattle.bist_app.proofs.inword_command.decide_in_word.Goals as goal

pub returns-in_err-march-clause-answer : goal.returns-in_err-march-clause-answer
returns-in_err-march-clause-answer g c = (Err c.in_err-march.field-0.0, c.in_err-march.ensures.answer, passed_on _ _ c.from_residual.ensures)

pub returns-in_err-memory-clause-answer : goal.returns-in_err-memory-clause-answer
returns-in_err-memory-clause-answer g c =
    let memory = subst (λ f. InputMemory f c.args.words.now 2 (Err c.in_err-memory.field-0.0)) c.in_ok-march.ensures.kept.files c.in_err-memory.ensures.answer in
    (Ok c.in_ok-march.march, c.in_ok-march.ensures.answer, (Err c.in_err-memory.field-0.0, memory, passed_on _ _ c.from_residual-in_err-memory.ensures))

pub returns-in_err-items-clause-answer : goal.returns-in_err-items-clause-answer
returns-in_err-items-clause-answer g c =
    let files = c.in_ok-memory.ensures.kept.files ∙ c.in_ok-march.ensures.kept.files in
    let memory = subst (λ f. InputMemory f c.args.words.now 2 (Ok c.in_ok-memory.memory)) c.in_ok-march.ensures.kept.files c.in_ok-memory.ensures.answer in
    let items = subst (λ f. InputList f c.args.words.now 3 (Err c.in_err-items.field-0.0)) files c.in_err-items.ensures.answer in
    (Ok c.in_ok-march.march, c.in_ok-march.ensures.answer, (Ok c.in_ok-memory.memory, memory, (Err c.in_err-items.field-0.0, items, passed_on _ _ c.from_residual-in_err-items.ensures)))

pub returns-clause-answer : goal.returns-clause-answer
returns-clause-answer g c =
    let files = c.in_ok-memory.ensures.kept.files ∙ c.in_ok-march.ensures.kept.files in
    let memory = subst (λ f. InputMemory f c.args.words.now 2 (Ok c.in_ok-memory.memory)) c.in_ok-march.ensures.kept.files c.in_ok-memory.ensures.answer in
    let items = subst (λ f. InputList f c.args.words.now 3 (Ok c.in_ok-items.items.items)) files c.in_ok-items.ensures.answer in
    let leaves = subst (λ l. LeavesInWord c.in_ok-march.march c.in_ok-memory.memory l (plain c.plan_in_word.result)) c.deref.ensures.value c.plan_in_word.ensures.answer in
    (Ok c.in_ok-march.march, c.in_ok-march.ensures.answer, (Ok c.in_ok-memory.memory, memory, (Ok c.in_ok-items.items.items, items, leaves)))
