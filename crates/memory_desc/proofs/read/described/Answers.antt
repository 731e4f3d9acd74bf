use Rattle.memory_desc.proofs.Common.{passed, too_wide, IsMemory, IsName, arith, err_from_is_err_and, subst, sym, text_lines, unsized, is_row, plain_statement, ◌∙◌}
use Rattle.memory_desc.specs.inner.Heard.{statements}
use Rattle.memory_desc.specs.Described.{AreOfMemory}
use Rattle.memory_desc.proofs.Built.{are_sized, backgrounds_refused, is_memory, of_memory, power_refused, same_memory, scrambling_refused, sized_bits, sized_words, width_refused}
use Rattle.memory_desc.proofs.Parts.{width_small}
use Rattle.memory_desc.proofs.Within.{any_found, bits_are, latency_inside, latency_is, named, pause_inside, pause_is, polarity_is, words_are}
use Rattle.memory_desc.proofs.read.described.Goals as goal

pub overflow_sub-words : goal.overflow_sub-words
overflow_sub-words c =
    let ss = statements (text_lines c.args.bytes.now) in
    let low = (sized_words ss (passed (unsized ss) c.in_ok-check_fields.ensures) (c.number_said-words.ensures ∙ words_are ss)).0 in omega arith

pub check_none-requires : goal.check_none-requires
check_none-requires c =
    let ss = statements (text_lines c.args.bytes.now) in
    sized_bits ss (passed (unsized ss) c.in_ok-check_fields.ensures) (c.number_said-bits.ensures ∙ bits_are ss)

pub scramble_from-requires-clause-width : goal.scramble_from-requires-clause-width
scramble_from-requires-clause-width c =
    let ss = statements (text_lines c.args.bytes.now) in
    let high = (sized_words ss (passed (unsized ss) c.in_ok-check_fields.ensures) (c.number_said-words.ensures ∙ words_are ss)).1 in
    width_small c.from.result c.width_of-width.result (let same = c.from.ensures in omega arith) c.width_of-width.ensures.width

pub backgrounds_from-requires : goal.backgrounds_from-requires
backgrounds_from-requires c =
    let ss = statements (text_lines c.args.bytes.now) in
    sized_bits ss (passed (unsized ss) c.in_ok-check_fields.ensures) (c.number_said-bits.ensures ∙ bits_are ss)

pub name_from-requires : goal.name_from-requires
name_from-requires c =
    let ls = text_lines c.args.bytes.now in
    let ss = statements ls in
    let f = are_sized ss (passed (unsized ss) c.in_ok-check_fields.ensures) in
    subst IsName (sym c.name_said.ensures) (named ls f.in_range f.has_name)

pub overflow_cast-latency : goal.overflow_cast-latency
overflow_cast-latency c =
    let ss = statements (text_lines c.args.bytes.now) in
    let small = (latency_inside ss (are_sized ss (passed (unsized ss) c.in_ok-check_fields.ensures)).in_range).1 in
    let same = c.number_said-latency.ensures ∙ latency_is ss in
    omega arith

-- ---- the refusals, and the memory

pub returns-in_err-check_power_of_two : goal.returns-in_err-check_power_of_two
returns-in_err-check_power_of_two c =
    let ss = statements (text_lines c.args.bytes.now) in
    let p = err_from_is_err_and c.from_residual-in_err-check_power_of_two.result c.from_residual-in_err-check_power_of_two.ensures.1 in
    rw (p.1, p.2) (power_refused ss (passed (unsized ss) c.in_ok-check_fields.ensures) (c.number_said-words.ensures ∙ words_are ss) (c.number_said-bits.ensures ∙ bits_are ss) c.from.ensures c.width_of-width.ensures.width _ (c.in_err-check_power_of_two.ensures ss (c.is_some-scrambled.ensures ∙ any_found plain_statement (λ s. is_row s.content) ss c.first_line.result c.first_line.ensures) (c.number_said-words.ensures ∙ words_are ss)))

pub returns-in_err-check_none : goal.returns-in_err-check_none
returns-in_err-check_none c =
    let ss = statements (text_lines c.args.bytes.now) in
    let r = c.from_residual-in_err-check_none in
    let p = err_from_is_err_and r.result r.ensures.1 in
    let power = c.in_ok-check_power_of_two.ensures ss (c.is_some-scrambled.ensures ∙ any_found plain_statement (λ s. is_row s.content) ss c.first_line.result c.first_line.ensures) (c.number_said-words.ensures ∙ words_are ss) in
    rw (p.1, p.2) (width_refused ss (passed (unsized ss) c.in_ok-check_fields.ensures) (c.number_said-words.ensures ∙ words_are ss) (c.number_said-bits.ensures ∙ bits_are ss) c.from.ensures c.width_of-width.ensures.width power _ c.in_err-check_none.ensures)

pub returns-in_err-scramble : goal.returns-in_err-scramble
returns-in_err-scramble c =
    let ss = statements (text_lines c.args.bytes.now) in
    let r = c.from_residual-in_err-scramble in
    let p = err_from_is_err_and r.result r.ensures.1 in
    let power = c.in_ok-check_power_of_two.ensures ss (c.is_some-scrambled.ensures ∙ any_found plain_statement (λ s. is_row s.content) ss c.first_line.result c.first_line.ensures) (c.number_said-words.ensures ∙ words_are ss) in
    rw (p.1, p.2) (scrambling_refused ss (passed (unsized ss) c.in_ok-check_fields.ensures) (c.number_said-words.ensures ∙ words_are ss) (c.number_said-bits.ensures ∙ bits_are ss) c.from.ensures c.width_of-width.ensures.width power c.in_ok-check_none.ensures _ c.in_err-scramble.ensures.gives)

pub returns-in_err-backgrounds : goal.returns-in_err-backgrounds
returns-in_err-backgrounds c =
    let ss = statements (text_lines c.args.bytes.now) in
    let r = c.from_residual-in_err-backgrounds in
    let p = err_from_is_err_and r.result r.ensures.1 in
    let power = c.in_ok-check_power_of_two.ensures ss (c.is_some-scrambled.ensures ∙ any_found plain_statement (λ s. is_row s.content) ss c.first_line.result c.first_line.ensures) (c.number_said-words.ensures ∙ words_are ss) in
    rw (p.1, p.2) (backgrounds_refused ss (passed (unsized ss) c.in_ok-check_fields.ensures) (c.number_said-words.ensures ∙ words_are ss) (c.number_said-bits.ensures ∙ bits_are ss) c.from.ensures c.width_of-width.ensures.width power c.in_ok-check_none.ensures c.in_ok-scramble.scramble
    c.in_ok-scramble.ensures.gives _ c.in_err-backgrounds.ensures)

pub invariant_of-result : goal.invariant_of-result
invariant_of-result c =
    let ls = text_lines c.args.bytes.now in
    let ss = statements ls in
    let f = are_sized ss (passed (unsized ss) c.in_ok-check_fields.ensures) in
    let s = c.in_ok-scramble in
    let power = c.in_ok-check_power_of_two.ensures ss (c.is_some-scrambled.ensures ∙ any_found plain_statement (λ s. is_row s.content) ss c.first_line.result c.first_line.ensures) (c.number_said-words.ensures ∙ words_are ss) in
    subst IsMemory (sym (same_memory ss s.scramble c.in_ok-backgrounds.backgrounds.items (c.name_from.ensures ∙ c.name_said.ensures)
    (c.number_said-words.ensures ∙ words_are ss) (c.number_said-bits.ensures ∙ bits_are ss) (c.number_said-latency.ensures ∙ latency_is ss) (c.number_said.ensures ∙ polarity_is ss) (c.number_said-pause.ensures ∙ pause_is ss)))
    (is_memory ss (passed (unsized ss) c.in_ok-check_fields.ensures) (c.number_said-words.ensures ∙ words_are ss) (c.number_said-bits.ensures ∙ bits_are ss) c.from.ensures c.width_of-width.ensures.width power c.in_ok-check_none.ensures s.scramble s.ensures.gives c.in_ok-backgrounds.backgrounds.items
    c.in_ok-backgrounds.ensures (named ls f.in_range f.has_name) s.ensures.width s.ensures.full s.ensures.invertible)

pub returns : goal.returns
returns c =
    let ss = statements (text_lines c.args.bytes.now) in
    let s = c.in_ok-scramble in
    let power = c.in_ok-check_power_of_two.ensures ss (c.is_some-scrambled.ensures ∙ any_found plain_statement (λ s. is_row s.content) ss c.first_line.result c.first_line.ensures) (c.number_said-words.ensures ∙ words_are ss) in
    subst (AreOfMemory ss)
    (sym (same_memory ss s.scramble c.in_ok-backgrounds.backgrounds.items (c.name_from.ensures ∙ c.name_said.ensures)
    (c.number_said-words.ensures ∙ words_are ss) (c.number_said-bits.ensures ∙ bits_are ss) (c.number_said-latency.ensures ∙ latency_is ss) (c.number_said.ensures ∙ polarity_is ss) (c.number_said-pause.ensures ∙ pause_is ss)))
    (of_memory ss (passed (unsized ss) c.in_ok-check_fields.ensures) (c.number_said-words.ensures ∙ words_are ss) (c.number_said-bits.ensures ∙ bits_are ss) c.from.ensures c.width_of-width.ensures.width power c.in_ok-check_none.ensures s.scramble s.ensures.gives c.in_ok-backgrounds.backgrounds.items
    c.in_ok-backgrounds.ensures)

pub scramble_from-requires-clause-fit : goal.scramble_from-requires-clause-fit
scramble_from-requires-clause-fit c =
    let ss = statements (text_lines c.args.bytes.now) in (c.number_said-bits.result, passed (too_wide ss c.width_of-width.result c.number_said-bits.result) c.in_ok-check_none.ensures)

pub overflow_cast-bits : goal.overflow_cast-bits
overflow_cast-bits c =
    let ss = statements (text_lines c.args.bytes.now) in
    let few = (sized_bits ss (passed (unsized ss) c.in_ok-check_fields.ensures) (c.number_said-bits.ensures ∙ bits_are ss)).1 in
    omega arith

pub scramble_from-requires-clause-rows : goal.scramble_from-requires-clause-rows
scramble_from-requires-clause-rows c =
    let ss = statements (text_lines c.args.bytes.now) in c.is_some-scrambled.ensures ∙ any_found plain_statement (λ s. is_row s.content) ss c.first_line.result c.first_line.ensures

pub overflow_cast-words : goal.overflow_cast-words
overflow_cast-words c =
    let ss = statements (text_lines c.args.bytes.now) in
    let few = (sized_words ss (passed (unsized ss) c.in_ok-check_fields.ensures) (c.number_said-words.ensures ∙ words_are ss)).1 in
    omega arith

pub overflow_cast-pause : goal.overflow_cast-pause
overflow_cast-pause c =
    let ss = statements (text_lines c.args.bytes.now) in
    let small = (pause_inside ss (are_sized ss (passed (unsized ss) c.in_ok-check_fields.ensures)).in_range).1 in
    let same = c.number_said-pause.ensures ∙ pause_is ss in
    omega arith
