use Rattle.std.proofs.Common.{rules, arith, ◌<◌, ◌+◌, ◌≤◌, length}
use Rattle.std.proofs.lemmas.Bool.{not-true, not-false}
use Rattle.microcode.proofs.Behind.{within, behind_oper, behind_visit, behind_element, behind_back, behind_none}
use Rattle.microcode.proofs.place.place_behind.Goals as goal

pub instr_at-instr-requires : goal.instr_at-instr-requires
instr_at-instr-requires c = within c.requires.place.0 c.args.extent c.args.code.now c.args.place c.requires.place.1

pub overflow_add-behind : goal.overflow_add-behind
overflow_add-behind c =
    let here = within c.requires.place.0 c.args.extent c.args.code.now c.args.place c.requires.place.1 in
    search rules

pub overflow_add-behind-2 : goal.overflow_add-behind-2
overflow_add-behind-2 c =
    let here = within c.requires.place.0 c.args.extent c.args.code.now c.args.place c.requires.place.1 in
    search rules

pub returns-then-not-instr : goal.returns-then-not-instr
returns-then-not-instr c = λ march at.
    behind_oper march c.args.extent c.args.code.now c.args.place c.instr_at-instr.result c.requires.extent at c.instr_at-instr.ensures
    (not-true c.instr_at-instr.result.last c.if-not-instr.true)

pub returns-then-place-visits : goal.returns-then-place-visits
returns-then-place-visits c = λ march at.
    behind_visit march c.args.extent c.args.code.now c.args.place c.instr_at-instr.result c.requires.extent at c.instr_at-instr.ensures
    c.visits-visits.result (not-false c.instr_at-instr.result.last c.if-not-instr.false) c.visits-visits.ensures c.if-place-visits.true

pub returns-then-behind-count : goal.returns-then-behind-count
returns-then-behind-count c = λ march at.
    let below = c.if-behind-count.true in
    let inside : c.args.place.first + c.args.place.oper + 1 < length c.args.code.now = omega arith in
    behind_element march c.args.extent c.args.code.now c.args.place c.instr_at-instr.result c.requires.extent at c.instr_at-instr.ensures
    c.visits-visits.result (not-false c.instr_at-instr.result.last c.if-not-instr.false) c.visits-visits.ensures c.if-place-visits.false inside

pub returns-then-place-extent : goal.returns-then-place-extent
returns-then-place-extent c = λ march at.
    let above = c.if-behind-count.false in
    let past : length c.args.code.now ≤ c.args.place.first + c.args.place.oper + 1 = omega arith in
    behind_back march c.args.extent c.args.code.now c.args.place c.instr_at-instr.result c.requires.extent at c.instr_at-instr.ensures
    c.visits-visits.result (not-false c.instr_at-instr.result.last c.if-not-instr.false) c.visits-visits.ensures c.if-place-visits.false past c.if-place-extent.true

pub returns : goal.returns
returns c = λ march at.
    let above = c.if-behind-count.false in
    let past : length c.args.code.now ≤ c.args.place.first + c.args.place.oper + 1 = omega arith in
    behind_none march c.args.extent c.args.code.now c.args.place c.instr_at-instr.result c.requires.extent at c.instr_at-instr.ensures
    c.visits-visits.result (not-false c.instr_at-instr.result.last c.if-not-instr.false) c.visits-visits.ensures c.if-place-visits.false past c.if-place-extent.false
