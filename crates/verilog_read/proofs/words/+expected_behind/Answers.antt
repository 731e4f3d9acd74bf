use Rattle.std.proofs.Common.{◌∙◌, ◌-◌, length, take, ap, refl}
use Rattle.verilog_read.specs.inner.Frames.{holder, holders}
use Rattle.verilog_text.specs.Places.{InAlways}
use Rattle.verilog_read.proofs.FrameLemmas.{holders_last, expects_last}
use Rattle.verilog_read.proofs.words.+expected_behind.Goals as goal

pub returns-in-Block : goal.returns-in-Block
returns-in-Block t c = λ h k.
    let ws = c.args.waiting.now in
    let a = holders (take (length ws - 1) ws) (InAlways h k) in
    let e = holders_last ws c.innermost-item.result (InAlways h k) c.in-len1-up.len_at_least c.innermost-item.is ∙ ap (λ x. holder x a) c.in-Block.is in
    expects_last _ _ _ _ c.plain-in-Block.ensures e (record { alternative = refl; reserved = refl; names = refl; literals = refl })

pub returns-in-Labelled : goal.returns-in-Labelled
returns-in-Labelled t c = λ h k.
    let ws = c.args.waiting.now in
    let a = holders (take (length ws - 1) ws) (InAlways h k) in
    let e = holders_last ws c.innermost-item.result (InAlways h k) c.in-len1-up.len_at_least c.innermost-item.is ∙ ap (λ x. holder x a) c.in-Labelled.is in
    expects_last _ _ _ _ c.plain-in-Labelled.ensures e (record { alternative = refl; reserved = refl; names = refl; literals = refl })

pub returns-in-Other : goal.returns-in-Other
returns-in-Other t c = λ h k.
    let ws = c.args.waiting.now in
    let a = holders (take (length ws - 1) ws) (InAlways h k) in
    let e = holders_last ws c.innermost-item.result (InAlways h k) c.in-len1-up.len_at_least c.innermost-item.is ∙ ap (λ x. holder x a) c.in-Other.is in
    expects_last _ _ _ _ c.plain-in-Other.ensures e (record { alternative = refl; reserved = refl; names = refl; literals = refl })

pub returns-in-Then : goal.returns-in-Then
returns-in-Then t c = λ h k.
    let ws = c.args.waiting.now in
    let a = holders (take (length ws - 1) ws) (InAlways h k) in
    let e = holders_last ws c.innermost-item.result (InAlways h k) c.in-len1-up.len_at_least c.innermost-item.is ∙ ap (λ x. holder x a) c.in-Then.is in
    expects_last _ _ _ _ refl e (record { alternative = refl; reserved = (c.expected_behind-above.ensures h k).reserved; names = (c.expected_behind-above.ensures h k).names; literals = (c.expected_behind-above.ensures h k).literals })

pub returns-in-Else : goal.returns-in-Else
returns-in-Else t c = λ h k.
    let ws = c.args.waiting.now in
    let a = holders (take (length ws - 1) ws) (InAlways h k) in
    let e = holders_last ws c.innermost-item.result (InAlways h k) c.in-len1-up.len_at_least c.innermost-item.is ∙ ap (λ x. holder x a) c.in-Else.is in
    let above = c.expected_behind.ensures h k in
    expects_last _ _ _ _ refl e (record { alternative = above.alternative; reserved = above.reserved; names = above.names; literals = above.literals })
