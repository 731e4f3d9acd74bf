use Rattle.memory_desc.proofs.Common.{Bool, Content, List, ap, append_assoc, codes, decimal, false, further, is_plain, lines_text, on_ok_weaker, sym, with_ports, ◌++◌, ◌∙◌, ◌≡◌}
use Rattle.memory_desc.specs.Printed.{with_head}
use Rattle.memory_desc.proofs.print.put_head.Goals as goal

pub returns-then-plain : goal.returns-then-plain
returns-then-plain c =
    let d = c.args.memory.now in
    let plain = c.is_plain-plain in
    let name = c.as_bytes.ensures.value ∙ c.name.ensures in
    let words = c.from.ensures ∙ c.words.ensures.value in
    let bits = c.from-2.ensures ∙ c.bits.ensures.value in
    let head : (cs : List Content) → c.put_number.new.out.items ++ further d.bits cs ≡ c.args.out.now.items ++ lines_text d.bits (with_head d plain.result cs) =
    λ cs. simp (c.in_ok-put_number.ensures, c.in_ok-put_decimal.ensures.ok, append_assoc) (simp (c.in_ok-put_between.ensures, c.opening.ensures, name, words, bits, append_assoc)) in
    λ cs. head cs ∙ ap (λ (b : Bool). c.args.out.now.items ++ lines_text d.bits (with_head d b cs)) plain.ensures
    ∙ ap (λ (b : Bool). c.args.out.now.items ++ lines_text d.bits (with_head d (is_plain d) (with_ports d b cs))) (sym c.if-plain.true ∙ plain.ensures)

pub returns : goal.returns
returns c =
    let d = c.args.memory.now in
    let plain = c.is_plain-plain in
    let name = c.as_bytes.ensures.value ∙ c.name.ensures in
    let words = c.from.ensures ∙ c.words.ensures.value in
    let bits = c.from-2.ensures ∙ c.bits.ensures.value in
    let latency = c.from-3.ensures ∙ c.latency.ensures.value in
    let pause = c.from-4.ensures ∙ c.pause.ensures.value in
    let head : (cs : List Content) → c.put_number.new.out.items ++ further d.bits cs ≡ c.args.out.now.items ++ lines_text d.bits (with_head d plain.result cs) =
    λ cs. simp (c.in_ok-put_number.ensures, c.in_ok-put_decimal.ensures.ok, append_assoc) (simp (c.in_ok-put_between.ensures, c.opening.ensures, name, words, bits, append_assoc)) in
    on_ok_weaker c.put_number-3.result
    (λ (last : c.put_number-3.new.out.items ≡ c.put_word.new.out.items ++ (codes "\npause " ++ decimal c.from-4.result)) cs.
    (let ports : c.put_number-3.new.out.items ++ further d.bits cs ≡ c.put_number.new.out.items ++ further d.bits (with_ports d false cs) =
    simp (last, c.in_ok-put_word.ensures.ok, c.in_ok-put.ensures.ok, append_assoc)
    (simp (c.in_ok-put_number-2.ensures, latency, c.bits-2.ensures.value, c.polarity.ensures.value, pause, append_assoc)) in ports)
    ∙ head (with_ports d false cs) ∙ ap (λ (b : Bool). c.args.out.now.items ++ lines_text d.bits (with_head d b (with_ports d false cs))) plain.ensures
    ∙ ap (λ (b : Bool). c.args.out.now.items ++ lines_text d.bits (with_head d (is_plain d) (with_ports d b cs))) (sym c.if-plain.false ∙ plain.ensures))
    c.put_number-3.ensures
