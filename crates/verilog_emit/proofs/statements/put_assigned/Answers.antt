use Rattle.std.proofs.Common.{◌≡◌, ℕ, List, [], ◌∷◌, ◌++◌, codes, append_assoc}
use Rattle.std.proofs.lemmas.Result.{on_ok_weaker}
use Rattle.verilog_tree.specs.Plain.{plain}
use Rattle.verilog_emit.specs.Printed.{margin, expression_text}
use Rattle.verilog_emit.proofs.statements.put_assigned.Goals as goal

-- the blanks, what stands before the expression, and the expression with the end of the line behind it
line_written : (before o1 o2 out m w n k x : List ℕ) → o1 ≡ before ++ m → o2 ≡ o1 ++ (w ++ n ++ k) → out ≡ o2 ++ (codes "" ++ x ++ codes ";\n") → out ≡ before ++ (m ++ (w ++ n ++ k ++ x ++ codes ";") ++ (10 ∷ []))
line_written before o1 o2 out m w n k x e f g = rw (g, f, e) (simp append_assoc)

pub returns : goal.returns
returns c =
    on_ok_weaker c.put_enclosed.result
    (line_written c.args.out.now.items c.put_margin.new.out.items c.put_between.new.out.items c.put_enclosed.new.out.items (margin c.args.depth) c.args.word.now c.args.name.now.bytes c.args.mark.now (expression_text (plain c.args.x.now))
    c.in_ok-put_margin.ensures (rw (c.as_bytes.ensures.value, c.as_str.ensures.value) at c.in_ok-put_between.ensures)) c.put_enclosed.ensures
