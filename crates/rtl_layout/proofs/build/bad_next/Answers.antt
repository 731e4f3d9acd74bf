use Rattle.std.proofs.Common.{◌≡◌, ◌+◌, suc, codes, ap, ◌∙◌, arith, lit≤}
use Rattle.verilog_tree.specs.Plain.{Net}
use Rattle.rtl_layout.specs.Layout as L
use Rattle.rtl_layout.proofs.Built.{told, chosen, joined}
use Rattle.rtl_layout.proofs.Joined.{next_age}
use Rattle.rtl_layout.proofs.build.bad_next.Goals as goal

pub returns : goal.returns
returns c =
    let up : c.args.delay + 1 ≡ suc c.args.delay = omega arith in
    told c.gate.result _ _
    (ap L.gated
    (c.in_ok-bad.ensures
    ∙ chosen _ _ _ _ _ _ (c.net-reads.ensures ∙ ap Net (c.aged.ensures ∙ ap (L.aged (codes "reads")) up))
    (c.in_ok-compared.ensures
    ∙ chosen _ _ _ _ _ _
    (c.in_ok-differs.ensures ∙ joined _ _ _ _ _ (c.net.ensures ∙ ap Net c.name.ensures) (c.net-2.ensures ∙ ap Net c.name-2.ensures)) c.flag.ensures
    (c.net-3.ensures ∙ ap Net c.name-3.ensures))
    (c.net-4.ensures ∙ ap Net c.name-4.ensures)))
    c.gate.ensures

pub name-requires : goal.name-requires
name-requires c = lit≤ tt

pub name-requires-2 : goal.name-requires-2
name-requires-2 c = lit≤ tt

pub name-requires-3 : goal.name-requires-3
name-requires-3 c = lit≤ tt

pub name-requires-4 : goal.name-requires-4
name-requires-4 c = lit≤ tt

pub overflow_add-delay : goal.overflow_add-delay
overflow_add-delay c = (next_age _ c.requires).2

pub aged-requires-clause-few : goal.aged-requires-clause-few
aged-requires-clause-few c = (next_age _ c.requires).0
