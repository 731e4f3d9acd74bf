use Rattle.std.proofs.Common.{◌≡◌, List, ◌∷◌, map, codes, refl, ap, ap₂, ◌∙◌}
use Rattle.chip_rtl.specs.Tops.{link}
use Rattle.chip_rtl.specs.TopSeen.{plain_link}
use Rattle.chip_rtl.proofs.placing.links.Goals as goal

also : {X : Type 0} {x y : X} {xs ys : List X} → x ≡ y → xs ≡ ys → x ∷ xs ≡ y ∷ ys
also e h = ap₂ (λ z zs. z ∷ zs) e h

pub returns : goal.returns
returns c =
    ap (map plain_link) c.in_ok-from_array.ensures.items
    ∙ also (c.link.ensures ∙ ap (link (codes "clk")) c.name.ensures)
    (also (c.link-2.ensures ∙ ap (link (codes "reset")) c.reset_net.ensures)
    (also (c.link-3.ensures ∙ ap (link (codes "rdata")) c.numbered.ensures)
    (also (c.link-4.ensures ∙ ap (link (codes "en")) c.numbered-2.ensures)
    (also (c.link-5.ensures ∙ ap (link (codes "we")) c.numbered-3.ensures)
    (also (c.link-6.ensures ∙ ap (link (codes "addr")) c.numbered-4.ensures)
    (also (c.link-7.ensures ∙ ap (link (codes "wdata")) c.numbered-5.ensures)
    (also (c.link-8.ensures ∙ ap (link (codes "done")) c.numbered-6.ensures)
    (also (c.link-9.ensures ∙ ap (link (codes "fail")) c.numbered-7.ensures) refl))))))))
