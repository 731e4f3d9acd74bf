-- Linked primitives do what one of the two does alone.
use Rattle.std.proofs.Common.{◌≡◌, not, ◌&&◌, ℕ, Bool, true, false, Option, List, ap, sym, ◌∙◌}
use Rattle.std.specs.Prelude.{if◌then◌else◌, slice_set}
use Rattle.fault_core.specs.declared.primitive.Act.{Act}
use Rattle.fault_core.specs.declared.cells.Places.{Places}
use Rattle.fault_core.specs.Primitive.{Primitive}
use Rattle.fault_core.specs.Cells.{has_act, states_hold, close_of, acts, acted, plain_cells, plain_answer, answer_or, step_cells, step_answer, pause_cells}
use Rattle.linked_faults.specs.declared.link.Link.{Link}
use Rattle.linked_faults.specs.declared.link.LinkPlaces.{LinkPlaces}
use Rattle.linked_faults.specs.Linking.{IsLinked, first_places, second_places, linked_cells, linked_answer, linked_pause}
use Rattle.linked_faults.specs.Alone.{DoesAs, PausesAs, loses, AreAsOne}

-- a primitive with an act closes nothing
never_closes : (p : Primitive) (places : Places) (cells : List Bool) → has_act p ≡ true → close_of p places cells ≡ cells
unfolding close_of
never_closes p places cells h = ap (λ (b : Bool). if not b && states_hold p places cells then slice_set cells places.vic p.after else cells) h

module _ (link : Link) (is : IsLinked link) (at : LinkPlaces) (cells : List Bool) where
  abbrev one : Places
  one = first_places link at

  abbrev other : Places
  other = second_places link at

  does_first : (x : ℕ) (act : Act) → acts link.first one cells x act ≡ true → DoesAs link.first one link at cells x act
  unfolding linked_cells linked_answer step_cells step_answer
  does_first x act own =
      let plain : List Bool = plain_cells cells x act in
      let rest : List Bool = if acts link.second other cells x act then slice_set plain at.v link.second.after else plain in
      let shown : Option Bool = plain_answer cells x act in
      let rest_shown : Option Bool = if acts link.second other cells x act then answer_or link.second.answer shown else shown in (
        ap (λ (b : Bool). if b then slice_set plain at.v link.first.after else rest) own
            ∙ sym (never_closes link.first one (acted link.first one cells x act) is.first_acts
            ∙ ap (λ (b : Bool). if b then slice_set plain at.v link.first.after else plain) own),
        ap (λ (b : Bool). if b then answer_or link.first.answer shown else rest_shown) own
            ∙ sym (ap (λ (b : Bool). if b then answer_or link.first.answer shown else shown) own),
      )

  does_second : (x : ℕ) (act : Act) → acts link.first one cells x act ≡ false → DoesAs link.second other link at cells x act
  unfolding linked_cells linked_answer step_cells step_answer
  does_second x act off =
      let plain : List Bool = plain_cells cells x act in
      let rest : List Bool = if acts link.second other cells x act then slice_set plain at.v link.second.after else plain in
      let shown : Option Bool = plain_answer cells x act in
      let rest_shown : Option Bool = if acts link.second other cells x act then answer_or link.second.answer shown else shown in (
        ap (λ (b : Bool). if b then slice_set plain at.v link.first.after else rest) off
            ∙ sym (never_closes link.second other (acted link.second other cells x act) is.second_acts),
        ap (λ (b : Bool). if b then answer_or link.first.answer shown else rest_shown) off,
      )

  pauses_first : loses link.first one cells ≡ true → PausesAs link.first one link at cells
  unfolding linked_pause pause_cells
  pauses_first own =
      let rest : List Bool = if loses link.second other cells then slice_set cells at.v link.second.after else cells in
      let behind : List Bool = if loses link.first one cells then slice_set cells at.v link.first.after else cells in
      ap (λ (b : Bool). if b then slice_set cells at.v link.first.after else rest) own
      ∙ sym (never_closes link.first one behind is.first_acts ∙ ap (λ (b : Bool). if b then slice_set cells at.v link.first.after else cells) own)

  pauses_second : loses link.first one cells ≡ false → PausesAs link.second other link at cells
  unfolding linked_pause pause_cells
  pauses_second off =
      let rest : List Bool = if loses link.second other cells then slice_set cells at.v link.second.after else cells in
      ap (λ (b : Bool). if b then slice_set cells at.v link.first.after else rest) off
      ∙ sym (never_closes link.second other rest is.second_acts)

pub as_one : (link : Link) → IsLinked link → AreAsOne link
as_one link is = record {
  first = does_first link is;
  second = does_second link is;
  first_pause = pauses_first link is;
  second_pause = pauses_second link is;
}
