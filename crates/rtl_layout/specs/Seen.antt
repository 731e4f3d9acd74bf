-- Public. A plan as contracts see it: vectors are lists, and a name is its bytes.
use Rattle.rtl_layout.specs.declared.plan.Plan.{Plan as Tables}
use Rattle.rtl_layout.specs.Plan.{Plan}

abbrev pub seen : Tables → Plan
seen p = record {
  name = p.name.bytes;
  elements = p.elements.items;
  words = p.words;
  bits = p.bits;
  backgrounds = p.backgrounds.items;
  straight = p.straight;
  rows = p.rows.items;
  delay = p.delay;
  polarity = p.polarity;
  pause = p.pause;
  addr_width = p.addr_width;
  visit_width = p.visit_width;
  element_width = p.element_width;
  oper_width = p.oper_width;
  back_width = p.back_width;
}
