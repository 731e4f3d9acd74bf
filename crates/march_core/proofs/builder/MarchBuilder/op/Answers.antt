use Rattle.std.proofs.Common.{ap, ◌∙◌, refl, true, length, ◌<◌}
use Rattle.march_core.specs.Building.{last_ops}
use Rattle.march_core.proofs.Built.{sweep_is_some, room_left, taken_room, built_after}
use Rattle.march_core.proofs.builder.MarchBuilder.op.Goals as goal

pub push_to_last-requires-clause-room : goal.push_to_last-requires-clause-room
push_to_last-requires-clause-room c =
    let some : 0 < length c.self.inside.elements.items = sweep_is_some c.self.inside.elements.items (rw c.self.view_is c.requires) in
    room_left c.self.inside.elements.items c.as_mut_slice.result.now c.last_len.result c.self.invariant.each
    c.as_mut_slice.ensures.value some (c.last_len.ensures ∙ ap (λ l. length (last_ops l)) c.as_slice.ensures.value)
    c.if-last_len-eq16.false

pub invariant_of-self : goal.invariant_of-self
invariant_of-self c =
    let some : 0 < length c.self.inside.elements.items = sweep_is_some c.self.inside.elements.items (rw c.self.view_is c.requires) in
    let room : length (last_ops c.as_mut_slice.result.now) < 16 =
    room_left c.self.inside.elements.items c.as_mut_slice.result.now c.last_len.result c.self.invariant.each
    c.as_mut_slice.ensures.value some (c.last_len.ensures ∙ ap (λ l. length (last_ops l)) c.as_slice.ensures.value)
    c.if-last_len-eq16.false in
    built_after c.self.inside.elements.items c.as_mut_slice.result.now c.push_to_last.new.elements c.self.inside.total c.args.op
    c.self.invariant some room c.if-self-eq256.false c.as_mut_slice.ensures.value c.push_to_last.ensures

pub returns-clause-variant : goal.returns-clause-variant
returns-clause-variant c =
    let some : 0 < length c.self.inside.elements.items = sweep_is_some c.self.inside.elements.items (rw c.self.view_is c.requires) in
    let room : length (last_ops c.as_mut_slice.result.now) < 16 =
    room_left c.self.inside.elements.items c.as_mut_slice.result.now c.last_len.result c.self.invariant.each
    c.as_mut_slice.ensures.value some (c.last_len.ensures ∙ ap (λ l. length (last_ops l)) c.as_slice.ensures.value)
    c.if-last_len-eq16.false in
    taken_room c.self.inside.elements.items c.as_mut_slice.result.now c.args.self.now c.self.inside.total true refl c.self.invariant
    c.self.view_is c.as_mut_slice.ensures.value room c.if-self-eq256.false
