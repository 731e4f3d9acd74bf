use Rattle.std.proofs.Common.{◌≡◌, ◌<◌, ◌≤◌, ◌-◌, ◌∙◌, ℕ, List, Some, None, Ok, Err, length, replicate, refl, ap, arith}
use Rattle.std.proofs.Math.ListN.{length-replicate}
use Rattle.std.specs.Prelude.{Result}
use Rattle.word_device.specs.declared.device.DeviceFault.{DeviceFault}
use Rattle.word_device.specs.declared.shape.Shape.{Shape}
use Rattle.word_device.specs.declared.way_back.WayBack.{WayBack}
use Rattle.word_device.specs.Boxes.{ArrayState, Told, IsShape, IsArray, TellsChip, blank}
use Rattle.word_device.specs.WayBack.{IsWayBack, LeadsBack}
use Rattle.word_device.proofs.array.ArrayDeviceDevice.fit.Goals as goal

-- zeros for the words of a shape, and no answers: a chip of it
fitted : (shape : Shape) (way : WayBack) (words pending : List ℕ) → IsShape shape → IsWayBack shape.scramble way → words ≡ replicate shape.words 0
    → pending ≡ replicate (shape.latency - 1) 0
    → LeadsBack (Some shape) way × IsArray (Some shape) (record { words = words; planted = None; pending = pending; idle = 0 })
fitted shape way words pending is leads zeros none =
    let some = is.latency_low in
    let long : length pending ≡ shape.latency - 1 = ap length none ∙ length-replicate (shape.latency - 1) 0 in
    (leads, (is, record { words = ap length zeros ∙ length-replicate shape.words 0; planted = tt; pending = omega arith; idle = omega arith }))

told : (s : ArrayState) (room : ℕ) (inner shape : Shape) (words pending : List ℕ) → room ≡ s.room → inner ≡ shape → words ≡ replicate shape.words 0
    → pending ≡ replicate (shape.latency - 1) 0
    → ◌≡◌ {A = Told}
    (record { room = room; shape = Some inner; tells = TellsChip (record { words = words; planted = None; pending = pending; idle = 0 }) })
    (record { room = s.room; shape = Some shape; tells = TellsChip (blank shape) })
told s room inner shape words pending same is zeros none = cc

-- there is room, so the answer is not that there is none
has_room : (room inside words : ℕ) (r : Result (Unit {0}) DeviceFault) → (r ≡ Err DeviceFault.TooBig → ⊥) → inside ≡ room → words ≤ inside
    → (r ≡ Err DeviceFault.TooBig → room < words) × (room < words → r ≡ Err DeviceFault.TooBig)
has_room room inside words r never same less = (λ is. absurd (never is), λ more. let wrong : ⊥ = omega arith in absurd wrong)

pub returns-then-shape-self-clause-too_big : goal.returns-then-shape-self-clause-too_big
returns-then-shape-self-clause-too_big c = let room = ap (λ (s : ArrayState). s.room) c.self.view_is in (λ _. rw room at c.if-shape-self.true, λ _. refl)

pub invariant_of-self : goal.invariant_of-self
invariant_of-self c = rw c.duplicate.ensures (
    fitted c.args.shape.now c.of-self-inside.result c.in-Ok.words.items c.no_answers-self-inside.result.items c.requires c.of-self-inside.ensures
    (c.in-Ok.ensures.items_if_clones_equal (λ y same. same)) c.no_answers-self-inside.ensures)

pub returns-in-Ok-clause-ok : goal.returns-in-Ok-clause-ok
returns-in-Ok-clause-ok c =
    told c.args.self.now c.self.inside.room c.duplicate.result c.args.shape.now c.in-Ok.words.items c.no_answers-self-inside.result.items
    (ap (λ (s : ArrayState). s.room) c.self.view_is) c.duplicate.ensures (c.in-Ok.ensures.items_if_clones_equal (λ y same. same)) c.no_answers-self-inside.ensures

not_ok : (let r : Result (Unit {0}) DeviceFault = Ok tt in r) ≡ Err DeviceFault.TooBig → ⊥
not_ok is = cc

pub returns-in-Ok-clause-too_big : goal.returns-in-Ok-clause-too_big
returns-in-Ok-clause-too_big c =
    has_room c.args.self.now.room c.self.inside.room c.args.shape.now.words (Ok tt) not_ok (ap (λ (s : ArrayState). s.room) c.self.view_is) c.if-shape-self.false

not_big : (let r : Result (Unit {0}) DeviceFault = Err DeviceFault.NoMemory in r) ≡ Err DeviceFault.TooBig → ⊥
not_big is = cc

pub returns-in-Err-clause-too_big : goal.returns-in-Err-clause-too_big
returns-in-Err-clause-too_big c =
    has_room c.args.self.now.room c.self.inside.room c.args.shape.now.words (Err DeviceFault.NoMemory) not_big (ap (λ (s : ArrayState). s.room) c.self.view_is)
    c.if-shape-self.false
