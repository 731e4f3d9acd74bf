use Rattle.std.proofs.Common.{◌≡◌, ◌∙◌, Err, Ok, Result, ℕ, ◌+◌, ◌<◌, ◌≤◌, Bool, List, ◌++◌, length, take, append-nil, [], Option, Some, None, if◌then◌else◌, refl, sym, ap, subst, arith, length-append}
use Rattle.std.specs.Io.KnownBytes.{Consumes, IsAtEnd, ReadConsumes}
use Rattle.std.specs.Option.{IfSome}
use Rattle.std.proofs.KnownBytes.{Consumes-kept, Consumes-trans}
use Rattle.std.proofs.lemmas.List.{length-take-le}
use Rattle.bist_host.specs.declared.host.HostFault.TheVariants.{NoMemory, ReadFailed, TooLarge}
use Rattle.bist_host.proofs.real_host.read_whole.Goals as goal
use Rattle.bist_host.proofs.real_host.read_whole.Goals.{then-count-limit-via-then-count-limit, then-count-limit-via-else-count-limit+then-len-limit}

-- a read gave no byte
at_end : {E : Type 0} (old mid new : Option (List ℕ)) (bs buf : List ℕ) (r : Result ℕ E) → r ≡ Ok 0 → Consumes old mid bs → ReadConsumes mid new r buf → Consumes old new bs
at_end old mid new bs buf r e p q =
    let none = subst (λ r. ReadConsumes mid new r buf) e q in
    subst (Consumes old new) (append-nil bs) (Consumes-trans old mid new bs [] p none.0)

ends : {E : Type 0} (mid new : Option (List ℕ)) (buf : List ℕ) (r : Result ℕ E) → r ≡ Ok 0 → 0 < length buf → ReadConsumes mid new r buf → IsAtEnd new
ends mid new buf r e l q = (subst (λ r. ReadConsumes mid new r buf) e q).1 refl l

-- bytes beyond the limit are read
beyond : (old new : Option (List ℕ)) (bs buf : List ℕ) (n limit : ℕ) → Consumes old new (bs ++ take n buf) → n ≤ length buf → limit < length bs + n → IfSome old (λ all. limit < length all)
beyond None new bs buf n limit p h l = tt
beyond (Some x) None bs buf n limit p h l = absurd p
beyond (Some x) (Some y) bs buf n limit p h l =
    omega (arith, ap length p, length-append (bs ++ take n buf) y, length-append bs (take n buf), length-take-le n buf h)

-- what a read returns is told apart from a refusal for its size
read_is : {T E : Type 0} (X : Type 0) (t : T) (e : E) → Ok t ≡ Err e → X
read_is X t e h = (let z : ⊥ = cc in absurd z)

other_is : {T E : Type 0} (X : Type 0) (e f : E) → (e ≡ f → ⊥) → ◌≡◌ {A = Result T E} (Err e) (Err f) → X
other_is X e f n h = (let same : e ≡ f = cc in absurd (n same))

pub returns-then-count-limit-clause-too_large : goal.returns-then-count-limit-clause-too_large
returns-then-count-limit-clause-too_large g c =
    let more : c.args.limit < length c.loop.bytes.items + c.in-Ok.count = elim c.then-count-limit.branch [
      | then-count-limit-via-then-count-limit w ↦ omega (arith, w.if-count-limit.true)
      | then-count-limit-via-else-count-limit+then-len-limit w ↦ omega (arith, w.if-len-limit.true, w.len.ensures)
    ] in
    λ _. beyond _ (g.F.Read.remaining c.read.new.self) c.loop.bytes.items c.read.new.buf c.in-Ok.count c.args.limit
    (Consumes-trans _ (g.F.Read.remaining c.loop.file) _ _ _ c.loop.invariant.1 c.in-Ok.ensures.bytes.0) c.in-Ok.ensures.bound.0 more

pub loop-preserved : goal.loop-preserved
loop-preserved g c =
    let grown = c.extend_from_slice.ensures.items ∙ ap (λ (q : Bool). if q then c.loop.bytes.items ++ take c.in-Ok.count c.read.new.buf else c.loop.bytes.items) c.if-is_err.ensures.negation in (
      omega (arith, ap length grown, length-append c.loop.bytes.items (take c.in-Ok.count c.read.new.buf), length-take-le c.in-Ok.count c.read.new.buf c.in-Ok.ensures.bound.0, c.len.ensures, c.if-len-limit.false, c.if-count-limit.false),
      subst (Consumes (g.F.Read.remaining c.args.file.now) (g.F.Read.remaining c.read.new.self)) (sym grown)
          (Consumes-trans _ (g.F.Read.remaining c.loop.file) _ _ _ c.loop.invariant.1 c.in-Ok.ensures.bytes.0),
    )

pub returns-in-Ok-eq0-clause-bytes : goal.returns-in-Ok-eq0-clause-bytes
returns-in-Ok-eq0-clause-bytes g c =
    at_end _ (g.F.Read.remaining c.loop.file) (g.F.Read.remaining c.read.new.self) c.loop.bytes.items c.read.new.buf c.read.result (c.in-Ok-eq0.is ∙ ap Ok c.in-Ok-eq0.field-0-test)
    c.loop.invariant.1 c.read.ensures.bytes

pub loop-preserved-in-Err : goal.loop-preserved-in-Err
loop-preserved-in-Err g c = (c.loop.invariant.0, Consumes-kept _ (g.F.Read.remaining c.loop.file) _ _ c.loop.invariant.1 c.in-Err.ensures.bytes)

pub returns-in-Ok-eq0-clause-too_large : goal.returns-in-Ok-eq0-clause-too_large
returns-in-Ok-eq0-clause-too_large g c = read_is _ c.loop.bytes TooLarge

pub returns-in-Err-2-clause-too_large : goal.returns-in-Err-2-clause-too_large
returns-in-Err-2-clause-too_large g c = other_is _ c.read_fault.result TooLarge c.read_fault.ensures.other

pub returns-then-is_err-clause-too_large : goal.returns-then-is_err-clause-too_large
returns-then-is_err-clause-too_large g c = other_is _ NoMemory TooLarge (λ e. cc)

pub returns-clause-too_large : goal.returns-clause-too_large
returns-clause-too_large g c = other_is _ ReadFailed TooLarge (λ e. cc)

pub returns-in-Ok-eq0-clause-end : goal.returns-in-Ok-eq0-clause-end
returns-in-Ok-eq0-clause-end g c =
    ends (g.F.Read.remaining c.loop.file) (g.F.Read.remaining c.read.new.self) c.read.new.buf c.read.result (c.in-Ok-eq0.is ∙ ap Ok c.in-Ok-eq0.field-0-test) (omega arith) c.read.ensures.bytes
