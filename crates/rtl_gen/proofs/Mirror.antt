-- The plan's machine mirrors the controller of the march.
use Rattle.std.proofs.Common.{◌≡◌, ℕ, zero, suc, ◌-◌, ◌^◌, ◌<◌, ◌==◌, Bool, true, false, cond, if◌then◌else◌, not, ◌&&◌, nat_eq, List, [], ◌∷◌, length, map, replicate, refl, ap, ◌∙◌, arith}
use Rattle.std.specs.Prelude.{slice_index_or, slice_index, bit_xor}
use Rattle.std.proofs.lemmas.List.{length-map}
use Rattle.march_core.specs.declared.operation.Order.TheVariants.{Up, Down, Any}
use Rattle.march_core.specs.declared.operation.Op.{Op}
use Rattle.march_core.specs.declared.operation.Op.TheVariants.{R0}
use Rattle.march_core.specs.March.{MarchElement, pause, sweep, order_of, ops_of, is_pause, is_pause_at}
use Rattle.march_core.specs.March as A
use Rattle.backgrounds.specs.Backgrounds.{word_of}
use Rattle.memory_desc.specs.Descriptions.{Description}
use Rattle.march_core.specs.Runs.{upward, is_write, data_value}
use Rattle.controller.specs.declared.stage.Stage.{Stage}
use Rattle.microcode.specs.Code.{opers_of, opers_at}
use Rattle.microcode.specs.Places.{Place, Lasts, first_place, place_after, all_last, index_in}
use Rattle.controller.specs.Places as P
use Rattle.controller.specs.inner.Places as PInner
use Rattle.controller.specs.Machine as M
use Rattle.rtl_layout.specs.Plan.{Plan, limit, port_word}
use Rattle.rtl_layout.specs.Control.{nothing, idle, element_at, operation_at, here, operation, is_live, now, turned, all, younger, oldest, quiet, start, step, word_at, background_at, index_at, ends_oper, ends_visit, ends_element, ends_back}
use Rattle.rtl_layout.specs.Control as C
use Rattle.rtl_gen.specs.inner.Planned.{operation_of, element_of, Plans}

-- ---- a state of the plan's machine as one of the controller

abbrev pub stage : C.Stage → Stage
stage s = record { reads = s.reads; over = s.over; value = s.value; back = s.back }

abbrev pub place : C.Control → Place
place c = record { back = c.back; element = c.element; visit = c.visit; oper = c.oper }

abbrev pub seen : C.Control → M.Control
seen c = record { place = place c; run = c.run; stages = map stage c.stages; reads = c.reads; over = c.over; want = c.want; bad = c.bad }

-- ---- elements and operations

element_in : (xs : List MarchElement) (k : ℕ) → k < length xs → slice_index_or (map element_of xs) k nothing ≡ element_of (A.element_at xs k)
element_in [] k h = absurd (omega arith)
element_in (x ∷ xs) zero h = refl
element_in (x ∷ xs) (suc k) h = element_in xs k (omega arith)

operation_in : (ops : List Op) (o : ℕ) → slice_index_or (map operation_of ops) o idle ≡ operation_of (slice_index_or ops o R0)
operation_in [] o = refl
operation_in (x ∷ ops) zero = refl
operation_in (x ∷ ops) (suc o) = operation_in ops o

operations_of : (x : MarchElement) (o : ℕ) → slice_index_or (element_of x).operations o idle ≡ operation_of (slice_index_or (ops_of x) o R0)
operations_of pause zero = refl
operations_of pause (suc o) = refl
operations_of (sweep order ops) o = operation_in ops o

count_of : (x : MarchElement) → length (element_of x).operations ≡ opers_of x
count_of pause = refl
count_of (sweep order ops) = length-map ops operation_of

pause_of : (x : MarchElement) → (element_of x).pause ≡ is_pause x
pause_of pause = refl
pause_of (sweep order ops) = refl

visits_of : (x : MarchElement) (a b : ℕ) (d : Description) → (is_pause x ≡ true → a ≡ d.pause) → b ≡ d.words → cond (element_of x).pause a b ≡ PInner.visits_of d x
visits_of pause a b d h e = h refl
visits_of (sweep order ops) a b d h e = e

index_of : (x : MarchElement) (words k : ℕ) → cond (element_of x).down (words - 1 - k) k ≡ index_in (upward (order_of x)) words k
index_of pause words k = refl
index_of (sweep Up ops) words k = refl
index_of (sweep Down ops) words k = refl
index_of (sweep Any ops) words k = refl

is_pause_in : (march : List MarchElement) (k : ℕ) → k < length march → is_pause_at march k ≡ is_pause (A.element_at march k)
is_pause_in [] k h = absurd (omega arith)
is_pause_in (x ∷ march) zero h = refl
is_pause_in (x ∷ march) (suc k) h = is_pause_in march k (omega arith)

-- ---- tests

only_if : (t r : Bool) → cond t false r ≡ (r && not t)
only_if true true = refl
only_if true false = refl
only_if false true = refl
only_if false false = refl

compared : (reads same bad : Bool) → cond (all (reads ∷ not same ∷ [])) true bad ≡ M.compared reads same bad
compared false same bad = refl
compared true true bad = refl
compared true false bad = refl

ends : (run a b c d : Bool) → cond (all (run ∷ a ∷ b ∷ c ∷ d ∷ [])) false run ≡ (run && not (a && (b && (c && d))))
ends false a b c d = refl
ends true false b c d = refl
ends true true false c d = refl
ends true true true false d = refl
ends true true true true false = refl
ends true true true true true = refl

places : (run : Bool) (l : Lasts) (b e v o : ℕ)
    → (record { back = cond (all (run ∷ l.oper ∷ l.visit ∷ l.element ∷ [])) (turned l.back b) b; element = cond (all (run ∷ l.oper ∷ l.visit ∷ [])) (turned l.element e) e; visit = cond (all (run ∷ l.oper ∷ [])) (turned l.visit v) v; oper = cond (all (run ∷ [])) (turned l.oper o) o }) ≡ (if run then place_after l (record { back = b; element = e; visit = v; oper = o }) else (record { back = b; element = e; visit = v; oper = o }))
places run l b e v o = by run l.oper l.visit l.element l.back
  where
    by : (run t u w x : Bool)
        → (record { back = cond (all (run ∷ t ∷ u ∷ w ∷ [])) (turned x b) b; element = cond (all (run ∷ t ∷ u ∷ [])) (turned w e) e; visit = cond (all (run ∷ t ∷ [])) (turned u v) v; oper = cond (all (run ∷ [])) (turned t o) o }) ≡ (if run then place_after (record { oper = t; visit = u; element = w; back = x }) (record { back = b; element = e; visit = v; oper = o }) else (record { back = b; element = e; visit = v; oper = o }))
    by false t u w x = refl
    by true false u w x = refl
    by true true false w x = refl
    by true true true false x = refl
    by true true true true x = refl

-- ---- stages

stages_in : (s : C.Stage) (ss : List C.Stage) → map stage (younger s ss) ≡ M.pushed (stage s) (map stage ss)
stages_in s [] = refl
stages_in s (t ∷ ss) = ap (λ l. stage s ∷ l) (stages_in t ss)

last_in : (s : C.Stage) (ss : List C.Stage) → stage (oldest s ss) ≡ M.last_stage (stage s) (map stage ss)
last_in s [] = refl
last_in s (t ∷ ss) = last_in t ss

quiet_in : (n : ℕ) → map stage (quiet n) ≡ replicate n M.blank
quiet_in zero = refl
quiet_in (suc n) = ap (λ l. M.blank ∷ l) (quiet_in n)

-- ---- the machine

module _ (march : List MarchElement) (d : Description) (p : Plan) (pl : Plans march d p) where
  pub starts_seen : seen (start p) ≡ M.reset d
  starts_seen =
      let same : p.delay ≡ d.latency - 1 = let e = pl.latency in omega arith in
      let blank : map stage (quiet p.delay) ≡ replicate (d.latency - 1) M.blank = quiet_in p.delay ∙ ap (λ n. replicate n M.blank) same in
      λ j. record { place = first_place; run = true; stages = blank j; reads = false; over = false; want = 0; bad = false }

  word_in : (value : Bool) (b : ℕ) → port_word p value b ≡ bit_xor (word_of b value d.bits) d.polarity
  word_in value b = ap (λ n. bit_xor (cond value (2 ^ n - 1 - b) b) p.polarity) pl.bits ∙ ap (λ n. bit_xor (cond value (2 ^ d.bits - 1 - b) b) n) pl.polarity ∙ ap (λ n. bit_xor n d.polarity) (side value)
    where
      side : (value : Bool) → cond value (2 ^ d.bits - 1 - b) b ≡ word_of b value d.bits
      side true = refl
      side false = refl

  pub word_seen : (b : ℕ) (value : Bool) → word_at p b value ≡ P.word_at d b value
  word_seen b value = ap (λ l. port_word p value (slice_index_or l b 0)) pl.backgrounds ∙ word_in value (slice_index d.backgrounds b)

  module _ (c : C.Control) (at : c.element < length march) where
    abbrev x : MarchElement
    x = A.element_at march c.element

    abbrev op : Op
    op = P.op_at march c.element c.oper

    pub here_seen : here p c ≡ element_of x
    here_seen = ap (λ l. slice_index_or l c.element nothing) pl.elements ∙ element_in march c.element at

    pub operation_seen : operation p c ≡ operation_of op
    operation_seen = ap (λ y. slice_index_or y.operations c.oper idle) here_seen ∙ operations_of x c.oper

    pub live_seen : is_live p c ≡ M.live march (seen c)
    live_seen = ap (λ y. cond y.pause false c.run) here_seen ∙ ap (λ t. cond t false c.run) (pause_of x) ∙ only_if (is_pause x) c.run

    paused : is_pause x ≡ true → p.pause ≡ d.pause
    paused h = pl.pauses c.element at (is_pause_in march c.element at ∙ h)

    limit_seen : limit p (here p c) ≡ PInner.visits_at march d c.element
    limit_seen = ap (limit p) here_seen ∙ visits_of x p.pause p.words d paused pl.words

    pub index_seen : index_at p (here p c) c.visit ≡ P.index_at march d c.element c.visit
    index_seen = ap (λ y. index_at p y c.visit) here_seen ∙ ap (λ n. cond (element_of x).down (n - 1 - c.visit) c.visit) pl.words ∙ index_of x d.words c.visit

    now_seen : stage (now p c) ≡ M.stage_of march (seen c)
    now_seen =
        let reads : cond (operation p c).write false (is_live p c) ≡ (M.live march (seen c) && not (is_write op)) =
        ap (λ o. cond o.write false (is_live p c)) operation_seen ∙ ap (λ l. cond (is_write op) false l) live_seen ∙ only_if (is_write op) (M.live march (seen c)) in
        let value : (operation p c).bit ≡ data_value op = ap (λ o. o.bit) operation_seen in
        λ j. record { reads = reads j; over = not c.run; value = value j; back = c.back }

    abbrev lasts : Lasts
    lasts = record { oper = ends_oper p c; visit = ends_visit p c; element = ends_element p c; back = ends_back p c }

    lasts_seen : lasts ≡ PInner.lasts_at march d (place c)
    lasts_seen =
        let oper : ends_oper p c ≡ (c.oper == opers_at march c.element - 1) = ap (λ y. nat_eq c.oper (length y.operations - 1)) here_seen ∙ ap (λ n. nat_eq c.oper (n - 1)) (count_of x) in
        let visit : ends_visit p c ≡ (c.visit == PInner.visits_at march d c.element - 1) = ap (λ n. nat_eq c.visit (n - 1)) limit_seen in
        let element : ends_element p c ≡ (c.element == length march - 1) = ap (λ l. nat_eq c.element (length l - 1)) pl.elements ∙ ap (λ n. nat_eq c.element (n - 1)) (length-map march element_of) in
        let back : ends_back p c ≡ (c.back == length d.backgrounds - 1) = ap (λ l. nat_eq c.back (length l - 1)) pl.backgrounds in
        λ j. record { oper = oper j; visit = visit j; element = element j; back = back j }

    oldest_seen : stage (oldest (now p c) c.stages) ≡ M.last_stage (M.stage_of march (seen c)) (map stage c.stages)
    oldest_seen = last_in (now p c) c.stages ∙ ap (λ s. M.last_stage s (map stage c.stages)) now_seen

    pub step_seen : (word : ℕ) → seen (step p word c) ≡ M.step march d word (seen c)
    step_seen word =
        let there = places c.run lasts c.back c.element c.visit c.oper ∙ ap (λ l. if c.run then place_after l (place c) else place c) lasts_seen in
        let run = ends c.run (ends_oper p c) (ends_visit p c) (ends_element p c) (ends_back p c) ∙ ap (λ (l : Lasts). c.run && not (all_last l)) lasts_seen in
        let stages = stages_in (now p c) c.stages ∙ ap (λ s. M.pushed s (map stage c.stages)) now_seen in
        let reads = ap (λ (s : Stage). s.reads) oldest_seen in
        let over = ap (λ (s : Stage). s.over) oldest_seen in
        let want = word_seen (oldest (now p c) c.stages).back (oldest (now p c) c.stages).value ∙ ap (λ (s : Stage). P.word_at d s.back s.value) oldest_seen in
        let bad = compared c.reads (nat_eq word c.want) c.bad in
        λ j. record { place = there j; run = run j; stages = stages j; reads = reads j; over = over j; want = want j; bad = bad j }
