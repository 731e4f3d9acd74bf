use Rattle.std.proofs.Common.{◌≡◌, ◌∙◌, ℕ, List, Option, Some, None, ◌++◌, length, map, take, drop, sym, subst, ap}
use Rattle.std.specs.List.{range_with_len, length_refill}
use Rattle.std.proofs.lemmas.List.FromFn.{length-map-range_with_len}
use Rattle.word_device.specs.declared.device.Planted.{Planted}
use Rattle.word_device.specs.declared.shape.Shape.{Shape}
use Rattle.word_device.specs.declared.way_back.WayBack.{WayBack}
use Rattle.word_device.specs.Chips.{FitsMemory, closed_by}
use Rattle.word_device.specs.Ports.{Chip}
use Rattle.word_device.specs.Boxes.{ArrayState, Told, IsShape, IsChip, IsArray, FitsPlanted, TellsChip, pattern, filled, after_fill}
use Rattle.word_device.specs.WayBack.{LeadsBack}
use Rattle.word_device.proofs.Boxed.{whole, closed_whole, fits_wide}
use Rattle.word_device.proofs.array.ArrayDeviceDevice.fill.Goals as goal

unfilled : (s : ArrayState) (number : ℕ) → s.shape ≡ None
    → ◌≡◌ {A = Told} (record { room = s.room; shape = s.shape; tells = TellsChip s.chip })
    (record { room = s.room; shape = s.shape; tells = after_fill s.shape number (TellsChip s.chip) })
unfilled s number none = ap (λ (shape : Option Shape). record { room = s.room; shape = s.shape; tells = after_fill shape number (TellsChip s.chip) }) (sym none)

pub returns-in_default : goal.returns-in_default
returns-in_default c = unfilled c.args.self.now c.args.number (sym (ap (λ (s : ArrayState). s.shape) c.self.view_is) ∙ c.in_default.is)

shaped : (kept : Option Shape) (way : WayBack) (chip : Chip) (shape : Shape) → kept ≡ Some shape → LeadsBack kept way × IsArray kept chip
    → IsShape shape × IsChip shape chip
shaped kept way chip shape is inv = (subst (λ s. LeadsBack s way × IsArray s chip) is inv).1

pub fill_words-requires : goal.fill_words-requires
fill_words-requires c = let is = (shaped c.self.inside.shape c.self.inside.way _ c.in-Some.shape c.in-Some.is c.self.invariant).0 in (is.bits_low, is.bits_high)

inside : (shape : Shape) (chip : Chip) (i : Planted) (words : List ℕ) → IsShape shape × IsChip shape chip → chip.planted ≡ Some i → length words ≡ length chip.words
    → FitsMemory i (length words) 64
inside shape chip i words is planted same =
    fits_wide i shape.words shape.bits (length words) is.0.bits_high (same ∙ is.1.words) (subst (λ p. FitsPlanted p shape.words shape.bits) planted is.1.planted)

-- as many words as before, where they are written over
as_many : (n : ℕ) (new old : List ℕ) → n ≡ length old → length (take n (new ++ drop (length new) old)) ≡ length old
as_many n new old all = sym (length_refill n old new all) ∙ all

pub close-requires : goal.close-requires
close-requires c =
    inside c.in-Some.shape _ c.in-Some-planted.instance c.deref_mut-in-Some-planted.result.now
    (shaped c.self.inside.shape c.self.inside.way _ c.in-Some.shape c.in-Some.is c.self.invariant) c.in-Some-planted.is
    (ap length c.deref_mut-in-Some-planted.ensures.value ∙ as_many c.self.inside.words.len c.fill_words.new.words c.self.inside.words.items c.self.inside.words.ok.0)

rewritten : (shape : Option Shape) (way : WayBack) (chip : Chip) (words : List ℕ) → LeadsBack shape way × IsArray shape chip → length words ≡ length chip.words
    → LeadsBack shape way × IsArray shape (record chip { words = words })
rewritten None way chip words is same = is
rewritten (Some shape) way chip words is same =
    let old = is.1.1 in (is.0, (is.1.0, record { words = same ∙ old.words; planted = old.planted; pending = old.pending; idle = old.idle }))

pub invariant_of-self : goal.invariant_of-self
invariant_of-self c =
    let n = c.self.inside.words.len in
    let old = c.self.inside.words.items in
    let new = c.fill_words.new.words in
    let all = c.self.inside.words.ok.0 in
    rewritten c.self.inside.shape c.self.inside.way _ _ c.self.invariant
    (as_many n c.close.new.words (take n (new ++ drop (length new) old)) (length_refill n old new all) ∙ as_many n new old all)

pub invariant_of-self-in_default-planted : goal.invariant_of-self-in_default-planted
invariant_of-self-in_default-planted c =
    rewritten c.self.inside.shape c.self.inside.way _ _ c.self.invariant
    (as_many c.self.inside.words.len c.fill_words.new.words c.self.inside.words.items c.self.inside.words.ok.0)

-- the words are the content that the number stands for
content : (shape : Shape) (number n : ℕ) (lent new old : List ℕ) → length old ≡ shape.words → n ≡ length old → lent ≡ old
    → new ≡ map (pattern number shape.bits) (range_with_len 0 (length lent))
    → take n (new ++ drop (length new) old) ≡ filled number shape
content shape number n lent new old size all same is =
    let f = pattern number shape.bits in
    let now : new ≡ filled number shape = is ∙ ap (λ k. map f (range_with_len 0 k)) (ap length same ∙ size) in
    whole n new old all (ap length now ∙ length-map-range_with_len f 0 shape.words ∙ sym size) ∙ now

told : (view s : ArrayState) (shape : Shape) (number : ℕ) (words : List ℕ) → view ≡ s → view.shape ≡ Some shape
    → words ≡ closed_by view.chip.planted (filled number shape)
    → ◌≡◌ {A = Told} (record { room = view.room; shape = view.shape; tells = TellsChip (record view.chip { words = words }) })
    (record { room = s.room; shape = s.shape; tells = after_fill s.shape number (TellsChip s.chip) })
told view s shape number words same some is =
    ap (λ l. record { room = view.room; shape = view.shape; tells = TellsChip (record view.chip { words = l }) }) is
    ∙ ap (λ (o : Option Shape). record { room = view.room; shape = view.shape; tells = after_fill o number (TellsChip view.chip) }) (sym some)
    ∙ ap (λ (v : ArrayState). record { room = v.room; shape = v.shape; tells = after_fill v.shape number (TellsChip v.chip) }) same

pub returns-in_default-planted : goal.returns-in_default-planted
returns-in_default-planted c =
    let is = (shaped c.self.inside.shape c.self.inside.way _ c.in-Some.shape c.in-Some.is c.self.invariant).1 in
    told _ c.args.self.now c.in-Some.shape c.args.number _ c.self.view_is c.in-Some.is
    (content c.in-Some.shape c.args.number c.self.inside.words.len c.deref_mut.result.now c.fill_words.new.words c.self.inside.words.items is.words
    c.self.inside.words.ok.0 c.deref_mut.ensures.value c.fill_words.ensures
    ∙ ap (λ p. closed_by p (filled c.args.number c.in-Some.shape)) (sym c.in_default-planted.is))

pub returns-in-Some-planted : goal.returns-in-Some-planted
returns-in-Some-planted c =
    let n = c.self.inside.words.len in
    let old = c.self.inside.words.items in
    let new = c.fill_words.new.words in
    let all = c.self.inside.words.ok.0 in
    let is = (shaped c.self.inside.shape c.self.inside.way _ c.in-Some.shape c.in-Some.is c.self.invariant).1 in
    told _ c.args.self.now c.in-Some.shape c.args.number _ c.self.view_is c.in-Some.is
    (closed_whole n c.in-Some-planted.instance c.deref_mut-in-Some-planted.result.now c.close.new.words (take n (new ++ drop (length new) old))
    (length_refill n old new all) c.deref_mut-in-Some-planted.ensures.value c.close.ensures
    ∙ ap (closed_by (Some c.in-Some-planted.instance)) (content c.in-Some.shape c.args.number n c.deref_mut.result.now new old is.words all c.deref_mut.ensures.value c.fill_words.ensures)
    ∙ ap (λ p. closed_by p (filled c.args.number c.in-Some.shape)) (sym c.in-Some-planted.is))
