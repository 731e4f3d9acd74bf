-- The ports of a self-test carry the run of the march, and what the chip answers returns when the latency has passed.
use Rattle.std.proofs.Common.{◌≡◌, ◌+◌, ◌<◌, ◌≤◌, ◌^◌, ◌%◌, ℕ, zero, suc, Option, Some, None, List, [], ◌∷◌, ◌++◌, drop, length, map, refl, ap, sym, subst, ◌∙◌, arith, length-append}
use Rattle.std.specs.Prelude.{slice_get, slice_index}
use Rattle.std.specs.List.{range_with_len}
use Rattle.std.proofs.lemmas.List.{get_or_append_left, get_or-append-add}
use Rattle.std.proofs.lemmas.Option.{slice_get_within}
use Rattle.march_core.specs.March.{MarchElement}
use Rattle.memory_desc.specs.Descriptions.{Description}
use Rattle.word_march.specs.declared.operations.PortOp.{PortOp}
use Rattle.word_march.specs.Commands.{slots, command_count, command_at, span}
use Rattle.word_march.specs.PortRule.{PortValues, PortRule, Carries, cycle_of}
use Rattle.word_device.specs.declared.device.PortCmd.{PortCmd}
use Rattle.word_device.specs.declared.shape.Shape.{Shape}
use Rattle.word_device.specs.Ports.{Chip, shape_of, queued, own_answer, cycle_answer, own_answers}
use Rattle.word_device.specs.Runs.{run_slots, IsCommand, IsSlot, AreSlots, run_answers, run_word}
use Rattle.word_device.specs.Joint.{command_on, chip_at, Joined, returned_word, SameWords}
use Rattle.word_device.proofs.Cycles.{length-slots, stands, only, some_command, at_within}
use Rattle.word_device.proofs.Porting.{answers_of_slots}

-- ---- the ports carry the run

carried : (o : PortOp) (q : PortValues) → Carries o q → IsCommand o (command_on q)
carried o q c = record { enabled = c.enabled; write = c.write; address = c.address; word = c.word }

-- the ports in a cycle of the run
pub port_slot : (march : List MarchElement) (d : Description) (returned : ℕ → ℕ) (t : ℕ) (s : Option PortOp) (q : PortValues) → PortRule march d returned t q
    → slice_get (run_slots march d) t ≡ Some s → IsSlot s (command_on q)
port_slot march d returned zero s q rule at =
    let idle : ◌≡◌ {A = Option PortOp} None s = cc in
    subst (λ (x : Option PortOp). IsSlot x (command_on q)) idle (rule.reset refl).0
port_slot march d returned (suc k) (Some c) q rule at =
    let from = only march d k c at in
    let there : k ≡ command_at march d from.0 = from.2 in
    carried c q (rule.commands from.0 c from.1 (omega arith))
port_slot march d returned (suc k) None q rule at =
    rule.idle (λ j within is.
    let here : k ≡ command_at march d j = omega arith in
    not_both (slice_get (slots march d) k) at (stands_at j within here))
  where
    not_both : (x : Option (Option PortOp)) → x ≡ Some None → ((c : PortOp) × (x ≡ Some (Some c))) → ⊥
    not_both x e f = let g = f.1 in cc

    stands_at : (j : ℕ) → j < command_count march d → k ≡ command_at march d j → (c : PortOp) × (slice_get (slots march d) k ≡ Some (Some c))
    stands_at j within here =
        let c = some_command march d j within in
        (c.0, ap (slice_get (slots march d)) here ∙ stands march d j c.0 c.1)

pub slots_from : (ss : List (Option PortOp)) (f : ℕ → PortCmd) (a : ℕ) → ((t : ℕ) (s : Option PortOp) → slice_get ss t ≡ Some s → IsSlot s (f (a + t)))
    → AreSlots ss (map f (range_with_len a (length ss)))
slots_from [] f a each = tt
slots_from (s ∷ ss) f a each =
    let here : a + 0 ≡ a = omega arith in (
      subst (λ (k : ℕ). IsSlot s (f k)) here (each 0 s refl),
      slots_from ss f (a + 1) (λ t x e. let there : a + suc t ≡ a + 1 + t = omega arith in subst (λ (k : ℕ). IsSlot x (f k)) there (each (suc t) x e)),
    )

-- ---- the answers, cycle by cycle

module _ (shape : Shape) (chip : Chip) (q : ℕ → PortValues) where
  abbrev own_at : ℕ → ℕ
  own_at t = own_answer shape (chip_at shape chip q t) (command_on (q t))

  abbrev pending_at : ℕ → List ℕ
  pending_at t = (chip_at shape chip q t).pending

  abbrev commands_from : ℕ → ℕ → List PortCmd
  commands_from a n = map (λ t. command_on (q t)) (range_with_len a n)

  own_in : (n a t : ℕ) → t < n → slice_index (own_answers shape (chip_at shape chip q a) (commands_from a n)) t ≡ own_at (a + t)
  own_in zero a t within = absurd (omega arith)
  own_in (suc n) a zero within = let same : a ≡ a + 0 = omega arith in ap own_at same
  own_in (suc n) a (suc t) within =
      let next : suc a ≡ a + 1 = omega arith in
      let there : a + 1 + t ≡ a + suc t = omega arith in
      ap (λ b. slice_index (own_answers shape (chip_at shape chip q b) (commands_from (a + 1) n)) t) next
      ∙ own_in n (a + 1) t (omega arith) ∙ ap own_at there

  length-queue : (xs : List ℕ) (x : ℕ) → length (drop 1 (queued xs x)) ≡ length xs
  length-queue [] x = refl
  length-queue (y ∷ ys) x = let both = length-append ys (x ∷ []) in omega arith

  length-pending : (t : ℕ) → length (pending_at t) ≡ length chip.pending
  length-pending zero = refl
  length-pending (suc t) = length-queue (pending_at t) (own_at t) ∙ length-pending t

  -- an answer moves one place to the front in each cycle
  moved : (xs : List ℕ) (x y m : ℕ) → m < length xs → slice_index (queued (drop 1 (queued xs x)) y) m ≡ slice_index (queued xs x) (suc m)
  moved [] x y m within = absurd (omega arith)
  moved (z ∷ zs) x y m within =
      let both = length-append zs (x ∷ []) in
      get_or_append_left (zs ++ x ∷ []) (y ∷ []) 0 m (omega arith)

  waiting : (k m t : ℕ) → k + m ≡ length chip.pending → slice_index (queued (pending_at (t + k)) (own_at (t + k))) m ≡ own_at t
  waiting zero m t whole =
      let same : t + 0 ≡ t = omega arith in
      let size = length-pending t in
      let last : m ≡ length (pending_at t) + 0 = omega arith in
      ap (λ n. slice_index (queued (pending_at n) (own_at n)) m) same
      ∙ ap (slice_index (queued (pending_at t) (own_at t))) last
      ∙ get_or-append-add (pending_at t) (own_at t ∷ []) 0 0
  waiting (suc k) m t whole =
      let there : t + suc k ≡ suc (t + k) = omega arith in
      let size = length-pending (t + k) in
      ap (λ n. slice_index (queued (pending_at n) (own_at n)) m) there
      ∙ moved (pending_at (t + k)) (own_at (t + k)) (own_at (suc (t + k))) m (omega arith)
      ∙ waiting k (suc m) t (omega arith)

  -- the answer of a cycle comes as many cycles later as answers are under way
  pub delayed : (t : ℕ) → cycle_answer shape (chip_at shape chip q (t + length chip.pending)) (command_on (q (t + length chip.pending))) ≡ own_at t
  delayed t = let whole : length chip.pending + 0 ≡ length chip.pending = omega arith in waiting (length chip.pending) 0 t whole

-- ---- the words that return

module _ (march : List MarchElement) (d : Description) (chip : Chip) (q : ℕ → PortValues) (returned : ℕ → ℕ) (last : ℕ) where
  joined_slots : Joined march d chip q returned last → AreSlots (run_slots march d) (commands_from (shape_of d) chip q 0 (length (run_slots march d)))
  joined_slots joined =
      let late = joined.late in
      slots_from (run_slots march d) (λ t. command_on (q t)) 0 (λ t s at.
      let within : t < length (run_slots march d) = slice_get_within (run_slots march d) t s at in
      let size = length-slots march d in
      let same : t ≡ 0 + t = omega arith in
      let soon : t ≤ last = omega arith in
      subst (λ (k : ℕ). IsSlot s (command_on (q k))) same (port_slot march d returned t s (q t) (joined.rule t soon) at))

  -- what the chip alone answers in a cycle of the run is what it answers there
  alone : Joined march d chip q returned last → (t : ℕ) → t < suc (span march d) → slice_index (run_answers march d chip) t ≡ own_at (shape_of d) chip q t
  alone joined t within =
      let size = length-slots march d in
      let same : 0 + t ≡ t = omega arith in
      let cmds : List PortCmd = commands_from (shape_of d) chip q 0 (length (run_slots march d)) in
      ap (λ (l : List ℕ). slice_index l t) (sym (answers_of_slots (shape_of d) (run_slots march d) cmds (joined_slots joined) chip))
      ∙ own_in (shape_of d) chip q (length (run_slots march d)) 0 t (omega arith) ∙ ap (own_at (shape_of d) chip q) same

  returns : Joined march d chip q returned last → (j : ℕ) → j < command_count march d → returned_word march d returned j ≡ run_word march d chip j
  returns joined j within =
      let c : ℕ = cycle_of march d j in
      let p : ℕ = length chip.pending in
      let soon = at_within march d j within in
      let late = joined.late in
      let under_way = joined.under_way in
      let then_ : c + d.latency ≡ suc (c + p) = omega arith in
      let low : ℕ → ℕ = λ n. n % 2 ^ d.bits in
      ap returned then_ ∙ joined.answer (c + p) (omega arith)
      ∙ ap low (delayed (shape_of d) chip q c) ∙ ap low (sym (alone joined c (omega arith)))

pub same_words : (march : List MarchElement) (d : Description) → SameWords march d
same_words march d chip q returned last j joined within = returns march d chip q returned last joined j within
