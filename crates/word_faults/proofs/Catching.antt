-- Where a state of the memory is seen as cells that the march catches, some reply in the run of the background 0 differs.
use Rattle.std.proofs.Common.{◌≡◌, ◌≢◌, ◌<◌, ◌^◌, ◌%◌, ℕ, zero, suc, Bool, true, false, Option, Some, None, List, [], ◌∷◌, ◌++◌, length, map, refl, ap, sym, subst, arith}
use Rattle.std.specs.Prelude.{slice_get, slice_index_or}
use Rattle.std.specs.List.{flat_map}
use Rattle.march_core.specs.March.{MarchElement}
use Rattle.march_core.specs.Runs.{up, is_write}
use Rattle.march_core.specs.Visits.{Visit, MarchStep, pausing, visiting, visits}
use Rattle.array_sim.specs.Differing.{left_behind, SomeDiffersBy}
use Rattle.memory_desc.specs.Descriptions.{Description, IsMemory}
use Rattle.word_march.specs.declared.operations.WordOp.{WordOp}
use Rattle.word_march.specs.Commands.{word_op, word_step, word_steps}
use Rattle.word_device.proofs.Core.{SomeReplyDiffers}
use Rattle.word_device.specs.Memories.{Behaviour}
use Rattle.word_device.proofs.Answering.{IsLawful, replies}

pub solid_at : (set : List ℕ) (k : ℕ) → k < length set → slice_index_or set k 0 ≡ 0 → slice_get set k ≡ Some 0
solid_at [] k inside zero_is = absurd (omega arith)
solid_at (x ∷ xs) zero inside zero_is = ap Some zero_is
solid_at (x ∷ xs) (suc k) inside zero_is = solid_at xs k (omega arith) zero_is

module _ {S : Type 0} (b : Behaviour S) (Good : S → Type 0) (lawful : IsLawful b Good) (bits : ℕ) where
  unfoldable pub stepped : S → Option WordOp → S
  stepped s None = b.paused s
  stepped s (Some o) = b.after s o

  good_stepped : (s : S) (x : Option WordOp) → Good s → Good (stepped s x)
  unfolding stepped
  good_stepped s None good = lawful.good_paused s good
  good_stepped s (Some o) good = lawful.good_after s o good

  later : (x : Option WordOp) (xs : List (Option WordOp)) (s : S) → SomeReplyDiffers bits xs (replies b Good lawful (stepped s x) xs)
      → SomeReplyDiffers bits (x ∷ xs) (replies b Good lawful s (x ∷ xs))
  unfolding stepped
  later None xs s d =
      record { number = d.number; op = d.op; reply = d.reply; is_op = d.is_op; is_read = d.is_read; is_reply = d.is_reply; differs = d.differs }
  later (Some o) xs s d =
      record { number = suc d.number; op = d.op; reply = d.reply; is_op = d.is_op; is_read = d.is_read; is_reply = d.is_reply; differs = d.differs }

  unfoldable pub behind : S → List (Option WordOp) → S
  behind s [] = s
  behind s (x ∷ xs) = behind (stepped s x) xs

  good_behind : (xs : List (Option WordOp)) (s : S) → Good s → Good (behind s xs)
  unfolding behind
  good_behind [] s good = good
  good_behind (x ∷ xs) s good = good_behind xs (stepped s x) (good_stepped s x good)

  skipped : (xs rest : List (Option WordOp)) (s : S) → SomeReplyDiffers bits rest (replies b Good lawful (behind s xs) rest)
      → SomeReplyDiffers bits (xs ++ rest) (replies b Good lawful s (xs ++ rest))
  unfolding behind
  skipped [] rest s d = d
  skipped (x ∷ xs) rest s d = later x (xs ++ rest) s (skipped xs rest (stepped s x) d)

  module _ {C : Type 0} (after : C → MarchStep → C) (is_wrong : C → Visit → Bool) (view : S → C)
      (visits_as : (s : S) (v : Visit) → Good s → view (b.after s (word_op bits 0 v)) ≡ after (view s) (visiting v))
      (rests_as : (s : S) (e : ℕ) → Good s → view (b.paused s) ≡ after (view s) (pausing e))
      (wrong_as : (s : S) (v : Visit) → Good s → is_wrong (view s) v ≡ true
      → (is_write v.op ≡ false) × (b.reply s (word_op bits 0 v) % 2 ^ bits ≢ (let o : WordOp = word_op bits 0 v in o.word))) where
    caught_steps : (vs : List MarchStep) (rest : List (Option WordOp)) (s : S) → Good s → (v : Visit) (before after_ : List MarchStep) → vs ≡ before ++ visiting v ∷ after_
        → is_wrong (left_behind after (view s) before) v ≡ true
        → SomeReplyDiffers bits (map (word_step bits 0) vs ++ rest) (replies b Good lawful s (map (word_step bits 0) vs ++ rest))
    unfolding stepped
    caught_steps vs rest s good v [] after_ split wrong =
        let bad = wrong_as s v good wrong in
        subst (λ (l : List MarchStep). SomeReplyDiffers bits (map (word_step bits 0) l ++ rest) (replies b Good lawful s (map (word_step bits 0) l ++ rest))) (sym split)
        (record {
          number = 0;
          op = word_op bits 0 v;
          reply = b.reply s (word_op bits 0 v);
          is_op = refl;
          is_read = bad.0;
          is_reply = refl;
          differs = bad.1;
        })
    caught_steps vs rest s good v (pausing e ∷ before) after_ split wrong =
        subst (λ (l : List MarchStep). SomeReplyDiffers bits (map (word_step bits 0) l ++ rest) (replies b Good lawful s (map (word_step bits 0) l ++ rest))) (sym split)
        (later None (map (word_step bits 0) (before ++ visiting v ∷ after_) ++ rest) s
        (caught_steps (before ++ visiting v ∷ after_) rest (b.paused s) (lawful.good_paused s good) v before after_ refl
        (subst (λ (c : C). is_wrong (left_behind after c before) v ≡ true) (sym (rests_as s e good)) wrong)))
    caught_steps vs rest s good v (visiting w ∷ before) after_ split wrong =
        let o : WordOp = word_op bits 0 w in
        subst (λ (l : List MarchStep). SomeReplyDiffers bits (map (word_step bits 0) l ++ rest) (replies b Good lawful s (map (word_step bits 0) l ++ rest))) (sym split)
        (later (Some o) (map (word_step bits 0) (before ++ visiting v ∷ after_) ++ rest) s
        (caught_steps (before ++ visiting v ∷ after_) rest (b.after s o) (lawful.good_after s o good) v before after_ refl
        (subst (λ (c : C). is_wrong (left_behind after c before) v ≡ true) (sym (visits_as s w good)) wrong)))

    -- the runs of the backgrounds, up to one of the background 0 that begins with a state of this kind
    module _ (march : List MarchElement) (d : Description) (same_bits : d.bits ≡ bits) (Begun : S → Type 0)
        (caught : (rest : List (Option WordOp)) (s : S) → Good s → Begun s
        → SomeReplyDiffers bits (map (word_step bits 0) (visits march (up march) d.words) ++ rest) (replies b Good lawful s (map (word_step bits 0) (visits march (up march) d.words) ++ rest))) where
      abbrev one_run : ℕ → List (Option WordOp)
      one_run x = map (word_step bits x) (visits march (up march) d.words)

      abbrev Fails : List ℕ → S → Type 0
      Fails set s = SomeReplyDiffers bits (flat_map one_run set) (replies b Good lawful s (flat_map one_run set))

      -- so the run before the one at a place leaves it
      abbrev pub LeavesBegun : List ℕ → ℕ → Type 0
      LeavesBegun set zero = Unit {0}
      LeavesBegun set (suc k) = (x : ℕ) → slice_get set k ≡ Some x → (s : S) → Good s → Begun (behind s (one_run x))

      first_run : (x : ℕ) (xs : List ℕ) (s : S) → x ≡ 0 → Good s → Begun s → Fails (x ∷ xs) s
      first_run x xs s solid good begun =
          let rest : List (Option WordOp) = flat_map one_run xs in
          subst (λ y. SomeReplyDiffers bits (one_run y ++ rest) (replies b Good lawful s (one_run y ++ rest))) (sym solid) (caught rest s good begun)

      some_run : (set : List ℕ) (k : ℕ) → slice_get set k ≡ Some 0 → LeavesBegun set k → (s : S) → Good s → (k ≡ 0 → Begun s) → Fails set s
      some_run [] k at before s good begun = cc
      some_run (x ∷ xs) zero at before s good begun = first_run x xs s (let solid : x ≡ 0 = cc in solid) good (begun refl)
      some_run (x ∷ xs) (suc zero) at before s good begun =
          skipped (one_run x) (flat_map one_run xs) s
          (some_run xs zero at tt (behind s (one_run x)) (good_behind (one_run x) s good) (λ e. before x refl s good))
      some_run (x ∷ xs) (suc (suc k)) at before s good begun =
          skipped (one_run x) (flat_map one_run xs) s
          (some_run xs (suc k) at before (behind s (one_run x)) (good_behind (one_run x) s good) (λ e. cc))

      pub catches_begun : (k : ℕ) → slice_get d.backgrounds k ≡ Some 0 → LeavesBegun d.backgrounds k → (s : S) → Good s → Begun s
          → SomeReplyDiffers d.bits (word_steps march d) (replies b Good lawful s (word_steps march d))
      catches_begun k at before s good begun =
          subst (λ n. SomeReplyDiffers n (flat_map (λ x. map (word_step n x) (visits march (up march) d.words)) d.backgrounds)
          (replies b Good lawful s (flat_map (λ x. map (word_step n x) (visits march (up march) d.words)) d.backgrounds))) (sym same_bits)
          (some_run d.backgrounds k at before s good (λ e. begun))

    -- a run of the background 0
    pub one_caught : (vs : List MarchStep) (rest : List (Option WordOp)) (s : S) → Good s → SomeDiffersBy after is_wrong (view s) vs
        → SomeReplyDiffers bits (map (word_step bits 0) vs ++ rest) (replies b Good lawful s (map (word_step bits 0) vs ++ rest))
    one_caught vs rest s good found = caught_steps vs rest s good found.0 found.1.before found.1.behind found.1.split found.1.wrong

    pub catches : (march : List MarchElement) (d : Description) → d.bits ≡ bits → ((s : S) → Good s → SomeDiffersBy after is_wrong (view s) (visits march (up march) d.words))
        → IsMemory d → (s : S) → Good s → SomeReplyDiffers d.bits (word_steps march d) (replies b Good lawful s (word_steps march d))
    catches march d same_bits caught memory s good =
        let solid = memory.tested.solid in
        catches_begun march d same_bits (λ s. Unit {0}) (λ rest s good begun. one_caught (visits march (up march) d.words) rest s good (caught s good)) solid.0
        (solid_at d.backgrounds solid.0 solid.1 solid.2) (any d.backgrounds solid.0) s good tt
      where
        any : (set : List ℕ) (k : ℕ)
            → LeavesBegun march d same_bits (λ s. Unit {0}) (λ rest s good begun. one_caught (visits march (up march) d.words) rest s good (caught s good)) set k
        any set zero = tt
        any set (suc k) = λ x at s good. tt
