-- What a run against the first box leaves.
use Rattle.bist_app.proofs.Common.{◌≡◌, ◌<◌, ◌*◌, ◌+◌, ◌%◌, ◌/◌, ◌^◌, ◌∙◌, ℕ, zero, suc, false, List, [], ◌∷◌, length, map, replicate, Option, None, Some, is_some, Bool, Result, Ok, Err, IfOk, IfErr, bit_xor, refl, sym, ap, ap₂, subst, arith, MarchElement, Description, Planted, Chip, shape_of, planted_chip, Tells, TellsChip, TellsScript, TellsNothing, Told, pattern, filled_chip, blank, AllRight, IsPlain, PassesAlone, run_word, Seen, IsFirstRead, EndsSelfTest, IsSeenOf, IsWrongRead, SelfTest, ModuleTree, Effects, Refusal, Done, done_of, plain, OrNoMemory, range_with_len, length-replicate, one-le-pow, mod-eq_of_lt, closed_words, IfOk-weaker}
use Rattle.word_device.specs.declared.shape.Shape.{Shape}
use Rattle.bench.specs.Endings.{Runs}
use Rattle.bist_app.specs.declared.benching.RunEnd.{RunEnd}
use Rattle.bist_app.specs.Bench.{ready, benched_chip, benched_done, IsSeen, IsRun, IsBenched, IsSoundBenched, LeavesBench}
use Rattle.bist_app.specs.BenchFile.{IsFileRun, LeavesBenchFile, zero_registers}
use Rattle.bist_app.specs.inner.RunsBeside.{RunsBeside}
use Rattle.bist_app.specs.inner.BenchedBoxes.{EndsRun}
use Rattle.bist_app.proofs.Table.BenchFacts.{first_one}

-- the number 0 stands for words of 0
zero_pattern : (bits k : ℕ) → pattern 0 bits k ≡ 0
zero_pattern bits k =
    let none : 0 * (2 * k + 1) ≡ 0 = omega arith in
    ap (λ x. bit_xor (x % 2 ^ 64) (x % 2 ^ 64 / 2 ^ 32) % 2 ^ bits) none ∙ mod-eq_of_lt (one-le-pow bits 2 (omega arith))

pub zero_words : (bits k n : ℕ) → map (pattern 0 bits) (range_with_len k n) ≡ replicate n 0
zero_words bits k zero = refl
zero_words bits k (suc n) = ap₂ (λ x xs. x ∷ xs) (zero_pattern bits k) (zero_words bits (k + 1) n)

pub blank_filled : (shape : Shape) → filled_chip 0 shape (blank shape) ≡ blank shape
blank_filled shape = ap (λ (words : List ℕ). record (blank shape) { words = words }) (zero_words shape.bits 0 shape.words)

pub planted_filled : (i : Planted) (shape : Shape) → filled_chip 0 shape (planted_chip i (blank shape)) ≡ planted_chip i (blank shape)
planted_filled i shape = ap (λ (words : List ℕ). record (planted_chip i (blank shape)) { words = closed_words i words }) (zero_words shape.bits 0 shape.words)

-- what is seen beside a box that is ready, by what it told before
pub seen_by : (march : List MarchElement) (d : Description) (planted : Option Planted) (tells : Tells) (seen : Option Seen) → IsWrongRead march d seen
    → IsSeenOf march d (ready d planted tells) seen → IsSeen march d planted tells seen
seen_by march d None (TellsChip c) seen read h = subst (λ (x : Chip). IsFirstRead march d (run_word march d x) seen) (blank_filled (shape_of d)) h
seen_by march d (Some i) (TellsChip c) seen read h = subst (λ (x : Chip). IsFirstRead march d (run_word march d x) seen) (planted_filled i (shape_of d)) h
seen_by march d None (TellsScript s) seen read h = h refl
seen_by march d (Some i) (TellsScript s) seen read h = h refl
seen_by march d planted TellsNothing seen read h = read

-- ---- a run

run_is : (mo : ModuleTree) (march : List MarchElement) (d : Description) (registers : List ℕ) (tells : Tells) (end : RunEnd) (done : Done) → registers ≡ zero_registers mo
    → EndsRun mo march d registers tells end → (SelfTest mo march d → EndsSelfTest march d tells end.fail end.done_cycle end.first)
    → done ≡ benched_done d.bits end.fail end.done_cycle end.first → RunsBeside mo march d tells done
run_is mo march d registers tells end done hold run test is = record {
  file_run = record {
    now = run.now;
    after = run.after;
    failed = end.fail;
    done_in = end.done_cycle;
    seen = end.first;
    runs = subst (λ (rs : List ℕ). Runs mo march d rs run.now tells run.after end.fail end.done_cycle end.first) hold run.runs;
    done_is = is;
  };
  self_test = λ t. let h = test t in record {
    seen = end.first;
    is_seen = h.is_seen;
    read = h.ends.read;
    done_is = is ∙ ap₂ (λ (b : Bool) (o : Option ℕ). benched_done d.bits b o end.first) h.ends.fail h.ends.done;
  };
}

-- the plan of a run
pub plan_is : (mo : ModuleTree) (march : List MarchElement) (d : Description) (registers : List ℕ) (tells : Tells) (end : RunEnd) (bits : ℕ) (done : Done)
    → registers ≡ zero_registers mo → EndsRun mo march d registers tells end → (SelfTest mo march d → EndsSelfTest march d tells end.fail end.done_cycle end.first)
    → bits ≡ d.bits → done ≡ benched_done bits end.fail end.done_cycle end.first → RunsBeside mo march d tells done
plan_is mo march d registers tells end bits done hold run test same is =
    run_is mo march d registers tells end done hold run test (is ∙ ap (λ n. benched_done n end.fail end.done_cycle end.first) same)

benched_of : (march : List MarchElement) (d : Description) (planted : Option Planted) (tells : Tells) (done : Done) → IsRun march d (ready d planted tells) done
    → IsBenched march d planted tells done
benched_of march d planted tells done r = record {
  seen = r.seen;
  is_seen = seen_by march d planted tells r.seen r.read r.is_seen;
  found = ap (λ (x : Done). x.found) r.done_is;
  line = ap (λ (x : Done). x.line) r.done_is;
  outputs = ap (λ (x : Done). x.outputs) r.done_is;
}

pub tested : {B : Type 0} (tells : B → Tells) (items : List B) (mo : ModuleTree) (march : List MarchElement) (d : Description) (planted : Option Planted) (r : Result Effects Refusal)
    → SelfTest mo march d → IfOk r (λ plan. (b : B) (rest : List B) → items ≡ b ∷ rest → RunsBeside mo march d (ready d planted (tells b)) (done_of plan))
    → IfOk r (λ plan. (b : B) (rest : List B) → items ≡ b ∷ rest → IsBenched march d planted (tells b) (done_of plan))
tested tells items mo march d planted (Ok plan) test h = λ b rest e. benched_of march d planted (tells b) (done_of plan) ((h b rest e).self_test test)
tested tells items mo march d planted (Err e) test h = tt

-- ---- what commands leave

-- a plan, or want of memory
pub or_no_memory : (P : Done → Type 0) (r : Result Effects Refusal) → IfErr r (λ e. e ≡ Refusal.NoMemory) → IfOk r (λ plan. P (done_of plan)) → OrNoMemory P (plain r)
or_no_memory P (Ok plan) wants h = h
or_no_memory P (Err e) wants h = subst (λ (x : Refusal). OrNoMemory P (Err x)) (sym wants) tt

pub file_benched : {B : Type 0} (f : B → Told) (items : List B) (mo : ModuleTree) (march : List MarchElement) (d : Description) (r : Result Effects Refusal) → 0 < length items
    → IfErr r (λ e. e ≡ Refusal.NoMemory) → IfOk r (λ plan. (b : B) (rest : List B) → items ≡ b ∷ rest → RunsBeside mo march d (ready d None (f b).tells) (done_of plan))
    → LeavesBenchFile mo march d (map f items) (plain r)
unfolding LeavesBenchFile
file_benched f [] mo march d r some wants h = absurd (omega (arith, some))
file_benched f (b ∷ items) mo march d r some wants h =
    or_no_memory (IsFileRun mo march d (ready d None (f b).tells)) r wants (IfOk-weaker r _ _ (λ plan k. (k b items refl).file_run) h)

-- a memory with nothing planted
plain_chip : (d : Description) → IsPlain d (benched_chip d None)
plain_chip d = record { words = length-replicate d.words 0; planted = refl }

none_seen : (march : List MarchElement) (d : Description) (words : ℕ → ℕ) (seen : Option Seen) → AllRight march d words → IsFirstRead march d words seen → is_some seen ≡ false
none_seen march d words seen right first = ap is_some (first_one march d words seen None first right)

none_found : (march : List MarchElement) (d : Description) (tells : Tells) (done : Done) (chip : Chip) → PassesAlone march d → IsBenched march d None tells done
    → tells ≡ TellsChip chip → done.found ≡ false
none_found march d tells done chip passes r is =
    let seen = subst (λ (t : Tells). IsSeen march d None t r.seen) is r.is_seen in
    r.found ∙ none_seen march d (run_word march d (benched_chip d None)) r.seen (passes (benched_chip d None) (plain_chip d)) seen

pub benched : {B : Type 0} (f : B → Told) (items : List B) (march : List MarchElement) (d : Description) (r : Result Effects Refusal) → 0 < length items → PassesAlone march d
    → IfErr r (λ e. e ≡ Refusal.NoMemory) → IfOk r (λ plan. (b : B) (rest : List B) → items ≡ b ∷ rest → IsBenched march d None (f b).tells (done_of plan))
    → LeavesBench march d (map f items) (plain r)
unfolding LeavesBench
benched f [] march d r some passes wants h = absurd (omega (arith, some))
benched {B} f (b ∷ items) march d r some passes wants h =
    or_no_memory (IsSoundBenched march d (f b).tells) r wants
    (IfOk-weaker r _ _ (λ plan k. let run = k b items refl in record { benched = run; passes = λ chip is. none_found march d (f b).tells (done_of plan) chip passes run is }) h)
