-- The register of the operation's bit and those of the ages: what passes them by, and what the ages take.
use Rattle.std.proofs.Common.{◌≡◌, ◌≢◌, Option, Some, ℕ, zero, suc, ◌+◌, ◌<◌, ◌≤◌, Bool, true, false, cond, List, [], ◌∷◌, ◌++◌, length, refl, sym, ap, ◌∙◌, subst, arith, codes}
use Rattle.std.specs.Str.{bytes_eq}
use Rattle.verilog_tree.specs.Plain.{Statement, statements, ModuleItem}
use Rattle.verilog_tree.specs.Names.{Declaration, item_declarations, lookup}
use Rattle.verilog_tree.specs.declared.names.Kind.TheVariants as K
use Rattle.verilog_tree.specs.Meaning.{Env, bit, truth, value, AllGiven, Equations, block_sets, sets, last_set}
use Rattle.std.proofs.lemmas.Slice.Eq.{bytes_eq-Decides}
use Rattle.verilog_tree.proofs.Clean.{same_bytes}
use Rattle.rtl_layout.specs.Layout.{reads_at, over_at, value_at, back_at, aged, back, one, one_reg, one_set, digit_sets, stage_regs, stage_sets, feed_reads, feed_over, reset}
use Rattle.rtl_layout.specs.Plan.{Plan}
use Rattle.rtl_layout.specs.Control.{Stage, oldest, younger, quiet}
use Rattle.rtl_layout.specs.inner.Shows.{ShowsStage, ShowsStages}

-- ---- what stands behind the register of the operation's bit, where there is one

pub given_behind_one : (regs ins e : Env) (wide : Bool) (rest : List ModuleItem) → AllGiven regs ins e (item_declarations (one_reg wide ++ rest)) → AllGiven regs ins e (item_declarations rest)
given_behind_one regs ins e true rest h = h.1
given_behind_one regs ins e false rest h = h

pub equations_behind_one : (ws : List ℕ → ℕ) (e : Env) (wide : Bool) (rest : List ModuleItem) → Equations ws e (one_reg wide ++ rest) → Equations ws e rest
equations_behind_one ws e true rest h = h
equations_behind_one ws e false rest h = h

pub blocks_behind_one : (ws : List ℕ → ℕ) (e : Env) (wide : Bool) (rest : List ModuleItem) → block_sets ws e (one_reg wide ++ rest) ≡ block_sets ws e rest
blocks_behind_one ws e true rest = refl
blocks_behind_one ws e false rest = refl

passed_one : (t : Bool) (a old : ℕ) → t ≡ false → cond t a old ≡ old
passed_one t a old h = rw h refl

pub sets_behind_one : (ws : List ℕ → ℕ) (e : Env) (n : List ℕ) (p : Plan) (wide : Bool) → bytes_eq n one ≡ false → (ss : List Statement) (old : ℕ)
    → last_set n (sets ws e (statements (one_set p wide ++ ss))) old ≡ last_set n (sets ws e (statements ss)) old
sets_behind_one ws e n p true h ss old = ap (λ v. last_set n (sets ws e (statements ss)) v) (passed_one (bytes_eq n one) _ old h)
sets_behind_one ws e n p false h ss old = refl

-- what the digits and it leave behind, whatever the name
pub left_behind_one : (ws : List ℕ → ℕ) (e : Env) (n : List ℕ) (p : Plan) (wide : Bool) (ss : List Statement) (v old : ℕ) → v ≡ last_set n (sets ws e (statements (digit_sets p ++ (one_set p wide ++ ss)))) old
    → (left : ℕ) × (v ≡ last_set n (sets ws e (statements ss)) left)
left_behind_one ws e n p true ss v old h = (_, h)
left_behind_one ws e n p false ss v old h = (_, h)

pub lookup_behind_one : (n : List ℕ) (wide : Bool) → bytes_eq n one ≡ false → (rest : List ModuleItem) → lookup (item_declarations (one_reg wide ++ rest)) n ≡ lookup (item_declarations rest) n
lookup_behind_one n true h rest = ap (λ t. cond t (Some (record { name = one; kind = K.Register; width = 1 })) (lookup (item_declarations rest) n)) h
lookup_behind_one n false h rest = refl

-- ---- what stands behind the declarations of the ages

pub given_behind : (regs ins e : Env) (many : Bool) (w i n : ℕ) (rest : List ModuleItem) → AllGiven regs ins e (item_declarations (stage_regs many w i n ++ rest)) → AllGiven regs ins e (item_declarations rest)
given_behind regs ins e many w i zero rest h = h.1.1
given_behind regs ins e true w i (suc n) rest h = given_behind regs ins e true w (suc i) n rest h.1.1.1.1
given_behind regs ins e false w i (suc n) rest h = given_behind regs ins e false w (suc i) n rest h.1.1.1

pub equations_behind : (ws : List ℕ → ℕ) (e : Env) (many : Bool) (w i n : ℕ) (rest : List ModuleItem) → Equations ws e (stage_regs many w i n ++ rest) → Equations ws e rest
equations_behind ws e many w i zero rest h = h
equations_behind ws e true w i (suc n) rest h = equations_behind ws e true w (suc i) n rest h
equations_behind ws e false w i (suc n) rest h = equations_behind ws e false w (suc i) n rest h

pub blocks_behind : (ws : List ℕ → ℕ) (e : Env) (many : Bool) (w i n : ℕ) (rest : List ModuleItem) → block_sets ws e (stage_regs many w i n ++ rest) ≡ block_sets ws e rest
blocks_behind ws e many w i zero rest = refl
blocks_behind ws e true w i (suc n) rest = blocks_behind ws e true w (suc i) n rest
blocks_behind ws e false w i (suc n) rest = blocks_behind ws e false w (suc i) n rest

-- a name that no age from suc i on has
pub record Ageless (i : ℕ) (n : List ℕ) : Type 0 where
  pub no_reads : (j : ℕ) → i ≤ j → bytes_eq n (reads_at (suc j)) ≡ false
  pub no_over : (j : ℕ) → i ≤ j → bytes_eq n (over_at (suc j)) ≡ false
  pub no_value : (j : ℕ) → i ≤ j → bytes_eq n (value_at (suc j)) ≡ false
  pub no_back : (j : ℕ) → i ≤ j → bytes_eq n (aged back (suc j)) ≡ false

passed : (t u : Bool) (a b old : ℕ) → t ≡ false → u ≡ false → cond u b (cond t a old) ≡ old
passed t u a b old h k = rw (h, k) refl

pub later : (i : ℕ) (n : List ℕ) → Ageless i n → Ageless (suc i) n
later i n f = record {
  no_reads = λ j l. f.no_reads j (omega arith);
  no_over = λ j l. f.no_over j (omega arith);
  no_value = λ j l. f.no_value j (omega arith);
  no_back = λ j l. f.no_back j (omega arith);
}

-- names of other ages
pub aged_same : (a : List ℕ) (i j : ℕ) → aged a i ≡ aged a j → i ≡ j
aged_same [] i j q = let e : 48 + i ≡ 48 + j = cc in omega arith
aged_same (x ∷ a) i j q = let e : aged a i ≡ aged a j = cc in aged_same a i j e

pub aged_differ : (a : List ℕ) (i j : ℕ) → i < j → bytes_eq (aged a i) (aged a j) ≡ false
aged_differ a i j l = unequal (bytes_eq (aged a i) (aged a j)) (λ t. let e = aged_same a i j ((bytes_eq-Decides (aged a i) (aged a j)).0 t) in omega arith)
  where
    unequal : (t : Bool) → (t ≡ true → ⊥) → t ≡ false
    unequal true h = absurd (h refl)
    unequal false h = refl

pub reads_ageless : (i : ℕ) → Ageless (suc i) (reads_at (suc i))
reads_ageless i = record { no_reads = λ j l. aged_differ (codes "reads") (suc i) (suc j) (omega arith); no_over = λ j l. refl; no_value = λ j l. refl; no_back = λ j l. refl }

pub over_ageless : (i : ℕ) → Ageless (suc i) (over_at (suc i))
over_ageless i = record { no_reads = λ j l. refl; no_over = λ j l. aged_differ (codes "over") (suc i) (suc j) (omega arith); no_value = λ j l. refl; no_back = λ j l. refl }

pub value_ageless : (i : ℕ) → Ageless (suc i) (value_at (suc i))
value_ageless i = record { no_reads = λ j l. refl; no_over = λ j l. refl; no_value = λ j l. aged_differ (codes "value") (suc i) (suc j) (omega arith); no_back = λ j l. refl }

pub back_ageless : (i : ℕ) → Ageless (suc i) (aged back (suc i))
back_ageless i = record { no_reads = λ j l. refl; no_over = λ j l. refl; no_value = λ j l. refl; no_back = λ j l. aged_differ back (suc i) (suc j) (omega arith) }

pub sets_behind : (ws : List ℕ → ℕ) (e : Env) (n : List ℕ) (many : Bool) (w i k : ℕ) → Ageless i n → (ss : List Statement) (old : ℕ)
    → last_set n (sets ws e (statements (stage_sets many w i k ++ ss))) old ≡ last_set n (sets ws e (statements ss)) old
sets_behind ws e n many w i zero f ss old =
    ap (λ v. last_set n (sets ws e (statements ss)) v) (passed (bytes_eq n (reads_at (suc i))) (bytes_eq n (over_at (suc i))) _ _ old (f.no_reads i (omega arith)) (f.no_over i (omega arith)))
sets_behind ws e n true w i (suc k) f ss old =
    sets_behind ws e n true w (suc i) k (later i n f) ss _
    ∙ ap (λ v. last_set n (sets ws e (statements ss)) v)
    (passed (bytes_eq n (value_at (suc i))) (bytes_eq n (aged back (suc i))) _ _ _ (f.no_value i (omega arith)) (f.no_back i (omega arith))
    ∙ passed (bytes_eq n (reads_at (suc i))) (bytes_eq n (over_at (suc i))) _ _ old (f.no_reads i (omega arith)) (f.no_over i (omega arith)))
sets_behind ws e n false w i (suc k) f ss old =
    sets_behind ws e n false w (suc i) k (later i n f) ss _
    ∙ ap (λ v. last_set n (sets ws e (statements ss)) v)
    (passed_one (bytes_eq n (value_at (suc i))) _ _ (f.no_value i (omega arith))
    ∙ passed (bytes_eq n (reads_at (suc i))) (bytes_eq n (over_at (suc i))) _ _ old (f.no_reads i (omega arith)) (f.no_over i (omega arith)))

-- ---- where the names of the ages are declared

pub lookup_behind : (n : List ℕ) (many : Bool) (w i k : ℕ) → Ageless i n → (rest : List ModuleItem) → lookup (item_declarations (stage_regs many w i k ++ rest)) n ≡ lookup (item_declarations rest) n
lookup_behind n many w i zero f rest =
    other (bytes_eq n (reads_at (suc i))) _ _ (f.no_reads i (omega arith)) ∙ other (bytes_eq n (over_at (suc i))) _ _ (f.no_over i (omega arith))
  where
    other : (t : Bool) (d : Declaration) (o : Option Declaration) → t ≡ false → cond t (Some d) o ≡ o
    other t d o h = rw h refl
lookup_behind n true w i (suc k) f rest =
    other (bytes_eq n (reads_at (suc i))) _ _ (f.no_reads i (omega arith)) ∙ other (bytes_eq n (over_at (suc i))) _ _ (f.no_over i (omega arith))
    ∙ other (bytes_eq n (value_at (suc i))) _ _ (f.no_value i (omega arith)) ∙ other (bytes_eq n (aged back (suc i))) _ _ (f.no_back i (omega arith))
    ∙ lookup_behind n true w (suc i) k (later i n f) rest
  where
    other : (t : Bool) (d : Declaration) (o : Option Declaration) → t ≡ false → cond t (Some d) o ≡ o
    other t d o h = rw h refl
lookup_behind n false w i (suc k) f rest =
    other (bytes_eq n (reads_at (suc i))) _ _ (f.no_reads i (omega arith)) ∙ other (bytes_eq n (over_at (suc i))) _ _ (f.no_over i (omega arith))
    ∙ other (bytes_eq n (value_at (suc i))) _ _ (f.no_value i (omega arith))
    ∙ lookup_behind n false w (suc i) k (later i n f) rest
  where
    other : (t : Bool) (d : Declaration) (o : Option Declaration) → t ≡ false → cond t (Some d) o ≡ o
    other t d o h = rw h refl

abbrev pub reg : List ℕ → ℕ → Declaration
reg n w = record { name = n; kind = K.Register; width = w }

-- the register of an age, or one behind it
seek : (a : List ℕ) (w i j : ℕ) (o : Option Declaration) → (i ≢ j → o ≡ Some (reg (aged a j) w)) → cond (bytes_eq (aged a j) (aged a i)) (Some (reg (aged a i) w)) o ≡ Some (reg (aged a j) w)
seek a w i j o next = by (bytes_eq (aged a j) (aged a i)) refl
  where
    by : (t : Bool) → bytes_eq (aged a j) (aged a i) ≡ t → cond t (Some (reg (aged a i) w)) o ≡ Some (reg (aged a j) w)
    by true q = let e : j ≡ i = aged_same a j i ((bytes_eq-Decides (aged a j) (aged a i)).0 q) in ap (λ k. Some (reg (aged a k) w)) (sym e)
    by false q = next (λ e. let s : bytes_eq (aged a j) (aged a i) ≡ true = (bytes_eq-Decides (aged a j) (aged a i)).1 (ap (aged a) (sym e)) in cc)

pub found_reads : (many : Bool) (w i n : ℕ) (rest : List ModuleItem) (j : ℕ) → i ≤ j → j ≤ i + n → lookup (item_declarations (stage_regs many w i n ++ rest)) (reads_at (suc j)) ≡ Some (reg (reads_at (suc j)) 1)
found_reads many w i zero rest j l h = seek (codes "reads") 1 (suc i) (suc j) _ (λ e. absurd (omega arith))
found_reads true w i (suc n) rest j l h = seek (codes "reads") 1 (suc i) (suc j) _ (λ e. found_reads true w (suc i) n rest j (omega arith) (omega arith))
found_reads false w i (suc n) rest j l h = seek (codes "reads") 1 (suc i) (suc j) _ (λ e. found_reads false w (suc i) n rest j (omega arith) (omega arith))

pub found_over : (many : Bool) (w i n : ℕ) (rest : List ModuleItem) (j : ℕ) → i ≤ j → j ≤ i + n → lookup (item_declarations (stage_regs many w i n ++ rest)) (over_at (suc j)) ≡ Some (reg (over_at (suc j)) 1)
found_over many w i zero rest j l h = seek (codes "over") 1 (suc i) (suc j) _ (λ e. absurd (omega arith))
found_over true w i (suc n) rest j l h = seek (codes "over") 1 (suc i) (suc j) _ (λ e. found_over true w (suc i) n rest j (omega arith) (omega arith))
found_over false w i (suc n) rest j l h = seek (codes "over") 1 (suc i) (suc j) _ (λ e. found_over false w (suc i) n rest j (omega arith) (omega arith))

pub found_value : (many : Bool) (w i n : ℕ) (rest : List ModuleItem) (j : ℕ) → i ≤ j → j < i + n → lookup (item_declarations (stage_regs many w i n ++ rest)) (value_at (suc j)) ≡ Some (reg (value_at (suc j)) 1)
found_value many w i zero rest j l h = absurd (omega arith)
found_value true w i (suc n) rest j l h = seek (codes "value") 1 (suc i) (suc j) _ (λ e. found_value true w (suc i) n rest j (omega arith) (omega arith))
found_value false w i (suc n) rest j l h = seek (codes "value") 1 (suc i) (suc j) _ (λ e. found_value false w (suc i) n rest j (omega arith) (omega arith))

pub found_back : (w i n : ℕ) (rest : List ModuleItem) (j : ℕ) → i ≤ j → j < i + n → lookup (item_declarations (stage_regs true w i n ++ rest)) (aged back (suc j)) ≡ Some (reg (aged back (suc j)) w)
found_back w i zero rest j l h = absurd (omega arith)
found_back w i (suc n) rest j l h = seek back w (suc i) (suc j) _ (λ e. found_back w (suc i) n rest j (omega arith) (omega arith))

-- ---- what the ages hold

-- the environment shows the ages that the registers show
pub ages_held : (regs ins e : Env) (many : Bool) (w i : ℕ) (ss : List Stage) (rest : List ModuleItem) → e back ≡ regs back
    → AllGiven regs ins e (item_declarations (stage_regs many w i (length ss) ++ rest)) → ShowsStages many i ss regs → ShowsStages many i ss e
ages_held regs ins e many w i [] rest b h s = tt
ages_held regs ins e true w i (t ∷ ts) rest b h s =
    let q = s.0 in (
      record { reads_is = h.0 ∙ q.reads_is; over_is = h.1.0 ∙ q.over_is; value_is = h.1.1.0 ∙ q.value_is; back_is = h.1.1.1.0 ∙ q.back_is },
      ages_held regs ins e true w (suc i) ts rest b h.1.1.1.1 s.1,
    )
ages_held regs ins e false w i (t ∷ ts) rest b h s =
    let q = s.0 in (
      record { reads_is = h.0 ∙ q.reads_is; over_is = h.1.0 ∙ q.over_is; value_is = h.1.1.0 ∙ q.value_is; back_is = b ∙ q.back_is },
      ages_held regs ins e false w (suc i) ts rest b h.1.1.1 s.1,
    )

-- the registers of the last age keep their values
pub last_held : (regs ins e : Env) (many : Bool) (w i n k : ℕ) (rest : List ModuleItem) → k ≡ i + n
    → AllGiven regs ins e (item_declarations (stage_regs many w i n ++ rest)) → (e (reads_at (suc k)) ≡ regs (reads_at (suc k))) × (e (over_at (suc k)) ≡ regs (over_at (suc k)))
last_held regs ins e many w i zero k rest m h =
    let same : i ≡ k = omega arith in
    subst (λ (j : ℕ). (e (reads_at (suc j)) ≡ regs (reads_at (suc j))) × (e (over_at (suc j)) ≡ regs (over_at (suc j)))) same (h.0, h.1.0)
last_held regs ins e true w i (suc n) k rest m h = last_held regs ins e true w (suc i) n k rest (omega arith) h.1.1.1.1
last_held regs ins e false w i (suc n) k rest m h = last_held regs ins e false w (suc i) n k rest (omega arith) h.1.1.1

-- ---- what the ages take

-- what each age is set to, whatever stood there before
abbrev pub Leaves : Bool → ℕ → List Stage → List (List ℕ × ℕ) → Type 0
Leaves many i [] xs = Unit {0}
Leaves many i (s ∷ ss) xs =
    ((old : ℕ) → last_set (reads_at (suc i)) xs old ≡ bit s.reads)
    × ((old : ℕ) → last_set (over_at (suc i)) xs old ≡ bit s.over)
    × ((old : ℕ) → last_set (value_at (suc i)) xs old ≡ bit s.value)
    × (many ≡ true → (old : ℕ) → last_set (aged back (suc i)) xs old ≡ s.back)
    × Leaves many (suc i) ss xs

leaves_behind : (many : Bool) (i : ℕ) (ss : List Stage) (x : List ℕ × ℕ) (xs : List (List ℕ × ℕ)) → Leaves many i ss xs → Leaves many i ss (x ∷ xs)
leaves_behind many i [] x xs h = tt
leaves_behind many i (s ∷ ss) x xs h = (λ old. h.0 _, λ old. h.1 _, λ old. h.2 _, λ m old. h.3 m _, leaves_behind many (suc i) ss x xs h.4)

-- statements that set no age
pub record Clear (ws : List ℕ → ℕ) (e : Env) (tail : List Statement) : Type 0 where
  pub reads_stay : (j old : ℕ) → last_set (reads_at (suc j)) (sets ws e (statements tail)) old ≡ old
  pub over_stays : (j old : ℕ) → last_set (over_at (suc j)) (sets ws e (statements tail)) old ≡ old
  pub value_stays : (j old : ℕ) → last_set (value_at (suc j)) (sets ws e (statements tail)) old ≡ old
  pub back_stays : (j old : ℕ) → last_set (aged back (suc j)) (sets ws e (statements tail)) old ≡ old

-- what an age is fed
pub record Feeds (ws : List ℕ → ℕ) (e : Env) (many : Bool) (i : ℕ) (s : Stage) : Type 0 where
  pub reads_fed : value ws e (feed_reads i) ≡ bit s.reads
  pub over_fed : value ws e (feed_over i) ≡ bit s.over
  pub value_fed : e (value_at i) ≡ bit s.value
  pub back_fed : e (back_at many i) ≡ s.back

set_here : (t : Bool) (v old : ℕ) → t ≡ true → cond t v old ≡ v
set_here t v old h = rw h refl

at_zero : (r v : ℕ) → r ≡ 0 → cond (truth r) 0 v ≡ v
at_zero r v h = rw h refl

at_one : (r v : ℕ) → r ≡ 1 → cond (truth r) 0 v ≡ 0
at_one r v h = rw h refl

module _ (ws : List ℕ → ℕ) (e : Env) (w : ℕ) (tail : List Statement) (clear : Clear ws e tail) where
  -- the pairs of the ages from suc i on, of which k have a value
  abbrev pub pairs : Bool → ℕ → ℕ → List (List ℕ × ℕ)
  pairs many i k = sets ws e (statements (stage_sets many w i k ++ tail))

  reads_set : (many : Bool) (i k v old : ℕ) → last_set (reads_at (suc i)) (pairs many (suc i) k) (cond (bytes_eq (reads_at (suc i)) (reads_at (suc i))) v old) ≡ v
  reads_set many i k v old = sets_behind ws e (reads_at (suc i)) many w (suc i) k (reads_ageless i) tail _ ∙ clear.reads_stay i _ ∙ set_here _ v old (same_bytes (reads_at (suc i)))

  over_set : (many : Bool) (i k v old : ℕ) → last_set (over_at (suc i)) (pairs many (suc i) k) (cond (bytes_eq (over_at (suc i)) (over_at (suc i))) v old) ≡ v
  over_set many i k v old = sets_behind ws e (over_at (suc i)) many w (suc i) k (over_ageless i) tail _ ∙ clear.over_stays i _ ∙ set_here _ v old (same_bytes (over_at (suc i)))

  value_set : (many : Bool) (i k v old : ℕ) → last_set (value_at (suc i)) (pairs many (suc i) k) (cond (bytes_eq (value_at (suc i)) (value_at (suc i))) v old) ≡ v
  value_set many i k v old = sets_behind ws e (value_at (suc i)) many w (suc i) k (value_ageless i) tail _ ∙ clear.value_stays i _ ∙ set_here _ v old (same_bytes (value_at (suc i)))

  back_set : (many : Bool) (i k v old : ℕ) → last_set (aged back (suc i)) (pairs many (suc i) k) (cond (bytes_eq (aged back (suc i)) (aged back (suc i))) v old) ≡ v
  back_set many i k v old = sets_behind ws e (aged back (suc i)) many w (suc i) k (back_ageless i) tail _ ∙ clear.back_stays i _ ∙ set_here _ v old (same_bytes (aged back (suc i)))

  next_feeds : (many : Bool) (i : ℕ) (t : Stage) → ShowsStage many (suc i) t e → Feeds ws e many (suc i) t
  next_feeds many i t q = record { reads_fed = q.reads_is; over_fed = q.over_is; value_fed = q.value_is; back_fed = q.back_is }

  pub ages_take : e reset ≡ 0 → (many : Bool) (i : ℕ) (s : Stage) (ss : List Stage) → Feeds ws e many i s → ShowsStages many i ss e → Leaves many i (younger s ss) (pairs many i (length ss))
  ages_take z many i s [] f h = tt
  ages_take z true i s (t ∷ ts) f h = (
    λ old. reads_set true i (length ts) (cond (truth (e reset)) 0 (value ws e (feed_reads i))) old ∙ at_zero (e reset) _ z ∙ f.reads_fed,
    λ old. over_set true i (length ts) (cond (truth (e reset)) 0 (value ws e (feed_over i))) old ∙ at_zero (e reset) _ z ∙ f.over_fed,
    λ old. value_set true i (length ts) (cond (truth (e reset)) 0 (e (value_at i))) old ∙ at_zero (e reset) _ z ∙ f.value_fed,
    λ m old. back_set true i (length ts) (cond (truth (e reset)) 0 (e (back_at true i))) old ∙ at_zero (e reset) _ z ∙ f.back_fed,
    leaves_behind true (suc i) (younger t ts) _ _ (leaves_behind true (suc i) (younger t ts) _ _ (leaves_behind true (suc i) (younger t ts) _ _ (leaves_behind true (suc i) (younger t ts) _ _
        (ages_take z true (suc i) t ts (next_feeds true i t h.0) h.1)))),
  )
  ages_take z false i s (t ∷ ts) f h = (
    λ old. reads_set false i (length ts) (cond (truth (e reset)) 0 (value ws e (feed_reads i))) old ∙ at_zero (e reset) _ z ∙ f.reads_fed,
    λ old. over_set false i (length ts) (cond (truth (e reset)) 0 (value ws e (feed_over i))) old ∙ at_zero (e reset) _ z ∙ f.over_fed,
    λ old. value_set false i (length ts) (cond (truth (e reset)) 0 (e (value_at i))) old ∙ at_zero (e reset) _ z ∙ f.value_fed,
    λ m old. cc,
    leaves_behind false (suc i) (younger t ts) _ _ (leaves_behind false (suc i) (younger t ts) _ _ (leaves_behind false (suc i) (younger t ts) _ _
        (ages_take z false (suc i) t ts (next_feeds false i t h.0) h.1))),
  )

  -- the last age
  pub last_takes : e reset ≡ 0 → (many : Bool) (i k : ℕ) (s : Stage) (ss : List Stage) → k ≡ i + length ss → Feeds ws e many i s → ShowsStages many i ss e
      → ((old : ℕ) → last_set (reads_at (suc k)) (pairs many i (length ss)) old ≡ bit (oldest s ss).reads) × ((old : ℕ) → last_set (over_at (suc k)) (pairs many i (length ss)) old ≡ bit (oldest s ss).over)
  last_takes z many i k s [] m f h =
      let same : i ≡ k = omega arith in
      let P : ℕ → Type 0 = λ (j : ℕ). ((old : ℕ) → last_set (reads_at (suc j)) (pairs many i 0) old ≡ bit s.reads) × ((old : ℕ) → last_set (over_at (suc j)) (pairs many i 0) old ≡ bit s.over) in
      subst P same (
        λ old. clear.reads_stay i _ ∙ set_here _ (cond (truth (e reset)) 0 (value ws e (feed_reads i))) old (same_bytes (reads_at (suc i))) ∙ at_zero (e reset) _ z ∙ f.reads_fed,
        λ old. clear.over_stays i _ ∙ set_here _ (cond (truth (e reset)) 0 (value ws e (feed_over i))) old (same_bytes (over_at (suc i))) ∙ at_zero (e reset) _ z ∙ f.over_fed,
      )
  last_takes z true i k s (t ∷ ts) m f h =
      let q = last_takes z true (suc i) k t ts (omega arith) (next_feeds true i t h.0) h.1 in (λ old. q.0 _, λ old. q.1 _)
  last_takes z false i k s (t ∷ ts) m f h =
      let q = last_takes z false (suc i) k t ts (omega arith) (next_feeds false i t h.0) h.1 in (λ old. q.0 _, λ old. q.1 _)

  -- what feeds the last age
  pub oldest_feeds : (many : Bool) (i k : ℕ) (s : Stage) (ss : List Stage) → k ≡ i + length ss → Feeds ws e many i s → ShowsStages many i ss e → Feeds ws e many k (oldest s ss)
  oldest_feeds many i k s [] m f h = let same : i ≡ k = omega arith in subst (λ j. Feeds ws e many j s) same f
  oldest_feeds many i k s (t ∷ ts) m f h = oldest_feeds many (suc i) k t ts (omega arith) (next_feeds many i t h.0) h.1

  -- after a reset
  pub ages_reset : e reset ≡ 1 → (many : Bool) (i n : ℕ) → Leaves many i (quiet n) (pairs many i n)
  ages_reset z many i zero = tt
  ages_reset z true i (suc n) = (
    λ old. reads_set true i n (cond (truth (e reset)) 0 (value ws e (feed_reads i))) old ∙ at_one (e reset) _ z,
    λ old. over_set true i n (cond (truth (e reset)) 0 (value ws e (feed_over i))) old ∙ at_one (e reset) _ z,
    λ old. value_set true i n (cond (truth (e reset)) 0 (e (value_at i))) old ∙ at_one (e reset) _ z,
    λ m old. back_set true i n (cond (truth (e reset)) 0 (e (back_at true i))) old ∙ at_one (e reset) _ z,
    leaves_behind true (suc i) (quiet n) _ _ (leaves_behind true (suc i) (quiet n) _ _ (leaves_behind true (suc i) (quiet n) _ _ (leaves_behind true (suc i) (quiet n) _ _
        (ages_reset z true (suc i) n)))),
  )
  ages_reset z false i (suc n) = (
    λ old. reads_set false i n (cond (truth (e reset)) 0 (value ws e (feed_reads i))) old ∙ at_one (e reset) _ z,
    λ old. over_set false i n (cond (truth (e reset)) 0 (value ws e (feed_over i))) old ∙ at_one (e reset) _ z,
    λ old. value_set false i n (cond (truth (e reset)) 0 (e (value_at i))) old ∙ at_one (e reset) _ z,
    λ m old. cc,
    leaves_behind false (suc i) (quiet n) _ _ (leaves_behind false (suc i) (quiet n) _ _ (leaves_behind false (suc i) (quiet n) _ _
        (ages_reset z false (suc i) n))),
  )

  pub last_resets : e reset ≡ 1 → (many : Bool) (i k n : ℕ) → k ≡ i + n
      → ((old : ℕ) → last_set (reads_at (suc k)) (pairs many i n) old ≡ 0) × ((old : ℕ) → last_set (over_at (suc k)) (pairs many i n) old ≡ 0)
  last_resets z many i k zero m =
      let same : i ≡ k = omega arith in
      let P : ℕ → Type 0 = λ (j : ℕ). ((old : ℕ) → last_set (reads_at (suc j)) (pairs many i 0) old ≡ 0) × ((old : ℕ) → last_set (over_at (suc j)) (pairs many i 0) old ≡ 0) in
      subst P same (
        λ old. clear.reads_stay i _ ∙ set_here _ (cond (truth (e reset)) 0 (value ws e (feed_reads i))) old (same_bytes (reads_at (suc i))) ∙ at_one (e reset) _ z,
        λ old. clear.over_stays i _ ∙ set_here _ (cond (truth (e reset)) 0 (value ws e (feed_over i))) old (same_bytes (over_at (suc i))) ∙ at_one (e reset) _ z,
      )
  last_resets z true i k (suc n) m = let q = last_resets z true (suc i) k n (omega arith) in (λ old. q.0 _, λ old. q.1 _)
  last_resets z false i k (suc n) m = let q = last_resets z false (suc i) k n (omega arith) in (λ old. q.0 _, λ old. q.1 _)
