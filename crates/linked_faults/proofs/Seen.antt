-- The three cells of a linked fault in an array of any size do what three cells alone do, and every other cell is plain.
use Rattle.std.proofs.Common.{◌≡◌, ◌≢◌, ◌<◌, ◌&&◌, ◌||◌, ℕ, zero, suc, Bool, true, false, cond, eqb, Option, Some, None, List, length, refl, ap, ◌∙◌, arith}
use Rattle.std.specs.Prelude.{slice_set}
use Rattle.std.proofs.lemmas.Bool.{eq-eqb, ne_eqb}
use Rattle.std.proofs.lemmas.List.{length-set, get_or-set_same, get_or-set_other}
use Rattle.fault_core.specs.declared.primitive.Act.{Act}
use Rattle.fault_core.specs.declared.primitive.Act.TheVariants.{Write, Read, Pause}
use Rattle.fault_core.specs.declared.primitive.Sense.{Sense}
use Rattle.fault_core.specs.declared.cells.Places.{Places}
use Rattle.fault_core.specs.Primitive.{Primitive, same_bit, is_retention}
use Rattle.fault_core.specs.Cells.{cell, agg_holds, states_hold, agg_acts, acts, has_this_act, plain_cells, plain_answer, answer_or}
use Rattle.cell_machine.proofs.Projection.{length-plain_cells, cell-plain_cells_other}
use Rattle.linked_faults.specs.declared.link.Link.{Link}
use Rattle.linked_faults.specs.declared.link.LinkPlaces.{LinkPlaces}
use Rattle.linked_faults.specs.declared.three.Three.{Three}
use Rattle.linked_faults.specs.Escapes.{cells_of}
use Rattle.linked_faults.specs.Linking.{FitsLinkPlaces, beside, first_places, second_place, second_places, linked_cells, linked_answer, linked_pause}
use Rattle.linked_faults.specs.inner.Threes.{Trio, three_at, three_of, step_three, answer_three, pause_three}

-- the trio is in its order, in an array of n cells
pub record IsTrio (t : Trio) (n : ℕ) : Type 0 where
  pub first : t.low < t.mid
  pub second : t.mid < t.high
  pub within : t.high < n

-- where a cell of three stands
abbrev pub place_at : Trio → ℕ → ℕ
place_at t zero = t.low
place_at t (suc zero) = t.mid
place_at t (suc (suc i)) = t.high

abbrev pub spots_from : Trio → LinkPlaces → LinkPlaces
spots_from t s = record { a = place_at t s.a; b = place_at t s.b; v = place_at t s.v }

-- the cell isn't one of the three
pub record IsElsewhere (t : Trio) (y : ℕ) : Type 0 where
  pub not_low : y ≢ t.low
  pub not_mid : y ≢ t.mid
  pub not_high : y ≢ t.high

pub place_within : (t : Trio) (n i : ℕ) → IsTrio t n → place_at t i < n
place_within t n zero is = omega (arith, is.first, is.second, is.within)
place_within t n (suc zero) is = omega (arith, is.second, is.within)
place_within t n (suc (suc i)) is = is.within

pub elsewhere : (t : Trio) (y i : ℕ) → IsElsewhere t y → y ≢ place_at t i
elsewhere t y zero out = out.not_low
elsewhere t y (suc zero) out = out.not_mid
elsewhere t y (suc (suc i)) out = out.not_high

same_place : (t : Trio) (n i j : ℕ) → IsTrio t n → i < 3 → j < 3 → eqb (place_at t i) (place_at t j) ≡ eqb i j
same_place t n zero zero is h k = eq-eqb t.low t.low refl
same_place t n zero (suc zero) is h k = ne_eqb t.low t.mid (let f : t.low < t.mid = is.first in omega arith)
same_place t n zero (suc (suc zero)) is h k = ne_eqb t.low t.high (let f : t.low < t.mid = is.first in let g : t.mid < t.high = is.second in omega arith)
same_place t n (suc zero) zero is h k = ne_eqb t.mid t.low (let f : t.low < t.mid = is.first in omega arith)
same_place t n (suc zero) (suc zero) is h k = eq-eqb t.mid t.mid refl
same_place t n (suc zero) (suc (suc zero)) is h k = ne_eqb t.mid t.high (let g : t.mid < t.high = is.second in omega arith)
same_place t n (suc (suc zero)) zero is h k = ne_eqb t.high t.low (let f : t.low < t.mid = is.first in let g : t.mid < t.high = is.second in omega arith)
same_place t n (suc (suc zero)) (suc zero) is h k = ne_eqb t.high t.mid (let g : t.mid < t.high = is.second in omega arith)
same_place t n (suc (suc zero)) (suc (suc zero)) is h k = eq-eqb t.high t.high refl
same_place t n (suc (suc (suc i))) j is h k = absurd (omega arith)
same_place t n i (suc (suc (suc j))) is h k = absurd (omega arith)

cell_seen : (t : Trio) (cells : List Bool) (i : ℕ) → i < 3 → cell cells (place_at t i) ≡ cell (cells_of (three_at t cells)) i
cell_seen t cells zero h = refl
cell_seen t cells (suc zero) h = refl
cell_seen t cells (suc (suc zero)) h = refl
cell_seen t cells (suc (suc (suc i))) h = absurd (omega arith)

abbrev pub make : Bool → Bool → Bool → Three
make x y z = record { x = x; y = y; z = z }

pub three_bits : (a b c d e f : Bool) → a ≡ d → b ≡ e → c ≡ f → make a b c ≡ make d e f
three_bits a b c d e f p q r =
    ap (λ x. make x b c) p ∙ ap (λ y. make d y c) q ∙ ap (make d e) r

set_seen : (t : Trio) (n i : ℕ) (cells : List Bool) (bit : Bool) → IsTrio t n → length cells ≡ n → i < 3
    → three_at t (slice_set cells (place_at t i) bit) ≡ three_of (slice_set (cells_of (three_at t cells)) i bit)
set_seen t n zero cells bit is size h =
    let f : t.low < t.mid = is.first in
    let g : t.mid < t.high = is.second in
    let w : t.high < n = is.within in
    three_bits _ _ _ _ _ _ (get_or-set_same cells t.low bit false (omega arith)) (get_or-set_other cells t.low t.mid bit false (omega arith))
    (get_or-set_other cells t.low t.high bit false (omega arith))
set_seen t n (suc zero) cells bit is size h =
    let f : t.low < t.mid = is.first in
    let g : t.mid < t.high = is.second in
    let w : t.high < n = is.within in
    three_bits _ _ _ _ _ _ (get_or-set_other cells t.mid t.low bit false (omega arith)) (get_or-set_same cells t.mid bit false (omega arith))
    (get_or-set_other cells t.mid t.high bit false (omega arith))
set_seen t n (suc (suc zero)) cells bit is size h =
    let f : t.low < t.mid = is.first in
    let g : t.mid < t.high = is.second in
    let w : t.high < n = is.within in
    three_bits _ _ _ _ _ _ (get_or-set_other cells t.high t.low bit false (omega arith)) (get_or-set_other cells t.high t.mid bit false (omega arith))
    (get_or-set_same cells t.high bit false (omega arith))
set_seen t n (suc (suc (suc i))) cells bit is size h = absurd (omega arith)

-- the places of one primitive
abbrev pub places : Primitive → ℕ → ℕ → Places
places p g v = record { agg = beside p.agg g; vic = v }

agg_acts_seen : (t : Trio) (n g i : ℕ) (agg : Option Sense) (act : Act) → IsTrio t n → g < 3 → i < 3
    → agg_acts agg (beside agg (place_at t g)) (place_at t i) act ≡ agg_acts agg (beside agg g) i act
agg_acts_seen t n g i None act is h k = refl
agg_acts_seen t n g i (Some sense) act is h k = ap (λ b. b && has_this_act sense.act act) (same_place t n g i is h k)

agg_holds_seen : (t : Trio) (g : ℕ) (agg : Option Sense) (cells : List Bool) → g < 3
    → agg_holds agg (beside agg (place_at t g)) cells ≡ agg_holds agg (beside agg g) (cells_of (three_at t cells))
agg_holds_seen t g None cells h = refl
agg_holds_seen t g (Some sense) cells h = ap (λ b. same_bit b sense.state) (cell_seen t cells g h)

states_seen : (t : Trio) (g v : ℕ) (p : Primitive) (cells : List Bool) → g < 3 → v < 3
    → states_hold p (places p (place_at t g) (place_at t v)) cells ≡ states_hold p (places p g v) (cells_of (three_at t cells))
states_seen t g v p cells h k =
    ap (λ b. same_bit b p.vic.state && agg_holds p.agg (beside p.agg (place_at t g)) cells) (cell_seen t cells v k)
    ∙ ap (λ b. same_bit (cell (cells_of (three_at t cells)) v) p.vic.state && b) (agg_holds_seen t g p.agg cells h)

acts_seen : (t : Trio) (n g v i : ℕ) (p : Primitive) (cells : List Bool) (act : Act) → IsTrio t n → g < 3 → v < 3 → i < 3
    → acts p (places p (place_at t g) (place_at t v)) cells (place_at t i) act ≡ acts p (places p g v) (cells_of (three_at t cells)) i act
unfolding acts
acts_seen t n g v i p cells act is hg hv hi =
    let holds : Bool = states_hold p (places p (place_at t g) (place_at t v)) cells in
    ap (λ b. ((b && has_this_act p.vic.act act) || agg_acts p.agg (beside p.agg (place_at t g)) (place_at t i) act) && holds) (same_place t n v i is hv hi)
    ∙ ap (λ b. ((eqb v i && has_this_act p.vic.act act) || b) && holds) (agg_acts_seen t n g i p.agg act is hg hi)
    ∙ ap (λ b. ((eqb v i && has_this_act p.vic.act act) || agg_acts p.agg (beside p.agg g) i act) && b) (states_seen t g v p cells hg hv)

-- the plain part
plain_seen : (t : Trio) (n i : ℕ) (cells : List Bool) (act : Act) → IsTrio t n → length cells ≡ n → i < 3
    → three_at t (plain_cells cells (place_at t i) act) ≡ three_of (plain_cells (cells_of (three_at t cells)) i act)
plain_seen t n i cells (Write bit) is size h = set_seen t n i cells bit is size h
plain_seen t n i cells Read is size h = refl
plain_seen t n i cells Pause is size h = refl

set_whole : (q : Three) (i : ℕ) (bit : Bool) → i < 3 → cells_of (three_of (slice_set (cells_of q) i bit)) ≡ slice_set (cells_of q) i bit
set_whole q zero bit h = refl
set_whole q (suc zero) bit h = refl
set_whole q (suc (suc zero)) bit h = refl
set_whole q (suc (suc (suc i))) bit h = absurd (omega arith)

plain_whole : (q : Three) (i : ℕ) (act : Act) → i < 3 → cells_of (three_of (plain_cells (cells_of q) i act)) ≡ plain_cells (cells_of q) i act
plain_whole q i (Write bit) h = set_whole q i bit h
plain_whole q i Read h = refl
plain_whole q i Pause h = refl

-- the victim set behind it
effect_seen : (t : Trio) (n v i : ℕ) (cells : List Bool) (act : Act) (bit : Bool) → IsTrio t n → length cells ≡ n → v < 3 → i < 3
    → three_at t (slice_set (plain_cells cells (place_at t i) act) (place_at t v) bit) ≡ three_of (slice_set (plain_cells (cells_of (three_at t cells)) i act) v bit)
effect_seen t n v i cells act bit is size hv hi =
    set_seen t n v (plain_cells cells (place_at t i) act) bit is (length-plain_cells cells (place_at t i) act ∙ size) hv
    ∙ ap (λ q. three_of (slice_set (cells_of q) v bit)) (plain_seen t n i cells act is size hi)
    ∙ ap (λ l. three_of (slice_set l v bit)) (plain_whole (three_at t cells) i act hi)

chosen : (t : Trio) (own seen : Bool) (whole other : List Bool) (small rest : List Bool) → own ≡ seen → three_at t whole ≡ three_of small → three_at t other ≡ three_of rest
    → three_at t (cond own whole other) ≡ three_of (cond seen small rest)
chosen t true true whole other small rest e f g = f
chosen t true false whole other small rest e f g = cc
chosen t false true whole other small rest e f g = cc
chosen t false false whole other small rest e f g = g

-- three different cells of three
abbrev pub FitsThree : LinkPlaces → Type 0
FitsThree s = FitsLinkPlaces s 3

second_within : (link : Link) (s : LinkPlaces) → FitsThree s → second_place link s < 3
second_within link s fits = go link.is_shared
  where
    go : (b : Bool) → cond b s.a s.b < 3
    go true = fits.a_within
    go false = fits.b_within

second_from : (link : Link) (t : Trio) (s : LinkPlaces) → second_place link (spots_from t s) ≡ place_at t (second_place link s)
second_from link t s = go link.is_shared
  where
    go : (b : Bool) → cond b (place_at t s.a) (place_at t s.b) ≡ place_at t (cond b s.a s.b)
    go true = refl
    go false = refl

first_acts : (t : Trio) (n i : ℕ) (link : Link) (s : LinkPlaces) (cells : List Bool) (act : Act) → IsTrio t n → FitsThree s → i < 3
    → acts link.first (first_places link (spots_from t s)) cells (place_at t i) act ≡ acts link.first (first_places link s) (cells_of (three_at t cells)) i act
first_acts t n i link s cells act is fits h = acts_seen t n s.a s.v i link.first cells act is fits.a_within fits.v_within h

second_acts : (t : Trio) (n i : ℕ) (link : Link) (s : LinkPlaces) (cells : List Bool) (act : Act) → IsTrio t n → FitsThree s → i < 3
    → acts link.second (second_places link (spots_from t s)) cells (place_at t i) act ≡ acts link.second (second_places link s) (cells_of (three_at t cells)) i act
second_acts t n i link s cells act is fits h =
    ap (λ g. acts link.second (places link.second g (place_at t s.v)) cells (place_at t i) act) (second_from link t s)
    ∙ acts_seen t n (second_place link s) s.v i link.second cells act is (second_within link s fits) fits.v_within h

pub step_seen : (t : Trio) (n i : ℕ) (link : Link) (s : LinkPlaces) (cells : List Bool) (act : Act) → IsTrio t n → FitsThree s → length cells ≡ n → i < 3
    → three_at t (linked_cells link (spots_from t s) cells (place_at t i) act) ≡ step_three link s (three_at t cells) i act
unfolding linked_cells
step_seen t n i link s cells act is fits size h =
    chosen t _ _ _ _ _ _ (first_acts t n i link s cells act is fits h) (effect_seen t n s.v i cells act link.first.after is size fits.v_within h)
    (chosen t _ _ _ _ _ _ (second_acts t n i link s cells act is fits h) (effect_seen t n s.v i cells act link.second.after is size fits.v_within h)
    (plain_seen t n i cells act is size h))

plain_told : (t : Trio) (i : ℕ) (cells : List Bool) (act : Act) → i < 3 → plain_answer cells (place_at t i) act ≡ plain_answer (cells_of (three_at t cells)) i act
plain_told t i cells (Write bit) h = refl
plain_told t i cells Read h = ap Some (cell_seen t cells i h)
plain_told t i cells Pause h = refl

pub answer_seen : (t : Trio) (n i : ℕ) (link : Link) (s : LinkPlaces) (cells : List Bool) (act : Act) → IsTrio t n → FitsThree s → i < 3
    → linked_answer link (spots_from t s) cells (place_at t i) act ≡ answer_three link s (three_at t cells) i act
unfolding linked_answer
answer_seen t n i link s cells act is fits h =
    let says : Bool → Bool → Option Bool → Option Bool =
    λ own other plain. cond own (answer_or link.first.answer plain) (cond other (answer_or link.second.answer plain) plain) in
    let big : Option Bool = plain_answer cells (place_at t i) act in
    ap (λ b. says b (acts link.second (second_places link (spots_from t s)) cells (place_at t i) act) big) (first_acts t n i link s cells act is fits h)
    ∙ ap (λ b. says (acts link.first (first_places link s) (cells_of (three_at t cells)) i act) b big) (second_acts t n i link s cells act is fits h)
    ∙ ap (says (acts link.first (first_places link s) (cells_of (three_at t cells)) i act) (acts link.second (second_places link s) (cells_of (three_at t cells)) i act))
    (plain_told t i cells act h)

pub pause_seen : (t : Trio) (n : ℕ) (link : Link) (s : LinkPlaces) (cells : List Bool) → IsTrio t n → FitsThree s → length cells ≡ n
    → three_at t (linked_pause link (spots_from t s) cells) ≡ pause_three link s (three_at t cells)
unfolding linked_pause
pause_seen t n link s cells is fits size =
    chosen t _ _ _ _ _ _ (ap (λ b. is_retention link.first && b) (states_seen t s.a s.v link.first cells fits.a_within fits.v_within))
    (set_seen t n s.v cells link.first.after is size fits.v_within)
    (chosen t _ _ _ _ _ _
    (ap (λ b. is_retention link.second && b)
    (ap (λ g. states_hold link.second (places link.second g (place_at t s.v)) cells) (second_from link t s)
    ∙ states_seen t (second_place link s) s.v link.second cells (second_within link s fits) fits.v_within))
    (set_seen t n s.v cells link.second.after is size fits.v_within) refl)

-- what a choice of lists keeps
kept_either : (own : Bool) (xs ys : List Bool) (P : List Bool → Type 0) → P xs → P ys → P (cond own xs ys)
kept_either true xs ys P p q = p
kept_either false xs ys P p q = q

pub length-linked : (link : Link) (at : LinkPlaces) (cells : List Bool) (x : ℕ) (act : Act) → length (linked_cells link at cells x act) ≡ length cells
unfolding linked_cells
length-linked link at cells x act =
    let plain : List Bool = plain_cells cells x act in
    let P : List Bool → Type 0 = λ l. length l ≡ length cells in
    let same : length plain ≡ length cells = length-plain_cells cells x act in
    kept_either (acts link.first (first_places link at) cells x act) (slice_set plain at.v link.first.after) (cond (acts link.second (second_places link at) cells x act) (slice_set plain at.v link.second.after) plain) P (length-set plain at.v link.first.after ∙ same)
    (kept_either (acts link.second (second_places link at) cells x act) (slice_set plain at.v link.second.after) plain P (length-set plain at.v link.second.after ∙ same) same)

pub length-linked_pause : (link : Link) (at : LinkPlaces) (cells : List Bool) → length (linked_pause link at cells) ≡ length cells
unfolding linked_pause
length-linked_pause link at cells =
    let P : List Bool → Type 0 = λ l. length l ≡ length cells in
    kept_either (is_retention link.first && states_hold link.first (first_places link at) cells) (slice_set cells at.v link.first.after) (cond (is_retention link.second && states_hold link.second (second_places link at) cells) (slice_set cells at.v link.second.after) cells) P (length-set cells at.v link.first.after)
    (kept_either (is_retention link.second && states_hold link.second (second_places link at) cells) (slice_set cells at.v link.second.after) cells P (length-set cells at.v link.second.after) refl)

-- the cells but the victim and the one acted on stay
pub linked_leaves : (link : Link) (at : LinkPlaces) (cells : List Bool) (x : ℕ) (act : Act) (y : ℕ) → y ≢ at.v → y ≢ x → cell (linked_cells link at cells x act) y ≡ cell cells y
unfolding linked_cells
linked_leaves link at cells x act y yv yx =
    let plain : List Bool = plain_cells cells x act in
    let P : List Bool → Type 0 = λ l. cell l y ≡ cell cells y in
    let same : cell plain y ≡ cell cells y = cell-plain_cells_other cells x act y yx in
    kept_either (acts link.first (first_places link at) cells x act) (slice_set plain at.v link.first.after) (cond (acts link.second (second_places link at) cells x act) (slice_set plain at.v link.second.after) plain) P (get_or-set_other plain at.v y link.first.after false yv ∙ same)
    (kept_either (acts link.second (second_places link at) cells x act) (slice_set plain at.v link.second.after) plain P (get_or-set_other plain at.v y link.second.after false yv ∙ same) same)

pub pause_leaves : (link : Link) (at : LinkPlaces) (cells : List Bool) (y : ℕ) → y ≢ at.v → cell (linked_pause link at cells) y ≡ cell cells y
unfolding linked_pause
pause_leaves link at cells y yv =
    let P : List Bool → Type 0 = λ l. cell l y ≡ cell cells y in
    kept_either (is_retention link.first && states_hold link.first (first_places link at) cells) (slice_set cells at.v link.first.after) (cond (is_retention link.second && states_hold link.second (second_places link at) cells) (slice_set cells at.v link.second.after) cells) P (get_or-set_other cells at.v y link.first.after false yv)
    (kept_either (is_retention link.second && states_hold link.second (second_places link at) cells) (slice_set cells at.v link.second.after) cells P (get_or-set_other cells at.v y link.second.after false yv) refl)

-- an act on another cell is nobody's own
pub agg_idle : (agg : Option Sense) (g x : ℕ) (act : Act) → g ≢ x → agg_acts agg (beside agg g) x act ≡ false
agg_idle None g x act ne = refl
agg_idle (Some sense) g x act ne = ap (λ b. b && has_this_act sense.act act) (ne_eqb g x ne)

idle : (p : Primitive) (g v x : ℕ) (cells : List Bool) (act : Act) → g ≢ x → v ≢ x → acts p (places p g v) cells x act ≡ false
unfolding acts
idle p g v x cells act gx vx =
    let holds : Bool = states_hold p (places p g v) cells in
    ap (λ b. ((b && has_this_act p.vic.act act) || agg_acts p.agg (beside p.agg g) x act) && holds) (ne_eqb v x vx)
    ∙ ap (λ b. b && holds) (agg_idle p.agg g x act gx)

pub second_elsewhere : (link : Link) (at : LinkPlaces) (x : ℕ) → at.a ≢ x → at.b ≢ x → second_place link at ≢ x
second_elsewhere link at x ax bx = go link.is_shared
  where
    go : (b : Bool) → cond b at.a at.b ≢ x
    go true = ax
    go false = bx

pub plain_there : (link : Link) (at : LinkPlaces) (cells : List Bool) (x : ℕ) (act : Act) → at.a ≢ x → at.b ≢ x → at.v ≢ x
    → linked_cells link at cells x act ≡ plain_cells cells x act
unfolding linked_cells
plain_there link at cells x act ax bx vx =
    let plain : List Bool = plain_cells cells x act in
    ap (λ b. cond b (slice_set plain at.v link.first.after) (cond (acts link.second (second_places link at) cells x act) (slice_set plain at.v link.second.after) plain))
    (idle link.first at.a at.v x cells act ax vx)
    ∙ ap (λ b. cond b (slice_set plain at.v link.second.after) plain) (idle link.second (second_place link at) at.v x cells act (second_elsewhere link at x ax bx) vx)

pub plainly_answered : (link : Link) (at : LinkPlaces) (cells : List Bool) (x : ℕ) (act : Act) → at.a ≢ x → at.b ≢ x → at.v ≢ x
    → linked_answer link at cells x act ≡ plain_answer cells x act
unfolding linked_answer
plainly_answered link at cells x act ax bx vx =
    let plain : Option Bool = plain_answer cells x act in
    ap (λ b. cond b (answer_or link.first.answer plain) (cond (acts link.second (second_places link at) cells x act) (answer_or link.second.answer plain) plain))
    (idle link.first at.a at.v x cells act ax vx)
    ∙ ap (λ b. cond b (answer_or link.second.answer plain) plain) (idle link.second (second_place link at) at.v x cells act (second_elsewhere link at x ax bx) vx)
