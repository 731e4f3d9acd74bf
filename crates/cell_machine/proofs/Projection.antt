-- An array of any length seen through one pair of its cells: closing and one act on any cell.
use Rattle.std.proofs.Common.{◌≡◌, ◌≢◌, ◌<◌, ℕ, Bool, true, false, not, ◌&&◌, ◌||◌, Option, Some, None, is_some, List, length, refl, ap, sym, subst, ◌∙◌}
use Rattle.std.specs.Prelude.{if◌then◌else◌, slice_set, ◌==◌}
use Rattle.std.proofs.lemmas.Bool.{eq-eqb, ne_eqb}
use Rattle.std.proofs.lemmas.List.{length-set, get_or-set_same, get_or-set_other}
use Rattle.fault_core.specs.declared.primitive.Act.{Act}
use Rattle.fault_core.specs.declared.primitive.Act.TheVariants.{Write, Read, Pause}
use Rattle.fault_core.specs.declared.primitive.Sense.{Sense}
use Rattle.fault_core.specs.declared.cells.Places.{Places}
use Rattle.fault_core.specs.Primitive.{Primitive, same_bit, is_retention}
use Rattle.fault_core.specs.Cells.{cell, agg_holds, states_hold, has_act, close_of, has_this_act, agg_acts, acts, plain_cells, plain_answer, answer_or, acted, step_cells, step_answer, pause_cells}
use Rattle.cell_machine.specs.declared.pair.Pair.{Pair}
use Rattle.cell_machine.specs.declared.pair.Side.TheVariants.{A, V}
use Rattle.cell_machine.specs.Pairs.{pair_of, side_holds, pair_holds, with_victim, pair_close, agg_act_of, pair_acts, plain_pair, plain_reply, pair_step, pair_answer, pair_pause}
use Rattle.cell_machine.specs.Seen.{pair_at}
use Rattle.cell_machine.specs.inner.Seen.{SeesPair}

and-false : (b : Bool) → (b && false) ≡ false
and-false true = refl
and-false false = refl

-- a write that may be left out
abbrev pub set_if : Bool → List Bool → ℕ → Bool → List Bool
set_if b cells i bit = if b then slice_set cells i bit else cells

pub length-set_if : (b : Bool) (cells : List Bool) (i : ℕ) (bit : Bool) → length (set_if b cells i bit) ≡ length cells
length-set_if true cells i bit = length-set cells i bit
length-set_if false cells i bit = refl

pub cell-set_if_other : (b : Bool) (cells : List Bool) (i y : ℕ) (bit : Bool) → y ≢ i → cell (set_if b cells i bit) y ≡ cell cells y
cell-set_if_other true cells i y bit apart = get_or-set_other cells i y bit false apart
cell-set_if_other false cells i y bit apart = refl

-- array lengths
pub length-close_of : (p : Primitive) (at : Places) (cells : List Bool) → length (close_of p at cells) ≡ length cells
unfolding close_of
length-close_of p at cells = length-set_if (not (has_act p) && states_hold p at cells) cells at.vic p.after

pub length-plain_cells : (cells : List Bool) (x : ℕ) (act : Act) → length (plain_cells cells x act) ≡ length cells
length-plain_cells cells x (Write bit) = length-set cells x bit
length-plain_cells cells x Read = refl
length-plain_cells cells x Pause = refl

pub length-step_cells : (p : Primitive) (at : Places) (cells : List Bool) (x : ℕ) (act : Act) → length (step_cells p at cells x act) ≡ length cells
unfolding step_cells
length-step_cells p at cells x act =
    length-close_of p at (acted p at cells x act)
    ∙ length-set_if (acts p at cells x act) (plain_cells cells x act) at.vic p.after
    ∙ length-plain_cells cells x act

-- cells other than the victim change only by a plain write
pub cell-close_of_other : (p : Primitive) (at : Places) (cells : List Bool) (y : ℕ) → y ≢ at.vic → cell (close_of p at cells) y ≡ cell cells y
unfolding close_of
cell-close_of_other p at cells y apart = cell-set_if_other (not (has_act p) && states_hold p at cells) cells at.vic y p.after apart

pub cell-step_cells_other : (p : Primitive) (at : Places) (cells : List Bool) (x : ℕ) (act : Act) (y : ℕ) → y ≢ at.vic
    → cell (step_cells p at cells x act) y ≡ cell (plain_cells cells x act) y
unfolding step_cells
cell-step_cells_other p at cells x act y apart =
    cell-close_of_other p at (acted p at cells x act) y apart
    ∙ cell-set_if_other (acts p at cells x act) (plain_cells cells x act) at.vic y p.after apart

pub cell-plain_cells_other : (cells : List Bool) (x : ℕ) (act : Act) (y : ℕ) → y ≢ x → cell (plain_cells cells x act) y ≡ cell cells y
cell-plain_cells_other cells x (Write bit) y apart = get_or-set_other cells x y bit false apart
cell-plain_cells_other cells x Read y apart = refl
cell-plain_cells_other cells x Pause y apart = refl

-- the pair after a write of its victim that may be left out
pair_at-set_if : (b : Bool) (cells : List Bool) (a v : ℕ) (bit : Bool) → a ≢ v → v < length cells
    → pair_at (set_if b cells v bit) a v ≡ (if b then with_victim (pair_at cells a v) bit else pair_at cells a v)
pair_at-set_if true cells a v bit apart inside =
    let kept : cell (slice_set cells v bit) a ≡ cell cells a = get_or-set_other cells v a bit false apart in
    let set_ : cell (slice_set cells v bit) v ≡ bit = get_or-set_same cells v bit false inside in
    ap (λ x. pair_of x (cell (slice_set cells v bit) v)) kept ∙ ap (pair_of (cell cells a)) set_
pair_at-set_if false cells a v bit apart inside = refl

-- the aggressor's state is seen in the pair
agg_holds-seen : (agg : Option Sense) (place : Option ℕ) (a : ℕ) (cells : List Bool) → place ≡ (if is_some agg then Some a else None)
    → agg_holds agg place cells ≡ side_holds agg (cell cells a)
agg_holds-seen None place a cells e = refl
agg_holds-seen (Some sense) None a cells e = cc
agg_holds-seen (Some sense) (Some x) a cells e = let same : x ≡ a = cc in ap (λ y. same_bit (cell cells y) sense.state) same

pub states_hold-seen : (p : Primitive) (at : Places) (a size : ℕ) (cells : List Bool) → SeesPair p at a size
    → states_hold p at cells ≡ pair_holds p (pair_at cells a at.vic)
states_hold-seen p at a size cells sees =
    ap (λ b. same_bit (cell cells at.vic) p.vic.state && b) (agg_holds-seen p.agg at.agg a cells sees.aggressor)

-- closing an array closes each pair that the instance is about
pub pair_at-close_of : (p : Primitive) (at : Places) (a : ℕ) (cells : List Bool) → SeesPair p at a (length cells)
    → pair_at (close_of p at cells) a at.vic ≡ pair_close p (pair_at cells a at.vic)
unfolding close_of pair_close
pair_at-close_of p at a cells sees =
    pair_at-set_if (not (has_act p) && states_hold p at cells) cells a at.vic p.after sees.apart sees.victim
    ∙ ap (λ b. if not (has_act p) && b then with_victim (pair_at cells a at.vic) p.after else pair_at cells a at.vic)
    (states_hold-seen p at a (length cells) cells sees)

-- whether an act on cell x is the aggressor's
agg_acts-at : (agg : Option Sense) (place : Option ℕ) (a x : ℕ) (act : Act) → place ≡ (if is_some agg then Some a else None)
    → agg_acts agg place x act ≡ ((a == x) && has_this_act (agg_act_of agg) act)
agg_acts-at None place a x act e = sym (and-false (a == x))
agg_acts-at (Some sense) None a x act e = cc
agg_acts-at (Some sense) (Some y) a x act e = let same : y ≡ a = cc in ap (λ z. (z == x) && has_this_act sense.act act) same

-- whose act it is, by the tests of the places
own_left : (here there t g : Bool) → here ≡ true → there ≡ false → ((here && t) || (there && g)) ≡ t
own_left true true t g e f = cc
own_left true false true g e f = refl
own_left true false false g e f = refl
own_left false there t g e f = cc

own_right : (here there t g : Bool) → here ≡ false → there ≡ true → ((here && t) || (there && g)) ≡ g
own_right true there t g e f = cc
own_right false true t g e f = refl
own_right false false t g e f = cc

own_none : (here there t g : Bool) → here ≡ false → there ≡ false → ((here && t) || (there && g)) ≡ false
own_none true there t g e f = cc
own_none false true t g e f = cc
own_none false false t g e f = refl

acts-parts : (p : Primitive) (at : Places) (a size : ℕ) (cells : List Bool) (x : ℕ) (act : Act) → SeesPair p at a size
    → acts p at cells x act
    ≡ ((((at.vic == x) && has_this_act p.vic.act act) || ((a == x) && has_this_act (agg_act_of p.agg) act))
    && pair_holds p (pair_at cells a at.vic))
unfolding acts
acts-parts p at a size cells x act sees =
    ap (λ g. (((at.vic == x) && has_this_act p.vic.act act) || g) && states_hold p at cells)
    (agg_acts-at p.agg at.agg a x act sees.aggressor)
    ∙ ap (λ h. (((at.vic == x) && has_this_act p.vic.act act) || ((a == x) && has_this_act (agg_act_of p.agg) act)) && h)
    (states_hold-seen p at a size cells sees)

-- an act matches in the array where it matches in the pair
pub acts-victim : (p : Primitive) (at : Places) (a size : ℕ) (cells : List Bool) (act : Act) → SeesPair p at a size
    → acts p at cells at.vic act ≡ pair_acts p (pair_at cells a at.vic) V act
unfolding pair_acts
acts-victim p at a size cells act sees =
    acts-parts p at a size cells at.vic act sees
    ∙ ap (λ b. b && pair_holds p (pair_at cells a at.vic))
    (own_left (at.vic == at.vic) (a == at.vic) _ _ (eq-eqb at.vic at.vic refl) (ne_eqb a at.vic sees.apart))

pub acts-aggressor : (p : Primitive) (at : Places) (a size : ℕ) (cells : List Bool) (act : Act) → SeesPair p at a size
    → acts p at cells a act ≡ pair_acts p (pair_at cells a at.vic) A act
unfolding pair_acts
acts-aggressor p at a size cells act sees =
    acts-parts p at a size cells a act sees
    ∙ ap (λ b. b && pair_holds p (pair_at cells a at.vic))
    (own_right (at.vic == a) (a == a) _ _ (ne_eqb at.vic a (λ e. sees.apart (sym e))) (eq-eqb a a refl))

pub acts-elsewhere : (p : Primitive) (at : Places) (a size : ℕ) (cells : List Bool) (x : ℕ) (act : Act) → SeesPair p at a size
    → x ≢ a → x ≢ at.vic → acts p at cells x act ≡ false
acts-elsewhere p at a size cells x act sees off_a off_v =
    acts-parts p at a size cells x act sees
    ∙ ap (λ b. b && pair_holds p (pair_at cells a at.vic))
    (own_none (at.vic == x) (a == x) _ _ (ne_eqb at.vic x (λ e. off_v (sym e))) (ne_eqb a x (λ e. off_a (sym e))))

-- the plain part
plain-victim : (cells : List Bool) (a v : ℕ) (act : Act) → a ≢ v → v < length cells
    → pair_at (plain_cells cells v act) a v ≡ plain_pair (pair_at cells a v) V act
plain-victim cells a v (Write bit) apart inside = pair_at-set_if true cells a v bit apart inside
plain-victim cells a v Read apart inside = refl
plain-victim cells a v Pause apart inside = refl

plain-aggressor : (cells : List Bool) (a v : ℕ) (act : Act) → a ≢ v → a < length cells
    → pair_at (plain_cells cells a act) a v ≡ plain_pair (pair_at cells a v) A act
plain-aggressor cells a v (Write bit) apart inside =
    let written : cell (slice_set cells a bit) a ≡ bit = get_or-set_same cells a bit false inside in
    let kept : cell (slice_set cells a bit) v ≡ cell cells v = get_or-set_other cells a v bit false (λ e. apart (sym e)) in
    ap (λ x. pair_of x (cell (slice_set cells a bit) v)) written ∙ ap (pair_of bit) kept
plain-aggressor cells a v Read apart inside = refl
plain-aggressor cells a v Pause apart inside = refl

-- a step of an array of which the match and the plain part are known
sees-resized : (p : Primitive) (at : Places) (a size size' : ℕ) → size' ≡ size → SeesPair p at a size → SeesPair p at a size'
sees-resized p at a size size' e sees =
    record { aggressor = sees.aggressor; apart = sees.apart; victim = subst (λ n. at.vic < n) (sym e) sees.victim }

pair_at-step : (p : Primitive) (at : Places) (a : ℕ) (cells : List Bool) (x : ℕ) (act : Act) → SeesPair p at a (length cells)
    → (own : Bool) (plain : Pair) → acts p at cells x act ≡ own → pair_at (plain_cells cells x act) a at.vic ≡ plain
    → pair_at (step_cells p at cells x act) a at.vic ≡ pair_close p (if own then with_victim plain p.after else plain)
unfolding step_cells
pair_at-step p at a cells x act sees own plain matches plainly =
    let plain_size : length (plain_cells cells x act) ≡ length cells = length-plain_cells cells x act in
    let size : length (acted p at cells x act) ≡ length cells =
    length-set_if (acts p at cells x act) (plain_cells cells x act) at.vic p.after ∙ plain_size in
    let sees_plain : SeesPair p at a (length (plain_cells cells x act)) = sees-resized p at a _ _ plain_size sees in
    pair_at-close_of p at a (acted p at cells x act) (sees-resized p at a _ _ size sees)
    ∙ ap (pair_close p)
    (pair_at-set_if (acts p at cells x act) (plain_cells cells x act) a at.vic p.after sees.apart sees_plain.victim
    ∙ ap (λ b. if b then with_victim (pair_at (plain_cells cells x act) a at.vic) p.after else pair_at (plain_cells cells x act) a at.vic) matches
    ∙ ap (λ q. if own then with_victim q p.after else q) plainly)

-- one act on the victim, on the aggressor or bystander, and on any other cell, as the pair sees it
pub pair_at-step_victim : (p : Primitive) (at : Places) (a : ℕ) (cells : List Bool) (act : Act) → SeesPair p at a (length cells)
    → pair_at (step_cells p at cells at.vic act) a at.vic ≡ pair_step p (pair_at cells a at.vic) V act
unfolding pair_step
pair_at-step_victim p at a cells act sees =
    pair_at-step p at a cells at.vic act sees _ _ (acts-victim p at a (length cells) cells act sees)
    (plain-victim cells a at.vic act sees.apart sees.victim)

pub pair_at-step_aggressor : (p : Primitive) (at : Places) (a : ℕ) (cells : List Bool) (act : Act) → SeesPair p at a (length cells) → a < length cells
    → pair_at (step_cells p at cells a act) a at.vic ≡ pair_step p (pair_at cells a at.vic) A act
unfolding pair_step
pair_at-step_aggressor p at a cells act sees inside =
    pair_at-step p at a cells a act sees _ _ (acts-aggressor p at a (length cells) cells act sees)
    (plain-aggressor cells a at.vic act sees.apart inside)

-- a pause, as the pair sees it
pub pair_at-pause_cells : (p : Primitive) (at : Places) (a : ℕ) (cells : List Bool) → SeesPair p at a (length cells)
    → pair_at (pause_cells p at cells) a at.vic ≡ pair_pause p (pair_at cells a at.vic)
unfolding pause_cells pair_pause
pair_at-pause_cells p at a cells sees =
    let own : Bool = is_retention p && states_hold p at cells in
    let size : length (set_if own cells at.vic p.after) ≡ length cells = length-set_if own cells at.vic p.after in
    pair_at-close_of p at a (set_if own cells at.vic p.after) (sees-resized p at a _ _ size sees)
    ∙ ap (pair_close p)
    (pair_at-set_if own cells a at.vic p.after sees.apart sees.victim
    ∙ ap (λ b. if is_retention p && b then with_victim (pair_at cells a at.vic) p.after else pair_at cells a at.vic)
    (states_hold-seen p at a (length cells) cells sees))

pub length-pause_cells : (p : Primitive) (at : Places) (cells : List Bool) → length (pause_cells p at cells) ≡ length cells
unfolding pause_cells
length-pause_cells p at cells =
    length-close_of p at (set_if (is_retention p && states_hold p at cells) cells at.vic p.after)
    ∙ length-set_if (is_retention p && states_hold p at cells) cells at.vic p.after

-- cells other than the victim stay
pub cell-pause_cells_other : (p : Primitive) (at : Places) (cells : List Bool) (y : ℕ) → y ≢ at.vic → cell (pause_cells p at cells) y ≡ cell cells y
unfolding pause_cells
cell-pause_cells_other p at cells y apart =
    cell-close_of_other p at (set_if (is_retention p && states_hold p at cells) cells at.vic p.after) y apart
    ∙ cell-set_if_other (is_retention p && states_hold p at cells) cells at.vic y p.after apart

-- what the acts answer
plain_answer-reply : (cells : List Bool) (a v : ℕ) (act : Act) → plain_answer cells v act ≡ plain_reply (pair_at cells a v) V act
plain_answer-reply cells a v (Write bit) = refl
plain_answer-reply cells a v Read = refl
plain_answer-reply cells a v Pause = refl

plain_answer-reply_aggressor : (cells : List Bool) (a v : ℕ) (act : Act) → plain_answer cells a act ≡ plain_reply (pair_at cells a v) A act
plain_answer-reply_aggressor cells a v (Write bit) = refl
plain_answer-reply_aggressor cells a v Read = refl
plain_answer-reply_aggressor cells a v Pause = refl

step_answer-parts : (p : Primitive) (at : Places) (cells : List Bool) (x : ℕ) (act : Act) (own : Bool) (plain : Option Bool)
    → acts p at cells x act ≡ own → plain_answer cells x act ≡ plain
    → step_answer p at cells x act ≡ (if own then answer_or p.answer plain else plain)
unfolding step_answer
step_answer-parts p at cells x act own plain matches plainly =
    ap (λ b. if b then answer_or p.answer (plain_answer cells x act) else plain_answer cells x act) matches
    ∙ ap (λ r. if own then answer_or p.answer r else r) plainly

pub step_answer-victim : (p : Primitive) (at : Places) (a size : ℕ) (cells : List Bool) (act : Act) → SeesPair p at a size
    → step_answer p at cells at.vic act ≡ pair_answer p (pair_at cells a at.vic) V act
unfolding pair_answer
step_answer-victim p at a size cells act sees =
    step_answer-parts p at cells at.vic act _ _ (acts-victim p at a size cells act sees) (plain_answer-reply cells a at.vic act)

pub step_answer-aggressor : (p : Primitive) (at : Places) (a size : ℕ) (cells : List Bool) (act : Act) → SeesPair p at a size
    → step_answer p at cells a act ≡ pair_answer p (pair_at cells a at.vic) A act
unfolding pair_answer
step_answer-aggressor p at a size cells act sees =
    step_answer-parts p at cells a act _ _ (acts-aggressor p at a size cells act sees) (plain_answer-reply_aggressor cells a at.vic act)

pub step_answer-elsewhere : (p : Primitive) (at : Places) (a size : ℕ) (cells : List Bool) (x : ℕ) (act : Act) → SeesPair p at a size
    → x ≢ a → x ≢ at.vic → step_answer p at cells x act ≡ plain_answer cells x act
step_answer-elsewhere p at a size cells x act sees off_a off_v =
    step_answer-parts p at cells x act false _ (acts-elsewhere p at a size cells x act sees off_a off_v) refl
