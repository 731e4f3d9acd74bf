-- What the laws ask for is there.
use Rattle.std.proofs.Common.{◌≡◌, ◌≢◌, ◌<◌, ℕ, zero, suc, IsSome, Bool, true, false, cond, eqb, Option, Some, None, List, refl, sym, ◌∙◌}
use Rattle.march_core.specs.March.{MarchElement}
use Rattle.march_core.specs.Runs.{up}
use Rattle.march_core.specs.Visits.{visits}
use Rattle.memory_desc.specs.Descriptions.{Description, IsMemory}
use Rattle.std.specs.Prelude.{if◌then◌else◌}
use Rattle.fault_core.specs.declared.primitive.Sense.{Sense}
use Rattle.word_device.specs.declared.device.BitPlace.{BitPlace}
use Rattle.word_device.specs.Chips.{FitsAggPlace}
use Rattle.dynamic_core.specs.Primitive.{DynamicSense, DynamicPrimitive}
use Rattle.dynamic_core.specs.Detecting.{FitsDynAgg}
use Rattle.word_faults.specs.Linked.{bit_beside}
use Rattle.word_faults.specs.Dynamic.{word_of, bit_or}
use Rattle.word_faults.specs.Laws.{IsBegun}
use Rattle.word_faults.specs.There.{EndsElsewhere, IsBit, AreThere}
use Rattle.word_faults.proofs.Decoders.{read_as}
use Rattle.word_faults.proofs.Catching.{solid_at}

agg_fits : (d : Description) (agg : Option DynamicSense) (a v : BitPlace) → IsBit d a → a.word ≢ v.word → FitsDynAgg agg (word_of (bit_beside agg a)) v.word d.words
agg_fits d None a v is apart = tt
agg_fits d (Some sense) a v is apart = (is.word, apart)

bits_fit : (d : Description) (agg : Option DynamicSense) (a v : BitPlace) → IsBit d a → IsBit d v → (k : ℕ) → cond (eqb v.word k) v.bit (bit_or (bit_beside agg a) v.bit) < d.bits
bits_fit d agg a v a_is v_is k = go (eqb v.word k) agg
  where
    go : (b : Bool) (agg : Option DynamicSense) → cond b v.bit (bit_or (bit_beside agg a) v.bit) < d.bits
    go true agg = v_is.bit
    go false None = v_is.bit
    go false (Some sense) = a_is.bit

agg_place : (d : Description) (agg : Option Sense) (a v : BitPlace) → IsBit d a → a.word ≢ v.word → FitsAggPlace agg (bit_beside agg a) v d.words d.bits
agg_place d None a v is apart = tt
agg_place d (Some sense) a v is apart = (is.word, is.bit, apart)

second_place : (d : Description) (agg : Option Sense) (shared : Bool) (a b v : BitPlace) → IsBit d a → IsBit d b → a.word ≢ v.word → b.word ≢ v.word
    → FitsAggPlace agg (bit_beside agg (if shared then a else b)) v d.words d.bits
second_place d agg true a b v a_is b_is av bv = agg_place d agg a v a_is av
second_place d agg false a b v a_is b_is av bv = agg_place d agg b v b_is bv

no_place : (d : Description) (agg : Option Sense) (a v : BitPlace) → agg ≡ None → FitsAggPlace agg (bit_beside agg a) v d.words d.bits
no_place d None a v none = tt
no_place d (Some sense) a v none = cc

no_aggressor : {A : Type 0} (agg : Option Sense) → agg ≡ None → IsSome agg → A
no_aggressor None none some = absurd (cc)
no_aggressor (Some sense) none some = absurd (cc)

clash : {A : Type 0} {b : Bool} → b ≡ true → b ≡ false → A
clash on off = absurd (let wrong : true ≡ false = sym on ∙ off in cc)

apart_begins : (d : Description) (p : DynamicPrimitive) (march : List MarchElement) → EndsElsewhere (visits march (up march) d.words) → (k : ℕ) → IsBegun p march d k
apart_begins d p march apart zero = tt
apart_begins d p march apart (suc k) = λ x at on. apart on.first on.last on.behind on.before on.is_first on.is_last (sym on.same_word)

pub are_there : (d : Description) → IsMemory d → AreThere d
are_there d is = record {
  words = λ words pending idle size way. record { words = size; under_way = way };
  held = λ words pending armed idle size way. record { words = size; under_way = way };
  bits = λ link a b v a_is b_is v_is av bv ab. record {
    first = record { word = v_is.word; bit = v_is.bit; agg = agg_place d link.first.agg a v a_is av };
    second = record { word = v_is.word; bit = v_is.bit; agg = second_place d link.second.agg link.is_shared a b v a_is b_is av bv };
    apart = λ first second shared. ab;
  };
  two_bits = λ link a v one a_is v_is apart. record {
    first = record { word = v_is.word; bit = v_is.bit; agg = agg_place d link.first.agg a v a_is apart };
    second = record { word = v_is.word; bit = v_is.bit; agg = second_place d link.second.agg link.is_shared a a v a_is a_is apart apart };
    apart = λ first second shared. clash (one first second) shared;
  };
  one_bit = λ link v first second v_is. record {
    first = record { word = v_is.word; bit = v_is.bit; agg = no_place d link.first.agg v v first };
    second = record { word = v_is.word; bit = v_is.bit; agg = no_place d link.second.agg (if link.is_shared then v else v) v second };
    apart = λ some other shared. no_aggressor link.first.agg first some;
  };
  places = λ p a v a_is v_is apart. record {
    cells = record { victim = v_is.word; aggressor = agg_fits d p.agg a v a_is apart };
    each_bit = bits_fit d p.agg a v a_is v_is;
  };
  reads = λ decoder j low. (record { bit = j; low = low; as_cell = λ k words. read_as d.bits j low (decoder k) words }, refl);
  first = λ p march at. (0, at, tt);
  elsewhere = λ p march apart. let solid = is.tested.solid in (solid.0, solid_at d.backgrounds solid.0 solid.1 solid.2, apart_begins d p march apart solid.0);
}
