use Rattle.std.proofs.Common.{List, None, Option, [], ap, append_assoc, arith, get_or, length, length-take-le, lit<, lit≤, refl, sym, take, take_all, ℕ, ◌*◌, ◌+◌, ◌++◌, ◌<◌, ◌∙◌, ◌∷◌, ◌≡◌, ◌≤◌}
use Rattle.std.proofs.Math.Path.{ap₂}
use Rattle.std.proofs.lemmas.List.{flat_map_more, take_more}
use Rattle.fault_core.specs.Primitive.{Primitive}
use Rattle.fault_core.specs.Table.{members_of}
use Rattle.fault_core.specs.declared.primitive.Sense.{Sense}
use Rattle.fault_core.specs.declared.table.Class.{Class}
use Rattle.fault_core.specs.declared.table.Class.TheVariants.{SF, TF, WDF, RDF, DRDF, IRF, CFst, CFds, CFtr, CFwd, CFrd, CFdr, CFir, DRF}
use Rattle.fault_core.specs.inner.Rows.{both_states, rows_of, senses_of}
use Rattle.fault_core.proofs.table.members.Goals as goal

by_senses : (class : Class) → (rows_of class (senses_of class) ≡ members_of class) × (length (senses_of class) ≤ 6)
by_senses SF = (refl, lit≤ tt)
by_senses TF = (refl, lit≤ tt)
by_senses WDF = (refl, lit≤ tt)
by_senses RDF = (refl, lit≤ tt)
by_senses DRDF = (refl, lit≤ tt)
by_senses IRF = (refl, lit≤ tt)
by_senses CFst = (refl, lit≤ tt)
by_senses CFds = (refl, lit≤ tt)
by_senses CFtr = (refl, lit≤ tt)
by_senses CFwd = (refl, lit≤ tt)
by_senses CFrd = (refl, lit≤ tt)
by_senses CFdr = (refl, lit≤ tt)
by_senses CFir = (refl, lit≤ tt)
by_senses DRF = (refl, lit≤ tt)

two_each : (class : Class) (xs : List (Option Sense)) → length (rows_of class xs) ≡ 2 * length xs
two_each class [] = refl
two_each class (x ∷ xs) = let e = two_each class xs in omega arith

module _ (class : Class) (xs : List (Option Sense)) (i : ℕ) (items : List Primitive) (senses : xs ≡ senses_of class) (rows : items ≡ rows_of class (take i xs)) where
  room : i < length xs → length items + 2 ≤ 12
  room l =
      let few = (by_senses class).1 in
      let so_far = length-take-le i xs (omega arith) in omega (arith, ap length rows, two_each class (take i xs), ap length senses)

  more : (once twice : List Primitive) (a b : Primitive) → i < length xs → both_states class (get_or xs i None) ≡ a ∷ b ∷ [] → once ≡ items ++ a ∷ [] → twice ≡ once ++ b ∷ [] → twice ≡ rows_of class (take (i + 1) xs)
  more once twice a b l e h k =
      k ∙ ap (λ ps. ps ++ b ∷ []) h ∙ append_assoc items (a ∷ []) (b ∷ []) ∙ ap (λ ps. ps ++ a ∷ b ∷ []) rows
      ∙ ap (λ ps. rows_of class (take i xs) ++ ps) (sym e)
      ∙ flat_map_more (both_states class) [] (take i xs) (get_or xs i None)
      ∙ ap (rows_of class) (sym (take_more xs i None l))

  all : length xs ≤ i → items ≡ members_of class
  all l = rows ∙ ap (rows_of class) (take_all i xs l ∙ senses) ∙ (by_senses class).0

pub push-requires : goal.push-requires
push-requires c = (lit< tt, (let free = room c.args.class c.aggressors-agg-items.result.now c.loop-agg.agg-index c.loop-agg.prims.items c.aggressors-agg-items.ensures c.loop-agg.invariant c.loop-agg-test.true in omega arith))

pub push-requires-in-loop-agg : goal.push-requires-in-loop-agg
push-requires-in-loop-agg c =
    let free = room c.args.class c.aggressors-agg-items.result.now c.loop-agg.agg-index c.loop-agg.prims.items c.aggressors-agg-items.ensures c.loop-agg.invariant c.loop-agg-test.true in
    (lit< tt, omega (arith, c.push.ensures.len))

pub loop-agg-preserved : goal.loop-agg-preserved
loop-agg-preserved c =
    more c.args.class c.aggressors-agg-items.result.now c.loop-agg.agg-index c.loop-agg.prims.items c.aggressors-agg-items.ensures c.loop-agg.invariant c.push.new.self.items c.push-in-loop-agg.new.self.items
    c.member.result c.member-in-loop-agg.result c.loop-agg-test.true (ap₂ (λ (a b : Primitive). a ∷ b ∷ []) (sym c.member.ensures) (sym c.member-in-loop-agg.ensures)) c.push.ensures.items c.push-in-loop-agg.ensures.items

pub returns : goal.returns
returns c = all c.args.class c.aggressors-agg-items.result.now c.loop-agg.agg-index c.loop-agg.prims.items c.aggressors-agg-items.ensures c.loop-agg.invariant c.loop-agg-test.false
