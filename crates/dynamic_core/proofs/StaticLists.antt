-- A list of static primitives is read as a list of items that are all static.
use Rattle.std.proofs.Common.{◌≡◌, ℕ, ◌<◌, ◌≤◌, ◌+◌, Bool, true, false, List, [], ◌∷◌, ◌++◌, ◌∙◌, Option, Some, None, Result, Ok, Err, IfOk, map, length, take, refl, sym, ap, subst, inl, inr}
use Rattle.std.proofs.lemmas.List.{map-append, length-map, take_all}
use Rattle.bist_text.specs.Grammar.{many, when}
use Rattle.bist_text.specs.Lines.{TextLine, text_lines}
use Rattle.fault_core.specs.Primitive.{Primitive}
use Rattle.fault_syntax.specs.declared.fault.FaultFault.{FaultFault}
use Rattle.fault_syntax.specs.declared.fault.FaultFault.TheVariants.{Unexpected, Truncated, NotAFault, TooManyOperations, TooManyPrimitives, NoMemory}
use Rattle.fault_syntax.specs.declared.words.GroupName.{GroupName}
use Rattle.fault_syntax.specs.declared.words.GroupName.TheVariants.{OfClass, One, Two, All, DynOne, DynTwo}
use Rattle.fault_syntax.specs.declared.words.AllowedNames.TheVariants.{Static}
use Rattle.bist_text.specs.Grammar.{is_blank}
use Rattle.fault_syntax.specs.Answers.{RefusesAt}
use Rattle.fault_syntax.specs.LineByLine.{BringBy, IsRefusedBehind}
use Rattle.fault_syntax.specs.Lists.{ReadsList}
use Rattle.fault_syntax.specs.ListText.{Item as ListedItem, Primitive as OnePrimitive, Named, item, line_end, LineText}
use Rattle.fault_syntax.specs.PrimText.{ws}
use Rattle.fault_syntax.specs.Names.{is_in}
use Rattle.fault_syntax.specs.Parts.{Brings, primitives_of}
use Rattle.dynamic_core.specs.declared.item.Item.{Item}
use Rattle.dynamic_core.specs.declared.item.Item.TheVariants.{Plain, Dyn}
use Rattle.dynamic_core.specs.ItemParts.{IsItemIn, RefusesOn, BringsIn, items_of}
use Rattle.dynamic_core.specs.Items.{ReadsIn}
use Rattle.dynamic_core.specs.inner.Reading.{statics_of}

-- what holds wherever a text begins behind blanks
behind_blanks : (P : Type 0) (K : List ℕ → Type 0) → ((b : List ℕ) → K b → P) → (b : List ℕ) → many is_blank K b → P
behind_blanks P K f [] h = f [] h
behind_blanks P K f (c ∷ b) h = elim h [ inl k ↦ f (c ∷ b) k | inr k ↦ go (is_blank c) k (behind_blanks P K f b) ]
  where
    go : (t : Bool) → when t (many is_blank K b) → (many is_blank K b → P) → P
    go true k g = g k
    go false k g = absurd k

-- what a line brings is static
abbrev AreStatic : Option ListedItem → List Item → Type 0
AreStatic v items = (ps : List Primitive) × Brings v ps × (items ≡ map Plain ps)

static_name : (n : GroupName) → is_in Static n ≡ true → items_of n ≡ map Plain (primitives_of n)
static_name (OfClass class) e = refl
static_name One e = refl
static_name Two e = refl
static_name All e = refl
static_name DynOne e = cc
static_name DynTwo e = cc

brings_static : (b : List ℕ) (v : Option ListedItem) (items : List Item) → LineText b v → BringsIn Static v items → AreStatic v items
brings_static b None items t h = ([], refl, h)
brings_static b (Some (Named n)) items t h = (primitives_of n, refl, h ∙ static_name n (behind_blanks (is_in Static n ≡ true) (item Static (Named n) (ws line_end)) (λ x k. k.0) b t))
brings_static b (Some (OnePrimitive text)) items t h = one h.0 h.1 h.2
  where
    one : (item : Item) → IsItemIn Static text item → items ≡ item ∷ [] → AreStatic (Some (OnePrimitive text)) items
    one (Plain p) i e = (p ∷ [], (p, i.0, i.1, refl), e)
    one (Dyn p) i e = absurd i

abbrev AllStatic : List TextLine → List Item → Type 0
AllStatic ls items = (ps : List Primitive) × BringBy LineText Brings ls ps × (items ≡ map Plain ps)

bring_static : (ls : List TextLine) (items : List Item) → BringBy LineText (BringsIn Static) ls items → AllStatic ls items
bring_static [] items h = ([], refl, h)
bring_static (l ∷ ls) items h =
    let first = brings_static l.text h.0 h.1 h.3 h.4 in
    let others = bring_static ls h.2 h.5 in (
      first.0 ++ others.0,
      (h.0, first.0, others.0, h.3, first.1, others.1, refl),
      h.6 ∙ ap (λ x. x ++ h.2) first.2 ∙ ap (λ x. map Plain first.0 ++ x) others.2 ∙ sym (map-append Plain first.0 others.0),
    )

counted : (items : List Item) (ps : List Primitive) → items ≡ map Plain ps → length items ≡ length ps
counted items ps e = ap length e ∙ length-map ps Plain

statics_are : (items : List Item) (ps : List Primitive) → items ≡ map Plain ps → ps ≡ statics_of items
statics_are items ps e = go ps ∙ ap statics_of (sym e)
  where
    go : (ps : List Primitive) → ps ≡ statics_of (map Plain ps)
    go [] = refl
    go (p ∷ ps) = ap (λ x. p ∷ x) (go ps)

pub all_static : (items : List Item) (i : ℕ) (now : List Primitive) → length items ≤ i → now ≡ statics_of (take i items) → now ≡ statics_of items
all_static items i now h inv = inv ∙ ap statics_of (take_all i items h)

pub list_read : (b : List ℕ) (items : List Item) → ReadsIn Static b (Ok items) → ReadsList b (Ok (statics_of items))
list_read b items h =
    let s = bring_static (text_lines b) items h.0 in
    let same : s.0 ≡ statics_of items = statics_are items s.0 s.2 in
    (subst (BringBy LineText Brings (text_lines b)) same s.1, subst (λ n. n ≤ 1024) (counted items s.0 s.2 ∙ ap length same) h.1)

pub list_ok : {X : Type 0} (view : X → List Primitive) (b : List ℕ) (items : List Item) (r : Result X FaultFault) → ReadsIn Static b (Ok items)
    → IfOk r (λ x. view x ≡ statics_of items) → IfOk r (λ x. ReadsList b (Ok (view x)))
list_ok view b items (Ok x) h e = subst (λ ps. ReadsList b (Ok ps)) (sym e) (list_read b items h)
list_ok view b items (Err fault) h e = tt

refused_static : (held : List Item) (ps : List Primitive) (l : TextLine) (fault : FaultFault) → held ≡ map Plain ps
    → IsRefusedBehind LineText (BringsIn Static) OnePrimitive (RefusesOn Static) held l fault → IsRefusedBehind LineText Brings OnePrimitive RefusesAt ps l fault
refused_static held ps l (TooManyPrimitives n) e h =
    let s = brings_static l.text h.1 h.2 h.3 h.4 in
    (h.0, h.1, s.0, h.3, s.1, subst (λ k. 1024 < k + length s.0) (counted held ps e) (subst (λ k. 1024 < length held + k) (counted h.2 s.0 s.2) h.5))
refused_static held ps l (Unexpected n k) e h = h
refused_static held ps l (Truncated n) e h = h
refused_static held ps l (NotAFault n) e h = h
refused_static held ps l (TooManyOperations n) e h = h
refused_static held ps l NoMemory e h = h

pub list_refused : (b : List ℕ) (fault : FaultFault) → ReadsIn Static b (Err fault) → ReadsList b (Err fault)
list_refused b fault r =
    let s = bring_static r.before r.held r.brought in
    record {
      before = r.before;
      line = r.line;
      after = r.after;
      held = s.0;
      split = r.split;
      brought = s.1;
      within = subst (λ n. n ≤ 1024) (counted r.held s.0 s.2) r.within;
      refused = refused_static r.held s.0 r.line fault s.2 r.refused;
    }
