-- From the outcome of the machine to what the reader of a primitive promises.
use Rattle.std.proofs.Common.{◌≡◌, ◌↔◌, ℕ, List, Option, Some, None, Result, Ok, Err, refl, sym, subst}
use Rattle.bist_text.specs.Machine.{Outcome, read, unexpected, truncated, scan}
use Rattle.bist_text.specs.inner.Machine.{IsExact}
use Rattle.bist_text.proofs.Settled.{scan_exact}
use Rattle.fault_core.specs.Primitive.{Primitive}
use Rattle.fault_syntax.specs.declared.fault.FaultFault.{FaultFault}
use Rattle.fault_syntax.specs.declared.fault.FaultFault.TheVariants.{Unexpected, Truncated, NotAFault, TooManyOperations, TooManyPrimitives, NoMemory}
use Rattle.fault_syntax.specs.Answers.{RefusesAt, ReadsPrim}
use Rattle.fault_syntax.specs.inner.Answers.{GivesPrim}
use Rattle.fault_syntax.specs.ListText.{Item, Primitive as OnePrimitive, Named}
use Rattle.fault_syntax.specs.inner.Brief.{answer_of}
use Rattle.fault_syntax.specs.Brief.{read_parts_of}
use Rattle.fault_syntax.specs.declared.reader.ReadItem.{ReadItem}
use Rattle.fault_syntax.specs.declared.reader.ReadItem.TheVariants.{Primitive as ReadPrimitive}
use Rattle.fault_syntax.specs.declared.reader.ReadParts.{ReadParts}
use Rattle.fault_syntax.specs.declared.reader.Refusal.{Refusal}
use Rattle.fault_syntax.specs.declared.words.Form.TheVariants.{Single}
use Rattle.fault_syntax.specs.inner.Places.{start, step, value, rest, in_prim}
use Rattle.fault_syntax.specs.PrimText.{PrimParts, PrimText}
use Rattle.fault_syntax.proofs.OneOutcome.{unexpected_parts, truncated_parts, prim_one}
use Rattle.fault_syntax.proofs.PlaceLaws.{follows, Alone, alone_is}

pub alone_exact : (b : List ℕ) → IsExact Alone b (scan (step Single) (value Single) b start 0)
alone_exact b = scan_exact (step Single) (value Single) (rest Single) (λ s. Unit {0}) (follows Single) Alone start tt alone_is b

-- what the outcome gives is what the bytes are read as
refusal_reads : (b : List ℕ) (text : PrimParts) (f : FaultFault) → PrimText b text → RefusesAt 1 text f → ReadsPrim b (Err f)
refusal_reads b text (NotAFault l) t h = (text, t, h)
refusal_reads b text (TooManyOperations l) t h = (text, t, h)
refusal_reads b text (Unexpected l k) t h = absurd h
refusal_reads b text (Truncated l) t h = absurd h
refusal_reads b text (TooManyPrimitives l) t h = absurd h
refusal_reads b text NoMemory t h = absurd h

given_reads : (b : List ℕ) (o : Outcome (Option Item)) (r : Result Primitive FaultFault) → IsExact Alone b o → GivesPrim o r → ReadsPrim b r
given_reads b (unexpected k) r x g = subst (ReadsPrim b) (sym g) (refl, (unexpected_parts b k).0 ((x.refuses k).0 refl))
given_reads b truncated r x g = subst (ReadsPrim b) (sym g) (refl, (truncated_parts b).0 (x.ends_early.0 refl))
given_reads b (read None) r x g = absurd g
given_reads b (read (Some (Named n))) r x g = absurd g
given_reads b (read (Some (OnePrimitive text))) (Ok p) x g = (text, (x.reads (Some (OnePrimitive text))).0 refl, g.0, g.1)
given_reads b (read (Some (OnePrimitive text))) (Err f) x g = refusal_reads b text f ((x.reads (Some (OnePrimitive text))).0 refl) g

-- what a reader's answer says of its bytes, both ways
pub reads : (b : List ℕ) (r : Result Primitive FaultFault) → GivesPrim (scan (step Single) (value Single) b start 0) r
    → (q : Result Primitive FaultFault) → (r ≡ q) ↔ ReadsPrim b q
reads b r g q =
    let x = given_reads b (scan (step Single) (value Single) b start 0) r (alone_exact b) g in
    (λ e. subst (ReadsPrim b) e x, λ h. prim_one b r q x h)

-- what is read is a primitive
no_other : (b : List ℕ) (v : Option Item) → scan (step Single) (value Single) b start 0 ≡ read v → in_prim (λ p. Unit {0}) v
no_other b v e = go v (((alone_exact b).reads v).0 e)
  where
    go : (v : Option Item) → Alone b v → in_prim (λ p. Unit {0}) v
    go None h = h
    go (Some (OnePrimitive p)) h = tt
    go (Some (Named n)) h = h

pub is_primitive : (b : List ℕ) (item : ReadItem) → Ok item ≡ answer_of (scan (step Single) (value Single) b start 0) → (parts : ReadParts) × (item ≡ ReadPrimitive parts)
is_primitive b item e = go (scan (step Single) (value Single) b start 0) refl e
  where
    item_is : (x y : ReadItem) → (let r : Result ReadItem Refusal = Ok x in r ≡ Ok y) → x ≡ y
    item_is x y e = cc

    go : (o : Outcome (Option Item)) → scan (step Single) (value Single) b start 0 ≡ o → Ok item ≡ answer_of o → (parts : ReadParts) × (item ≡ ReadPrimitive parts)
    go (unexpected k) f e = cc
    go truncated f e = cc
    go (read None) f e = absurd (no_other b None f)
    go (read (Some (Named n))) f e = absurd (no_other b (Some (Named n)) f)
    go (read (Some (OnePrimitive p))) f e = (read_parts_of p, item_is item (ReadPrimitive (read_parts_of p)) e)
