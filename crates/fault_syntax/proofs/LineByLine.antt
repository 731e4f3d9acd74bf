-- Lines that are read one after another; and a list is read as one thing, or refused in one way.
use Rattle.std.proofs.Common.{◌≡◌, ℕ, ◌+◌, ◌<◌, ◌≤◌, List, [], ◌∷◌, ◌++◌, ◌∙◌, ◌⊎◌, length, Option, Some, Result, Ok, Err, IfOk, IfErr, MatchResult, refl, sym, ap, subst, append_assoc, append-nil, length-append, arith, inl, inr, if◌then◌else◌}
use Rattle.bist_text.specs.Lines.{TextLine, text_lines}
use Rattle.bist_text.specs.Machine.{Outcome, read, unexpected, truncated}
use Rattle.bist_text.specs.inner.Machine.{Answers}
use Rattle.fault_syntax.specs.declared.fault.FaultFault.{FaultFault}
use Rattle.fault_syntax.specs.declared.fault.FaultFault.TheVariants.{Unexpected, Truncated, NotAFault, TooManyOperations, TooManyPrimitives, NoMemory}
use Rattle.fault_syntax.specs.LineByLine.{BringBy, IsRefusedBehind, FirstRefusal, ReadsLines, IsFaultOn}
use Rattle.fault_syntax.specs.inner.LineByLine.{AddsBy, NotAddedBy}
use Rattle.fault_syntax.specs.PrimText.{PrimParts}

-- where two lines stand in a list
abbrev pub Compared : List TextLine → TextLine → List TextLine → TextLine → Type 0
Compared a l b m =
    ((a ≡ b) × (l ≡ m)) ⊎ (((rest : List TextLine) × (b ≡ a ++ l ∷ rest)) ⊎ ((rest : List TextLine) × (a ≡ b ++ m ∷ rest)))

pub compared : (a : List TextLine) (l : TextLine) (c : List TextLine) (b : List TextLine) (m : TextLine) (d : List TextLine) → a ++ l ∷ c ≡ b ++ m ∷ d → Compared a l b m
compared [] l c [] m d e = inl (refl, first_is l c m d e)
  where
    first_is : (l : TextLine) (c : List TextLine) (m : TextLine) (d : List TextLine) → l ∷ c ≡ m ∷ d → l ≡ m
    first_is l c m d e = cc
compared [] l c (x ∷ b) m d e = inr (inl (b, ap (λ y. y ∷ b) (first_is l c x (b ++ m ∷ d) e)))
  where
    first_is : (l : TextLine) (c : List TextLine) (x : TextLine) (d : List TextLine) → l ∷ c ≡ x ∷ d → x ≡ l
    first_is l c x d e = cc
compared (x ∷ a) l c [] m d e = inr (inr (a, ap (λ y. y ∷ a) (first_is x (a ++ l ∷ c) m d e)))
  where
    first_is : (x : TextLine) (c : List TextLine) (m : TextLine) (d : List TextLine) → x ∷ c ≡ m ∷ d → x ≡ m
    first_is x c m d e = cc
compared (x ∷ a) l c (y ∷ b) m d e = elim (compared a l c b m d (rest_is x (a ++ l ∷ c) y (b ++ m ∷ d) e)) [
  | inl h ↦ inl (both x y a b h.0 (first_is x (a ++ l ∷ c) y (b ++ m ∷ d) e), h.1)
  | inr h ↦ elim h [
    | inl k ↦ inr (inl (k.0, both y x b (a ++ l ∷ k.0) k.1 (sym (first_is x (a ++ l ∷ c) y (b ++ m ∷ d) e))))
    | inr k ↦ inr (inr (k.0, both x y a (b ++ m ∷ k.0) k.1 (first_is x (a ++ l ∷ c) y (b ++ m ∷ d) e)))
  ]
]
  where
    first_is : (x : TextLine) (c : List TextLine) (y : TextLine) (d : List TextLine) → x ∷ c ≡ y ∷ d → x ≡ y
    first_is x c y d e = cc

    rest_is : (x : TextLine) (c : List TextLine) (y : TextLine) (d : List TextLine) → x ∷ c ≡ y ∷ d → c ≡ d
    rest_is x c y d e = cc

    both : (x y : TextLine) (c d : List TextLine) → c ≡ d → x ≡ y → x ∷ c ≡ y ∷ d
    both x y c d e f = cc

-- ---- lines, one after another

module _ {V P : Type 0} (Line : List ℕ → Option V → Type 0) (Brings : Option V → List P → Type 0) where
  bring_more : (ls : List TextLine) (ps : List P) (l : TextLine) (v : Option V) (more : List P) → BringBy Line Brings ls ps → Line l.text v
      → Brings v more → BringBy Line Brings (ls ++ l ∷ []) (ps ++ more)
  bring_more [] ps l v more h t b = (v, more, [], t, b, refl, ap (λ x. x ++ more) h ∙ sym (append-nil more))
  bring_more (x ∷ ls) ps l v more h t b =
      (h.0, h.1, h.2 ++ more, h.3, h.4, bring_more ls h.2 l v more h.5 t b, ap (λ y. y ++ more) h.6 ∙ append_assoc h.1 h.2 more)

  -- the lines that are read, those that are left, and the primitives so far
  pub record Reading (lines left : List TextLine) (ps : List P) : Type 0 where
    pub done : List TextLine
    pub split : lines ≡ done ++ left
    pub brought : BringBy Line Brings done ps
    pub within : length ps ≤ 1024

  pub reading_on : (lines left : List TextLine) (l : TextLine) (ps new : List P) (v : Option V) → Reading lines (l ∷ left) ps → Line l.text v
      → AddsBy Brings v ps new → Reading lines left new
  reading_on lines left l ps new v r t a = record {
    done = r.done ++ l ∷ [];
    split = r.split ∙ sym (append_assoc r.done (l ∷ []) left);
    brought = subst (BringBy Line Brings (r.done ++ l ∷ [])) (sym a.joined) (bring_more r.done ps l v a.more r.brought t a.brought);
    within = a.within;
  }

  -- what stands in the lines: those before one, the one, and the others
  record Parted (before : List TextLine) (l : TextLine) (ps : List P) : Type 0 where
    pub first : List P
    pub item : Option V
    pub more : List P
    pub others : List P
    pub brought : BringBy Line Brings before first
    pub read : Line l.text item
    pub brings : Brings item more
    pub joined : ps ≡ first ++ (more ++ others)

  part : (before : List TextLine) (l : TextLine) (after : List TextLine) (ps : List P) → BringBy Line Brings (before ++ l ∷ after) ps → Parted before l ps
  part [] l after ps h = record { first = []; item = h.0; more = h.1; others = h.2; brought = refl; read = h.3; brings = h.4; joined = h.6 }
  part (x ∷ before) l after ps h =
      let r : Parted before l h.2 = part before l after h.2 h.5 in
      record {
        first = h.1 ++ r.first;
        item = r.item;
        more = r.more;
        others = r.others;
        brought = (h.0, h.1, r.first, h.3, h.4, r.brought, refl);
        read = r.read;
        brings = r.brings;
        joined = h.6 ∙ ap (λ y. h.1 ++ y) r.joined ∙ sym (append_assoc h.1 r.first (r.more ++ r.others));
      }

-- ---- what is read, and what is refused, of lines that are read one after another

module _ {V P : Type 0} (Line : List ℕ → Option V → Type 0) (Brings : Option V → List P → Type 0) where
  pub all_read : (lines : List TextLine) (ps : List P) → Reading Line Brings lines [] ps → BringBy Line Brings lines ps × (length ps ≤ 1024)
  all_read lines ps r = (subst (λ ls. BringBy Line Brings ls ps) (sym (r.split ∙ append-nil r.done)) r.brought, r.within)

module _ {V P : Type 0} (Line : List ℕ → Option V → Type 0) (Brings : Option V → List P → Type 0) (written : PrimParts → V) (Refuses : ℕ → PrimParts → FaultFault → Type 0) where
  refused_next : (lines left : List TextLine) (l : TextLine) (ps : List P) (fault : FaultFault) → Reading Line Brings lines (l ∷ left) ps
      → IsRefusedBehind Line Brings written Refuses ps l fault → FirstRefusal Line Brings written Refuses lines fault
  refused_next lines left l ps fault r h =
      record { before = r.done; line = l; after = left; held = ps; split = r.split; brought = r.brought; within = r.within; refused = h }

  -- a line that isn't read
  pub line_refused : (lines left : List TextLine) (l : TextLine) (ps : List P) (fault : FaultFault) → Reading Line Brings lines (l ∷ left) ps
      → IsFaultOn Line written Refuses l fault → FirstRefusal Line Brings written Refuses lines fault
  line_refused lines left l ps (Unexpected n k) r h = refused_next lines left l ps (Unexpected n k) r h
  line_refused lines left l ps (Truncated n) r h = refused_next lines left l ps (Truncated n) r h
  line_refused lines left l ps (NotAFault n) r h = refused_next lines left l ps (NotAFault n) r h
  line_refused lines left l ps (TooManyOperations n) r h = refused_next lines left l ps (TooManyOperations n) r h
  line_refused lines left l ps (TooManyPrimitives n) r h = absurd h
  line_refused lines left l ps NoMemory r h = absurd h

  -- a line that is read, and what it brings isn't added
  pub item_refused : (lines left : List TextLine) (l : TextLine) (ps : List P) (v : Option V) (fault : FaultFault) → Reading Line Brings lines (l ∷ left) ps
      → Line l.text v → NotAddedBy Brings written Refuses v l.number ps fault → (fault ≡ NoMemory) ⊎ FirstRefusal Line Brings written Refuses lines fault
  item_refused lines left l ps v (TooManyPrimitives n) r t h = inr (refused_next lines left l ps (TooManyPrimitives n) r (h.0, v, h.1, t, h.2, h.3))
  item_refused lines left l ps v (NotAFault n) r t h =
      inr (refused_next lines left l ps (NotAFault n) r (h.0, subst (λ w. Line l.text w) h.1 t, h.2))
  item_refused lines left l ps v (TooManyOperations n) r t h =
      inr (refused_next lines left l ps (TooManyOperations n) r (h.0, subst (λ w. Line l.text w) h.1 t, h.2))
  item_refused lines left l ps v NoMemory r t h = inl refl
  item_refused lines left l ps v (Unexpected n k) r t h = absurd h
  item_refused lines left l ps v (Truncated n) r t h = absurd h

-- ---- why a line is refused, by the outcome of its text

-- a text that ended too early
abbrev early : TextLine → FaultFault
early l = if l.ended then Unexpected l.number (length l.text) else Truncated l.number

module _ {V P : Type 0} (Brings : Option V → List P → Type 0) (written : PrimParts → V) (Refuses : ℕ → PrimParts → FaultFault → Type 0) where
  -- an item that was read: it is a primitive that is refused, or has no room
  abbrev IsRefused : Option V → ℕ → FaultFault → Type 0
  IsRefused v line fault = (text : PrimParts) × (v ≡ Some (written text)) × Refuses line text fault

  abbrev Exceeds : List P → Option V → ℕ → FaultFault → Type 0
  Exceeds held v line fault = (fault ≡ TooManyPrimitives line) × (more : List P) × Brings v more × (1024 < length held + length more)

  abbrev RefusedBy : List P → TextLine → Outcome (Option V) → FaultFault → Type 0
  RefusedBy held l (unexpected k) fault = fault ≡ Unexpected l.number k
  RefusedBy held l truncated fault = fault ≡ early l
  RefusedBy held l (read v) fault = IsRefused v l.number fault ⊎ Exceeds held v l.number fault

-- each text has one outcome, an outcome brings one list of primitives, and a written primitive is brought or refused in one way
pub record IsSettled {V P : Type 0} (Line : List ℕ → Option V → Type 0) (Brings : Option V → List P → Type 0) (written : PrimParts → V) (Refuses : ℕ → PrimParts → FaultFault → Type 0) : Type 0 where
  pub outcome_one : (b : List ℕ) (o p : Outcome (Option V)) → Answers Line b o → Answers Line b p → o ≡ p
  pub brings_one : (v : Option V) (ps qs : List P) → Brings v ps → Brings v qs → ps ≡ qs
  pub not_refused : (text : PrimParts) (ps : List P) (line : ℕ) (fault : FaultFault) → Brings (Some (written text)) ps → Refuses line text fault → ⊥
  pub refuses_one : (line : ℕ) (text : PrimParts) (f g : FaultFault) → Refuses line text f → Refuses line text g → f ≡ g
  pub written_one : (text other : PrimParts) → Some (written text) ≡ Some (written other) → other ≡ text

module _ {V P : Type 0} (Line : List ℕ → Option V → Type 0) (Brings : Option V → List P → Type 0) (written : PrimParts → V) (Refuses : ℕ → PrimParts → FaultFault → Type 0) (settled : IsSettled Line Brings written Refuses) where
  line_one : (b : List ℕ) (v w : Option V) → Line b v → Line b w → v ≡ w
  line_one b v w p q = same (settled.outcome_one b (read v) (read w) p q)
    where
      same : (let o : Outcome (Option V) = read v in o ≡ read w) → v ≡ w
      same e = cc

  bring_one : (ls : List TextLine) (ps qs : List P) → BringBy Line Brings ls ps → BringBy Line Brings ls qs → ps ≡ qs
  bring_one [] ps qs h k = h ∙ sym k
  bring_one (l ∷ ls) ps qs h k =
      let item : h.0 ≡ k.0 = line_one l.text h.0 k.0 h.3 k.3 in
      let first : h.1 ≡ k.1 = settled.brings_one k.0 h.1 k.1 (subst (λ v. Brings v h.1) item h.4) k.4 in
      let others : h.2 ≡ k.2 = bring_one ls h.2 k.2 h.5 k.5 in
      h.6 ∙ ap (λ x. x ++ h.2) first ∙ ap (λ x. k.1 ++ x) others ∙ sym k.6

  line_answer : (held : List P) (l : TextLine) (fault : FaultFault) → IsRefusedBehind Line Brings written Refuses held l fault
      → (o : Outcome (Option V)) × Answers Line l.text o × RefusedBy Brings written Refuses held l o fault
  line_answer held l (Unexpected n k) h = elim h.1 [
    | inl u ↦ (unexpected k, u, ap (λ m. Unexpected m k) h.0)
    | inr z ↦ (truncated, z.1, ap (λ m. Unexpected m k) h.0 ∙ ap (Unexpected l.number) z.2 ∙ sym (rw z.0 refl))
  ]
  line_answer held l (Truncated n) h = (truncated, h.2, ap Truncated h.0 ∙ sym (rw h.1 refl))
  line_answer held l (NotAFault n) h = (read (Some (written h.0)), h.1, inl (h.0, refl, h.2))
  line_answer held l (TooManyOperations n) h = (read (Some (written h.0)), h.1, inl (h.0, refl, h.2))
  line_answer held l (TooManyPrimitives n) h = (read h.1, h.3, inr (ap TooManyPrimitives h.0, h.2, h.4, h.5))
  line_answer held l NoMemory h = absurd h

  -- what is brought is no refused primitive
  no_refused : (v : Option V) (more : List P) (line : ℕ) (fault : FaultFault) → Brings v more → IsRefused Brings written Refuses v line fault → ⊥
  no_refused v more line fault b r = settled.not_refused r.0 more line fault (subst (λ w. Brings w more) r.1 b) r.2

  -- what is brought, and has room, isn't refused
  read_passes : (held : List P) (v : Option V) (more : List P) (line : ℕ) (fault : FaultFault) → Brings v more → length held + length more ≤ 1024
      → IsRefused Brings written Refuses v line fault ⊎ Exceeds Brings written Refuses held v line fault → ⊥
  read_passes held v more line fault b s h = elim h [
    | inl r ↦ no_refused v more line fault b r
    | inr r ↦ let same = ap length (settled.brings_one v more r.1 b r.2) in omega (arith, r.3)
  ]

  -- two refusals of a primitive
  both_refused : (v : Option V) (line : ℕ) (f g : FaultFault) → IsRefused Brings written Refuses v line f → IsRefused Brings written Refuses v line g → f ≡ g
  both_refused v line f g h k =
      settled.refuses_one line h.0 f g h.2 (subst (λ t. Refuses line t g) (settled.written_one h.0 k.0 (sym h.1 ∙ k.1)) k.2)

  refused_by_one : (held : List P) (l : TextLine) (o : Outcome (Option V)) (f g : FaultFault) → RefusedBy Brings written Refuses held l o f
      → RefusedBy Brings written Refuses held l o g → f ≡ g
  refused_by_one held l (unexpected k) f g h i = h ∙ sym i
  refused_by_one held l truncated f g h i = h ∙ sym i
  refused_by_one held l (read v) f g h i = elim h [
    | inl a ↦ elim i [ inl b ↦ both_refused v l.number f g a b | inr b ↦ absurd (no_refused v b.1 l.number f b.2 a) ]
    | inr a ↦ elim i [ inl b ↦ absurd (no_refused v a.1 l.number g a.2 b) | inr b ↦ a.0 ∙ sym b.0 ]
  ]

  -- a line is refused in one way
  line_refused_one : (held : List P) (l : TextLine) (f g : FaultFault) → IsRefusedBehind Line Brings written Refuses held l f
      → IsRefusedBehind Line Brings written Refuses held l g → f ≡ g
  line_refused_one held l f g h k =
      let x = line_answer held l f h in
      let y = line_answer held l g k in
      refused_by_one held l y.0 f g (subst (λ o. RefusedBy Brings written Refuses held l o f) (settled.outcome_one l.text x.0 y.0 x.1 y.1) x.2) y.2

  -- a line that is read isn't refused
  line_passes : (held : List P) (l : TextLine) (v : Option V) (more : List P) (fault : FaultFault) → Line l.text v → Brings v more
      → length held + length more ≤ 1024 → IsRefusedBehind Line Brings written Refuses held l fault → ⊥
  line_passes held l v more fault t b s h =
      let x = line_answer held l fault h in
      read_passes held v more l.number fault b s (subst (λ o. RefusedBy Brings written Refuses held l o fault) (settled.outcome_one l.text x.0 (read v) x.1 t) x.2)

  -- lines that bring so many primitives aren't refused
  passes : (lines : List TextLine) (ps : List P) (fault : FaultFault) → BringBy Line Brings lines ps → length ps ≤ 1024
      → FirstRefusal Line Brings written Refuses lines fault → ⊥
  passes lines ps fault h n r =
      let p : Parted Line Brings r.before r.line ps = part Line Brings r.before r.line r.after ps (subst (λ ls. BringBy Line Brings ls ps) r.split h) in
      let same : r.held ≡ p.first = bring_one r.before r.held p.first r.brought p.brought in
      let count : length ps ≡ length p.first + (length p.more + length p.others) =
      ap length p.joined ∙ length-append p.first (p.more ++ p.others) ∙ ap (λ k. length p.first + k) (length-append p.more p.others) in
      let held : length r.held ≡ length p.first = ap length same in
      line_passes r.held r.line p.item p.more fault p.read p.brings (omega arith) r.refused

  -- no line before a refused one is refused
  not_earlier : (lines : List TextLine) (f g : FaultFault) (r : FirstRefusal Line Brings written Refuses lines f) (q : FirstRefusal Line Brings written Refuses lines g) (rest : List TextLine)
      → q.before ≡ r.before ++ r.line ∷ rest → ⊥
  not_earlier lines f g r q rest e =
      passes q.before q.held f q.brought q.within
      (record { before = r.before; line = r.line; after = rest; held = r.held; split = e; brought = r.brought; within = r.within; refused = r.refused })

  -- there is one first line that is refused
  refusal_one : (lines : List TextLine) (f g : FaultFault) → FirstRefusal Line Brings written Refuses lines f → FirstRefusal Line Brings written Refuses lines g → f ≡ g
  refusal_one lines f g r q = elim (compared r.before r.line r.after q.before q.line q.after (sym r.split ∙ q.split)) [
    | inl h ↦ (
        let held : r.held ≡ q.held = bring_one q.before r.held q.held (subst (λ ls. BringBy Line Brings ls r.held) h.0 r.brought) q.brought in
        line_refused_one q.held q.line f g
        (subst (λ l. IsRefusedBehind Line Brings written Refuses q.held l f) h.1 (subst (λ xs. IsRefusedBehind Line Brings written Refuses xs r.line f) held r.refused)) q.refused
        )
    | inr h ↦ elim h [
      | inl k ↦ absurd (not_earlier lines f g r q k.0 k.1)
      | inr k ↦ absurd (not_earlier lines g f q r k.0 k.1)
    ]
  ]

  -- the bytes of a list are read as one thing
  pub lines_one : (b : List ℕ) (q r : Result (List P) FaultFault) → ReadsLines Line Brings written Refuses b q → ReadsLines Line Brings written Refuses b r → q ≡ r
  lines_one b (Ok xs) (Ok ys) h k = ap (λ x. Ok x) (bring_one (text_lines b) xs ys h.0 k.0)
  lines_one b (Ok xs) (Err g) h k = absurd (passes (text_lines b) xs g h.0 h.1 k)
  lines_one b (Err f) (Ok ys) h k = absurd (passes (text_lines b) ys f k.0 k.1 h)
  lines_one b (Err f) (Err g) h k = ap (λ x. Err x) (refusal_one (text_lines b) f g h k)

  -- what a reader's answer says, but for want of memory
  module _ {X : Type 0} (view : X → List P) (b : List ℕ) where
    pub accepted : (r : Result X FaultFault) → IfOk r (λ x. ReadsLines Line Brings written Refuses b (Ok (view x))) → IfErr r (λ fault. (fault ≡ NoMemory) ⊎ ReadsLines Line Brings written Refuses b (Err fault))
        → (ps : List P) → ReadsLines Line Brings written Refuses b (Ok ps) → MatchResult r (λ x. view x ≡ ps) (λ fault. fault ≡ NoMemory)
    accepted (Ok x) ok err ps h = bring_one (text_lines b) (view x) ps ok.0 h.0
    accepted (Err fault) ok err ps h = elim err [ inl m ↦ m | inr r ↦ absurd (passes (text_lines b) ps fault h.0 h.1 r) ]

    pub refuses : (r : Result X FaultFault) → IfOk r (λ x. ReadsLines Line Brings written Refuses b (Ok (view x))) → IfErr r (λ fault. (fault ≡ NoMemory) ⊎ ReadsLines Line Brings written Refuses b (Err fault))
        → (fault : FaultFault) → ReadsLines Line Brings written Refuses b (Err fault) → MatchResult r (λ x. ⊥) (λ other. (other ≡ fault) ⊎ (other ≡ NoMemory))
    refuses (Ok x) ok err fault h = passes (text_lines b) (view x) fault ok.0 ok.1 h
    refuses (Err other) ok err fault h = elim err [ inl m ↦ inr m | inr r ↦ inl (refusal_one (text_lines b) other fault r h) ]
