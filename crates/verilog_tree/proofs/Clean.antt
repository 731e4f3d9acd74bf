-- What a module that breaks no rule is like.
use Rattle.std.proofs.Common.{◌≡◌, ℕ, Bool, true, false, cond, not, ◌&&◌, ◌||◌, nat_eq, List, [], ◌∷◌, ◌++◌, Option, Some, None, is_some, refl, sym, ap, ◌∙◌, subst, append-nil, append_assoc}
use Rattle.std.proofs.lemmas.Bool.{and_parts}
use Rattle.std.proofs.lemmas.Slice.Eq.{bytes_eq-Decides}
use Rattle.std.specs.Str.{bytes_eq}
use Rattle.verilog_tree.specs.Plain.{Expression, ModuleItem, WireItem, RegItem, AssignItem, AlwaysItem, ModulePort}
use Rattle.verilog_tree.specs.Names.{Declaration, declared_by, port_declarations, item_declarations, declarations, lookup, is_input, is_wire, is_clk, may_be_clock, is_declared_as}
pub use Rattle.verilog_tree.specs.Wires.{driver}
use Rattle.verilog_tree.specs.Formed.{expression_formed, item_formed, items_formed}
use Rattle.verilog_tree.specs.Meaning.{width}
use Rattle.verilog_tree.specs.Rules.{Unknown, Twice, SelectRange, NotAssignable, TwoBlocks, Clock, Undriven, Mention, AsTarget, reads, mentions, first_bad, is_unknown, is_assigned, has_kind, twice, is_out_of_range, unequal, expression_widths, assignment_widths, item_widths, is_wrong_target, assignable, is_set_before, declares_clk, is_wrong_clock, item_break, items_break, port_twice, port_clock, undriven}
use Rattle.verilog_tree.proofs.Breaks.{two, eight}
use Rattle.verilog_tree.proofs.Bounds.{unequal_none}
use Rattle.verilog_tree.proofs.Lookups.{lookup_first, lookup_second}

-- a fact of each declaration
abbrev pub Each : (Declaration → Type 0) → List Declaration → Type 0
Each P [] = Unit {0}
Each P (d ∷ ds) = P d × Each P ds

pub each_append : (P : Declaration → Type 0) (ds es : List Declaration) → Each P ds → Each P es → Each P (ds ++ es)
each_append P [] es a b = b
each_append P (d ∷ ds) es a b = (a.0, each_append P ds es a.1 b)

found_at : (P : Declaration → Type 0) (t : Bool) (c d : Declaration) (n : List ℕ) (o : Option Declaration) → (t ≡ true → n ≡ c.name) → P c → (o ≡ Some d → P d × (n ≡ d.name)) → cond t (Some c) o ≡ Some d → P d × (n ≡ d.name)
found_at P true c d n o same p later h =
    let e : c ≡ d = cc in subst (λ (x : Declaration). P x × (n ≡ x.name)) e (p, same refl)
found_at P false c d n o same p later h = later h

-- what a name is found as is one of the declarations, and has that name
pub found : (P : Declaration → Type 0) (ds : List Declaration) (n : List ℕ) (d : Declaration) → Each P ds → lookup ds n ≡ Some d → P d × (n ≡ d.name)
found P [] n d a h = cc
found P (c ∷ ds) n d a h = found_at P (bytes_eq n c.name) c d n (lookup ds n) ((bytes_eq-Decides n c.name).0) a.0 (found P ds n d a.1) h

pub same_bytes : (n : List ℕ) → bytes_eq n n ≡ true
same_bytes n = (bytes_eq-Decides n n).1 refl

-- each of these has a name that none before it has
abbrev pub Fresh : List Declaration → List Declaration → Type 0
Fresh before [] = Unit {0}
Fresh before (d ∷ ds) = (lookup before d.name ≡ None) × Fresh (before ++ d ∷ []) ds

pub fresh_append : (b xs ys : List Declaration) → Fresh b xs → Fresh (b ++ xs) ys → Fresh b (xs ++ ys)
fresh_append b [] ys h k = subst (λ (l : List Declaration). Fresh l ys) (append-nil b) k
fresh_append b (x ∷ xs) ys h k = (h.0, fresh_append (b ++ x ∷ []) xs ys h.1 (subst (λ (l : List Declaration). Fresh l ys) (sym (append_assoc b (x ∷ []) xs)) k))

-- a fresh one is found
pub fresh_found : (b ds : List Declaration) (d : Declaration) → lookup b d.name ≡ None → lookup (b ++ d ∷ ds) d.name ≡ Some d
fresh_found b ds d h = lookup_second b (d ∷ ds) d.name h ∙ ap (λ t. cond t (Some d) (lookup ds d.name)) (same_bytes d.name)

pub not_here : {A : Type 0} (t : Bool) (b : A) (o : Option A) → cond t (Some b) o ≡ None → (t ≡ false) × (o ≡ None)
not_here true b o h = cc
not_here false b o h = (refl, h)

pub none_of : (o : Option Declaration) → is_some o ≡ false → o ≡ None
none_of None h = refl
none_of (Some d) h = cc

pub ports_fresh : (b ds : List Declaration) → port_twice b ds ≡ None → Fresh b ds
ports_fresh b [] h = tt
ports_fresh b (d ∷ ds) h =
    let p = not_here (is_some (lookup b d.name)) (Twice d.name) (port_twice (b ++ d ∷ []) ds) h in
    (none_of (lookup b d.name) p.0, ports_fresh (b ++ d ∷ []) ds p.1)

item_declarations_append : (xs ys : List ModuleItem) → item_declarations (xs ++ ys) ≡ item_declarations xs ++ item_declarations ys
item_declarations_append [] ys = refl
item_declarations_append (i ∷ xs) ys = ap (λ l. declared_by i ++ l) (item_declarations_append xs ys) ∙ sym (append_assoc (declared_by i) (item_declarations xs) (item_declarations ys))

pub declarations_more : (ps : List ModulePort) (xs ys : List ModuleItem) → declarations ps (xs ++ ys) ≡ declarations ps xs ++ item_declarations ys
declarations_more ps xs ys =
    ap (λ l. port_declarations ps ++ l) (item_declarations_append xs ys)
    ∙ sym (append_assoc (port_declarations ps) (item_declarations xs) (item_declarations ys))

-- the breaks of an item that keeps the rules
pub item_clean : (w : List ℕ → ℕ) (ps : List ModulePort) (b : List ModuleItem) (i : ModuleItem) → item_break w ps b i ≡ None →
    (first_bad (is_unknown (declarations ps b)) Unknown (mentions i) ≡ None)
    × (twice (declarations ps b) b i ≡ None)
    × (first_bad (is_out_of_range w) SelectRange (mentions i) ≡ None)
    × (item_widths w i ≡ None)
    × (first_bad (is_wrong_target (assignable i) (declarations ps b)) NotAssignable (mentions i) ≡ None)
    × (first_bad (is_set_before b) TwoBlocks (mentions i) ≡ None)
    × (declares_clk i ≡ None)
    × (first_bad (is_wrong_clock (declarations ps b)) Clock (mentions i) ≡ None)
unfolding item_break
item_clean w ps b i h =
    eight
    (first_bad (is_unknown (declarations ps b)) Unknown (mentions i))
    (twice (declarations ps b) b i)
    (first_bad (is_out_of_range w) SelectRange (mentions i))
    (item_widths w i)
    (first_bad (is_wrong_target (assignable i) (declarations ps b)) NotAssignable (mentions i))
    (first_bad (is_set_before b) TwoBlocks (mentions i))
    (declares_clk i)
    (first_bad (is_wrong_clock (declarations ps b)) Clock (mentions i))
    h

fresh_one : (ds : List Declaration) (b : List ModuleItem) (i : ModuleItem) → twice ds b i ≡ None → Fresh ds (declared_by i)
fresh_one ds b (WireItem n k) h = (none_of (lookup ds n) ((not_here (is_some (lookup ds n)) (Twice n) None h).0), tt)
fresh_one ds b (RegItem n k) h = (none_of (lookup ds n) ((not_here (is_some (lookup ds n)) (Twice n) None h).0), tt)
fresh_one ds b (AssignItem n x) h = tt
fresh_one ds b (AlwaysItem c ss) h = tt

pub one_more : (ps : List ModulePort) (b : List ModuleItem) (i : ModuleItem) → declarations ps (b ++ i ∷ []) ≡ declarations ps b ++ declared_by i
one_more ps b i = declarations_more ps b (i ∷ []) ∙ ap (λ l. declarations ps b ++ l) (append-nil (declared_by i))

pub items_fresh : (w : List ℕ → ℕ) (ps : List ModulePort) (b is : List ModuleItem) → items_break w ps b is ≡ None → Fresh (declarations ps b) (item_declarations is)
items_fresh w ps b [] h = tt
items_fresh w ps b (i ∷ is) h =
    let p = two (item_break w ps b i) (items_break w ps (b ++ i ∷ []) is) h in
    let c = item_clean w ps b i p.0 in
    fresh_append (declarations ps b) (declared_by i) (item_declarations is) (fresh_one (declarations ps b) b i c.1)
    (subst (λ (l : List Declaration). Fresh l (item_declarations is)) (one_more ps b i) (items_fresh w ps (b ++ i ∷ []) is p.1))

-- clk is declared only as an input
abbrev pub ClockIsInput : Declaration → Type 0
ClockIsInput d = is_clk d.name ≡ true → is_input d.kind ≡ true

clock_at : (t : Bool) (d : Declaration) → (t && not (may_be_clock d)) ≡ false → t ≡ true → is_input d.kind ≡ true
clock_at true d h e = (and_parts (is_input d.kind) (nat_eq d.width 1) (not_false (may_be_clock d) h)).0
  where
    not_false : (b : Bool) → not b ≡ false → b ≡ true
    not_false true g = refl
    not_false false g = cc
clock_at false d h e = cc

pub ports_clock : (ds : List Declaration) → port_clock ds ≡ None → Each ClockIsInput ds
ports_clock [] h = tt
ports_clock (d ∷ ds) h =
    let p = not_here (is_clk d.name && not (may_be_clock d)) (Clock d.name) (port_clock ds) h in
    (clock_at (is_clk d.name) d p.0, ports_clock ds p.1)

clock_one : (i : ModuleItem) → declares_clk i ≡ None → Each ClockIsInput (declared_by i)
clock_one (WireItem n k) h = (λ e. let f = (not_here (is_clk n) (Clock n) None h).0 in cc, tt)
clock_one (RegItem n k) h = (λ e. let f = (not_here (is_clk n) (Clock n) None h).0 in cc, tt)
clock_one (AssignItem n x) h = tt
clock_one (AlwaysItem c ss) h = tt

pub items_clock : (w : List ℕ → ℕ) (ps : List ModulePort) (b is : List ModuleItem) → items_break w ps b is ≡ None → Each ClockIsInput (item_declarations is)
items_clock w ps b [] h = tt
items_clock w ps b (i ∷ is) h =
    let p = two (item_break w ps b i) (items_break w ps (b ++ i ∷ []) is) h in
    let c = item_clean w ps b i p.0 in
    each_append ClockIsInput (declared_by i) (item_declarations is) (clock_one i c.6) (items_clock w ps (b ++ i ∷ []) is p.1)

-- an assign names the wire
abbrev pub IsDriven : List ModuleItem → Declaration → Type 0
IsDriven is d = is_wire d.kind ≡ true → is_assigned is d.name ≡ true

driven_at : (t s : Bool) → (t && not s) ≡ false → t ≡ true → s ≡ true
driven_at true true h e = refl
driven_at true false h e = cc
driven_at false s h e = cc

pub all_driven : (is : List ModuleItem) (ds : List Declaration) → undriven is ds ≡ None → Each (IsDriven is) ds
all_driven is [] h = tt
all_driven is (d ∷ ds) h =
    let p = not_here (is_wire d.kind && not (is_assigned is d.name)) (Undriven d.name) (undriven is ds) h in
    (driven_at (is_wire d.kind) (is_assigned is d.name) p.0, all_driven is ds p.1)

driver_at : (t s : Bool) (x : Expression) (o : Option Expression) → (t || s) ≡ true → (s ≡ true → (y : Expression) × (o ≡ Some y)) → (y : Expression) × (cond t (Some x) o ≡ Some y)
driver_at true s x o h later = (x, refl)
driver_at false s x o h later = later h

pub driver_of : (is : List ModuleItem) (n : List ℕ) → is_assigned is n ≡ true → (x : Expression) × (driver is n ≡ Some x)
driver_of [] n h = cc
driver_of (AssignItem m x ∷ is) n h = driver_at (bytes_eq n m) (is_assigned is n) x (driver is n) h (driver_of is n)
driver_of (other ∷ is) n h = driver_of is n h

-- the widths of an assignment are right, and its target is a wire
abbrev pub CleanAssign : (List ℕ → ℕ) → List Declaration → List ℕ → Expression → Type 0
CleanAssign w ds n x =
    (expression_formed x ≡ true) × (expression_widths w x ≡ None) × (w n ≡ width w x)
    × ((d : Declaration) × (lookup ds n ≡ Some d) × (is_wire d.kind ≡ true))

abbrev pub CleanItems : (List ℕ → ℕ) → List Declaration → List ModuleItem → Type 0
CleanItems w ds [] = Unit {0}
CleanItems w ds (AssignItem n x ∷ is) = CleanAssign w ds n x × CleanItems w ds is
CleanItems w ds (other ∷ is) = CleanItems w ds is

declared_as : (test : Declaration → Bool) (o : Option Declaration) → is_declared_as test o ≡ true → (d : Declaration) × (o ≡ Some d) × (test d ≡ true)
declared_as test None h = cc
declared_as test (Some d) h = (d, refl, h)

not_not : (t : Bool) → not t ≡ false → t ≡ true
not_not true h = refl
not_not false h = cc

-- what an assign names is a wire
pub target_wire : (ds : List Declaration) (n : List ℕ) (ms : List Mention) → first_bad (is_wrong_target is_wire ds) NotAssignable (AsTarget n ∷ ms) ≡ None → has_kind is_wire ds n ≡ true
target_wire ds n ms h = not_not (has_kind is_wire ds n) ((not_here (not (has_kind is_wire ds n)) (NotAssignable n) (first_bad (is_wrong_target is_wire ds) NotAssignable ms) h).0)

clean_assign : (w : List ℕ → ℕ) (ds es : List Declaration) (n : List ℕ) (x : Expression) → expression_formed x ≡ true → assignment_widths w n x ≡ None → has_kind is_wire ds n ≡ true → CleanAssign w (ds ++ es) n x
clean_assign w ds es n x f h k =
    let p = two (expression_widths w x) (unequal (w n) (width w x)) h in
    let d = declared_as (λ d. is_wire d.kind) (lookup ds n) k in
    (f, p.0, unequal_none (w n) (width w x) p.1, (d.0, lookup_first ds es n d.0 d.1, d.2))

pub one_item : (b : List ModuleItem) (i : ModuleItem) (is : List ModuleItem) → (b ++ i ∷ []) ++ is ≡ b ++ i ∷ is
one_item b i is = append_assoc b (i ∷ []) is

pub clean_items : (w : List ℕ → ℕ) (ps : List ModulePort) (b is : List ModuleItem) → items_break w ps b is ≡ None → items_formed is ≡ true → CleanItems w (declarations ps (b ++ is)) is
clean_items w ps b [] h f = tt
clean_items w ps b (i ∷ is) h f =
    let p = two (item_break w ps b i) (items_break w ps (b ++ i ∷ []) is) h in
    let c = item_clean w ps b i p.0 in
    let g = and_parts (item_formed i) (items_formed is) f in
    let rest = subst (λ (l : List ModuleItem). CleanItems w (declarations ps l) is) (one_item b i is) (clean_items w ps (b ++ i ∷ []) is p.1 g.1) in
    here i c.3 c.4 g.0 rest
  where
    here : (i : ModuleItem) → item_widths w i ≡ None → first_bad (is_wrong_target (assignable i) (declarations ps b)) NotAssignable (mentions i) ≡ None → item_formed i ≡ true → CleanItems w (declarations ps (b ++ i ∷ is)) is → CleanItems w (declarations ps (b ++ i ∷ is)) (i ∷ is)
    here (AssignItem n x) u t g rest = (
      subst (λ (l : List Declaration). CleanAssign w l n x) (sym (declarations_more ps b (AssignItem n x ∷ is)))
          (clean_assign w (declarations ps b) (item_declarations (AssignItem n x ∷ is)) n x g u (target_wire (declarations ps b) n (reads x) t)),
      rest,
    )
    here other u t g rest = rest

-- no assign names what an earlier one does
abbrev pub Once : List ModuleItem → List ModuleItem → Type 0
Once b [] = Unit {0}
Once b (AssignItem n x ∷ is) = (is_assigned b n ≡ false) × Once (b ++ AssignItem n x ∷ []) is
Once b (other ∷ is) = Once (b ++ other ∷ []) is

pub items_once : (w : List ℕ → ℕ) (ps : List ModulePort) (b is : List ModuleItem) → items_break w ps b is ≡ None → Once b is
items_once w ps b [] h = tt
items_once w ps b (i ∷ is) h =
    let p = two (item_break w ps b i) (items_break w ps (b ++ i ∷ []) is) h in
    let c = item_clean w ps b i p.0 in
    here i c.1 c.4 (items_once w ps (b ++ i ∷ []) is p.1)
  where
    second : (s t : Bool) → (s && t) ≡ false → s ≡ true → t ≡ false
    second true t g e = g
    second false t g e = cc

    here : (i : ModuleItem) → twice (declarations ps b) b i ≡ None → first_bad (is_wrong_target (assignable i) (declarations ps b)) NotAssignable (mentions i) ≡ None → Once (b ++ i ∷ []) is → Once b (i ∷ is)
    here (AssignItem n x) u t rest =
        (second (has_kind is_wire (declarations ps b) n) (is_assigned b n) ((not_here (has_kind is_wire (declarations ps b) n && is_assigned b n) (Twice n) None u).0) (target_wire (declarations ps b) n (reads x) t), rest)
    here other u t rest = rest
