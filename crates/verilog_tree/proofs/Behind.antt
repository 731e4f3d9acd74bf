-- The tables behind items say of them what the rules ask.
use Rattle.std.proofs.Common.{◌≡◌, ℕ, Bool, true, false, cond, ◌&&◌, ◌||◌, not, List, [], ◌∷◌, ◌++◌, Option, Some, None, is_some, Result, refl, sym, ap, subst, ◌∙◌, append-nil, append_assoc}
use mathlib.Core.Path.{fun_ext}
use Rattle.std.proofs.lemmas.Slice.Eq.{bytes_eq-Decides}
use Rattle.std.specs.Str.{bytes_eq}
use Rattle.bist_text.specs.ReservedWords.{is_among}
use Rattle.verilog_tree.specs.declared.fault.TreeFault.{TreeFault}
use Rattle.verilog_tree.specs.Plain.{ModuleItem, WireItem, RegItem, AssignItem, AlwaysItem, ModulePort, ModuleTree}
use Rattle.verilog_tree.specs.Names.{Declaration, declared_by, port_declarations, item_declarations, declarations, lookup, declared_width, width_of, is_wire, is_register, is_clk}
use Rattle.verilog_tree.specs.Meaning.{names_widths}
use Rattle.verilog_tree.specs.Rules.{Break, Unknown, Twice, SelectRange, NotAssignable, TwoBlocks, Clock, Undriven, Mention, AsClock, AsTarget, Whole, Selected, mentions, statements_mentions, first_of, first_bad, is_unknown, is_assigned, has_kind, twice, is_out_of_range, assignment_widths, statements_widths, is_wrong_target, is_target, is_set, is_set_before, is_wrong_clock, item_break, items_break, port_twice, port_clock, undriven, first_break, Refuses}
use Rattle.verilog_tree.specs.Tables.{with_declared, with_name}
use Rattle.verilog_tree.specs.inner.Tables.{with_all, with_targets, declared_behind, assigned_behind, set_behind, among, is_target_among, break_behind, breaks_behind, all_assigned, unassigned, Assigned}
use Rattle.verilog_tree.proofs.Lookups.{lookup_first, lookup_second}
use Rattle.verilog_tree.proofs.Clean.{not_here, none_of, item_clean, one_more}
use Rattle.verilog_tree.proofs.Reordering.{set_append}

-- what is looked up where these are added
found_later : (ds es : List Declaration) (e : Declaration) (n : List ℕ) (t : Bool) (o : Option Declaration) → lookup ds n ≡ o → bytes_eq n e.name ≡ t → (t ≡ true → is_some o ≡ true) → lookup (ds ++ es) n ≡ lookup (ds ++ e ∷ es) n
found_later ds es e n t (Some d) look same there = lookup_first ds es n d look ∙ sym (lookup_first ds (e ∷ es) n d look)
found_later ds es e n true None look same there = let h = there refl in cc
found_later ds es e n false None look same there =
    lookup_second ds es n look ∙ sym (lookup_second ds (e ∷ es) n look ∙ ap (λ t. cond t (Some e) (lookup es n)) same)

one_declared : (ds es : List Declaration) (e : Declaration) (n : List ℕ) (t : Bool) → is_some (lookup ds e.name) ≡ t → lookup (cond t ds (ds ++ e ∷ []) ++ es) n ≡ lookup (ds ++ e ∷ es) n
one_declared ds es e n true h = found_later ds es e n (bytes_eq n e.name) (lookup ds n) refl refl (λ q. ap (λ m. is_some (lookup ds m)) ((bytes_eq-Decides n e.name).0 q) ∙ h)
one_declared ds es e n false h = ap (λ l. lookup l n) (append_assoc ds (e ∷ []) es)

pub all_found : (ds es : List Declaration) (n : List ℕ) → lookup (with_all ds es) n ≡ lookup (ds ++ es) n
all_found ds [] n = ap (λ l. lookup l n) (sym (append-nil ds))
all_found ds (e ∷ es) n = all_found (with_declared ds e) es n ∙ one_declared ds es e n (is_some (lookup ds e.name)) refl

-- what is declared, once an item keeps the rules
new_last : (ds : List Declaration) (d : Declaration) → lookup ds d.name ≡ None → with_declared ds d ≡ ds ++ d ∷ []
new_last ds d h = ap (λ o. cond (is_some o) ds (ds ++ d ∷ [])) h

declared_more : (ds : List Declaration) (b : List ModuleItem) (i : ModuleItem) → twice ds b i ≡ None → declared_behind ds i ≡ ds ++ declared_by i
declared_more ds b (WireItem n k) h = new_last ds _ (none_of (lookup ds n) ((not_here (is_some (lookup ds n)) (Twice n) None h).0))
declared_more ds b (RegItem n k) h = new_last ds _ (none_of (lookup ds n) ((not_here (is_some (lookup ds n)) (Twice n) None h).0))
declared_more ds b (AssignItem n x) h = sym (append-nil ds)
declared_more ds b (AlwaysItem c ss) h = sym (append-nil ds)

-- tests of names
or_last : (s : Bool) → (s || false) ≡ s
or_last true = refl
or_last false = refl

or_group : (a b c : Bool) → ((a || b) || c) ≡ (a || (b || c))
or_group true b c = refl
or_group false b c = refl

among_append : (n : List ℕ) (ns ms : List (List ℕ)) → is_among n (ns ++ ms) ≡ (is_among n ns || is_among n ms)
among_append n [] ms = refl
among_append n (k ∷ ns) ms = ap (λ t. bytes_eq n k || t) (among_append n ns ms) ∙ sym (or_group (bytes_eq n k) (is_among n ns) (is_among n ms))

there_already : (s t : Bool) → (t ≡ true → s ≡ true) → s ≡ (s || t)
there_already true t h = refl
there_already false false h = refl
there_already false true h = let q = h refl in cc

name_more : (ns : List (List ℕ)) (m n : List ℕ) (t : Bool) → is_among m ns ≡ t → is_among n (cond t ns (ns ++ m ∷ [])) ≡ (is_among n ns || bytes_eq n m)
name_more ns m n true h = there_already (is_among n ns) (bytes_eq n m) (λ q. ap (λ k. is_among k ns) ((bytes_eq-Decides n m).0 q) ∙ h)
name_more ns m n false h = among_append n ns (m ∷ []) ∙ ap (λ t. is_among n ns || t) (or_last (bytes_eq n m))

with_name_has : (ns : List (List ℕ)) (m n : List ℕ) → is_among n (with_name ns m) ≡ (is_among n ns || bytes_eq n m)
with_name_has ns m n = name_more ns m n (is_among m ns) refl

with_targets_has : (ns : List (List ℕ)) (ms : List Mention) (n : List ℕ) → is_among n (with_targets ns ms) ≡ (is_among n ns || is_target n ms)
with_targets_has ns [] n = sym (or_last (is_among n ns))
with_targets_has ns (AsClock m ∷ ms) n = with_targets_has ns ms n
with_targets_has ns (AsTarget m ∷ ms) n = with_targets_has (with_name ns m) ms n ∙ ap (λ t. t || is_target n ms) (with_name_has ns m n) ∙ or_group (is_among n ns) (bytes_eq n m) (is_target n ms)
with_targets_has ns (Whole m ∷ ms) n = with_targets_has ns ms n
with_targets_has ns (Selected m h l ∷ ms) n = with_targets_has ns ms n

pub assigned_append : (b is : List ModuleItem) (n : List ℕ) → is_assigned (b ++ is) n ≡ (is_assigned b n || is_assigned is n)
assigned_append [] is n = refl
assigned_append (AssignItem m x ∷ b) is n = ap (λ t. bytes_eq n m || t) (assigned_append b is n) ∙ sym (or_group (bytes_eq n m) (is_assigned b n) (is_assigned is n))
assigned_append (other ∷ b) is n = assigned_append b is n

-- these names are what items set
abbrev pub Set : List (List ℕ) → List ModuleItem → Type 0
Set ns b = (n : List ℕ) → is_among n ns ≡ is_set b n

assigned_more : (ns : List (List ℕ)) (b : List ModuleItem) (i : ModuleItem) → Assigned ns b → Assigned (assigned_behind ns i) (b ++ i ∷ [])
assigned_more ns b i h n = here i ∙ ap (λ t. t || is_assigned (i ∷ []) n) (h n) ∙ sym (assigned_append b (i ∷ []) n)
  where
    here : (i : ModuleItem) → is_among n (assigned_behind ns i) ≡ (is_among n ns || is_assigned (i ∷ []) n)
    here (AssignItem m x) = with_name_has ns m n ∙ ap (λ t. is_among n ns || t) (sym (or_last (bytes_eq n m)))
    here other = sym (or_last (is_among n ns))

set_more : (ns : List (List ℕ)) (b : List ModuleItem) (i : ModuleItem) → Set ns b → Set (set_behind ns i) (b ++ i ∷ [])
set_more ns b i h n = here i ∙ ap (λ t. t || is_set (i ∷ []) n) (h n) ∙ sym (set_append b (i ∷ []) n)
  where
    here : (i : ModuleItem) → is_among n (set_behind ns i) ≡ (is_among n ns || is_set (i ∷ []) n)
    here (AlwaysItem c ss) = with_targets_has ns (statements_mentions ss) n ∙ ap (λ t. is_among n ns || t) (sym (or_last (is_target n (statements_mentions ss))))
    here other = sym (or_last (is_among n ns))

pub all_assigned_has : (ns : List (List ℕ)) (b is : List ModuleItem) → Assigned ns b → Assigned (all_assigned ns is) (b ++ is)
all_assigned_has ns b [] h n = h n ∙ ap (λ l. is_assigned l n) (sym (append-nil b))
all_assigned_has ns b (i ∷ is) h n = all_assigned_has (assigned_behind ns i) (b ++ i ∷ []) is (assigned_more ns b i h) n ∙ ap (λ l. is_assigned l n) (append_assoc b (i ∷ []) is)

-- the rules by the tables
set_again : (ns : List (List ℕ)) (b : List ModuleItem) → Set ns b → (m : Mention) → is_target_among ns m ≡ is_set_before b m
set_again ns b h (AsClock n) = refl
set_again ns b h (AsTarget n) = h n
set_again ns b h (Whole n) = refl
set_again ns b h (Selected n k l) = refl

behind : (a : Option Break) (os ps : List (Option Break)) → first_of os ≡ first_of ps → first_of (a ∷ os) ≡ first_of (a ∷ ps)
behind None os ps h = h
behind (Some x) os ps h = refl

none_seventh : (a b c d e f : Option Break) (os : List (Option Break)) → first_of (a ∷ b ∷ c ∷ d ∷ e ∷ f ∷ os) ≡ first_of (a ∷ b ∷ c ∷ d ∷ e ∷ f ∷ None ∷ os)
none_seventh a b c d e f os = behind a _ _ (behind b _ _ (behind c _ _ (behind d _ _ (behind e _ _ (behind f _ _ refl)))))

clk_at_once : (t k : Bool) (a b : Break) → first_of (cond t (Some a) (cond k (Some b) None) ∷ None ∷ None ∷ None ∷ None ∷ None ∷ []) ≡ first_of (cond t (Some a) None ∷ None ∷ None ∷ None ∷ None ∷ cond k (Some b) None ∷ None ∷ [])
clk_at_once true k a b = refl
clk_at_once false true a b = refl
clk_at_once false false a b = refl

break_by : (w : List ℕ → ℕ) (ps : List ModulePort) (b : List ModuleItem) (as' ss : List (List ℕ)) (i : ModuleItem) → Assigned as' b → Set ss b → break_behind w (declarations ps b) (among as') ss i ≡ item_break w ps b i
unfolding break_behind item_break
break_by w ps b as' ss (WireItem n k) a s = clk_at_once (is_some (lookup (declarations ps b) n)) (is_clk n) (Twice n) (Clock n)
break_by w ps b as' ss (RegItem n k) a s = clk_at_once (is_some (lookup (declarations ps b) n)) (is_clk n) (Twice n) (Clock n)
break_by w ps b as' ss (AssignItem n x) a s =
    let ds = declarations ps b in
    let ms = mentions (AssignItem n x) in
    let wire = has_kind is_wire ds n in
    let last = first_bad (is_wrong_clock ds) Clock ms ∷ [] in
    ap (λ t. first_of (first_bad (is_unknown ds) Unknown ms ∷ cond (wire && t) (Some (Twice n)) None ∷ first_bad (is_out_of_range w) SelectRange ms ∷ assignment_widths w n x ∷ first_bad (is_wrong_target is_wire ds) NotAssignable ms ∷ first_bad (is_target_among ss) TwoBlocks ms ∷ last)) (a n)
    ∙ ap (λ f. first_of (first_bad (is_unknown ds) Unknown ms ∷ cond (wire && is_assigned b n) (Some (Twice n)) None ∷ first_bad (is_out_of_range w) SelectRange ms ∷ assignment_widths w n x ∷ first_bad (is_wrong_target is_wire ds) NotAssignable ms ∷ first_bad f TwoBlocks ms ∷ last)) (fun_ext (set_again ss b s))
    ∙ none_seventh (first_bad (is_unknown ds) Unknown ms) (cond (wire && is_assigned b n) (Some (Twice n)) None) (first_bad (is_out_of_range w) SelectRange ms) (assignment_widths w n x) (first_bad (is_wrong_target is_wire ds) NotAssignable ms) (first_bad (is_set_before b) TwoBlocks ms) last
break_by w ps b as' ss (AlwaysItem c body) a s =
    let ds = declarations ps b in
    let ms = mentions (AlwaysItem c body) in
    let last = first_bad (is_wrong_clock ds) Clock ms ∷ [] in
    ap (λ f. first_of (first_bad (is_unknown ds) Unknown ms ∷ None ∷ first_bad (is_out_of_range w) SelectRange ms ∷ statements_widths w body ∷ first_bad (is_wrong_target is_register ds) NotAssignable ms ∷ first_bad f TwoBlocks ms ∷ last)) (fun_ext (set_again ss b s))
    ∙ none_seventh (first_bad (is_unknown ds) Unknown ms) None (first_bad (is_out_of_range w) SelectRange ms) (statements_widths w body) (first_bad (is_wrong_target is_register ds) NotAssignable ms) (first_bad (is_set_before b) TwoBlocks ms) last

first_same : (o p q : Option Break) → (o ≡ None → p ≡ q) → first_of (o ∷ p ∷ []) ≡ first_of (o ∷ q ∷ [])
first_same None p q h = ap (λ r. first_of (None ∷ r ∷ [])) (h refl)
first_same (Some x) p q h = refl

pub breaks_by : (w : List ℕ → ℕ) (ps : List ModulePort) (b : List ModuleItem) (ds : List Declaration) (as' ss : List (List ℕ)) (is : List ModuleItem) → ds ≡ declarations ps b → Assigned as' b → Set ss b → breaks_behind w ds as' ss is ≡ items_break w ps b is
breaks_by w ps b ds as' ss [] d a s = refl
breaks_by w ps b ds as' ss (i ∷ is) d a s =
    let rest = breaks_behind w (declared_behind ds i) (assigned_behind as' i) (set_behind ss i) is in
    ap (λ o. first_of (o ∷ rest ∷ [])) (ap (λ l. break_behind w l (among as') ss i) d ∙ break_by w ps b as' ss i a s)
    ∙ first_same (item_break w ps b i) rest (items_break w ps (b ++ i ∷ []) is) (λ none.
    breaks_by w ps (b ++ i ∷ []) (declared_behind ds i) (assigned_behind as' i) (set_behind ss i) is
    (ap (λ l. declared_behind l i) d ∙ declared_more (declarations ps b) b i ((item_clean w ps b i none).1) ∙ sym (one_more ps b i))
    (assigned_more as' b i a) (set_more ss b i s))

pub unassigned_by : (ns : List (List ℕ)) (is : List ModuleItem) → Assigned ns is → (ds : List Declaration) → unassigned (among ns) ds ≡ undriven is ds
unassigned_by ns is h ds = ap (λ f. unassigned f ds) (fun_ext h) ∙ same ds
  where
    same : (ds : List Declaration) → unassigned (is_assigned is) ds ≡ undriven is ds
    same [] = refl
    same (d ∷ ds) = ap (λ r. cond (is_wire d.kind && not (is_assigned is d.name)) (Some (Undriven d.name)) r) (same ds)

last_of : (o : Option Break) → o ≡ first_of (o ∷ [])
last_of None = refl
last_of (Some x) = refl

one_more_unassigned : (t : Bool) (x : Break) (o p q : Option Break) → o ≡ first_of (p ∷ q ∷ []) → cond t (Some x) o ≡ first_of (cond t (Some x) p ∷ q ∷ [])
one_more_unassigned true x o p q h = refl
one_more_unassigned false x o p q h = h

both_unassigned : (f : List ℕ → Bool) (ds es : List Declaration) → unassigned f (ds ++ es) ≡ first_of (unassigned f ds ∷ unassigned f es ∷ [])
both_unassigned f [] es = last_of (unassigned f es)
both_unassigned f (d ∷ ds) es = one_more_unassigned (is_wire d.kind && not (f d.name)) (Undriven d.name) (unassigned f (ds ++ es)) (unassigned f ds) (unassigned f es) (both_unassigned f ds es)

-- where the first breaks nothing, the rest decides
pub behind_one : (a : Option Break) (os : List (Option Break)) (r : Result (Unit {0}) TreeFault) → a ≡ None → Refuses (first_of os) r → Refuses (first_of (a ∷ os)) r
behind_one a os r e h = subst (λ x. Refuses x r) (sym (ap (λ x. first_of (x ∷ os)) e)) h

pub module_breaks : (mo : ModuleTree) (given : List ModuleItem) (ws all ds : List Declaration) (as' ss : List (List ℕ)) → ws ≡ with_all [] all → all ≡ declarations mo.ports mo.items → ds ≡ port_declarations mo.ports → as' ≡ [] → ss ≡ [] → given ≡ mo.items →
    breaks_behind (width_of ws) ds as' ss given ≡ items_break (names_widths mo) mo.ports [] mo.items
module_breaks mo given ws all ds as' ss named listed ports none nothing same =
    ap (λ (w : List ℕ → ℕ). breaks_behind w ds as' ss given) (fun_ext (λ n. ap declared_width (ap (λ l. lookup l n) named ∙ all_found [] all n ∙ ap (λ l. lookup l n) listed)))
    ∙ ap (breaks_behind (names_widths mo) ds as' ss) same
    ∙ breaks_by (names_widths mo) mo.ports [] ds as' ss mo.items (ports ∙ sym (append-nil (port_declarations mo.ports))) (λ n. ap (is_among n) none) (λ n. ap (is_among n) nothing)

module_assigned : (items given : List ModuleItem) (as' ns : List (List ℕ)) → as' ≡ [] → given ≡ items → ns ≡ all_assigned as' given → Assigned ns items
module_assigned items given as' ns none same is n =
    ap (is_among n) (is ∙ ap (λ l. all_assigned l given) none ∙ ap (all_assigned []) same) ∙ all_assigned_has [] [] items (λ n. refl) n

-- what is left behind all items, of which these names are assigned
pub driven_behind : (mo : ModuleTree) (given : List ModuleItem) (all : List Declaration) (as' ns : List (List ℕ)) (r : Result (Unit {0}) TreeFault) → as' ≡ [] → given ≡ mo.items → ns ≡ all_assigned as' given → all ≡ declarations mo.ports mo.items →
    port_twice [] (port_declarations mo.ports) ≡ None → port_clock (port_declarations mo.ports) ≡ None → items_break (names_widths mo) mo.ports [] mo.items ≡ None → Refuses (unassigned (among ns) all) r → Refuses (first_break mo) r
driven_behind mo given all as' ns r none same is listed twice' clock broken h =
    let ds = port_declarations mo.ports in
    let es = item_declarations mo.items in
    let has = module_assigned mo.items given as' ns none same is in
    behind_one (port_twice [] ds) (port_clock ds ∷ items_break (names_widths mo) mo.ports [] mo.items ∷ undriven mo.items ds ∷ undriven mo.items es ∷ []) r twice'
    (behind_one (port_clock ds) (items_break (names_widths mo) mo.ports [] mo.items ∷ undriven mo.items ds ∷ undriven mo.items es ∷ []) r clock
    (behind_one (items_break (names_widths mo) mo.ports [] mo.items) (undriven mo.items ds ∷ undriven mo.items es ∷ []) r broken (subst (λ x. Refuses x r) (
    ap (unassigned (among ns)) listed
    ∙ both_unassigned (among ns) ds es
    ∙ ap (λ x. first_of (x ∷ unassigned (among ns) es ∷ [])) (unassigned_by ns mo.items has ds)
    ∙ ap (λ x. first_of (undriven mo.items ds ∷ x ∷ [])) (unassigned_by ns mo.items has es)) h)))
