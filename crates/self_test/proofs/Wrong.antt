-- No port is wrong exactly where the ports are those of a self-test module, in some order.
use Rattle.std.proofs.Common.{◌≡◌, ◌⊎◌, inl, inr, subst, ℕ, Bool, true, false, cond, not, ◌&&◌, ◌||◌, ◌↔◌, nat_eq, List, [], ◌∷◌, ◌++◌, Option, Some, None, refl, sym, ap, ap₂, ◌∙◌, append_assoc, append-nil}
use Rattle.std.proofs.lemmas.Bool.Decides.{Decides-eqb}
use Rattle.std.specs.List.{AllByRecursion}
use Rattle.std.specs.Option.{option_map}
use Rattle.march_core.specs.March.{MarchElement}
use Rattle.verilog_tree.specs.Plain.{ModulePort, ModuleTree}
use Rattle.memory_desc.specs.Descriptions.{Description}
use Rattle.self_test.specs.Ports.{ports}
use Rattle.self_test.specs.SelfTest.{SelfTest}
use Rattle.self_test.specs.WrongPort.{has_port, has_name, missing, further, or_else, wrong_port, ArePorts, IsFirstMissing, IsFirstFurther, IsWrongPort}

abbrev Once : List ModulePort → List ModulePort → Type 0
Once before qs = (b : List ModulePort) (q : ModulePort) (behind : List ModulePort) → qs ≡ b ++ q ∷ behind → has_name q.name (before ++ b) ≡ false

-- ---- missing ports

none_missing : (list qs : List ModulePort) → missing list qs ≡ None → AllByRecursion (λ p. has_port p qs ≡ true) list
none_missing [] qs h = tt
none_missing (p ∷ list) qs h = by (λ g. none_missing list qs g) (has_port p qs) refl
  where
    by : (missing list qs ≡ None → AllByRecursion (λ p. has_port p qs ≡ true) list) → (t : Bool) → has_port p qs ≡ t → (has_port p qs ≡ true) × AllByRecursion (λ p. has_port p qs ≡ true) list
    by on true e = (e, on (sym (ap (λ t. cond t (missing list qs) (Some p.name)) e) ∙ h))
    by on false e = let no : Some p.name ≡ None = sym (ap (λ t. cond t (missing list qs) (Some p.name)) e) ∙ h in cc

missing_none : (list qs : List ModulePort) → AllByRecursion (λ p. has_port p qs ≡ true) list → missing list qs ≡ None
missing_none [] qs a = refl
missing_none (p ∷ list) qs a = ap (λ t. cond t (missing list qs) (Some p.name)) a.0 ∙ missing_none list qs a.1

-- ---- further ports

head_same : (x y : ModulePort) (xs ys : List ModulePort) → x ∷ xs ≡ y ∷ ys → x ≡ y
head_same x y xs ys h = cc

tail_same : (x y : ModulePort) (xs ys : List ModulePort) → x ∷ xs ≡ y ∷ ys → xs ≡ ys
tail_same x y xs ys h = cc

moved : (before b : List ModulePort) (q : ModulePort) → (before ++ q ∷ []) ++ b ≡ before ++ q ∷ b
moved before b q = append_assoc before (q ∷ []) b

once_more : (before qs : List ModulePort) (q : ModulePort) → has_name q.name before ≡ false → Once (before ++ q ∷ []) qs → Once before (q ∷ qs)
once_more before qs q f r [] p behind g = ap₂ (λ (x : ModulePort) l. has_name x.name l) (sym (head_same q p qs behind g)) (append-nil before) ∙ f
once_more before qs q f r (x ∷ b) p behind g =
    ap (λ l. has_name p.name l) (ap (λ y. before ++ y ∷ b) (sym (head_same q x qs (b ++ p ∷ behind) g)) ∙ sym (moved before b q))
    ∙ r b p behind (tail_same q x qs (b ++ p ∷ behind) g)

none_further : (list before qs : List ModulePort) → further list before qs ≡ None → AllByRecursion (λ q. has_port q list ≡ true) qs × Once before qs
none_further list before [] h = (tt, nothing)
  where
    nothing : Once before []
    nothing [] q behind e = cc
    nothing (x ∷ b) q behind e = cc
none_further list before (q ∷ qs) h = by (λ g. none_further list (before ++ q ∷ []) qs g) (has_port q list) (has_name q.name before) refl refl
  where
    by : (further list (before ++ q ∷ []) qs ≡ None → AllByRecursion (λ q. has_port q list ≡ true) qs × Once (before ++ q ∷ []) qs) → (t u : Bool) → has_port q list ≡ t → has_name q.name before ≡ u → AllByRecursion (λ q. has_port q list ≡ true) (q ∷ qs) × Once before (q ∷ qs)
    by on true false e f =
        let rest = on (sym (ap₂ (λ t u. cond (t && not u) (further list (before ++ q ∷ []) qs) (Some q.name)) e f) ∙ h) in
        ((e, rest.0), once_more before qs q f rest.1)
    by on true true e f = let no : Some q.name ≡ None = sym (ap₂ (λ t u. cond (t && not u) (further list (before ++ q ∷ []) qs) (Some q.name)) e f) ∙ h in cc
    by on false u e f = let no : Some q.name ≡ None = sym (ap (λ t. cond (t && not (has_name q.name before)) (further list (before ++ q ∷ []) qs) (Some q.name)) e) ∙ h in cc

further_none : (list before qs : List ModulePort) → AllByRecursion (λ q. has_port q list ≡ true) qs → Once before qs → further list before qs ≡ None
further_none list before [] a o = refl
further_none list before (q ∷ qs) a o =
    let new : has_name q.name before ≡ false = ap (λ l. has_name q.name l) (sym (append-nil before)) ∙ o [] q qs refl in
    ap₂ (λ t u. cond (t && not u) (further list (before ++ q ∷ []) qs) (Some q.name)) a.0 new
    ∙ further_none list (before ++ q ∷ []) qs a.1 (λ b p behind e. ap (λ l. has_name p.name l) (moved before b q) ∙ o (q ∷ b) p behind (ap (λ l. q ∷ l) e))

-- ---- both

first_none : (a b : Option (List ℕ)) → or_else a b ≡ None → a ≡ None
first_none None b h = refl
first_none (Some n) b h = cc

second_none : (a b : Option (List ℕ)) → or_else a b ≡ None → b ≡ None
second_none None b h = h
second_none (Some n) b h = cc

are_ports : (d : Description) (qs : List ModulePort) → wrong_port d qs ≡ None → ArePorts d qs
are_ports d qs h =
    let f = none_further (ports d) [] qs (second_none (missing (ports d) qs) (further (ports d) [] qs) h) in
    record {
      each = none_missing (ports d) qs (first_none (missing (ports d) qs) (further (ports d) [] qs) h);
      only = f.0;
      once = λ before q behind e. f.1 before q behind e;
    }

none_wrong : (d : Description) (qs : List ModulePort) → ArePorts d qs → wrong_port d qs ≡ None
none_wrong d qs a = ap₂ or_else (missing_none (ports d) qs a.each) (further_none (ports d) [] qs a.only (λ b q behind e. a.once b q behind e))

unmapped : {A : Type 0} (f : A → List ℕ) (r : Option A) → option_map f r ≡ None → r ≡ None
unmapped f None h = refl
unmapped f (Some x) h = cc

pub none_exactly : {A : Type 0} (f : A → List ℕ) (d : Description) (qs : List ModulePort) (r : Option A) → option_map f r ≡ wrong_port d qs → (r ≡ None) ↔ ArePorts d qs
none_exactly f d qs r h = (λ e. are_ports d qs (sym h ∙ ap (option_map f) e), λ a. unmapped f r (h ∙ none_wrong d qs a))

-- ---- the port that is told, in both directions

missing_first : (list qs : List ModulePort) (name : List ℕ) → missing list qs ≡ Some name → IsFirstMissing list qs name
missing_first [] qs name h = let no : ◌≡◌ {A = Option (List ℕ)} None (Some name) = h in cc
missing_first (p ∷ list) qs name h = by (λ g. missing_first list qs name g) (has_port p qs) refl
  where
    by : (missing list qs ≡ Some name → IsFirstMissing list qs name) → (t : Bool) → has_port p qs ≡ t → IsFirstMissing (p ∷ list) qs name
    by on true e =
        let rest : IsFirstMissing list qs name = on (sym (ap (λ t. cond t (missing list qs) (Some p.name)) e) ∙ h) in
        record {
          before = p ∷ rest.before;
          port = rest.port;
          behind = rest.behind;
          split = ap (λ l. p ∷ l) rest.split;
          named = rest.named;
          absent = rest.absent;
          there = (e, rest.there);
        }
    by on false e =
        let same : Some p.name ≡ Some name = sym (ap (λ t. cond t (missing list qs) (Some p.name)) e) ∙ h in
        let named : name ≡ p.name = cc in
        record { before = []; port = p; behind = list; split = refl; named = named; absent = e; there = tt }

stops_missing : (before behind qs : List ModulePort) (p : ModulePort) → has_port p qs ≡ false → AllByRecursion (λ q. has_port q qs ≡ true) before
    → missing (before ++ p ∷ behind) qs ≡ Some p.name
stops_missing [] behind qs p absent there = ap (λ t. cond t (missing behind qs) (Some p.name)) absent
stops_missing (x ∷ xs) behind qs p absent there =
    ap (λ t. cond t (missing (xs ++ p ∷ behind) qs) (Some x.name)) there.0 ∙ stops_missing xs behind qs p absent there.1

-- the same of further ports, behind these
record FurtherBehind (acc list qs : List ModulePort) (name : List ℕ) : Type 0 where
  before : List ModulePort
  port : ModulePort
  behind : List ModulePort
  split : qs ≡ before ++ port ∷ behind
  named : name ≡ port.name
  wrong : (has_port port list ≡ false) ⊎ (has_name port.name (acc ++ before) ≡ true)
  only : AllByRecursion (λ q. has_port q list ≡ true) before
  once : Once acc before

further_first : (list acc qs : List ModulePort) (name : List ℕ) → further list acc qs ≡ Some name → FurtherBehind acc list qs name
further_first list acc [] name h = let no : ◌≡◌ {A = Option (List ℕ)} None (Some name) = h in cc
further_first list acc (q ∷ qs) name h = by (λ g. further_first list (acc ++ q ∷ []) qs name g) (has_port q list) (has_name q.name acc) refl refl
  where
    nothing : Once acc []
    nothing [] p behind e = cc
    nothing (x ∷ b) p behind e = cc

    here : (has_port q list ≡ false) ⊎ (has_name q.name (acc ++ []) ≡ true) → Some q.name ≡ Some name → FurtherBehind acc list (q ∷ qs) name
    here w same =
        let named : name ≡ q.name = cc in
        record { before = []; port = q; behind = qs; split = refl; named = named; wrong = w; only = tt; once = nothing }

    by : (further list (acc ++ q ∷ []) qs ≡ Some name → FurtherBehind (acc ++ q ∷ []) list qs name) → (t u : Bool) → has_port q list ≡ t → has_name q.name acc ≡ u
        → FurtherBehind acc list (q ∷ qs) name
    by on true false e f =
        let rest : FurtherBehind (acc ++ q ∷ []) list qs name = on (sym (ap₂ (λ t u. cond (t && not u) (further list (acc ++ q ∷ []) qs) (Some q.name)) e f) ∙ h) in
        record {
          before = q ∷ rest.before;
          port = rest.port;
          behind = rest.behind;
          split = ap (λ l. q ∷ l) rest.split;
          named = rest.named;
          wrong = subst (λ l. (has_port rest.port list ≡ false) ⊎ (has_name rest.port.name l ≡ true)) (moved acc rest.before q) rest.wrong;
          only = (e, rest.only);
          once = once_more acc rest.before q f rest.once;
        }
    by on true true e f =
        here (inr (ap (λ l. has_name q.name l) (append-nil acc) ∙ f))
        (sym (ap₂ (λ t u. cond (t && not u) (further list (acc ++ q ∷ []) qs) (Some q.name)) e f) ∙ h)
    by on false u e f =
        here (inl e) (sym (ap (λ t. cond (t && not (has_name q.name acc)) (further list (acc ++ q ∷ []) qs) (Some q.name)) e) ∙ h)

and_no : (x : Bool) → (x && false) ≡ false
and_no true = refl
and_no false = refl

stops_further : (before behind list acc : List ModulePort) (p : ModulePort) → (has_port p list ≡ false) ⊎ (has_name p.name (acc ++ before) ≡ true)
    → AllByRecursion (λ q. has_port q list ≡ true) before → Once acc before → further list acc (before ++ p ∷ behind) ≡ Some p.name
stops_further [] behind list acc p (inl e) only once =
    ap (λ t. cond (t && not (has_name p.name acc)) (further list (acc ++ p ∷ []) behind) (Some p.name)) e
stops_further [] behind list acc p (inr f) only once =
    ap (λ u. cond (has_port p list && not u) (further list (acc ++ p ∷ []) behind) (Some p.name)) (ap (λ l. has_name p.name l) (sym (append-nil acc)) ∙ f)
    ∙ ap (λ t. cond t (further list (acc ++ p ∷ []) behind) (Some p.name)) (and_no (has_port p list))
stops_further (x ∷ xs) behind list acc p wrong only once =
    let new : has_name x.name acc ≡ false = ap (λ l. has_name x.name l) (sym (append-nil acc)) ∙ once [] x xs refl in
    ap₂ (λ t u. cond (t && not u) (further list (acc ++ x ∷ []) (xs ++ p ∷ behind)) (Some x.name)) only.0 new
    ∙ stops_further xs behind list (acc ++ x ∷ []) p
    (subst (λ l. (has_port p list ≡ false) ⊎ (has_name p.name l ≡ true)) (sym (moved acc xs x)) wrong) only.1
    (λ b q rest e. ap (λ l. has_name q.name l) (moved acc b x) ∙ once (x ∷ b) q rest (ap (λ l. x ∷ l) e))

first_further : (list qs : List ModulePort) (name : List ℕ) → further list [] qs ≡ Some name → IsFirstFurther list qs name
first_further list qs name h =
    let f : FurtherBehind [] list qs name = further_first list [] qs name h in
    record {
      before = f.before;
      port = f.port;
      behind = f.behind;
      split = f.split;
      named = f.named;
      wrong = f.wrong;
      only = f.only;
      once = λ b q rest e. f.once b q rest e;
    }

wrong_is : (d : Description) (qs : List ModulePort) (name : List ℕ) → wrong_port d qs ≡ Some name → IsWrongPort d qs name
wrong_is d qs name h = by (missing (ports d) qs) refl
  where
    by : (m : Option (List ℕ)) → missing (ports d) qs ≡ m → IsWrongPort d qs name
    by None e = inr (none_missing (ports d) qs e, first_further (ports d) qs name (sym (ap (λ o. or_else o (further (ports d) [] qs)) e) ∙ h))
    by (Some n) e = inl (missing_first (ports d) qs name (e ∙ sym (ap (λ o. or_else o (further (ports d) [] qs)) e) ∙ h))

is_wrong : (d : Description) (qs : List ModulePort) (name : List ℕ) → IsWrongPort d qs name → wrong_port d qs ≡ Some name
is_wrong d qs name (inl m) =
    ap (λ o. or_else o (further (ports d) [] qs))
    (ap (λ l. missing l qs) m.split ∙ stops_missing m.before m.behind qs m.port m.absent m.there ∙ ap Some (sym m.named))
is_wrong d qs name (inr (a, f)) =
    ap₂ or_else (missing_none (ports d) qs a)
    (ap (further (ports d) []) f.split ∙ stops_further f.before f.behind (ports d) [] f.port f.wrong f.only (λ b q rest e. f.once b q rest e) ∙ ap Some (sym f.named))

pub names_exactly : {A : Type 0} (f : A → List ℕ) (d : Description) (qs : List ModulePort) (r : Option A) → option_map f r ≡ wrong_port d qs
    → (name : List ℕ) → (option_map f r ≡ Some name) ↔ IsWrongPort d qs name
names_exactly f d qs r h name = (λ e. wrong_is d qs name (sym h ∙ e), λ w. h ∙ is_wrong d qs name w)

-- ---- a self-test's own ports

and_first : (x y : Bool) → (x && y) ≡ true → x ≡ true
and_first true y h = refl
and_first false y h = cc

and_second : (x y : Bool) → (x && y) ≡ true → y ≡ true
and_second true y h = h
and_second false y h = cc

-- no name stands twice, nor among those before
abbrev fresh : List ModulePort → List ModulePort → Bool
fresh before [] = true
fresh before (q ∷ qs) = not (has_name q.name before) && fresh (before ++ q ∷ []) qs

further_fresh : (list before qs : List ModulePort) → AllByRecursion (λ q. has_port q list ≡ true) qs → fresh before qs ≡ true → further list before qs ≡ None
further_fresh list before [] a f = refl
further_fresh list before (q ∷ qs) a f =
    ap₂ (λ t u. cond (t && u) (further list (before ++ q ∷ []) qs) (Some q.name)) a.0 (and_first (not (has_name q.name before)) (fresh (before ++ q ∷ []) qs) f)
    ∙ further_fresh list (before ++ q ∷ []) qs a.1 (and_second (not (has_name q.name before)) (fresh (before ++ q ∷ []) qs) f)

-- a port that is as wide as itself, where no later one is it
own_width : (n : ℕ) → (nat_eq n n || false) ≡ true
own_width n = ap (λ t. t || false) ((Decides-eqb n n).1 refl)

own_each : (d : Description) → AllByRecursion (λ p. has_port p (ports d) ≡ true) (ports d)
own_each d = (refl, (refl, (own_width d.bits, (refl, (refl, (own_width d.scramble.width, (own_width d.bits, (refl, (refl, tt)))))))))

own_ports : (d : Description) → wrong_port d (ports d) ≡ None
own_ports d = ap₂ or_else (missing_none (ports d) (ports d) (own_each d)) (further_fresh (ports d) [] (ports d) (own_each d) refl)

-- no port of a self-test is wrong
pub test_ports : (mo : ModuleTree) (march : List MarchElement) (d : Description) → SelfTest mo march d → wrong_port d mo.ports ≡ None
test_ports mo march d test = ap (wrong_port d) test.ports ∙ own_ports d
