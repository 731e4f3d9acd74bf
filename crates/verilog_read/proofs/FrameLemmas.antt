-- Holders that are pushed, and tests of tokens.
use Rattle.std.proofs.Common.{◌≡◌, ℕ, suc, ◌-◌, ◌<◌, ◌≤◌, ◌∙◌, arith, sym, subst, length, take, drop, get_or, drop-cons, Bool, true, false, List, [], ◌∷◌, ◌++◌, refl, ap, map}
use Rattle.std.proofs.lemmas.List.{take-append-drop}
use Rattle.std.proofs.Math.ListN.{drop_of_length-le}
use Rattle.bist_text.specs.ReservedWords.{is_among, reserved_words}
use Rattle.verilog_tree.specs.declared.tree.Arm.{Arm}
use Rattle.verilog_tree.specs.declared.tree.Stmt.{Stmt}
use Rattle.verilog_tree.specs.Grammar.{then_all}
use Rattle.verilog_tree.specs.Plain.{arms, ArmOf, NoArm, plain_stmt, plain_stmts, Then}
use Rattle.verilog_tree.specs.inner.Plain.{plain_arm}
use Rattle.verilog_tree.specs.Tokens.{Token, Identifier, Number, Based, Unused, Sign}
use Rattle.verilog_read.specs.declared.places.Holder.{Holder}
use Rattle.verilog_read.specs.declared.words.Expected.{Expected}
use Rattle.verilog_read.specs.inner.WordSets.{ExpectsBehind}
use Rattle.verilog_read.specs.inner.Answers.{name_unless, a_name, found}
use Rattle.verilog_read.specs.inner.Frames.{holder, holders}
use Rattle.verilog_text.specs.Places.{Around, style_of, State, more_arms}
use Rattle.verilog_text.specs.Steps.{unless, takes_name}
use Rattle.verilog_read.specs.declared.places.Holder.TheVariants as H

pub holders_push : (hs : List Holder) (h : Holder) (a : Around) → holders (hs ++ h ∷ []) a ≡ holder h (holders hs a)
holders_push [] h a = refl
holders_push (g ∷ hs) h a = holders_push hs h (holder g a)

pub stmts_join : (xs ys : List Stmt) → plain_stmts (xs ++ ys) ≡ then_all (plain_stmts xs) (plain_stmts ys)
stmts_join [] ys = refl
stmts_join (x ∷ xs) ys = ap (λ ss. Then (plain_stmt x) ss) (stmts_join xs ys)

pub arms_push : (xs : List Arm) (x : Arm) → arms (map plain_arm (xs ++ x ∷ [])) ≡ more_arms (arms (map plain_arm xs)) (ArmOf (plain_arm x).labels (plain_arm x).body NoArm)
arms_push [] x = refl
arms_push (y ∷ xs) x = ap (λ as'. ArmOf (plain_arm y).labels (plain_arm y).body as') (arms_push xs x)

-- the style is that of the innermost always
pub style_held : (hs : List Holder) (a : Around) → style_of (holders hs a) ≡ style_of a
style_held [] a = refl
style_held (H.Block r old ∷ hs) a = style_held hs (holder (H.Block r old) a)
style_held (H.Then r c ∷ hs) a = style_held hs (holder (H.Then r c) a)
style_held (H.Else r c s ∷ hs) a = style_held hs (holder (H.Else r c s) a)
style_held (H.Labelled k ls ∷ hs) a = style_held hs (holder (H.Labelled k ls) a)
style_held (H.Other k ∷ hs) a = style_held hs (holder (H.Other k) a)

found_is : (b : Bool) (n : List ℕ) (f : List ℕ → State) → unless b (f n) ≡ found (name_unless b n) f
found_is true n f = refl
found_is false n f = refl

pub takes_name_is : (f : List ℕ → State) (t : Token) → takes_name f t ≡ found (a_name t) f
takes_name_is f (Identifier n) = found_is (is_among n reserved_words) n f
takes_name_is f (Number l n) = refl
takes_name_is f (Based x) = refl
takes_name_is f Unused = refl
takes_name_is f (Sign m) = refl

-- ---- the innermost

-- a list, by its last element
pub last_split : {X : Type 0} (xs : List X) (x : X) → 1 ≤ length xs → x ≡ get_or xs (length xs - 1) x → xs ≡ take (length xs - 1) xs ++ x ∷ []
last_split xs x h e =
    let within : length xs - 1 < length xs = omega arith in
    let ends : drop (suc (length xs - 1)) xs ≡ [] = drop_of_length-le xs {i = suc (length xs - 1)} (omega arith) in
    sym (take-append-drop (length xs - 1) xs) ∙ ap (λ r. take (length xs - 1) xs ++ r) (drop-cons xs (length xs - 1) x within ∙ ap (λ y. y ∷ drop (suc (length xs - 1)) xs) (sym e) ∙ ap (λ r. x ∷ r) ends)

pub holders_last : (hs : List Holder) (x : Holder) (a : Around) → 1 ≤ length hs → x ≡ get_or hs (length hs - 1) x → holders hs a ≡ holder x (holders (take (length hs - 1) hs) a)
holders_last hs x a h e = ap (λ y. holders y a) (last_split hs x h e) ∙ holders_push (take (length hs - 1) hs) x a

pub expects_last : (e f : Expected) (a b : Around) → e ≡ f → a ≡ b → ExpectsBehind f b → ExpectsBehind e a
expects_last e f a b p q x = subst (λ (y : Expected). ExpectsBehind y a) (sym p) (subst (λ (z : Around). ExpectsBehind f z) (sym q) x)
