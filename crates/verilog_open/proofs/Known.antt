-- What nothing that is left open leads to has a number.
use Rattle.std.proofs.Common.{◌≡◌, ℕ, zero, suc, ◌+◌, ◌*◌, ◌^◌, ◌<◌, Bool, true, false, cond, List, [], ◌∷◌, Option, Some, None, option_map, refl, sym, subst, arith, inl, inr}
use Rattle.std.proofs.lemmas.Slice.Eq.{bytes_eq-Decides}
use Rattle.std.specs.Str.{bytes_eq}
use Rattle.verilog_tree.specs.declared.names.Kind.{Kind}
use Rattle.verilog_tree.specs.declared.names.Kind.TheVariants as K
use Rattle.verilog_tree.specs.declared.tree.BinOp.{BinOp}
use Rattle.verilog_tree.specs.Plain.{Expression, Net, BitSelect, PartSelect, Literal, Concatenation, Prefixed, Infixed, Conditional, Expressions, NoMore, Followed, ModuleTree}
use Rattle.verilog_tree.specs.Names.{Declaration, declarations, lookup, is_clk}
use Rattle.verilog_tree.specs.Formed.{formed}
use Rattle.verilog_tree.specs.Meaning.{width, widths, prefixed, truth, names_widths, last_set}
use Rattle.verilog_tree.specs.Rules.{first_break}
use Rattle.verilog_tree.specs.Wires.{Uses, UsesAny, Falls}
use Rattle.verilog_tree.specs.Partial.{both}
use Rattle.verilog_tree.proofs.Clean.{driver}
use Rattle.verilog_tree.proofs.Settling.{leads_of}
use Rattle.verilog_open.specs.Open.{OpenEnv, open_infixed, open_choice, open_value, open_joined, OpenSettles}
use Rattle.verilog_open.specs.Known.{Known, AreClear, AreKnown, RegistersKnown, InputsKnown, SetsKnown, IsGiven}
use Rattle.verilog_open.proofs.Settling.{by_kind, by_source, source_of}

-- ---- an expression

known_map : (f : ℕ → ℕ) (o : Option ℕ) → Known o → Known (option_map f o)
known_map f None h = h
known_map f (Some v) h = tt

known_infixed : (o : BinOp) (k : ℕ) (a b : Option ℕ) → Known a → Known b → Known (open_infixed o k a b)
known_infixed o k None b h g = absurd h
known_infixed o k (Some a) None h g = absurd g
known_infixed o k (Some a) (Some b) h g = tt

known_both : (f : ℕ → ℕ → ℕ) (a b : Option ℕ) → Known a → Known b → Known (both f a b)
known_both f None b h g = absurd h
known_both f (Some a) None h g = absurd g
known_both f (Some a) (Some b) h g = tt

known_side : (t : Bool) (a b : Option ℕ) → Known a → Known b → Known (cond t a b)
known_side true a b h g = h
known_side false a b h g = g

known_choice : (c a b : Option ℕ) → Known c → Known a → Known b → Known (open_choice c a b)
known_choice None a b k h g = absurd k
known_choice (Some c) a b k h g = known_side (truth c) a b h g

-- an expression of names that have numbers has one
mutual
  pub known_value : (w : List ℕ → ℕ) (o : OpenEnv) (x : Expression) → ((m : List ℕ) → Uses m x → Known (o m)) → Known (open_value w o x)
  known_value w o (Net n) h = h n refl
  known_value w o (BitSelect n i) h = known_map _ (o n) (h n refl)
  known_value w o (PartSelect n i l) h = known_map _ (o n) (h n refl)
  known_value w o (Literal b) h = tt
  known_value w o (Concatenation xs) h = known_joined w o xs h
  known_value w o (Prefixed p x) h = known_map (prefixed p (width w x)) (open_value w o x) (known_value w o x h)
  known_value w o (Infixed p x y) h =
      known_infixed p (width w x) (open_value w o x) (open_value w o y) (known_value w o x (λ m u. h m (inl u))) (known_value w o y (λ m u. h m (inr u)))
  known_value w o (Conditional c x y) h =
      known_choice (open_value w o c) (open_value w o x) (open_value w o y) (known_value w o c (λ m u. h m (inl u)))
      (known_value w o x (λ m u. h m (inr (inl u)))) (known_value w o y (λ m u. h m (inr (inr u))))

  known_joined : (w : List ℕ → ℕ) (o : OpenEnv) (xs : Expressions) → ((m : List ℕ) → UsesAny m xs → Known (o m)) → Known (open_joined w o xs)
  known_joined w o NoMore h = tt
  known_joined w o (Followed x xs) h =
      known_both (λ a b. a * 2 ^ widths w xs + b) (open_value w o x) (open_joined w o xs) (known_value w o x (λ m u. h m (inl u))) (known_joined w o xs (λ m u. h m (inr u)))

-- ---- a cycle

known_input : (c : Bool) (o : Option ℕ) → (c ≡ false → Known o) → Known (cond c (Some 0) o)
known_input true o h = tt
known_input false o h = h refl

known_kind : (w : List ℕ → ℕ) (regs ins e : OpenEnv) (n : List ℕ) (k : Kind) (o : Option Expression) → (k ≡ K.Register → Known (regs n)) → (k ≡ K.Input → is_clk n ≡ false → Known (ins n))
    → ((x : Expression) → o ≡ Some x → Known (open_value w e x)) → Known (by_kind w regs ins e k o n)
known_kind w regs ins e n K.Input o r i x = known_input (is_clk n) (ins n) (i refl)
known_kind w regs ins e n K.Wire None r i x = tt
known_kind w regs ins e n K.Wire (Some y) r i x = x y refl
known_kind w regs ins e n K.Register o r i x = r refl

known_source : (w : List ℕ → ℕ) (regs ins e : OpenEnv) (n : List ℕ) (d : Option Declaration) (o : Option Expression)
    → ((c : Declaration) → d ≡ Some c → c.kind ≡ K.Register → Known (regs n))
    → ((c : Declaration) → d ≡ Some c → c.kind ≡ K.Input → is_clk n ≡ false → Known (ins n))
    → ((x : Expression) → o ≡ Some x → Known (open_value w e x)) → Known (by_source w regs ins e d o n)
known_source w regs ins e n None o r i x = tt
known_source w regs ins e n (Some d) o r i x = known_kind w regs ins e n d.kind o (r d refl) (i d refl) x

module _ (mo : ModuleTree) (f : formed mo ≡ true) (h : first_break mo ≡ None) (rank : List ℕ → ℕ) (falls : Falls rank mo.items) (clear : List ℕ → Bool) (are : AreClear clear mo.items)
    (regs ins o : OpenEnv) (settles : OpenSettles mo regs ins o) (known : RegistersKnown mo clear regs) (inputs : InputsKnown mo clear ins) where
  by_rank : (k : ℕ) (n : List ℕ) → rank n < k → clear n ≡ true → Known (o n)
  by_rank zero n lt c = absurd (omega arith)
  by_rank (suc k) n lt c =
      subst Known (sym (source_of mo f h rank falls regs ins o settles n))
      (known_source (names_widths mo) regs ins o n (lookup (declarations mo.ports mo.items) n) (driver mo.items n) (λ d q i. known n d q i c) (λ d q i z. inputs n d q i z c)
      (λ x q. known_value (names_widths mo) o x (λ m u.
      let l = leads_of mo.items n m x q u in by_rank k m (below (falls n m l) lt) (are n m l c))))
    where
      below : {a b k : ℕ} → a < b → b < suc k → a < k
      below p q = omega (arith, p, q)

  pub clear_are_known : AreKnown clear o
  clear_are_known n c = by_rank (suc (rank n)) n (omega arith) c

-- ---- an edge

pub known_last : (n : List ℕ) (ps : List (List ℕ × Option ℕ)) (old : Option ℕ) → SetsKnown n ps → Known old → Known (last_set n ps old)
known_last n [] old s k = k
known_last n (p ∷ ps) old s k = known_last n ps (cond (bytes_eq n p.0) p.1 old) s.1 (here (bytes_eq n p.0) (bytes_eq-Decides n p.0).0)
  where
    here : (t : Bool) → (t ≡ true → n ≡ p.0) → Known (cond t p.1 old)
    here true q = s.0 (q refl)
    here false q = k

pub known_given : (n : List ℕ) (ps : List (List ℕ × Option ℕ)) (old : Option ℕ) → SetsKnown n ps → IsGiven n ps → Known (last_set n ps old)
known_given n [] old s g = absurd g
known_given n (p ∷ ps) old s (inl g) = known_last n ps (cond (bytes_eq n p.0) p.1 old) s.1 (here (bytes_eq n p.0) ((bytes_eq-Decides n p.0).1 g))
  where
    here : (t : Bool) → t ≡ true → Known (cond t p.1 old)
    here true q = s.0 g
    here false q = cc
known_given n (p ∷ ps) old s (inr g) = known_given n ps (cond (bytes_eq n p.0) p.1 old) s.1 g
