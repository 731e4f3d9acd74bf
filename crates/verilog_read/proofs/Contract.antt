-- What the reader's answer says of the text.
use Rattle.std.proofs.Common.{◌≡◌, ℕ, true, List, Result, Ok, Err, IfOk, IfErr, MatchResult, refl, sym, ap, subst, ◌∙◌, ◌↔◌, inl, inr, arith}
use Rattle.verilog_tree.specs.declared.tree.Module.{Module}
use Rattle.verilog_tree.specs.Formed.{formed}
use Rattle.verilog_tree.specs.Plain.{ModuleTree, plain_module}
use Rattle.verilog_tree.specs.Spells.{Text, all_limits}
use Rattle.verilog_tree.specs.Grammar.{Style}
use Rattle.verilog_tree.specs.declared.fault.ReadFault.{ReadFault}
use Rattle.verilog_tree.specs.declared.fault.ReadFault.TheVariants as R
use Rattle.verilog_text.specs.Answering.{Answer, Finished, Faulty, answer}
use Rattle.verilog_read.specs.inner.Told.{Gives}
use Rattle.verilog_text.specs.Refusals.{SaysIn, StandsIn, IsFirstIn}
use Rattle.verilog_text.proofs.Faults.{says}
use Rattle.verilog_text.proofs.Finishing.{finishes}
use Rattle.verilog_text.proofs.Firsts.{first}
use Rattle.verilog_text.proofs.Sizes.{spelled_formed}

module _ (style : Style) where
  pub read_spells : (b : List ℕ) (r : Result Module ReadFault) → Gives (answer style b) r → IfOk r (λ m. Text style all_limits b (plain_module m))
  read_spells b (Ok m) g = (finishes style b (plain_module m)).0 g
  read_spells b (Err f) g = tt

  pub read_formed : (b : List ℕ) (r : Result Module ReadFault) → Gives (answer style b) r → IfOk r (λ m. formed (plain_module m) ≡ true)
  read_formed b (Ok m) g = spelled_formed style b (plain_module m) ((finishes style b (plain_module m)).0 g)
  read_formed b (Err f) g = tt

  same_module : (a : Answer) (v w : ModuleTree) → a ≡ Finished v → a ≡ Finished w → v ≡ w
  same_module a v w e f = let k : Finished v ≡ Finished w = sym e ∙ f in cc

  no_fault : {A : Type 0} (a : Answer) (v : ModuleTree) (f : ReadFault) → a ≡ Finished v → a ≡ Faulty f → A
  no_fault a v f e g = let k : Finished v ≡ Faulty f = sym e ∙ g in cc

  pub spelled_read : (b : List ℕ) (v : ModuleTree) (r : Result Module ReadFault) → Gives (answer style b) r → Text style all_limits b v → MatchResult r (λ m. plain_module m ≡ v) (λ fault. fault ≡ R.NoMemory)
  spelled_read b v (Ok m) g h = same_module (answer style b) (plain_module m) v g ((finishes style b v).1 h)
  spelled_read b v (Err R.NoMemory) g h = refl
  spelled_read b v (Err (R.Unexpected k)) g h = no_fault (answer style b) v (R.Unexpected k) ((finishes style b v).1 h) g
  spelled_read b v (Err R.Truncated) g h = no_fault (answer style b) v R.Truncated ((finishes style b v).1 h) g
  spelled_read b v (Err (R.TooDeep k)) g h = no_fault (answer style b) v (R.TooDeep k) ((finishes style b v).1 h) g
  spelled_read b v (Err (R.LongName k)) g h = no_fault (answer style b) v (R.LongName k) ((finishes style b v).1 h) g
  spelled_read b v (Err (R.OutOfRange k)) g h = no_fault (answer style b) v (R.OutOfRange k) ((finishes style b v).1 h) g

  -- a fault says what stands at its byte
  pub read_says : (b : List ℕ) (r : Result Module ReadFault) → Gives (answer style b) r → IfErr r (SaysIn style b)
  read_says b (Ok m) g = tt
  read_says b (Err R.NoMemory) g = tt
  read_says b (Err (R.Unexpected k)) g = says style b (R.Unexpected k) g
  read_says b (Err R.Truncated) g = says style b R.Truncated g
  read_says b (Err (R.TooDeep k)) g = says style b (R.TooDeep k) g
  read_says b (Err (R.LongName k)) g = says style b (R.LongName k) g
  read_says b (Err (R.OutOfRange k)) g = says style b (R.OutOfRange k) g

  -- ---- the first refusal

  faulty : (a : Answer) (f : ReadFault) → Gives a (Err f) → (f ≡ R.NoMemory → ⊥) → a ≡ Faulty f
  faulty a R.NoMemory g n = absurd (n refl)
  faulty a (R.Unexpected k) g n = g
  faulty a R.Truncated g n = g
  faulty a (R.TooDeep k) g n = g
  faulty a (R.LongName k) g n = g
  faulty a (R.OutOfRange k) g n = g

  stands : (b : List ℕ) (f : ReadFault) → SaysIn style b f → (f ≡ R.NoMemory → ⊥) → StandsIn style b f
  stands b R.NoMemory h n = absurd (n refl)
  stands b (R.Unexpected k) h n = h
  stands b R.Truncated h n = h
  stands b (R.TooDeep k) h n = h
  stands b (R.LongName k) h n = h
  stands b (R.OutOfRange k) h n = h

  -- what the reader answers is the first
  answered : (b : List ℕ) (f : ReadFault) → answer style b ≡ Faulty f → (f ≡ R.NoMemory → ⊥) → IsFirstIn style b f
  answered b f e n = (stands b f (says style b f e) n, λ g h. first style b (Faulty f) g e h)

  pub read_first : (b : List ℕ) (r : Result Module ReadFault) → Gives (answer style b) r → (r ≡ Err R.NoMemory → ⊥) → (f : ReadFault) → (r ≡ Err f) ↔ IsFirstIn style b f
  read_first b (Ok m) g n f = (λ e. cc, λ h. absurd (first style b (Finished (plain_module m)) f g h.0))
  read_first b (Err k) g n f = (λ e. let i : k ≡ f = cc in subst (λ x. IsFirstIn style b x) i (answered b k there not_memory), back)
    where
      not_memory : k ≡ R.NoMemory → ⊥
      not_memory e = n (ap Err e)

      there : answer style b ≡ Faulty k
      there = faulty (answer style b) k g not_memory

      back : IsFirstIn style b f → (let r : Result Module ReadFault = Err k in r) ≡ Err f
      back h = elim (first style b (Faulty k) f there h.0) [
        | inl e ↦ ap Err (sym e)
        | inr l ↦ elim (h.1 k (answered b k there not_memory).0) [ inl e ↦ ap Err e | inr m ↦ absurd (omega (arith, l, m)) ]
      ]
