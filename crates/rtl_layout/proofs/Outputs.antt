-- The ports of a cycle answer for the controller.
use Rattle.std.proofs.Common.{◌≡◌, ℕ, ◌+◌, ◌-◌, ◌*◌, ◌/◌, ◌%◌, ◌^◌, ◌<◌, ◌≤◌, Bool, true, false, cond, List, [], ◌∷◌, refl, ap, ◌∙◌, subst, arith, inl, inr}
use Rattle.std.proofs.Math.Nat.{mod-eq_of_lt, add-mul-mod_self_left, mul_assoc, add-mul}
use Rattle.std.proofs.lemmas.Nat.{pow-add}
use Rattle.std.proofs.lemmas.Bool.Decides.{eqb_tells}
use Rattle.verilog_tree.specs.Plain.{Expressions, NoMore, Followed, Net, PartSelect, Concatenation}
use Rattle.verilog_tree.specs.Meaning.{Env, value, widths, joined, names_widths, Settles}
use Rattle.rtl_layout.specs.declared.row.Row.{Row}
use Rattle.rtl_layout.specs.Plan.{Plan}
use Rattle.rtl_layout.specs.Layout.{reset, index, visit, down, row_bit, address_bits, address, visited, self_test}
use Rattle.rtl_layout.specs.Control.{Control, here, operation, outputs, index_at, address_bit, address_of, logical}
use Rattle.rtl_layout.specs.Shows.{Ready, Sized, Answers}
use Rattle.rtl_layout.specs.inner.Shows.{Shows}
use Rattle.rtl_layout.proofs.Counter.{by_bit, on_zero}
use Rattle.rtl_layout.proofs.Step.{word_for, is_back, is_value, is_write, is_live_here, is_visit, is_down, last_is}
use Rattle.rtl_layout.proofs.Turn as T

-- ---- the address

digits : (a b j m : ℕ) → a * 2 ^ (1 + m) + (b * 2 ^ m + j) ≡ (a * 2 + b) * 2 ^ m + j
digits a b j m = ap (λ t. a * t + (b * 2 ^ m + j)) (pow-add 2 1 m) ∙ regroup a b j (2 ^ m)
  where
    regroup : (a b j t : ℕ) → a * (2 ^ 1 * t) + (b * t + j) ≡ (a * 2 + b) * t + j
    regroup a b j t = omega (arith, mul_assoc a 2 t, add-mul (a * 2) b t)

bits_are : (p : Plan) (ws : List ℕ → ℕ) (e : Env) (rs : List Row) (xs : Expressions)
    → joined ws e (address_bits p rs xs) ≡ address_of rs (e index) * 2 ^ widths ws xs + joined ws e xs
bits_are p ws e [] xs = let t : joined ws e xs ≡ 0 * 2 ^ widths ws xs + joined ws e xs = omega arith in t
bits_are p ws e (r ∷ rs) xs = bits_are p ws e rs (Followed (row_bit p.addr_width r) xs) ∙ digits (address_of rs (e index)) (address_bit r (e index)) (joined ws e xs) (widths ws xs)

address_is : (p : Plan) (ws : List ℕ → ℕ) (e : Env) → value ws e (address p) ≡ logical p (e index)
address_is p ws e =
    elim p.straight as (λ t. value ws e (cond t (Net index) (Concatenation (address_bits p p.rows NoMore))) ≡ cond t (e index) (address_of p.rows (e index)))
    [ true ↦ refl | false ↦ bits_are p ws e p.rows NoMore ∙ (let t : address_of p.rows (e index) * 2 ^ 0 + 0 ≡ address_of p.rows (e index) = omega arith in t) ]

-- ---- the index

visited_is : (p : Plan) (ws : List ℕ → ℕ) (e : Env) → 1 ≤ p.addr_width → e visit < 2 ^ p.addr_width → value ws e (visited p) ≡ e visit
visited_is p ws e some small =
    elim (eqb_tells p.addr_width p.visit_width) [
      | inl q ↦ ap (λ t. value ws e (cond t (Net visit) (PartSelect visit (p.addr_width - 1) 0))) q.0
      | inr q ↦
          let all : p.addr_width - 1 + 1 - 0 ≡ p.addr_width = omega arith in
          let none : e visit / 2 ^ 0 ≡ e visit = omega arith in
          ap (λ t. value ws e (cond t (Net visit) (PartSelect visit (p.addr_width - 1) 0))) q.0
          ∙ ap (λ k. e visit / 2 ^ 0 % 2 ^ k) all ∙ ap (λ v. v % 2 ^ p.addr_width) none ∙ mod-eq_of_lt small
    ]

from_the_top : (n k t : ℕ) → k < n → n ≤ t → (n - 1 + t - k) % t ≡ n - 1 - k
from_the_top n k t h l =
    let small : n - 1 - k < t = omega arith in
    let apart : n - 1 + t - k ≡ (n - 1 - k) + t * 1 = omega arith in
    ap (λ v. v % t) apart ∙ add-mul-mod_self_left (n - 1 - k) t 1 ∙ mod-eq_of_lt small

live_awake : (t r : Bool) → cond t false r ≡ true → t ≡ false
live_awake true r h = cc
live_awake false r h = refl

module _ (p : Plan) (ready : Ready p) (sized : Sized p) (regs ins e : Env) (s : Settles (self_test p) regs ins e) (c : Control) (sh : Shows p c regs) where
  abbrev ws : List ℕ → ℕ
  ws = names_widths (self_test p)

  index_here : c.visit < p.words → e index ≡ index_at p (here p c) c.visit
  index_here h =
      let fits = ready.index_fits in
      let held = is_visit p ready sized regs ins e s c sh in
      let v : value ws e (visited p) ≡ c.visit = visited_is p ws e sized.addr_some (omega arith) ∙ held in
      T.index_is p regs ins e s
      ∙ by_bit (here p c).down (e down) _ _ (is_down p ready sized regs ins e s c sh)
      ∙ ap (λ k. cond (here p c).down ((p.words - 1 + 2 ^ p.addr_width - k) % 2 ^ p.addr_width) k) v
      ∙ ap (λ k. cond (here p c).down k c.visit) (from_the_top p.words c.visit (2 ^ p.addr_width) h fits)

  pub answers : ins reset ≡ 0 → Answers p (outputs p c) e
  answers z =
      let r : e reset ≡ 0 = T.reset_in p regs ins e s ∙ z in
      record {
        en_is = T.en_is p regs ins e s ∙ on_zero (e reset) _ _ r ∙ is_live_here p ready sized regs ins e s c sh;
        we_is = T.we_is p regs ins e s ∙ is_write p ready sized regs ins e s c sh;
        addr_is = λ h.
            let awake = live_awake (here p c).pause c.run h in
            let inside : c.visit < p.words = subst (λ t. c.visit < cond t p.pause p.words) awake sh.visit_in in
            T.addr_is p regs ins e s ∙ address_is p ws e ∙ ap (logical p) (index_here inside);
        wdata_is = T.wdata_is p regs ins e s ∙ word_for p ready sized regs ins e s c sh c.back (operation p c).bit (is_back p ready sized regs ins e s c sh) sh.back_in (is_value p ready sized regs ins e s c sh);
        done_is = T.done_is p regs ins e s ∙ on_zero (e reset) _ _ r ∙ (last_is p ready sized regs ins e s c sh z).1 ∙ sh.over_is;
        fail_is = T.fail_is p regs ins e s ∙ on_zero (e reset) _ _ r ∙ T.bad_held p regs ins e s ∙ sh.bad_is;
      }
