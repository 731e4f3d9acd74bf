-- The value of an expression is within its width.
use Rattle.std.proofs.Common.{◌≡◌, ℕ, ◌+◌, ◌-◌, ◌*◌, ◌/◌, ◌%◌, ◌^◌, ◌<◌, Bool, true, false, cond, not, ◌&&◌, nat_eq, nat_lt, List, Some, None, refl, arith, inl, inr, count_ones}
use Rattle.std.proofs.lemmas.Nat.{or_lt, xor_lt, and_le_l, mod_below, pow_pos, pow-add, mul-add-lt}
use Rattle.std.proofs.Math.Nat.{div-le_self}
use Rattle.std.proofs.lemmas.Bool.{and_parts, eqb-true, ltb-true}
use Rattle.verilog_tree.specs.declared.tree.UnOp.{UnOp}
use Rattle.verilog_tree.specs.declared.tree.UnOp.TheVariants as U
use Rattle.verilog_tree.specs.declared.tree.BinOp.{BinOp}
use Rattle.verilog_tree.specs.declared.tree.BinOp.TheVariants as B
use Rattle.verilog_tree.specs.Plain.{Expression, Net, BitSelect, PartSelect, Literal, Concatenation, Prefixed, Infixed, Conditional, Expressions, NoMore, Followed}
use Rattle.verilog_tree.specs.Formed.{expression_formed, expressions_formed, has_expression, is_width}
use Rattle.verilog_tree.specs.Meaning.{Env, bit, truth, prefixed_width, infixed_width, prefixed, infixed, width, widths, value, joined}
use Rattle.verilog_tree.specs.Rules.{unequal, too_wide, Width, infixed_widths, expression_widths, parts_widths}
use Rattle.verilog_tree.specs.Wires.{Uses, UsesAny}
use Rattle.verilog_tree.proofs.Breaks.{two, three, four}

equal_at : (t : Bool) (j k : ℕ) → (t ≡ true → j ≡ k) → cond t None (Some (Width j k)) ≡ None → j ≡ k
equal_at true j k same h = same refl
equal_at false j k same h = cc

pub unequal_none : (j k : ℕ) → unequal j k ≡ None → j ≡ k
unequal_none j k h = equal_at (nat_eq j k) j k (eqb-true j k) h

bit_below : (b : Bool) → bit b < 2 ^ 1
bit_below true = omega arith
bit_below false = omega arith

pub prefixed_fits : (o : UnOp) (k a : ℕ) → a < 2 ^ k → prefixed o k a < 2 ^ prefixed_width o k
prefixed_fits U.Not k a h = bit_below (not (truth a))
prefixed_fits U.Invert k a h = omega (arith, pow_pos k)
prefixed_fits U.AllOnes k a h = bit_below (nat_eq a (2 ^ k - 1))
prefixed_fits U.AnyOne k a h = bit_below (truth a)
prefixed_fits U.Parity k a h = mod_below (count_ones a) 2 (omega arith)

chosen_below : (t : Bool) (a b c : ℕ) → a < c → b < c → cond t a b < c
chosen_below true a b c p q = p
chosen_below false a b c p q = q

modulo_fits : (a k : ℕ) → a % 2 ^ k < 2 ^ k
modulo_fits a k = mod_below a (2 ^ k) (pow_pos k)

pub moved : (j k b : ℕ) → k ≡ j → b < 2 ^ j → b < 2 ^ k
moved j k b e h = rw e h

pub infixed_fits : (o : BinOp) (k j a b : ℕ) → a < 2 ^ k → b < 2 ^ j → infixed_widths o k j ≡ None → infixed o k a b < 2 ^ infixed_width o k
infixed_fits B.Add k j a b p q h = modulo_fits (a + b) k
infixed_fits B.Sub k j a b p q h = modulo_fits (a + 2 ^ k - b) k
infixed_fits B.And k j a b p q h = omega (arith, and_le_l a b)
infixed_fits B.Or k j a b p q h = or_lt k a b p (moved j k b (unequal_none k j h) q)
infixed_fits B.Xor k j a b p q h = xor_lt k a b p (moved j k b (unequal_none k j h) q)
infixed_fits B.Shl k j a b p q h = chosen_below (nat_lt b k) (a * 2 ^ b % 2 ^ k) 0 (2 ^ k) (modulo_fits (a * 2 ^ b) k) (pow_pos k)
infixed_fits B.Shr k j a b p q h = chosen_below (nat_lt b k) (a / 2 ^ b) 0 (2 ^ k) (omega (arith, div-le_self a (2 ^ b))) (pow_pos k)
infixed_fits o k j a b p q h = bit_below _

pub joins : (p q a b : ℕ) → a < 2 ^ p → b < 2 ^ q → a * 2 ^ q + b < 2 ^ (p + q)
joins p q a b h k = rw (pow-add 2 p q) (omega (arith, mul-add-lt a (2 ^ q) b (2 ^ p) h k))

mutual
  pub value_fits : (w : List ℕ → ℕ) (e : Env) (x : Expression) → ((m : List ℕ) → Uses m x → e m < 2 ^ w m) → expression_formed x ≡ true → expression_widths w x ≡ None → value w e x < 2 ^ width w x
  value_fits w e (Net n) u f h = u n refl
  value_fits w e (BitSelect n i) u f h = mod_below (e n / 2 ^ i) 2 (omega arith)
  value_fits w e (PartSelect n i l) u f h = modulo_fits (e n / 2 ^ l) (i + 1 - l)
  value_fits w e (Literal b) u f h = ltb-true _ _ ((and_parts (is_width b.width) (nat_lt b.value (2 ^ b.width)) f).1)
  value_fits w e (Concatenation xs) u f h =
      joined_fits w e xs u ((and_parts (has_expression xs) (expressions_formed xs) f).1) ((two (parts_widths w xs) (too_wide (widths w xs)) h).0)
  value_fits w e (Prefixed o x) u f h = prefixed_fits o (width w x) (value w e x) (value_fits w e x u f h)
  value_fits w e (Infixed o x y) u f h =
      let f' = and_parts (expression_formed x) (expression_formed y) f in
      let h' = three (expression_widths w x) (expression_widths w y) (infixed_widths o (width w x) (width w y)) h in
      infixed_fits o (width w x) (width w y) (value w e x) (value w e y)
      (value_fits w e x (λ m v. u m (inl v)) f'.0 h'.0)
      (value_fits w e y (λ m v. u m (inr v)) f'.1 h'.1)
      h'.2
  value_fits w e (Conditional c x y) u f h =
      let f' = and_parts (expression_formed c && expression_formed x) (expression_formed y) f in
      let f'' = and_parts (expression_formed c) (expression_formed x) f'.0 in
      let h' = four (expression_widths w c) (expression_widths w x) (expression_widths w y) (unequal (width w x) (width w y)) h in
      chosen_below (truth (value w e c)) (value w e x) (value w e y) (2 ^ width w x)
      (value_fits w e x (λ m v. u m (inr (inl v))) f''.1 h'.1)
      (moved (width w y) (width w x) (value w e y) (unequal_none (width w x) (width w y) h'.3) (value_fits w e y (λ m v. u m (inr (inr v))) f'.1 h'.2))

  pub joined_fits : (w : List ℕ → ℕ) (e : Env) (xs : Expressions) → ((m : List ℕ) → UsesAny m xs → e m < 2 ^ w m) → expressions_formed xs ≡ true → parts_widths w xs ≡ None → joined w e xs < 2 ^ widths w xs
  joined_fits w e NoMore u f h = omega arith
  joined_fits w e (Followed x xs) u f h =
      let f' = and_parts (expression_formed x) (expressions_formed xs) f in
      let h' = two (expression_widths w x) (parts_widths w xs) h in
      joins (width w x) (widths w xs) (value w e x) (joined w e xs)
      (value_fits w e x (λ m v. u m (inl v)) f'.0 h'.0)
      (joined_fits w e xs (λ m v. u m (inr v)) f'.1 h'.1)
