-- One cycle of the module is one step of the controller.
use Rattle.std.proofs.Common.{◌≡◌, ℕ, suc, ◌+◌, ◌-◌, ◌%◌, ◌^◌, Bool, true, false, cond, nat_eq, List, ◌++◌, length, refl, ap, ◌∙◌, subst, append-nil}
use Rattle.std.specs.Str.{bytes_eq}
use Rattle.verilog_tree.specs.Plain.{Net, Statement, statements}
use Rattle.verilog_tree.specs.Names.{item_declarations}
use Rattle.verilog_tree.specs.Meaning.{Env, bit, truth, value, names_widths, AllGiven, Equations, Settles, sets, last_set, next}
use Rattle.rtl_layout.specs.Plan.{Plan, several, several_bits, is_single}
use Rattle.rtl_layout.specs.Layout.{reset, rdata, en, we, addr, wdata, done, fail, oper, visit, element, back, run, want, bad, writes, ones, ends, write, down, pause, one, one_reg, one_set, ends_more, ends_again, ends_next, pause_next, last_oper, last_visit, last_element, last_back, live, index, pattern, word, over_at, by_element, by_next, flag_row, in_row, items_after, stage_regs, stage_sets, end_sets, sets_all, self_test}
use Rattle.rtl_layout.specs.Layout as L
use Rattle.rtl_layout.proofs.Stages.{given_behind_one, equations_behind_one, blocks_behind_one, sets_behind_one, left_behind_one, given_behind, equations_behind, blocks_behind, Ageless, sets_behind, Clear}

-- what the edge leaves in a register that no age has
module _ (p : Plan) (e : Env) where
  abbrev ws : List ℕ → ℕ
  ws = names_widths (self_test p)

  pub next_is : (n : List ℕ) → next (self_test p) e n ≡ last_set n (sets ws e (statements (sets_all p))) (e n)
  next_is n =
      ap (λ l. last_set n l (e n))
      (blocks_behind_one ws e (several_bits p) (stage_regs (several p) p.back_width 0 p.delay ++ items_after p)
      ∙ blocks_behind ws e (several p) p.back_width 0 p.delay (items_after p) ∙ append-nil (sets ws e (statements (sets_all p))))

  -- behind the digits and the operation's bit
  abbrev Behind : List Statement
  Behind = stage_sets (several p) p.back_width 0 p.delay ++ end_sets p

  pub next_left : (n : List ℕ) → (old : ℕ) × (next (self_test p) e n ≡ last_set n (sets ws e (statements Behind)) old)
  next_left n = left_behind_one ws e n p (several_bits p) Behind (next (self_test p) e n) (e n) (next_is n)

  behind : (n : List ℕ) → bytes_eq n one ≡ false → Ageless 0 n → (old : ℕ)
      → last_set n (sets ws e (statements (one_set p (several_bits p) ++ Behind))) old ≡ last_set n (sets ws e (statements (end_sets p))) old
  behind n h f old = sets_behind_one ws e n p (several_bits p) h Behind old ∙ sets_behind ws e n (several p) p.back_width 0 p.delay f (end_sets p) old

  -- each register behind the others
  pub next_oper : next (self_test p) e oper ≡ value ws e (L.oper_next p)
  next_oper = next_is oper ∙ behind oper refl (record { no_reads = λ j l. refl; no_over = λ j l. refl; no_value = λ j l. refl; no_back = λ j l. refl }) _

  pub next_visit : next (self_test p) e visit ≡ value ws e (L.visit_next p)
  next_visit = next_is visit ∙ behind visit refl (record { no_reads = λ j l. refl; no_over = λ j l. refl; no_value = λ j l. refl; no_back = λ j l. refl }) _

  pub next_element : next (self_test p) e element ≡ value ws e (L.element_next p)
  next_element = next_is element ∙ behind element refl (record { no_reads = λ j l. refl; no_over = λ j l. refl; no_value = λ j l. refl; no_back = λ j l. refl }) _

  pub next_back : next (self_test p) e back ≡ value ws e (L.back_next p)
  next_back = next_is back ∙ behind back refl (record { no_reads = λ j l. refl; no_over = λ j l. refl; no_value = λ j l. refl; no_back = λ j l. refl }) _

  pub next_run : next (self_test p) e run ≡ value ws e L.run_next
  next_run = next_is run ∙ behind run refl (record { no_reads = λ j l. refl; no_over = λ j l. refl; no_value = λ j l. refl; no_back = λ j l. refl }) _

  pub next_last_oper : next (self_test p) e last_oper ≡ value ws e (L.last_oper_next p)
  next_last_oper = next_is last_oper ∙ behind last_oper refl (record { no_reads = λ j l. refl; no_over = λ j l. refl; no_value = λ j l. refl; no_back = λ j l. refl }) _

  pub next_last_visit : next (self_test p) e last_visit ≡ value ws e (L.last_visit_next p)
  next_last_visit = next_is last_visit ∙ behind last_visit refl (record { no_reads = λ j l. refl; no_over = λ j l. refl; no_value = λ j l. refl; no_back = λ j l. refl }) _

  pub next_one : several_bits p ≡ true → next (self_test p) e one ≡ value ws e (L.one_next p)
  next_one wide =
      next_is one
      ∙ ap (λ t. last_set one (sets ws e (statements (one_set p t ++ Behind))) (e one)) wide
      ∙ sets_behind ws e one (several p) p.back_width 0 p.delay (record { no_reads = λ j l. refl; no_over = λ j l. refl; no_value = λ j l. refl; no_back = λ j l. refl }) (end_sets p) _

  pub next_want : next (self_test p) e want ≡ value ws e (L.want_next p)
  next_want = next_is want ∙ behind want refl (record { no_reads = λ j l. refl; no_over = λ j l. refl; no_value = λ j l. refl; no_back = λ j l. refl }) _

  pub next_bad : next (self_test p) e bad ≡ value ws e (L.bad_next p)
  next_bad = next_is bad ∙ behind bad refl (record { no_reads = λ j l. refl; no_over = λ j l. refl; no_value = λ j l. refl; no_back = λ j l. refl }) _

  pub ends_clear : Clear ws e (end_sets p)
  ends_clear = record { reads_stay = λ j old. refl; over_stays = λ j old. refl; value_stays = λ j old. refl; back_stays = λ j old. refl }

-- the ages hold their values, of which n have one
abbrev pub AgesGiven : Plan → Env → Env → Env → ℕ → Type 0
AgesGiven p regs ins e n = AllGiven regs ins e (item_declarations (stage_regs (several p) p.back_width 0 n ++ items_after p))

-- so does the operation's bit, and the ages behind it
abbrev OneGiven : Plan → Env → Env → Env → Bool → Type 0
OneGiven p regs ins e wide = AllGiven regs ins e (item_declarations (one_reg wide ++ (stage_regs (several p) p.back_width 0 p.delay ++ items_after p)))

-- what a settled environment gives
module _ (p : Plan) (regs ins e : Env) (s : Settles (self_test p) regs ins e) where
  abbrev w : List ℕ → ℕ
  w = names_widths (self_test p)

  pub reset_in : e reset ≡ ins reset
  reset_in = s.given.1.0 refl

  pub rdata_in : e rdata ≡ ins rdata
  rdata_in = s.given.1.1.0 refl

  pub oper_held : e oper ≡ regs oper
  oper_held = s.given.1.1.1.1.1.1.1.1.1.0

  pub visit_held : e visit ≡ regs visit
  visit_held = s.given.1.1.1.1.1.1.1.1.1.1.0

  pub element_held : e element ≡ regs element
  element_held = s.given.1.1.1.1.1.1.1.1.1.1.1.0

  pub back_held : e back ≡ regs back
  back_held = s.given.1.1.1.1.1.1.1.1.1.1.1.1.0

  pub run_held : e run ≡ regs run
  run_held = s.given.1.1.1.1.1.1.1.1.1.1.1.1.1.0

  pub last_oper_held : e last_oper ≡ regs last_oper
  last_oper_held = s.given.1.1.1.1.1.1.1.1.1.1.1.1.1.1.0

  pub last_visit_held : e last_visit ≡ regs last_visit
  last_visit_held = s.given.1.1.1.1.1.1.1.1.1.1.1.1.1.1.1.0

  one_given : OneGiven p regs ins e (several_bits p)
  one_given = s.given.1.1.1.1.1.1.1.1.1.1.1.1.1.1.1.1

  pub one_held : several_bits p ≡ true → e one ≡ regs one
  one_held wide = (subst (λ (t : Bool). OneGiven p regs ins e t) wide one_given).0

  pub ages_given : AgesGiven p regs ins e p.delay
  ages_given = given_behind_one regs ins e (several_bits p) (stage_regs (several p) p.back_width 0 p.delay ++ items_after p) one_given

  after_given : AllGiven regs ins e (item_declarations (items_after p))
  after_given = given_behind regs ins e (several p) p.back_width 0 p.delay (items_after p) ages_given

  pub want_held : e want ≡ regs want
  want_held = after_given.0

  pub bad_held : e bad ≡ regs bad
  bad_held = after_given.1.0

  equal : Equations w e (items_after p)
  equal = equations_behind w e (several p) p.back_width 0 p.delay (items_after p) (equations_behind_one w e (several_bits p) (stage_regs (several p) p.back_width 0 p.delay ++ items_after p) s.equations)

  pub writes_is : e writes ≡ value w e (flag_row p L.writes_at)
  writes_is = equal.0

  pub ones_is : e ones ≡ value w e (flag_row p (L.ones_row p))
  ones_is = equal.1.0

  pub ends_is : e ends ≡ value w e (flag_row p L.ends_behind)
  ends_is = equal.1.1.0

  pub write_is : e write ≡ value w e (in_row p writes)
  write_is = equal.1.1.1.0

  pub value_is : e L.value ≡ value w e (L.value_now p)
  value_is = equal.1.1.1.1.0

  pub down_is : e down ≡ value w e (by_element p 1 (λ x. bit x.down))
  down_is = equal.1.1.1.1.1.0

  pub pause_is : e pause ≡ value w e (by_element p 1 (λ x. bit x.pause))
  pause_is = equal.1.1.1.1.1.1.0

  pub ends_more_is : e ends_more ≡ value w e (in_row p ends)
  ends_more_is = equal.1.1.1.1.1.1.1.0

  pub ends_again_is : e ends_again ≡ value w e (by_element p 1 (λ x. bit (is_single x)))
  ends_again_is = equal.1.1.1.1.1.1.1.1.0

  pub ends_next_is : e ends_next ≡ value w e (by_next p (λ x. bit (is_single x)))
  ends_next_is = equal.1.1.1.1.1.1.1.1.1.0

  pub pause_next_is : e pause_next ≡ value w e (by_next p (λ x. bit x.pause))
  pause_next_is = equal.1.1.1.1.1.1.1.1.1.1.0

  pub last_element_is : e last_element ≡ bit (nat_eq (e element) (length p.elements - 1))
  last_element_is = equal.1.1.1.1.1.1.1.1.1.1.1.0

  pub last_back_is : e last_back ≡ bit (nat_eq (e back) (length p.backgrounds - 1))
  last_back_is = equal.1.1.1.1.1.1.1.1.1.1.1.1.0

  pub live_is : e live ≡ cond (truth (e pause)) 0 (e run)
  live_is = equal.1.1.1.1.1.1.1.1.1.1.1.1.1.0

  pub index_is : e index ≡ cond (truth (e down)) ((p.words - 1 + 2 ^ p.addr_width - value w e (L.visited p)) % 2 ^ p.addr_width) (value w e (L.visited p))
  index_is = equal.1.1.1.1.1.1.1.1.1.1.1.1.1.1.0

  pub pattern_is : e pattern ≡ value w e (L.pattern_of p back)
  pattern_is = equal.1.1.1.1.1.1.1.1.1.1.1.1.1.1.1.0

  pub word_is : e word ≡ value w e (L.word_of L.value (Net pattern))
  word_is = equal.1.1.1.1.1.1.1.1.1.1.1.1.1.1.1.1.0

  pub en_is : e en ≡ cond (truth (e reset)) 0 (e live)
  en_is = equal.1.1.1.1.1.1.1.1.1.1.1.1.1.1.1.1.1.0

  pub we_is : e we ≡ e write
  we_is = equal.1.1.1.1.1.1.1.1.1.1.1.1.1.1.1.1.1.1.0

  pub addr_is : e addr ≡ value w e (L.address p)
  addr_is = equal.1.1.1.1.1.1.1.1.1.1.1.1.1.1.1.1.1.1.1.0

  pub wdata_is : e wdata ≡ e word
  wdata_is = equal.1.1.1.1.1.1.1.1.1.1.1.1.1.1.1.1.1.1.1.1.0

  pub done_is : e done ≡ cond (truth (e reset)) 0 (e (over_at (suc p.delay)))
  done_is = equal.1.1.1.1.1.1.1.1.1.1.1.1.1.1.1.1.1.1.1.1.1.0

  pub fail_is : e fail ≡ cond (truth (e reset)) 0 (e bad)
  fail_is = equal.1.1.1.1.1.1.1.1.1.1.1.1.1.1.1.1.1.1.1.1.1.1.0
