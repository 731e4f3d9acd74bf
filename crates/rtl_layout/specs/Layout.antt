-- Public. The self-test module of a plan.
use Rattle.std.specs.Prelude.{ℕ, zero, suc, ◌+◌, ◌-◌, ◌^◌, Bool, true, false, cond, nat_eq, nat_le, List, [], ◌∷◌, ◌++◌, map, length, slice_index_or, codes}
use Rattle.verilog_tree.specs.declared.tree.UnOp.TheVariants.{Not, Invert, Parity}
use Rattle.verilog_tree.specs.declared.tree.BinOp.TheVariants.{Sub, And, Xor, Eq, Ne}
use Rattle.verilog_tree.specs.declared.tree.Dir.TheVariants.{Input, Output}
use Rattle.verilog_tree.specs.Plain.{Expression, Net, Concatenation, Prefixed, Infixed, Expressions, NoMore, Followed, Statement, SetTo, statements, ModuleItem, WireItem, RegItem, AssignItem, AlwaysItem, ModulePort, ModuleTree}
use Rattle.verilog_tree.specs.Meaning.{bit}
use Rattle.rtl_layout.specs.Build.{lit, choose, low_bits, pick, rotated, counted, number_of, bit_in, step_while, at_reset, counter}
use Rattle.rtl_layout.specs.declared.element.PlanOperation.{PlanOperation}
use Rattle.rtl_layout.specs.declared.row.Row.{Row}
use Rattle.rtl_layout.specs.Plan.{Element, Plan, port_word, several, several_bits, is_single, limit}
use Rattle.rtl_layout.specs.Control.{idle, element_at}

abbrev pub clk : List ℕ
clk = codes "clk"

abbrev pub reset : List ℕ
reset = codes "reset"

abbrev pub rdata : List ℕ
rdata = codes "rdata"

abbrev pub en : List ℕ
en = codes "en"

abbrev pub we : List ℕ
we = codes "we"

abbrev pub addr : List ℕ
addr = codes "addr"

abbrev pub wdata : List ℕ
wdata = codes "wdata"

abbrev pub done : List ℕ
done = codes "done"

abbrev pub fail : List ℕ
fail = codes "fail"

abbrev pub oper : List ℕ
oper = codes "oper"

abbrev pub visit : List ℕ
visit = codes "visit"

abbrev pub element : List ℕ
element = codes "element"

abbrev pub back : List ℕ
back = codes "back"

abbrev pub run : List ℕ
run = codes "run"

abbrev pub want : List ℕ
want = codes "want"

abbrev pub bad : List ℕ
bad = codes "bad"

abbrev pub writes : List ℕ
writes = codes "writes"

abbrev pub ones : List ℕ
ones = codes "ones"

abbrev pub ends : List ℕ
ends = codes "ends"

abbrev pub write : List ℕ
write = codes "write"

abbrev pub value : List ℕ
value = codes "value"

abbrev pub down : List ℕ
down = codes "down"

abbrev pub pause : List ℕ
pause = codes "pause"

abbrev pub one : List ℕ
one = codes "one"

abbrev pub ends_more : List ℕ
ends_more = codes "ends_more"

abbrev pub ends_again : List ℕ
ends_again = codes "ends_again"

abbrev pub ends_next : List ℕ
ends_next = codes "ends_next"

abbrev pub pause_next : List ℕ
pause_next = codes "pause_next"

abbrev pub last_oper : List ℕ
last_oper = codes "last_oper"

abbrev pub last_visit : List ℕ
last_visit = codes "last_visit"

abbrev pub last_element : List ℕ
last_element = codes "last_element"

abbrev pub last_back : List ℕ
last_back = codes "last_back"

abbrev pub live : List ℕ
live = codes "live"

abbrev pub index : List ℕ
index = codes "index"

abbrev pub pattern : List ℕ
pattern = codes "pattern"

abbrev pub word : List ℕ
word = codes "word"

-- what was commanded i cycles ago has the number i
abbrev pub aged : List ℕ → ℕ → List ℕ
aged n i = n ++ (48 + i) ∷ []

abbrev pub reads_at : ℕ → List ℕ
reads_at i = aged (codes "reads") i

abbrev pub over_at : ℕ → List ℕ
over_at i = aged (codes "over") i

abbrev pub value_at : ℕ → List ℕ
value_at zero = value
value_at (suc i) = aged value (suc i)

-- one background needs no register for its number
abbrev pub back_at : Bool → ℕ → List ℕ
back_at many zero = back
back_at many (suc i) = cond many (aged back (suc i)) back

-- ---- tables over the march

abbrev pub by_element : Plan → ℕ → (Element → ℕ) → Expression
by_element p s f = pick element p.element_width (map (λ (x : Element). lit s (f x)) p.elements)

-- the same of the next element, which is the first behind the last
abbrev pub by_next : Plan → (Element → ℕ) → Expression
by_next p f = pick element p.element_width (map (λ (x : Element). lit 1 (f x)) (rotated p.elements))

-- a bit for each number that an operation can have
abbrev pub row_width : Plan → ℕ
row_width p = 2 ^ p.oper_width

-- what the element has at each of these numbers, at 0 in the lowest bit
abbrev pub flag_row : Plan → (Element → ℕ → Bool) → Expression
flag_row p f = by_element p (row_width p) (λ x. number_of (map (f x) (counted (row_width p))))

-- the operation of a number, and behind the last the last
abbrev pub operation_in : Element → ℕ → PlanOperation
operation_in x i = slice_index_or x.operations i (slice_index_or x.operations (length x.operations - 1) idle)

-- whether it writes, whether its bit is 1; whether the bit of the one behind it is 1, and whether that is the last
abbrev pub writes_at : Element → ℕ → Bool
writes_at x i = (operation_in x i).write

abbrev pub one_at : Element → ℕ → Bool
one_at x i = (operation_in x i).bit

abbrev pub one_behind : Element → ℕ → Bool
one_behind x i = (operation_in x (i + 1)).bit

abbrev pub ends_behind : Element → ℕ → Bool
ends_behind x i = nat_le (length x.operations) (i + 2)

-- The bits of the operations. A word of several bits hangs on the bit of the operation at each of them, so that bit is held
-- in a register and each row tells of the operation behind; a word of one bit takes it from the row.
abbrev pub ones_row : Plan → Element → ℕ → Bool
ones_row p = cond (several_bits p) one_behind one_at

-- whether the bit of the first operation is 1
abbrev pub begins_one : Element → Bool
begins_one x = (operation_in x 0).bit

-- the operation's bit in such a row
abbrev pub in_row : Plan → List ℕ → Expression
in_row p row = bit_in row oper p.oper_width

-- the word of the value 0 of the background that a name holds
abbrev pub pattern_of : Plan → List ℕ → Expression
pattern_of p k = pick k p.back_width (map (λ b. lit p.bits (port_word p false b)) p.backgrounds)

-- a word, or its complement where a value is 1
abbrev pub word_of : List ℕ → Expression → Expression
word_of v x = choose (Net v) (Prefixed Invert x) x

abbrev pub gated : Expression → Expression
gated x = at_reset (lit 1 0) x

-- ---- registers

abbrev pub digit_regs : Plan → List ModuleItem
digit_regs p =
    RegItem oper p.oper_width ∷ RegItem visit p.visit_width ∷ RegItem element p.element_width ∷ RegItem back p.back_width ∷ RegItem run 1
    ∷ RegItem last_oper 1 ∷ RegItem last_visit 1 ∷ []

abbrev pub maybe : {A : Type 0} → Bool → A → List A
maybe b x = cond b (x ∷ []) []

-- whether the operation's bit is 1
abbrev pub one_reg : Bool → List ModuleItem
one_reg wide = maybe wide (RegItem one 1)

-- of the ages from suc i on, of which n have a value
abbrev pub stage_regs : Bool → ℕ → ℕ → ℕ → List ModuleItem
stage_regs many w i zero = RegItem (reads_at (suc i)) 1 ∷ RegItem (over_at (suc i)) 1 ∷ []
stage_regs many w i (suc n) =
    RegItem (reads_at (suc i)) 1 ∷ RegItem (over_at (suc i)) 1 ∷ RegItem (value_at (suc i)) 1
    ∷ (maybe many (RegItem (aged back (suc i)) w) ++ stage_regs many w (suc i) n)

abbrev pub end_regs : Plan → List ModuleItem
end_regs p = RegItem want p.bits ∷ RegItem bad 1 ∷ []

abbrev pub wire : List ℕ → ℕ → ModuleItem
wire n w = WireItem n w

abbrev pub flag_wires : ℕ → List ModuleItem
flag_wires row = wire writes row ∷ wire ones row ∷ wire ends row ∷ wire write 1 ∷ wire value 1 ∷ wire down 1 ∷ wire pause 1 ∷ []

abbrev pub next_wires : List ModuleItem
next_wires = wire ends_more 1 ∷ wire ends_again 1 ∷ wire ends_next 1 ∷ wire pause_next 1 ∷ []

abbrev pub last_wires : List ModuleItem
last_wires = wire last_element 1 ∷ wire last_back 1 ∷ []

abbrev pub command_wires : Plan → List ModuleItem
command_wires p = wire live 1 ∷ wire index p.addr_width ∷ wire pattern p.bits ∷ wire word p.bits ∷ []

abbrev pub wires : Plan → List ModuleItem
wires p = flag_wires (row_width p) ++ (next_wires ++ (last_wires ++ command_wires p))

-- ---- what they are assigned and set to

abbrev pub visited : Plan → Expression
visited p = low_bits visit p.visit_width p.addr_width

-- a bit of the address, of an index of w bits
abbrev pub row_bit : ℕ → Row → Expression
row_bit w r = Infixed Xor (Prefixed Parity (Infixed And (Net index) (lit w r.mask))) (lit 1 (bit r.flip))

-- the bits of the address, the highest first
abbrev pub address_bits : Plan → List Row → Expressions → Expressions
address_bits p [] xs = xs
address_bits p (r ∷ rs) xs = address_bits p rs (Followed (row_bit p.addr_width r) xs)

abbrev pub address : Plan → Expression
address p = cond p.straight (Net index) (Concatenation (address_bits p p.rows NoMore))

-- whether the visit behind this is the last
abbrev pub visit_ends_more : Plan → Expression
visit_ends_more p = Infixed Eq (Net visit) (choose (Net pause) (lit p.visit_width (p.pause - 2)) (lit p.visit_width (p.words - 2)))

-- whether the next element is visited once
abbrev pub visit_ends_next : Plan → Expression
visit_ends_next p = choose (Net pause_next) (lit 1 (bit (nat_eq p.pause 1))) (lit 1 (bit (nat_eq p.words 1)))

abbrev pub is_last_element : Plan → Expression
is_last_element p = Infixed Eq (Net element) (lit p.element_width (length p.elements - 1))

abbrev pub is_last_back : Plan → Expression
is_last_back p = Infixed Eq (Net back) (lit p.back_width (length p.backgrounds - 1))

abbrev pub is_live : Expression
is_live = choose (Net pause) (lit 1 0) (Net run)

abbrev pub index_of : Plan → Expression
index_of p = choose (Net down) (Infixed Sub (lit p.addr_width (p.words - 1)) (visited p)) (visited p)

-- what the element has at each number of an operation
abbrev pub row_assigns : Plan → List ModuleItem
row_assigns p = AssignItem writes (flag_row p writes_at) ∷ AssignItem ones (flag_row p (ones_row p)) ∷ AssignItem ends
    (flag_row p ends_behind) ∷ []

-- whether the operation's bit is 1
abbrev pub value_now : Plan → Expression
value_now p = cond (several_bits p) (Net one) (in_row p ones)

-- what stands at this place of the march
abbrev pub flag_assigns : Plan → List ModuleItem
flag_assigns p =
    AssignItem write (in_row p writes) ∷ AssignItem value (value_now p) ∷ AssignItem down
    (by_element p 1 (λ x. bit x.down)) ∷ AssignItem pause (by_element p 1 (λ x. bit x.pause)) ∷ []

-- whether the operations that can come next are the last of their elements: one more, this element's first, and the next one's
abbrev pub next_assigns : Plan → List ModuleItem
next_assigns p =
    AssignItem ends_more (in_row p ends) ∷ AssignItem ends_again
    (by_element p 1 (λ x. bit (is_single x))) ∷ AssignItem ends_next (by_next p (λ x. bit (is_single x)))
    ∷ AssignItem pause_next (by_next p (λ x. bit x.pause)) ∷ []

-- what ends at this place of the march
abbrev pub last_assigns : Plan → List ModuleItem
last_assigns p = AssignItem last_element (is_last_element p) ∷ AssignItem last_back (is_last_back p) ∷ []

-- the command
abbrev pub command_assigns : Plan → List ModuleItem
command_assigns p =
    AssignItem live is_live ∷ AssignItem index (index_of p) ∷ AssignItem pattern (pattern_of p back) ∷ AssignItem word
    (word_of value (Net pattern)) ∷ []

abbrev pub wire_assigns : Plan → List ModuleItem
wire_assigns p = row_assigns p ++ (flag_assigns p ++ (next_assigns p ++ (last_assigns p ++ command_assigns p)))

-- its ports
abbrev pub command_outputs : Plan → List ModuleItem
command_outputs p = AssignItem en (gated (Net live)) ∷ AssignItem we (Net write) ∷ AssignItem addr
    (address p) ∷ AssignItem wdata (Net word) ∷ []

-- the ports of the end, of a module of so many ages with a value
abbrev pub end_outputs : ℕ → List ModuleItem
end_outputs delay = AssignItem done (gated (Net (over_at (suc delay)))) ∷ AssignItem fail (gated (Net bad)) ∷ []

abbrev pub port_assigns : Plan → List ModuleItem
port_assigns p = command_outputs p ++ end_outputs p.delay

abbrev pub oper_next : Plan → Expression
oper_next p = counter oper p.oper_width (Net run ∷ []) last_oper

abbrev pub visit_next : Plan → Expression
visit_next p = counter visit p.visit_width (Net run ∷ Net last_oper ∷ []) last_visit

abbrev pub element_next : Plan → Expression
element_next p = counter element p.element_width (Net run ∷ Net last_oper ∷ Net last_visit ∷ []) last_element

abbrev pub back_next : Plan → Expression
back_next p = counter back p.back_width (Net run ∷ Net last_oper ∷ Net last_visit ∷ Net last_element ∷ []) last_back

abbrev pub run_next : Expression
run_next = at_reset (lit 1 1) (step_while
    (Net run ∷ Net last_oper ∷ Net last_visit ∷ Net last_element ∷ Net last_back ∷ []) (lit 1 0) (Net run))

-- what the next operation has: the first of all, one more, this element's first or the next one's
abbrev pub turning : List ℕ → Bool → Expression → Expression → Expression → Expression
turning r first next again more =
    at_reset (lit 1 (bit first)) (step_while (Net run ∷ []) (choose (Net last_oper) (choose (Net last_visit) next again) more) (Net r))

-- whether the next operation is the last, and whether its bit is 1
abbrev pub last_oper_next : Plan → Expression
last_oper_next p = turning last_oper (is_single (element_at p 0)) (Net ends_next) (Net ends_again) (Net ends_more)

abbrev pub one_next : Plan → Expression
one_next p = turning one (begins_one (element_at p 0)) (by_next p (λ x. bit (begins_one x)))
    (by_element p 1 (λ x. bit (begins_one x))) (in_row p ones)

-- whether the next visit is the last
abbrev pub last_visit_next : Plan → Expression
last_visit_next p =
    at_reset (lit 1 (bit (nat_eq (limit p (element_at p 0)) 1)))
    (step_while (Net run ∷ Net last_oper ∷ []) (choose (Net last_visit) (visit_ends_next p) (visit_ends_more p)) (Net last_visit))

abbrev pub digit_sets : Plan → List Statement
digit_sets p =
    SetTo oper (oper_next p) ∷ SetTo visit (visit_next p) ∷ SetTo element (element_next p) ∷ SetTo back (back_next p) ∷ SetTo run run_next
    ∷ SetTo last_oper (last_oper_next p) ∷ SetTo last_visit (last_visit_next p) ∷ []

abbrev pub one_set : Plan → Bool → List Statement
one_set p wide = maybe wide (SetTo one (one_next p))

abbrev pub feed_reads : ℕ → Expression
feed_reads zero = choose (Net write) (lit 1 0) (Net live)
feed_reads (suc i) = Net (reads_at (suc i))

abbrev pub feed_over : ℕ → Expression
feed_over zero = Prefixed Not (Net run)
feed_over (suc i) = Net (over_at (suc i))

-- where there are several backgrounds
abbrev pub back_set : ℕ → ℕ → Statement
back_set w i = SetTo (aged back (suc i)) (at_reset (lit w 0) (Net (back_at true i)))

-- what the ages from suc i on take, of which n have a value
abbrev pub stage_sets : Bool → ℕ → ℕ → ℕ → List Statement
stage_sets many w i zero = SetTo (reads_at (suc i)) (gated (feed_reads i)) ∷ SetTo (over_at (suc i)) (gated (feed_over i)) ∷ []
stage_sets many w i (suc n) =
    SetTo (reads_at (suc i)) (gated (feed_reads i)) ∷ SetTo (over_at (suc i)) (gated (feed_over i)) ∷ SetTo
    (value_at (suc i)) (gated (Net (value_at i)))
    ∷ (maybe many (back_set w i) ++ stage_sets many w (suc i) n)

-- the word that the read of the last age expects
abbrev pub want_next : Plan → Expression
want_next p = cond (nat_eq p.delay 0) (Net word) (word_of (value_at p.delay) (pattern_of p (back_at (several p) p.delay)))

-- of a module of so many ages with a value
abbrev pub bad_after : ℕ → Expression
bad_after delay = gated (step_while (Net (reads_at (suc delay)) ∷ Infixed Ne (Net rdata) (Net want) ∷ []) (lit 1 1) (Net bad))

abbrev pub bad_next : Plan → Expression
bad_next p = bad_after p.delay

abbrev pub end_sets : Plan → List Statement
end_sets p = SetTo want (want_next p) ∷ SetTo bad (bad_next p) ∷ []

abbrev pub sets_all : Plan → List Statement
sets_all p = digit_sets p ++ (one_set p (several_bits p) ++ (stage_sets (several p) p.back_width 0 p.delay ++ end_sets p))

-- ---- the module

abbrev pub port : List ℕ → ℕ → ModulePort
port n w = record { dir = Output; name = n; width = w }

abbrev pub input_ports : ℕ → List ModulePort
input_ports bits = record { dir = Input; name = clk; width = 1 } ∷ record { dir = Input; name = reset; width = 1 } ∷ record { dir = Input; name = rdata; width = bits } ∷ []

abbrev pub command_ports : ℕ → ℕ → List ModulePort
command_ports address bits = port en 1 ∷ port we 1 ∷ port addr address ∷ port wdata bits ∷ []

abbrev pub ports : Plan → List ModulePort
ports p = input_ports p.bits ++ (command_ports p.addr_width p.bits ++ (port done 1 ∷ port fail 1 ∷ []))

-- behind the registers of the ages
abbrev pub items_after : Plan → List ModuleItem
items_after p = end_regs p ++ (wires p ++ (wire_assigns p ++ (port_assigns p ++ AlwaysItem clk (statements (sets_all p)) ∷ [])))

abbrev pub items : Plan → List ModuleItem
items p = digit_regs p ++ (one_reg (several_bits p) ++ (stage_regs (several p) p.back_width 0 p.delay ++ items_after p))

abbrev pub self_test : Plan → ModuleTree
self_test p = record { name = p.name; ports = ports p; items = items p }
