-- The classic condition: an element that goes up turns a bit, and one that goes down turns the other. Such a march detects every fault of the address decoder.
use Rattle.std.proofs.Common.{◌≡◌, Bool, true, false, not, ◌&&◌, ◌||◌, Option, Some, None, is_some, List, [], ◌∷◌, refl, ap, ◌∙◌}
use Rattle.std.proofs.lemmas.Bool.{and_parts}
use Rattle.fault_core.specs.Primitive.{same_bit}
use Rattle.march_core.specs.declared.operation.Op.{Op}
use Rattle.march_core.specs.declared.operation.Op.TheVariants.{W0, W1, R0, R1}
use Rattle.march_core.specs.declared.operation.Order.{Order}
use Rattle.march_core.specs.declared.operation.Order.TheVariants.{Up, Down, Any}
use Rattle.march_core.specs.March.{MarchElement, order_of, ops_of}
use Rattle.decoder_faults.specs.declared.fault.WiredRead.{WiredRead}
use Rattle.decoder_faults.specs.declared.fault.DecoderFault.{DecoderFault}
use Rattle.decoder_faults.specs.declared.fault.DecoderFault.TheVariants.{NoCell, OtherCell, BothCells, TakenCell}
use Rattle.decoder_faults.specs.declared.escape.DecoderEscape.{DecoderEscape}
use Rattle.decoder_faults.specs.Conditions.{read_first, later, written_last, turned, turned_by, is_bit, has_read, is_x_first, does_show, catches, some_element, meets, is_up, is_down, turns_up_and_down}

-- an element that does the one does the other
some_more : (f g : MarchElement → Bool) → ((e : MarchElement) → f e ≡ true → g e ≡ true) → (es : List MarchElement) → some_element f es ≡ true → some_element g es ≡ true
some_more f g more [] some = cc
some_more f g more (e ∷ es) some = go (f e) (g e) (some_element f es) (some_element g es) (more e) (some_more f g more es) some
  where
    go : (a b c d : Bool) → (a ≡ true → b ≡ true) → (c ≡ true → d ≡ true) → a || c ≡ true → b || d ≡ true
    go true b c d here rest h = ap (λ x. x || d) (here refl)
    go false b true d here rest h = ap (λ x. b || x) (rest refl) ∙ or_true b
      where
        or_true : (b : Bool) → (b || true) ≡ true
        or_true true = refl
        or_true false = refl
    go false b false d here rest h = cc

up_shows : (wired : WiredRead) (bit : Bool) (order : Order) (t : Option Bool) → is_up order && is_bit bit t ≡ true → does_show wired (is_x_first true order) t ≡ true
up_shows wired bit Up None h = cc
up_shows wired bit Up (Some other) h = refl
up_shows wired bit Down t h = cc
up_shows wired bit Any t h = cc

down_shows : (wired : WiredRead) (bit : Bool) (order : Order) (t : Option Bool) → is_down order && is_bit bit t ≡ true → does_show wired (is_x_first false order) t ≡ true
down_shows wired bit Down None h = cc
down_shows wired bit Down (Some other) h = refl
down_shows wired bit Up t h = cc
down_shows wired bit Any t h = cc

turns_some : (bit : Bool) (t : Option Bool) → is_bit bit t ≡ true → is_some t ≡ true
turns_some bit None h = cc
turns_some bit (Some other) h = refl

-- an element that turns a bit reads it
turned_reads : (bit : Bool) (ops : List Op) → is_bit bit (turned (read_first ops) (written_last ops)) ≡ true → has_read bit ops ≡ true
turned_reads bit [] h = cc
turned_reads bit (W0 ∷ ops) h = cc
turned_reads bit (W1 ∷ ops) h = cc
turned_reads bit (R0 ∷ ops) h = ap (λ b. b || has_read bit ops) (go (later None (written_last ops)) h)
  where
    go : (left : Option Bool) → is_bit bit (turned (Some false) left) ≡ true → same_bit bit false ≡ true
    go None h = cc
    go (Some false) h = cc
    go (Some true) h = h
turned_reads bit (R1 ∷ ops) h = ap (λ b. b || has_read bit ops) (go (later None (written_last ops)) h)
  where
    go : (left : Option Bool) → is_bit bit (turned (Some true) left) ≡ true → same_bit bit true ≡ true
    go None h = cc
    go (Some true) h = cc
    go (Some false) h = h

both_hold : (a b : Bool) → a ≡ true → b ≡ true → a && b ≡ true
both_hold a b e f = ap (λ x. x && b) e ∙ f

module _ (bit : Bool) (march : List MarchElement) (turns : turns_up_and_down bit march ≡ true) where
  abbrev goes_up : MarchElement → Bool
  goes_up e = is_up (order_of e) && is_bit bit (turned_by e)

  abbrev goes_down : MarchElement → Bool
  goes_down e = is_down (order_of e) && is_bit (not bit) (turned_by e)

  up : some_element goes_up march ≡ true
  up = (and_parts (some_element goes_up march) (some_element goes_down march) turns).0

  down : some_element goes_down march ≡ true
  down = (and_parts (some_element goes_up march) (some_element goes_down march) turns).1

  up_reads : some_element (λ e. has_read bit (ops_of e)) march ≡ true
  up_reads = some_more goes_up (λ e. has_read bit (ops_of e)) (λ e h. turned_reads bit (ops_of e) (and_parts (is_up (order_of e)) (is_bit bit (turned_by e)) h).1) march up

  down_reads : some_element (λ e. has_read (not bit) (ops_of e)) march ≡ true
  down_reads =
      some_more goes_down (λ e. has_read (not bit) (ops_of e))
      (λ e h. turned_reads (not bit) (ops_of e) (and_parts (is_down (order_of e)) (is_bit (not bit) (turned_by e)) h).1) march down

  -- both bits are read
  reads_any : (b other : Bool) → some_element (λ e. has_read b (ops_of e)) march ≡ true → some_element (λ e. has_read (not b) (ops_of e)) march ≡ true
      → some_element (λ e. has_read other (ops_of e)) march ≡ true
  reads_any true true one rest = one
  reads_any true false one rest = rest
  reads_any false true one rest = rest
  reads_any false false one rest = one

  reads : (other : Bool) → some_element (λ e. has_read other (ops_of e)) march ≡ true
  reads other = reads_any bit other up_reads down_reads

  met : (fault : DecoderFault) → meets march fault ≡ true
  met (NoCell answer) = both_hold _ _ (reads (not answer)) (reads (not answer))
  met (TakenCell answer wired) = both_hold _ _ (reads (not answer)) (reads (not answer))
  met OtherCell =
      let some : some_element (λ e. is_some (turned_by e)) march ≡ true =
      some_more goes_up (λ e. is_some (turned_by e)) (λ e h. turns_some bit (turned_by e) (and_parts (is_up (order_of e)) (is_bit bit (turned_by e)) h).1) march up in
      both_hold _ _ some some
  met (BothCells wired) =
      both_hold _ _
      (some_more goes_up (catches (BothCells wired) true) (λ e h. up_shows wired bit (order_of e) (turned_by e) h) march up)
      (some_more goes_down (catches (BothCells wired) false) (λ e h. down_shows wired (not bit) (order_of e) (turned_by e) h) march down)

  pub detects_all : (fault : DecoderFault) (result : Option DecoderEscape) → is_some result ≡ not (meets march fault) → result ≡ None
  detects_all fault result is = go result (is ∙ ap not (met fault))
    where
      go : (r : Option DecoderEscape) → is_some r ≡ false → r ≡ None
      go None e = refl
      go (Some r) e = cc
