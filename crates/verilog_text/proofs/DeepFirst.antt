-- An opening too many is where the reader stops, if it has read so far.
use Rattle.verilog_tree.specs.declared.tokens.Mark.TheVariants.{Open}
use Rattle.verilog_tree.specs.declared.tokens.Mark.{Mark}
use Rattle.verilog_tree.specs.Grammar.{Style, unlimited}
use Rattle.std.proofs.Common.{◌≡◌, ℕ, ◌+◌, ◌<◌, ◌≤◌, Bool, true, false, ◌==◌, List, [], ◌∷◌, ◌++◌, length, take, drop, Option, Some, None, refl, sym, ap, subst, ◌∙◌, ◌⊎◌, inl, inr, arith, append-nil, append_assoc, take-append-drop, length-append, nat_lt, ◌-◌, length-drop}
use Rattle.std.proofs.lemmas.Bool.{eqb-true, ltb-true, ltb-false, and_from}
use Rattle.std.proofs.lemmas.List.{append_cancel_left, append_cancel_right, take-append-le, length-take-le}
use Rattle.bist_text.specs.Grammar.{when, word, Continues}
use Rattle.bist_text.specs.Lexed.{Both, then as and_then}
use Rattle.bist_text.specs.inner.Lexed.{emitted}
use Rattle.bist_text.specs.Machine.{Holds}
use Rattle.verilog_tree.specs.declared.tokens.Within.TheVariants.{Between}
use Rattle.verilog_tree.specs.Spells.{all_limits, no_limits, all_keep, keeps, Text, bounded}
use Rattle.verilog_tree.specs.Tokens.{Token, Lexed, stops, whether, Sign}
use Rattle.verilog_tree.specs.declared.fault.ReadFault.TheVariants as R
use Rattle.verilog_text.specs.declared.fault.ByteFault.{ByteFault}
use Rattle.verilog_text.specs.declared.fault.ByteFault.TheVariants.{Unexpected, TooDeep, LongName, OutOfRange, NoMemory}
use Rattle.verilog_text.specs.Answering.{OneTooMany, taking, take_token, Move, Goes, Stops, ended, stuck, stuck_at, read_on, lexed, byte_move, Faulty, last_answer, end_answer}
use Rattle.verilog_text.specs.Expected.{taken, live_in}
use Rattle.verilog_text.specs.inner.Following.{rest}
use Rattle.verilog_text.specs.Lexing.{Lexer, InGap, lex, last, Marked}
use Rattle.verilog_text.specs.inner.Lexing.{unread}
use Rattle.verilog_text.specs.Openings.{Opening, Parenthesis, Brace, BlockWord, IfWord, CaseWord, opening_text, opening_token, opening_goes_on, limit_of, BeginsText, IsDeep, Operator}
use Rattle.verilog_text.specs.Places.{State, AtItem, Begin}
use Rattle.verilog_text.specs.Reading.{start, byte_step, end_value}
use Rattle.verilog_text.specs.inner.Reading.{unread_in}
use Rattle.verilog_text.specs.Steps.{step}
use Rattle.verilog_text.proofs.Alive.{alive}
use Rattle.verilog_text.proofs.Deep.{opening_read, deep_at, room_free, mark_long}
use Rattle.verilog_text.proofs.Faults.{text_continues}
use Rattle.verilog_text.proofs.GrammarPieces.{begins_file}
use Rattle.verilog_text.proofs.Landing.{Landed, lands, made, after_all, after_ends, not_silent, steps_on, lexing_split}
use Rattle.verilog_text.proofs.LexerLaws.{lexes}
use Rattle.verilog_text.proofs.LexingOn.{lexing, lexed_on}
use Rattle.verilog_text.proofs.Limits.{no_limit, first_taken}
use Rattle.verilog_text.proofs.Moving.{Sound, Agrees, move_agrees, emits}
use Rattle.verilog_text.proofs.Parsing.{parse, parse_to, parse_from, parse_wider, parse_on, enough, few_enough}
use Rattle.verilog_text.proofs.Pending.{Pending, at_start, To, moves_on, tokens_in, state_in}
use Rattle.verilog_text.proofs.Reached.{come, come_split, comes}
use Rattle.verilog_text.proofs.Room.{has_room}
use Rattle.verilog_text.proofs.Stopping.{follows, come_sub, unexpected_byte, keeps_any, never_memory, small_stops}

module _ (style : Style) where
  -- ---- where the reader has come

  pub pends : (b p : List ℕ) (q : Both State Lexer) (k : ℕ) (z : Both State Lexer) → Sound q → (Pending style) p q k → come (byte_step all_limits) b q ≡ Some z → (n : ℕ) × Sound z × (Pending style) (p ++ b) z n
  pends [] p q k z h w e = let j : q ≡ z = cc in (k, subst Sound j h, subst (λ (x : List ℕ). (Pending style) x z k) (sym (append-nil p)) (subst (λ (x : Both State Lexer). (Pending style) p x k) j w))
  pends (c ∷ b) p q k z h w e = go (byte_move q c) (move_agrees q c h) ((moves_on style) p q k c w) (λ y n s u f. pends b (p ++ (c ∷ [])) y n z s u f)
    where
      go : (m : Move) → Agrees m (byte_step all_limits q c) → (To style) (p ++ (c ∷ [])) k (length p) m → ((y : Both State Lexer) (n : ℕ) → Sound y → (Pending style) (p ++ (c ∷ [])) y n → come (byte_step all_limits) b y ≡ Some z → (n : ℕ) × Sound z × (Pending style) ((p ++ (c ∷ [])) ++ b) z n) → (n : ℕ) × Sound z × (Pending style) (p ++ (c ∷ b)) z n
      go (Goes y fresh) a t r = let f = r y _ a.1 t (sym (ap (λ o. and_then o (λ t. come (byte_step all_limits) b t)) a.0) ∙ e) in (f.0, f.1, subst (λ (x : List ℕ). (Pending style) x z f.0) (append_assoc p (c ∷ []) b) f.2)
      go (Stops x) a t r = let k : None ≡ Some z = sym (ap (λ o. and_then o (λ t. come (byte_step all_limits) b t)) a) ∙ e in cc

  -- ---- an opening too many behind p

  pub record DeepBehind (p : List ℕ) (ts : List Token) (o : Opening) : Type 0 where
    pub landed : Landed p ts o
    pub begins : BeginsText style unlimited (ts ++ (opening_token o ∷ []))
    pub deep : BeginsText style (limit_of o) (ts ++ (opening_token o ∷ [])) → ⊥

  held : {A : Type 0} (P : A → Type 0) (o : Option A) → Holds o P → (x : A) × (o ≡ Some x) × P x
  held P None h = absurd h
  held P (Some x) h = (x, refl, h)

  pub free_keeps : (ts : List Token) → all_keep no_limits ts ≡ true
  free_keeps [] = refl
  free_keeps (t ∷ ts) = and_from (keeps no_limits t) (all_keep no_limits ts) (keeps_any t) (free_keeps ts)

  space_mark : (m : Mark) → lex (Marked m) 32 ≡ Some (InGap Between, Some (Sign m))
  space_mark Open = refl
  space_mark m = refl

  -- a space ends it
  space_behind : (o : Opening) → lex (after_all o) 32 ≡ Some (InGap Between, Some (opening_token o))
  space_behind Parenthesis = refl
  space_behind Brace = refl
  space_behind BlockWord = refl
  space_behind IfWord = refl
  space_behind CaseWord = refl
  space_behind (Operator m) = space_mark m

  -- without limits the text goes on behind it
  deep_goes : (p : List ℕ) (ts : List Token) (o : Opening) → DeepBehind p ts o → Continues (Text style no_limits) (p ++ opening_text o)
  deep_goes p ts o d =
      let b = d.begins in
      let h = held (λ z. rest unlimited z b.0 b.1) (parse unlimited (ts ++ (opening_token o ∷ [])) (AtItem (Begin style))) (parse_to unlimited (ts ++ (opening_token o ∷ [])) b.0 (AtItem (Begin style)) b.1 ((begins_file unlimited style ((ts ++ (opening_token o ∷ [])) ++ b.0) b.1).1 b.2)) in
      let a = alive unlimited h.0 (room_free h.0) in
      let u : unread (after_all o) (32 ∷ a.0) (opening_token o ∷ a.1) = (lexes.goes (after_all o) 32 a.0 (opening_token o ∷ a.1)).1 (subst (λ x. Holds x (λ r. (us : List Token) × ((opening_token o ∷ a.1) ≡ emitted r.1 us) × unread r.0 a.0 us)) (sym (space_behind o)) (a.1, refl, a.5)) in
      let r = subst (λ (x : List Token). rest unlimited (AtItem (Begin style)) x a.2) (append_assoc ts (opening_token o ∷ []) a.1) (parse_from unlimited (ts ++ (opening_token o ∷ [])) a.1 (AtItem (Begin style)) a.2 (subst (λ (x : Option State). Holds x (λ y. rest unlimited y a.1 a.2)) (sym h.1) a.6)) in
      (32 ∷ a.0, a.2, a.3, (ts ++ (opening_token o ∷ a.1), lexed_on (p ++ opening_text o) (InGap Between) (after_all o) ts (32 ∷ a.0) (opening_token o ∷ a.1) d.landed.behind_it u, free_keeps (ts ++ (opening_token o ∷ a.1)), (begins_file unlimited style (ts ++ (opening_token o ∷ a.1)) a.2).0 r))

  -- the reader behind it
  record Behind (p : List ℕ) (o : Opening) (q : Both State Lexer) (n : ℕ) : Type 0 where
    pub lexer_is : q.lexer ≡ after_all o
    pub too_many : take_token q.parser (opening_token o) ≡ OneTooMany
    pub began : n ≡ length p

  deep_taken : (p : List ℕ) (ts : List Token) (o : Opening) (q : Both State Lexer) (n : ℕ) → DeepBehind p ts o → (Pending style) (p ++ opening_text o) q n → Behind p o q n
  deep_taken p ts o q n d w = record {
    lexer_is = lexer_is;
    too_many = go (step bounded q.parser (opening_token o)) refl;
    began = w.at ∙ ap length (append_cancel_right w.front p (opening_text o) (ap (λ (x : List ℕ). w.front ++ x) (sym read.1) ∙ sym w.split));
  }
    where
      same : made w.tokens q.lexer ≡ made ts (after_all o)
      same = sym w.made ∙ d.landed.behind_it

      lexer_is : q.lexer ≡ after_all o
      lexer_is = ap (state_in q.lexer) same

      read : Lexed w.tokens w.front × (w.own ≡ opening_text o)
      read = opening_read q.lexer o w.tokens w.front w.own (ap last lexer_is ∙ after_ends o) w.begun

      parsed : parse bounded ts (AtItem (Begin style)) ≡ Some q.parser
      parsed = ap (λ x. parse bounded x (AtItem (Begin style))) (sym (ap tokens_in same)) ∙ w.parsed

      -- within 64 no text goes on with it
      fits : (s : State) → step bounded q.parser (opening_token o) ≡ Some s → ⊥
      fits s e =
          let a = alive (limit_of o) s (has_room q.parser o s e) in
          let k = parse_wider bounded (limit_of o) (enough o) (few_enough o) (ts ++ (opening_token o ∷ [])) (AtItem (Begin style)) s (parse_on bounded ts (opening_token o) (AtItem (Begin style)) q.parser s parsed e) in
          d.deep (a.1, a.2, (begins_file (limit_of o) style ((ts ++ (opening_token o ∷ [])) ++ a.1) a.2).0 (parse_from (limit_of o) (ts ++ (opening_token o ∷ [])) a.1 (AtItem (Begin style)) a.2 (subst (λ (x : Option State). Holds x (λ y. rest (limit_of o) y a.1 a.2)) (sym k) a.6)))

      -- without a limit one does
      is_taken : taken q.parser (opening_token o) ≡ true
      is_taken =
          let b = d.begins in
          let r : rest unlimited (AtItem (Begin style)) (ts ++ (opening_token o ∷ b.0)) b.1 = subst (λ (x : List Token). rest unlimited (AtItem (Begin style)) x b.1) (append_assoc ts (opening_token o ∷ []) b.0) ((begins_file unlimited style ((ts ++ (opening_token o ∷ [])) ++ b.0) b.1).1 b.2) in
          let k = parse_wider bounded unlimited (no_limit bounded) (λ n k. refl) ts (AtItem (Begin style)) q.parser parsed in
          first_taken unlimited q.parser (opening_token o) b.0 b.1 (subst (λ (x : Option State). Holds x (λ y. rest unlimited y (opening_token o ∷ b.0) b.1)) k (parse_to unlimited ts (opening_token o ∷ b.0) (AtItem (Begin style)) b.1 r))

      go : (x : Option State) → step bounded q.parser (opening_token o) ≡ x → taking x (taken q.parser (opening_token o)) ≡ OneTooMany
      go (Some s) e = absurd (fits s e)
      go None e = ap (taking None) is_taken

  -- a byte that does not go on with it stops the reader there
  stops_there : (p : List ℕ) (o : Opening) (q : Both State Lexer) (n c : ℕ) → Behind p o q n → opening_goes_on o c ≡ false → byte_move q c ≡ Stops TooDeep
  stops_there p o q n c h f = go (lex q.lexer c) refl
    where
      ends : last q.lexer ≡ Some (Some (opening_token o))
      ends = ap last h.lexer_is ∙ after_ends o

      on : (m : Lexer) (t : Option Token) → lex q.lexer c ≡ Some (m, t) → read_on q m t ≡ Stops TooDeep
      on m None e = absurd (not_silent o c m f (ap (λ x. lex x c) (sym h.lexer_is) ∙ e))
      on m (Some t) e = let k : opening_token o ≡ t = (let j : Some (Some (opening_token o)) ≡ Some (Some t) = sym ends ∙ (emits q.lexer c m t e).1 in cc) in subst (λ x. ended (take_token q.parser x) m ≡ Stops TooDeep) k (ap (λ x. ended x m) h.too_many)

      go : (x : Option (Lexer × Option Token)) → lex q.lexer c ≡ x → lexed q x ≡ Stops TooDeep
      go None e = ap (stuck q.parser) ends ∙ ap stuck_at h.too_many
      go (Some r) e = on r.0 r.1 e

  -- so it has not read on
  no_further : (p : List ℕ) (ts : List Token) (o : Opening) (c : ℕ) (y : List ℕ) (z : Both State Lexer) → DeepBehind p ts o → come (byte_step all_limits) ((p ++ opening_text o) ++ (c ∷ y)) (start style) ≡ Some z → opening_goes_on o c ≡ false → ⊥
  no_further p ts o c y z d e f =
      let s = come_split (byte_step all_limits) (p ++ opening_text o) (c ∷ y) (start style) z e in
      let w = pends (p ++ opening_text o) [] (start style) 0 s.0 refl (at_start style) s.1 in
      let a = subst (λ m. Agrees m (byte_step all_limits s.0 c)) (stops_there p o s.0 w.0 c (deep_taken p ts o s.0 w.0 d w.2) f) (move_agrees s.0 c w.1) in
      let k : None ≡ Some z = sym (ap (λ x. and_then x (λ t. come (byte_step all_limits) y t)) a) ∙ s.2 in
      cc

  -- ---- against where the reader stopped

  -- two ways to part the same bytes
  part : (x : List ℕ) (c : ℕ) (more w r : List ℕ) → x ++ (c ∷ more) ≡ w ++ r → ((y : List ℕ) × (x ≡ w ++ y) × (r ≡ y ++ (c ∷ more))) ⊎ ((u : List ℕ) × (w ≡ x ++ (c ∷ u)))
  part x c more [] r e = inl (x, refl, sym e)
  part [] c more (d ∷ w) r e = inr (w, (let k : d ≡ c = cc in ap (λ x. x ∷ w) k))
  part (b ∷ x) c more (d ∷ w) r e =
      let i : b ≡ d = cc in
      let k : x ++ (c ∷ more) ≡ w ++ r = cc in elim (part x c more w r k) [
        | inl h ↦ inl (h.0, ap (λ z. z ∷ x) i ∙ ap (λ (z : List ℕ). d ∷ z) h.1, h.2)
        | inr h ↦ inr (h.0, ap (λ z. z ∷ w) (sym i) ∙ ap (λ (z : List ℕ). b ∷ z) h.1)
      ]

  -- the bytes behind a word
  behind_word : (w : List ℕ) (K : List ℕ → Type 0) (b : List ℕ) → word w K b → (r : List ℕ) × (b ≡ w ++ r) × K r
  behind_word [] K b h = (b, refl, h)
  behind_word (c ∷ w) K [] h = absurd h
  behind_word (c ∷ w) K (x ∷ b) h = go (x == c) refl h (λ k. behind_word w K b k)
    where
      go : (t : Bool) → (x == c) ≡ t → when t (word w K b) → (word w K b → (r : List ℕ) × (b ≡ w ++ r) × K r) → (r : List ℕ) × ((x ∷ b) ≡ (c ∷ w) ++ r) × K r
      go true e h f = let k = f h in (k.0, ap (λ z. z ∷ b) (eqb-true x c e) ∙ ap (λ (z : List ℕ). c ∷ z) k.1, k.2)
      go false e h f = absurd h

  ends_it : (p : ℕ → Bool) (c : ℕ) (b : List ℕ) → stops p (λ r. Unit {0}) (c ∷ b) → p c ≡ false
  ends_it p c b h = go (p c) h
    where
      go : (t : Bool) → whether t ⊥ (Unit {0}) → t ≡ false
      go true h = absurd h
      go false h = refl

  -- the refusal of a stop is this one, or is told of an earlier byte
  abbrev pub SameOrBefore : ByteFault → ℕ → ℕ → ℕ → Type 0
  SameOrBefore Unexpected n i k = i < k
  SameOrBefore LongName n i k = i < k
  SameOrBefore OutOfRange n i k = i < k
  SameOrBefore TooDeep n i k = (k ≡ n) ⊎ (n < k)
  SameOrBefore NoMemory n i k = ⊥

  -- it stops within the opening, or before it
  stopped_in : (p x : List ℕ) (c : ℕ) (u : List ℕ) (ts : List Token) (o : Opening) (z : Both State Lexer) (kind : ByteFault) (n : ℕ) → DeepBehind p ts o → come (byte_step all_limits) (p ++ x) (start style) ≡ Some z → (Pending style) (p ++ x) z n → byte_move z c ≡ Stops kind → opening_text o ≡ x ++ (c ∷ u) → (kind ≡ TooDeep) × (n < length p)
  stopped_in p x c u ts o z kind n d e w s t =
      let h = lexing_split p x (InGap Between) w.tokens z.lexer w.made in
      let i : h.1 ≡ d.landed.lexer = ap (state_in d.landed.lexer) (sym h.3 ∙ d.landed.before) in
      let m = steps_on o x c u d.landed.lexer z.lexer h.2 d.landed.begins t (subst (λ y. lexing x y ≡ Some (h.2, z.lexer)) i h.4) in elim (small_stops z c m.0 m.1 kind m.2 m.3 s) [
        | inl f ↦ absurd (goes_on (s ∙ ap Stops f))
        | inr f ↦ (f.0, first_byte m.4 f.1 ((deep_at style) (p ++ x) c [] z n w (s ∙ ap Stops f.0)).1)
      ]
    where
      goes_on : byte_move z c ≡ Stops Unexpected → ⊥
      goes_on f =
          let q = comes (byte_step no_limits) (end_value no_limits) (unread_in no_limits) (λ q. live_in no_limits q.parser q.lexer ≡ true) (follows false false) (p ++ opening_text o) (start style) ((text_continues style) no_limits (p ++ opening_text o) (deep_goes p ts o d)) in
          let r = come_split (byte_step no_limits) (p ++ x) (c ∷ u) (start style) q.0 (subst (λ (y : List ℕ). come (byte_step no_limits) y (start style) ≡ Some q.0) (ap (λ (y : List ℕ). p ++ y) t ∙ sym (append_assoc p x (c ∷ u))) q.1) in
          let j : r.0 ≡ z = (let k : Some r.0 ≡ Some z = sym r.1 ∙ come_sub false false (p ++ x) (start style) z e in cc) in
          let v : byte_step no_limits r.0 c ≡ None = ap (λ y. byte_step no_limits y c) j ∙ unexpected_byte z c f in
          let k : None ≡ Some q.0 = sym (ap (λ y. and_then y (λ t. come (byte_step no_limits) u t)) v) ∙ r.2 in
          cc

      first_byte : {y : Option Token} → (x ≡ []) ⊎ (y ≡ None) → (y ≡ None → ⊥) → n < length (p ++ x) → n < length p
      first_byte g f l = elim g [
        | inl k ↦ subst (λ (y : List ℕ). n < length y) (ap (λ (y : List ℕ). p ++ y) k ∙ append-nil p) l
        | inr k ↦ absurd (f k)
      ]

  -- it stops behind the opening
  stopped_behind : (p y : List ℕ) (c : ℕ) (more : List ℕ) (ts : List Token) (o : Opening) (z : Both State Lexer) (kind : ByteFault) (n : ℕ) → DeepBehind p ts o → come (byte_step all_limits) ((p ++ opening_text o) ++ y) (start style) ≡ Some z → (Pending style) ((p ++ opening_text o) ++ y) z n → byte_move z c ≡ Stops kind → stops (opening_goes_on o) (λ r. Unit {0}) (y ++ (c ∷ more)) → (kind ≡ TooDeep) × (n ≡ length p)
  stopped_behind p [] c more ts o z kind n d e w s t =
      let h = deep_taken p ts o z n d (subst (λ (x : List ℕ). (Pending style) x z n) (append-nil (p ++ opening_text o)) w) in
      let k : Stops kind ≡ Stops TooDeep = sym s ∙ stops_there p o z n c h (ends_it (opening_goes_on o) c more t) in
      ((let j : kind ≡ TooDeep = cc in j), h.began)
  stopped_behind p (b ∷ y) c more ts o z kind n d e w s t = absurd (no_further p ts o b y z d e (ends_it (opening_goes_on o) b (y ++ (c ∷ more)) t))

  -- ---- in a text

  -- where an opening too many stands
  pub deep_behind : (b : List ℕ) (k : ℕ) (d : IsDeep style b k) → DeepBehind (take k b) d.tokens d.opening
  deep_behind b k d = record { landed = lands (take k b) d.tokens d.opening d.front d.whole; begins = d.begins; deep = d.deep }

  first_byte : (o : Opening) → 0 < length (opening_text o)
  first_byte Parenthesis = omega arith
  first_byte Brace = omega arith
  first_byte BlockWord = omega arith
  first_byte IfWord = omega arith
  first_byte CaseWord = omega arith
  first_byte (Operator m) = mark_long m

  -- against a stop
  pub stop_deep : (front : List ℕ) (c : ℕ) (more : List ℕ) (z : Both State Lexer) (kind : ByteFault) (n k : ℕ) → come (byte_step all_limits) front (start style) ≡ Some z → (Pending style) front z n → byte_move z c ≡ Stops kind → IsDeep style (front ++ (c ∷ more)) k → SameOrBefore kind n (length front) k
  stop_deep front c more z kind n k e w s d = go (nat_lt (length front) k) refl
    where
      later : (kind : ByteFault) → byte_move z c ≡ Stops kind → length front < k → SameOrBefore kind n (length front) k
      later Unexpected s l = l
      later LongName s l = l
      later OutOfRange s l = l
      later TooDeep s l = let m = ((deep_at style) front c more z n w s).1 in inr (omega (arith, l, m))
      later NoMemory s l = never_memory z c s

      too_deep : (kind : ByteFault) → kind ≡ TooDeep → (k ≡ n) ⊎ (n < k) → SameOrBefore kind n (length front) k
      too_deep kind e h = subst (λ x. SameOrBefore x n (length front) k) (sym e) h

      at : k ≤ length front → SameOrBefore kind n (length front) k
      at l =
          let p = take k front in
          let x = drop k front in
          let parts : p ++ x ≡ front = take-append-drop k front in
          let before : take k (front ++ (c ∷ more)) ≡ p = take-append-le k front (c ∷ more) l in
          let size : length p ≡ k = length-take-le k front l in
          let after : drop k (front ++ (c ∷ more)) ≡ x ++ (c ∷ more) = append_cancel_left p (drop k (front ++ (c ∷ more))) (x ++ (c ∷ more)) (ap (λ (y : List ℕ). y ++ drop k (front ++ (c ∷ more))) (sym before) ∙ take-append-drop k (front ++ (c ∷ more)) ∙ ap (λ (y : List ℕ). y ++ (c ∷ more)) (sym parts) ∙ append_assoc p x (c ∷ more)) in
          let b = subst (λ (y : List ℕ). DeepBehind y d.tokens d.opening) before (deep_behind (front ++ (c ∷ more)) k d) in
          let r = behind_word (opening_text d.opening) (stops (opening_goes_on d.opening) (λ r. Unit {0})) (x ++ (c ∷ more)) (subst (λ (y : List ℕ). word (opening_text d.opening) (stops (opening_goes_on d.opening) (λ r. Unit {0})) y) after d.stands) in
          elim (part x c more (opening_text d.opening) r.0 r.1) [
            | inl h ↦ behind_it p x parts size b r.0 r.2 h
            | inr h ↦ within p x parts size b h
          ]
        where
          behind_it : (p x : List ℕ) → p ++ x ≡ front → length p ≡ k → DeepBehind p d.tokens d.opening → (r : List ℕ) → stops (opening_goes_on d.opening) (λ r. Unit {0}) r → ((y : List ℕ) × (x ≡ opening_text d.opening ++ y) × (r ≡ y ++ (c ∷ more))) → SameOrBefore kind n (length front) k
          behind_it p x parts size b r t h =
              let whole : front ≡ (p ++ opening_text d.opening) ++ h.0 = sym parts ∙ ap (λ (y : List ℕ). p ++ y) h.1 ∙ sym (append_assoc p (opening_text d.opening) h.0) in
              let f = stopped_behind p h.0 c more d.tokens d.opening z kind n b (subst (λ (y : List ℕ). come (byte_step all_limits) y (start style) ≡ Some z) whole e) (subst (λ (y : List ℕ). (Pending style) y z n) whole w) s (subst (stops (opening_goes_on d.opening) (λ r. Unit {0})) h.2 t) in
              too_deep kind f.0 (inl (sym size ∙ sym f.1))

          within : (p x : List ℕ) → p ++ x ≡ front → length p ≡ k → DeepBehind p d.tokens d.opening → ((u : List ℕ) × (opening_text d.opening ≡ x ++ (c ∷ u))) → SameOrBefore kind n (length front) k
          within p x parts size b h =
              let f = stopped_in p x c h.0 d.tokens d.opening z kind n b (subst (λ (y : List ℕ). come (byte_step all_limits) y (start style) ≡ Some z) (sym parts) e) (subst (λ (y : List ℕ). (Pending style) y z n) (sym parts) w) s h.1 in
              too_deep kind f.0 (inr (let l = f.1 in omega (arith, l, size)))

      go : (t : Bool) → nat_lt (length front) k ≡ t → SameOrBefore kind n (length front) k
      go true l = later kind s (ltb-true (length front) k l)
      go false l = at (ltb-false (length front) k l)

  -- against the end
  pub end_deep : (b : List ℕ) (z : Both State Lexer) (n k : ℕ) → come (byte_step all_limits) b (start style) ≡ Some z → (Pending style) b z n → IsDeep style b k → end_answer z.parser (last z.lexer) n ≡ Faulty (R.TooDeep k)
  end_deep b z n k e w d =
      let r = behind_word (opening_text d.opening) (stops (opening_goes_on d.opening) (λ r. Unit {0})) (drop k b) d.stands in
      let whole : b ≡ (take k b ++ opening_text d.opening) ++ r.0 = sym (take-append-drop k b) ∙ ap (λ (y : List ℕ). take k b ++ y) r.1 ∙ sym (append_assoc (take k b) (opening_text d.opening) r.0) in
      go r.0 whole r.2 (size r.0 r.1 (nat_lt k (length b)) refl)
    where
      size : (r : List ℕ) → drop k b ≡ opening_text d.opening ++ r → (t : Bool) → nat_lt k (length b) ≡ t → length (take k b) ≡ k
      size r f true l = length-take-le k b (let m = ltb-true k (length b) l in omega (arith, m))
      size r f false l =
          let m = ltb-false k (length b) l in
          let g : length (drop k b) ≡ length b - k = length-drop k b in
          let h : length (drop k b) ≡ length (opening_text d.opening) + length r = ap length f ∙ length-append (opening_text d.opening) r in
          let o = first_byte d.opening in
          absurd (omega (arith, m, g, h, o))

      go : (r : List ℕ) → b ≡ (take k b ++ opening_text d.opening) ++ r → stops (opening_goes_on d.opening) (λ r. Unit {0}) r → length (take k b) ≡ k → end_answer z.parser (last z.lexer) n ≡ Faulty (R.TooDeep k)
      go [] f t l =
          let h = deep_taken (take k b) d.tokens d.opening z n (deep_behind b k d) (subst (λ (x : List ℕ). (Pending style) x z n) (f ∙ append-nil (take k b ++ opening_text d.opening)) w) in
          ap (λ x. end_answer z.parser x n) (ap last h.lexer_is ∙ after_ends d.opening) ∙ ap (λ x. last_answer x n) h.too_many ∙ ap (λ x. Faulty (R.TooDeep x)) (h.began ∙ l)
      go (c ∷ y) f t l = absurd (no_further (take k b) d.tokens d.opening c y z (deep_behind b k d) (subst (λ (x : List ℕ). come (byte_step all_limits) x (start style) ≡ Some z) f e) (ends_it (opening_goes_on d.opening) c y t))
