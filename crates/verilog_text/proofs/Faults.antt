-- Which fault the reader answers says what stands at its byte.
use Rattle.verilog_tree.specs.Grammar.{Style, unlimited}
use Rattle.std.proofs.Common.{◌≡◌, ℕ, suc, ◌+◌, Bool, true, false, List, [], ◌∷◌, ◌++◌, length, take, Option, Some, None, refl, sym, ap, subst, ◌∙◌, ◌⊎◌, inl, inr, arith, if◌then◌else◌, append-nil, append_assoc, add-one}
use Rattle.std.proofs.lemmas.List.{length-append}
use Rattle.bist_text.specs.Grammar.{Continues, IsUnexpected, IsTruncated}
use Rattle.bist_text.specs.Lexed.{Both, advance, then as and_then}
use Rattle.verilog_tree.specs.Plain.{ModuleTree}
use Rattle.verilog_tree.specs.Spells.{Limits, all_limits, no_limits, Text, bounded}
use Rattle.verilog_tree.specs.Tokens.{Token}
use Rattle.verilog_tree.specs.declared.fault.ReadFault.{ReadFault}
use Rattle.verilog_tree.specs.declared.fault.ReadFault.TheVariants as R
use Rattle.verilog_text.specs.declared.fault.ByteFault.{ByteFault}
use Rattle.verilog_text.specs.declared.fault.ByteFault.TheVariants.{Unexpected, TooDeep, LongName, OutOfRange, NoMemory}
use Rattle.verilog_text.specs.Answering.{Taking, Leads, Refused, OneTooMany, taking, take_token, Move, Goes, Stops, byte_move, Answer, Faulty, fault_at, value_answer, last_answer, end_answer, on_move, run, answer}
use Rattle.verilog_text.specs.Expected.{taken, live_in}
use Rattle.verilog_text.specs.Lexing.{Lexer, last}
use Rattle.verilog_text.specs.Places.{State}
use Rattle.verilog_text.specs.Reading.{step_in, start, byte_step, end_value}
use Rattle.verilog_text.specs.inner.Reading.{unread_in}
use Rattle.verilog_text.specs.Refusals.{SaysIn}
use Rattle.verilog_text.specs.Steps.{step, value}
use Rattle.verilog_text.specs.Openings.{IsDeep}
use Rattle.verilog_text.proofs.Deep.{deep_at, deep_end}
use Rattle.verilog_text.proofs.Extends.{limits}
use Rattle.verilog_text.proofs.Limits.{without_limit}
use Rattle.verilog_text.proofs.Moving.{Sound, Agrees, move_agrees}
use Rattle.verilog_text.proofs.Pending.{Pending, at_start, To, moves_on}
use Rattle.verilog_text.proofs.Reached.{come, come_on, reached, stops_at, follows_on}
use Rattle.verilog_text.proofs.ReadingLaws.{start_is}
use Rattle.verilog_text.proofs.Stopping.{follows, come_sub, unexpected_byte, long_byte, out_byte, free_step, not_taken}

module _ (style : Style) where
  -- ---- where the reader is

  -- the reader, which has read p, has read more, and this byte stops it
  pub record StopsAt (p b : List ℕ) (q : Both State Lexer) (i : ℕ) (a : Answer) : Type 0 where
    pub front : List ℕ
    pub byte : ℕ
    pub more : List ℕ
    pub state : Both State Lexer
    pub kind : ByteFault
    pub began : ℕ
    pub split : b ≡ front ++ (byte ∷ more)
    pub come_there : come (byte_step all_limits) front q ≡ Some state
    pub sound : Sound state
    pub stopped : byte_move state byte ≡ Stops kind
    pub pending : (Pending style) (p ++ front) state began
    pub fault : a ≡ Faulty (fault_at kind began (i + length front))

  -- or it has read all
  pub record EndsAt (p b : List ℕ) (q : Both State Lexer) (a : Answer) : Type 0 where
    pub state : Both State Lexer
    pub began : ℕ
    pub come_there : come (byte_step all_limits) b q ≡ Some state
    pub sound : Sound state
    pub ended : end_answer state.parser (last state.lexer) began ≡ a
    pub pending : (Pending style) (p ++ b) state began

  further : (p : List ℕ) (c : ℕ) (b : List ℕ) (q z : Both State Lexer) (i : ℕ) (a : Answer) → byte_step all_limits q c ≡ Some z → StopsAt (p ++ (c ∷ [])) b z (i + 1) a ⊎ EndsAt (p ++ (c ∷ [])) b z a → StopsAt p (c ∷ b) q i a ⊎ EndsAt p (c ∷ b) q a
  further p c b q z i a e (inl s) = inl (record {
    front = c ∷ s.front;
    byte = s.byte;
    more = s.more;
    state = s.state;
    kind = s.kind;
    began = s.began;
    split = ap (λ x. c ∷ x) s.split;
    come_there = ap (λ o. and_then o (λ t. come (byte_step all_limits) s.front t)) e ∙ s.come_there;
    sound = s.sound;
    stopped = s.stopped;
    pending = subst (λ (x : List ℕ). (Pending style) x s.state s.began) (append_assoc p (c ∷ []) s.front) s.pending;
    fault = s.fault ∙ ap (λ n. Faulty (fault_at s.kind s.began n)) (omega arith);
  })
  further p c b q z i a e (inr s) = inr (record { state = s.state; began = s.began; come_there = ap (λ o. and_then o (λ t. come (byte_step all_limits) b t)) e ∙ s.come_there; sound = s.sound; ended = s.ended; pending = subst (λ (x : List ℕ). (Pending style) x s.state s.began) (append_assoc p (c ∷ []) b) s.pending })

  faulty_is : (f g : ReadFault) → Faulty f ≡ Faulty g → g ≡ f
  faulty_is f g e = cc

  pub stopped_where : (p b : List ℕ) (q : Both State Lexer) (k i : ℕ) (a : Answer) → Sound q → (Pending style) p q k → i ≡ length p → run b q k i ≡ a → StopsAt p b q i a ⊎ EndsAt p b q a
  stopped_where p [] q k i a h w n e = inr (record { state = q; began = k; come_there = refl; sound = h; ended = e; pending = subst (λ (x : List ℕ). (Pending style) x q k) (sym (append-nil p)) w })
  stopped_where p (c ∷ b) q k i a h w n e = go (byte_move q c) refl (move_agrees q c h) ((moves_on style) p q k c w) e (λ z m s u. stopped_where (p ++ (c ∷ [])) b z m (i + 1) a s u (ap (λ x. x + 1) n ∙ sym (length-append p (c ∷ []))))
    where
      go : (m : Move) → byte_move q c ≡ m → Agrees m (byte_step all_limits q c) → (To style) (p ++ (c ∷ [])) k (length p) m → on_move m k i (λ z j. run b z j (i + 1)) ≡ a → ((z : Both State Lexer) (n : ℕ) → Sound z → (Pending style) (p ++ (c ∷ [])) z n → run b z n (i + 1) ≡ a → StopsAt (p ++ (c ∷ [])) b z (i + 1) a ⊎ EndsAt (p ++ (c ∷ [])) b z a) → StopsAt p (c ∷ b) q i a ⊎ EndsAt p (c ∷ b) q a
      go (Goes z fresh) m g t r f = further p c b q z i a g.0 (f z (if fresh then i else k) g.1 (subst (λ (x : ℕ). (Pending style) (p ++ (c ∷ [])) z (if fresh then x else k)) (sym n) t) r)
      go (Stops x) m g t r f = inl (record { front = []; byte = c; more = b; state = q; kind = x; began = k; split = refl; come_there = refl; sound = h; stopped = m; pending = subst (λ (x : List ℕ). (Pending style) x q k) (sym (append-nil p)) w; fault = sym r ∙ ap (λ n. Faulty (fault_at x k n)) (omega arith) })

  -- ---- of texts

  module _ (l : Limits) where
    pub continues_text : (b : List ℕ) → Continues (unread_in l (start style)) b → Continues (Text style l) b
    continues_text b h = (h.0, h.1, h.2, (start_is l style (b ++ h.0) h.1).0 h.3)

    pub text_continues : (b : List ℕ) → Continues (Text style l) b → Continues (unread_in l (start style)) b
    text_continues b h = (h.0, h.1, h.2, (start_is l style (b ++ h.0) h.1).1 h.3)

    unexpected_text : (b : List ℕ) (k : ℕ) → IsUnexpected (unread_in l (start style)) b k → IsUnexpected (Text style l) b k
    unexpected_text b k u = record { within = u.within; before = continues_text (take k b) u.before; after = λ h. u.after (text_continues (take (k + 1) b) h) }

  take_next : (a : List ℕ) (c : ℕ) (more : List ℕ) → take (suc (length a)) (a ++ (c ∷ more)) ≡ a ++ (c ∷ [])
  take_next [] c more = refl
  take_next (d ∷ a) c more = ap (λ x. d ∷ x) (take_next a c more)

  take_front : (a : List ℕ) (c : ℕ) (more : List ℕ) → take (length a + 1) (a ++ (c ∷ more)) ≡ a ++ (c ∷ [])
  take_front a c more = rw add-one (take_next a c more)

  pub starts : (a b : Bool) → live_in (limits a b) (start style).parser (start style).lexer ≡ true
  starts true true = refl
  starts true false = refl
  starts false true = refl
  starts false false = refl

  module _ (a b : Bool) where
    -- a grammar with limits of tokens alone refuses the byte that stops its machine
    pub refused_there : (front : List ℕ) (c : ℕ) (more : List ℕ) (z : Both State Lexer) → come (byte_step all_limits) front (start style) ≡ Some z → byte_step (limits a b) z c ≡ None → IsUnexpected (Text style (limits a b)) (front ++ (c ∷ more)) (length front)
    refused_there front c more z e n = unexpected_text (limits a b) (front ++ (c ∷ more)) (length front) (stops_at (byte_step (limits a b)) (end_value (limits a b)) (unread_in (limits a b)) (λ q. live_in (limits a b) q.parser q.lexer ≡ true) (follows a b) front c more (start style) z (starts a b) (come_sub a b front (start style) z e) n)

  -- without limits the text goes on behind the byte
  pub free_there : (front : List ℕ) (c : ℕ) (more : List ℕ) (z y : Both State Lexer) → come (byte_step all_limits) front (start style) ≡ Some z → byte_step no_limits z c ≡ Some y → Continues (Text style no_limits) (take (length front + 1) (front ++ (c ∷ more)))
  free_there front c more z y e n = subst (λ x. Continues (Text style no_limits) x) (sym (take_front front c more)) (continues_text no_limits (front ++ (c ∷ [])) (reached (byte_step no_limits) (end_value no_limits) (unread_in no_limits) (λ q. live_in no_limits q.parser q.lexer ≡ true) (follows false false) (front ++ (c ∷ [])) (start style) y refl (come_on (byte_step no_limits) front c (start style) z y (come_sub false false front (start style) z e) n)).1)

  says_byte : (front : List ℕ) (c : ℕ) (more : List ℕ) (z : Both State Lexer) (kind : ByteFault) (began : ℕ) → come (byte_step all_limits) front (start style) ≡ Some z → (Pending style) front z began → byte_move z c ≡ Stops kind → SaysIn style (front ++ (c ∷ more)) (fault_at kind began (length front))
  says_byte front c more z Unexpected began e w s = refused_there false false front c more z e (unexpected_byte z c s)
  says_byte front c more z LongName began e w s = let p = long_byte z c s in (refused_there true false front c more z e p.0, free_there front c more z p.1.0 e p.1.1)
  says_byte front c more z OutOfRange began e w s = let p = out_byte z c s in (refused_there false true front c more z e p.0, free_there front c more z p.1.0 e p.1.1)
  says_byte front c more z TooDeep began e w s = ((deep_at style) front c more z began w s).0
  says_byte front c more z NoMemory began e w s = tt

  -- ---- at the end

  no_value : (o : Option ModuleTree) (f : ReadFault) → value_answer o ≡ Faulty f → (f ≡ R.Truncated) × (o ≡ None)
  no_value None f e = (faulty_is R.Truncated f e, refl)
  no_value (Some v) f e = cc

  last_ends : (s : State) (t : Token) (k : ℕ) (o : Option State) (b : Bool) → step bounded s t ≡ o → taken s t ≡ b → last_answer (taking o b) k ≡ Faulty R.Truncated → and_then (step unlimited s t) value ≡ None
  last_ends s t k (Some z) b e f h = ap (λ o. and_then o value) (without_limit bounded s t z e) ∙ (no_value (value z) R.Truncated h).1
  last_ends s t k None true e f h = cc
  last_ends s t k None false e f h = ap (λ o. and_then o value) (not_taken s t f)

  -- the text is none of the grammar without limits
  cut_end : (q : Both State Lexer) (k : ℕ) → end_answer q.parser (last q.lexer) k ≡ Faulty R.Truncated → end_value no_limits q ≡ None
  cut_end q k h = go (last q.lexer) h
    where
      go : (o : Option (Option Token)) → end_answer q.parser o k ≡ Faulty R.Truncated → and_then o (λ x. and_then (advance (step_in no_limits) q.parser x) value) ≡ None
      go None h = refl
      go (Some None) h = (no_value (value q.parser) R.Truncated h).1
      go (Some (Some t)) h = ap (λ o. and_then o value) (free_step q.parser t) ∙ last_ends q.parser t k (step bounded q.parser t) (taken q.parser t) refl refl h

  says_end : (b : List ℕ) (q : Both State Lexer) (k : ℕ) → come (byte_step all_limits) b (start style) ≡ Some q → end_answer q.parser (last q.lexer) k ≡ Faulty R.Truncated → IsTruncated (Text style no_limits) b
  says_end b q k e h = record {
    none = λ v t. let r : unread_in no_limits q [] v = follows_on (byte_step no_limits) (end_value no_limits) (unread_in no_limits) (λ q. live_in no_limits q.parser q.lexer ≡ true) (follows false false) b [] (start style) q v (come_sub false false b (start style) q e) (subst (λ (x : List ℕ). unread_in no_limits (start style) x v) (sym (append-nil b)) ((start_is no_limits style b v).1 t)) in
        let k' : None ≡ Some v = sym (cut_end q k h) ∙ ((follows false false).ends q v).0 r in cc;
    before = continues_text no_limits b (reached (byte_step no_limits) (end_value no_limits) (unread_in no_limits) (λ q. live_in no_limits q.parser q.lexer ≡ true) (follows false false) b (start style) q refl (come_sub false false b (start style) q e)).1;
  }

  end_says : (b : List ℕ) (q : Both State Lexer) (k : ℕ) (f : ReadFault) → come (byte_step all_limits) b (start style) ≡ Some q → (Pending style) b q k → end_answer q.parser (last q.lexer) k ≡ Faulty f → SaysIn style b f
  end_says b q k R.Truncated e w h = says_end b q k e h
  end_says b q k (R.TooDeep n) e w h = let d = (deep_end style) b q k n w h in subst (λ (m : ℕ). IsDeep style b m) (sym d.0) d.1
  end_says b q k R.NoMemory e w h = tt
  end_says b q k (R.Unexpected n) e w h = absurd (not_here (last q.lexer) h)
    where
      not_here : (o : Option (Option Token)) → end_answer q.parser o k ≡ Faulty (R.Unexpected n) → ⊥
      not_here None h = cc
      not_here (Some None) h = let p = (no_value (value q.parser) (R.Unexpected n) h).0 in cc
      not_here (Some (Some t)) h = by (take_token q.parser t) h
        where
          by : (x : Taking) → last_answer x k ≡ Faulty (R.Unexpected n) → ⊥
          by (Leads z) h = let p = (no_value (value z) (R.Unexpected n) h).0 in cc
          by Refused h = cc
          by OneTooMany h = cc
  end_says b q k (R.LongName n) e w h = absurd (not_here (last q.lexer) h)
    where
      not_here : (o : Option (Option Token)) → end_answer q.parser o k ≡ Faulty (R.LongName n) → ⊥
      not_here None h = cc
      not_here (Some None) h = let p = (no_value (value q.parser) (R.LongName n) h).0 in cc
      not_here (Some (Some t)) h = by (take_token q.parser t) h
        where
          by : (x : Taking) → last_answer x k ≡ Faulty (R.LongName n) → ⊥
          by (Leads z) h = let p = (no_value (value z) (R.LongName n) h).0 in cc
          by Refused h = cc
          by OneTooMany h = cc
  end_says b q k (R.OutOfRange n) e w h = absurd (not_here (last q.lexer) h)
    where
      not_here : (o : Option (Option Token)) → end_answer q.parser o k ≡ Faulty (R.OutOfRange n) → ⊥
      not_here None h = cc
      not_here (Some None) h = let p = (no_value (value q.parser) (R.OutOfRange n) h).0 in cc
      not_here (Some (Some t)) h = by (take_token q.parser t) h
        where
          by : (x : Taking) → last_answer x k ≡ Faulty (R.OutOfRange n) → ⊥
          by (Leads z) h = let p = (no_value (value z) (R.OutOfRange n) h).0 in cc
          by Refused h = cc
          by OneTooMany h = cc

  -- the fault that the reader answers
  pub says : (b : List ℕ) (f : ReadFault) → answer style b ≡ Faulty f → SaysIn style b f
  says b f e = elim (stopped_where [] b (start style) 0 0 (Faulty f) refl (at_start style) refl e) [
    | inl s ↦ subst (λ x. SaysIn style x f) (sym s.split) (subst (λ g. SaysIn style (s.front ++ (s.byte ∷ s.more)) g) (faulty_is f (fault_at s.kind s.began (length s.front)) (s.fault ∙ ap (λ n. Faulty (fault_at s.kind s.began n)) (omega arith))) (says_byte s.front s.byte s.more s.state s.kind s.began s.come_there s.pending s.stopped))
    | inr s ↦ end_says b s.state s.began f s.come_there s.pending s.ended
  ]
