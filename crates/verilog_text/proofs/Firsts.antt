-- Whatever the reader answers, each other refusal that stands is told of a later byte.
use Rattle.verilog_tree.specs.Grammar.{Style, unlimited}
use Rattle.std.proofs.Common.{◌≡◌, ℕ, ◌+◌, ◌<◌, ◌≤◌, Bool, true, false, List, [], ◌∷◌, ◌++◌, length, take, drop, Option, Some, None, refl, sym, ap, subst, ◌∙◌, ◌⊎◌, inl, inr, arith, append-nil, append_assoc, take-append-drop, length-append, nat_lt, nat_le}
use Rattle.std.proofs.lemmas.Bool.{leb-true, leb-false, ltb-true, ltb-false}
use Rattle.std.proofs.lemmas.List.{take-append-le}
use Rattle.bist_text.specs.Grammar.{Continues, IsUnexpected, IsTruncated}
use Rattle.bist_text.specs.Lexed.{Both}
use Rattle.bist_text.specs.Machine.{Holds}
use Rattle.verilog_tree.specs.Plain.{ModuleTree}
use Rattle.verilog_tree.specs.Spells.{all_limits, no_limits, short_names, small_numbers, Text, bounded}
use Rattle.verilog_tree.specs.Tokens.{Token}
use Rattle.verilog_tree.specs.declared.fault.ReadFault.{ReadFault}
use Rattle.verilog_tree.specs.declared.fault.ReadFault.TheVariants as R
use Rattle.verilog_text.specs.declared.fault.ByteFault.{ByteFault}
use Rattle.verilog_text.specs.declared.fault.ByteFault.TheVariants.{Unexpected, TooDeep, LongName, OutOfRange, NoMemory}
use Rattle.verilog_text.specs.Answering.{Taking, Leads, Refused, OneTooMany, take_token, Stops, byte_move, Answer, Finished, Faulty, fault_at, value_answer, last_answer, end_answer, answer}
use Rattle.verilog_text.specs.Expected.{live_in}
use Rattle.verilog_text.specs.inner.Following.{rest}
use Rattle.verilog_text.specs.Lexing.{Lexer, last}
use Rattle.verilog_text.specs.Places.{State, AtItem, Begin}
use Rattle.verilog_text.specs.Reading.{start, byte_step, end_value}
use Rattle.verilog_text.specs.inner.Reading.{unread_in}
use Rattle.verilog_text.specs.Refusals.{StandsIn, byte_of}
use Rattle.verilog_text.specs.Steps.{value}
use Rattle.verilog_text.proofs.Deep.{deep_at, deep_end}
use Rattle.verilog_text.proofs.DeepFirst.{stop_deep, end_deep, free_keeps}
use Rattle.verilog_text.proofs.Extends.{limits}
use Rattle.verilog_text.proofs.Faults.{StopsAt, stopped_where, continues_text, starts, refused_there}
use Rattle.verilog_text.proofs.Finishing.{finishes}
use Rattle.verilog_text.proofs.GrammarPieces.{begins_file}
use Rattle.verilog_text.proofs.ItemLaws.{parses}
use Rattle.verilog_text.proofs.Limits.{no_limit}
use Rattle.verilog_text.proofs.Parsing.{parse, parse_to, parse_from, parse_wider}
use Rattle.verilog_text.proofs.Pending.{Pending, at_start}
use Rattle.verilog_text.proofs.Reached.{come, come_split, come_on, reached}
use Rattle.verilog_text.proofs.Stopping.{follows, come_sub, unexpected_byte, long_byte, out_byte, long_elsewhere, out_elsewhere, never_memory}

module _ (style : Style) where
  -- ---- limits of tokens

  module _ (a b : Bool) where
    -- bytes that are read go on
    goes_there : (front : List ℕ) (z : Both State Lexer) → come (byte_step (limits a b)) front (start style) ≡ Some z → Continues (Text style (limits a b)) front
    goes_there front z e = (continues_text style) (limits a b) front (reached (byte_step (limits a b)) (end_value (limits a b)) (unread_in (limits a b)) (λ q. live_in (limits a b) q.parser q.lexer ≡ true) (follows a b) front (start style) z ((starts style) a b) e).1

    -- a byte that no text goes on with is none of them
    at_or_after : (front more : List ℕ) (k : ℕ) (z : Both State Lexer) → come (byte_step (limits a b)) front (start style) ≡ Some z → IsUnexpected (Text style (limits a b)) (front ++ more) k → length front ≤ k
    at_or_after front more k z e u = go (nat_le (length front) k) refl
      where
        go : (t : Bool) → nat_le (length front) k ≡ t → length front ≤ k
        go true n = leb-true (length front) k n
        go false n =
            let l = leb-false (length front) k n in
            let y = come_split (byte_step (limits a b)) (take (k + 1) front) (drop (k + 1) front) (start style) z (subst (λ (x : List ℕ). come (byte_step (limits a b)) x (start style) ≡ Some z) (sym (take-append-drop (k + 1) front)) e) in
            absurd (u.after (subst (λ (x : List ℕ). Continues (Text style (limits a b)) x) (sym (take-append-le (k + 1) front more (omega (arith, l)))) (goes_there (take (k + 1) front) y.0 y.1)))

    -- nor the next
    after_next : (front : List ℕ) (c : ℕ) (more : List ℕ) (k : ℕ) (z y : Both State Lexer) → come (byte_step (limits a b)) front (start style) ≡ Some z → byte_step (limits a b) z c ≡ Some y → IsUnexpected (Text style (limits a b)) (front ++ (c ∷ more)) k → length front < k
    after_next front c more k z y e n u =
        let h = at_or_after (front ++ (c ∷ [])) more k y (come_on (byte_step (limits a b)) front c (start style) z y e n) (subst (λ (x : List ℕ). IsUnexpected (Text style (limits a b)) x k) (sym (append_assoc front (c ∷ []) more)) u) in
        let l : length (front ++ (c ∷ [])) ≡ length front + 1 = length-append front (c ∷ []) in
        omega (arith, h, l)

  same_or_later : (i k : ℕ) → i ≤ k → (k ≡ i) ⊎ (i < k)
  same_or_later i k h = go (nat_lt i k) refl
    where
      go : (t : Bool) → nat_lt i k ≡ t → (k ≡ i) ⊎ (i < k)
      go true e = inr (ltb-true i k e)
      go false e = let l = ltb-false i k e in inl (omega (arith, h, l))

  -- a byte with which the text goes on without limits is behind one with which it doesn't
  free_after : (front : List ℕ) (c : ℕ) (more : List ℕ) (k : ℕ) (z : Both State Lexer) → come (byte_step all_limits) front (start style) ≡ Some z → byte_step no_limits z c ≡ None → length front ≤ k → Continues (Text style no_limits) (take (k + 1) (front ++ (c ∷ more))) → length front < k
  free_after front c more k z e n h g = elim (same_or_later (length front) k h) [
    | inl s ↦ absurd (((refused_there style) false false front c more z e n).after (subst (λ x. Continues (Text style no_limits) (take (x + 1) (front ++ (c ∷ more)))) s g))
    | inr s ↦ s
  ]

  -- ---- against a stop

  -- the answer style is this fault, or is told of an earlier byte; and no fault stands in a text that is read
  abbrev pub Before : List ℕ → Answer → ReadFault → Type 0
  Before b (Finished v) g = ⊥
  Before b (Faulty f) g = (g ≡ f) ⊎ (byte_of b f < byte_of b g)

  shorter : (front : List ℕ) (c : ℕ) (more : List ℕ) → length front < length (front ++ (c ∷ more))
  shorter front c more = let l = length-append front (c ∷ more) in omega (arith, l)

  stop_first : (front : List ℕ) (c : ℕ) (more : List ℕ) (z : Both State Lexer) (kind : ByteFault) (n : ℕ) (g : ReadFault) → come (byte_step all_limits) front (start style) ≡ Some z → (Pending style) front z n → byte_move z c ≡ Stops kind → StandsIn style (front ++ (c ∷ more)) g → Before (front ++ (c ∷ more)) (Faulty (fault_at kind n (length front))) g
  stop_first front c more z Unexpected n (R.Unexpected k) e w s u = elim (same_or_later (length front) k (at_or_after false false front (c ∷ more) k z (come_sub false false front (start style) z e) u)) [ inl h ↦ inl (ap R.Unexpected h) | inr h ↦ inr h ]
  stop_first front c more z Unexpected n (R.LongName k) e w s u = inr (free_after front c more k z e (unexpected_byte z c s) (at_or_after true false front (c ∷ more) k z (come_sub true false front (start style) z e) u.0) u.1)
  stop_first front c more z Unexpected n (R.OutOfRange k) e w s u = inr (free_after front c more k z e (unexpected_byte z c s) (at_or_after false true front (c ∷ more) k z (come_sub false true front (start style) z e) u.0) u.1)
  stop_first front c more z Unexpected n (R.TooDeep k) e w s u = inr ((stop_deep style) front c more z Unexpected n k e w s u)
  stop_first front c more z Unexpected n R.Truncated e w s u = inr (shorter front c more)
  stop_first front c more z LongName n (R.Unexpected k) e w s u = let p = (long_byte z c s).1 in inr (after_next false false front c more k z p.0 (come_sub false false front (start style) z e) p.1 u)
  stop_first front c more z LongName n (R.LongName k) e w s u = elim (same_or_later (length front) k (at_or_after true false front (c ∷ more) k z (come_sub true false front (start style) z e) u.0)) [ inl h ↦ inl (ap R.LongName h) | inr h ↦ inr h ]
  stop_first front c more z LongName n (R.OutOfRange k) e w s u = let p = long_elsewhere z c s in inr (after_next false true front c more k z p.0 (come_sub false true front (start style) z e) p.1 u.0)
  stop_first front c more z LongName n (R.TooDeep k) e w s u = inr ((stop_deep style) front c more z LongName n k e w s u)
  stop_first front c more z LongName n R.Truncated e w s u = inr (shorter front c more)
  stop_first front c more z OutOfRange n (R.Unexpected k) e w s u = let p = (out_byte z c s).1 in inr (after_next false false front c more k z p.0 (come_sub false false front (start style) z e) p.1 u)
  stop_first front c more z OutOfRange n (R.LongName k) e w s u = let p = out_elsewhere z c s in inr (after_next true false front c more k z p.0 (come_sub true false front (start style) z e) p.1 u.0)
  stop_first front c more z OutOfRange n (R.OutOfRange k) e w s u = elim (same_or_later (length front) k (at_or_after false true front (c ∷ more) k z (come_sub false true front (start style) z e) u.0)) [ inl h ↦ inl (ap R.OutOfRange h) | inr h ↦ inr h ]
  stop_first front c more z OutOfRange n (R.TooDeep k) e w s u = inr ((stop_deep style) front c more z OutOfRange n k e w s u)
  stop_first front c more z OutOfRange n R.Truncated e w s u = inr (shorter front c more)
  stop_first front c more z TooDeep n (R.Unexpected k) e w s u = let l = ((deep_at style) front c more z n w s).1 in let h = at_or_after false false front (c ∷ more) k z (come_sub false false front (start style) z e) u in inr (omega (arith, l, h))
  stop_first front c more z TooDeep n (R.LongName k) e w s u = let l = ((deep_at style) front c more z n w s).1 in let h = at_or_after true false front (c ∷ more) k z (come_sub true false front (start style) z e) u.0 in inr (omega (arith, l, h))
  stop_first front c more z TooDeep n (R.OutOfRange k) e w s u = let l = ((deep_at style) front c more z n w s).1 in let h = at_or_after false true front (c ∷ more) k z (come_sub false true front (start style) z e) u.0 in inr (omega (arith, l, h))
  stop_first front c more z TooDeep n (R.TooDeep k) e w s u = elim ((stop_deep style) front c more z TooDeep n k e w s u) [ inl h ↦ inl (ap R.TooDeep h) | inr h ↦ inr h ]
  stop_first front c more z TooDeep n R.Truncated e w s u = let l = ((deep_at style) front c more z n w s).1 in let h = shorter front c more in inr (omega (arith, l, h))
  stop_first front c more z NoMemory n g e w s u = absurd (never_memory z c s)
  stop_first front c more z Unexpected n R.NoMemory e w s u = absurd u
  stop_first front c more z LongName n R.NoMemory e w s u = absurd u
  stop_first front c more z OutOfRange n R.NoMemory e w s u = absurd u
  stop_first front c more z TooDeep n R.NoMemory e w s u = absurd u

  -- ---- against the end

  -- a text within all limits is one without
  pub without_limits : (b : List ℕ) (v : ModuleTree) → Text style all_limits b v → Text style no_limits b v
  without_limits b v t = (t.0, t.1, (free_keeps style) t.0, (begins_file unlimited style t.0 v).0 (subst (λ (x : List Token). rest unlimited (AtItem (Begin style)) x v) (append-nil t.0) (parse_from unlimited t.0 [] (AtItem (Begin style)) v (go (parse bounded t.0 (AtItem (Begin style))) refl (parse_to bounded t.0 [] (AtItem (Begin style)) v (subst (λ (x : List Token). rest bounded (AtItem (Begin style)) x v) (sym (append-nil t.0)) ((begins_file bounded style t.0 v).1 t.3)))))))
    where
      go : (o : Option State) → parse bounded t.0 (AtItem (Begin style)) ≡ o → Holds o (λ z. rest bounded z [] v) → Holds (parse unlimited t.0 (AtItem (Begin style))) (λ z. rest unlimited z [] v)
      go None e h = absurd h
      go (Some z) e h = subst (λ (o : Option State). Holds o (λ z. rest unlimited z [] v)) (sym (parse_wider bounded unlimited (no_limit bounded) (λ n k. refl) t.0 (AtItem (Begin style)) z e)) (((parses unlimited).ends z v).1 (((parses bounded).ends z v).0 h))

  -- the end of a text that is none
  cut : (b : List ℕ) (z : Both State Lexer) (n : ℕ) (a : Answer) → (Pending style) b z n → answer style b ≡ a → end_answer z.parser (last z.lexer) n ≡ a → IsTruncated (Text style no_limits) b → Before b a R.Truncated
  cut b z n a w f h t = go (last z.lexer) refl h
    where
      valued : (o : Option ModuleTree) → value_answer o ≡ a → Before b a R.Truncated
      valued None e = subst (λ x. Before b x R.Truncated) e (inl refl)
      valued (Some v) e = absurd (t.none v (without_limits b v (((finishes style) b v).0 (f ∙ sym e))))

      by : (x : Taking) → last_answer x n ≡ a → end_answer z.parser (last z.lexer) n ≡ last_answer x n → Before b a R.Truncated
      by (Leads s) e k = valued (value s) e
      by Refused e k = subst (λ x. Before b x R.Truncated) e (inl refl)
      by OneTooMany e k = subst (λ x. Before b x R.Truncated) e (inr ((deep_end style) b z n n w k).2)

      go : (o : Option (Option Token)) → last z.lexer ≡ o → end_answer z.parser o n ≡ a → Before b a R.Truncated
      go None i e = subst (λ x. Before b x R.Truncated) e (inl refl)
      go (Some None) i e = valued (value z.parser) e
      go (Some (Some t)) i e = by (take_token z.parser t) e (ap (λ o. end_answer z.parser o n) i)

  end_first : (b : List ℕ) (z : Both State Lexer) (n : ℕ) (a : Answer) (g : ReadFault) → come (byte_step all_limits) b (start style) ≡ Some z → (Pending style) b z n → answer style b ≡ a → end_answer z.parser (last z.lexer) n ≡ a → StandsIn style b g → Before b a g
  end_first b z n a (R.Unexpected k) e w f h u = let l = at_or_after false false b [] k z (come_sub false false b (start style) z e) (subst (λ (x : List ℕ). IsUnexpected (Text style no_limits) x k) (sym (append-nil b)) u) in let m = u.within in absurd (omega (arith, l, m))
  end_first b z n a (R.LongName k) e w f h u = let l = at_or_after true false b [] k z (come_sub true false b (start style) z e) (subst (λ (x : List ℕ). IsUnexpected (Text style short_names) x k) (sym (append-nil b)) u.0) in let m = u.0.within in absurd (omega (arith, l, m))
  end_first b z n a (R.OutOfRange k) e w f h u = let l = at_or_after false true b [] k z (come_sub false true b (start style) z e) (subst (λ (x : List ℕ). IsUnexpected (Text style small_numbers) x k) (sym (append-nil b)) u.0) in let m = u.0.within in absurd (omega (arith, l, m))
  end_first b z n a (R.TooDeep k) e w f h u = subst (λ x. Before b x (R.TooDeep k)) (sym ((end_deep style) b z n k e w u) ∙ h) (inl refl)
  end_first b z n a R.Truncated e w f h u = cut b z n a w f h u
  end_first b z n a R.NoMemory e w f h u = absurd u

  -- ---- of any text

  pub first : (b : List ℕ) (a : Answer) (g : ReadFault) → answer style b ≡ a → StandsIn style b g → Before b a g
  first b a g f u = elim ((stopped_where style) [] b (start style) 0 0 a refl (at_start style) refl f) [
    | inl s ↦ stopped s
    | inr s ↦ end_first b s.state s.began a g s.come_there s.pending f s.ended u
  ]
    where
      stopped : (StopsAt style) [] b (start style) 0 a → Before b a g
      stopped s =
          let k : Faulty (fault_at s.kind s.began (length s.front)) ≡ a = sym (s.fault ∙ ap (λ n. Faulty (fault_at s.kind s.began n)) (omega arith)) in
          subst (λ x. Before b x g) k (subst (λ (x : List ℕ). Before x (Faulty (fault_at s.kind s.began (length s.front))) g) (sym s.split) (stop_first s.front s.byte s.more s.state s.kind s.began g s.come_there s.pending s.stopped (subst (λ (x : List ℕ). StandsIn style x g) s.split u)))
