use Rattle.std.proofs.Common.{◌≡◌, ℕ, Bool, true, false, List, [], ◌∷◌, ◌↔◌, Option, Some, None, refl, subst}
use Rattle.bist_text.specs.Grammar.{Continues, are_bytes}
use Rattle.bist_text.specs.Machine.{Holds}
use Rattle.bist_text.specs.inner.Machine.{Follows}
use Rattle.bist_text.specs.inner.Lexed.{emitted, Lexes, Parses, Decides, both_rest}
use Rattle.bist_text.specs.Lexed.{advance, then, only_if, Both, both_step, both_value}
use Rattle.bist_text.proofs.Pieces.{also, back, same, never, holds_iff}

then_holds : {A B : Type 0} (o : Option A) (f : A → Option B) (P : B → Type 0) → Holds o (λ x. Holds (f x) P) ↔ Holds (then o f) P
then_holds None f P = same
then_holds (Some x) f P = same

some_holds : {V : Type 0} (o : Option V) (v : V) → (o ≡ Some v) ↔ Holds o (λ w. w ≡ v)
some_holds None v = (λ e. cc, λ h. absurd h)
some_holds (Some w) v = (λ e. cc, λ e. cc)

-- a list that is given, and what is said of it
holds_given : {R T : Type 0} (o : Option R) (f : R → List T → List T) (U : R → List T → Type 0) (Q : List T → Type 0) → ((ts : List T) × Holds o (λ r. (us : List T) × (ts ≡ f r us) × U r us) × Q ts) ↔ Holds o (λ r. (us : List T) × U r us × Q (f r us))
holds_given None f U Q = never (λ h. h.1) (λ h. h)
holds_given (Some r) f U Q = (λ h. (h.1.0, h.1.2, subst Q h.1.1 h.2), λ h. (f r h.0, (h.0, refl, h.1), h.2))

-- what holds of a list and a state, of the list first
holds_pull : {S T : Type 0} (o : Option S) (U : List T → Type 0) (Q : S → List T → Type 0) → ((us : List T) × U us × Holds o (λ s. Q s us)) ↔ Holds o (λ s. (us : List T) × U us × Q s us)
holds_pull None U Q = never (λ h. h.2) (λ h. h)
holds_pull (Some s) U Q = same

when_live : {A : Type 0} (b : Bool) (x : A) (P : A → Type 0) → (P x → b ≡ true) → P x ↔ Holds (only_if b x) P
when_live true x P f = same
when_live false x P f = never (λ h. let e : false ≡ true = f h in cc) (λ h. h)

holds_of : {R T : Type 0} (o : Option R) (f : R → List T) (Q : List T → Type 0) → ((ts : List T) × Holds o (λ r. ts ≡ f r) × Q ts) ↔ Holds o (λ r. Q (f r))
holds_of None f Q = never (λ h. h.1) (λ h. h)
holds_of (Some r) f Q = (λ h. subst Q h.1 h.2, λ h. (f r, refl, h))

module _ {S L T V : Type 0} (lex : L → ℕ → Option (L × Option T)) (last : L → Option (Option T)) (unread : L → List ℕ → List T → Type 0) (step : S → T → Option S) (value : S → Option V) (rest : S → List T → V → Type 0) (live : S → L → Bool) (x : Lexes lex last unread) (p : Parses step value rest) (complete : (s : S) (l : L) (b : List ℕ) (ts : List T) (v : V) → unread l b ts → rest s ts v → live s l ≡ true) where
  advance_goes : (s : S) (o : Option T) (us : List T) (v : V) → rest s (emitted o us) v ↔ Holds (advance step s o) (λ q. rest q us v)
  advance_goes s None us v = same
  advance_goes s (Some t) us v = p.goes s t us v

  abbrev Rest : Both S L → List ℕ → V → Type 0
  Rest q b v = both_rest unread rest q b v

  -- after a byte of the lexer
  lexed : (s : S) (r : L × Option T) (b : List ℕ) (v : V) → ((us : List T) × unread r.0 b us × rest s (emitted r.1 us) v) ↔ Holds (then (advance step s r.1) (λ s. only_if (live s r.0) (record { parser = s; lexer = r.0 }))) (λ q. Rest q b v)
  lexed s r b v = also inner (also (holds_pull (advance step s r.1) (λ us. unread r.0 b us) (λ q us. rest q us v)) (also (holds_iff (advance step s r.1) (λ q. (us : List T) × unread r.0 b us × rest q us v) (λ q. Holds (only_if (live q r.0) (record { parser = q; lexer = r.0 })) (λ z. Rest z b v)) (λ q. when_live (live q r.0) (record { parser = q; lexer = r.0 }) (λ z. Rest z b v) (λ h. complete q r.0 b h.0 v h.1 h.2))) (then_holds (advance step s r.1) (λ q. only_if (live q r.0) (record { parser = q; lexer = r.0 })) (λ z. Rest z b v))))
    where
      inner : ((us : List T) × unread r.0 b us × rest s (emitted r.1 us) v) ↔ ((us : List T) × unread r.0 b us × Holds (advance step s r.1) (λ q. rest q us v))
      inner = (λ h. (h.0, h.1, (advance_goes s r.1 h.0 v).0 h.2), λ h. (h.0, h.1, (advance_goes s r.1 h.0 v).1 h.2))

  both_goes : (q : Both S L) (c : ℕ) (b : List ℕ) (v : V) → Rest q (c ∷ b) v ↔ Holds (both_step lex step live q c) (λ z. Rest z b v)
  both_goes q c b v = also given (also (holds_given (lex q.lexer c) (λ r us. emitted r.1 us) (λ r us. unread r.0 b us) (λ ts. rest q.parser ts v)) (also (holds_iff (lex q.lexer c) _ _ (λ r. lexed q.parser r b v)) (then_holds (lex q.lexer c) (λ r. then (advance step q.parser r.1) (λ s. only_if (live s r.0) (record { parser = s; lexer = r.0 }))) (λ z. Rest z b v))))
    where
      given : Rest q (c ∷ b) v ↔ ((ts : List T) × Holds (lex q.lexer c) (λ r. (us : List T) × (ts ≡ emitted r.1 us) × unread r.0 b us) × rest q.parser ts v)
      given = (λ h. (h.0, (x.goes q.lexer c b h.0).0 h.1, h.2), λ h. (h.0, (x.goes q.lexer c b h.0).1 h.1, h.2))

  both_ends : (q : Both S L) (v : V) → Rest q [] v ↔ (both_value last step value q ≡ Some v)
  both_ends q v = also given (also (holds_of (last q.lexer) (λ o. emitted o []) (λ ts. rest q.parser ts v)) (also (holds_iff (last q.lexer) _ _ (λ o. also (advance_goes q.parser o [] v) (also (holds_iff (advance step q.parser o) _ _ (λ s. also (p.ends s v) (some_holds (value s) v))) (then_holds (advance step q.parser o) value (λ w. w ≡ v))))) (also (then_holds (last q.lexer) (λ o. then (advance step q.parser o) value) (λ w. w ≡ v)) (back (some_holds (both_value last step value q) v)))))
    where
      given : Rest q [] v ↔ ((ts : List T) × Holds (last q.lexer) (λ o. ts ≡ emitted o []) × rest q.parser ts v)
      given = (λ h. (h.0, (x.ends q.lexer h.0).0 h.1, h.2), λ h. (h.0, (x.ends q.lexer h.0).1 h.1, h.2))

  -- the two together are a machine over bytes; that a state goes on is not said
  pub pruned : Follows (both_step lex step live) (both_value last step value) (both_rest unread rest) (λ q. ⊥)
  pruned = record { ends = λ q v. both_ends q v; goes = λ q c b v. both_goes q c b v; alive = λ q e. absurd e; keeps = λ q c z g e. g }

module _ {S L T V : Type 0} (lex : L → ℕ → Option (L × Option T)) (last : L → Option (Option T)) (unread : L → List ℕ → List T → Type 0) (step : S → T → Option S) (value : S → Option V) (rest : S → List T → V → Type 0) (live : S → L → Bool) (x : Lexes lex last unread) (p : Parses step value rest) (d : Decides live unread rest) where
  -- a step leaves what the lexer has begun alive
  pub both_keeps : (q z : Both S L) (c : ℕ) → both_step lex step live q c ≡ Some z → live z.parser z.lexer ≡ true
  both_keeps q z c e = from_lex (lex q.lexer c) e
    where
      from_live : (s : S) (l : L) (b : Bool) → live s l ≡ b → only_if b (let y : Both S L = record { parser = s; lexer = l } in y) ≡ Some z → live z.parser z.lexer ≡ true
      from_live s l true h g = let k : (let y : Both S L = record { parser = s; lexer = l } in y) ≡ z = cc in subst (λ (y : Both S L). live y.parser y.lexer ≡ true) k h
      from_live s l false h g = cc

      from_parser : (o : Option S) (l : L) → then o (λ s. only_if (live s l) (let y : Both S L = record { parser = s; lexer = l } in y)) ≡ Some z → live z.parser z.lexer ≡ true
      from_parser None l g = cc
      from_parser (Some s) l g = from_live s l (live s l) refl g

      from_lex : (o : Option (L × Option T)) → then o (λ r. then (advance step q.parser r.1) (λ s. only_if (live s r.0) (let y : Both S L = record { parser = s; lexer = r.0 } in y))) ≡ Some z → live z.parser z.lexer ≡ true
      from_lex None g = cc
      from_lex (Some r) g = from_parser (advance step q.parser r.1) r.0 g

  pub both_alive : (q : Both S L) → live q.parser q.lexer ≡ true → Continues (both_rest unread rest q) []
  both_alive q e = let h : (b : List ℕ) × (ts : List T) × (v : V) × (are_bytes b ≡ true) × unread q.lexer b ts × rest q.parser ts v = d.sound q.parser q.lexer e in (h.0, h.2, h.3, (h.1, h.4, h.5))

  -- and a state that is live goes on
  pub both_follows : Follows (both_step lex step live) (both_value last step value) (both_rest unread rest) (λ q. live q.parser q.lexer ≡ true)
  both_follows = let all = pruned lex last unread step value rest live x p d.complete in record {
    ends = all.ends;
    goes = all.goes;
    alive = λ q e. both_alive q e;
    keeps = λ q c z g e. both_keeps q z c e;
  }
