-- A parser whose tokens must pass a test is a parser.
use Rattle.std.proofs.Common.{◌≡◌, ◌&&◌, Bool, true, false, List, [], ◌∷◌, Option, Some, None, refl, ◌↔◌, if◌then◌else◌}
use Rattle.bist_text.specs.Machine.{Holds}
use Rattle.bist_text.specs.inner.Lexed.{Parses}
use Rattle.bist_text.proofs.Pieces.{also, same, never}

module _ {S T V : Type 0} (step : S → T → Option S) (value : S → Option V) (rest : S → List T → V → Type 0) (x : Parses step value rest) where
  -- tokens of which each keeps a limit
  abbrev pub all_within : (T → Bool) → List T → Bool
  all_within p [] = true
  all_within p (t ∷ ts) = p t && all_within p ts

  abbrev pub limited : (T → Bool) → S → T → Option S
  limited p s t = if p t then step s t else None

  abbrev pub rest_within : (T → Bool) → S → List T → V → Type 0
  rest_within p s ts v = (all_within p ts ≡ true) × rest s ts v

  pub within_parses : (p : T → Bool) → Parses (limited p) value (rest_within p)
  within_parses p = record {
    ends = λ s v. also (λ h. h.1, λ h. (refl, h)) (x.ends s v);
    goes = λ s t ts v. go s t ts v (p t);
  }
    where
      go : (s : S) (t : T) (ts : List T) (v : V) (b : Bool) → (((b && all_within p ts) ≡ true) × rest s (t ∷ ts) v) ↔ Holds (if b then step s t else None) (λ q. rest_within p q ts v)
      go s t ts v true = also (λ h. (h.0, (x.goes s t ts v).0 h.1), λ h. (h.0, (x.goes s t ts v).1 h.1)) (pull (step s t))
        where
          pull : (o : Option S) → ((all_within p ts ≡ true) × Holds o (λ q. rest q ts v)) ↔ Holds o (λ q. rest_within p q ts v)
          pull None = never (λ h. h.1) (λ h. h)
          pull (Some q) = same
      go s t ts v false = never (λ h. let e : false ≡ true = h.0 in cc) (λ h. h)
