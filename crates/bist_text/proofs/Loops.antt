-- the steps of a loop that goes over a text, byte by byte
use Rattle.std.proofs.Common.{◌≡◌, ℕ, ◌+◌, ◌<◌, suc, List, [], ◌∷◌, ◌∙◌, length, drop, get_or, Option, Some, None, refl, ap, add-one, drop-cons}
use Rattle.bist_text.specs.Machine.{Outcome, unexpected, ended, after, scan}

pub scan_on : {S V : Type 0} (step : S → ℕ → Option S) (value : S → Option V) (b : List ℕ) (i : ℕ) (s t : S) (o : Outcome V) → i < length b → step s (get_or b i 0) ≡ Some t → o ≡ scan step value (drop i b) s i → o ≡ scan step value (drop (i + 1) b) t (i + 1)
scan_on {S} {V} step value b i s t o l e h =
    let d : drop i b ≡ get_or b i 0 ∷ drop (suc i) b = drop-cons b i 0 l in
    h ∙ ap (λ (x : List ℕ). scan step value x s i) d ∙ ap (λ (q : Option S). after q i (λ t. scan step value (drop (suc i) b) t (i + 1))) e ∙ rw add-one refl

pub scan_stop : {S V : Type 0} (step : S → ℕ → Option S) (value : S → Option V) (b : List ℕ) (i : ℕ) (s : S) (o : Outcome V) → i < length b → step s (get_or b i 0) ≡ None → o ≡ scan step value (drop i b) s i → o ≡ unexpected i
scan_stop {S} {V} step value b i s o l e h =
    let d : drop i b ≡ get_or b i 0 ∷ drop (suc i) b = drop-cons b i 0 l in
    h ∙ ap (λ (x : List ℕ). scan step value x s i) d ∙ ap (λ (q : Option S). after q i (λ t. scan step value (drop (suc i) b) t (i + 1))) e

pub scan_end : {S V : Type 0} (step : S → ℕ → Option S) (value : S → Option V) (b : List ℕ) (i : ℕ) (s : S) (o : Outcome V) → drop i b ≡ [] → o ≡ scan step value (drop i b) s i → o ≡ ended (value s)
scan_end step value b i s o e h = h ∙ ap (λ (x : List ℕ). scan step value x s i) e
