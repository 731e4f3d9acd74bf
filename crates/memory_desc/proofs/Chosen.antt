-- The backgrounds that are chosen, and that they serve a memory.
use Rattle.memory_desc.proofs.Common.{All, Contains, Content, GivesBackgrounds, IsBackgrounds, List, None, Ok, Option, Some, Statement, [], arith, backgrounds, eq-eqb, false, find, first_refusal, get_or, le-ltb, leb-false, length, list_any, nat_le, or_left, or_parts, or_right, refl, slice_index, subst, suc, sym, too_many, true, without_solid, zero, ℕ, ◌<◌, ◌==◌, ◌^◌, ◌∷◌, ◌≡◌, ◌≤◌}
use Rattle.memory_desc.specs.Subjects.{said}
use Rattle.memory_desc.specs.Described.{is_too_wide}
use Rattle.memory_desc.specs.declared.content.Subject.TheVariants.{Backgrounds}
use Rattle.memory_desc.proofs.Parts.{log_set_serves}
use Rattle.memory_desc.proofs.Within.{Passes, passes}

-- ---- whether one is 0

zero_found : (set : List ℕ) (k : ℕ) → k < length set → slice_index set k ≡ 0 → list_any (λ w. w == 0) set ≡ true
zero_found [] k l e = absurd (omega arith)
zero_found (w ∷ set) zero l e = or_left (w == 0) (list_any (λ v. v == 0) set) (eq-eqb w 0 e)
zero_found (w ∷ set) (suc k) l e = or_right (w == 0) (list_any (λ v. v == 0) set) (zero_found set k (omega arith) e)

-- ---- words that are listed

-- at most 8 words of which one is 0 are not refused
pub served : (set : List ℕ) → length set ≤ 8 → Contains set 0 → first_refusal (too_many set ∷ without_solid set ∷ []) ≡ None
served set few c = rw (le-ltb 8 (length set) few, zero_found set c.0 c.1 c.2) refl

-- ---- what is chosen serves a memory

words_fit : (size : ℕ) (ws : List ℕ) → list_any (nat_le (2 ^ size)) ws ≡ false → (k d : ℕ) → k < length ws → get_or ws k d < 2 ^ size
words_fit size [] h k d l = absurd (omega arith)
words_fit size (w ∷ ws) h zero d l = leb-false (2 ^ size) w (or_parts (nat_le (2 ^ size) w) (list_any (nat_le (2 ^ size)) ws) h).0
words_fit size (w ∷ ws) h (suc k) d l = words_fit size ws (or_parts (nat_le (2 ^ size) w) (list_any (nat_le (2 ^ size)) ws) h).1 k d (omega arith)

pub chosen_serves : (ss : List Statement) (width size : ℕ) (set : List ℕ) → size ≤ 64 → find (λ s. is_too_wide width size s.content) ss ≡ None → GivesBackgrounds (said Backgrounds ss) size (Ok set) → IsBackgrounds size set
chosen_serves ss width size set h n r = go (said Backgrounds ss) (passes Backgrounds (is_too_wide width size) ss n) r
  where
    go : (o : Option Content) → Passes Backgrounds (is_too_wide width size) o → GivesBackgrounds o size (Ok set) → IsBackgrounds size set
    go (Some (backgrounds ws)) f r = record {
      some = (let l = r.2.1 in omega arith);
      few = r.1;
      fit = subst (λ (s : List ℕ). All (λ b. b < 2 ^ size) s) (sym r.0) (words_fit size ws (f (backgrounds ws) refl).1);
      solid = r.2;
    }
    go o f r = log_set_serves size set h r.0
