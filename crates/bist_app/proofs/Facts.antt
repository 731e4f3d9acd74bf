-- What is known of a command's row, and how it is put together beside the boxes.
use Rattle.bist_app.proofs.Common.{Err, List, Ok, Option, Result, inl, inr, ◌≡◌, ◌⊎◌, Form, Row, without_boxes, Before, Boxes, Concludes, IsTold, Settles, narrows, then_concludes, Done, Written, SaysOwn, Then, Words, Refusal, Files}

-- an outcome that is allowed with some boxes left
abbrev pub SomeLeft : (Boxes → Result Done Refusal → Type 0) → Result Done Refusal → Type 0
SomeLeft checks outcome = (left : Boxes) × checks left outcome

-- of each row of the table: its checks conclude, and words that say nothing are refused
pub record Facts (row : Row) : Type 0 where
  pub concludes : (files : Option Files) (boxes : Boxes) (words : Words)
      → Concludes (row.says words) (IsTold files) (row.called_tell boxes) row.settled (SomeLeft (λ left. row.decides files boxes left words))
  pub said : (files : Option Files) (boxes left : Boxes) (words : Words) (r : Result Done Refusal) → row.decides files boxes left words r
      → ((r ≡ Err Refusal.Usage) × (row.says words → ⊥)) ⊎ row.says words

-- what is left of the boxes beside
pub with_left : {Says Told Tells : Type 0} {settled : List Written → List Written} (checks : Result Done Refusal → Type 0) (leaves : Boxes → Result Done Refusal → Type 0)
    → Concludes Says Told Tells settled checks → Concludes Says Told Tells settled (SomeLeft (λ left outcome. checks outcome × leaves left outcome))
with_left checks leaves c = narrows checks (SomeLeft (λ left outcome. checks outcome × leaves left outcome)) (λ r h. h.1.0) c

-- of a command that only reads files
pub files_facts : (form : Form) (decides : Option Files → Words → Result Done Refusal → Type 0) (settled : List Written → List Written)
    → ((files : Option Files) (words : Words) → Concludes (Unit {0}) (IsTold files) (Unit {0}) settled (decides files words))
    → Facts (record (without_boxes form decides) { settled = settled })
files_facts form decides settled concludes = record {
  concludes = λ files boxes words. with_left (decides files words) (λ left _. left ≡ boxes) (concludes files words);
  said = λ files boxes left words r h. inr tt;
}

-- ---- checks before any box is called

apart : {A : Type 0} (boxes left : Boxes) (first : Result A Refusal → Type 0) (rest : A → Boxes → Result Done Refusal → Type 0) (r : Result Done Refusal)
    → Before boxes left first (λ a. rest a left) r → Then first (λ a. SomeLeft (rest a)) r
apart boxes left first rest r (Ok a, is, h) = (Ok a, is, (left, h))
apart boxes left first rest r (Err e, is, h) = (Err e, is, h.0)

pub before_conclude : {A Says Told Tells : Type 0} {settled : List Written → List Written} (boxes : Boxes) (first : Result A Refusal → Type 0)
    (rest : A → Boxes → Result Done Refusal → Type 0) → Settles A Says Told first
    → ((a : A) → first (Ok a) → Concludes Says Told Tells settled (SomeLeft (rest a)))
    → Concludes Says Told Tells settled (SomeLeft (λ left. Before boxes left first (λ a. rest a left)))
before_conclude boxes first rest check each =
    narrows (Then first (λ a. SomeLeft (rest a))) (SomeLeft (λ left. Before boxes left first (λ a. rest a left))) (λ r h. apart boxes h.0 first rest r h.1)
    (then_concludes first (λ a. SomeLeft (rest a)) check each)

pub before_said : {Own : Type 0} (boxes left : Boxes) (says : Own → Type 0) (rest : Own → Result Done Refusal → Type 0) (r : Result Done Refusal)
    → Before boxes left (SaysOwn says) rest r → ((r ≡ Err Refusal.Usage) × (((own : Own) × says own) → ⊥)) ⊎ ((own : Own) × says own)
before_said boxes left says rest r (Ok own, f, x) = inr (own, f)
before_said boxes left says rest r (Err Refusal.Usage, f, x) = inl (x.0, λ said. f said.0 said.1)
before_said boxes left says rest r (Err other, f, x) = absurd f
