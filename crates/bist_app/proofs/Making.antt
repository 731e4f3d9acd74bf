-- What is made is written to files that the words name.
use Rattle.bist_app.proofs.Common.{◌≡◌, ◌++◌, ◌∙◌, ℕ, List, [], ap, sym, subst, arith, length, codes, append_assoc, Done, Words, NamesWords, HasForm, decimal, Result, Ok, Err, IfOk, Effects, done_of, Item, MarchElement, Description}
use Rattle.memory_desc.specs.Printed.{printed}
use Rattle.made_inputs.specs.MadeMarch.{made_march, line_of}
use Rattle.made_inputs.specs.MadeList.{made_text, made_items}
use Rattle.made_inputs.specs.MadeMemory.{IsMadeMemory}
use Rattle.bist_app.specs.Make.{make_form, IsMade, IsMadeOf, made_outputs, sizes_text, made_line}

are_named : (words : Words) (march memory listed text bytes : List ℕ) → length words ≡ 7 → NamesWords words (made_outputs march memory listed text bytes)
are_named words march memory listed text bytes count =
    (omega (arith, count), (omega (arith, count), (omega (arith, count), (omega (arith, count), (omega (arith, count), tt)))))

pub names_words : (words : Words) (number : ℕ) (done : Done) → HasForm make_form words → IsMade number done → NamesWords words done.outputs
names_words words number done form (d, memory, made) =
    subst (NamesWords words) (sym made.outputs) (are_named words (line_of (made_march number)) (printed d) made_text made.text made.bytes form.count)

-- numbers behind their texts, one after another
pub sizes_joined : (before first second third : List ℕ) (elements operations commands : ℕ) → first ≡ before ++ codes "made elements " ++ decimal elements
    → second ≡ first ++ codes " operations " ++ decimal operations → third ≡ second ++ codes " commands " ++ decimal commands
    → third ≡ before ++ sizes_text elements operations commands
sizes_joined before first second third elements operations commands e f g =
    g ∙ ap (λ (l : List ℕ). l ++ codes " commands " ++ decimal commands) (f ∙ ap (λ (l : List ℕ). l ++ codes " operations " ++ decimal operations) e)
    ∙ in_line before (codes "made elements ") (decimal elements) (codes " operations ") (decimal operations) (codes " commands ") (decimal commands)
  where
    in_line : (l a x b y c z : List ℕ) → ((l ++ a ++ x) ++ b ++ y) ++ c ++ z ≡ l ++ (a ++ x ++ b ++ y ++ c ++ z)
    in_line l a x b y c z = simp append_assoc

-- the sizes, and how many are covered behind them
pub line_joined : (before first second third : List ℕ) (elements operations commands covered count : ℕ) → first ≡ before ++ sizes_text elements operations commands
    → second ≡ first ++ codes " covered " ++ decimal covered → third ≡ second ++ (codes " of " ++ decimal count ++ codes "\n") → before ≡ []
    → third ≡ made_line elements operations commands covered count
line_joined before first second third elements operations commands covered count e f g none =
    g ∙ ap (λ (l : List ℕ). l ++ (codes " of " ++ decimal count ++ codes "\n")) (f ∙ ap (λ (l : List ℕ). l ++ codes " covered " ++ decimal covered) (e ∙ ap (λ (l : List ℕ). l ++ sizes_text elements operations commands) none))
    ∙ in_line (sizes_text elements operations commands) (codes " covered ") (decimal covered) (codes " of ") (decimal count) (codes "\n")
  where
    in_line : (l a x b y c : List ℕ) → (l ++ a ++ x) ++ (b ++ y ++ c) ≡ l ++ (a ++ x ++ b ++ y ++ c)
    in_line l a x b y c = simp append_assoc

-- what is made of the inputs of a number
pub made_from : {E : Type 0} (number : ℕ) (d : Description) (march : List MarchElement) (items : List Item) (listed : List ℕ) (result : Result Effects E)
    → march ≡ made_march number → items ≡ made_items → listed ≡ made_text → IsMadeMemory number d
    → IfOk result (λ plan. IsMadeOf march d items listed (done_of plan)) → IfOk result (λ plan. IsMade number (done_of plan))
made_from number d march items listed (Err e) is_march is_items is_listed memory h = tt
made_from number d march items listed (Ok plan) is_march is_items is_listed memory h = (
  d,
  memory,
  subst (λ (m : List MarchElement). IsMadeOf m d made_items made_text (done_of plan)) is_march
      (subst (λ (xs : List Item). IsMadeOf march d xs made_text (done_of plan)) is_items
      (subst (λ (text : List ℕ). IsMadeOf march d items text (done_of plan)) is_listed h)),
)
