-- Trusted. What a command is: a row of a table. The form of its words is a command's name, how many words there are with it, and which of them name files.
use Rattle.std.specs.Prelude.{◌≡◌, ◌≢◌, ◌-◌, ℕ, List, [], ◌∷◌, All, Option, Result, length, take, drop}
use Rattle.bist_host.specs.Files.{Files}
use Rattle.bist_endings.specs.declared.ending.Refusal.{Refusal}
use Rattle.bist_endings.specs.Ending.{Done, Written}
use Rattle.bist_endings.specs.Words.{Words, word, ArePlain}
use Rattle.bist_app.specs.Shared.{Boxes}

-- the words that name files are those from `first` on, up to `last` without it
pub record Form : Type 0 where
  pub name : List ℕ
  pub count : ℕ
  pub first : ℕ
  pub last : ℕ

-- no two words are the same
abbrev pub AreDistinct : Words → Type 0
AreDistinct [] = Unit {0}
AreDistinct (w ∷ rest) = All (λ v. v.now ≢ w.now) rest × AreDistinct rest

-- the words have the form; no two files have one name
pub record HasForm (form : Form) (words : Words) : Type 0 where
  pub count : length words ≡ form.count
  pub name : word words 0 ≡ form.name
  pub plain : ArePlain words
  pub files : AreDistinct (take (form.last - form.first) (drop form.first words))

-- What a command is: the form of its words, and what those of them say that are neither the name nor files; its checks over the files and
-- the boxes, and what it leaves of files, lines and boxes; which boxes it calls, that these tell; and those of its files whose bytes the
-- inputs determine.
pub record Row : Type 1 where
  pub form : Form
  pub says : Words → Type 0
  pub decides : Option Files → Boxes → Boxes → Words → Result Done Refusal → Type 0
  pub called_tell : Boxes → Type 0
  pub settled : List Written → List Written

-- a command that calls no box; unless it says otherwise, all its words name files, and the inputs determine the bytes of all that it writes
abbrev pub without_boxes : Form → (Option Files → Words → Result Done Refusal → Type 0) → Row
without_boxes form decides = record {
  form = form;
  says = λ words. Unit {0};
  decides = λ files boxes left words outcome. decides files words outcome × (left ≡ boxes);
  called_tell = λ boxes. Unit {0};
  settled = λ outputs. outputs;
}
