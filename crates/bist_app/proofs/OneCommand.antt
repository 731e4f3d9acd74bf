-- Words have the form of one command alone: the names tell the commands apart.
use Rattle.bist_app.proofs.Common.{Option, Some, ap, refl, subst, ◌∙◌, ◌≡◌, IsFormed, command_named, row_of, Command, Words, word}

-- each command is the one of its name
named : (c : Command) → command_named (row_of c).form.name ≡ Some c
named Command.Sim = refl
named other = refl

-- the command whose form words have is the one of their first
pub by_name : (words : Words) (c : Command) → IsFormed words c → command_named (word words 0) ≡ Some c
by_name words c h = ap command_named h.name ∙ named c

same_command : (o : Option Command) (c d : Command) → o ≡ Some c → o ≡ Some d → c ≡ d
same_command o c d h i = cc

pub only_named : (words : Words) (c d : Command) → IsFormed words c → command_named (word words 0) ≡ Some d → c ≡ d
only_named words c d h is = same_command (command_named (word words 0)) c d (by_name words c h) is

pub command_one : (words : Words) (c d : Command) → IsFormed words c → IsFormed words d → c ≡ d
command_one words c d h i = only_named words c d h (by_name words d i)

abbrev pub IsNotMake : Command → Type 0
IsNotMake Command.Make = ⊥
IsNotMake other = Unit {0}

-- words of the form of another command don't begin with `make`
pub no_make : {A : Type 0} (words : Words) (named : Command) → IsNotMake named → {c : Command} → c ≡ named → IsFormed words c → word words 0 ≡ (row_of Command.Make).form.name → A
no_make words named other is formed e = absurd (subst IsNotMake (only_named words named Command.Make (subst (IsFormed words) is formed) (ap command_named e)) other)
