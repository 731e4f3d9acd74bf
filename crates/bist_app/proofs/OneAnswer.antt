-- Over files that are told, words have one settled answer and the same settled files; and words that say something are not refused.
use Rattle.bist_app.proofs.Common.{Err, None, Ok, Option, Result, Some, ap, inl, inr, subst, sym, ◌∙◌, ◌≡◌, Decides, DecidesCommand, HasShape, row_of, Boxes, Command, Done, AreDone, HasOneAnswerButNames, answer_of, Words, Refusal, Files}
use Rattle.bist_app.proofs.Facts.{SomeLeft}
use Rattle.bist_app.proofs.OneCommand.{command_one}
use Rattle.bist_app.proofs.Table.{facts_of}
use Rattle.bist_app.specs.Answer.{CalledTell, HaveSameFiles, RunHasOneAnswer}

decides_answer : (files : Files) (boxes : Boxes) (words : Words)
    → HasOneAnswerButNames ((command : Command) → HasShape words command → CalledTell command boxes) (λ outcome. (left : Boxes) × Decides (Some files) boxes left words outcome)
decides_answer files boxes words r s tells (x, (None, f)) (y, (None, g)) rs ss = inl (ap answer_of (f.1 ∙ sym g.1))
decides_answer files boxes words r s tells (x, (None, f)) (y, (Some d, g)) rs ss = absurd (f.0 d g.0)
decides_answer files boxes words r s tells (x, (Some c, f)) (y, (None, g)) rs ss = absurd (g.0 c f.0)
decides_answer files boxes words r s tells (x, (Some c, f)) (y, (Some d, g)) rs ss =
    let same : c ≡ d = command_one words c d f.0 g.0 in
    ((facts_of d).concludes (Some files) boxes words).one tt r s (λ done. tells done d (g.0, says_of s d y g.1 (done_right r s done)))
    (subst (λ (command : Command). SomeLeft (λ left. DecidesCommand (Some files) boxes left words command) r) same (x, f.1)) (y, g.1) rs ss
  where
    done_right : (r s : Result Done Refusal) → AreDone r s → s ≡ Err Refusal.Usage → ⊥
    done_right (Ok d) (Ok e) h is = cc
    done_right (Ok d) (Err e) h is = absurd h
    done_right (Err d) s h is = absurd h

    -- words of a command that is done say something
    says_of : (s : Result Done Refusal) (d : Command) (y : Boxes) → DecidesCommand (Some files) boxes y words d s → (s ≡ Err Refusal.Usage → ⊥) → (row_of d).says words
    says_of s d y g other = elim ((facts_of d).said (Some files) boxes y words s g) [ inl h ↦ absurd (other h.0) | inr h ↦ h ]

pub one_answer : (told : Option Files) (boxes : Boxes) (words : Words) → RunHasOneAnswer told boxes words
one_answer None boxes words = tt
one_answer (Some files) boxes words = decides_answer files boxes words

pub same_files : (told : Option Files) (boxes : Boxes) (words : Words) → HaveSameFiles told boxes words
same_files None boxes words = tt
same_files (Some files) boxes words = λ command shape d e left right f g.
    ((facts_of command).concludes (Some files) boxes words).files tt d e (left, f) (right, g)

-- words that say something are never refused
pub never_usage : (files : Option Files) (boxes left : Boxes) (words : Words) (command : Command) → (row_of command).says words
    → DecidesCommand files boxes left words command (Err Refusal.Usage) → ⊥
never_usage files boxes left words command says h = ((facts_of command).concludes files boxes words).never says (left, h)
