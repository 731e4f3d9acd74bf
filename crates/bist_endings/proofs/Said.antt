-- What the say of a line leaves, whatever it answers.
use Rattle.std.proofs.Common.{◌≡◌, ℕ, List, [], Option, Some, None, refl, sym, append-nil, subst}
use Rattle.bist_host.specs.Files.{HostState, Says, SaysPrefix}
use Rattle.bist_endings.specs.declared.concluding.SayEnd.{SayEnd}
use Rattle.bist_endings.specs.Conclude.{SaysLine}

-- nothing said is the empty prefix
nothing_new : (old new : Option (List ℕ)) → new ≡ old → Says old new []
nothing_new None new h = h
nothing_new (Some old) new h = subst (λ (l : List ℕ). new ≡ Some l) (sym (append-nil old)) h

pub nothing_said : (old new : Option (List ℕ)) (text : List ℕ) → new ≡ old → SaysPrefix old new text
nothing_said old new text h = ([], text, refl, nothing_new old new h)

line_said : (old new : HostState) (line : List ℕ) (end : SayEnd) → SaysLine old new line end → SaysPrefix old.said new.said line
line_said old new line SayEnd.Said h = (line, [], sym (append-nil line), h)
line_said old new line SayEnd.Failed h = h.1
line_said old new line SayEnd.NoMemory h = nothing_said old.said new.said line h

pub text_said : (old new : HostState) (line text : List ℕ) (end : SayEnd) → line ≡ text → SaysLine old new line end → SaysPrefix old.said new.said text
text_said old new line text end is h = subst (λ (l : List ℕ). SaysPrefix old.said new.said l) is (line_said old new line end h)
