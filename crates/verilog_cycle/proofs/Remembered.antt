-- What is known of the nets of an environment that settles.
use Rattle.std.proofs.Common.{◌≡◌, ℕ, Bool, true, false, ◌||◌, List, [], ◌∷◌, ◌++◌, length, map, get_or, Some, refl, sym, ap, ◌∙◌, subst, append_assoc, length-append}
use Rattle.std.specs.Str.{bytes_eq}
use Rattle.bist_text.specs.ReservedWords.{is_among}
use Rattle.verilog_tree.specs.Plain.{Expression, ModuleItem}
use Rattle.verilog_tree.specs.Names.{number}
use Rattle.verilog_tree.specs.Wires.{Uses}
use Rattle.verilog_tree.proofs.Clean.{driver}
use Rattle.verilog_code.specs.declared.code.Code.{Code}
use Rattle.verilog_code.specs.declared.step.Step.{Step}
use Rattle.verilog_code.specs.Reading.{Known}
use Rattle.verilog_cycle.specs.Nets.{held}
use Rattle.verilog_cycle.specs.Settled.{HasCode, AreSteps}
use Rattle.verilog_cycle.specs.Design.{Behind}
use Rattle.verilog_cycle.proofs.Places.{itself, number_at}

or_right : (a b : Bool) → b ≡ true → (a || b) ≡ true
or_right true b h = refl
or_right false b h = h

-- each net stands as its code computes it
pub known_nets : {A : Type 0} (z : A) (worth : List A → Code → A) (w : List ℕ → ℕ) (is : List ModuleItem) (ps : List (List ℕ)) (env : List ℕ → A) →
    ((n : List ℕ) (x : Expression) (c : Code) → driver is n ≡ Some x → HasCode w ps x c → (vs : List A) → ((r : List ℕ) → Uses r x → held z ps vs r ≡ env r) → worth vs c ≡ env n) →
    (vs : List A) → ((m : List ℕ) → held z ps vs m ≡ env m) → (bits : ℕ) (b ns : List (List ℕ)) (ss : List Step) → ((n : List ℕ) → is_among n ns ≡ true → (x : Expression) × (driver is n ≡ Some x)) → ps ≡ b ++ ns → Behind is b ns → AreSteps w is ps ns (map (λ s. s.code.value) ss) →
    Known z worth (length b) bits ss vs
known_nets z worth w is ps env gives vs all bits b [] [] dr e h s = tt
known_nets z worth w is ps env gives vs all bits b [] (c ∷ cs) dr e h s = absurd s
known_nets z worth w is ps env gives vs all bits b (n ∷ ns) [] dr e h s = absurd s
known_nets z worth w is ps env gives vs all bits b (n ∷ ns) (c ∷ cs) dr e h s =
    let y = dr n (ap (λ (t : Bool). t || is_among n ns) (itself n)) in
    let at : number ps n ≡ length b = ap (λ (p : List (List ℕ)). number p n) e ∙ number_at b ns n h.0 in (
      λ _. ap (λ (j : ℕ). get_or vs j z) (sym at) ∙ all n ∙ sym (gives n y.0 c.code.value y.1 (s.0.coded y.0 y.1) vs (λ r u. all r)),
      subst (λ (k : ℕ). Known z worth k bits cs vs) (length-append b (n ∷ []))
          (known_nets z worth w is ps env gives vs all bits (b ++ n ∷ []) ns cs (λ r g. dr r (or_right (bytes_eq r n) (is_among r ns) g)) (e ∙ sym (append_assoc b (n ∷ []) ns)) h.2 s.1),
    )
