-- Each of the senses with acts has two writes or reads.
use Rattle.std.proofs.Common.{◌≡◌, ◌≢◌, ℕ, ◌<◌, Bool, true, false, ◌&&◌, Option, Some, None, IsSome, List, length, get_or, refl, ap, ◌∙◌, subst}
use Rattle.std.proofs.lemmas.Bool.{and_parts}
use Rattle.std.proofs.lemmas.List.Sums.{AllPass-from_list_all}
use Rattle.fault_core.specs.declared.primitive.Act.{Act}
use Rattle.fault_core.specs.declared.primitive.Act.TheVariants.{Write, Read, Pause}
use Rattle.dynamic_core.specs.Primitive.{TwoActs, DynamicSense, AreAccesses}
use Rattle.dynamic_core.specs.Table.{acting_senses}
use Rattle.dynamic_core.specs.inner.Testing.{is_access}

abbrev has_accesses : Option TwoActs → Bool
has_accesses None = false
has_accesses (Some acts) = is_access acts.first && is_access acts.second

-- a sense of the list
passes : (xs : List DynamicSense) (i : ℕ) (s : DynamicSense) → xs ≡ acting_senses → i < length xs → s ≡ get_or xs i s → has_accesses s.acts ≡ true
passes xs i s same h is =
    ap (λ (x : DynamicSense). has_accesses x.acts) (is ∙ ap (λ l. get_or l i s) same)
    ∙ AllPass-from_list_all (λ (x : DynamicSense). has_accesses x.acts) acting_senses refl i s (subst (λ (l : List DynamicSense). i < length l) same h)

no_pause : (act : Act) → is_access act ≡ true → act ≢ Pause
no_pause (Write bit) h e = cc
no_pause Read h e = cc
no_pause Pause h e = cc

are_accesses : (acts : Option TwoActs) → has_accesses acts ≡ true → (two : TwoActs) → acts ≡ Some two → AreAccesses two
are_accesses None h two e = cc
are_accesses (Some acts) h two e =
    let both = and_parts _ _ h in
    subst AreAccesses (same acts two e) (record { first = no_pause acts.first both.0; second = no_pause acts.second both.1 })
  where
    same : (acts two : TwoActs) → Some acts ≡ Some two → acts ≡ two
    same acts two e = cc

are_some : (acts : Option TwoActs) → has_accesses acts ≡ true → IsSome acts
are_some None h = cc
are_some (Some acts) h = refl

pub acting_some : (xs : List DynamicSense) (i : ℕ) (s : DynamicSense) → xs ≡ acting_senses → i < length xs → s ≡ get_or xs i s → IsSome s.acts
acting_some xs i s same h is = are_some s.acts (passes xs i s same h is)

pub acting_accesses : (xs : List DynamicSense) (i : ℕ) (s : DynamicSense) → xs ≡ acting_senses → i < length xs → s ≡ get_or xs i s
    → (acts : TwoActs) → s.acts ≡ Some acts → AreAccesses acts
acting_accesses xs i s same h is = are_accesses s.acts (passes xs i s same h is)
