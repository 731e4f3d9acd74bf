-- Each device once, among links that were judged.
use Rattle.std.proofs.Common.{◌≡◌, ◌+◌, ◌<◌, ◌||◌, ◌&&◌, not, inl, inr, ℕ, Bool, true, false, cond, List, [], ◌∷◌, ◌++◌, length, map, take, get_or, refl, ap, sym, subst, ◌∙◌}
use Rattle.std.specs.Prelude.{if◌then◌else◌, count_by}
use Rattle.std.specs.List.{AllByRecursion}
use Rattle.std.proofs.Math.Nat.{add-zero}
use Rattle.std.proofs.lemmas.List.{map-append, append-nil, append_assoc, length-append, take_more}
use Rattle.std.proofs.lemmas.List.Sums.{sum_by-append, sum_by-cons}
use Rattle.linked_faults.specs.declared.link.Link.{Link}
use Rattle.linked_faults.specs.Devices.{exchanged, StandsIn, AreOnce, AreDevices}
use Rattle.linked_faults.specs.Same.{same_link}
use Rattle.linked_faults.proofs.Same.{link_from, link_same}
use Rattle.linked_report.specs.declared.judged.JudgedLink.{JudgedLink}
use Rattle.linked_report.specs.Links.{is_link_covered}
use Rattle.linked_report.specs.inner.Counted.{stands_in, next_device, devices_behind, devices_of}

abbrev link_of : JudgedLink → Link
link_of j = j.link

-- ---- whether a link stands among these

this_or : (js : List JudgedLink) (j : JudgedLink) (link : Link) (b : Bool) → same_link j.link link ≡ b
    → (stands_in js link ≡ true → StandsIn (map link_of js) link) → (b || stands_in js link) ≡ true → StandsIn (map link_of (j ∷ js)) link
this_or js j link true is rest h = inl (link_from j.link link is)
this_or js j link false is rest h = inr (rest h)

stands : (js : List JudgedLink) (link : Link) → stands_in js link ≡ true → StandsIn (map link_of js) link
stands [] link h = cc
stands (j ∷ js) link h = this_or js j link (same_link j.link link) refl (stands js link) h

not_first : (b c : Bool) → (b || c) ≡ false → (b ≡ false) × (c ≡ false)
not_first true c f = cc
not_first false c f = (refl, f)

absent : (js : List JudgedLink) (link : Link) → stands_in js link ≡ false → StandsIn (map link_of js) link → ⊥
absent [] link h there = there
absent (j ∷ js) link h (inl same) =
    let own : same_link j.link link ≡ true = subst (λ (k : Link). same_link j.link k ≡ true) same (link_same j.link) in
    let other : same_link j.link link ≡ false = (not_first (same_link j.link link) (stands_in js link) h).0 in
    (let clash : true ≡ false = sym own ∙ other in cc)
absent (j ∷ js) link h (inr there) = absent js link (not_first (same_link j.link link) (stands_in js link) h).1 there

-- ---- the devices

once_more : (before js : List JudgedLink) (j : JudgedLink) (rest : List JudgedLink) (b : Bool) → stands_in before (exchanged j.link) ≡ b
    → AreOnce (map link_of before ++ j.link ∷ []) (map link_of js) (map link_of rest)
    → AreOnce (map link_of before) (map link_of (j ∷ js)) (map link_of ((if b then [] else j ∷ []) ++ rest))
once_more before js j rest true is h = inr (stands before (exchanged j.link) is, h)
once_more before js j rest false is h = inl (absent before (exchanged j.link) is, map link_of rest, h, refl)

pub are_once : (before js : List JudgedLink) → AreOnce (map link_of before) (map link_of js) (map link_of (devices_behind before js))
are_once before [] = refl
are_once before (j ∷ js) =
    let rest : List JudgedLink = devices_behind (before ++ j ∷ []) js in
    once_more before js j rest (stands_in before (exchanged j.link)) refl
    (subst (λ l. AreOnce l (map link_of js) (map link_of rest)) (map-append link_of before (j ∷ [])) (are_once (before ++ j ∷ []) js))

pub are_devices : (js : List JudgedLink) → AreDevices (map link_of js) (map link_of (devices_of js))
unfolding AreDevices
are_devices js = are_once [] js

this_too : (P : JudgedLink → Type 0) (j : JudgedLink) (rest : List JudgedLink) (b : Bool) → P j → AllByRecursion P rest
    → AllByRecursion P ((if b then [] else j ∷ []) ++ rest)
this_too P j rest true own h = h
this_too P j rest false own h = (own, h)

pub all_devices : (P : JudgedLink → Type 0) (before js : List JudgedLink) → AllByRecursion P js → AllByRecursion P (devices_behind before js)
all_devices P before [] h = tt
all_devices P before (j ∷ js) h =
    this_too P j (devices_behind (before ++ j ∷ []) js) (stands_in before (exchanged j.link)) h.0 (all_devices P (before ++ j ∷ []) js h.1)

-- ---- one more at the end

behind_more : (before js : List JudgedLink) (j : JudgedLink)
    → devices_behind before (js ++ j ∷ []) ≡ devices_behind before js ++ next_device (before ++ js) j
behind_more before [] j = append-nil (next_device before j) ∙ ap (λ l. next_device l j) (sym (append-nil before))
behind_more before (k ∷ js) j =
    ap (λ l. next_device before k ++ l) (behind_more (before ++ k ∷ []) js j
    ∙ ap (λ l. devices_behind (before ++ k ∷ []) js ++ next_device l j) (append_assoc before (k ∷ []) js))
    ∙ sym (append_assoc (next_device before k) (devices_behind (before ++ k ∷ []) js) (next_device (before ++ k ∷ js) j))

pub devices_more : (js : List JudgedLink) (j : JudgedLink) → devices_of (js ++ j ∷ []) ≡ devices_of js ++ next_device js j
devices_more js j = behind_more [] js j

-- the counts behind one more
one_more : (ds : List JudgedLink) (j : JudgedLink) (b new : Bool) → new ≡ not b
    → (length (ds ++ (if b then [] else j ∷ [])) ≡ length ds + cond new 1 0)
    × (count_by is_link_covered (ds ++ (if b then [] else j ∷ [])) ≡ count_by is_link_covered ds + cond (new && is_link_covered j) 1 0)
one_more ds j true true is = cc
one_more ds j true false is =
    (ap length (append-nil ds) ∙ sym (add-zero (length ds)), ap (count_by is_link_covered) (append-nil ds) ∙ sym (add-zero (count_by is_link_covered ds)))
one_more ds j false false is = cc
one_more ds j false true is =
    let each : JudgedLink → ℕ = λ k. cond (is_link_covered k) 1 0 in (
      length-append ds (j ∷ []),
      sum_by-append each ds (j ∷ []) ∙ ap (λ n. count_by is_link_covered ds + n) (sum_by-cons each j [] ∙ add-zero (cond (is_link_covered j) 1 0)),
    )

pub counts_more : (js : List JudgedLink) (n : ℕ) (j d : JudgedLink) (new : Bool) → n < length js → j ≡ get_or js n d
    → new ≡ not (stands_in (take n js) (exchanged j.link))
    → (length (devices_of (take (n + 1) js)) ≡ length (devices_of (take n js)) + cond new 1 0)
    × (count_by is_link_covered (devices_of (take (n + 1) js)) ≡ count_by is_link_covered (devices_of (take n js)) + cond (new && is_link_covered j) 1 0)
counts_more js n j d new inside is first =
    let more : take (n + 1) js ≡ take n js ++ j ∷ [] = take_more js n d inside ∙ ap (λ k. take n js ++ k ∷ []) (sym is) in
    let counts = one_more (devices_of (take n js)) j (stands_in (take n js) (exchanged j.link)) new first in
    let same : devices_of (take (n + 1) js) ≡ devices_of (take n js) ++ next_device (take n js) j = ap devices_of more ∙ devices_more (take n js) j in
    (ap length same ∙ counts.0, ap (count_by is_link_covered) same ∙ counts.1)
