-- The printed form of a memory is read back as this memory: its lines are statements that describe exactly it.
use Rattle.memory_desc.proofs.Common.{All, latency_in, polarity_in, pause_in, None, Option, AreBackgrounds, AreStatements, Bool, Content, Description, IsFull, IsInvertible, IsMemory, IsScrambling, IsSome, List, Ok, Reads, Scrambling, Some, Statement, Subject, [], about, and_parts, ap, ap₂, arith, backgrounds, bit_at, bits, constant_of, contents, described, eqb-true, false, find, from_bool, if◌then◌else◌, index_bits, inr, is_identity, is_plain, is_power_of_two, is_row, is_same, latency, latency_said, length, line_text, lines_text, lit<, list_any, lt-leb, matrix_said, name, nat_le, nat_lt, number-bits, pause, pause_said, polarity, polarity_said, printed, refl, row_terms, rows_printed, rows_said, said_there, scramble, stands, subject, subst, suc, sym, take, take_all, take_more, terms_in, terms_said, true, version, version_number, with_ports, with_rows, words, words_said, zero, ℕ, ◌&&◌, ◌++◌, ◌+◌, ◌-◌, ◌<◌, ◌==◌, ◌^◌, ◌||◌, ◌∙◌, ◌∷◌, ◌≡◌, ◌≤◌}
use Rattle.scrambler.specs.Linear.{number}
use Rattle.scrambler.specs.Scrambling.{row}
use Rattle.scrambler.proofs.Identity.{identity_is_identity, identity_by_rows}
use Rattle.scrambler.proofs.LinearLemmas.{number_same}
use Rattle.memory_desc.specs.Described.{is_out_of_range, is_repeat, is_scrambled, is_too_wide}
use Rattle.memory_desc.specs.Subjects.{said}
use Rattle.memory_desc.specs.declared.content.Subject.TheVariants as S
use Rattle.memory_desc.specs.declared.content.Version.{Version}
use Rattle.memory_desc.specs.declared.content.Version.TheVariants.{One, Two}
use Rattle.memory_desc.proofs.Parts.{width_small}
use Rattle.memory_desc.proofs.BackLines.{Each, IsKept, IsLine, first_line, lines_say, numbered}
use Rattle.memory_desc.proofs.BackFound.{any_found, content_found, each_row, no_repeat, none_found, past_rows, placed_rows, row_content, row_found, some_rows}
use Rattle.memory_desc.proofs.BackRows.{row_some, terms_bits, terms_constant, terms_within}
use Rattle.memory_desc.proofs.BackTexts.{headed, name_line_is, number_line_is, row_line_is, words_line}

abbrev statements : Description → Bool → ℕ → List Statement
statements d plain k = numbered 1 (contents d plain k)

-- what stands behind the version
abbrev behind_version : Description → Bool → ℕ → List Content
behind_version d plain k = name d.name ∷ words d.words ∷ bits d.bits ∷ with_ports d plain (with_rows d.scramble k (backgrounds d.backgrounds ∷ []))

abbrev version_printed : Bool → Version
version_printed plain = if plain then One else Two

-- ---- each line

-- of a line that either version has
kept : (d : Description) (v : Version) (c : Content) → stands (Some One) c ≡ true → IsLine d.bits c → is_out_of_range c ≡ false
    → is_too_wide d.scramble.width d.bits c ≡ false → IsKept d v c
kept d One c s l r w = ((l, s), r, w)
kept d Two c s l r w = ((l, refl), r, w)

in_range : (low high n : ℕ) → low ≤ n → n ≤ high → (nat_lt n low || nat_lt high n) ≡ false
in_range low high n l h = rw (lt-leb (suc n) low (omega arith), lt-leb (suc high) n (omega arith)) refl

rows_kept : (d : Description) (v : Version) (k : ℕ) → IsMemory d → d.scramble.width ≤ 16 → k ≤ d.scramble.width
    → Each (IsKept d v) (with_rows d.scramble k (backgrounds d.backgrounds ∷ []))
rows_kept d v k mem small few =
    let s = d.scramble in
    let set = words_within d.backgrounds mem.tested.fit in
    each_row (IsKept d v) s k (backgrounds d.backgrounds ∷ []) (λ i l. row i (omega arith))
    (kept d v (backgrounds d.backgrounds) refl (words d.backgrounds mem.tested.some set) refl set, tt)
  where
    words_within : (ws : List ℕ) → All (λ b. b < 2 ^ d.bits) ws → list_any (nat_le (2 ^ d.bits)) ws ≡ false
    words_within [] h = refl
    words_within (w ∷ ws) h = rw (lt-leb (2 ^ d.bits) w (h 0 w (omega arith))) (words_within ws (λ k x l. h (suc k) x (omega arith)))

    words : (ws : List ℕ) → 1 ≤ length ws → list_any (nat_le (2 ^ d.bits)) ws ≡ false → IsLine d.bits (backgrounds ws)
    words [] some fit = absurd (omega arith)
    words (w ∷ ws) some fit = headed d.bits (backgrounds (w ∷ ws)) refl refl (words_line d.bits (w ∷ ws) mem.bits_low mem.bits_high fit)

    row : (i : ℕ) → i < d.scramble.width → IsKept d v (row_content d.scramble i)
    row i l =
        let s = d.scramble in
        let ts = row_terms s i in
        let within = terms_within s i in
        let some : ts ≡ [] → ⊥ = λ e. row_some s i mem.invertible l (sym (terms_bits s i (mem.full.rows_fit i l)) ∙ ap index_bits e) in
        kept d v (row_content s i) refl (headed d.bits (scramble i ts) refl refl (row_line_is s.width i ts small l within some)) refl
        (rw (lt-leb s.width i l) within)

ports_kept : (d : Description) (plain : Bool) (cs : List Content) → IsMemory d → Each (IsKept d (version_printed plain)) cs → Each (IsKept d (version_printed plain)) (with_ports d plain cs)
ports_kept d true cs mem h = h
ports_kept d false cs mem h =
    let cycles = mem.latency_high in
    let long = mem.pause_high in
    let fits = lt-leb (2 ^ d.bits) d.polarity mem.polarity in
    let line = number_line_is d.latency (omega arith) in
    let word = words_line d.bits (d.polarity ∷ []) mem.bits_low mem.bits_high (rw fits refl) in
    let last = number_line_is d.pause (omega arith) in (
      ((headed d.bits (latency d.latency) refl refl line, refl), in_range 1 4 d.latency mem.latency_low cycles, refl),
      (
        ((headed d.bits (polarity d.polarity) refl refl word, refl), refl, fits),
        (((headed d.bits (pause d.pause) refl refl last, refl), in_range 1 65535 d.pause mem.pause_low long, refl), h),
      ),
    )

lines_kept : (d : Description) (plain : Bool) (k : ℕ) → IsMemory d → d.scramble.width ≤ 16 → k ≤ d.scramble.width → Each (IsKept d (version_printed plain)) (contents d plain k)
lines_kept d plain k mem small few =
    let v = version_printed plain in
    let n = version_number plain in
    let many = mem.words_high in
    let wide = mem.bits_high in
    let short = mem.name.short in
    let first = number_line_is n (one_digit plain) in
    let named = name_line_is d.name mem.name.identifier in
    let number = number_line_is d.words (omega arith) in
    let size = number_line_is d.bits (omega arith) in
    let free : is_out_of_range (name d.name) ≡ false = rw (lt-leb 49 (length d.name) (omega arith)) mem.name.free in (
      kept d v (version n) refl (headed d.bits (version n) refl refl first) refl refl,
      (
        kept d v (name d.name) refl (headed d.bits (name d.name) mem.name.identifier refl named) free refl,
        (
          kept d v (words d.words) refl (headed d.bits (words d.words) refl refl number) (in_range 2 65536 d.words mem.words_low many) refl,
          (
            kept d v (bits d.bits) refl (headed d.bits (bits d.bits) refl refl size) (in_range 1 64 d.bits mem.bits_low wide) refl,
            ports_kept d plain (with_rows d.scramble k (backgrounds d.backgrounds ∷ [])) mem (rows_kept d v k mem small few),
          ),
        ),
      ),
    )
  where
    one_digit : (t : Bool) → version_number t < 1000000000
    one_digit true = lit< tt
    one_digit false = lit< tt

are_statements : (d : Description) (plain : Bool) (k : ℕ) → Each (IsKept d (version_printed plain)) (contents d plain k)
    → AreStatements (lines_text d.bits (contents d plain k)) (statements d plain k)
are_statements d true k h =
    let line = h.0.0.0 in
    let more = behind_version d true k in
    let start = 0 + length (line_text d.bits (version 1)) + 1 in
    rw (first_line 1 0 (line_text d.bits (version 1)) (lines_text d.bits more) line.0)
    (Some (version 1), numbered 2 more, inr (version 1, refl, refl, line.1), lines_say d One 2 start more h.1, refl)
are_statements d false k h =
    let line = h.0.0.0 in
    let more = behind_version d false k in
    let start = 0 + length (line_text d.bits (version 2)) + 1 in
    rw (first_line 1 0 (line_text d.bits (version 2)) (lines_text d.bits more) line.0)
    (Some (version 2), numbered 2 more, inr (version 2, refl, refl, line.1), lines_say d Two 2 start more h.1, refl)

-- ---- the values that they give

module _ (d : Description) (k : ℕ) where
  abbrev last : List Content
  last = backgrounds d.backgrounds ∷ []

  -- what is said of a subject, as the contents have it
  told : (q : Subject) (plain : Bool) → said q (statements d plain k) ≡ find (λ c. is_same q (subject c)) (contents d plain k)
  told q plain = content_found (λ c. is_same q (subject c)) 1 (contents d plain k)

  -- the rows are passed over
  past : (q : Subject) → ((i : ℕ) → is_same q (S.Row i) ≡ false)
      → find (λ c. is_same q (subject c)) (with_rows d.scramble k last) ≡ find (λ c. is_same q (subject c)) last
  past q f = past_rows (λ c. is_same q (subject c)) d.scramble k last (λ i l. f i)

  backgrounds_are_said : (plain : Bool) → said S.Backgrounds (statements d plain k) ≡ Some (backgrounds d.backgrounds)
  backgrounds_are_said true = told S.Backgrounds true ∙ past S.Backgrounds (λ i. refl)
  backgrounds_are_said false = told S.Backgrounds false ∙ past S.Backgrounds (λ i. refl)

  row_is_said : (plain : Bool) (j : ℕ) → j < k → said (S.Row j) (statements d plain k) ≡ Some (row_content d.scramble j)
  row_is_said true j h = told (S.Row j) true ∙ row_found d.scramble j k last h
  row_is_said false j h = told (S.Row j) false ∙ row_found d.scramble j k last h

  -- version 1 leaves unsaid what it can
  same_description : (plain : Bool) → is_plain d ≡ plain → d ≡ described (statements d plain k) d.scramble d.backgrounds
  same_description false e = refl
  same_description true e =
      let outer = and_parts ((d.latency == 1) && (d.polarity == 0)) (d.pause == 1) e in
      let inner = and_parts (d.latency == 1) (d.polarity == 0) outer.0 in
      let l : latency_said (statements d true k) ≡ d.latency =
      ap latency_in (told S.Latency true ∙ past S.Latency (λ i. refl)) ∙ sym (eqb-true d.latency 1 inner.0) in
      let p : polarity_said (statements d true k) ≡ d.polarity =
      ap polarity_in (told S.Polarity true ∙ past S.Polarity (λ i. refl)) ∙ sym (eqb-true d.polarity 0 inner.1) in
      let z : pause_said (statements d true k) ≡ d.pause =
      ap pause_in (told S.Pause true ∙ past S.Pause (λ i. refl)) ∙ sym (eqb-true d.pause 1 outer.1) in
      rw (l, p, z) refl

  -- which line speaks of a subject, where the rows begin at this one
  abbrev line_of : ℕ → Subject → ℕ
  line_of first S.Version = 1
  line_of first S.Name = 2
  line_of first S.Words = 3
  line_of first S.Bits = 4
  line_of first S.Latency = 5
  line_of first S.Polarity = 6
  line_of first S.Pause = 7
  line_of first (S.Row i) = first + i
  line_of first S.Backgrounds = first + k

  once : (plain : Bool) → find (is_repeat (statements d plain k)) (statements d plain k) ≡ None
  once true = no_repeat (line_of 5) 1 (contents d true k)
      (refl, (refl, (refl, (refl, placed_rows (line_of 5) d.scramble 5 k last (λ i. refl) (refl, tt)))))
  once false = no_repeat (line_of 8) 1 (contents d false k)
      (refl, (refl, (refl, (refl, (refl, (refl, (refl, placed_rows (line_of 8) d.scramble 8 k last (λ i. refl) (refl, tt))))))))

-- ---- the scrambling

module _ (d : Description) (plain : Bool) (full : IsFull d.scramble) where
  abbrev of_rows : List Statement
  of_rows = statements d plain d.scramble.width

  terms_here : (j : ℕ) → j < d.scramble.width → terms_said of_rows j ≡ row_terms d.scramble j
  terms_here j h = ap terms_in (row_is_said d d.scramble.width plain j h)

  rows_are : (n : ℕ) → n ≤ d.scramble.width → rows_said of_rows n ≡ take n d.scramble.rows
  rows_are zero h = refl
  rows_are (suc n) h =
      let s = d.scramble in
      let count = full.count in
      let one : n + 1 ≡ suc n = omega arith in
      let bits : index_bits (terms_said of_rows n) ≡ row s n = ap index_bits (terms_here n (omega arith)) ∙ terms_bits s n (full.rows_fit n (omega arith)) in
      ap₂ (λ (xs : List ℕ) (x : ℕ). xs ++ (x ∷ [])) (rows_are n (omega arith)) bits
      ∙ sym (take_more s.rows n 0 (omega arith)) ∙ ap (λ (m : ℕ). take m s.rows) one

  constant_is : number (λ i. from_bool (constant_of (terms_said of_rows i))) d.scramble.width ≡ d.scramble.constant
  constant_is =
      let s = d.scramble in
      number_same (λ i. from_bool (constant_of (terms_said of_rows i))) (bit_at s.constant) s.width
      (λ i p. ap (λ ts. from_bool (constant_of ts)) (terms_here i p) ∙ terms_constant s i)
      ∙ number-bits s.constant s.width full.constant_fits

  of_width : List ℕ → ℕ → Scrambling
  of_width rows c = record { width = d.scramble.width; rows = rows; constant = c }

  matrix_is : matrix_said of_rows d.scramble.width ≡ d.scramble
  unfolding of_width
  matrix_is =
      let s = d.scramble in
      let count = full.count in
      ap₂ of_width (rows_are s.width (omega arith) ∙ take_all s.width s.rows (omega arith)) constant_is

-- what is said of rows, which are printed unless the scrambling is the identity
abbrev Scrambled : Description → Bool → ℕ → Type 0
Scrambled d plain k =
    (is_scrambled (statements d plain k) ≡ true → is_power_of_two (words_said (statements d plain k)) ≡ true)
    × IsScrambling (statements d plain k) d.scramble.width d.scramble

scrambled : (d : Description) (plain t : Bool) → IsMemory d → is_identity d.scramble ≡ t → Scrambled d plain (if t then 0 else d.scramble.width)
scrambled d plain true mem e = (λ h. (let z : ⊥ = cc (no_rows plain) in absurd z), rw (no_rows plain) (identity_by_rows d.scramble mem.full.count e))
  where
    no_rows : (plain : Bool) → is_scrambled (statements d plain 0) ≡ false
    no_rows true = refl
    no_rows false = refl
scrambled d plain false mem e =
    let s = d.scramble in
    let same = matrix_is d plain mem.full in
    let there : (i : ℕ) → i < s.width → IsSome (about (S.Row i) (statements d plain s.width)) =
    λ i h. said_there (about (S.Row i) (statements d plain s.width)) (row_content s i) (row_is_said d s.width plain i h) in
    (λ _. power (is_power_of_two d.words) refl, rw (has_rows plain) (there, subst IsInvertible (sym same) mem.invertible, sym same))
  where
    has_rows : (plain : Bool) → is_scrambled (statements d plain d.scramble.width) ≡ true
    has_rows true = any_found is_row 1 (contents d true d.scramble.width) ∙ some_rows d.scramble d.scramble.width (backgrounds d.backgrounds ∷ []) mem.address.positive
    has_rows false = any_found is_row 1 (contents d false d.scramble.width) ∙ some_rows d.scramble d.scramble.width (backgrounds d.backgrounds ∷ []) mem.address.positive

    power : (t : Bool) → is_power_of_two d.words ≡ t → t ≡ true
    power true p = refl
    power false p =
        let same : true ≡ false = sym (identity_is_identity d.scramble.width) ∙ ap is_identity (sym (mem.unscrambled p)) ∙ e in
        let none : ⊥ = cc in absurd none

pub read_back : (d : Description) → IsMemory d → Reads (printed d) (Ok d)
read_back d mem =
    let most = mem.words_high in
    let some = mem.words_low in
    let s = d.scramble in
    let small : s.width ≤ 16 = (width_small (d.words - 1) s.width (omega arith) mem.address).1 in
    let k = rows_printed s in
    let plain = is_plain d in
    let kept = lines_kept d plain k mem small (few (is_identity s)) in
    let rows = scrambled d plain (is_identity s) mem refl in (
      statements d plain k,
      are_statements d plain k kept,
      record {
        once = once d k plain;
        has_name = refl;
        has_words = refl;
        has_bits = refl;
        in_range = none_found (IsKept d (version_printed plain)) is_out_of_range 1 (contents d plain k) (λ c h. h.1) kept;
        width = s.width;
        addresses = mem.address;
        fit = none_found (IsKept d (version_printed plain)) (is_too_wide s.width d.bits) 1 (contents d plain k) (λ c h. h.2) kept;
        scramblable = rows.0;
        scrambling = s;
        is_scrambling = rows.1;
        set = d.backgrounds;
        are_backgrounds = subst (λ (o : Option Content). AreBackgrounds o d.bits d.backgrounds) (sym (backgrounds_are_said d k plain)) refl;
        few = mem.tested.few;
        solid = mem.tested.solid;
        described_as = same_description d k plain refl;
      },
    )
  where
    few : (t : Bool) → (if t then 0 else d.scramble.width) ≤ d.scramble.width
    few true = omega arith
    few false = omega arith
