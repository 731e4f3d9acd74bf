-- Lists that grow piece by piece; and they have room for the next piece where they have room for all.
use Rattle.std.proofs.Common.{◌≡◌, ℕ, ◌+◌, ◌<◌, ◌≤◌, List, ◌++◌, length, take, get_or, length-append, ap, sym, ◌∙◌, arith}
use Rattle.std.specs.List.{flat_map}
use Rattle.std.proofs.lemmas.List.{flat_map_more, take_more, take_all}
use Rattle.std.proofs.lemmas.List.Folds.{length-flat_map-take}

pub room : {X Y : Type 0} (f : X → List Y) (old new : List Y) (xs : List X) (i : ℕ) (d : X) → new ≡ old ++ flat_map f (take i xs) → i < length xs
    → length new + length (f (get_or xs i d)) ≤ length old + length (flat_map f xs)
room f old new xs i d e h =
    let pieces = length-flat_map-take f xs i d h in
    let whole = length-append old (flat_map f (take i xs)) in
    let now = ap length e in
    omega (arith, pieces, whole, now)

-- the same of a list that is known by another name, and of so many elements in all
pub piece_room : {X Y : Type 0} (f : X → List Y) (xs ys : List X) (i : ℕ) (x : X) (old new : List Y) (all most : ℕ) → xs ≡ ys → length (flat_map f ys) ≡ all → i < length xs
    → x ≡ get_or xs i x → new ≡ old ++ flat_map f (take i xs) → length old + all ≤ most → length new + length (f x) ≤ most
piece_room f xs ys i x old new all most same count h is inv fits =
    let pieces = room f old new xs i x inv h in
    let here : length (f x) ≡ length (f (get_or xs i x)) = ap (λ y. length (f y)) is in
    let whole : length (flat_map f xs) ≡ all = ap (λ l. length (flat_map f l)) same ∙ count in
    omega (arith, pieces, here, whole, fits)

-- one piece more
pub piece_more : {X Y : Type 0} (f : X → List Y) (xs : List X) (i : ℕ) (x : X) (old new now : List Y) → i < length xs → x ≡ get_or xs i x
    → new ≡ old ++ flat_map f (take i xs) → now ≡ new ++ f x → now ≡ old ++ flat_map f (take (i + 1) xs)
piece_more f xs i x old new now h is inv grown =
    grown
    ∙ ap (λ l. l ++ f x) inv
    ∙ ap (λ y. (old ++ flat_map f (take i xs)) ++ f y) is
    ∙ flat_map_more f old (take i xs) (get_or xs i x)
    ∙ ap (λ l. old ++ flat_map f l) (sym (take_more xs i x h))

-- all pieces, once the loop has ended
pub all_pieces : {X Y : Type 0} (f : X → List Y) (xs ys : List X) (i : ℕ) (old now : List Y) → xs ≡ ys → length xs ≤ i → now ≡ old ++ flat_map f (take i xs) → now ≡ old ++ flat_map f ys
all_pieces f xs ys i old now same h inv = inv ∙ ap (λ l. old ++ flat_map f l) (take_all i xs h ∙ same)
