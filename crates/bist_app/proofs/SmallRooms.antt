-- The first box without room, box by box and by those before it.
use Rattle.bist_app.proofs.Common.{◌≡◌, ◌<◌, ◌++◌, ℕ, [], ◌∷◌, inl, inr, refl, sym, ap, subst, Told, Boxes}
use Rattle.bist_app.specs.BenchAll.{HaveRoom, FirstSmall}
use Rattle.bist_app.specs.inner.BenchedBoxes.{SmallRoom}

pub first_small : (words : ℕ) (boxes : Boxes) (room : ℕ) → SmallRoom words boxes room → FirstSmall words boxes room
first_small words [] room h = absurd h
first_small words (box ∷ boxes) room (inl h) = record { before = []; box = box; behind = boxes; split = refl; enough = tt; small = h.0; room_is = h.1 }
first_small words (box ∷ boxes) room (inr h) =
    let later = first_small words boxes room h.1 in
    record { before = box ∷ later.before; box = later.box; behind = later.behind; split = ap (λ l. box ∷ l) later.split; enough = (h.0, later.enough); small = later.small; room_is = later.room_is }

walked : (words : ℕ) (before : Boxes) (box : Told) (behind : Boxes) (room : ℕ) → HaveRoom words before → box.room < words → room ≡ box.room → SmallRoom words (before ++ box ∷ behind) room
walked words [] box behind room enough small is = inl (small, is)
walked words (x ∷ before) box behind room enough small is = inr (enough.0, walked words before box behind room enough.1 small is)

pub small_room : (words : ℕ) (boxes : Boxes) (room : ℕ) → FirstSmall words boxes room → SmallRoom words boxes room
small_room words boxes room h =
    subst (λ (l : Boxes). SmallRoom words l room) (sym h.split) (walked words h.before h.box h.behind room h.enough h.small h.room_is)
