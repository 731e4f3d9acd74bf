-- The faults are the four of the books.
use Rattle.std.proofs.Common.{◌≡◌, ◌≢◌, ◌+◌, ℕ, Bool, refl, ap, sym, subst, ◌∙◌, ⊎_elim, eq-eqb}
use Rattle.std.specs.Prelude.{if◌then◌else◌}
use Rattle.std.proofs.Math.Path.{ap₂}
use Rattle.std.proofs.lemmas.Bool.{ne_eqb, cases_eq}
use Rattle.decoder_faults.specs.declared.fault.DecoderFault.{DecoderFault}
use Rattle.decoder_faults.specs.declared.fault.DecoderFault.TheVariants.{NoCell, OtherCell, BothCells, TakenCell}
use Rattle.decoder_faults.specs.Decoding.{AddressPair, Reach, reach_of_x, reach_of_y, reach_of, HasFault}
use Rattle.decoder_faults.specs.Books.{once, times, AreOfBooks, OwnIsFirst, OwnAreFirst}
use Rattle.decoder_faults.proofs.Passing.{has_alone}
use Rattle.decoder_faults.proofs.Seen.{reach_elsewhere}

same : (c : ℕ) → once c c ≡ 1
same c = ap (λ (b : Bool). if b then 1 else 0) (eq-eqb c c refl)

other : (c d : ℕ) → c ≢ d → once c d ≡ 0
other c d apart = ap (λ (b : Bool). if b then 1 else 0) (ne_eqb c d apart)

module _ (fault : DecoderFault) (at : AddressPair) (apart : at.x ≢ at.y) where
  has : HasFault (reach_of fault at) fault at
  has = has_alone fault at apart

  x_is : (cell n : ℕ) → times (reach_of_x fault at) cell ≡ n → times (reach_of fault at at.x) cell ≡ n
  x_is cell n is = ap (λ (r : Reach). times r cell) has.at_x ∙ is

  y_is : (cell n : ℕ) → times (reach_of_y fault at) cell ≡ n → times (reach_of fault at at.y) cell ≡ n
  y_is cell n is = ap (λ (r : Reach). times r cell) has.at_y ∙ is

pub of_books : AreOfBooks
of_books (NoCell answer) at apart = record {
  x_to_x = x_is (NoCell answer) at apart at.x 0 refl;
  x_to_y = x_is (NoCell answer) at apart at.y 0 refl;
  y_to_x = y_is (NoCell answer) at apart at.x 0 (other at.y at.x (λ e. apart (sym e)));
  y_to_y = y_is (NoCell answer) at apart at.y 1 (same at.y);
}
of_books OtherCell at apart = record {
  x_to_x = x_is OtherCell at apart at.x 0 (other at.y at.x (λ e. apart (sym e)));
  x_to_y = x_is OtherCell at apart at.y 1 (same at.y);
  y_to_x = y_is OtherCell at apart at.x 0 (other at.y at.x (λ e. apart (sym e)));
  y_to_y = y_is OtherCell at apart at.y 1 (same at.y);
}
of_books (BothCells wired) at apart = record {
  x_to_x = x_is (BothCells wired) at apart at.x 1 (ap₂ (λ (m n : ℕ). m + n) (same at.x) (other at.y at.x (λ e. apart (sym e))));
  x_to_y = x_is (BothCells wired) at apart at.y 1 (ap₂ (λ (m n : ℕ). m + n) (other at.x at.y apart) (same at.y));
  y_to_x = y_is (BothCells wired) at apart at.x 0 (other at.y at.x (λ e. apart (sym e)));
  y_to_y = y_is (BothCells wired) at apart at.y 1 (same at.y);
}
of_books (TakenCell answer wired) at apart = record {
  x_to_x = x_is (TakenCell answer wired) at apart at.x 0 refl;
  x_to_y = x_is (TakenCell answer wired) at apart at.y 0 refl;
  y_to_x = y_is (TakenCell answer wired) at apart at.x 1 (ap₂ (λ (m n : ℕ). m + n) (other at.y at.x (λ e. apart (sym e))) (same at.x));
  y_to_y = y_is (TakenCell answer wired) at apart at.y 1 (ap₂ (λ (m n : ℕ). m + n) (same at.y) (other at.x at.y apart));
}

x_first : (fault : DecoderFault) (at : AddressPair) → OwnIsFirst at.x (reach_of_x fault at)
x_first (NoCell answer) at = tt
x_first OtherCell at = tt
x_first (BothCells wired) at = refl
x_first (TakenCell answer wired) at = tt

y_first : (fault : DecoderFault) (at : AddressPair) → OwnIsFirst at.y (reach_of_y fault at)
y_first (NoCell answer) at = tt
y_first OtherCell at = tt
y_first (BothCells wired) at = tt
y_first (TakenCell answer wired) at = refl

pub own_first : OwnAreFirst
own_first fault at address apart =
    ⊎_elim
    (λ (h : address ≡ at.x).
    subst (λ z. OwnIsFirst z (reach_of fault at z)) (sym h) (subst (OwnIsFirst at.x) (sym (has fault at apart).at_x) (x_first fault at)))
    (λ (ne : address ≢ at.x).
    ⊎_elim
    (λ (h : address ≡ at.y).
    subst (λ z. OwnIsFirst z (reach_of fault at z)) (sym h) (subst (OwnIsFirst at.y) (sym (has fault at apart).at_y) (y_first fault at)))
    (λ (off : address ≢ at.y). subst (OwnIsFirst address) (sym (reach_elsewhere fault at address ne off)) tt)
    (cases_eq address at.y))
    (cases_eq address at.x)
