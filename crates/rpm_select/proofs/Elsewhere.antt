-- A number that a selection can't pick.
use Rattle.std.proofs.Common.{◌≡◌, ℕ, ◌==◌, Bool, true, false, not, Option, Some, None, Ok, Err, refl, sym, subst}
use Rattle.std.specs.Prelude.{Result}
use Rattle.rpm_select.proofs.Vocabulary.{All, Bad, Conflicts, Directory, Good, Group, Header, header, HeaderFault, is_elsewhere, is_picked, Label, Number}
use Rattle.rpm_select.proofs.Vocabulary.{Obsoletes, OneIs, OneOf, Package, Path, Pattern, Picked, PickFault, Provides, Recommends, Requires, Selection}
use Rattle.rpm_select.proofs.Vocabulary.{takes_header, takes_read, Tid, Trigger}

no_header : (m n : ℕ) → (n == m) ≡ false → (r : Result Header HeaderFault) → takes_read (Number m) n r ≡ false
unfolding takes_header
no_header m n other (Ok h) = other
no_header m n other (Err fault) = refl

no_number : (m n : ℕ) → (n == m) ≡ false → (p : Package) → is_picked (Number m) (n, p) ≡ false
no_number m n other (Good bytes) = no_header m n other (header bytes)
no_number m n other Bad = other

turned : (b : Bool) → not b ≡ true → b ≡ false
turned true is = absurd cc
turned false is = refl

pub elsewhere : (sel : Selection) (n : ℕ) → true ≡ is_elsewhere sel n → (p : Package) → is_picked sel (n, p) ≡ false
elsewhere (Number m) n is p = no_number m n (turned (n == m) (sym is)) p
elsewhere All n is p = absurd cc
elsewhere (Pattern x) n is p = absurd cc
elsewhere (Label x) n is p = absurd cc
elsewhere (Path x) n is p = absurd cc
elsewhere (Group x) n is p = absurd cc
elsewhere (Provides c) n is p = absurd cc
elsewhere (Requires c) n is p = absurd cc
elsewhere (Conflicts c) n is p = absurd cc
elsewhere (Obsoletes c) n is p = absurd cc
elsewhere (Trigger x) n is p = absurd cc
elsewhere (Directory x) n is p = absurd cc
elsewhere (Tid t) n is p = absurd cc
elsewhere (Recommends c) n is p = absurd cc

pub one_elsewhere : (sel : Selection) (n : ℕ) → true ≡ is_elsewhere sel n → (o : Option Package) → OneOf sel n o (Ok None)
one_elsewhere sel n is None = tt
one_elsewhere sel n is (Some p) = elsewhere sel n is p

-- of the package that a number was read as
pub one_of : (sel : Selection) (n : ℕ) (o : Option Package) (p : Package) (result : Result (Option Picked) PickFault) → o ≡ Some p → OneIs sel n p result
    → OneOf sel n o result
one_of sel n o p result is one = subst (λ (x : Option Package). OneOf sel n x result) (sym is) one

pub none_of : (sel : Selection) (n : ℕ) (o : Option Package) → o ≡ None → OneOf sel n o (Ok None)
none_of sel n o is = subst (λ (x : Option Package). OneOf sel n x (Ok None)) (sym is) tt

pub fault_of : (sel : Selection) (n : ℕ) (o : Option Package) (fault : PickFault) → OneOf sel n o (Err fault)
fault_of sel n None fault = tt
fault_of sel n (Some p) fault = tt
