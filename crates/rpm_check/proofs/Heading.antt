-- What a package has whose header was read.
use Rattle.std.proofs.Common.{◌≡◌, ℕ, Bool, List, [], Option, Some, None, Ok, Err, refl, ap, ◌∙◌}
use Rattle.std.specs.Prelude.{Result}
use Rattle.rpm_check.proofs.Vocabulary.{Bad, Good, Header, header, header-own, header_at, header_read, HeaderFault, Need, Package, package_of, read_as}
use Rattle.rpm_check.proofs.Vocabulary.{needs_at, requirements, unmet_at, unmet_in, unmet_read}

pub header_good : (blob : List ℕ) (h : Header) → header blob ≡ Ok h → header_at (Some (package_of (Some blob))) ≡ Some h
header_good blob h is = ap (λ r. header_at (Some (read_as r))) is ∙ ap header_read (header-own blob h is)

read_is : (r : Result Header HeaderFault) (h : Header) → header_read r ≡ Some h → r ≡ Ok h
read_is (Ok g) h is = (let same : g ≡ h = cc in ap Ok same)
read_is (Err fault) h is = absurd cc

pub unmet_some : (is_lacking : Need → Bool) (n : ℕ) (o : Option Package) (h : Header) → header_at o ≡ Some h
    → unmet_at is_lacking n o ≡ unmet_in is_lacking n (requirements h) 0
unmet_some is_lacking n None h is = absurd cc
unmet_some is_lacking n (Some (Good bytes)) h is = ap (unmet_read is_lacking n) (read_is (header bytes) h is)
unmet_some is_lacking n (Some Bad) h is = absurd cc

pub needs_some : (o : Option Package) (h : Header) → header_at o ≡ Some h → needs_at o ≡ requirements h
needs_some None h is = absurd cc
needs_some (Some (Good bytes)) h is = (let same = read_is (header bytes) h is in rw same refl)
needs_some (Some Bad) h is = absurd cc

-- and what one has that can't be read
unread : (r : Result Header HeaderFault) → header_read r ≡ None → (fault : HeaderFault) × (r ≡ Err fault)
unread (Ok h) is = absurd cc
unread (Err fault) is = (fault, refl)

pub needs_none : (o : Option Package) → header_at o ≡ None → needs_at o ≡ []
needs_none None is = refl
needs_none (Some (Good bytes)) is = (let same = (unread (header bytes) is).1 in rw same refl)
needs_none (Some Bad) is = refl

pub unmet_none : (is_lacking : Need → Bool) (n : ℕ) (o : Option Package) → header_at o ≡ None → unmet_at is_lacking n o ≡ []
unmet_none is_lacking n None is = refl
unmet_none is_lacking n (Some (Good bytes)) is = (let same = (unread (header bytes) is).1 in rw same refl)
unmet_none is_lacking n (Some Bad) is = refl
