-- A change that is planned and then written.
use Rattle.std.proofs.Common.{◌≡◌, ℕ, ◌+◌, List, [], Option, Some, None, is_none, Ok, refl, sym, ap, ◌∙◌, subst}
use Rattle.std.specs.FinMap as finite
use Rattle.rpm_db.proofs.Vocabulary.{blobs, field_after, field_for, Files, Good, HasChanged, Header, header, header_rows, IsFor, IsPlan, IsQuiet, nat_cmp}
use Rattle.rpm_db.proofs.Vocabulary.{next_field, next_is_free, next_number, number_for, old_rows, Package, package-own, package_rows, packages}
use Rattle.rpm_db.proofs.Vocabulary.{packages-blobs, packages-insert, packages-remove, packages_of, Plan, Row, rows, rows-insert, rows-remove, rows_at}
use Rattle.rpm_db.proofs.Vocabulary.{rows_read, Store, Target, Units, with_spare}
use Rattle.rpm_db.proofs.Rowing.{none_at}

-- ---- the rows that change

-- the rows that go
old_rows_are : (file : Units) (value : Store) (n : Option ℕ) → old_rows n (packages file value)
    ≡ rows_at (number_for n value) (finite.get (packages file value) (number_for n value))
old_rows_are file value None = sym (ap (rows_at (next_number value)) (none_at file value (next_number value) (next_is_free value)))
old_rows_are file value (Some n) = refl

pub put_packages : (file : Units) (value : Store) (n : ℕ) (h : Header) → header h.blob ≡ Ok h
    → packages_of (finite.insert (blobs file value) n (Some h.blob)) ≡ finite.insert (packages file value) n (Good h.blob)
put_packages file value n h own =
    packages-insert (blobs file value) n (Some h.blob)
    ∙ ap (λ (p : Package). finite.insert (packages_of (blobs file value)) n p) (package-own h own)
    ∙ ap (λ (ps : finite.FinMap nat_cmp Package). finite.insert ps n (Good h.blob)) (sym (packages-blobs file value))

pub rows_put : (file : Units) (value : Store) (n : Option ℕ) (h : Header) → header h.blob ≡ Ok h
    → HasChanged (old_rows n (packages file value)) (header_rows (number_for n value) h) (rows (packages file value))
    (rows (packages_of (finite.insert (blobs file value) (number_for n value) (Some h.blob))))
rows_put file value n h own =
    let m = number_for n value in
    let was = packages file value in
    let change : HasChanged (rows_at m (finite.get was m)) (package_rows m (Good h.blob)) (rows was) (rows (finite.insert was m (Good h.blob))) =
    rows-insert m (Good h.blob) was in
    let adds : package_rows m (Good h.blob) ≡ header_rows m h = ap (rows_read m) own in
    subst (λ (ps : finite.FinMap nat_cmp Package). HasChanged (old_rows n was) (header_rows m h) (rows was) (rows ps)) (sym (put_packages file value m h own))
    (subst (λ (ds : List Row). HasChanged ds (header_rows m h) (rows was) (rows (finite.insert was m (Good h.blob)))) (sym (old_rows_are file value n))
    (subst (λ (rs : List Row). HasChanged (rows_at m (finite.get was m)) rs (rows was) (rows (finite.insert was m (Good h.blob)))) adds change))

pub erased_packages : (file : Units) (value : Store) (n : ℕ) → packages_of (finite.remove (blobs file value) n) ≡ finite.remove (packages file value) n
erased_packages file value n =
    packages-remove (blobs file value) n
    ∙ ap (λ (ps : finite.FinMap nat_cmp Package). finite.remove ps n) (sym (packages-blobs file value))

pub rows_erased : (file : Units) (value : Store) (n : ℕ) (adds : List Row) → adds ≡ [] → HasChanged (rows_at n (finite.get (packages file value) n)) adds
    (rows (packages file value)) (rows (packages_of (finite.remove (blobs file value) n)))
rows_erased file value n adds none =
    let was = packages file value in
    subst (λ (ps : finite.FinMap nat_cmp Package). HasChanged (rows_at n (finite.get was n)) adds (rows was) (rows ps)) (sym (erased_packages file value n))
    (subst (λ (rs : List Row). HasChanged (rows_at n (finite.get was n)) rs (rows was) (rows (finite.remove was n))) (sym none) (rows-remove n was))

-- ---- the value

-- room in memory is nothing that a file says
pub quiet_room : (spare : ℕ) (value : Store) (files : Files) (images : Files → Type 0) → IsQuiet value files images → IsQuiet (with_spare spare value) files
    images
quiet_room spare value files images quiet image here =
    let s = quiet image here in
    record { keeps = s.keeps; blocks = s.blocks }

-- the number field of a new number, and of one that is there
pub field_is : (n : Option ℕ) (value : Store) (target : Target) → target.is_new ≡ is_none n → target.number ≡ number_for n value
    → field_after (next_field target) value.field ≡ field_for n value
field_is None value target new number = rw new (ap (λ (k : ℕ). k + 1) number)
field_is (Some n) value target new number = rw new refl

-- ---- the plan

pub blobs_room : (file : Units) (spare : ℕ) (value : Store) → blobs file (with_spare spare value) ≡ blobs file value
unfolding blobs
blobs_room file spare value = refl

-- the number of a plan
pub number_is : (n : Option ℕ) (length spare : ℕ) (value : Store) (plan : Plan) → IsPlan (with_spare spare value) plan → IsFor n length plan
    → plan.target.number ≡ number_for n value
number_is None length spare value plan is asked = is.number asked.new
number_is (Some n) length spare value plan is asked = asked.number
