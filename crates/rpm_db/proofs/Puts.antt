-- A header that is planned, and what planning and writing it reads.
use Rattle.std.proofs.Common.{◌≡◌, inr, ℕ, ◌+◌, ◌≤◌, Bool, true, false, List, Option, Some, None, is_none, refl, sym, ap, ◌∙◌, subst, arith}
use Rattle.std.specs.FinMap as finite
use Rattle.rpm_db.proofs.Vocabulary.{BlobMap, blobs, cost_before, field_after, field_for, IsFor, IsPlan, Move}
use Rattle.rpm_db.proofs.Vocabulary.{moves_of, moving_cost, NeedsPage, next_field, number_for, packages, Plan}
use Rattle.rpm_db.proofs.Vocabulary.{ReadsAtMost, Store, Units, with_spare}
use Rattle.rpm_db.proofs.Edited.{blobs_room, number_is, field_is}

-- ---- the rows that change, as the planned value says them

-- room in memory changes no package and no number
packages_room : (file : Units) (spare : ℕ) (value : Store) → packages file (with_spare spare value) ≡ packages file value
unfolding packages blobs
packages_room file spare value = refl

pub packages_same : (file : Units) (value planned : Store) → planned ≡ with_spare planned.spare value → packages file planned ≡ packages file value
packages_same file value planned same = ap (packages file) same ∙ packages_room file planned.spare value

number_room : (n : Option ℕ) (spare : ℕ) (value : Store) → number_for n (with_spare spare value) ≡ number_for n value
number_room None spare value = refl
number_room (Some n) spare value = refl

pub number_same : (n : Option ℕ) (value planned : Store) → planned ≡ with_spare planned.spare value → number_for n planned ≡ number_for n value
number_same n value planned same = ap (number_for n) same ∙ number_room n planned.spare value

-- ---- what is written

-- the blobs after a plan
pub map_planned : (file : Units) (value planned : Store) → planned ≡ with_spare planned.spare value → (n : Option ℕ) (length : ℕ) (plan : Plan)
    → IsPlan planned plan → IsFor n length plan → (bytes blob : List ℕ) → bytes ≡ blob
    → finite.insert (blobs file planned) plan.target.number (Some bytes) ≡ finite.insert (blobs file value) (number_for n value) (Some blob)
map_planned file value planned same n length plan is asked bytes blob own =
    let number = number_is n length planned.spare value plan (subst (λ (v : Store). IsPlan v plan) same is) asked in
    ap (λ (k : BlobMap). finite.insert k plan.target.number (Some bytes)) (ap (blobs file) same ∙ blobs_room file planned.spare value)
    ∙ ap (λ (k : ℕ). finite.insert (blobs file value) k (Some bytes)) number
    ∙ ap (λ (bs : List ℕ). finite.insert (blobs file value) (number_for n value) (Some bs)) own

-- and the number field
pub field_planned : (value planned : Store) → planned ≡ with_spare planned.spare value → (n : Option ℕ) (length : ℕ) (plan : Plan) → IsPlan planned plan
    → IsFor n length plan → field_after (next_field plan.target) planned.field ≡ field_for n value
field_planned value planned same n length plan is asked =
    let number = number_is n length planned.spare value plan (subst (λ (v : Store). IsPlan v plan) same is) asked in
    ap (field_after (next_field plan.target)) (ap (λ (v : Store). v.field) same) ∙ field_is n value plan.target asked.new number

-- ---- what is read

needs_room : (spare : ℕ) (value : Store) (is_new : Bool) (moves : Option (List Move)) → NeedsPage (with_spare spare value) is_new moves
    → NeedsPage value is_new moves
needs_room spare value is_new None needs = needs
needs_room spare value is_new (Some moves) needs =
    (needs.0, record { all_used = needs.1.all_used; are = needs.1.are; behind = needs.1.behind })

reads_room : (n : Option ℕ) (spare : ℕ) (value : Store) (moves : Option (List Move)) (a d : ℕ)
    → d ≤ a + cost_before n (with_spare spare value) + moving_cost value.slots moves → d ≤ a + cost_before n value + moving_cost value.slots moves
reads_room None spare value moves a d most = most
reads_room (Some n) spare value moves a d most = most

reads_moved : (n : Option ℕ) (value : Store) (is_new : Bool) → is_new ≡ is_none n → (moves : Option (List Move)) → NeedsPage value is_new moves
    → (a d : ℕ) → d ≤ a + cost_before n value + moving_cost value.slots moves → ReadsAtMost n value a d
reads_moved None value is_new new moves needs a d most =
    inr (moves, subst (λ (t : Bool). NeedsPage value t moves) new needs, omega (arith, most))
reads_moved (Some n) value is_new new None needs a d most = omega (arith, most)
reads_moved (Some n) value is_new new (Some moves) needs a d most =
    (let both : true ≡ false = sym needs.0 ∙ new in absurd cc)

-- and while it is written too
pub reads_put : (n : Option ℕ) (value planned : Store) → planned ≡ with_spare planned.spare value → (length : ℕ) (plan : Plan) → IsPlan planned plan
    → IsFor n length plan → (a d : ℕ) → d ≤ a + cost_before n planned + moving_cost planned.slots (moves_of plan.page) → ReadsAtMost n value a d
reads_put n value planned same length plan is asked a d most =
    let moves = moves_of plan.page in
    reads_moved n value plan.target.is_new asked.new moves
    (needs_room planned.spare value plan.target.is_new moves (subst (λ (v : Store). NeedsPage v plan.target.is_new moves) same is.page)) a d
    (reads_room n planned.spare value moves a d (subst (λ (v : Store). d ≤ a + cost_before n v + moving_cost v.slots moves) same most))
