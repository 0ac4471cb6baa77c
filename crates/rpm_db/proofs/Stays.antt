-- A database without packages is made: its state stays.
use Rattle.std.proofs.Common.{◌≡◌, Ok, sym, ap, ◌∙◌, refl}
use Rattle.std.specs.FinMap as finite
use Rattle.rpm_db.proofs.Vocabulary.{blank_store, blobs, in_file, made_new, packages, state, Store, store, Units}
use Rattle.rpm_db.proofs.Emptied.{blank_is, unused}

none_made : (file : Units) (value : Store) → blobs file (made_new value) ≡ finite.empty
unfolding blobs
none_made file value = ap finite.from_entries (unused file 254)

none_blank : (file : Units) → blobs file blank_store ≡ finite.empty
unfolding blobs
none_blank file = refl

state-in_file : (file : Units) (value : Store) → state file (in_file value) ≡ state file value
unfolding packages blobs
state-in_file file value = refl

same_packages : (a b : Units) (s t : Store) → blobs a s ≡ blobs b t → packages a s ≡ packages b t
unfolding packages
same_packages a b s t same = rw same refl

pub state_made : (old new : Units) (value : Store) → store old ≡ Ok (in_file value) → value.pages ≡ 0 → state new (made_new value) ≡ state old value
state_made old new value keeps none =
    let is : store old ≡ Ok blank_store = blank_is old (in_file value) keeps none in
    let blank : in_file value ≡ blank_store = cc in
    let made : packages new (made_new value) ≡ packages old blank_store =
    same_packages new old (made_new value) blank_store (none_made new value ∙ sym (none_blank old)) in
    ap (λ (m : _). record { packages = m; field = 1 }) made ∙ ap (state old) (sym blank) ∙ state-in_file old value
