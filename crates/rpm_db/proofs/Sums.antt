-- What verifying says after a change of the store.
use Rattle.std.proofs.Common.{◌≡◌, ◌≢◌, ℕ, ◌^◌, ◌<◌, ◌≤◌, List, take, drop, Bool, true, false, Option, Some, None, Result, Ok, Err, length, if◌then◌else◌, refl, sym, ap, ◌∙◌, subst, arith, eq-eqb}
use Rattle.std.specs.Cmp.{unsigned_tied}
use Rattle.std.specs.FinMap as finite
use Rattle.std.specs.Ordering.{eq_by_cmp}
use Rattle.std.proofs.lemmas.Bool.Decides.{nat_tests}
use Rattle.std.proofs.lemmas.Cmp.{nat_cmp_total}
use Rattle.std.proofs.lemmas.List.{get_or-set_same}
use Rattle.rpm_outside.specs.Files.{Units}
use Rattle.rpm_outside.specs.declared.disk.Disk as disk
use Rattle.rpm_pkgdb.proofs.laws.BlobLaws.{get-blobs-frames}
use Rattle.rpm_pkgdb.specs.Blobs.{blob_in, blobs, blocks_for, Frame, frames}
use Rattle.rpm_pkgdb.specs.Checksums.{checksum_holds, checksums_hold}
use Rattle.rpm_pkgdb.specs.Frame.{pkg}
use Rattle.rpm_pkgdb.specs.Growing.{grown}
use Rattle.rpm_pkgdb.specs.laws.Parts.{pages_after}
use Rattle.rpm_pkgdb.specs.Planned.{moves_of}
use Rattle.rpm_pkgdb.specs.laws.Parts.{slot_for}
use Rattle.rpm_pkgdb.specs.Puts.{IsPut}
use Rattle.rpm_pkgdb.specs.Rewritten.{IsErased}
use Rattle.rpm_pkgdb.specs.Slots.{free, has_number, is_used, slot_at, slot_with}
use Rattle.rpm_pkgdb.specs.Store.{KeepsStore, Store}
use Rattle.rpm_pkgdb.specs.Written.{without_number, with_plan, with_spare}
use Rattle.rpm_pkgdb.specs.declared.added_page.Move.{Move}
use Rattle.rpm_pkgdb.specs.declared.plan.Plan.{Plan}
use Rattle.rpm_db.proofs.Vocabulary.{Add, apply, Bad, Change, changed_number, change_at, database_of, Erase, get-packages, Good, Header, header, HeaderFault, KeepsSums}
use Rattle.rpm_db.proofs.Vocabulary.{KeepsVerdicts, nat_cmp, next, next-state, number_for, option_map, package_of, packages, Put, state, without_index, verdict}
use Rattle.rpm_db.proofs.Vocabulary.{verdict_of}
use Rattle.rpm_db.proofs.VerdictLaws.{verdict_stays, written_sum}
use Rattle.rpm_db.specs.State.{State}
use Rattle.rpm_db.specs.Verdicts.{is_digest_wrong}
use Rattle.rpm_db.specs.inner.Verified.{header_verdict}
use Rattle.rpm_db.specs.declared.verify.Verdict.{Verdict}
use Rattle.rpm_db.specs.declared.verify.Verdict.TheVariants.{BadHeader, BadChecksum, BadDigest, Sound}
use Rattle.rpm_db.specs.inner.Edits.{CanPutPlan}
use Rattle.rpm_hindex.specs.State as hindex
use Rattle.rpm_pkgdb.proofs.Facts.{has_it_from}
use Rattle.rpm_pkgdb.proofs.Made as made
use Rattle.rpm_pkgdb.proofs.Places.{with_at}

-- ---- a store that was changed

more_pages : (moves : Option (List Move)) (pages : ℕ) → pages ≤ pages_after moves pages
more_pages None pages = omega arith
more_pages (Some moves) pages = omega arith

none_in : (f : Option (Option Frame)) → option_map (option_map blob_in) f ≡ None → (sum : Option Bool)
    → option_map (option_map checksum_holds) f ≡ Some sum → sum ≡ Some true
none_in None none sum said = absurd cc
none_in (Some f) none sum said = absurd cc

get_removed : {X : Type 0} (map : finite.FinMap nat_cmp X) (n : ℕ) → finite.get (finite.remove map n) n ≡ None
get_removed map n =
    let tied : eq_by_cmp nat_cmp n n ≡ true = unsigned_tied n n ∙ eq-eqb n n refl in
    finite.get-remove nat_cmp_total map n n ∙ rw tied refl

get_inserted : {X : Type 0} (map : finite.FinMap nat_cmp X) (n : ℕ) (x : X) → finite.get (finite.insert map n x) n ≡ Some x
get_inserted map n x =
    let tied : eq_by_cmp nat_cmp n n ≡ true = unsigned_tied n n ∙ eq-eqb n n refl in
    finite.get-insert nat_cmp_total map n x n ∙ rw tied refl

module _ {D : Type 0} (d : disk.Ghosts D) (old new : D) (before after : Store) (keeps : KeepsStore (pkg d old) before) (some : 1 ≤ before.pages) where
  -- a blob was put
  pub sums_put : (plan : Plan) (blob : List ℕ) → before.generation < 2 ^ 32 → CanPutPlan plan blob before
      → after ≡ with_spare after.spare (with_plan plan before) → IsPut d old new before after plan.target blob
      → KeepsSums plan.target.number (pkg d old) (pkg d new) before after
  sums_put plan blob fits can is put =
      let t = plan.target in
      let target = can.plan_is.target in
      let paged : 1 ≤ pages_after (moves_of plan.page) before.pages = omega (arith, some, more_pages (moves_of plan.page) before.pages) in
      let some_after : 1 ≤ after.pages = subst (λ (v : Store). 1 ≤ v.pages) (sym is) paged in
      let here : slot_at after.slots t.place ≡ slot_for t =
      ap (λ (v : Store). slot_at v.slots t.place) is ∙ get_or-set_same (grown (moves_of plan.page) before).slots t.place (slot_for t) free target.below in
      let low : t.start ≢ 0 = omega (arith, paged, target.start.from_on) in
      let used : is_used (slot_for t) ≡ true = grind (arith, nat_tests) in
      let has : has_number t.number (slot_at after.slots t.place) ≡ true =
      ap (has_number t.number) here ∙ has_it_from t.number (slot_for t) used refl in
      let sound = (made.made (pkg d new) after put.written.kept some_after).sound in
      let slot : slot_with t.number after.slots ≡ Some (slot_for t) =
      with_at after.pages (length (pkg d new)) after.slots sound t.number t.place has ∙ ap Some here in
      record {
        others = λ m differs. verdict_stays (pkg d old) (pkg d new) before after keeps put.written.kept some some_after m (put.others m differs);
        own =
            written_sum (pkg d new) after (slot_for t) before.generation blob put.written.kept some_after slot (ap blocks_for can.length_is)
            (omega (arith, target.number.1)) fits (omega (arith, target.few, can.length_is))
            (ap (λ (k : ℕ). take (blocks_for k) (drop t.start (pkg d new))) can.length_is ∙ put.framed_in);
      }

  -- a number was taken out
  pub sums_erased : (n : ℕ) → after ≡ without_number n before → IsErased d old new before after n → KeepsSums n (pkg d old) (pkg d new) before after
  sums_erased n is gone =
      let some_after : 1 ≤ after.pages = subst (λ (v : Store). 1 ≤ v.pages) (sym is) some in
      let none : finite.get (blobs (pkg d new) after) n ≡ None =
      ap (λ (m : finite.FinMap nat_cmp (Option (List ℕ))). finite.get m n) gone.written.blobs_are ∙ get_removed (blobs (pkg d old) before) n in
      record {
        others = λ m differs. verdict_stays (pkg d old) (pkg d new) before after keeps gone.written.kept some some_after m (gone.others m differs);
        own = none_in (frames (pkg d new) after n) (sym (get-blobs-frames (pkg d new) after n) ∙ none);
      }

-- after another change that keeps them all
pub sums_since : (n : ℕ) (a b c : Units) (st mid after : Store) → ((m : ℕ) → verdict b (without_index mid) m ≡ verdict a (without_index st) m)
    → KeepsSums n b c mid after → KeepsSums n a c st after
sums_since n a b c st mid after same sums = record { others = λ m differs. sums.others m differs ∙ same m; own = sums.own }

verdict_room : (file : Units) (spare : ℕ) (value : Store) (n : ℕ)
    → verdict file (without_index (with_spare spare value)) n ≡ verdict file (without_index value) n
unfolding blobs
verdict_room file spare value n = refl

-- of a value with more room in memory
pub sums_room : (n : ℕ) (a c : Units) (value planned after : Store) → planned ≡ with_spare planned.spare value → KeepsSums n a c planned after
    → KeepsSums n a c value after
sums_room n a c value planned after same sums =
    sums_since n a a c value planned after
    (λ m. ap (λ (v : Store). verdict a (without_index v) m) same ∙ verdict_room a planned.spare value m) sums

-- ---- what verifying says then

-- a change leaves no broken package under its number
changed_good : (change : Change) (s : State) → finite.get (apply change s).packages (changed_number change s) ≢ Some Bad
changed_good (Add bytes) s bad = absurd (let is = sym (get_inserted s.packages (next s) (Good bytes)) ∙ bad in cc)
changed_good (Put n bytes) s bad = absurd (let is = sym (get_inserted s.packages n (Good bytes)) ∙ bad in cc)
changed_good (Erase n) s bad = absurd (let is = sym (get_removed s.packages n) ∙ bad in cc)

-- a package that isn't broken, and whose checksum is right
record IsFine (v : Option Verdict) : Type 0 where
  checksum : v ≢ Some BadChecksum
  header : v ≢ Some BadHeader

digest_fine : (wrong : Bool) → IsFine (Some (if wrong then BadDigest else Sound))
digest_fine true = record { checksum = λ is. absurd cc; header = λ is. absurd cc }
digest_fine false = record { checksum = λ is. absurd cc; header = λ is. absurd cc }

read_fine : (blob : List ℕ) (said : Result Header HeaderFault) → header blob ≡ said → package_of (Some blob) ≢ Bad
    → IsFine (Some (header_verdict true said))
read_fine blob (Ok h) is good = digest_fine (is_digest_wrong h)
read_fine blob (Err fault) is good = absurd (good (let bad : package_of (Some blob) ≡ Bad = rw is refl in bad))

blob_fine : (blob : Option (Option (List ℕ))) (sums : Option (Option Bool)) → ((sum : Option Bool) → sums ≡ Some sum → sum ≡ Some true)
    → option_map package_of blob ≢ Some Bad → IsFine (verdict_of blob sums)
blob_fine None sums right good = record { checksum = λ is. absurd cc; header = λ is. absurd cc }
blob_fine (Some None) None right good = record { checksum = λ is. absurd cc; header = λ is. absurd cc }
blob_fine (Some (Some blob)) None right good = record { checksum = λ is. absurd cc; header = λ is. absurd cc }
blob_fine (Some None) (Some sum) right good = absurd (good refl)
blob_fine (Some (Some blob)) (Some None) right good = absurd (let e = right None refl in cc)
blob_fine (Some (Some blob)) (Some (Some false)) right good = absurd (let e = right (Some false) refl in cc)
blob_fine (Some (Some blob)) (Some (Some true)) right good = read_fine blob (header blob) refl (λ bad. good (ap Some bad))

-- of a change whose state is known
pub verdicts_are : (change : Change) (old new : Units) (before after : Store) (index index' : Option hindex.IndexState) (was is : Bool)
    → state new after ≡ apply change (state old before) → (n : ℕ) → changed_number change (state old before) ≡ n → KeepsSums n old new before after
    → KeepsVerdicts (changed_number change (state old before)) old new (database_of before index was) (database_of after index' is)
verdicts_are change old new before after index index' was is goes n number sums =
    let same : finite.get (packages new after) n ≡ finite.get (apply change (state old before)).packages (changed_number change (state old before)) =
    ap (λ (s : State). finite.get s.packages n) goes ∙ ap (finite.get (apply change (state old before)).packages) (sym number) in
    let fine = blob_fine (finite.get (blobs new after) n) (checksums_hold new after n) sums.own
    (λ bad. changed_good change (state old before) (sym same ∙ get-packages new after n ∙ bad)) in
    subst (λ (k : ℕ). KeepsVerdicts k old new (database_of before index was) (database_of after index' is)) (sym number)
    (record { others = sums.others; checksum = fine.checksum; header = fine.header })

-- the number of a header that is put
pub changed_is : (file : Units) (value : Store) (n : Option ℕ) (bytes : List ℕ) → changed_number (change_at n bytes) (state file value) ≡ number_for n value
changed_is file value None bytes = next-state file value
changed_is file value (Some n) bytes = refl
