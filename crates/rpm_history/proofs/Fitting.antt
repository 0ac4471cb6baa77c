-- What each command puts goes under a number that the field has passed, or a new one.
use Rattle.std.proofs.Common.{◌≡◌, ℕ, ◌+◌, ◌<◌, zero, suc, Bool, true, false, List, [], ◌∷◌, length, refl, arith, nat_lt}
use Rattle.std.specs.Prelude.{Option, Some, None, Result, Ok, Err, codes, is_some, if◌then◌else◌}
use Rattle.std.specs.Option.{option_map_or}
use Rattle.std.specs.FinMap as finite
use Rattle.rpm_history.proofs.Vocabulary.{above, add_file, Adding, apply_all, as_installed, asked_task, AskParts, Bad, bytes_at, Course, course_of, drop_each}
use Rattle.rpm_history.proofs.Vocabulary.{erase_one, erasure, Erasing, Exercising, FileFault, Good, Header, header, HeaderFault, idle, import_from, import_next}
use Rattle.rpm_history.proofs.Vocabulary.{import_list, imported_header, Importing, in_turn, list_head, ListFault, BlobAndRest, Making, max_headers, Package}
use Rattle.rpm_history.proofs.Vocabulary.{package_header, Paths, place_fails, Placing, put_found, put_installed, Rebuilding, replacement, Replacing, State}
use Rattle.rpm_history.proofs.Vocabulary.{task_course, TaskParts, Tree}
use Rattle.rpm_history.proofs.Ahead.{Ahead, Fits, PutsUnder, under_then, under_fits}
use Rattle.rpm_history.proofs.ExerciseFits.{exercise_fits}

-- ---- files

abbrev IsUnder : ℕ → Option ℕ → Type 0
IsUnder f None = Unit {0}
IsUnder f (Some n) = n < f

installed_under : (f : ℕ) (number : Option ℕ) → IsUnder f number → (j : ℕ) (path : List ℕ) (r : Result Header FileFault)
    → PutsUnder f (put_installed number j path r).changes
installed_under f None under j path (Ok h) = (tt, tt)
installed_under f (Some n) under j path (Ok h) = (under, tt)
installed_under f number under j path (Err fault) = tt

found_under : (f : ℕ) (how : Placing) → IsUnder f how.number → (j : ℕ) (path : List ℕ) (found : Option (List ℕ))
    → PutsUnder f (put_found how j path found).changes
found_under f how under j path None = tt
found_under f how under j path (Some bytes) =
    installed_under f how.number under j path (as_installed how.moment (package_header bytes))

replaced_under : (f : ℕ) (paths : Paths) (now n : ℕ) (path : List ℕ) (o : Option Package) → (is_some o ≡ true → n < f)
    → PutsUnder f (replacement o paths now n path).changes
replaced_under f paths now n path None held = tt
replaced_under f paths now n path (Some p) held =
    found_under f (record { number = Some n; moment = now }) (held refl) 0 path (bytes_at paths path)

turns_under : {X : Type 0} (f : ℕ) (each : State → ℕ → X → Course) → ((s : State) (j : ℕ) (x : X) → PutsUnder f (each s j x).changes)
    → (s : State) (j : ℕ) (xs : List X) → PutsUnder f (in_turn each s j xs).changes
turns_under f each so s j [] = tt
turns_under f each so s j (x ∷ xs) =
    under_then f (each s j x).changes (in_turn each (apply_all (each s j x).changes s) (j + 1) xs).changes (so s j x)
    (turns_under f each so (apply_all (each s j x).changes s) (j + 1) xs)

erased_under : (f : ℕ) (o : Option Package) (j n : ℕ) → PutsUnder f (erasure o j n).changes
erased_under f None j n = tt
erased_under f (Some p) j n = (tt, tt)

-- ---- lists, and rebuilding

imported_under : (f k : ℕ) (r : Result Header HeaderFault) → PutsUnder f (imported_header k r).changes
imported_under f k (Ok h) = (tt, tt)
imported_under f k (Err fault) = tt

course_under : (f : ℕ) (a b : Course) (first : Bool) → PutsUnder f a.changes → PutsUnder f b.changes → PutsUnder f (if first then a else b).changes
course_under f a b true one other = one
course_under f a b false one other = other

next_under : (f most k : ℕ) (after : List ℕ → Course) (r : Result (Option BlobAndRest) ListFault)
    → ((rest : List ℕ) → PutsUnder f (after rest).changes) → PutsUnder f (import_next after most k r).changes
next_under f most k after (Ok None) behind = tt
next_under f most k after (Ok (Some found)) behind =
    course_under f (place_fails k (codes "too many headers")) _ (nat_lt most k) tt
    (under_then f (imported_header k (header found.blob)).changes (after found.rest).changes (imported_under f k (header found.blob))
    (behind found.rest))
next_under f most k after (Err fault) behind = tt

import_under : (f most k turns : ℕ) (bytes : List ℕ) → PutsUnder f (import_from most k turns bytes).changes
import_under f most k zero bytes = tt
import_under f most k (suc turns) bytes =
    next_under f most k (import_from most (k + 1) turns) (list_head bytes) (λ rest. import_under f most (k + 1) turns rest)

list_under : (f most : ℕ) (bytes : Option (List ℕ)) → PutsUnder f (import_list most bytes).changes
list_under f most None = tt
list_under f most (Some bytes) = import_under f most 1 (length bytes) bytes

drop_under : (f : ℕ) (es : List (ℕ × Package)) → PutsUnder f (drop_each es).changes
drop_under f [] = tt
drop_under f ((n, Good bytes) ∷ es) = drop_under f es
drop_under f ((n, Bad) ∷ es) = (tt, drop_under f es)

-- ---- each command

task_fits : (paths : Paths) (now : ℕ) (task : TaskParts) (s : State) → Ahead s → Fits (task_course paths now task s).changes s
task_fits paths now Making s ahead = tt
task_fits paths now (Adding files) s ahead =
    under_fits 0 (task_course paths now (Adding files) s).changes s (omega arith) (turns_under 0 (add_file now paths)
    (λ t j path. found_under 0 (record { number = None; moment = now }) tt j path (bytes_at paths path)) s 0 files)
task_fits paths now (Replacing n path) s ahead =
    under_fits s.field (task_course paths now (Replacing n path) s).changes s (omega arith)
    (replaced_under s.field paths now n path (finite.get s.packages n) (λ there. ahead.below n there))
task_fits paths now (Erasing numbers) s ahead =
    under_fits 0 (task_course paths now (Erasing numbers) s).changes s (omega arith)
    (turns_under 0 erase_one (λ t j n. erased_under 0 (finite.get t.packages n) j n) s 0 numbers)
task_fits paths now Importing s ahead =
    under_fits 0 (task_course paths now Importing s).changes s (omega arith) (list_under 0 max_headers (bytes_at paths (codes "-")))
task_fits paths now Rebuilding s ahead =
    under_fits 0 (task_course paths now Rebuilding s).changes s (omega arith) (drop_under 0 (above 0 (finite.entries s.packages)))
task_fits paths now (Exercising n) s ahead = exercise_fits n s ahead

asked_fits : (paths : Paths) (now : ℕ) (task : Option TaskParts) (s : State) → Ahead s
    → Fits (option_map_or (λ t. task_course paths now t s) task idle).changes s
asked_fits paths now None s ahead = tt
asked_fits paths now (Some task) s ahead = task_fits paths now task s ahead

pub course_fits : (paths : Paths) (now : ℕ) (words : List (List ℕ)) (read : Option (AskParts × Tree)) (s : State) → Ahead s
    → Fits (course_of paths now words read s).changes s
course_fits paths now words None s ahead = tt
course_fits paths now words (Some asked) s ahead =
    asked_fits paths now (asked_task words asked.0) s ahead
