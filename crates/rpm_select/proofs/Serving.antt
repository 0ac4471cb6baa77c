-- What a picker goes over has whatever is picked.
use Rattle.std.proofs.Common.{◌≡◌, ℕ, ◌==◌, Bool, true, false, [], ◌∷◌, Ok, Err, Result, refl, sym, ap, ◌∙◌}
use Rattle.rpm_select.proofs.Vocabulary.{All, Bad, complete, Conflicts, Directory, Good, Group, has_keys, Header, header, HeaderFault, is_in, is_picked}
use Rattle.rpm_select.proofs.Vocabulary.{Label, nat_cmp, Number, Obsoletes, or_left, Package, Path, Pattern, Provides, reach, Recommends, Requires, Selection}
use Rattle.rpm_select.proofs.Vocabulary.{Serves, takes_header, takes_read, Tid, Trigger, unindexed_reach}
use Rattle.std.specs.FinMap as finite
use Rattle.std.proofs.lemmas.Bool.{eqb-true, eq-eqb}
use Rattle.rpm_select.proofs.Having.{is_candidate_at}
use Rattle.rpm_select.proofs.Rising.{candidates_in}

header_number : (m n : ℕ) (r : Result Header HeaderFault) → takes_read (Number m) n r ≡ true → (n == m) ≡ true
unfolding takes_header
header_number m n (Ok h) takes = takes
header_number m n (Err fault) takes = absurd cc

number_taken : (m n : ℕ) (p : Package) → is_picked (Number m) (n, p) ≡ true → is_in n (m ∷ []) ≡ true
number_taken m n (Good bytes) takes = or_left (m == n) false (eq-eqb m n (sym (eqb-true n m (header_number m n (header bytes) takes))))
number_taken m n Bad takes = or_left (m == n) false (eq-eqb m n (sym (eqb-true n m takes)))

pub unasked_serves : (packages : finite.FinMap nat_cmp Package) (sel : Selection) → Serves (unindexed_reach sel) packages sel
unasked_serves packages (Number m) = λ n p there takes. number_taken m n p takes
unasked_serves packages All = tt
unasked_serves packages (Pattern x) = tt
unasked_serves packages (Label x) = tt
unasked_serves packages (Path x) = tt
unasked_serves packages (Group x) = tt
unasked_serves packages (Provides c) = tt
unasked_serves packages (Requires c) = tt
unasked_serves packages (Conflicts c) = tt
unasked_serves packages (Obsoletes c) = tt
unasked_serves packages (Trigger x) = tt
unasked_serves packages (Directory x) = tt
unasked_serves packages (Tid t) = tt
unasked_serves packages (Recommends c) = tt

pub served : (asked : Bool) (sel : Selection) (packages : finite.FinMap nat_cmp Package) → (asked ≡ true → has_keys sel ≡ true)
    → Serves (reach asked sel packages) packages sel
served false sel packages keyed = unasked_serves packages sel
served true sel packages keyed = λ n p there takes.
    candidates_in packages sel n ∙ ap (is_candidate_at sel n) there ∙ complete sel n p (keyed refl) takes
