-- A package that was read, and what a selection does with it.
use Rattle.std.proofs.Common.{◌≡◌, ℕ, ◌<◌, ◌≤◌, List, [], ◌∷◌, Bool, true, false, nat_lt, Option, Some, None, Ok, Err, refl, sym, ap, ◌∙◌, subst, Bor, inl, inr, arith}
use Rattle.std.specs.Prelude.{IfSome, Result, T}
use Rattle.rpm_select.proofs.Unpicked.{find_here, find_later}
use Rattle.rpm_select.proofs.Vocabulary.{above, All, Bad, below_all, both_true, entry_in, filter, Good, Header, header, HeaderFault, is_picked, IsNext, IsOf, nat_cmp}
use Rattle.rpm_select.proofs.Vocabulary.{NextIs, NextNumberIs, number_in, OneOf, Package}
use Rattle.rpm_select.proofs.Vocabulary.{package_in, Picked, picks, picks_at, Recalls, Recent, Selection, takes_header, takes_read}
use Rattle.std.specs.FinMap as finite
use Rattle.std.proofs.lemmas.Bool.{cases_Bool}
use Rattle.std.proofs.lemmas.Bool.Decides.{nat_tests}
use Rattle.rpm_select.specs.declared.picked.Picked.TheVariants as picked

packaged : (p : Picked) → (entry_in p).1 ≡ package_in p
packaged (picked.Good number blob) = refl
packaged (picked.Bad number) = refl

-- what all packages are asked for gives the one of the number
pub read_at : (n : ℕ) (o : Option Package) (p : Picked) → OneOf All n o (Ok (Some p)) → o ≡ Some (package_in p)
read_at n None p one = absurd one
read_at n (Some q) p one = ap (λ (e : ℕ × Package). Some e.1) (sym one.1) ∙ ap Some (packaged p)

none_read : (sel : Selection) (n : ℕ) (r : Result Header HeaderFault) → takes_read All n r ≡ false → takes_read sel n r ≡ false
unfolding takes_header
none_read sel n (Ok h) none = absurd cc
none_read sel n (Err fault) none = refl

-- and what gives none of them has none that another selection picks
pub none_at : (sel : Selection) (n : ℕ) (o : Option Package) → OneOf All n o (Ok None) → false ≡ picks_at sel n o
none_at sel n None one = refl
none_at sel n (Some (Good bytes)) one = sym (none_read sel n (header bytes) one)
none_at sel n (Some Bad) one = absurd cc

-- a package of this number is picked where a selection takes it
pub picked_at : (all : finite.FinMap nat_cmp Package) (sel : Selection) (n : ℕ) (p : Picked) (b : Bool) → number_in p ≡ n → IsOf all p
    → b ≡ is_picked sel (number_in p, package_in p) → b ≡ picks_at sel n (finite.get all n)
picked_at all sel n p b is of told =
    told ∙ ap (picks_at sel (number_in p)) (sym of) ∙ ap (λ (m : ℕ). picks_at sel m (finite.get all m)) is

-- of a number that is passed over
pub passed_at : (sel : Selection) (n : ℕ) (o : Option Package) → false ≡ picks_at sel n o → OneOf sel n o (Ok None)
passed_at sel n None is = tt
passed_at sel n (Some p) is = sym is

-- what was passed is the start, where no number lies between the start and this one
pub at_start : (there : ℕ → Bool) (n k m : ℕ) → n ≤ k → (n < k → there k ≡ true) → IsNext there n (Some m) → k < m → k ≡ n
at_start there n k m le at next lt = elim (cases_Bool (nat_lt n k)) [
  | inl below ↦
      (let under : n < k = grind (arith, nat_tests) in
      let both : true ≡ false = sym (at under) ∙ next.2 k under lt in absurd cc)
  | inr other ↦ (let over : k ≤ n = grind (arith, nat_tests) in omega (arith, le, over))
]

-- the first that is picked above a number is the package of its number
found_first : (P : ℕ × Package → Bool) (n : ℕ) (es : List (ℕ × Package)) → T (finite.is_sorted nat_cmp es) → (e : ℕ × Package) (rest : List (ℕ × Package))
    → above n (filter P es) ≡ e ∷ rest → finite.find nat_cmp e.0 es ≡ Some e.1
found_first P n [] t e rest is = absurd cc
found_first P n (x ∷ xs) t e rest is =
    let s = both_true (below_all nat_cmp x.0 xs) (finite.is_sorted nat_cmp xs) t in
    let later : above n (filter P xs) ≡ e ∷ rest → finite.find nat_cmp e.0 (x ∷ xs) ≡ Some e.1 =
    λ left. find_later e.0 e.1 x xs s.0 (found_first P n xs s.1 e rest left) in
    elim (cases_Bool (P x)) [
      | inr other ↦ later (rw other at is)
      | inl takes ↦ elim (cases_Bool (nat_lt n x.0)) [
        | inr under ↦ later (rw (takes, under) at is)
        | inl over ↦
            (let both : x ∷ above n (filter P xs) ≡ e ∷ rest = rw (takes, over) at is in
            let same : x ≡ e = cc in
            subst (λ (y : ℕ × Package). finite.find nat_cmp y.0 (x ∷ xs) ≡ Some y.1) same (find_here x xs))
      ]
    ]

entry_of : (p : Picked) → entry_in p ≡ (number_in p, package_in p)
entry_of (picked.Good number blob) = refl
entry_of (picked.Bad number) = refl

-- what is held under the number of the next one is the next one
pub next_recalled : (all : finite.FinMap nat_cmp Package) (sel : Selection) (n m : ℕ) (p : Picked) → number_in p ≡ m → IsOf all p
    → NextNumberIs (above n (picks all sel)) (Ok (Some m)) → NextIs (above n (picks all sel)) (Ok (Some p))
unfolding picks
next_recalled all sel n m p is of next =
    let found : finite.get all m ≡ Some next.0 = finite.get-entries all m
    ∙ found_first (is_picked sel) n (finite.entries all) (finite.entries_sorted all) (m, next.0) next.1 next.2 in
    let both : Some (package_in p) ≡ Some next.0 = sym of ∙ ap (finite.get all) is ∙ found in
    let value : package_in p ≡ next.0 = cc in
    let entry : (m, next.0) ≡ entry_in p = sym (entry_of p ∙ ap (λ (i : ℕ). (i, package_in p)) is ∙ ap (λ (v : Package). (m, v)) value) in
    (next.1, next.2 ∙ ap (λ (e : ℕ × Package). e ∷ next.1) entry)

-- where the last one has this number, and where the longest one may have it
pub last_next : (recent : Recent) (m : ℕ) (p : Picked) → recent.last ≡ Some p → number_in p ≡ m → (all : finite.FinMap nat_cmp Package) (sel : Selection)
    (n : ℕ) → Recalls all recent → NextNumberIs (above n (picks all sel)) (Ok (Some m)) → NextIs (above n (picks all sel)) (Ok (Some p))
last_next recent m p is number all sel n holds =
    next_recalled all sel n m p number (subst (λ (o : Option Picked). IfSome o (IsOf all)) is holds.0)

pub longest_next : (recent : Recent) (m : ℕ) (r : Option (Bor Picked)) → IfSome r (λ p. recent.longest ≡ Some p.now) → IfSome r (λ p. number_in p.now ≡ m)
    → IfSome r (λ p. (all : finite.FinMap nat_cmp Package) (sel : Selection) (n : ℕ) → Recalls all recent
    → NextNumberIs (above n (picks all sel)) (Ok (Some m)) → NextIs (above n (picks all sel)) (Ok (Some p.now)))
longest_next recent m None is number = tt
longest_next recent m (Some p) is number = λ all sel n holds.
    next_recalled all sel n m p.now number (subst (λ (o : Option Picked). IfSome o (IsOf all)) is holds.1)
