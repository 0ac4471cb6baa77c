-- A label begins with the name: it is among the names that the label can begin with.
use Rattle.std.proofs.Common.{◌≡◌, ℕ, zero, suc, ◌+◌, ◌-◌, ◌<◌, ◌≤◌, List, [], ◌∷◌, ◌++◌, length, take, get_or, Bool}
use Rattle.std.proofs.Common.{true, false, not, ◌||◌, ◌==◌, Option, Some, None, refl, sym, ap, ◌∙◌, subst, inl, inr}
use Rattle.std.proofs.Common.{arith, length-append, append_assoc}
use Rattle.std.specs.Prelude.{◌⊎◌, if◌then◌else◌}
use Rattle.std.specs.List.{list_any, before_last, suffix_len}
use Rattle.std.specs.Option.{option_and_then}
use Rattle.std.specs.Str.{bytes_eq}
use Rattle.std.proofs.lemmas.Bool.{cases_Bool}
use Rattle.std.proofs.lemmas.List.{get_or-append_right}
use Rattle.std.proofs.Math.Seq.{get_or-append_seam, take-append_seam}
use Rattle.std.proofs.lemmas.List.Folds.{list_any-append}
use Rattle.std.proofs.lemmas.List.Sums.{suffix_len_is}
use Rattle.rpm_select.specs.Candidates.{cut_text, names_in}
use Rattle.std.specs.Option.{option_to_list}
use Rattle.rpm_version.specs.Evr.{is_dash}
use Rattle.rpm_select.specs.Labels.{without_bytes, with_arch, with_version}
use Rattle.rpm_select.specs.inner.Labelled.{is_dash_or_dot, with_release}
use Rattle.rpm_select.specs.inner.Labelled.{with_name}
use Rattle.rpm_select.specs.Selections.{is_text_among}
use Rattle.rpm_select.proofs.laws.Keyed.{or_left, or_right, or_cases, same_bytes, are_same}

-- The byte of a dot.
abbrev is_dot : ℕ → Bool
is_dot b = b == 46

or_none : (a b : Bool) → (a || b) ≡ false → (a ≡ false) × (b ≡ false)
or_none true b is = absurd cc
or_none false b is = (refl, is)

or_false : (a b : Bool) → a ≡ false → b ≡ false → (a || b) ≡ false
or_false true b first second = absurd cc
or_false false b first second = second

among_right : (x : List ℕ) (xs ys : List (List ℕ)) → is_text_among x ys ≡ true → is_text_among x (xs ++ ys) ≡ true
among_right x xs ys is = list_any-append (bytes_eq x) xs ys ∙ or_right (is_text_among x xs) (is_text_among x ys) is

among_left : (x : List ℕ) (xs ys : List (List ℕ)) → is_text_among x xs ≡ true → is_text_among x (xs ++ ys) ≡ true
among_left x xs ys is = list_any-append (bytes_eq x) xs ys ∙ or_left (is_text_among x xs) (is_text_among x ys) is

at_behind : (xs : List ℕ) (c : ℕ) (ys : List ℕ) (k : ℕ) → length xs + 1 ≤ k
    → get_or (xs ++ c ∷ ys) k 0 ≡ get_or ys (k - (length xs + 1)) 0
at_behind xs c ys k from =
    let size : length (xs ++ c ∷ []) ≡ length xs + 1 = omega (arith, length-append xs (c ∷ [])) in
    ap (λ (zs : List ℕ). get_or zs k 0) (sym (append_assoc xs (c ∷ []) ys))
    ∙ get_or-append_right (xs ++ c ∷ []) ys (length xs + 1) k 0 size from

minus_one : (n : ℕ) → n + 1 - 1 ≡ n
minus_one n = omega arith

cut_size : (all behind xs ys : ℕ) → all ≡ xs + (1 + ys) → behind ≡ all - (xs + 1) → all - behind - 1 ≡ xs
cut_size all behind xs ys size is = omega (arith, size, is)

none_at : (p : ℕ → Bool) (ys : List ℕ) (k : ℕ) → list_any p ys ≡ false → k < length ys → p (get_or ys k 0) ≡ false
none_at p [] k none within = absurd (omega arith)
none_at p (y ∷ ys) zero none within = (or_none (p y) (list_any p ys) none).0
none_at p (y ∷ ys) (suc k) none within = none_at p ys k (or_none (p y) (list_any p ys) none).1 (omega arith)

-- such a byte, and none after it
pub cut_at : (p : ℕ → Bool) (xs : List ℕ) (c : ℕ) (ys : List ℕ) → p c ≡ true → list_any p ys ≡ false
    → cut_text p (xs ++ c ∷ ys) ≡ Some xs
cut_at p xs c ys end none =
    let zs = xs ++ c ∷ ys in
    let n = length xs + 1 in
    let size : length zs ≡ length xs + (1 + length ys) = omega (arith, length-append xs (c ∷ ys)) in
    let some : list_any p zs ≡ true =
    list_any-append p xs (c ∷ ys) ∙ or_right (list_any p xs) (list_any p (c ∷ ys))
    (or_left (p c) (list_any p ys) end) in
    let seam : get_or zs (length xs) 0 ≡ c = get_or-append_seam xs c ys 0 in
    let behind : suffix_len (λ b. not (p b)) zs ≡ length zs - n =
    suffix_len_is (λ b. not (p b)) zs n 0 (omega (arith, size))
    (λ k from within. ap not (ap p (at_behind xs c ys k from) ∙ none_at p ys (k - n) none (omega (arith, size))))
    (λ more. ap not (ap (λ (i : ℕ). p (get_or zs i 0)) (minus_one (length xs)) ∙ ap p seam ∙ end)) in
    let whole : before_last p zs ≡ xs =
    ap (λ (i : ℕ). take i zs) (cut_size (length zs) (suffix_len (λ b. not (p b)) zs) (length xs)
    (length ys) size behind) ∙ take-append_seam xs (c ∷ ys) in
    ap (λ (b : Bool). if b then Some (before_last p zs) else None) some ∙ ap Some whole

-- ---- the six labels

no_dash : (o : Option (List ℕ)) (v : List ℕ) → without_bytes is_dash o ≡ Some v → list_any is_dash v ≡ false
no_dash None v is = absurd cc
no_dash (Some x) v is = elim (cases_Bool (list_any is_dash x)) [
  | inl some ↦ (let other = rw some at is in absurd cc)
  | inr none ↦ (let kept : Some x ≡ Some v = rw none at is in let same : x ≡ v = cc in ap (list_any is_dash) (sym same)
      ∙ none)
]

no_mark : (o : Option (List ℕ)) (a : List ℕ) → without_bytes is_dash_or_dot o ≡ Some a
    → list_any is_dash_or_dot a ≡ false
no_mark None a is = absurd cc
no_mark (Some x) a is = elim (cases_Bool (list_any is_dash_or_dot x)) [
  | inl some ↦ (let other = rw some at is in absurd cc)
  | inr none ↦ (let kept : Some x ≡ Some a = rw none at is in let same : x ≡ a = cc in
      ap (list_any is_dash_or_dot) (sym same) ∙ none)
]

dashless : (a : List ℕ) → list_any is_dash_or_dot a ≡ false → list_any is_dash a ≡ false
dashless [] none = refl
dashless (b ∷ a) none =
    let both = or_none (is_dash_or_dot b) (list_any is_dash_or_dot a) none in
    or_false (is_dash b) (list_any is_dash a) (or_none (b == 45) (b == 46) both.0).0 (dashless a both.1)

dotless : (a : List ℕ) → list_any is_dash_or_dot a ≡ false → list_any is_dot a ≡ false
dotless [] none = refl
dotless (b ∷ a) none =
    let both = or_none (is_dash_or_dot b) (list_any is_dash_or_dot a) none in
    or_false (is_dot b) (list_any is_dot a) (or_none (b == 45) (b == 46) both.0).1 (dotless a both.1)

-- a text that goes on with a dot and an architecture has no dash more
arch_behind : (v a : List ℕ) → list_any is_dash v ≡ false → list_any is_dash a ≡ false
    → list_any is_dash (v ++ 46 ∷ a) ≡ false
arch_behind v a no_dash_v no_dash_a =
    list_any-append is_dash v (46 ∷ a) ∙ or_false (list_any is_dash v) (list_any is_dash (46 ∷ a)) no_dash_v no_dash_a

-- the name is among those that a text can begin with
abbrev IsCandidateName : List ℕ → List ℕ → Type 0
IsCandidateName name x = is_text_among name (names_in x) ≡ true

one_has : (name : List ℕ) (o : Option (List ℕ)) → o ≡ Some name → is_text_among name (option_to_list o) ≡ true
one_has name o is =
    subst (λ (cutted : Option (List ℕ)). is_text_among name (option_to_list cutted) ≡ true) (sym is)
    (or_left (bytes_eq name name) false (are_same name name refl))

-- the text itself; cut before its last dot; before its last dash; before its last dash but one
abbrev dot_of : List ℕ → List (List ℕ)
dot_of x = option_to_list (cut_text is_dot x)

-- a text cut before its last dash, or nothing
abbrev dash_of : List ℕ → List (List ℕ)
dash_of x = option_to_list (cut_text is_dash x)

-- a text cut before its last dash but one, or nothing
abbrev twice_of : List ℕ → List (List ℕ)
twice_of x = option_to_list (option_and_then (cut_text is_dash) (cut_text is_dash x))

whole : (x : List ℕ) → IsCandidateName x x
whole x = or_left (bytes_eq x x) (is_text_among x (dot_of x ++ dash_of x ++ twice_of x)) (are_same x x refl)

dotted : (name x : List ℕ) → cut_text is_dot x ≡ Some name → IsCandidateName name x
dotted name x is =
    or_right (bytes_eq name x) (is_text_among name (dot_of x ++ dash_of x ++ twice_of x))
    (among_left name (dot_of x ++ dash_of x) (twice_of x)
    (among_left name (dot_of x) (dash_of x) (one_has name (cut_text is_dot x) is)))

dashed : (name x : List ℕ) → cut_text is_dash x ≡ Some name → IsCandidateName name x
dashed name x is =
    or_right (bytes_eq name x) (is_text_among name (dot_of x ++ dash_of x ++ twice_of x))
    (among_left name (dot_of x ++ dash_of x) (twice_of x)
    (among_right name (dot_of x) (dash_of x) (one_has name (cut_text is_dash x) is)))

twice : (name mid x : List ℕ) → cut_text is_dash x ≡ Some mid → cut_text is_dash mid ≡ Some name
    → IsCandidateName name x
twice name mid x first second =
    or_right (bytes_eq name x) (is_text_among name (dot_of x ++ dash_of x ++ twice_of x))
    (among_right name (dot_of x ++ dash_of x) (twice_of x)
    (one_has name (option_and_then (cut_text is_dash) (cut_text is_dash x))
    (ap (option_and_then (cut_text is_dash)) first ∙ second)))

-- ---- whichever label it is

among_cases : (x t : List ℕ) (ts : List (List ℕ)) → is_text_among x (t ∷ ts) ≡ true → (x ≡ t)
    ⊎ (is_text_among x ts ≡ true)
among_cases x t ts is = elim (or_cases (bytes_eq x t) (is_text_among x ts) is)
    [ inl first ↦ inl (same_bytes x t first) | inr later ↦ inr later ]

-- of a text with or without the architecture
arch_cases : (x : List ℕ) (arch : Option (List ℕ)) (text : List ℕ) → is_text_among x (with_arch arch text) ≡ true
    → (x ≡ text) ⊎ ((a : List ℕ) × (arch ≡ Some a) × (x ≡ text ++ 46 ∷ a))
arch_cases x None text is = elim (among_cases x text [] is) [ inl first ↦ inl first | inr later ↦ absurd cc ]
arch_cases x (Some a) text is = elim (among_cases x text ((text ++ 46 ∷ a) ∷ []) is) [
  | inl first ↦ inl first
  | inr later ↦ elim (among_cases x (text ++ 46 ∷ a) [] later)
      [ inl second ↦ inr (a, refl, second) | inr none ↦ absurd cc ]
]

append_cases : (x : List ℕ) (ts us : List (List ℕ)) → is_text_among x (ts ++ us) ≡ true → (is_text_among x ts ≡ true)
    ⊎ (is_text_among x us ≡ true)
append_cases x ts us is =
    or_cases (is_text_among x ts) (is_text_among x us) (sym (list_any-append (bytes_eq x) ts us) ∙ is)

module _ (x name : List ℕ) (arch : Option (List ℕ))
    (unmarked : (a : List ℕ) → arch ≡ Some a → list_any is_dash_or_dot a ≡ false) where
  of_name : is_text_among x (with_arch arch name) ≡ true → IsCandidateName name x
  of_name is = elim (arch_cases x arch name is) [
    | inl first ↦ subst (IsCandidateName name) (sym first) (whole name)
    | inr later ↦ dotted name x (ap (cut_text is_dot) later.2
        ∙ cut_at is_dot name 46 later.0 refl (dotless later.0 (unmarked later.0 later.1)))
  ]

  module _ (v : List ℕ) (undashed : list_any is_dash v ≡ false) where
    of_version : is_text_among x (with_arch arch (name ++ 45 ∷ v)) ≡ true → IsCandidateName name x
    of_version is = elim (arch_cases x arch (name ++ 45 ∷ v) is) [
      | inl first ↦ dashed name x (ap (cut_text is_dash) first ∙ cut_at is_dash name 45 v refl undashed)
      | inr later ↦
          (let a = later.0 in
          let rest = v ++ 46 ∷ a in
          let none = arch_behind v a undashed (dashless a (unmarked a later.1)) in
          dashed name x (ap (cut_text is_dash) (later.2 ∙ append_assoc name (45 ∷ v) (46 ∷ a))
          ∙ cut_at is_dash name 45 rest refl none))
    ]

    of_release : (r : List ℕ) → list_any is_dash r ≡ false
        → is_text_among x (with_arch arch ((name ++ 45 ∷ v) ++ 45 ∷ r)) ≡ true → IsCandidateName name x
    of_release r none is =
        let mid = name ++ 45 ∷ v in
        let back = cut_at is_dash name 45 v refl undashed in
        elim (arch_cases x arch (mid ++ 45 ∷ r) is) [
          | inl first ↦ twice name mid x (ap (cut_text is_dash) first ∙ cut_at is_dash mid 45 r refl none) back
          | inr later ↦
              (let a = later.0 in
              let rest = r ++ 46 ∷ a in
              let none_more = arch_behind r a none (dashless a (unmarked a later.1)) in
              twice name mid x (ap (cut_text is_dash) (later.2 ∙ append_assoc mid (45 ∷ r) (46 ∷ a))
              ∙ cut_at is_dash mid 45 rest refl none_more) back)
        ]

    of_releases : (release : Option (List ℕ)) → ((r : List ℕ) → release ≡ Some r → list_any is_dash r ≡ false)
        → is_text_among x (with_release arch release (name ++ 45 ∷ v)) ≡ true → IsCandidateName name x
    of_releases None plain is = absurd cc
    of_releases (Some r) plain is = of_release r (plain r refl) is

  of_versions : (version release : Option (List ℕ)) → ((v : List ℕ) → version ≡ Some v → list_any is_dash v ≡ false)
      → ((r : List ℕ) → release ≡ Some r → list_any is_dash r ≡ false)
      → is_text_among x (with_version arch version release name) ≡ true → IsCandidateName name x
  of_versions None release plain plain_too is = absurd cc
  of_versions (Some v) release plain plain_too is =
      elim (append_cases x (with_arch arch (name ++ 45 ∷ v)) (with_release arch release (name ++ 45 ∷ v)) is) [
        | inl first ↦ of_version v (plain v refl) first
        | inr later ↦ of_releases v (plain v refl) release plain_too later
      ]

-- a label has a name, with which it begins
pub label_begins : (x : List ℕ) (name arch version release : Option (List ℕ))
    → is_text_among x (with_name (without_bytes is_dash_or_dot arch) name (without_bytes is_dash version)
    (without_bytes is_dash release)) ≡ true
    → (n : List ℕ) × (name ≡ Some n) × IsCandidateName n x
label_begins x None arch version release is = absurd cc
label_begins x (Some n) arch version release is = (
  n,
  refl,
  elim (append_cases x (with_arch (without_bytes is_dash_or_dot arch) n)
      (with_version (without_bytes is_dash_or_dot arch) (without_bytes is_dash version)
      (without_bytes is_dash release) n) is) [
        | inl first ↦ of_name x n (without_bytes is_dash_or_dot arch) (no_mark arch) first
        | inr later ↦
            of_versions x n (without_bytes is_dash_or_dot arch) (no_mark arch) (without_bytes is_dash version)
            (without_bytes is_dash release) (no_dash version)
            (no_dash release) later
      ],
)
