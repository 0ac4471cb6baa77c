-- The labels and the numbers that were gathered of all packages.
use Rattle.std.proofs.Common.{◌≡◌, ℕ, Bool, true, false, ◌==◌, cond, List, [], ◌∷◌, ◌++◌, Option, Some, None, Result, Ok, Err, refl, sym, ap, ◌∙◌, append_assoc, append-nil, arith, inl, inr}
use Rattle.std.specs.Prelude.{T}
use Rattle.rpm_filecheck.proofs.Vocabulary.{Bad, bad, bad_of, below_all, both_true, Conflict, conflicts, conflicts_on, eq_by_cmp, find, find-put, flat_map}
use Rattle.rpm_filecheck.proofs.Vocabulary.{GatheredFiles, Good, Header, header, HeaderFault, is_sorted, IsReport, conflict_label, label_at, label_of, label_read, nat_cmp}
use Rattle.rpm_filecheck.proofs.Vocabulary.{none_below, no_files, option_and_then, Package, OwnedPaths, unsigned_tied, with_package, with_packages, with_read}
use Rattle.std.specs.FinMap as finite
use Rattle.std.proofs.lemmas.Cmp.{nat_cmp_total}
use Rattle.std.proofs.lemmas.Bool.{cases_Bool}
use Rattle.std.proofs.lemmas.Bool.Decides.{nat_tests}
use Rattle.rpm_filecheck.proofs.AllOwned.{paths-owned}

-- ---- the numbers that can't be read

bad-read : (n : ℕ) (r : Result Header HeaderFault) (f : GatheredFiles) → (with_read n r f).bad ≡ f.bad
bad-read n (Ok h) f = refl
bad-read n (Err fault) f = refl

bad-one : (n : ℕ) (p : Package) (f : GatheredFiles) → (with_package n p f).bad ≡ f.bad ++ bad_of (n, p)
bad-one n (Good bytes) f = bad-read n (header bytes) f ∙ sym (append-nil f.bad)
bad-one n Bad f = refl

bad-all : (es : List (ℕ × Package)) (f : GatheredFiles) → (with_packages es f).bad ≡ f.bad ++ flat_map bad_of es
bad-all [] f = sym (append-nil f.bad)
bad-all ((n, p) ∷ es) f =
    bad-all es (with_package n p f) ∙ ap (λ (ns : List ℕ). ns ++ flat_map bad_of es) (bad-one n p f) ∙ append_assoc f.bad (bad_of (n, p)) (flat_map bad_of es)

-- ---- labels

-- the first where there is one, else the second
abbrev later : Option (List ℕ) → Option (List ℕ) → Option (List ℕ)
later None old = old
later (Some text) old = Some text

label-read : (q n : ℕ) (r : Result Header HeaderFault) (f : GatheredFiles)
    → find nat_cmp q (with_read n r f).labels ≡ cond (eq_by_cmp nat_cmp q n) (later (label_read r) (find nat_cmp q f.labels)) (find nat_cmp q f.labels)
label-read q n (Ok h) f = find-put nat_cmp nat_cmp_total q n (conflict_label h) f.labels
label-read q n (Err fault) f = elim (eq_by_cmp nat_cmp q n) as (λ b. find nat_cmp q f.labels ≡ cond b (find nat_cmp q f.labels) (find nat_cmp q f.labels)) [
  | true ↦ refl
  | false ↦ refl
]

label-one : (q n : ℕ) (p : Package) (f : GatheredFiles)
    → find nat_cmp q (with_package n p f).labels ≡ cond (eq_by_cmp nat_cmp q n) (later (label_of p) (find nat_cmp q f.labels)) (find nat_cmp q f.labels)
label-one q n (Good bytes) f = label-read q n (header bytes) f
label-one q n Bad f = elim (eq_by_cmp nat_cmp q n) as (λ b. find nat_cmp q f.labels ≡ cond b (find nat_cmp q f.labels) (find nat_cmp q f.labels)) [
  | true ↦ refl
  | false ↦ refl
]

label-all : (q : ℕ) (es : List (ℕ × Package)) (f : GatheredFiles) → T (is_sorted nat_cmp es)
    → find nat_cmp q (with_packages es f).labels ≡ later (option_and_then label_of (find nat_cmp q es)) (find nat_cmp q f.labels)
label-all q [] f sorted = refl
label-all q ((n, p) ∷ es) f sorted =
    let s = both_true (below_all nat_cmp n es) (is_sorted nat_cmp es) sorted in
    let rest = label-all q es (with_package n p f) s.1 in
    let one = label-one q n p f in
    let old = find nat_cmp q f.labels in
    elim (cases_Bool (q == n)) [
      | inl same ↦
          (let is : q ≡ n = grind (arith, nat_tests) in
          let tied : eq_by_cmp nat_cmp q n ≡ true = unsigned_tied q n ∙ same in
          let none : find nat_cmp q es ≡ None = none_below q n es s.0 (omega arith) in
          rest ∙ ap (λ (o : Option Package). later (option_and_then label_of o) (find nat_cmp q (with_package n p f).labels)) none ∙ one
          ∙ ap (λ (b : Bool). cond b (later (label_of p) old) old) tied
          ∙ sym (ap (λ (b : Bool). later (option_and_then label_of (cond b (Some p) (find nat_cmp q es))) old) tied))
      | inr apart ↦
          (let tied : eq_by_cmp nat_cmp q n ≡ false = unsigned_tied q n ∙ apart in
          rest ∙ ap (λ (l : Option (List ℕ)). later (option_and_then label_of (find nat_cmp q es)) l) (one
          ∙ ap (λ (b : Bool). cond b (later (label_of p) old) old) tied)
          ∙ sym (ap (λ (b : Bool). later (option_and_then label_of (cond b (Some p) (find nat_cmp q es))) old) tied))
    ]

later-none : (o : Option (List ℕ)) → later o None ≡ o
later-none None = refl
later-none (Some text) = refl

module _ (packages : finite.FinMap nat_cmp Package) where
  pub bad-told : (with_packages (finite.entries packages) no_files).bad ≡ bad packages
  unfolding bad
  bad-told = bad-all (finite.entries packages) no_files

  pub labels-told : (n : ℕ) → find nat_cmp n (with_packages (finite.entries packages) no_files).labels ≡ label_at packages n
  labels-told n =
      label-all n (finite.entries packages) no_files (finite.entries_sorted packages)
      ∙ later-none (option_and_then label_of (find nat_cmp n (finite.entries packages)))
      ∙ ap (option_and_then label_of) (sym (finite.get-entries packages n))

  -- the report that is made of it
  pub is_report : (found : GatheredFiles) (made : List Conflict) → found ≡ with_packages (finite.entries packages) no_files
      → made ≡ flat_map (λ e. conflicts_on e.0 e.1) found.paths → IsReport packages (record { conflicts = made; bad = found.bad; labels = found.labels })
  unfolding conflicts
  is_report found made is made_of = record {
    conflicts_are = made_of ∙ ap (λ (f : GatheredFiles). flat_map (λ e. conflicts_on e.0 e.1) f.paths) is
        ∙ ap (λ (es : OwnedPaths). flat_map (λ e. conflicts_on e.0 e.1) es) (paths-owned packages);
    bad_are = ap (λ (f : GatheredFiles). f.bad) is ∙ bad-told;
    labels_are = λ n. ap (λ (f : GatheredFiles). find nat_cmp n f.labels) is ∙ labels-told n;
  }
