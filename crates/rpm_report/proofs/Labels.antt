-- The labels that the reports tell are what the format of labels means.
use Rattle.std.proofs.Common.{◌≡◌, ℕ, ◌-◌, ◌++◌, List, [], Option, Some, None, Result, Ok, Err, length, replicate, refl, sym, ap, ◌∙◌, arith}
use Rattle.std.specs.Prelude.{false, unwrap_or}
use Rattle.rpm_report.proofs.Vocabulary.{after_number, ARCH, as_text, Bad, bearer, bytes, condition, Conflict, Element, End, FinMap, first_text, format, get}
use Rattle.rpm_report.proofs.Vocabulary.{Good, Header, header, header_label, header_or, HeaderFault, IsReport, label, label_told, label_tree}
use Rattle.rpm_report.proofs.Vocabulary.{meaning, move_of, NAME, nat_cmp, number_of, Nvra, option_and_then, out_bytes, Package, package_text, padded_text, Plain, printed_step, reading}
use Rattle.rpm_report.proofs.Vocabulary.{RELEASE, Report, report_steps, sizes, formatter_table, tag_part, Tagged, TagPart, text_or_none, told_steps, Tree, value}
use Rattle.rpm_report.proofs.Vocabulary.{VERSION}
use Rattle.std.proofs.lemmas.List.{append-nil}
use Rattle.rpm_tags.specs.Table as name
use Rattle.rpm_filecheck.specs.Conflicts as check
use Rattle.rpm_report.specs.Labels as report

-- ---- a label is what the format means

label_part : TagPart
label_part = record { tag = Nvra; role = Element; left = false; width = 0; show = Plain }

tree_is : label_tree ≡ Tagged label_part End
unfolding label_tree label_part format reading move_of condition tag_part number_of after_number formatter_table name.table name.tag_in
tree_is = refl

meant : (h : Header) (n : ℕ) → meaning h n (Tagged label_part End) ≡ Ok (padded_text false 0 (text_or_none Element Plain 0 (value h n Nvra)) ++ [])
unfolding label_part sizes bytes
meant h n = refl

unpadded : (text : List ℕ) → padded_text false 0 text ++ [] ≡ text
unpadded text =
    let none : 0 - length text ≡ 0 = omega arith in
    append-nil (padded_text false 0 text) ∙ ap (λ (k : ℕ). replicate k 32 ++ text) none

shown_as : (parts : Option (List (List ℕ))) → check.printed_text (as_text parts) ≡ text_or_none Element Plain 0 (as_text parts)
shown_as None = refl
shown_as (Some ps) = refl

pub header_label_is : (h : Header) (n : ℕ) → check.conflict_label h ≡ header_label n h
header_label_is h n =
    let text = text_or_none Element Plain 0 (value h n Nvra) in
    let same : out_bytes (printed_step (bearer 0 n) (meaning h n label_tree)) ≡ padded_text false 0 text ++ [] =
    ap (λ (t : Tree). out_bytes (printed_step (bearer 0 n) (meaning h n t))) tree_is
    ∙ ap (λ (r : Result (List ℕ) (ℕ × ℕ)). out_bytes (printed_step (bearer 0 n) r)) (meant h n) in
    shown_as (label (first_text h NAME) None (first_text h VERSION) (first_text h RELEASE) (first_text h ARCH)) ∙ sym (unpadded text) ∙ sym same

label_read_is : (n : ℕ) (r : Result Header HeaderFault) → unwrap_or (check.label_read r) [] ≡ header_or (header_label n) r []
label_read_is n (Ok h) = header_label_is h n
label_read_is n (Err fault) = refl

label_in_is : (n : ℕ) (p : Option Package) → unwrap_or (option_and_then check.label_of p) [] ≡ package_text (header_label n) p
label_in_is n None = refl
label_in_is n (Some (Good bytes)) = label_read_is n (header bytes)
label_in_is n (Some Bad) = refl

label_is : (packages : FinMap nat_cmp Package) (n : ℕ) → unwrap_or (check.label_at packages n) [] ≡ report.label_of_number packages n
label_is packages n = label_in_is n (get packages n)

-- ---- the steps of the report on files are those of the packages

labels_are : (packages : FinMap nat_cmp Package) (r : Report) → IsReport packages r → label_told r ≡ report.label_of_number packages
labels_are packages r is = λ i n. (ap (λ (text : Option (List ℕ)). unwrap_or text []) (is.labels_are n) ∙ label_is packages n) i

pub same_steps : (packages : FinMap nat_cmp Package) (r : Report) → IsReport packages r
    → told_steps r ≡ report_steps (report.label_of_number packages) (check.bad packages) (check.conflicts packages)
same_steps packages r is =
    ap (λ (labels : ℕ → List ℕ). report_steps labels r.bad r.conflicts) (labels_are packages r is)
    ∙ ap (λ (numbers : List ℕ). report_steps (report.label_of_number packages) numbers r.conflicts) is.bad_are
    ∙ ap (λ (found : List Conflict). report_steps (report.label_of_number packages) (check.bad packages) found) is.conflicts_are
