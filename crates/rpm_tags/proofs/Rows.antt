-- A search through the rows of a table.
use Rattle.std.proofs.Common.{◌≡◌, ℕ, ◌+◌, ◌≤◌, ◌<◌, List, length, get_or, drop, true, false, cond, Option, Some, None, refl, sym, ◌∙◌}
use Rattle.rpm_tags.proofs.Vocabulary.{as_table, is_tag, name_in, Row, str_eq_ignore_ascii_case, Tag, tag_in}
use Rattle.std.proofs.lemmas.List.{at_drop_more, at_drop_all}

-- ---- by name

pub tag_at_end : (rows : List Row) (name : List ℕ) (i : ℕ) → length rows ≤ i → tag_in (as_table (drop i rows)) name ≡ None
unfolding tag_in
tag_at_end rows name i le = at_drop_all (λ rs. tag_in (as_table rs) name) rows i le

tag_step : (rows : List Row) (name : List ℕ) (i : ℕ) (d : Row) → i < length rows
    → tag_in (as_table (drop i rows)) name ≡ cond (str_eq_ignore_ascii_case name (get_or rows i d).1.now) (Some (get_or rows i d).0)
    (tag_in (as_table (drop (i + 1) rows)) name)
unfolding tag_in
tag_step rows name i d lt = at_drop_more (λ rs. tag_in (as_table rs) name) rows i d lt

pub tag_found : (rows : List Row) (name : List ℕ) (i : ℕ) (d : Row) (r : Option Tag) → i < length rows
    → true ≡ str_eq_ignore_ascii_case name (get_or rows i d).1.now → tag_in (as_table (drop i rows)) name ≡ r → Some (get_or rows i d).0 ≡ r
tag_found rows name i d r lt same e = sym (tag_step rows name i d lt ∙ rw (← same) refl) ∙ e

pub tag_passed : (rows : List Row) (name : List ℕ) (i : ℕ) (d : Row) (r : Option Tag) → i < length rows
    → false ≡ str_eq_ignore_ascii_case name (get_or rows i d).1.now → tag_in (as_table (drop i rows)) name ≡ r → tag_in (as_table (drop (i + 1) rows)) name ≡ r
tag_passed rows name i d r lt other e = sym (tag_step rows name i d lt ∙ rw (← other) refl) ∙ e

-- ---- by tag

pub name_at_end : (rows : List Row) (tag : Tag) (i : ℕ) → length rows ≤ i → name_in (as_table (drop i rows)) tag ≡ None
unfolding name_in
name_at_end rows tag i le = at_drop_all (λ rs. name_in (as_table rs) tag) rows i le

name_step : (rows : List Row) (tag : Tag) (i : ℕ) (d : Row) → i < length rows
    → name_in (as_table (drop i rows)) tag ≡ cond (is_tag (get_or rows i d).0 tag) (Some (get_or rows i d).1.now) (name_in (as_table (drop (i + 1) rows)) tag)
unfolding name_in
name_step rows tag i d lt = at_drop_more (λ rs. name_in (as_table rs) tag) rows i d lt

pub name_found : (rows : List Row) (tag : Tag) (i : ℕ) (d : Row) (r : Option (List ℕ)) → i < length rows → true ≡ is_tag (get_or rows i d).0 tag
    → name_in (as_table (drop i rows)) tag ≡ r → Some (get_or rows i d).1.now ≡ r
name_found rows tag i d r lt same e = sym (name_step rows tag i d lt ∙ rw (← same) refl) ∙ e

pub name_passed : (rows : List Row) (tag : Tag) (i : ℕ) (d : Row) (r : Option (List ℕ)) → i < length rows → false ≡ is_tag (get_or rows i d).0 tag
    → name_in (as_table (drop i rows)) tag ≡ r → name_in (as_table (drop (i + 1) rows)) tag ≡ r
name_passed rows tag i d r lt other e = sym (name_step rows tag i d lt ∙ rw (← other) refl) ∙ e
