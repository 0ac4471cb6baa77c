-- A search through the rows of the formatters.
use Rattle.std.proofs.Common.{◌≡◌, ℕ, ◌+◌, ◌≤◌, ◌<◌, List, length, get_or, drop, true, false, cond, Option, Some, None, refl, sym, ◌∙◌, nat_eq}
use Rattle.rpm_qfparse.proofs.Vocabulary.{bare_rows, pointwise, Row, Show, show_in}
use Rattle.std.proofs.lemmas.List.{at_drop_more, at_drop_all}

pub at_end : (rows : List Row) (name : List ℕ) (i : ℕ) → length rows ≤ i → show_in (bare_rows (drop i rows)) name ≡ None
unfolding show_in
at_end rows name i le = at_drop_all (λ rs. show_in (bare_rows rs) name) rows i le

pub found : (rows : List Row) (name : List ℕ) (i : ℕ) (d : Row) (r : Option Show) → i < length rows → true ≡ pointwise nat_eq name
    (get_or rows i d).1.now → show_in (bare_rows (drop i rows)) name ≡ r → Some (get_or rows i d).0 ≡ r
unfolding show_in
found rows name i d r lt same e =
    let step : show_in (bare_rows (drop i rows)) name ≡ cond (pointwise nat_eq name (get_or rows i d).1.now) (Some (get_or rows i d).0)
    (show_in (bare_rows (drop (i + 1) rows)) name) = at_drop_more (λ rs. show_in (bare_rows rs) name) rows i d lt in
    sym (step ∙ rw (← same) refl) ∙ e

pub passed : (rows : List Row) (name : List ℕ) (i : ℕ) (d : Row) (r : Option Show) → i < length rows → false ≡ pointwise nat_eq name
    (get_or rows i d).1.now → show_in (bare_rows (drop i rows)) name ≡ r → show_in (bare_rows (drop (i + 1) rows)) name ≡ r
unfolding show_in
passed rows name i d r lt other e =
    let step : show_in (bare_rows (drop i rows)) name ≡ cond (pointwise nat_eq name (get_or rows i d).1.now) (Some (get_or rows i d).0)
    (show_in (bare_rows (drop (i + 1) rows)) name) = at_drop_more (λ rs. show_in (bare_rows rs) name) rows i d lt in
    sym (step ∙ rw (← other) refl) ∙ e
