-- The layout of entries, one entry on.
use Rattle.std.proofs.Common.{◌≡◌, ℕ, ◌+◌, ◌-◌, ◌≤◌, ◌<◌, List, ◌∷◌, ◌++◌, length, drop, get_or, refl, sym, ◌∙◌, append_assoc, length-append, arith}
use Rattle.std.specs.Prelude.{replicate}
use Rattle.rpm_header.proofs.Vocabulary.{alignment, entry_bytes, data_from, end_of_data, Form, index_bytes, index_from, entry_in_index, Item, kind_of, next_multiple_of}
use Rattle.rpm_header.proofs.Vocabulary.{offset_of}
use Rattle.std.proofs.lemmas.List.{append-nil, at_drop_more, at_drop_all, length-replicate}

pub offset_is : (at offset : ℕ) (f : Form) (e : Item) → offset ≡ next_multiple_of at (alignment f) → f ≡ e.form → offset ≡ offset_of at e
unfolding offset_of
offset_is at offset f e is form = rw (← form) is

pub indexed_is : (at : ℕ) (e : Item) (tag kind offset count : ℕ) (f : Form) → tag ≡ e.tag → kind ≡ kind_of f → f ≡ e.form → offset ≡ offset_of at e
    → count ≡ e.count
    → record { tag = tag; kind = kind; offset = offset; count = count } ≡ entry_in_index (offset_of at e) e
indexed_is at e tag kind offset count f t k form o n = rw (t, k, form, o, n) refl

pub offset_behind : (at : ℕ) (e : Item) → at ≤ offset_of at e
unfolding offset_of
offset_behind at e = omega arith

pub data_length : (at : ℕ) (e : Item) (es : List Item)
    → length (data_from at (e ∷ es)) ≡ (offset_of at e - at) + length (entry_bytes e) + length (data_from (end_of_data at e) es)
unfolding data_from
data_length at e es =
    length-append (replicate (offset_of at e - at) 0 ++ entry_bytes e) (data_from (end_of_data at e) es)
    ∙ rw (length-append (replicate (offset_of at e - at) 0) (entry_bytes e), length-replicate {A = ℕ} (offset_of at e - at) 0) refl

-- the end of all data is after the first entry's data
pub end_from : (at : ℕ) (e : Item) (es : List Item) → at + length (data_from at (e ∷ es)) ≡ end_of_data at e + length (data_from (end_of_data at e) es)
end_from at e es = omega (arith, data_length at e es, offset_behind at e)

-- ---- a loop over the entries

module _ (es : List Item) (i at : ℕ) (e : Item) (within : i < length es) (is : e ≡ get_or es i e) where
  read : get_or es i e ≡ e
  read = sym is

  pub end_more : (next : ℕ) → next ≡ end_of_data at e → at + length (data_from at (drop i es)) ≡ next + length (data_from next (drop (i + 1) es))
  end_more next end =
      at_drop_more (λ (l : List Item). at + length (data_from at l)) es i e within
      ∙ rw (read, end) (end_from at e (drop (i + 1) es))

  pub index_more : (next : ℕ) (out out' : List ℕ) → next ≡ end_of_data at e → out' ≡ out ++ index_bytes (entry_in_index (offset_of at e) e)
      → out' ++ index_from next (drop (i + 1) es) ≡ out ++ index_from at (drop i es)
  unfolding index_from
  index_more next out out' end more =
      rw (at_drop_more (index_from at) es i e within, read, end, more)
      (append_assoc out (index_bytes (entry_in_index (offset_of at e) e)) (index_from (end_of_data at e) (drop (i + 1) es)))

  pub data_more : (next : ℕ) (out padded out' : List ℕ) → next ≡ end_of_data at e → padded ≡ out ++ replicate (offset_of at e - at) 0
      → out' ≡ padded ++ entry_bytes e → out' ++ data_from next (drop (i + 1) es) ≡ out ++ data_from at (drop i es)
  unfolding data_from
  data_more next out padded out' end zeros more =
      rw (at_drop_more (data_from at) es i e within, read, end, more, zeros) (simp append_assoc)

pub end_all : (es : List Item) (i at : ℕ) → length es ≤ i → at + length (data_from at (drop i es)) ≡ at
unfolding data_from
end_all es i at past = at_drop_all (λ (l : List Item). at + length (data_from at l)) es i past ∙ (omega arith)

pub index_all : (es : List Item) (i at : ℕ) (out : List ℕ) → length es ≤ i → out ++ index_from at (drop i es) ≡ out
unfolding index_from
index_all es i at out past = at_drop_all (λ (l : List Item). out ++ index_from at l) es i past ∙ append-nil out

pub data_all : (es : List Item) (i at : ℕ) (out : List ℕ) → length es ≤ i → out ++ data_from at (drop i es) ≡ out
unfolding data_from
data_all es i at out past = at_drop_all (λ (l : List Item). out ++ data_from at l) es i past ∙ append-nil out
