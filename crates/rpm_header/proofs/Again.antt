-- Entries that are laid out are read again.
use Rattle.std.proofs.Common.{◌≡◌, ℕ, ◌+◌, ◌-◌, ◌*◌, ◌^◌, ◌<◌, ◌≤◌, List, ◌∷◌, ◌++◌, length, drop, sym, ap, ◌∙◌, append_assoc, length-append, arith}
use Rattle.std.specs.Prelude.{replicate}
use Rattle.rpm_header.proofs.Vocabulary.{AllByRecursion, entry_bytes, data_from, end_of_data, index_bytes, index_entry, index_from, entry_in_index, Item, offset_of}
use Rattle.rpm_header.proofs.Vocabulary.{ReadsBack, section_of}
use Rattle.std.proofs.lemmas.List.{drop_at, length-replicate}
use Rattle.rpm_header.proofs.LaidOut.{offset_behind, data_length}
use Rattle.rpm_header.proofs.IndexAgain.{Fits, index_front, kind_small}

-- ---- where entries stand

-- from place a of the index on these entries stand, and their data from at on
pub record Stands (il : ℕ) (blob : List ℕ) (a at : ℕ) (es : List Item) : Type 0 where
  pub each : AllByRecursion ReadsBack es
  pub index : (tail : List ℕ) × (drop (8 + 16 * a) blob ≡ index_from at es ++ tail)
  pub stored : (front : List ℕ) × (behind : List ℕ) × (length front ≡ at) × (section_of il blob ≡ front ++ (data_from at es ++ behind))
  pub small : at + length (data_from at es) < 2 ^ 32

-- the first of them
pub record StandsFirst (il : ℕ) (blob : List ℕ) (a at : ℕ) (e : Item) : Type 0 where
  pub back : ReadsBack e
  pub entry : index_entry il blob a ≡ entry_in_index (offset_of at e) e
  pub within : offset_of at e ≤ length (section_of il blob)
  pub elements : (rest : List ℕ) × (drop (offset_of at e) (section_of il blob) ≡ entry_bytes e ++ rest)

module _ (il : ℕ) (blob : List ℕ) (a at : ℕ) (e : Item) (es : List Item) (s : Stands il blob a at (e ∷ es)) where
  fits : Fits (entry_in_index (offset_of at e) e)
  fits = record {
    tag = s.each.0.tag;
    kind = kind_small e.form;
    offset = omega (arith, s.small, data_length at e es, offset_behind at e);
    count = omega (arith, s.small, s.each.0.few, data_length at e es);
  }

  in_front : (index_entry il blob a ≡ entry_in_index (offset_of at e) e) × (drop (8 + 16 * a + 16) blob ≡ index_from (end_of_data at e) es ++ s.index.0)
  unfolding index_from
  in_front =
      index_front blob (index_from (end_of_data at e) es ++ s.index.0) (8 + 16 * a) (entry_in_index (offset_of at e) e) fits (s.index.1
      ∙ append_assoc (index_bytes (entry_in_index (offset_of at e) e)) (index_from (end_of_data at e) es) s.index.0)

  zeros : List ℕ
  zeros = replicate (offset_of at e - at) 0

  before : List ℕ
  before = s.stored.0 ++ zeros

  before_length : length before ≡ offset_of at e
  unfolding before zeros
  before_length =
      omega (
        arith,
        length-append s.stored.0 (replicate (offset_of at e - at) 0),
        length-replicate {A = ℕ} (offset_of at e - at) 0,
        s.stored.2,
        offset_behind at e,
      )

  split : section_of il blob ≡ before ++ (entry_bytes e ++ (data_from (end_of_data at e) es ++ s.stored.1))
  unfolding data_from before zeros
  split = s.stored.3 ∙ simp append_assoc

  pub stands_first : StandsFirst il blob a at e
  stands_first = record {
    back = s.each.0;
    entry = in_front.0;
    within = omega (arith, ap length split, length-append before (entry_bytes e ++ (data_from (end_of_data at e) es ++ s.stored.1)), before_length);
    elements = (
      data_from (end_of_data at e) es ++ s.stored.1,
      ap (drop (offset_of at e)) split
          ∙ drop_at before (entry_bytes e ++ (data_from (end_of_data at e) es ++ s.stored.1)) (offset_of at e) before_length,
    );
  }

  pub stands_rest : Stands il blob (a + 1) (end_of_data at e) es
  stands_rest =
      let step : 8 + 16 * a + 16 ≡ 8 + 16 * (a + 1) = omega arith in
      record {
        each = s.each.1;
        index = (s.index.0, rw (← step) in_front.1);
        stored = (
          before ++ entry_bytes e,
          s.stored.1,
          length-append before (entry_bytes e) ∙ ap (λ n. n + length (entry_bytes e)) before_length,
          split
              ∙ sym (append_assoc before (entry_bytes e) (data_from (end_of_data at e) es ++ s.stored.1)),
        );
        small = omega (arith, s.small, data_length at e es, offset_behind at e);
      }
