-- The limits of what is laid out, and its parts in the order in which they are written.
use Rattle.std.proofs.Common.{◌≡◌, ℕ, suc, ◌+◌, ◌-◌, ◌≤◌, List, [], ◌++◌, length, true, false, Bool, Ok, refl, ap, ◌∙◌, append_assoc, length-append, arith, inl, inr}
use Rattle.std.specs.Prelude.{if◌then◌else◌}
use Rattle.rpm_header.proofs.Vocabulary.{AllByRecursion, data_from, data_of, header, index_bytes, index_from, index_of, entry_in_index, Item, laid_out, Lengths}
use Rattle.rpm_header.proofs.Vocabulary.{lengths_of, ReadsBack, region_item, to_be_bytes, trailer, trailer_entry, w32, with_region}
use Rattle.std.proofs.lemmas.Bool.Decides.{leb_tells}
use Rattle.std.proofs.lemmas.List.{append-nil}
use Rattle.rpm_header.proofs.LaidSections.{length-index_bytes}
use Rattle.rpm_header.proofs.LaidHeader.{laid_again}

pub record IsWithin (n m : ℕ) (l : Lengths) : Type 0 where
  pub entries : l.entries ≡ n
  pub size : l.size ≡ m
  pub few : n ≤ 65535
  pub small : m ≤ 67108864

pub is_within : (n size : ℕ) (l : Lengths) → Ok l ≡ lengths_of n size → IsWithin n size l
is_within n size l e =
    elim (leb_tells 65536 n) [
      | inl many ↦ (let h = rw many.0 at e in absurd cc)
      | inr few ↦ elim (leb_tells 67108865 size) [
        | inl much ↦ (let h = rw (few.0, much.0) at e in absurd cc)
        | inr small ↦ (let h : Ok l ≡ Ok (record { entries = n; size = size }) = rw (few.0, small.0) at e in
            let same : l ≡ record { entries = n; size = size } = cc in
            record { entries = ap (λ (x : Lengths). x.entries) same; size = ap (λ (x : Lengths). x.size) same; few = omega arith; small = omega arith })
      ]
    ]

joined_plain : (begun index stored a b c d : List ℕ) → a ≡ begun ++ [] → b ≡ a ++ index → c ≡ b ++ stored → d ≡ c ++ [] → d ≡ begun ++ index ++ stored
joined_plain begun index stored a b c d ia ib ic id = rw (id, ic, ib, ia) (simp append-nil)

joined_region : (begun first index stored last a b c d : List ℕ) → a ≡ begun ++ first → b ≡ a ++ index → c ≡ b ++ stored → d ≡ c ++ last
    → d ≡ begun ++ (first ++ index) ++ (stored ++ last)
joined_region begun first index stored last a b c d ia ib ic id = rw (id, ic, ib, ia) (simp append_assoc)

pub laid_parts : (region : Bool) (es : List Item) (l : Lengths) (begun a b c d : List ℕ)
    → IsWithin (length (with_region region es)) (length (data_of region es)) l
    → begun ≡ to_be_bytes w32 l.entries ++ to_be_bytes w32 l.size
    → a ≡ begun ++ (if region then index_bytes (entry_in_index (l.size - 16) (region_item l.entries)) else [])
    → b ≡ a ++ index_from 0 es → c ≡ b ++ data_from 0 es → d ≡ c ++ (if region then trailer l.entries else []) → d ≡ laid_out region es
unfolding laid_out
laid_parts false es l begun a b c d w front ia ib ic id =
    let lengths : begun ≡ to_be_bytes w32 (length es) ++ to_be_bytes w32 (length (data_from 0 es)) = front ∙ rw (w.entries, w.size) refl in
    joined_plain begun (index_from 0 es) (data_from 0 es) a b c d ia ib ic id ∙ ap (λ (f : List ℕ). f ++ index_from 0 es ++ data_from 0 es) lengths
laid_parts true es l begun a b c d w front ia ib ic id =
    let lengths : begun ≡ to_be_bytes w32 (length (with_region true es)) ++ to_be_bytes w32 (length (data_of true es)) = front ∙ rw (w.entries, w.size) refl in
    let number : l.entries ≡ suc (length es) = omega (arith, w.entries) in
    let offset : l.size - 16 ≡ length (data_from 0 es) =
    omega (arith, w.size, length-append (data_from 0 es) (trailer (suc (length es))), length-index_bytes (trailer_entry (suc (length es)))) in
    let first : a ≡ begun ++ index_bytes (entry_in_index (length (data_from 0 es)) (region_item (suc (length es)))) =
    ia ∙ ap (λ (k : ℕ). begun ++ index_bytes (entry_in_index k (region_item (suc (length es))))) offset in
    let last : d ≡ c ++ trailer (suc (length es)) = id ∙ ap (λ (k : ℕ). c ++ trailer k) number in
    joined_region begun _ (index_from 0 es) (data_from 0 es) _ a b c d first ib ic last ∙ ap (λ (f : List ℕ). f ++ index_of true es ++ data_of true es) lengths

pub region_lengths : (es : List Item) → lengths_of (1 + length es) (0 + length (data_from 0 es) + 16)
    ≡ lengths_of (length (with_region true es)) (length (data_of true es))
region_lengths es =
    let number : 1 + length es ≡ length (with_region true es) = omega arith in
    let size : 0 + length (data_from 0 es) + 16 ≡ length (data_of true es) =
    omega (arith, length-append (data_from 0 es) (trailer (suc (length es))), length-index_bytes (trailer_entry (suc (length es)))) in
    ap (λ (n : ℕ). lengths_of n (0 + length (data_from 0 es) + 16)) number ∙ ap (lengths_of (length (with_region true es))) size

pub room_for_trailer : (region : Bool) (es : List Item) (l : Lengths) → IsWithin (length (with_region region es)) (length (data_of region es)) l
    → region ≡ true → 16 ≤ l.size
room_for_trailer false es l w is = absurd cc
room_for_trailer true es l w is =
    omega (arith, w.size, length-append (data_from 0 es) (trailer (suc (length es))), length-index_bytes (trailer_entry (suc (length es))))

-- what is written is the header, which is read again
pub written : (region : Bool) (es : List Item) (l : Lengths) (blob : List ℕ) → AllByRecursion ReadsBack es
    → IsWithin (length (with_region region es)) (length (data_of region es)) l → blob ≡ laid_out region es
    → header blob ≡ Ok (record { blob = blob; entries = with_region region es })
written region es l blob each w is = rw is (laid_again region es each w.few w.small)
