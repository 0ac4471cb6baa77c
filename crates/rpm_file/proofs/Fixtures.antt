-- The definitions, computed on small bytes: what they say doesn't come from the code.
use Rattle.std.specs.Prelude.{◌≡◌, ℕ, List, [], ◌∷◌, ◌++◌, take, replicate, codes, Some, None, Ok, Err, map, refl}
use Rattle.rpm_header.specs.declared.form.Form.TheVariants as form
use Rattle.rpm_header.specs.declared.form.HeaderFault.TheVariants as of_header
use Rattle.rpm_file.proofs.Vocabulary.{are_ended, behind_lead, behind_padding, entry_bytes, data_from, dribble, dribbled_blob, dribbles, entries}
use Rattle.rpm_file.proofs.Vocabulary.{entry_fault, entry_of, fault_at, front_header, headed_part, header, header_of, index_bytes, index_from, Item, lead_magic}
use Rattle.rpm_file.proofs.Vocabulary.{list_head, magic, merged_header, number_at, Numbers, numbers, offset_of, package_header, size_in, Texts, texts}
use Rattle.rpm_file.specs.declared.fault.FileFault.TheVariants as of_file
use Rattle.rpm_file.specs.declared.fault.ListFault.TheVariants as of_list

-- ---- lists

-- a header of no entry
empty : List ℕ
empty = replicate 8 0

two : list_head (magic ++ empty ++ magic ++ empty) ≡ Ok (Some (record { blob = replicate 8 0; rest = magic ++ replicate 8 0 }))
unfolding empty front_header size_in number_at
two = refl

none : list_head [] ≡ Ok None
none = refl

cut_in_the_magic : list_head (take 7 magic) ≡ Err of_list.Short
unfolding front_header
cut_in_the_magic = refl

cut_in_the_lengths : list_head (magic ++ replicate 7 0) ≡ Err of_list.Short
unfolding front_header
cut_in_the_lengths = refl

cut_in_the_body : list_head (magic ++ 0 ∷ 0 ∷ 0 ∷ 1 ∷ 0 ∷ 0 ∷ 0 ∷ 0 ∷ replicate 15 0) ≡ Err of_list.Short
unfolding front_header size_in number_at
cut_in_the_body = refl

another_magic : list_head (replicate 16 0) ≡ Err of_list.BadMagic
unfolding front_header size_in number_at
another_magic = refl

-- the limits are looked at before the body is found to be cut
many : list_head (magic ++ 0 ∷ 1 ∷ 0 ∷ 0 ∷ 255 ∷ 0 ∷ 0 ∷ 0 ∷ []) ≡ Err of_list.TooManyEntries
unfolding front_header size_in number_at
many = refl

much : list_head (magic ++ 0 ∷ 0 ∷ 255 ∷ 255 ∷ 4 ∷ 0 ∷ 0 ∷ 1 ∷ []) ≡ Err of_list.TooMuchData
unfolding front_header size_in number_at
much = refl

-- ---- packages

lead : ℕ → List ℕ
lead type = lead_magic ++ replicate 74 0 ++ 0 ∷ type ∷ replicate 16 0

-- SIGSIZE 88 as it stands, and then 4 bytes of padding
signature : List ℕ
signature = magic ++ 0 ∷ 0 ∷ 0 ∷ 1 ∷ 0 ∷ 0 ∷ 0 ∷ 4 ∷ 0 ∷ 0 ∷ 3 ∷ 232 ∷ 0 ∷ 0 ∷ 0 ∷ 4 ∷ 0 ∷ 0 ∷ 0 ∷ 0 ∷ 0 ∷ 0 ∷ 0 ∷ 1 ∷ 0 ∷ 0 ∷ 0 ∷ 88 ∷ []

-- the name a
main : List ℕ
main = 0 ∷ 0 ∷ 0 ∷ 1 ∷ 0 ∷ 0 ∷ 0 ∷ 2 ∷ 0 ∷ 0 ∷ 3 ∷ 232 ∷ 0 ∷ 0 ∷ 0 ∷ 6 ∷ 0 ∷ 0 ∷ 0 ∷ 0 ∷ 0 ∷ 0 ∷ 0 ∷ 1 ∷ 97 ∷ 0 ∷ []

file : List ℕ
file = lead 5 ++ signature ++ replicate 4 7 ++ magic ++ main ++ 9 ∷ []

name : Item
name = record { tag = 1000; form = form.Text; count = 1; values = Texts (codes "a" ∷ []) }

size : ℕ → Item
size tag = record { tag = tag; form = form.Int32; count = 1; values = Numbers (88 ∷ []) }

-- the main header with SIGSIZE under 257, its number at the next multiple of 4
joined : List ℕ
joined =
    0 ∷ 0 ∷ 0 ∷ 2 ∷ 0 ∷ 0 ∷ 0 ∷ 8 ∷ 0 ∷ 0 ∷ 3 ∷ 232 ∷ 0 ∷ 0 ∷ 0 ∷ 6 ∷ 0 ∷ 0 ∷ 0 ∷ 0 ∷ 0 ∷ 0 ∷ 0 ∷ 1
    ∷ 0 ∷ 0 ∷ 1 ∷ 1 ∷ 0 ∷ 0 ∷ 0 ∷ 4 ∷ 0 ∷ 0 ∷ 0 ∷ 4 ∷ 0 ∷ 0 ∷ 0 ∷ 1
    ∷ 97 ∷ 0 ∷ 0 ∷ 0 ∷ 0 ∷ 0 ∷ 0 ∷ 88 ∷ []

whole : package_header file ≡ Ok (record { header = record { blob = joined; entries = name ∷ size 257 ∷ [] }; rest = 9 ∷ [] })
unfolding file lead signature main name size joined package_header behind_lead headed_part front_header size_in behind_padding merged_header
    dribble dribbled_blob data_from index_from index_bytes offset_of entry_bytes header header_of entries entry_of entry_fault fault_at number_at numbers
    texts are_ended
whole = refl

short_lead : package_header (replicate 95 0) ≡ Err of_file.Short
unfolding package_header behind_lead
short_lead = refl

another_type : package_header (lead 4) ≡ Err of_file.NotAPackage
unfolding lead package_header behind_lead number_at
another_type = refl

no_signature : package_header (lead 5) ≡ Err of_file.Short
unfolding lead package_header behind_lead headed_part front_header number_at
no_signature = refl

no_padding : package_header (lead 5 ++ signature ++ replicate 3 0) ≡ Err of_file.Short
unfolding lead signature package_header behind_lead headed_part front_header size_in behind_padding header header_of entries entry_of
    entry_fault fault_at number_at numbers texts are_ended
no_padding = refl

no_main : package_header (lead 5 ++ signature ++ replicate 4 0 ++ replicate 16 0) ≡ Err of_file.BadMagic
unfolding lead signature package_header behind_lead headed_part front_header size_in behind_padding header header_of entries entry_of
    entry_fault fault_at number_at numbers texts are_ended
no_main = refl

bad_signature : package_header (lead 5 ++ magic ++ 0 ∷ 0 ∷ 0 ∷ 1 ∷ 0 ∷ 0 ∷ 0 ∷ 0 ∷ 0 ∷ 0 ∷ 3 ∷ 232 ∷ 0 ∷ 0 ∷ 0 ∷ 10 ∷ replicate 8 0)
    ≡ Err (of_file.Signature (of_header.BadType 0))
unfolding lead package_header behind_lead headed_part front_header size_in header header_of entries entry_of entry_fault fault_at number_at numbers texts
    are_ended
bad_signature = refl

-- ---- what joins

tags : List Item → List ℕ
tags es = map (λ (e : Item). e.tag) es

null : ℕ → Item
null tag = record { tag = tag; form = form.Null; count = 0; values = Texts [] }

-- tags from 256 to 999 join and so do three others under another; the order stays, and both entries of a tag do
which : tags (dribbles [] (map size (255 ∷ 1007 ∷ 256 ∷ 999 ∷ 1000 ∷ 1004 ∷ 261 ∷ 1001 ∷ 62 ∷ []))) ≡ 1046 ∷ 256 ∷ 999 ∷ 257 ∷ 261 ∷ 261 ∷ []
unfolding tags size dribble
which = refl

-- none of type 0, and none of a tag that the main header has, by the tag that it gets
which_not : tags (dribbles (size 257 ∷ size 300 ∷ []) (null 270 ∷ size 1000 ∷ size 257 ∷ size 300 ∷ size 269 ∷ [])) ≡ 269 ∷ []
unfolding tags size null dribble
which_not = refl
