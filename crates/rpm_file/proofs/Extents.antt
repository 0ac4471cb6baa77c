-- How many bytes were taken at most.
use Rattle.std.proofs.Common.{◌≡◌, ℕ, ◌-◌, List, Option, Result, Ok, length, ap, ◌∙◌, arith, length-append}
use Rattle.rpm_file.proofs.Vocabulary.{behind_lead, behind_padding, body_length, extent_after, extent_behind, headed_part, Header, header_extent, bytes_left}
use Rattle.rpm_file.proofs.Vocabulary.{ListFault, main_extent, package_extent, padding_of, signature_extent, size_in, Takes, TakesAtMost}
use Rattle.rpm_file.proofs.Listed.{size_longer}
use Rattle.rpm_file.specs.declared.fault.HeaderKind.TheVariants as part

-- ---- a header of a list

pub intro_alone : (old new : Option (List ℕ)) (bytes : List ℕ) → TakesAtMost 16 old new → TakesAtMost (header_extent bytes) old new
unfolding header_extent
intro_alone old new bytes few = omega (arith, few)

pub intro_then : (old mid new : Option (List ℕ)) (intro : List ℕ) → length intro ≡ 16 → Takes old mid intro → TakesAtMost (body_length (size_in intro)) mid new
    → TakesAtMost (header_extent (bytes_left old)) old new
unfolding header_extent
intro_then old mid new intro long t few =
    let same : size_in (bytes_left old) ≡ size_in intro = ap size_in t.front ∙ size_longer intro (bytes_left mid) long in
    omega (arith, few, ap body_length same, ap length t.front, length-append intro (bytes_left mid), long)

-- a header of this length
pub sized_extent : (old new : Option (List ℕ)) (r : Result ℕ ListFault) (size : ℕ) → Ok size ≡ r → TakesAtMost (size - 8) old new
    → TakesAtMost (body_length r) old new
sized_extent old new r size is few = omega (arith, few, ap body_length is)

-- ---- a package file

module _ (s : Header) (old mid : Option (List ℕ)) where
  pub padding_alone : TakesAtMost (padding_of s.blob) old mid → TakesAtMost (extent_behind s (bytes_left old)) old mid
  unfolding extent_behind
  padding_alone few = omega (arith, few)

  pub padding_then : (new : Option (List ℕ)) → TakesAtMost (padding_of s.blob) old mid → behind_padding s.blob (bytes_left old) ≡ Ok (bytes_left mid)
      → TakesAtMost (header_extent (bytes_left mid)) mid new → TakesAtMost (extent_behind s (bytes_left old)) old new
  unfolding extent_behind
  padding_then new first skipped second = omega (arith, first, second, ap main_extent skipped)

module _ (old mid : Option (List ℕ)) where
  pub lead_alone : TakesAtMost 96 old mid → TakesAtMost (package_extent (bytes_left old)) old mid
  unfolding package_extent
  lead_alone few = omega (arith, few)

  pub lead_then : (new : Option (List ℕ)) → TakesAtMost 96 old mid → behind_lead (bytes_left old) ≡ Ok (bytes_left mid)
      → TakesAtMost (header_extent (bytes_left mid)) mid new → TakesAtMost (package_extent (bytes_left old)) old new
  unfolding package_extent
  lead_then new first skipped second = omega (arith, first, second, ap signature_extent skipped)

  pub main_then : (last new : Option (List ℕ)) (s : Header) → TakesAtMost 96 old mid → behind_lead (bytes_left old) ≡ Ok (bytes_left mid)
      → TakesAtMost (header_extent (bytes_left mid)) mid last → headed_part part.Signature (bytes_left mid) ≡ Ok (record { header = s; rest = bytes_left last })
      → TakesAtMost (extent_behind s (bytes_left last)) last new → TakesAtMost (package_extent (bytes_left old)) old new
  unfolding package_extent
  main_then last new s first skipped second found third =
      omega (arith, first, second, third, ap signature_extent skipped, ap extent_after found)
