-- What rows cost whose chains are read.
use Rattle.std.proofs.Common.{◌≡◌, ℕ, ◌+◌, ◌%◌, ◌<◌, ◌≤◌, List, length, drop, Ok, IsOk, ap, arith}
use Rattle.std.proofs.lemmas.List.Sums.{sum_by-drop_more, sum_by-take-drop}
use Rattle.rpm_hindex.proofs.Vocabulary.{bucket_of, chain, chain_bytes, ChainCosts, chains_bytes, hash_of, Index, index_in, IsWellFormed, no_row, places_of}
use Rattle.rpm_hindex.proofs.Vocabulary.{Row, row_nth, unit_at, Units, units_at}
use Rattle.rpm_hindex.proofs.Wholes.{ok_places}

pub chain_are : (x : Index) (b : ℕ) → IsOk (chain x b) → chain x b ≡ Ok (places_of x b)
unfolding places_of
chain_are x b ok = ok_places (chain x b) ok

module _ (buckets : ℕ) (file : Units) (whole : IsWellFormed buckets file) (some : 0 < buckets) where
  -- one chain more was read
  pub chain_more : (rows : List Row) (i next old mid new : ℕ) → i < length rows → next ≡ i + 1
      → mid ≤ old + chains_bytes (index_in buckets file) (drop next rows)
      → ChainCosts (chain (index_in buckets file) (hash_of (row_nth rows i).kind (row_nth rows i).key % buckets)) (units_at (unit_at file)) (mid + 16) new
      → new ≤ old + chains_bytes (index_in buckets file) (drop i rows)
  chain_more rows i next old mid new lt is so_far costs =
      let x : Index = index_in buckets file in
      let row = row_nth rows i in
      let b = bucket_of buckets row in
      let here = costs (places_of x b) (chain_are x b (whole.chains b (omega arith))) in
      let sum = sum_by-drop_more (λ (r : Row). chain_bytes x (bucket_of buckets r)) rows i no_row lt in
      omega (arith, here, so_far, sum, ap (λ (n : ℕ). chains_bytes x (drop n rows)) is)

  pub chains_drop : (rows : List Row) (i : ℕ) → chains_bytes (index_in buckets file) (drop i rows) ≤ chains_bytes (index_in buckets file) rows
  chains_drop rows i = omega (arith, sum_by-take-drop (λ (r : Row). chain_bytes (index_in buckets file) (bucket_of buckets r)) rows i)
