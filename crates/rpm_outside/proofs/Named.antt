-- A call that was named fails, and one that wasn't passes.
use Rattle.std.proofs.Common.{◌≡◌, ◌+◌, ◌-◌, ◌^◌, min, true, false, refl, inl, arith}
use Rattle.rpm_outside.proofs.Vocabulary.{Call, DiskDid, FailsWhereNamed, is_named_call, mem_calls, mem_failing, mem_faults, mem_first, mem_starved, MemDisk}

module _ (old new : MemDisk) (call : Call) (counted : mem_calls new ≡ min (mem_calls old + 1) (2 ^ 64 - 1)) (failing : mem_failing new ≡ mem_failing
    old) (first : mem_first new ≡ mem_first old) (starved : mem_starved new ≡ mem_starved old) where
  pub named_fails : is_named_call new ≡ true → mem_faults new ≡ min (mem_faults old + 1) (2 ^ 64 - 1) → DiskDid true call old new
      → FailsWhereNamed old call true new
  named_fails named faults did = record {
    counted = counted;
    failing = failing;
    first = first;
    faults = faults;
    later = omega (arith, starved);
    by_one = omega (arith, starved);
    named = λ is. refl;
    half = λ is. inl did;
    whole = λ passes. cc;
    starved = λ more. absurd (omega (arith, more, starved));
    cause = λ fails other. cc;
  }

  pub other_passes : is_named_call new ≡ false → mem_faults new ≡ mem_faults old → DiskDid false call old new → FailsWhereNamed old call false new
  other_passes other faults did = record {
    counted = counted;
    failing = failing;
    first = first;
    faults = faults;
    later = omega (arith, starved);
    by_one = omega (arith, starved);
    named = λ is. cc;
    half = λ is. cc;
    whole = λ passes. did;
    starved = λ more. absurd (omega (arith, more, starved));
    cause = λ fails other. cc;
  }
