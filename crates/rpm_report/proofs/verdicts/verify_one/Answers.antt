use Rattle.rpm_report.proofs.verdicts.verify_one.Goals as goal

pub returns-in-Ok-BadHeader-clause-went : goal.returns-in-Ok-BadHeader-clause-went
returns-in-Ok-BadHeader-clause-went g c = λ told et e.
    rw (c.in-Ok-BadHeader.ensures.told told, c.in-Ok-BadHeader.field-0-is) (c.put_unsound.ensures.part et e)

pub returns-in-Ok-BadChecksum-clause-went : goal.returns-in-Ok-BadChecksum-clause-went
returns-in-Ok-BadChecksum-clause-went g c = λ told et e.
    rw (c.in-Ok-BadChecksum.ensures.told told, c.in-Ok-BadChecksum.field-0-is) (c.put_unsound-in-Ok-BadChecksum.ensures.part et e)

pub returns-in-Ok-BadDigest-clause-went : goal.returns-in-Ok-BadDigest-clause-went
returns-in-Ok-BadDigest-clause-went g c = λ told et e.
    rw (c.in-Ok-BadDigest.ensures.told told, c.in-Ok-BadDigest.field-0-is) (c.put_unsound-in-Ok-BadDigest.ensures.part et e)
