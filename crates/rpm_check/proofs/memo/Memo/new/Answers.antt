use Rattle.rpm_check.proofs.memo.Memo.new.Goals as goal

pub returns : goal.returns
returns c = λ all. record { answers = λ key. rw c.new.ensures.empty tt; sources = c.new-2.ensures all }
