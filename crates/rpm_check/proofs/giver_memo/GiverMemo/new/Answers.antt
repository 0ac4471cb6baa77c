use Rattle.rpm_check.proofs.giver_memo.GiverMemo.new.Goals as goal

pub returns : goal.returns
returns c = λ all. record { numbers = λ key. rw c.new.ensures.empty tt; sources = c.new-2.ensures all }
