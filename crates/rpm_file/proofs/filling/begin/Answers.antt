use Rattle.rpm_file.proofs.Filled.{front_written}
use Rattle.rpm_file.proofs.filling.begin.Goals as goal

pub returns-clause-front : goal.returns-clause-front
returns-clause-front c = front_written 8 _ c.args.front.now _ c.put_front.new.bytes _ c.requires c.put_front.ensures c.in_ok-make_room.ensures.long
