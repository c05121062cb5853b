use Rattle.door.proofs.Laws.State.{four_written}
use Rattle.door.specs.State.{state_bytes}
use Rattle.door.proofs.state.put.Goals as goal

pub returns : goal.returns
unfolding state_bytes
returns c = four_written c.args.state.now _ _ _ _ c.requires
