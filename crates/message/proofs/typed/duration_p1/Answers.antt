use Rattle.message.proofs.typed.duration_p1.Goals as goal

pub returns-in-Seconds : goal.returns-in-Seconds
returns-in-Seconds c = cc

pub returns-in-Minutes : goal.returns-in-Minutes
returns-in-Minutes c = cc

pub returns-in-Hours : goal.returns-in-Hours
returns-in-Hours c = cc
