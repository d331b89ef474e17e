use Rattle.builder.proofs.Adding.{initial_intact, initial_sound}
use Rattle.builder.proofs.work.Work.new.Goals as goal

pub returns-clause-intact : goal.returns-clause-intact
returns-clause-intact c = initial_intact c.requires

pub returns-clause-sound : goal.returns-clause-sound
returns-clause-sound c = initial_sound
