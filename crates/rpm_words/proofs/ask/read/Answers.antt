use Rattle.rpm_words.proofs.Fits.{read_numbers, read_fits}
use Rattle.rpm_words.proofs.Sound.{read_sound}
use Rattle.rpm_words.proofs.ask.read.Goals as goal

pub returns-in-Some-clause-sound : goal.returns-in-Some-clause-sound
returns-in-Some-clause-sound c = read_sound _ _ _ c.read_options.ensures.fault

pub returns-in-Some-clause-fits : goal.returns-in-Some-clause-fits
returns-in-Some-clause-fits c = read_fits _ _ _ c.read_options.ensures.fault

pub returns-in-Some-clause-numbers : goal.returns-in-Some-clause-numbers
returns-in-Some-clause-numbers c = read_numbers _ _ _ c.read_options.ensures.fault
