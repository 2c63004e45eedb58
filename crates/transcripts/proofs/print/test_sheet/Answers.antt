use Rattle.transcripts.proofs.Bounded.{reads_enough}
use Rattle.transcripts.proofs.Examples.{worked_talk}
use Rattle.transcripts.proofs.Talks.{every_talk_keeps_the_law}
use Rattle.transcripts.proofs.Words.{six_words}
use Rattle.transcripts.proofs.print.test_sheet.Goals as goal

pub returns : goal.returns
returns c = record { verdict = c.check.ensures; law = every_talk_keeps_the_law; reads = reads_enough; words = six_words; example = worked_talk }
