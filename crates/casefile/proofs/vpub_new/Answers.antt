use mathlib.Core.Path.{◌∙◌}
use Rattle.casefile.specs.Layout.{description, old_note_lengths, new_note_lengths, lengths, total, offset, proof_length, part_of}
use Rattle.casefile.specs.Fields.{vpub_new_of}
use Rattle.casefile.proofs.vpub_new.Goals as goal

pub returns : goal.returns
unfolding vpub_new_of description old_note_lengths new_note_lengths lengths total offset proof_length part_of
returns c = c.of.ensures ∙ c.le64.ensures
