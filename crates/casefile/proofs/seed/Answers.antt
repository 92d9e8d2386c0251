use Rattle.casefile.specs.Layout.{description, old_note_lengths, new_note_lengths, lengths, total, offset, proof_length, part_of}
use Rattle.casefile.specs.Fields.{seed_of}
use Rattle.casefile.proofs.seed.Goals as goal

pub returns : goal.returns
unfolding seed_of description old_note_lengths new_note_lengths lengths total offset proof_length part_of
returns c = c.part.ensures
