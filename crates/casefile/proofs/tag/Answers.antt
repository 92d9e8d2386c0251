use mathlib.Core.Path.{refl, ◌∙◌}
use Rattle.casefile.specs.Layout.{description, old_note_lengths, new_note_lengths, lengths, total, offset, proof_length, part_of}
use Rattle.casefile.specs.Fields.{tag_of}
use Rattle.casefile.proofs.Places.{paired}
use Rattle.casefile.proofs.tag.Goals as goal

pub returns : goal.returns
unfolding tag_of description old_note_lengths new_note_lengths lengths total offset proof_length part_of
returns c =
    let a = c.args in
    c.part.ensures ∙ paired (λ i. tag_of i a.case.now) 240 32 32 a.case.now refl refl a.i _ c.tag_at.ensures
