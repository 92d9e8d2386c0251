use mathlib.Core.Path.{refl, ◌∙◌}
use Rattle.casefile.specs.Layout.{description, old_note_lengths, new_note_lengths, lengths, total, offset, proof_length, part_of}
use Rattle.casefile.specs.Fields.{nullifier_of}
use Rattle.casefile.proofs.Places.{paired}
use Rattle.casefile.proofs.nullifier.Goals as goal

pub returns : goal.returns
unfolding nullifier_of description old_note_lengths new_note_lengths lengths total offset proof_length part_of
returns c =
    let a = c.args in
    c.part.ensures ∙ paired (λ i. nullifier_of i a.case.now) 48 32 32 a.case.now refl refl a.i _ c.nullifier_at.ensures
