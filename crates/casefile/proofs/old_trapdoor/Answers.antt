use mathlib.Core.Path.{refl, ◌∙◌}
use Rattle.casefile.specs.Layout.{description, old_note_lengths, new_note_lengths, lengths, total, offset, of_old}
use Rattle.casefile.specs.Fields.{old_trapdoor_of}
use Rattle.casefile.proofs.Places.{behind_pair, read_behind}
use Rattle.casefile.proofs.old_trapdoor.Goals as goal

pub returns : goal.returns
unfolding old_trapdoor_of description old_note_lengths new_note_lengths lengths total offset
returns c =
    let a = c.args in
    c.part.ensures ∙ read_behind _ _ 32 a.case.now (behind_pair (λ j. of_old j 4) 1642 1068 32 (refl, refl, refl) (refl, refl, refl) a.i) _ c.old_at.ensures
