use mathlib.Core.Path.{refl, ◌∙◌}
use Rattle.casefile.specs.Layout.{description, old_note_lengths, new_note_lengths, lengths, total, offset, of_new}
use Rattle.casefile.specs.Fields.{new_trapdoor_of}
use Rattle.casefile.proofs.Places.{behind_pair, read_behind}
use Rattle.casefile.proofs.new_trapdoor.Goals as goal

pub returns : goal.returns
unfolding new_trapdoor_of description old_note_lengths new_note_lengths lengths total offset
returns c =
    let a = c.args in
    c.part.ensures ∙ read_behind _ _ 32 a.case.now (behind_pair (λ j. of_new j 3) 3746 104 32 (refl, refl, refl) (refl, refl, refl) a.i) _ c.new_at.ensures
