use mathlib.Core.Path.{refl, ap, ◌∙◌}
use Rattle.octets.specs.Numbers.{little}
use Rattle.casefile.specs.Layout.{description, old_note_lengths, new_note_lengths, lengths, total, offset, of_old}
use Rattle.casefile.specs.Fields.{old_position_of}
use Rattle.casefile.proofs.Places.{behind_pair, read_behind}
use Rattle.casefile.proofs.old_position.Goals as goal

pub returns : goal.returns
unfolding old_position_of description old_note_lengths new_note_lengths lengths total offset
returns c =
    let a = c.args in
    c.of.ensures
    ∙ c.le32.ensures
    ∙ ap little (read_behind _ _ 4 a.case.now (behind_pair (λ j. of_old j 5) 1674 1068 4 (refl, refl, refl) (refl, refl, refl) a.i) _ c.old_at.ensures)
