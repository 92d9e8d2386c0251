use mathlib.Core.Path.{refl, ap, ◌∙◌}
use Rattle.octets.specs.Numbers.{little}
use Rattle.casefile.specs.Layout.{description, old_note_lengths, new_note_lengths, lengths, total, offset, of_new}
use Rattle.casefile.specs.Fields.{new_value_of}
use Rattle.casefile.proofs.Places.{behind_pair, read_behind}
use Rattle.casefile.proofs.new_value.Goals as goal

pub returns : goal.returns
unfolding new_value_of description old_note_lengths new_note_lengths lengths total offset
returns c =
    let a = c.args in
    c.of.ensures
    ∙ c.le64.ensures
    ∙ ap little (read_behind _ _ 8 a.case.now (behind_pair (λ j. of_new j 1) 3706 104 8 (refl, refl, refl) (refl, refl, refl) a.i) _ c.new_at.ensures)
