use mathlib.Core.Path.{refl, ◌∙◌}
use Rattle.casefile.specs.Layout.{description, old_note_lengths, new_note_lengths, lengths, total, offset, phi}
use Rattle.casefile.specs.Fields.{phi_of}
use Rattle.casefile.proofs.Places.{read_behind}
use Rattle.casefile.proofs.phi.Goals as goal

pub returns : goal.returns
unfolding phi_of description old_note_lengths new_note_lengths lengths total offset
returns c = c.part.ensures ∙ read_behind phi 3882 32 c.args.case.now (refl, refl, refl) _ c.behind_proof.ensures
