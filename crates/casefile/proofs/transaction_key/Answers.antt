use mathlib.Core.Path.{refl, ◌∙◌}
use Rattle.casefile.specs.Layout.{description, old_note_lengths, new_note_lengths, lengths, total, offset, transaction_key}
use Rattle.casefile.specs.Fields.{transaction_key_of}
use Rattle.casefile.proofs.Places.{read_behind}
use Rattle.casefile.proofs.transaction_key.Goals as goal

pub returns : goal.returns
unfolding transaction_key_of description old_note_lengths new_note_lengths lengths total offset
returns c = c.part.ensures ∙ read_behind transaction_key 1506 32 c.args.case.now (refl, refl, refl) _ c.behind_proof.ensures
