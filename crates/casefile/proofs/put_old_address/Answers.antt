use mathlib.Core.Path.{refl}
use Rattle.casefile.specs.Layout.{description, old_note_lengths, new_note_lengths, lengths, total, offset, of_old}
use Rattle.casefile.proofs.Places.{behind_pair, put_behind}
use Rattle.casefile.proofs.put_old_address.Goals as goal

pub returns : goal.returns
unfolding description old_note_lengths new_note_lengths lengths total offset
returns c =
    let a = c.args in let both = put_behind _ _ 32 a.bytes.now a.case.now (behind_pair (λ j. of_old j 1) 1570 1068 32 (refl, refl, refl) (refl, refl, refl) a.i) _ c.old_at.ensures _ _ (c.copy_in.ensures.value, c.copy_in.ensures.dst_after) in
    record {
      value = both.0;
      case_after = both.1;
    }
