use mathlib.Core.Path.{refl}
use Rattle.casefile.specs.Layout.{description, old_note_lengths, new_note_lengths, lengths, total, offset, proof_length, nullifier}
use Rattle.casefile.proofs.Places.{put_pair}
use Rattle.casefile.proofs.put_nullifier.Goals as goal

pub returns : goal.returns
unfolding description old_note_lengths new_note_lengths lengths total offset proof_length
returns c =
    let a = c.args in let both = put_pair nullifier 48 32 a.bytes.now a.case.now refl refl a.i _ c.nullifier_at.ensures _ _ (c.copy_in.ensures.value, c.copy_in.ensures.dst_after) in
    record {
      value = both.0;
      case_after = both.1;
    }
