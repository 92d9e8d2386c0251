-- A copy over a part of the buffer pastes the source in; what does not fit changes nothing.
use mathlib.Core.Path.{refl, sym, ◌∙◌}
use Prim.Native.Nat.{◌+◌, ◌<◌}
use native.Mathlib.Omega.{arith}
use borrow.Author.Tests.{le-leb, lt-leb}
use lib.ListN.{length}
use Rattle.std.proofs.lemmas.Slice.{put_mid-paste}
use Rattle.octets.specs.Parts.{fits_in}
use Rattle.octets.proofs.PartLaws.{pasted_not, pasting_done}
use Rattle.octets.proofs.copy_in.Goals as goal
use Rattle.octets.proofs.copy_in.Goals.{then-dst-n-via-then-dst-n, then-dst-n-via-else-dst-n+then-dst-n-2}

pub returns-then-dst-n : goal.returns-then-dst-n
unfolding fits_in
returns-then-dst-n c =
    let a = c.args in
    let h : length a.dst.now < a.at + length a.src.now =
    elim c.then-dst-n.branch [ then-dst-n-via-then-dst-n w ↦ omega arith | then-dst-n-via-else-dst-n+then-dst-n-2 w ↦ omega arith ] in record {
      value = sym (lt-leb _ _ h);
      dst_after = sym (pasted_not a.at a.src.now a.dst.now h);
    }

pub returns : goal.returns
unfolding fits_in
returns c =
    let a = c.args in record {
      value = sym (le-leb _ _ (omega arith));
      dst_after = put_mid-paste a.at _ a.dst.now _ a.src.now (length a.src.now) c.copy_from_slice.ensures.after (omega arith) refl ∙ pasting_done a.dst.now a.at a.src.now _ refl (omega arith);
    }
