-- Every answer of the desk's has room in one number of C, and so comes back from it; a refusal leaves the buffer.
-- Assumes nothing.
use Prim.Native.Nat.{ℕ}
use mathlib.Core.Path.{◌≡◌, refl}
use mathlib.Core.Bool.{true, false}
use mathlib.Core.List.{List}
use native.Mathlib.Omega.{arith}
use lib.ListN.{length}
use Rattle.refusals.specs.Rules.{is_accepted}
use Rattle.refusals.specs.Sentences.{places_of}
use Rattle.desk.specs.Drafts.{desk_answer, buffer_after}
use Rattle.desk.proofs.Answers.{tells_no_row}
use Rattle.demands.specs.Desk.{desk_sentences}
use Rattle.demands.proofs.Desk.{desk_answered}
use Rattle.host.proofs.Codes.{FitsCode, low, answered_low}

draft_low : (d : List ℕ) (n : ℕ) → low (places_of (desk_sentences d n)) ≡ true
unfolding low places_of desk_sentences
draft_low d n = refl

pub write_fits : (d : List ℕ) (n : ℕ) → FitsCode (desk_answer d n)
write_fits d n =
    let h = answered_low (desk_sentences d n) (desk_answer d n) (draft_low d n) (desk_answered d n) in
    record { number = h.0; place = h.1; row = omega (arith, tells_no_row d n) }

pub write_leaves : (d b : List ℕ) → is_accepted (desk_answer d (length b)) ≡ false → buffer_after d b ≡ b
unfolding buffer_after
write_leaves d b h = rw h
