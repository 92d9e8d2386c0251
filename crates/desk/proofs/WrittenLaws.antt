-- Lengths: what passing refusal 1 says of them, and that what is written keeps the draft's.
-- Assumes nothing.
use Prim.Native.Nat.{ℕ, ◌≤◌}
use mathlib.Core.Path.{◌≡◌, refl, sym, ap, ◌∙◌}
use mathlib.Core.Logic.{⊎_elim}
use mathlib.Core.Bool.{Bool, true, false, cond, not, ◌&&◌}
use mathlib.Core.List.{List, [], append-nil}
use native.Mathlib.Omega.{arith}
use borrow.Author.Tests.{eqb-true, not-false}
use lib.Dec.{eqb}
use lib.ListN.{length}
use Rattle.octets.specs.Parts.{pasted}
use Rattle.octets.proofs.BoolLaws.{and_both}
use Rattle.octets.proofs.PartLaws.{pasted_over}
use Rattle.refusals.specs.Rules.{is_accepted, first}
use Rattle.refusals.proofs.RuleLaws.{one_passed}
use Rattle.casefile.specs.Fields.{has_length}
use Rattle.casefile.proofs.Editions.{two_lengths}
use Rattle.casefile.proofs.WritingLaws.{put_length}
use Rattle.statement.specs.CaseRefusals.{h_sig_of}
use Rattle.desk.specs.Drafts.{with_old, with_old_notes, with_rho, with_new, with_new_notes, written, one_length, lengths1}

-- a file's length decides whether it is whole
pub whole_as : (c d : List ℕ) → length c ≡ length d → has_length d ≡ true → has_length c ≡ true
unfolding has_length
whole_as c d e h = rw e h

-- bytes copied over as many others
pub copied : (t s : List ℕ) → length t ≡ length s → pasted 0 t s ≡ t
copied t s e = ap (pasted 0 t) (sym (append-nil s)) ∙ pasted_over [] s [] t 0 refl (sym e) ∙ append-nil t

pub old_length : (i : ℕ) (c : List ℕ) → length (with_old i c) ≡ length c
unfolding with_old
old_length i c = put_length _ _ _ ∙ put_length _ _ c

pub old_notes_length : (d : List ℕ) → length (with_old_notes d) ≡ length d
unfolding with_old_notes
old_notes_length d = old_length 2 (with_old 1 d) ∙ old_length 1 d

pub new_length : (i : ℕ) (h c : List ℕ) → length (with_new i h c) ≡ length c
unfolding with_new with_rho
new_length i h c = put_length _ _ _ ∙ put_length _ _ _ ∙ put_length _ _ c

pub written_length : (d : List ℕ) → length (written d) ≡ length d
unfolding written with_new_notes
written_length d =
    let c = with_old_notes d in
    let h = h_sig_of c in
    new_length 2 h (with_new 1 h c) ∙ new_length 1 h c ∙ old_notes_length d

-- where the lengths pass, they are one, and within the longer edition's
pub passed_lengths : (d : List ℕ) (n : ℕ) → is_accepted (first (lengths1 d n)) ≡ true → (n ≡ length d) × (length d ≤ 4210)
unfolding lengths1 one_length
passed_lengths d n h =
    let b = and_both (has_length d) (eqb n (length d)) (not-false (has_length d && eqb n (length d)) (one_passed (not (has_length d && eqb n (length d))) 1 0 (λ e. absurd (omega arith)) h)) in
    (eqb-true n (length d) b.1, ⊎_elim (λ e. omega arith) (λ e. omega arith) ((two_lengths d).0 b.0))

-- what is written where a test holds, and kept where it does not
pub is_kept : (t : Bool) (x y : List ℕ) → t ≡ false → y ≡ cond t x y
is_kept t x y h = rw h
