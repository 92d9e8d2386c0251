-- One return for each refusal of the lengths and the public values, and one for the rest; the table stops or goes on. Where the lengths pass, the local file has the draft's.
use Prim.Native.Nat.{ℕ}
use mathlib.Core.Path.{◌≡◌, refl, sym, ap, ◌∙◌}
use mathlib.Core.Bool.{true}
use mathlib.Core.List.{List, [], ◌∷◌}
use lib.ListN.{length}
use lib.Seq.{length-take-le}
use Rattle.refusals.specs.Rules.{is_accepted, rules_in, numbered}
use Rattle.refusals.proofs.RuleLaws.{never_accepted, passed_on, refused_by, passed_by, run_refused_by, run_passed_by}
use Rattle.statement.specs.CaseRefusals.{no4, no5}
use Rattle.desk.specs.Drafts.{with_old_notes, lengths1, notes_refusals, desk_refusals, desk_answer, buffer_after}
use Rattle.desk.proofs.WrittenLaws.{passed_lengths, is_kept}
use Rattle.desk.proofs.write.Goals as goal

values_numbered : (d : List ℕ) → numbered (rules_in (no4 d ∷ no5 d ∷ [])) ≡ true
unfolding rules_in numbered no4 no5
values_numbered d = refl

pub returns-in_err-lengths : goal.returns-in_err-lengths
unfolding desk_answer desk_refusals buffer_after
returns-in_err-lengths c =
    let s = refused_by _ _ _ _ c.in_err-lengths.ensures c.from_residual.ensures in
    record {
      value = s;
      buffer_after = is_kept _ _ _ (sym (ap is_accepted s) ∙ ap is_accepted (passed_on _ _ c.from_residual.ensures) ∙ never_accepted _);
    }

pub returns-in_err-public_values : goal.returns-in_err-public_values
unfolding buffer_after desk_answer desk_refusals numbered lengths1
returns-in_err-public_values c =
    let d = c.args.draft.now in
    let s = passed_by _ _ _ refl c.in_ok-lengths.ensures
    (run_refused_by (no4 d ∷ no5 d ∷ []) (notes_refusals d (with_old_notes d)) _ _ c.in_err-public_values.ensures c.from_residual-in_err-public_values.ensures) in
    record {
      value = s;
      buffer_after = is_kept _ _ _ (sym (ap is_accepted s) ∙ ap is_accepted (passed_on _ _ c.from_residual-in_err-public_values.ensures) ∙ never_accepted _);
    }

-- where the lengths pass, buffer and draft are as long as one another, and no longer than a case
pub slice_bounds-room-end : goal.slice_bounds-room-end
slice_bounds-room-end c = (passed_lengths c.args.draft.now (length c.args.buffer.now) (ap is_accepted (sym c.in_ok-lengths.ensures))).1

pub slice_bounds-write_checked-end : goal.slice_bounds-write_checked-end
slice_bounds-write_checked-end c = sym (length-take-le _ _ (passed_lengths c.args.draft.now (length c.args.buffer.now) (ap is_accepted (sym c.in_ok-lengths.ensures))).1)

pub write_checked-requires : goal.write_checked-requires
write_checked-requires c =
    let alike = passed_lengths c.args.draft.now (length c.args.buffer.now) (ap is_accepted (sym c.in_ok-lengths.ensures)) in
    (length-take-le _ _ alike.1, alike.0)

pub returns : goal.returns
unfolding buffer_after desk_answer desk_refusals numbered lengths1
returns c =
    let d = c.args.draft.now in
    let s = passed_by _ _ _ refl c.in_ok-lengths.ensures
    (run_passed_by (no4 d ∷ no5 d ∷ []) (notes_refusals d (with_old_notes d)) _ (values_numbered d) c.in_ok-public_values.ensures c.write_checked.ensures.value) in
    record {
      value = s;
      buffer_after = c.write_checked.ensures.buffer_after ∙ rw s refl;
    }
